-- The subcommands of the program.
use Rattle.std.specs.Prelude.{◌≡◌, ◌⊎◌, List, Option, IfSome, codes}
use Rattle.clap.specs.Words.{Row, Text}

-- the subcommand, if there is one, is check, canon, compare, hash, explain, verify, diff, draw, delivery or changed
abbrev pub IsOwn : Option (Text × List Row) → Type 0
IsOwn met =
    IfSome met (λ p. (p.0 ≡ codes "check") ⊎ ((p.0 ≡ codes "canon")
    ⊎ ((p.0 ≡ codes "compare") ⊎ ((p.0 ≡ codes "hash") ⊎ ((p.0 ≡ codes "explain") ⊎ ((p.0 ≡ codes "verify")
    ⊎ ((p.0 ≡ codes "diff") ⊎ ((p.0 ≡ codes "draw") ⊎ ((p.0 ≡ codes "delivery") ⊎ (p.0 ≡ codes "changed"))))))))))
