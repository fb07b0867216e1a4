-- Why a stream has no zones.
use Rattle.std.specs.Prelude.{ℕ, ◌^◌, ◌-◌, ◌≤◌, Bool, List, length, Option, IsTrue, IfSome}
use Rattle.edi_line.specs.LineRules.{BreaksLineRule}
use Rattle.edi_line.specs.Refusal.{IsLineRefusal}
use Rattle.uses.specs.declared.feeding.StreamFault.{StreamFault}
use Rattle.uses.specs.declared.feeding.StreamFault.TheVariants.{Line, Failed, TooLong}

-- Of a stream with these contents: its first broken rule of lines, however few of the bytes were read; or that it has
-- failed; or that it has at least as many bytes as there were reads.
abbrev pub IsStreamFault : Option (List ℕ) → Bool → StreamFault → Type 0
IsStreamFault contents failed (Line fault) = IfSome contents (λ bytes. IsLineRefusal (BreaksLineRule bytes) fault)
IsStreamFault contents failed Failed = IsTrue failed
IsStreamFault contents failed TooLong = IfSome contents (λ bytes. 2 ^ 32 - 1 ≤ length bytes)
