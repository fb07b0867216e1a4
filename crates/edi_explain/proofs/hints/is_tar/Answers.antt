use Rattle.std.proofs.Common.{List, ℕ, codes, nat_eq, sym, ap, arith}
use Rattle.std.proofs.lemmas.List.{drop_all}
use Rattle.std.specs.List.{starts_with}
use Rattle.edi_explain.proofs.hints.is_tar.Goals as goal

pub returns-then-bytes-lt257 : goal.returns-then-bytes-lt257
returns-then-bytes-lt257 c =
    sym (ap (λ (xs : List ℕ). starts_with nat_eq xs (codes "ustar")) (drop_all 257 c.args.bytes.now (omega arith)))
