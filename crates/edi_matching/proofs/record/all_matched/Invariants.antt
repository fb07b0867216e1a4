use Rattle.std.proofs.Common.{◌↔◌, drop}
use Rattle.std.specs.List.{AllByRecursion}
use Rattle.edi_matching.specs.Matchings.{IsMatched}
use Rattle.edi_matching.proofs.record.all_matched.Given as goal

-- all are matched exactly if those that are left are
abbrev pub invariant-loop-end : goal.invariant-loop-end
invariant-loop-end l = AllByRecursion (λ e. IsMatched l.to e.target) (drop l.end-index l.ends) ↔ AllByRecursion (λ e. IsMatched l.to e.target) l.ends
