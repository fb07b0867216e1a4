use Rattle.std.proofs.Common.{◌≡◌, drop}
use Rattle.std.specs.List.{list_any}
use Rattle.edi_rank.specs.Labelling.{turned_at}
use Rattle.edi_matching.proofs.ranked.Ranked.is_any_backward.Given as goal

-- what is left decides
abbrev pub invariant-loop-end : goal.invariant-loop-end
invariant-loop-end l = list_any (λ e. turned_at l.self.labels.now.turned e.target) (drop l.end-index l.ends) ≡ list_any (λ e. turned_at l.self.labels.now.turned e.target) l.ends
