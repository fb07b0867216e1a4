use Rattle.std.proofs.Common.{◌≡◌, drop}
use Rattle.std.specs.List.{list_any}
use Rattle.edi_rank.specs.Labelling.{turned_at}
use Rattle.edi_rank.proofs.link_key.ends_at_turned.Given as goal

abbrev pub invariant-loop-end : goal.invariant-loop-end
invariant-loop-end l = list_any (λ e. turned_at l.turned e.target) (drop l.end-index l.ends) ≡ list_any (λ e. turned_at l.turned e.target) l.ends
