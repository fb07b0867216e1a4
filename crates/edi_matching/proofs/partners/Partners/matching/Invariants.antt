use Rattle.std.proofs.Common.{◌≡◌, ◌<◌, ℕ, None, length, get_or}
use Rattle.edi_rank.specs.Labelling.{turned_at}
use Rattle.edi_matching.specs.inner.Partners.{GoesToPartner}
use Rattle.edi_matching.proofs.partners.Partners.matching.Given as goal

-- the records so far go to their partners
abbrev pub invariant-loop-place : goal.invariant-loop-place
invariant-loop-place l = record {
  to_long : length l.to.items ≡ l.place;
  turned_long : length l.turned.items ≡ l.place;
  each : (k : ℕ) → k < l.place → GoesToPartner l.self k (get_or l.to.items k None) (turned_at l.turned.items k);
}
