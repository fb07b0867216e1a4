use Rattle.std.proofs.Common.{◌≡◌, ℕ, ◌<◌, get_or, length}
use Rattle.edi_plan.specs.Plans.{record_at}
use Rattle.edi_matching.specs.contracts.entries.ContentKeyOrd.TheImpl.{ghosts as keys}
use Rattle.edi_matching.specs.contracts.entries.ContentKeyPartialEq.TheImpl.{ghosts as keys_eq}
use Rattle.edi_matching.specs.inner.Contents.{IsContentNumber}
use Rattle.edi_matching.proofs.contents.numbers_of.Given as goal

-- the numbers of the records so far
abbrev pub invariant-loop-place : goal.invariant-loop-place
invariant-loop-place l = (length l.numbers.items ≡ l.place) × ((k : ℕ) → k < l.place → IsContentNumber keys.cmp keys_eq.eq l.kind l.order (record_at l.plan k) (get_or l.numbers.items k 0))
