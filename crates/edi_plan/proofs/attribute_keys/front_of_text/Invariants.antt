use Rattle.std.proofs.Common.{◌≡◌, ◌+◌, ◌-◌, ◌*◌, ◌<◌, ◌^◌, drop}
use Rattle.edi_plan.specs.inner.AttributeFronts.{front_from}
use Rattle.edi_plan.proofs.attribute_keys.front_of_text.Given as goal

abbrev pub invariant-loop-place : goal.invariant-loop-place
invariant-loop-place l =
    (front_from l.number (7 - l.place) (drop l.place l.text) ≡ front_from 1 7 l.text)
    × (l.number < 2 ^ (8 * l.place + 1))
