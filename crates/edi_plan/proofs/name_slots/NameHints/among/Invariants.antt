use Rattle.edi_plan.proofs.SlotLemmas.{PlacesStand}
use Rattle.edi_plan.proofs.name_slots.NameHints.among.Given as goal

abbrev pub invariant-loop-place : goal.invariant-loop-place
invariant-loop-place l = PlacesStand l.links_rise l.records l.hints.slots.items l.place
