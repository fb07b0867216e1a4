use Rattle.std.proofs.Common.{◌≡◌, ◌<◌, ℕ, List, arith, sym, subst, length, get_or}
use Rattle.edi_record.specs.declared.record.Kind.TheVariants.{Pfe}
use Rattle.edi_plan.specs.Places.{places_of}
use Rattle.edi_plan.specs.Plans.{PlanData}
use Rattle.edi_plan.proofs.PlaceLemmas.{place_there}
use Rattle.edi_rank.proofs.face_layer.sides_of_faces.Goals as goal

face_there : (p : PlanData) (places : List ℕ) (i : ℕ) → places ≡ places_of Pfe p → i < length places → get_or places i 0 < length p.list
face_there p places i e h = subst (λ ks. get_or ks i 0 < length p.list) (sym e) (place_there Pfe p i (subst (λ ks. i < length ks) e h))

pub bounds-sides-place : goal.bounds-sides-place
bounds-sides-place c = omega (arith, c.requires, face_there c.args.plan.now c.places-places.result.now c.loop-place.place-index c.loop-place.invariant.places c.loop-place-test.true)
