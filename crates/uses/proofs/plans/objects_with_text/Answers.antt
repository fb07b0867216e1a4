use Rattle.std.proofs.Common.{◌≡◌, ◌∙◌, ◌==◌, ◌&&◌, ℕ, Bool, true, false, Vec, Global, ap, get_or, sym}
use Rattle.std.specs.List.{list_any}
use Rattle.edi_record.specs.declared.record.Kind.TheVariants.{Fea}
use Rattle.edi_plan.specs.Plans.{record_at}
use Rattle.uses.specs.Callers.{has_text}
use Rattle.edi_picture.proofs.Joined.{places_there}
use Rattle.uses.proofs.Kept.{one_kept, one_left}
use Rattle.uses.proofs.plans.objects_with_text.Goals.{then-eq+then-any_has_text+in_ok-push, else-eq, else-eq-via-then-eq+else-any_has_text, else-eq-via-else-eq}
use Rattle.uses.proofs.plans.objects_with_text.Goals as goal

pub scp-requires : goal.scp-requires
scp-requires c =
    places_there Fea c.args.plan.now c.places-place-items.result.now c.loop-place.place-index c.places-place-items.ensures c.loop-place-test.true

pub attributes-requires : goal.attributes-requires
attributes-requires c =
    places_there Fea c.args.plan.now c.places-place-items.result.now c.loop-place.place-index c.places-place-items.ensures c.loop-place-test.true

pub loop-place-preserved : goal.loop-place-preserved
loop-place-preserved c =
    let p = c.args.plan.now in
    let texts = list_any (has_text c.args.attribute c.args.text.now) in
    let test : ℕ → Bool = λ k. (record_at p k).class == c.args.class && texts (record_at p k).attributes in
    let places = c.places-place-items.result.now in
    let n = c.loop-place.place-index in
    let place : ℕ = get_or places n 0 in
    let class : ((record_at p place).class == c.args.class) ≡ c.eq.result = ap (λ (k : ℕ). k == c.args.class) (sym c.scp.ensures) ∙ sym c.eq.ensures in
    elim c.if-eq.branch [
      | then-eq+then-any_has_text+in_ok-push w ↦
          let passes : test place ≡ true =
          ap (λ b. b && texts (record_at p place).attributes) (class ∙ w.if-eq.true) ∙ (ap texts (sym w.attributes.ensures) ∙ (sym w.any_has_text.ensures ∙ w.if-any_has_text.true)) in
          ap (λ (v : Vec ℕ Global). v.items) w.found-is
          ∙ one_kept test places n c.loop-place.found.items w.push.new.self.items c.loop-place-test.true passes c.loop-place.invariant w.in_ok-push.ensures.items
      | else-eq w ↦
          let fails : test place ≡ false = elim w.else-eq.branch [
            | else-eq-via-then-eq+else-any_has_text w' ↦
                ap (λ b. b && texts (record_at p place).attributes) (class ∙ w'.if-eq.true) ∙ (ap texts (sym w'.attributes.ensures) ∙ (sym w'.any_has_text.ensures ∙ w'.if-any_has_text.false))
            | else-eq-via-else-eq w' ↦ ap (λ b. b && texts (record_at p place).attributes) (class ∙ w'.if-eq.false)
          ] in
          ap (λ (v : Vec ℕ Global). v.items) w.found-is
          ∙ one_left test places n c.loop-place.found.items c.loop-place-test.true fails c.loop-place.invariant
    ]
