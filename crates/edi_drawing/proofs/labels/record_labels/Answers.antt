use Rattle.std.proofs.Common.{◌∙◌, ◌∷◌, [], ℕ, ap, map}
use Rattle.std.proofs.lemmas.List.{map-append}
use Rattle.std.specs.Global.{Vec}
use Rattle.edi_drawing.specs.Labels.{label_of}
use Rattle.edi_report.proofs.EachPlace.{one_value_more}
use Rattle.edi_drawing.proofs.labels.record_labels.Goals as goal

pub loop-place-preserved : goal.loop-place-preserved
loop-place-preserved c =
    one_value_more (label_of c.args.schema.now c.args.plan.now) c.loop-place.place (map (λ (l : Vec ℕ). l.items) c.loop-place.labels.items) (map (λ (l : Vec ℕ). l.items) c.push.new.self.items)
    c.in_ok-from_slice.field-0.items c.loop-place.invariant (c.in_ok-from_slice.ensures.items ∙ c.label_of.ensures)
    (ap (map (λ (l : Vec ℕ). l.items)) c.in_ok-push.ensures.items ∙ map-append (λ (l : Vec ℕ). l.items) c.loop-place.labels.items (c.in_ok-from_slice.field-0 ∷ []))
