use Rattle.std.proofs.Common.{◌∙◌, sym, ap, length}
use Rattle.std.proofs.lemmas.Result.{IfOk-weaker}
use Rattle.edi_record.specs.declared.record.Kind.TheVariants.{Pno}
use Rattle.edi_topo.specs.Marks.{AreMarksOf, IsPlaceOfMark}
use Rattle.edi_topo.specs.inner.Nodes.{RepeatsAnEarlier}
use Rattle.edi_topo.proofs.FirstRepeat.{count_of, marks_repeat}
use Rattle.edi_topo.proofs.MarksPlaced.{places_within}
use Rattle.edi_topo.proofs.findings.repeated_nodes.Goals as goal

pub marks_by_place-requires-clause-long : goal.marks_by_place-requires-clause-long
marks_by_place-requires-clause-long c =
    ap length c.deref.ensures.value ∙ (c.in_ok-tied.ensures.all ∙ (ap count_of c.in_plan-nodes.ensures ∙ ap length (sym c.places.ensures)))

pub marks_by_place-requires-clause-within : goal.marks_by_place-requires-clause-within
marks_by_place-requires-clause-within c = places_within Pno c.args.plan.now c.places.result.now c.len.result c.places.ensures c.len.ensures

pub returns : goal.returns
returns c =
    let p = c.args.plan.now in
    IfOk-weaker c.marks_by_place.result (λ by_place. AreMarksOf c.len.result (IsPlaceOfMark c.places.result.now c.deref.result.now) by_place.items)
    (λ by_place. AreMarksOf (length p.list) (RepeatsAnEarlier p) by_place.items)
    (λ by_place placed. marks_repeat p c.keeps.ensures.whole c.in_plan-nodes.result c.in_plan-nodes.ensures c.in_ok-tied.tied.items c.deref.result.now by_place.items c.places.result.now c.len.result
    c.deref.ensures.value c.places.ensures c.len.ensures c.in_ok-tied.ensures placed) c.marks_by_place.ensures
