use Rattle.std.proofs.Common.{◌∙◌, ap, ap₂, arith, cond, get_or, None}
use Rattle.std.proofs.lemmas.List.{get_or_default}
use Rattle.edi_schema.specs.Roles.{exchanged}
use Rattle.edi_topo.proofs.ArcEnds.{side_there}
use Rattle.edi_rank.specs.inner.ArcSides.{lesser_of}
use Rattle.edi_rank.proofs.SidesTaken.{one_taken}
use Rattle.edi_rank.proofs.face_layer.take_side.Goals as goal

pub index_mut-least-requires : goal.index_mut-least-requires
index_mut-least-requires c =
    let there = side_there c.args.plan.now c.keeps.ensures.joined c.keeps.ensures.whole c.args.arc c.in-Some.face c.args.role c.in-Some.ensures in
    omega (arith, there, c.requires.long)

pub returns-in-Some-clause-taken : goal.returns-in-Some-clause-taken
returns-in-Some-clause-taken c =
    let p = c.args.plan.now in
    let there = side_there p c.keeps.ensures.joined c.keeps.ensures.whole c.args.arc c.in-Some.face c.args.role c.in-Some.ensures in
    one_taken p (λ k. get_or c.args.numbers.now k 0) c.keeps.ensures.joined c.args.arc c.args.role c.args.sides.now.items c.in-Some.face c.lesser_side.result c.requires.long there c.in-Some.ensures
    (c.lesser_side.ensures ∙ ap₂ lesser_of
    (c.index_mut-least.ensures.value ∙ get_or_default c.args.sides.now.items c.in-Some.face c.index_mut-least.result.now None (omega (arith, there, c.requires.long)))
    (ap (λ side. record { arc = get_or c.args.numbers.now c.args.arc 0; side = side }) (c.side_after.ensures ∙ ap (λ turned. cond turned (exchanged c.args.role) c.args.role) c.is_turned_in.ensures)))
