use Rattle.std.proofs.Common.{◌≡◌, ◌∙◌, ap, ap₂, sym, length, get_or, arith, true≢false}
use Rattle.std.specs.Ordering.{is_ne}
use Rattle.edi_record.specs.Orders.{point_cmp}
use Rattle.edi_schema.specs.declared.role.Role.TheVariants.{Initial}
use Rattle.edi_topo.specs.NodeKeys.{no_point}
use Rattle.edi_topo.proofs.ArcEnds.{ne_differs, differs_ne, kind_beside, side_there, node_point, first_at, starts, no_start, no_start_without}
use Rattle.edi_topo.proofs.ends.starts_elsewhere.Goals as goal

pub points-requires : goal.points-requires
points-requires c = side_there c.args.plan.now c.requires.joined c.keeps.ensures.whole c.args.arc c.in-Some.node Initial c.in-Some.ensures

pub first_point-requires : goal.first_point-requires
first_point-requires c =
    let p = c.args.plan.now in
    let s = c.in-Some.ensures in
    let one = node_point p c.requires.joined c.keeps.ensures.whole c.in-Some.node (side_there p c.requires.joined c.keeps.ensures.whole c.args.arc c.in-Some.node Initial s) (kind_beside p c.requires.joined c.args.arc c.in-Some.node Initial s) in
    omega (arith, one, ap length c.points.ensures)

pub returns-in-Some : goal.returns-in-Some
returns-in-Some c =
    let p = c.args.plan.now in
    let s = c.in-Some.ensures in
    let o = point_cmp (first_at p c.requires.joined c.keeps.ensures.whole c.in-Some.node) (first_at p c.requires.joined c.keeps.ensures.whole c.args.arc) in
    let is : c.differ.result ≡ is_ne o = c.differ.ensures ∙ ap₂ (λ x y. is_ne (point_cmp x y)) (c.first_point.ensures ∙ ap (λ xs. get_or xs 0 no_point) c.points.ensures)
    (c.first_point-in-Some.ensures ∙ ap (λ xs. get_or xs 0 no_point) c.points-in-Some.ensures) in (
      λ t. starts p c.requires.joined c.keeps.ensures.whole c.args.arc c.in-Some.node s (ne_differs o c.differ.result is t),
      λ h. differs_ne o c.differ.result is (no_start p c.requires.joined c.keeps.ensures.whole c.args.arc c.in-Some.node s h),
    )

pub returns-in-None : goal.returns-in-None
returns-in-None c = (λ t. absurd (true≢false (sym t)), λ h. absurd (no_start_without c.args.plan.now c.requires.joined c.args.arc c.in-None.ensures h))
