use Rattle.std.proofs.Common.{◌∙◌, ap, sym, reverse}
use Rattle.std.specs.Ordering.{is_eq}
use Rattle.std.proofs.lemmas.Cmp.{tied_itself}
use Rattle.edi_record.specs.Orders.{point_cmp, points_cmp}
use Rattle.edi_plan.proofs.Orders.{exact_lists, point_exact, points_total}
use Rattle.edi_topo.proofs.ArcEnds.{eq_tied}
use Rattle.edi_topo.proofs.directions.equals_reverse.Goals as goal

pub returns : goal.returns
returns c =
    let points = c.args.points.now in (
      λ t. exact_lists point_cmp point_exact points (reverse points) (sym c.direction.ensures ∙ eq_tied c.direction.result c.is_eq.result c.is_eq.ensures t),
      λ e. c.is_eq.ensures ∙ ap is_eq (c.direction.ensures ∙ (ap (points_cmp points) (sym e) ∙ tied_itself points_total points)),
    )
