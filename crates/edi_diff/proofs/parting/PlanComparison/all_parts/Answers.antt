use Rattle.std.proofs.Common.{◌≡◌, ◌+◌, [], ◌∷◌, ◌++◌, List, ap, arith, length, length-append, subst, sym}
use Rattle.edi_matching.proofs.Totals.{goes_within}
use Rattle.edi_report.specs.declared.parts.DifferingParts.{DifferingParts}
use Rattle.edi_diff.specs.declared.parting.PlanComparison.TheInside.{Inside}
use Rattle.edi_diff.proofs.PartsReported.{ArePartsUpTo, parts_more}
use Rattle.edi_diff.proofs.parting.PlanComparison.all_parts.Goals as goal

pub loop-place-preserved : goal.loop-place-preserved
loop-place-preserved c =
    let m = c.args.self.now in
    let old = c.loop-place.parts.items in
    let x = c.in_ok-parts_at.field-0 in
    let more : c.push.new.self.items ≡ old ++ x ∷ [] = c.in_ok-push.ensures.items in (
      omega (arith, ap length more, length-append old (x ∷ []), c.loop-place.invariant.0),
      subst (λ (ps : List DifferingParts). ArePartsUpTo m ps (c.loop-place.place + 1)) (sym more)
          (parts_more m old x c.loop-place.place c.loop-place.invariant.0 c.loop-place.invariant.1 c.in_ok-parts_at.ensures),
    )

pub returns : goal.returns
returns c = λ i j free goes.
    let within = goes_within c.args.self.now.to i j goes in
    let entered = c.self.invariant.all_entered in
    c.loop-place.invariant.1 i j (omega (arith, within, ap length (ap (λ m. m.to) c.self.view_is), entered, ap (λ (x : Inside). length x.carrier.plan.list) c.self-inside.view_is, c.len-place-end.ensures, c.loop-place-test.false)) free goes
