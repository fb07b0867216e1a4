use Rattle.std.proofs.Common.{◌↔◌, Bool, IsTrue, subst}
use Rattle.edi_compare.specs.declared.uncarried.RecordPart.{RecordPart}
use Rattle.edi_compare.specs.declared.uncarried.RecordPart.TheVariants.{Attributes, Class, Extras, Points}
use Rattle.edi_compare.specs.inner.Checking.{AgreeAt}
use Rattle.edi_diff.specs.inner.Comparisons.{Comparison}
use Rattle.edi_diff.proofs.PartsReported.{differs_unless}
use Rattle.edi_diff.proofs.parting.PlanComparison.parts_between.Goals as goal

pub returns : goal.returns
returns c =
    let agree = λ (answer : Bool) (part : RecordPart). λ (m : Comparison). IsTrue answer ↔ AgreeAt m.carried c.args.place c.args.target part in
    record {
      class = differs_unless _ _ (subst (agree c.in_ok-class.class Class) c.self.view_is c.in_ok-class.ensures);
      attributes = differs_unless _ _ (subst (agree c.in_ok-attributes.attributes Attributes) c.self.view_is c.in_ok-attributes.ensures);
      extras = differs_unless _ _ (subst (agree c.in_ok-extras.extras Extras) c.self.view_is c.in_ok-extras.ensures);
      points = differs_unless _ _ (subst (agree c.in_ok-points.points Points) c.self.view_is c.in_ok-points.ensures);
      ends = differs_unless _ _ c.in_ok-ends.ensures;
    }
