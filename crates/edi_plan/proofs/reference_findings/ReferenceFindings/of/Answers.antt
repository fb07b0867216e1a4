use Rattle.std.proofs.Common.{sym, subst}
use Rattle.edi_plan.specs.inner.Findings.{AreLinkFindings, AreRepeats}
use Rattle.edi_plan.proofs.reference_findings.ReferenceFindings.of.Goals as goal

pub invariant_of-result : goal.invariant_of-result
invariant_of-result c =
    let s = c.args.schema.now in
    let list = c.args.records.now in (
      c.in_ok-subset_of.ensures,
      subst (AreRepeats s list) (sym c.from_vec.ensures) (c.in_ok-repeats.ensures s),
      subst (AreLinkFindings s list) (sym c.from_vec-2.ensures) c.in_ok-links.ensures,
    )
