use Rattle.std.proofs.Common.{◌∙◌, ap, sym, subst, map}
use Rattle.std.specs.List.{AllByRecursion}
use Rattle.edi_line.proofs.EachElement.{each_unmapped}
use Rattle.edi_plan.specs.Agreeing.{AttributeAgrees}
use Rattle.edi_write.proofs.Agreed.{sorted_agree}
use Rattle.edi_write.proofs.records.write_in_order.Goals as goal

pub write_attributes-requires : goal.write_attributes-requires
write_attributes-requires c =
    let s = c.args.schema.now in
    each_unmapped (λ a. a.now) (AttributeAgrees s) c.deref.result.now
    (subst (AllByRecursion (AttributeAgrees s))
    (sym (ap (map (λ a. a.now)) c.deref.ensures.value ∙ c.in_ok-sorted.ensures))
    (sorted_agree s c.args.attributes.now c.requires))
