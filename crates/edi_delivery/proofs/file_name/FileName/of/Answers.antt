use Rattle.std.proofs.Common.{◌≡◌, ◌∙◌, ap, arith}
use Rattle.std.proofs.lemmas.Grind.{common_steps}
use Rattle.edi_delivery.specs.NameParts.{file_name, is_file_name}
use Rattle.edi_delivery.proofs.SafeNames.{made_of_parts}
use Rattle.edi_delivery.proofs.file_name.FileName.of.Goals as goal

pub invariant_of-result : goal.invariant_of-result
invariant_of-result c =
    let same : c.in_ok-from_slice.field-0 ≡ file_name c.args.lot.now c.args.extension c.args.own.now = grind (arith, common_steps) in
    ap is_file_name same ∙ made_of_parts c.args.lot.now c.args.own.now c.args.extension c.as_slice.ensures.part c.as_slice-2.ensures.part
