-- What two good files state is a schema.
use Rattle.std.proofs.Common.{ℕ, List, length, ap, arith}
use Rattle.std.proofs.lemmas.List.Sorted.{length_permutation}
use Rattle.edi_line.proofs.Said.{file_said}
use Rattle.edi_record.proofs.FewGroups.{few_groups}
use Rattle.edi_schema.proofs.Good.{keeps}
use Rattle.edi_schema.specs.Classes.{Classes, IsSchema}
use Rattle.edi_schema.specs.Roles.{KindCodes}
use Rattle.edi_schema.specs.SchemaOf.{StatesClass}
use Rattle.edi_schema.specs.SchemaRefusal.{IsGoodSchema}
use Rattle.edi_plan.proofs.Built.{zip_length}

pub good_schema : (scd dic : List ℕ) (kinds : KindCodes) (s : Classes) → IsGoodSchema scd dic kinds s → IsSchema s
good_schema scd dic kinds s good =
    let read = good.records.0 in
    let groups = few_groups scd read.0 read.2 good.lines.0 in
    let same = ap length (file_said read.0 read.1 good.classes read.3).1 in
    let stated = zip_length (StatesClass kinds good.is.words) good.classes good.is.stated good.is.each_class in
    keeps scd dic kinds s good (omega (arith, groups, same, stated, length_permutation good.is.stated s good.is.same))
