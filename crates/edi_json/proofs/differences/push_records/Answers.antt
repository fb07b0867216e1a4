use Rattle.std.proofs.lemmas.Result.{on_ok_weaker}
use Rattle.edi_record.specs.declared.record.Kind.TheVariants.{Pno, Par, Pfe, Fea, Lnk}
use Rattle.edi_json.specs.Listed.{listed_of}
use Rattle.edi_json.proofs.LineLemmas.{more_listed}
use Rattle.edi_json.proofs.differences.push_records.Goals as goal

pub returns : goal.returns
returns c =
    let r = c.args.report.now in
    let old = c.args.text.now.items in
    let two = more_listed r old _ _ (listed_of r Fea) (listed_of r Pfe) c.in_ok-push_type.ensures c.in_ok-push_type-2.ensures in
    let three = more_listed r old _ _ _ (listed_of r Par) two c.in_ok-push_type-3.ensures in
    let four = more_listed r old _ _ _ (listed_of r Pno) three c.in_ok-push_type-4.ensures in
    on_ok_weaker c.push_type-5.result (more_listed r old _ _ _ (listed_of r Lnk) four) c.push_type-5.ensures
