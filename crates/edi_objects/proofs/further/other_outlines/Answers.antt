use Rattle.std.proofs.Common.{◌≡◌, ap, arith, length, map, rules}
use Rattle.std.specs.List.{range_with_len}
use Rattle.std.proofs.lemmas.Result.{IfOk-weaker}
use Rattle.edi_report.specs.Reports.{Report}
use Rattle.edi_objects.specs.Objects.{has_other_outline}
use Rattle.edi_objects.specs.inner.Sheets.{AreOthers}
use Rattle.edi_objects.proofs.NamedBehind.{noted}
use Rattle.edi_objects.proofs.further.other_outlines.Goals as goal

pub returns : goal.returns
returns c =
    let r = c.args.report.now in
    let n = c.record_count.result in
    let long = ap (λ (x : Report). length x.first.accepted.list) c.report.view_is in
    IfOk-weaker c.values_of_places.result (λ others. others.items ≡ map (has_other_outline r) (range_with_len 0 n)) (λ others. AreOthers r others.items)
    (λ others is. λ i h. noted (has_other_outline r) n others.items is i (omega (arith, h, c.record_count.ensures, long)))
    (c.values_of_places.ensures (has_other_outline r) (λ k less x p. search rules))
