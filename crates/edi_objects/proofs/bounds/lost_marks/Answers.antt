use Rattle.std.proofs.Common.{◌≡◌, ◌∙◌, ℕ, ap, length, map, rules}
use Rattle.std.specs.List.{range_with_len}
use Rattle.std.proofs.lemmas.Result.{IfOk-weaker}
use Rattle.edi_report.specs.Reports.{Report}
use Rattle.edi_objects.specs.Bounds.{is_lost}
use Rattle.edi_objects.specs.inner.Sheets.{AreTested}
use Rattle.edi_objects.proofs.Bounded.{tested_lost}
use Rattle.edi_objects.proofs.bounds.lost_marks.Goals as goal

pub returns : goal.returns
returns c =
    let r = c.args.report.now in
    let n = length r.first.accepted.list in
    let all : c.record_count.result ≡ n = c.record_count.ensures ∙ ap (λ (x : Report). length x.first.accepted.list) c.report.view_is in
    IfOk-weaker c.values_of_places.result (λ marks. marks.items ≡ map (is_lost r) (range_with_len 0 c.record_count.result)) (λ marks. AreTested (is_lost r) n marks.items)
    (λ marks is. tested_lost r marks.items (is ∙ ap (λ (k : ℕ). map (is_lost r) (range_with_len 0 k)) all))
    (c.values_of_places.ensures (is_lost r) (λ k less x p. search rules))
