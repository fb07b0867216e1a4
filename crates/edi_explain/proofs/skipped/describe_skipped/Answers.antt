use Rattle.std.proofs.Common.{◌∙◌, ◌++◌, ap, codes}
use Rattle.edi_explain.specs.Skipped.{left_out_line}
use Rattle.edi_explain.proofs.skipped.describe_skipped.Goals as goal

pub returns : goal.returns
returns c =
    let found = c.count_left_out-left_out in (
      found.result.quality,
      found.result.remarks,
      found.ensures.quality,
      found.ensures.remarks,
      c.in_ok-push_left_out-2.ensures
          ∙ ap (λ l. l ++ left_out_line (codes "remarks") found.result.remarks)
          (c.in_ok-push_left_out.ensures ∙ ap (λ l. l ++ left_out_line (codes "quality zones") found.result.quality) c.new-lines.ensures.items),
    )
