use Rattle.std.proofs.Common.{◌∙◌, sym}
use Rattle.edi_explain.proofs.Feeds.{counted_cut, cut_told}
use Rattle.edi_explain.proofs.cuts.is_cut_at.Goals as goal

pub returns-then-has_lines : goal.returns-then-has_lines
returns-then-has_lines c =
    cut_told c.args.bytes.now c.args.at c.is_ended.result c.is_ended.ensures (sym c.has_lines.ensures ∙ c.if-has_lines.true)

pub returns-else-has_lines : goal.returns-else-has_lines
returns-else-has_lines c = (
  λ t. let f = c.if-has_lines.false in cc,
  λ h. c.has_lines.ensures ∙ counted_cut c.args.bytes.now c.args.at h,
)
