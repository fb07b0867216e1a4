use Rattle.std.proofs.Common.{◌∙◌, ◌++◌, List, ap}
use Rattle.std.proofs.lemmas.Result.{on_ok_weaker}
use Rattle.json.specs.Token.{Token}
use Rattle.json.specs.Tree.{json_tokens}
use Rattle.edi_report.specs.Lines.{added_count, changed_count, gone_count}
use Rattle.edi_json.specs.Values.{counts_value}
use Rattle.edi_json.proofs.LineLemmas.{one_line}
use Rattle.edi_json.proofs.Values.{counts_plain, counts_shallow}
use Rattle.edi_json.proofs.lines.push_counts.Goals as goal

pub returns : goal.returns
returns c =
    let r = c.args.report.now in
    let value = counts_value (gone_count r) (added_count r) (changed_count r) in
    on_ok_weaker c.end_line.result
    (one_line value (counts_shallow (gone_count r) (added_count r) (changed_count r)) (counts_plain (gone_count r) (added_count r) (changed_count r))
    c.args.text.now.items c.write_counts.new.writer.before c.end_line.new.text.items c.write_counts.new.writer.tokens
    (c.in_ok-write_counts.ensures.before ∙ c.begin_line-writer.ensures.before)
    (c.in_ok-write_counts.ensures.tokens ∙ ap (λ (ts : List Token). ts ++ json_tokens value) c.begin_line-writer.ensures.tokens)
    c.end_line.ensures.read)
    c.end_line.ensures.text
