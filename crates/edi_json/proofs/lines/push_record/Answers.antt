use Rattle.std.proofs.Common.{◌∙◌, ◌++◌, List, ap, option_copied}
use Rattle.std.proofs.lemmas.Result.{on_ok_weaker}
use Rattle.json.specs.Token.{Token}
use Rattle.json.specs.Tree.{json_tokens}
use Rattle.edi_json.specs.inner.Lines.{value_of_line}
use Rattle.edi_json.proofs.LineLemmas.{one_line}
use Rattle.edi_json.proofs.Values.{record_plain, record_shallow}
use Rattle.edi_json.proofs.lines.push_record.Goals as goal

pub returns : goal.returns
returns c =
    let l = c.args.line.now in
    let value = value_of_line l in
    on_ok_weaker c.end_line.result
    (one_line value (record_shallow l.mark.now l.kind (option_copied l.a) (option_copied l.b) l.parts) (record_plain l.mark.now l.kind (option_copied l.a) (option_copied l.b) l.parts)
    c.args.text.now.items c.write_record.new.writer.before c.end_line.new.text.items c.write_record.new.writer.tokens
    (c.in_ok-write_record.ensures.before ∙ c.begin_line-writer.ensures.before)
    (c.in_ok-write_record.ensures.tokens ∙ ap (λ (ts : List Token). ts ++ json_tokens value) c.begin_line-writer.ensures.tokens)
    c.end_line.ensures.read)
    c.end_line.ensures.text
