use Rattle.std.proofs.Common.{◌∙◌, ◌++◌, List, ap, option_copied}
use Rattle.std.proofs.lemmas.Result.{on_ok_weaker}
use Rattle.json.specs.Token.{Token}
use Rattle.json.specs.Tree.{json_tokens}
use Rattle.edi_json.specs.Values.{charsets_value}
use Rattle.edi_json.proofs.LineLemmas.{one_line}
use Rattle.edi_json.proofs.Values.{charsets_plain, charsets_shallow}
use Rattle.edi_json.proofs.lines.push_charsets.Goals as goal

pub returns : goal.returns
returns c =
    let value = charsets_value (option_copied c.args.a) (option_copied c.args.b) in
    on_ok_weaker c.end_line.result
    (one_line value (charsets_shallow (option_copied c.args.a) (option_copied c.args.b)) (charsets_plain (option_copied c.args.a) (option_copied c.args.b))
    c.args.text.now.items c.write_charsets.new.writer.before c.end_line.new.text.items c.write_charsets.new.writer.tokens
    (c.in_ok-write_charsets.ensures.before ∙ c.begin_line-writer.ensures.before)
    (c.in_ok-write_charsets.ensures.tokens ∙ ap (λ (ts : List Token). ts ++ json_tokens value) c.begin_line-writer.ensures.tokens)
    c.end_line.ensures.read)
    c.end_line.ensures.text
