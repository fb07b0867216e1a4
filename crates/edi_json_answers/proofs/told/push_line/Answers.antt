use Rattle.std.proofs.Common.{◌∙◌, ◌++◌, List, ap}
use Rattle.std.proofs.lemmas.Result.{on_ok_weaker}
use Rattle.json.specs.Token.{Token}
use Rattle.json.specs.Tree.{json_tokens}
use Rattle.edi_json.proofs.LineLemmas.{one_line}
use Rattle.edi_json_answers.specs.Told.{words_value}
use Rattle.edi_json_answers.proofs.Pieces.{words_fit}
use Rattle.edi_json_answers.proofs.told.push_line.Goals as goal

pub returns : goal.returns
returns c =
    let value = words_value c.args.words.now in
    let fit = words_fit c.args.words.now in
    on_ok_weaker c.end_line.result
    (one_line value fit.shallow fit.plain c.args.told.now.items c.write_words.new.writer.before c.end_line.new.text.items c.write_words.new.writer.tokens
    (c.in_ok-write_words.ensures.before ∙ c.begin_line-writer.ensures.before)
    (c.in_ok-write_words.ensures.tokens ∙ ap (λ (ts : List Token). ts ++ json_tokens value) c.begin_line-writer.ensures.tokens)
    c.end_line.ensures.read)
    c.end_line.ensures.text
