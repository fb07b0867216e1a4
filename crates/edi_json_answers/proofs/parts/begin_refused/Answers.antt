use Rattle.std.proofs.lemmas.Result.{on_ok_weaker}
use Rattle.edi_json.proofs.LineLemmas.{two_more}
use Rattle.edi_json_answers.proofs.parts.begin_refused.Goals as goal

pub returns-clause-tokens : goal.returns-clause-tokens
returns-clause-tokens c =
    let old = c.args.writer.now.tokens in
    on_ok_weaker c.put_text.result (two_more old _ _ _ _ c.in_ok-begin_answer.ensures.tokens) c.put_text.ensures.tokens
