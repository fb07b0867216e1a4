use Rattle.std.proofs.lemmas.Result.{on_ok_weaker}
use Rattle.edi_json.proofs.LineLemmas.{two_more}
use Rattle.edi_json_answers.proofs.broken_sheets.write_rule_count.Goals as goal

pub returns-clause-tokens : goal.returns-clause-tokens
returns-clause-tokens c =
    let old = c.args.writer.now.tokens in
    let two = two_more old _ _ _ _ c.in_ok-begin.ensures.tokens c.in_ok-put_number.ensures.tokens in
    let three = two_more old _ _ _ _ two c.in_ok-put_number-2.ensures.tokens in
    on_ok_weaker c.end_object.result (two_more old _ _ _ _ three) c.end_object.ensures.ok
