use Rattle.std.proofs.Common.{[], ◌∷◌, ◌++◌, codes}
use Rattle.std.proofs.lemmas.Result.{on_ok_weaker}
use Rattle.json.specs.Token.{Token}
use Rattle.edi_json.specs.Members.{member_tokens}
use Rattle.edi_json.proofs.LineLemmas.{two_more}
use Rattle.edi_json_answers.specs.Answers.{number_or_null}
use Rattle.edi_json_answers.proofs.parts.write_broken_at.Goals as goal

pub returns-clause-tokens : goal.returns-clause-tokens
returns-clause-tokens c =
    let old = c.args.writer.now.tokens in
    let line = member_tokens (codes "line") (number_or_null c.args.line) in
    let place = member_tokens (codes "record") (number_or_null c.args.place) in
    let last = Token.end_object ∷ [] in
    let two = two_more old _ _ _ _ c.in_ok-begin.ensures.tokens c.in_ok-put_bytes.ensures.tokens in
    let three = two_more old _ _ _ _ two c.in_ok-put_number.ensures.tokens in
    let rest = on_ok_weaker c.end_object.result (two_more _ _ _ place last c.in_ok-put_number_or_null-2.ensures.tokens) c.end_object.ensures.ok in
    let both = on_ok_weaker c.end_object.result (two_more _ _ _ line (place ++ last) c.in_ok-put_number_or_null.ensures.tokens) rest in
    on_ok_weaker c.end_object.result (two_more old _ _ _ (line ++ (place ++ last)) three) both
