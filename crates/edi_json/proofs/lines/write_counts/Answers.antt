use Rattle.std.proofs.Common.{◌∙◌, ◌++◌, ap, codes}
use Rattle.std.proofs.lemmas.Result.{on_ok_weaker}
use Rattle.edi_json.specs.Members.{member_tokens}
use Rattle.edi_json.specs.Values.{number_value}
use Rattle.edi_json.proofs.LineLemmas.{two_more}
use Rattle.edi_json.proofs.lines.write_counts.Goals as goal

pub returns-clause-tokens : goal.returns-clause-tokens
returns-clause-tokens c =
    let old = c.args.writer.now.tokens in
    let gone = c.in_ok-put_number.ensures.tokens ∙ ap (λ n. c.begin.new.writer.tokens ++ member_tokens (codes "only_in_a") (number_value n)) c.gone_count.ensures in
    let added = c.in_ok-put_number-2.ensures.tokens ∙ ap (λ n. c.put_number.new.writer.tokens ++ member_tokens (codes "only_in_b") (number_value n)) c.added_count.ensures in
    let changed = c.in_ok-put_number-3.ensures.tokens ∙ ap (λ n. c.put_number-2.new.writer.tokens ++ member_tokens (codes "changed") (number_value n)) c.changed_count.ensures in
    let two = two_more old _ _ _ _ c.in_ok-begin.ensures.tokens gone in
    let three = two_more old _ _ _ _ two added in
    let four = two_more old _ _ _ _ three changed in
    on_ok_weaker c.end_object.result (two_more old _ _ _ _ four) c.end_object.ensures.ok
