use Rattle.std.proofs.Common.{◌∙◌, List, [], ◌∷◌, ◌++◌, ap, append_assoc, codes, option_copied}
use Rattle.std.proofs.lemmas.Result.{on_ok_weaker}
use Rattle.json.specs.Json.{array}
use Rattle.json.specs.Token.{Token}
use Rattle.json.specs.Tree.{json_tokens}
use Rattle.edi_json.specs.Members.{member_tokens}
use Rattle.edi_json.specs.Values.{part_names, site_or_null}
use Rattle.edi_json.specs.inner.Tokens.{record_tokens}
use Rattle.edi_json.proofs.LineLemmas.{two_more}
use Rattle.edi_json.proofs.lines.write_record.Goals as goal

pub returns-clause-tokens : goal.returns-clause-tokens
returns-clause-tokens c =
    let l = c.args.line.now in
    let old = c.args.writer.now.tokens in
    let first = json_tokens (site_or_null (option_copied l.a)) in
    let second = Token.key (codes "b") ∷ json_tokens (site_or_null (option_copied l.b)) in
    let behind = member_tokens (codes "parts") (array (part_names l.parts)) ++ Token.end_object ∷ [] in
    let two = two_more old _ _ _ _ c.in_ok-begin_record.ensures.tokens c.in_ok-put_site.ensures.tokens in
    let three = two_more old _ _ _ _ two c.in_ok-put_site-2.ensures.tokens in
    on_ok_weaker c.end_record.result
    (λ last. two_more old _ _ _ _ three last
    ∙ ap (λ (ts : List Token). old ++ (record_tokens l.mark.now l.kind ++ Token.key (codes "a") ∷ ts)) (append_assoc first second behind))
    c.end_record.ensures.tokens
