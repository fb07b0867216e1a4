use Rattle.std.proofs.Common.{◌≡◌, ◌∙◌, ◌++◌, List, ap, ℕ}
use Rattle.hex.specs.Hex.{encode_lower}
use Rattle.json.specs.Token.{Token}
use Rattle.json.specs.Tree.{json_tokens}
use Rattle.edi_json_answers.specs.Digests.{digest_value}
use Rattle.edi_json_answers.proofs.Values.{digest_fit}
use Rattle.edi_json_answers.proofs.OneLine.{alone}
use Rattle.edi_json_answers.proofs.digests.json_of_digest.Goals as goal

pub returns : goal.returns
returns c =
    let of = c.args.of.now in
    let name = c.args.name.now in
    let digits : c.as_str.result.now ≡ encode_lower c.args.digest.now = c.as_str.ensures.value ∙ c.in_ok-digits.ensures in
    let value = digest_value of name (encode_lower c.args.digest.now) in
    let fit = digest_fit of name (encode_lower c.args.digest.now) in
    let made = alone value fit c.write_digest.new.writer.before c.end_line.new.text.items c.write_digest.new.writer.tokens
    (c.in_ok-write_digest.ensures.before ∙ (c.begin_line-writer.ensures.before ∙ c.new-text.ensures.items))
    (c.in_ok-write_digest.ensures.tokens ∙ (ap (λ (ds : List ℕ). c.begin_line-writer.result.tokens ++ json_tokens (digest_value of name ds)) digits
    ∙ ap (λ (ts : List Token). ts ++ json_tokens value) c.begin_line-writer.ensures.tokens))
    c.in_ok-end_line.ensures.read c.in_ok-end_line.ensures.text in
    record { text = made.text; read = made.read }
