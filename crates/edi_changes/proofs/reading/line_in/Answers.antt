use Rattle.std.proofs.Common.{◌≡◌, ◌++◌, ℕ, List, Option, IfSome, codes, length, sym, subst, ◌∙◌}
use Rattle.std.specs.List.{list_any}
use Rattle.std.proofs.lemmas.Option.{same_Some}
use Rattle.hex.specs.Hex.{encode_lower, IsBytes}
use Rattle.edi_answers.specs.Hashes.{escaped_name, is_escaped}
use Rattle.edi_changes.proofs.Lines.{behind_word, digits_long, digits_unmarked, no_word}
use Rattle.edi_changes.proofs.ReadLists.{content_is, line_made}
use Rattle.edi_changes.proofs.reading.line_in.Goals as goal

pub returns-in_default-clause-finds : goal.returns-in_default-clause-finds
returns-in_default-clause-finds c = λ line h e.
    let word = c.word_in-is_schema.ensures line.is_schema (behind_word line) (no_word line h) (content_is line c.args.content.now e) in
    let unmarked = c.without_mark.ensures (list_any is_escaped line.name) (encode_lower line.digest ++ (codes "  " ++ escaped_name line.name))
    (digits_unmarked line h (codes "  " ++ escaped_name line.name)) word.1 in
    absurd (c.in_default.ensures (encode_lower line.digest) (escaped_name line.name) (digits_long line h) unmarked)

pub returns-in_default-digest_in-clause-finds : goal.returns-in_default-digest_in-clause-finds
returns-in_default-digest_in-clause-finds c = λ line h e.
    let word = c.word_in-is_schema.ensures line.is_schema (behind_word line) (no_word line h) (content_is line c.args.content.now e) in
    let unmarked = c.without_mark.ensures (list_any is_escaped line.name) (encode_lower line.digest ++ (codes "  " ++ escaped_name line.name))
    (digits_unmarked line h (codes "  " ++ escaped_name line.name)) word.1 in
    let digits = c.in-Some.ensures (encode_lower line.digest) (escaped_name line.name) (digits_long line h) unmarked in
    absurd (c.in_default-digest_in.not-Some line.digest (c.digest_in.ensures.finds line.digest h.long h.digest digits.0))

pub returns-clause-finds : goal.returns-clause-finds
returns-clause-finds c = λ line h e.
    let word = c.word_in-is_schema.ensures line.is_schema (behind_word line) (no_word line h) (content_is line c.args.content.now e) in
    let unmarked = c.without_mark.ensures (list_any is_escaped line.name) (encode_lower line.digest ++ (codes "  " ++ escaped_name line.name))
    (digits_unmarked line h (codes "  " ++ escaped_name line.name)) word.1 in
    let digits = c.in-Some.ensures (encode_lower line.digest) (escaped_name line.name) (digits_long line h) unmarked in
    line_made line c.word_in-is_schema.result.0 c.in_ok-name.name c.in-Some-digest_in.digest word.0 (c.in_ok-name.ensures line.name digits.1)
    (same_Some _ _ (sym c.in-Some-digest_in.is ∙ c.digest_in.ensures.finds line.digest h.long h.digest digits.0))

pub returns-clause-is : goal.returns-clause-is
returns-clause-is c =
    let digest = subst (λ (found : Option (List ℕ)). IfSome found (λ d. (length d ≡ 32) × IsBytes d)) c.in-Some-digest_in.is c.digest_in.ensures.bytes in
    record { long = digest.0; digest = digest.1 }
