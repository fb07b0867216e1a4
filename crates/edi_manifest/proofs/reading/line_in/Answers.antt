use Rattle.std.proofs.Common.{◌≡◌, ℕ, List, Option, IfSome, length, sym, subst, ap, ◌∙◌}
use Rattle.std.proofs.lemmas.Bool.{both_ways}
use Rattle.std.proofs.lemmas.Option.{same_Some}
use Rattle.hex.specs.Hex.{encode_lower, IsBytes}
use Rattle.edi_delivery.specs.NameParts.{is_file_name}
use Rattle.edi_manifest.proofs.ReadBack.{has_space, parts_are, line_made, no_name, a_name, is_a_name}
use Rattle.edi_manifest.proofs.reading.line_in.Goals as goal

pub returns-in_default-clause-finds : goal.returns-in_default-clause-finds
returns-in_default-clause-finds c = λ line h e. absurd (has_space line h c.args.content.now e c.in_default.ensures.cut)

pub returns-in_default-word_in-clause-finds : goal.returns-in_default-word_in-clause-finds
returns-in_default-word_in-clause-finds c = λ line h e.
    let parts = parts_are line h c.args.content.now e c.in-Some.name.now c.in-Some.behind.now c.in-Some.ensures.cut.0 c.in-Some.ensures.cut.1 in
    absurd (c.in_default-word_in.ensures line.digested (encode_lower line.digest) parts.1)

pub returns-in_default-digest_in-clause-finds : goal.returns-in_default-digest_in-clause-finds
returns-in_default-digest_in-clause-finds c = λ line h e.
    let parts = parts_are line h c.args.content.now e c.in-Some.name.now c.in-Some.behind.now c.in-Some.ensures.cut.0 c.in-Some.ensures.cut.1 in
    let word = c.in-Some-word_in.ensures line.digested (encode_lower line.digest) parts.1 in
    absurd (c.in_default-digest_in.not-Some line.digest (c.digest_in.ensures.finds line.digest h.long h.digest word.1))

pub returns-in_default-2-clause-finds : goal.returns-in_default-2-clause-finds
returns-in_default-2-clause-finds c = λ line h e.
    let parts = parts_are line h c.args.content.now e c.in-Some.name.now c.in-Some.behind.now c.in-Some.ensures.cut.0 c.in-Some.ensures.cut.1 in
    absurd (both_ways _ (no_name c.in_ok-name.field-0 c.in-Some.name.now c.in_default-2.is c.in_ok-name.ensures) (ap is_file_name parts.0 ∙ h.name))

pub returns-clause-finds : goal.returns-clause-finds
returns-clause-finds c = λ line h e.
    let parts = parts_are line h c.args.content.now e c.in-Some.name.now c.in-Some.behind.now c.in-Some.ensures.cut.0 c.in-Some.ensures.cut.1 in
    let word = c.in-Some-word_in.ensures line.digested (encode_lower line.digest) parts.1 in
    line_made line c.in-Some-2.name c.in-Some-word_in.digested c.in-Some-digest_in.digest
    (a_name c.in_ok-name.field-0 c.in-Some.name.now c.in-Some-2.name c.in-Some-2.is c.in_ok-name.ensures ∙ parts.0) word.0
    (same_Some _ _ (sym c.in-Some-digest_in.is ∙ c.digest_in.ensures.finds line.digest h.long h.digest word.1))

pub returns-clause-is : goal.returns-clause-is
returns-clause-is c =
    let digest = subst (λ (found : Option (List ℕ)). IfSome found (λ d. (length d ≡ 32) × IsBytes d)) c.in-Some-digest_in.is c.digest_in.ensures.bytes in
    record {
      name = is_a_name c.in_ok-name.field-0 c.in-Some.name.now c.in-Some-2.name c.in-Some-2.is c.in_ok-name.ensures;
      long = digest.0;
      digest = digest.1;
    }
