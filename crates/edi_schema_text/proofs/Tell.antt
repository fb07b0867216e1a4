-- Two schemas have one text exactly if they mean the same.
use Rattle.std.proofs.Common.{◌≡◌, ◌≢◌, ◌⊎◌, inl, inr, Bool, true, false, true≢false, [], ◌∷◌, ◌++◌, map, filter, codes, bytes_eq, refl, sym, ap, ◌∙◌}
use Rattle.std.specs.List.{AllByRecursion, flat_map, list_any}
use Rattle.std.proofs.lemmas.List.{append_cancel_left}
use Rattle.std.proofs.lemmas.Slice.Eq.{bytes_eq-Decides}
use Rattle.sha2.specs.Sha256.{sha256}
use Rattle.edi_record.specs.Texts.{is_semicolon}
use Rattle.edi_record.specs.declared.name.Name.{Name}
use Rattle.edi_schema.specs.Classes.{Classes, IsLetter, IsReadName, IsSchema}
use Rattle.edi_schema.specs.declared.class.Class.{Class}
use Rattle.edi_schema_text.specs.Laws.{OneDigestOneMeaning, OneMeaningOneDigest, TextsTellSchemas}
use Rattle.edi_schema_text.specs.SchemaText.{MeanSame, class_lines, is_nameable, line_of_class, schema_head, text_of_schema}
use Rattle.edi_schema_text.proofs.Fields.{IsSayable, lines_apart}
use Rattle.edi_schema_text.proofs.Meaning.{meaning, meaning_of}
use Rattle.edi_schema_text.proofs.Named.{mean_same, no_semicolon, one_meaning}
use Rattle.edi_schema_text.proofs.Sorted.{meaning_rises, one_list}

sayable : (s : Classes) → AllByRecursion (λ e. IsLetter e.1.letter) s → AllByRecursion (λ e. IsReadName e.0) s → AllByRecursion IsSayable (filter is_nameable s)
sayable [] letters readable = tt
sayable (e ∷ s) letters readable = go (list_any is_semicolon e.0.rty) refl (sayable s letters.1 readable.1)
  where
    go : (b : Bool) → list_any is_semicolon e.0.rty ≡ b → AllByRecursion IsSayable (filter is_nameable s) → AllByRecursion IsSayable (filter is_nameable (e ∷ s))
    go true h more = rw h more
    go false h more = rw h (record { rty = h; rid = no_semicolon e.0.rid readable.0.2; letter = letters.0 }, more)

-- a text tells what the schema means
pub text_told : (s t : Classes) → IsSchema s → IsSchema t → text_of_schema s ≡ text_of_schema t → meaning s ≡ meaning t
text_told s t hs ht e =
    lines_apart (filter is_nameable s) (filter is_nameable t) (sayable s hs.letters hs.readable) (sayable t ht.letters ht.readable) (append_cancel_left schema_head (class_lines s) (class_lines t) e)

-- what schemas mean is one, where they mean the same
pub meaning_one : (s t : Classes) → IsSchema s → IsSchema t → MeanSame s t → meaning s ≡ meaning t
meaning_one s t hs ht same = one_list (meaning s) (meaning t) (meaning_rises s hs.in_order) (meaning_rises t ht.in_order) (one_meaning s t same)

-- the text is that of what the schema means
line_settled : (e : Name × Class) → line_of_class (meaning_of e) ≡ line_of_class e
unfolding line_of_class
line_settled e = go (bytes_eq e.0.rty (codes "ATT")) refl
  where
    go : (b : Bool) → bytes_eq e.0.rty (codes "ATT") ≡ b → line_of_class (meaning_of e) ≡ line_of_class e
    go true h = rw h refl
    go false h = rw h refl

lines_settled : (xs : Classes) → flat_map line_of_class (map meaning_of xs) ≡ flat_map line_of_class xs
lines_settled [] = refl
lines_settled (e ∷ xs) = λ j. line_settled e j ++ lines_settled xs j

pub text_made : (s t : Classes) → meaning s ≡ meaning t → text_of_schema s ≡ text_of_schema t
text_made s t e = ap (λ l. schema_head ++ l) (sym (lines_settled (filter is_nameable s)) ∙ (ap (flat_map line_of_class) e ∙ lines_settled (filter is_nameable t)))

pub texts_tell : TextsTellSchemas
texts_tell s t hs ht = (λ e. mean_same s t (text_told s t hs ht e), λ same. text_made s t (meaning_one s t hs ht same))

-- ---- digests

pub one_digest : OneMeaningOneDigest
one_digest s t hs ht same = ap sha256 (text_made s t (meaning_one s t hs ht same))

pub one_meaning_of : OneDigestOneMeaning
one_meaning_of s t hs ht digest = go (bytes_eq (text_of_schema s) (text_of_schema t)) refl
  where
    go : (b : Bool) → bytes_eq (text_of_schema s) (text_of_schema t) ≡ b → MeanSame s t ⊎ (text_of_schema s ≢ text_of_schema t)
    go true e = inl (mean_same s t (text_told s t hs ht ((bytes_eq-Decides (text_of_schema s) (text_of_schema t)).0 e)))
    go false e = inr (λ same. true≢false (sym ((bytes_eq-Decides (text_of_schema s) (text_of_schema t)).1 same) ∙ e))
