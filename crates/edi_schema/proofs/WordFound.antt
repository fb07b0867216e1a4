-- The record of the dictionary that a pointer names, by the place of its name.
use Rattle.std.proofs.Common.{◌≡◌, ℕ, ◌+◌, ◌<◌, ◌≤◌, Bool, cond, not, List, [], ◌∷◌, length, map, slice_get, get_or, position, Some, None, option_map, refl, sym, ap, ◌∙◌, arith}
use Rattle.std.proofs.lemmas.List.{length-map}
use Rattle.std.specs.Prelude.{option_and_then, find}
use Rattle.std.specs.List.{position_or_len}
use Rattle.std.proofs.lemmas.List.Folds.{find_at}
use Rattle.std.proofs.lemmas.Option.{slice_get-map, slice_get-get_or, slice_get_past}
use Rattle.edi_record.specs.declared.name.Name.{Name}
use Rattle.edi_record.specs.Texts.{shown}
use Rattle.edi_record.specs.inner.Texts.{pointer, class_of}
use Rattle.edi_record.specs.declared.pointer.Pointer.{Pointer}
use Rattle.edi_record.proofs.GroupCuts.{place_at_Some, no_position}
use Rattle.edi_schema.specs.Classes.{is_name}
use Rattle.edi_schema.specs.inner.Drafts.{Said, title_name, definition_said, word_in}
use Rattle.edi_schema.specs.declared.title.Title.{Title}
use Rattle.edi_schema.specs.declared.definition.Definition.{Definition}

pub position-map : {X Y : Type 0} (f : X → Y) (p : Y → Bool) (xs : List X) → position_or_len p (map f xs) ≡ position_or_len (λ x. p (f x)) xs
position-map f p [] = refl
position-map f p (x ∷ xs) = ap (λ n. cond (not (p (f x))) (1 + n) 0) (position-map f p xs)

position-same : {X : Type 0} (p q : X → Bool) → ((x : X) → p x ≡ q x) → (xs : List X) → position_or_len p xs ≡ position_or_len q xs
position-same p q same [] = refl
position-same p q same (x ∷ xs) = ap (λ b. cond (not b) (1 + position_or_len p xs) 0) (same x) ∙ ap (λ n. cond (not (q x)) (1 + n) 0) (position-same p q same xs)

abbrev name_of : Definition → Name
name_of d = (definition_said d).name

module _ (eq : Title → Title → Bool) (is : (a b : Title) → eq a b ≡ is_name (title_name a) (title_name b)) (ts : List Title) (ds : List Definition) (same : map title_name ts ≡ map name_of ds) (t : Title) where
  place_of_word : position_or_len (λ word. is_name (title_name t) word.name) (map definition_said ds) ≡ position_or_len (eq t) ts
  place_of_word =
      position-map definition_said (λ word. is_name (title_name t) word.name) ds
      ∙ (sym (position-map name_of (is_name (title_name t)) ds)
      ∙ (ap (position_or_len (is_name (title_name t))) (sym same)
      ∙ (position-map title_name (is_name (title_name t)) ts ∙ sym (position-same (eq t) (λ u. is_name (title_name t) (title_name u)) (is t) ts))))

  word_at : find (λ word. is_name (title_name t) word.name) (map definition_said ds) ≡ option_map definition_said (slice_get ds (position_or_len (eq t) ts))
  word_at = find_at _ (map definition_said ds) ∙ (ap (slice_get (map definition_said ds)) place_of_word ∙ slice_get-map definition_said ds (position_or_len (eq t) ts))

  in_words : (text : List ℕ) (p : Pointer) → Some (shown p) ≡ pointer text → p.rty.now ≡ t.rty.now → p.rid.now ≡ t.rid.now
      → word_in (map definition_said ds) text ≡ option_map definition_said (slice_get ds (position_or_len (eq t) ts))
  in_words text p read rty rid =
      let names : class_of text ≡ Some (title_name t) =
      ap (option_map (λ q. (let n : Name = record { rty = q.rty; rid = q.rid } in n))) (sym read) ∙ rw (rty, rid) refl in
      ap (option_and_then (λ name. find (λ word. is_name name word.name) (map definition_said ds))) names ∙ word_at

  pub word_found : (text : List ℕ) (p : Pointer) (k : ℕ) (d : Definition) → Some (shown p) ≡ pointer text → p.rty.now ≡ t.rty.now → p.rid.now ≡ t.rid.now
      → Some k ≡ position (eq t) ts → k < length ds → d ≡ get_or ds k d
      → Some (definition_said d).word_type ≡ option_map (λ word. word.word_type) (word_in (map definition_said ds) text)
  word_found text p k d read rty rid at below here =
      let place : k ≡ position_or_len (eq t) ts = (place_at_Some (eq t) ts k (sym at)).0 in
      let found : slice_get ds (position_or_len (eq t) ts) ≡ Some d = ap (slice_get ds) (sym place) ∙ (slice_get-get_or ds k d below ∙ ap Some (sym here)) in
      sym (ap (option_map (λ word. word.word_type)) (in_words text p read rty rid ∙ ap (option_map definition_said) found))

  pub word_lacks : (text : List ℕ) (p : Pointer) → Some (shown p) ≡ pointer text → p.rty.now ≡ t.rty.now → p.rid.now ≡ t.rid.now
      → None ≡ position (eq t) ts → None ≡ option_map (λ word. word.word_type) (word_in (map definition_said ds) text)
  word_lacks text p read rty rid none =
      let lengths : length ts ≡ length ds = omega (arith, length-map {A = Title} {B = Name}, length-map {A = Definition} {B = Name}, ap length same) in
      let past : length ds ≤ position_or_len (eq t) ts = omega (arith, no_position (eq t) ts (sym none), lengths) in
      sym (ap (option_map (λ word. word.word_type)) (in_words text p read rty rid ∙ ap (option_map definition_said) (slice_get_past ds (position_or_len (eq t) ts) past)))

pub no_word : (words : List Said) (text : List ℕ) → None ≡ pointer text → None ≡ option_map (λ word. word.word_type) (word_in words text)
no_word words text e =
    ap (λ o. option_map (λ (word : Said). word.word_type) (option_and_then (λ name. find (λ (word : Said). is_name name word.name) words) (option_map (λ q. (let n : Name = record { rty = q.rty; rid = q.rid } in n)) o))) e
