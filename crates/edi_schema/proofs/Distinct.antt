-- Names of which no two are the same.
use Rattle.std.proofs.Common.{◌≡◌, ℕ, ◌+◌, ◌<◌, ◌≤◌, Bool, true, false, not, ◌||◌, List, [], ◌∷◌, length, take, map, get_or, option_map, refl, sym, ap, ◌∙◌, subst}
use Rattle.std.specs.List.{list_any, IsDistinct, AllByRecursion}
use Rattle.edi_record.specs.declared.name.Name.{Name}
use Rattle.edi_schema.specs.Classes.{is_name}
use Rattle.std.proofs.lemmas.Option.{slice_get-map, slice_get-get_or}
use Rattle.std.proofs.lemmas.List.{take_all, take-map}
use Rattle.std.proofs.lemmas.Bool.{not-false}
use Rattle.edi_schema.specs.inner.Drafts.{title_name, definition_said}
use Rattle.edi_schema.specs.inner.Steps.{IsFirstRepeat}
use Rattle.edi_schema.specs.declared.definition.Definition.{Definition}
use Rattle.edi_schema.specs.declared.title.Title.{Title}

module _ (eq : Title → Title → Bool) (is : (a b : Title) → eq a b ≡ is_name (title_name a) (title_name b)) where
  all_apart : (t : Title) (ts : List Title) → AllByRecursion (λ u. eq t u ≡ false) ts → AllByRecursion (λ n. is_name (title_name t) n ≡ false) (map title_name ts)
  all_apart t [] h = tt
  all_apart t (u ∷ us) h = (sym (is t u) ∙ h.0, all_apart t us h.1)

  pub names_distinct : (ts : List Title) → IsDistinct eq ts → IsDistinct is_name (map title_name ts)
  unfolding IsDistinct
  names_distinct [] h = tt
  names_distinct (t ∷ ts) h = (all_apart t ts h.0, names_distinct ts h.1)

  pub any_named : (t : Title) (ts : List Title) → list_any (eq t) ts ≡ list_any (is_name (title_name t)) (map title_name ts)
  any_named t [] = refl
  any_named t (u ∷ us) = ap (λ b. b || list_any (eq t) us) (is t u) ∙ ap (λ b. is_name (title_name t) (title_name u) || b) (any_named t us)

pub none_distinct : IsDistinct is_name []
unfolding IsDistinct
none_distinct = tt

-- ---- of the records of a file

abbrev name_of : Definition → Name
name_of d = (definition_said d).name

module _ (eq : Title → Title → Bool) (is : (a b : Title) → eq a b ≡ is_name (title_name a) (title_name b)) where
  pub repeat_found : (records : List Definition) (i : ℕ) (d : Definition) (ts : List Title) → i < length records → map title_name ts ≡ map name_of (take i records)
      → IsDistinct is_name (map name_of (take i records)) → not (list_any (eq (get_or records i d).title) ts) ≡ false → IsFirstRepeat (map name_of records) (i + 1)
  repeat_found records i d ts below names distinct there =
      let front : map name_of (take i records) ≡ take i (map name_of records) = sym (take-map name_of i records) in
      let again : list_any (eq (get_or records i d).title) ts ≡ true = not-false _ there in
      record {
        place = i;
        name = name_of (get_or records i d);
        at_is = refl;
        here = slice_get-map name_of records i ∙ ap (option_map name_of) (slice_get-get_or records i d below);
        repeats = ap (list_any (is_name (name_of (get_or records i d)))) (sym (names ∙ front)) ∙ (sym (any_named eq is (get_or records i d).title ts) ∙ again);
        distinct = subst (IsDistinct is_name) front distinct;
      }

pub all_distinct : (records : List Definition) (i : ℕ) → length records ≤ i → IsDistinct is_name (map name_of (take i records)) → IsDistinct is_name (map name_of records)
all_distinct records i past h = subst (λ ds. IsDistinct is_name (map name_of ds)) (take_all i records past) h
