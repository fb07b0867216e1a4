-- The headline over files.
use Rattle.std.proofs.Common.{◌≡◌, ◌↔◌, ℕ, suc, ◌≤◌, List, [], ◌∷◌, length, refl, ap, subst, arith}
use Rattle.std.specs.List.{AllZip}
use Rattle.std.proofs.lemmas.List.Sorted.{length_permutation}
use Rattle.edi_line.proofs.Said.{file_said}
use Rattle.edi_schema.specs.Classes.{Classes, IsSchema}
use Rattle.edi_schema.specs.Roles.{KindCodes}
use Rattle.edi_schema.specs.SchemaOf.{StatesClass}
use Rattle.edi_schema.specs.SchemaRefusal.{IsGoodSchema}
use Rattle.edi_record.proofs.FewGroups.{few_groups}
use Rattle.edi_schema.proofs.Good.{keeps}
use Rattle.edi_schema.proofs.One.{schemas_one}
use Rattle.edi_compare.specs.Headline.{IsFormOf}
use Rattle.edi_compare.specs.Laws.{IsSameUnder}
use Rattle.edi_compare.specs.PlanOfFile.{StateSame}
use Rattle.edi_compare.specs.Runs.{IsCanonOf}
use Rattle.edi_compare.proofs.Headline.{equal_if_same}
use Rattle.edi_compare.proofs.Reading.{reading_is_one}

zip_long : {A B : Type 0} (R : A → B → Type 0) (xs : List A) (ys : List B) → AllZip R xs ys → length xs ≡ length ys
zip_long R [] [] h = refl
zip_long R [] (y ∷ ys) h = absurd h
zip_long R (x ∷ xs) [] h = absurd h
zip_long R (x ∷ xs) (y ∷ ys) h = ap suc (zip_long R xs ys h.1)

module _ (scd dic : List ℕ) (kinds : KindCodes) (s : Classes) (good : IsGoodSchema scd dic kinds s) where
  -- a file has no more records than rule 110 lets it have, and so no more classes
  few : length s ≤ 9999999
  few =
      let read = good.records.0 in
      let groups = few_groups scd read.0 read.2 good.lines.0 in
      let same = ap length (file_said read.0 read.1 good.classes read.3).1 in
      let stated = zip_long (StatesClass kinds good.is.words) good.classes good.is.stated good.is.each_class in
      omega (arith, groups, same, stated, length_permutation good.is.stated s good.is.same)

  is_schema : IsSchema s
  is_schema = keeps scd dic kinds s good few

  equal_files : (a b c d : List ℕ) → IsFormOf s a c → IsFormOf s b d → (c ≡ d) ↔ StateSame s a b
  equal_files a b c d f g = equal_if_same reading_is_one s is_schema a b c d f.accepted g.accepted f.canonical f.same g.canonical g.same

pub files_decide : (kinds : KindCodes) (scd dic a b c d : List ℕ) → IsCanonOf kinds scd dic a c → IsCanonOf kinds scd dic b d → (c ≡ d) ↔ IsSameUnder kinds scd dic a b
files_decide kinds scd dic a b c d f g =
    let one = subst (λ t. IsFormOf t b d) (schemas_one scd dic kinds g.0 f.0 g.1 f.1) g.2 in
    let both = equal_files scd dic kinds f.0 f.1 a b c d f.2 one in (
      λ e. (f.0, f.1, both.0 e),
      λ h. both.1 (subst (λ t. StateSame t a b) (schemas_one scd dic kinds h.0 f.0 h.1 f.1) h.2),
    )
