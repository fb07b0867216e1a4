-- What the ends of links lead to.
use Rattle.std.proofs.Common.{◌≡◌, ℕ, ◌+◌, ◌<◌, append_assoc, add-one, Bool, true, false, cond, List, [], ◌∷◌, ◌++◌, length, take, get_or, Option, Some, None, is_some, refl, sym, ap, ◌∙◌, subst, codes}
use Rattle.std.specs.List.{AllZip}
use Rattle.std.specs.Str.{bytes_eq}
use Rattle.std.proofs.Math.Seq.{take-suc}
use Rattle.indexmap.proofs.SetLemmas.{AllZip-push}
use Rattle.std.proofs.lemmas.Slice.Eq.{bytes_eq-Decides}
use Rattle.std.proofs.lemmas.Option.{same_Some}
use Rattle.edi_record.specs.Shapes.{kind_code}
use Rattle.edi_record.specs.declared.name.Name.{Name}
use Rattle.edi_record.specs.LinkEnds.{EndData}
use Rattle.edi_record.specs.declared.record.Kind.{Kind}
use Rattle.edi_record.specs.declared.record.Kind.TheVariants.{Pno, Par, Pfe, Fea, Lnk}
use Rattle.edi_record.specs.declared.record.Record.{Record}
use Rattle.edi_plan.specs.inner.Names.{IsFirstRepeatedNameIfAny}
use Rattle.edi_plan.specs.PlanOf.{place_named}
use Rattle.edi_record.specs.Records.{is_link}
use Rattle.edi_record.proofs.KindCodes.{kind_from_code}
use Rattle.edi_plan.specs.inner.Targets.{target_kind, HasNameAt, Leads, IsTargetIfAny}
use Rattle.edi_plan.specs.declared.targets.Target.{Target}
use Rattle.edi_plan.proofs.NameLemmas.{first_named, has_name}

-- codes of types

pub coded : (code : List ℕ) (k : Kind) → target_kind code ≡ Some k → (code ≡ kind_code k) × (is_link k ≡ false)
coded code k h = go (bytes_eq code (codes "PNO")) refl (bytes_eq code (codes "PAR")) refl (bytes_eq code (codes "PFE")) refl (bytes_eq code (codes "FEA")) refl h
  where
    is : (text : List ℕ) (j : Kind) → bytes_eq code text ≡ true → kind_code j ≡ text → is_link j ≡ false → Some j ≡ Some k → (code ≡ kind_code k) × (is_link k ≡ false)
    is text j t e no_link same = subst (λ (m : Kind). (code ≡ kind_code m) × (is_link m ≡ false)) (same_Some _ _ same) ((bytes_eq-Decides code text).0 t ∙ sym e, no_link)

    go : (n : Bool) → bytes_eq code (codes "PNO") ≡ n → (a : Bool) → bytes_eq code (codes "PAR") ≡ a → (f : Bool) → bytes_eq code (codes "PFE") ≡ f → (o : Bool) → bytes_eq code (codes "FEA") ≡ o
        → cond n (Some Pno) (cond a (Some Par) (cond f (Some Pfe) (cond o (Some Fea) None))) ≡ Some k → (code ≡ kind_code k) × (is_link k ≡ false)
    go true t a ta f tf o to e = is (codes "PNO") Pno t refl refl e
    go false t true ta f tf o to e = is (codes "PAR") Par ta refl refl e
    go false t false ta true tf o to e = is (codes "PFE") Pfe tf refl refl e
    go false t false ta false tf true to e = is (codes "FEA") Fea to refl refl e
    go false t false ta false tf false to e = cc

pub uncoded : (k : Kind) → is_link k ≡ false → target_kind (kind_code k) ≡ Some k
uncoded Pno h = refl
uncoded Par h = refl
uncoded Pfe h = refl
uncoded Fea h = refl
uncoded Lnk h = cc

-- where no record has the name of an earlier one, a record of a name is the first
pub only_named : (list : List Record) (name : Name) (repeat : Option ℕ) (k : ℕ) → IsFirstRepeatedNameIfAny list repeat → is_some repeat ≡ false → HasNameAt list name k → place_named list name ≡ Some k
only_named list name (Some n) k first some h = cc
only_named list name None k none some h =
    first_named list name k (record { there = h.there; here = h.here; is = h.is; none_before = λ j q less at is. none k (j, q, h.there, less, at, h.here, is ∙ sym h.is) })

module _ (list : List Record) (e : EndData) where
  -- the type that the end says is that of the record
  pub leads_kind : (t : Target) → Leads list e t → target_kind e.target.rty ≡ Some t.kind
  leads_kind t d =
      let at = has_name list e.target t.place d.named in
      let same : at.0 ≡ d.there = same_Some _ _ (sym at.1 ∙ d.here) in
      let code : kind_code t.kind ≡ e.target.rty = sym (ap kind_code (ap (λ (r : Record). r.kind) same ∙ d.kind)) ∙ ap (λ (n : Name). n.rty) at.2 in
      subst (λ text. target_kind text ≡ Some t.kind) code (uncoded t.kind d.no_link)

  pub leads_nowhere : target_kind e.target.rty ≡ None → IsTargetIfAny list e None
  leads_nowhere none t d = let no : None ≡ Some t.kind = sym none ∙ leads_kind t d in cc

  pub leads_unnamed : place_named list e.target ≡ None → IsTargetIfAny list e None
  leads_unnamed none t d = let no : None ≡ Some t.place = sym none ∙ d.named in cc

  pub leads_to : (k : Kind) (place : ℕ) → target_kind e.target.rty ≡ Some k → place_named list e.target ≡ Some place → Leads list e (record { place = place; kind = k })
  leads_to k place is found =
      let at = has_name list e.target place found in
      let both = coded e.target.rty k is in
      let kinds : target_kind (kind_code at.0.kind) ≡ Some k = ap target_kind (ap (λ (n : Name). n.rty) at.2) ∙ is in
      record { there = at.0; named = found; here = at.1; kind = kind_from_code at.0.kind k (ap (λ (n : Name). n.rty) at.2 ∙ both.0); no_link = both.1 }

-- lists side by side

pub zip_taken : {A B : Type 0} (R : A → B → Type 0) (before xs : List A) (i : ℕ) (x : A) (ys : List B) (y : B) (zs : List B) → i < length xs → x ≡ get_or xs i x → zs ≡ ys ++ y ∷ []
    → AllZip R (before ++ take i xs) ys → R x y → AllZip R (before ++ take (i + 1) xs) zs
zip_taken {A} {B} R before xs i x ys y zs less is more all one =
    let longer : before ++ take (i + 1) xs ≡ (before ++ take i xs) ++ x ∷ [] =
    ap (λ ws. before ++ ws) (ap (λ n. take n xs) (add-one i) ∙ (take-suc xs i x less ∙ ap (λ w. take i xs ++ w ∷ []) (sym is))) ∙ sym (append_assoc before (take i xs) (x ∷ [])) in
    subst (AllZip R (before ++ take (i + 1) xs)) (sym more) (subst (λ ws. AllZip R ws (ys ++ y ∷ [])) (sym longer) (AllZip-push R (before ++ take i xs) ys x y all one))
