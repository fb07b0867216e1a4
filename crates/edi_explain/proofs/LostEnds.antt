-- The names of records, and ends that name none.
use Rattle.std.proofs.Common.{◌≡◌, ◌∙◌, ◌↔◌, ◌⊎◌, ◌++◌, ◌∷◌, [], ◌≤◌, inl, inr, ℕ, Bool, true, false, cond, not, IsTrue, List, Option, Some, None, Contains, codes, length, get_or, refl, sym, ap, subst, arith, append-nil}
use Rattle.std.specs.Cmp.{IsEquivalence}
use Rattle.std.specs.List.{Any, list_any}
use Rattle.std.specs.Prelude.{option_to_list}
use Rattle.std.proofs.lemmas.Grind.{flat_map-append}
use Rattle.std.proofs.lemmas.List.Elements.{Contains-append_left, Contains-push, Contains-push_cases}
use Rattle.std.proofs.lemmas.List.Quantifiers.{Any-push}
use Rattle.std.proofs.lemmas.Map.Views.{Contains-from_any, list_any-from_Contains}
use Rattle.std.proofs.lemmas.Slice.Eq.{bytes_eq-Decides}
use Rattle.std.proofs.lemmas.Option.{same_Some}
use Rattle.indexmap.specs.IndexSet.{insert_key}
use Rattle.edi_line.specs.ZoneData.{ZoneData, entries, entry, first}
use Rattle.edi_line.specs.declared.zone.Zone.{Zone}
use Rattle.edi_line.proofs.EachElement.{any_more}
use Rattle.edi_record.specs.Records.{values}
use Rattle.edi_record.specs.Texts.{IsPointer, PointerText}
use Rattle.edi_record.specs.declared.name.Name.{Name}
use Rattle.edi_record.proofs.TextParts.{pointer_one}
use Rattle.edi_schema.specs.Classes.{is_name}
use Rattle.edi_schema.proofs.Names.{name_itself, same_name}
use Rattle.edi_explain.specs.AstrayZones.{IsNamedBy, NamesNoElement}
use Rattle.edi_explain.specs.inner.LostEnds.{AreNamesOfGroups, identifiers, pointed_name}
use Rattle.edi_explain.proofs.LinkEnds.{any_cases, nothing_there}

-- ---- sets of names

name_equiv : IsEquivalence is_name
name_equiv = record {
  refl = name_itself;
  symm = λ x y. go x y (is_name x y) (is_name y x) refl refl;
  congr = λ x y z e. ap (λ n. is_name n z) (same_name x y e);
}
  where
    go : (x y : Name) (a b : Bool) → is_name x y ≡ a → is_name y x ≡ b → is_name x y ≡ is_name y x
    go x y true b e f = e ∙ sym (subst (λ n. is_name n x ≡ true) (same_name x y e) (name_itself x))
    go x y false false e f = e ∙ sym f
    go x y false true e f = let t = subst (λ n. is_name n y ≡ true) (same_name y x f) (name_itself y) in t ∙ sym f

pub among_is : (names : List Name) (name : Name) (t : Bool) → t ≡ list_any (is_name name) names → IsTrue t ↔ Contains names name
among_is names name t e = (
  λ i. Contains-from_any same_name name names (sym e ∙ i),
  λ c. e ∙ list_any-from_Contains name_equiv name names c,
)

module _ (names : List Name) (name other : Name) where
  pub put_or : Contains (insert_key is_name names name) other → Contains names other ⊎ (name ≡ other)
  put_or c = by (list_any (is_name name) names) refl
    where
      by : (b : Bool) → list_any (is_name name) names ≡ b → Contains names other ⊎ (name ≡ other)
      by true e = inl (subst (λ l. Contains l other) (λ i. cond (e i) names (names ++ name ∷ [])) c)
      by false e = Contains-push_cases names name other (subst (λ l. Contains l other) (λ i. cond (e i) names (names ++ name ∷ [])) c)

  pub or_put : Contains names other ⊎ (name ≡ other) → Contains (insert_key is_name names name) other
  or_put h = by (list_any (is_name name) names) refl h
    where
      by : (b : Bool) → list_any (is_name name) names ≡ b → Contains names other ⊎ (name ≡ other) → Contains (insert_key is_name names name) other
      by true e (inl c) = subst (λ l. Contains l other) (λ i. cond (sym e i) names (names ++ name ∷ [])) c
      by true e (inr f) = subst (λ l. Contains l other) (λ i. cond (sym e i) names (names ++ name ∷ [])) (subst (Contains names) f (Contains-from_any same_name name names e))
      by false e (inl c) = subst (λ l. Contains l other) (λ i. cond (sym e i) names (names ++ name ∷ [])) (Contains-append_left names (name ∷ []) other c)
      by false e (inr f) = subst (λ l. Contains l other) (λ i. cond (sym e i) names (names ++ name ∷ [])) (subst (Contains (names ++ name ∷ [])) f (Contains-push names name))

-- ---- the names of records

same_names : (a b : Name) → Some a ≡ Some b → a ≡ b
same_names a b e = cc

pub name_is : (group : List Zone) (z : Zone) (rid : List ℕ) (name : Name) → 1 ≤ length group → z ≡ get_or group 0 z
    → Some rid ≡ first (values (codes "RID") (entries group)) → name ≡ record { rty = (entry z).value; rid = rid }
    → (p : PointerText) → IsNamedBy p (entries group) ↔ (Some name ≡ Some (pointed_name p))
name_is [] z rid name less at leads is p = absurd (omega (arith, less))
name_is (x ∷ xs) z rid name less at leads is p = (into, from)
  where
    head : (entry z).value ≡ (entry x).value
    head = ap (λ (y : Zone). (entry y).value) at

    into : IsNamedBy p (entries (x ∷ xs)) → Some name ≡ Some (pointed_name p)
    into h =
        let rty : (entry z).value ≡ p.rty = head ∙ (bytes_eq-Decides (entry x).value p.rty).0 h.0 in
        let same : rid ≡ p.rid = same_Some rid p.rid (leads ∙ h.1) in
        ap Some (is ∙ (λ i. record { rty = rty i; rid = same i }))

    from : Some name ≡ Some (pointed_name p) → IsNamedBy p (entries (x ∷ xs))
    from e =
        let same = sym is ∙ same_names name (pointed_name p) e in (
          (bytes_eq-Decides (entry x).value p.rty).1 (sym head ∙ ap (λ (n : Name). n.rty) same),
          sym leads ∙ ap (λ (n : Name). Some n.rid) same,
        )

module _ (groups : List (List ZoneData)) (g : List ZoneData) (names : List Name) (h : AreNamesOfGroups groups names) where
  pub names_more : (later : List Name) (name : Name) → later ≡ insert_key is_name names name → ((p : PointerText) → IsNamedBy p g ↔ (Some name ≡ Some (pointed_name p)))
      → AreNamesOfGroups (groups ++ g ∷ []) later
  names_more later name put own p = (
    λ c. into (put_or names name (pointed_name p) (subst (λ l. Contains l (pointed_name p)) put c)),
    λ a. subst (λ l. Contains l (pointed_name p)) (sym put) (or_put names name (pointed_name p) (from (any_cases (IsNamedBy p) groups g a))),
  )
    where
      into : Contains names (pointed_name p) ⊎ (name ≡ pointed_name p) → Any (IsNamedBy p) (groups ++ g ∷ [])
      into (inl c) = any_more (IsNamedBy p) groups g ((h p).0 c)
      into (inr e) = Any-push (IsNamedBy p) groups g ((own p).1 (ap Some e))

      from : Any (IsNamedBy p) groups ⊎ IsNamedBy p g → Contains names (pointed_name p) ⊎ (name ≡ pointed_name p)
      from (inl a) = inl ((h p).1 a)
      from (inr n) = inr (same_names name (pointed_name p) ((own p).0 n))

  pub names_stay : ((p : PointerText) → IsNamedBy p g ↔ (None ≡ Some (pointed_name p))) → AreNamesOfGroups (groups ++ g ∷ []) names
  names_stay own p = (
    λ c. any_more (IsNamedBy p) groups g ((h p).0 c),
    λ a. from (any_cases (IsNamedBy p) groups g a),
  )
    where
      from : Any (IsNamedBy p) groups ⊎ IsNamedBy p g → Contains names (pointed_name p)
      from (inl a) = (h p).1 a
      from (inr n) = let e = (own p).0 n in absurd cc

pub no_names : (names : List Name) → names ≡ [] → AreNamesOfGroups [] names
no_names names e p = (
  λ c. let d = subst (λ l. Contains l (pointed_name p)) e c in absurd (omega (arith, d.1)),
  λ a. absurd (nothing_there (IsNamedBy p) a),
)

pub identifiers_more : (groups : List (List ZoneData)) (g : List ZoneData) (o : Option (List ℕ)) → o ≡ first (values (codes "RID") g)
    → identifiers (groups ++ g ∷ []) ≡ identifiers groups ++ option_to_list o
identifiers_more groups g o e =
    let one = λ (group : List ZoneData). option_to_list (first (values (codes "RID") group)) in
    flat_map-append one groups (g ∷ []) ∙ ap (λ l. identifiers groups ++ l) (append-nil (one g) ∙ ap option_to_list (sym e))

-- ---- ends

module _ (groups : List (List ZoneData)) (names : List Name) (h : AreNamesOfGroups groups names) (text : List ℕ) (p : PointerText) (is : IsPointer text p) where
  pub of_links : p.rty ≡ codes "LNK" → NamesNoElement groups text
  of_links e = (p, is, inl e)

  pub lost_is : ¬ (p.rty ≡ codes "LNK") → (t : Bool) → IsTrue t ↔ Contains names (pointed_name p) → IsTrue (not t) ↔ NamesNoElement groups text
  lost_is apart true k = (λ i. absurd cc, λ n. absurd (go n.0 (pointer_one text n.0 p n.1 is) n.2))
    where
      go : (q : PointerText) → q ≡ p → (q.rty ≡ codes "LNK") ⊎ ¬ (Any (IsNamedBy q) groups) → ⊥
      go q e (inl l) = apart (sym (ap (λ (x : PointerText). x.rty) e) ∙ l)
      go q e (inr none) = none (subst (λ (x : PointerText). Any (IsNamedBy x) groups) (sym e) ((h p).0 (k.0 refl)))
  lost_is apart false k = (λ i. (p, is, inr (λ a. let t = k.1 ((h p).1 a) in cc)), λ n. refl)
