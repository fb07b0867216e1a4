-- Two schemas that answer alike have numbers for the same classes of attributes.
use Rattle.std.proofs.Common.{◌≡◌, ℕ, zero, suc, ◌<◌, true, false, ◌&&◌, true≢false, [], ◌∷◌, Some, None, codes, refl, sym, ap, ◌∙◌, subst, arith, lit≤, lit<, IsPermutation}
use Rattle.std.specs.Prelude.{is_some, pos}
use Rattle.std.specs.List.{AllByRecursion}
use Rattle.std.proofs.lemmas.List.Elements.{All-from_recursion, recursion_from_All}
use Rattle.std.proofs.lemmas.List.Sorted.{All-permutation, IsPermutation-refl}
use Rattle.std.proofs.lemmas.Option.{same_Some}
use Rattle.std.proofs.lemmas.Slice.Eq.{bytes_eq-Decides}
use Rattle.edi_line.proofs.NumberRead.{number_is}
use Rattle.edi_line.specs.inner.Number.{fraction_number, number, whole_number}
use Rattle.edi_record.specs.Records.{IsValueOf, SheetData}
use Rattle.edi_record.specs.declared.name.Name.{Name}
use Rattle.edi_record.specs.declared.record.Kind.TheVariants.{Pno}
use Rattle.edi_record.specs.declared.record.Value.{Value}
use Rattle.edi_record.specs.declared.record.Value.TheVariants.{Bytes, Number}
use Rattle.edi_schema.specs.Classes.{Classes, is_number_named, place_of, role_named}
use Rattle.edi_schema.specs.declared.role.Role.{Role}
use Rattle.edi_plan.specs.Plans.{PlanData}
use Rattle.edi_plan.specs.declared.record.PlanAttribute.{PlanAttribute}
use Rattle.edi_plan.specs.inner.Resolving.{is_elsewhere}
use Rattle.edi_topo.proofs.AtPlaces.{breaks_of_node, first_is_least}
use Rattle.edi_topo.specs.TopologyRules.{AreEqualNodes, BreaksTopologyRule}
use Rattle.edi_topo.specs.TopologyRules.BreaksTopologyRule.{repeats_node}
use Rattle.edi_compare.proofs.KnownSheetsReferences.{Refer, references_as}
use Rattle.edi_compare.proofs.KnownSheetsTests.{none_is}
use Rattle.edi_compare.proofs.Phases.{references_held, topology_refusal}
use Rattle.edi_compare.specs.PlanOfFile.{IsPlanOfFile, IsSheetOf}
use Rattle.edi_compare.specs.Refused.{IsRefusal}
use Rattle.edi_compare.specs.Rules.{RecordsHold, ReferencesHold}
use Rattle.edi_compare.specs.declared.fault.Fault.TheVariants.{Entry}
use Rattle.edi_schema_meaning.proofs.Probing.{CanBeRead, IsPlainName, probe_records, probe_sheet, valued_node}
use Rattle.edi_schema_meaning.proofs.Told.{place_some, topology_back}
use Rattle.edi_schema_meaning.specs.Probes.{plain_letters, probe, spot, value_records}

zero_one : number (codes "01") ≡ Some (pos 1000000)
unfolding number whole_number fraction_number
zero_one = refl

one : number (codes "1") ≡ Some (pos 1000000)
unfolding number whole_number fraction_number
one = refl

same_one : (x y : PlanAttribute) → IsPermutation (x ∷ []) (y ∷ []) → y ≡ x
same_one x y h = (recursion_from_All (λ z. z ≡ x) (y ∷ []) (All-permutation (λ z. z ≡ x) (x ∷ []) (y ∷ []) h (All-from_recursion (λ z. z ≡ x) (x ∷ []) (refl, tt)))).0

spellings : Bytes (codes "1") ≡ Bytes (codes "01") → ⊥
spellings h = cc

module _ (n : Name) (plain : IsPlainName n) (att : n.rty ≡ codes "ATT") where
  can_values : AllByRecursion (CanBeRead plain_letters) (value_records n)
  can_values = (
    valued_node plain_letters n plain (codes "N") (codes "01") refl (none_is 10 (codes "N") refl) (none_is 10 (codes "01") refl) refl,
    (valued_node plain_letters n plain (codes "M") (codes "1") refl (none_is 10 (codes "M") refl) (none_is 10 (codes "1") refl) refl, tt),
  )

  value_sheet : SheetData
  value_sheet = record { cse = None; list = value_records n }

  value_stated : IsSheetOf (probe (value_records n)) value_sheet
  unfolding value_sheet
  value_stated = probe_sheet (value_records n) can_values (lit≤ tt) value_sheet refl refl

  value_read : (s : Classes) → RecordsHold s (probe (value_records n))
  value_read s = probe_records (value_records n) can_values (lit≤ tt) s

  value_refers : (s : Classes) (k : ℕ) → place_of s n ≡ Some k → Refer s (value_records n)
  unfolding is_elsewhere
  value_refers s k known = record {
    names = refl;
    classes = ap (λ o. is_some o && (is_some o && true)) known;
    attributes = rw ((bytes_eq-Decides n.rty (codes "ATT")).1 att, known) refl;
    subsets = refl;
    ends = refl;
    joins = refl;
    kinds = refl;
  }

  value_held : (s : Classes) (k : ℕ) → place_of s n ≡ Some k → ReferencesHold s (probe (value_records n))
  unfolding value_sheet
  value_held s k known = references_held s (probe (value_records n)) (value_read s) value_sheet value_stated (references_as s (value_records n) (value_refers s k known))

  -- the plan, where the two values are these
  value_plan : ℕ → Role → Value → Value → PlanData
  value_plan k role v w = record {
    cse = None;
    list = record { kind = Pno; class = k; role = role; points = spot 0 0 ∷ []; attributes = record { atp = k; tex = None; value = v } ∷ []; extras = []; ends = [] }
        ∷ record { kind = Pno; class = k; role = role; points = spot 0 0 ∷ []; attributes = record { atp = k; tex = None; value = w } ∷ []; extras = []; ends = [] }
        ∷ [];
  }

  value_states : (s : Classes) (k : ℕ) (role : Role) (v w : Value) → place_of s n ≡ Some k → role_named s n ≡ Some role → IsValueOf (is_number_named s n ≡ Some true) (codes "01") v → IsValueOf (is_number_named s n ≡ Some true) (codes "1") w
      → IsPlanOfFile s (probe (value_records n)) (value_plan k role v w)
  unfolding value_sheet value_plan
  value_states s k role v w known has first second = (
    value_sheet,
    value_stated,
    record {
      set = refl;
      each = (
        record { kind = refl; class = known; role = has; points = refl; attributes = (record { class = known; set = refl; value = first }, tt); extras = refl; ends = tt },
        (record { kind = refl; class = known; role = has; points = refl; attributes = (record { class = known; set = refl; value = second }, tt); extras = refl; ends = tt }, tt),
      );
    },
  )

  pub value_refused : (s : Classes) (role : Role) → role_named s n ≡ Some role → is_number_named s n ≡ Some true → IsRefusal s (probe (value_records n)) (Entry 403 2)
  unfolding value_plan
  value_refused s role has numbers =
      let known = place_some s n role has in
      let v = Number (pos 1000000) in
      let p = value_plan known.0 role v v in
      let b = probe (value_records n) in
      let states = value_states s known.0 role v v known.1 has (numbers, (number_is (codes "01") (pos 1000000)).0 zero_one) (numbers, (number_is (codes "1") (pos 1000000)).0 one) in
      let equal : AreEqualNodes p 0 1 = record { first = lit< tt; second = lit< tt; first_node = refl; second_node = refl; points = refl; class = refl; attributes = IsPermutation-refl _; extras = refl } in
      topology_refusal s b 403 2 (value_held s known.0 known.1) p states
      (first_is_least p 1 403 (record { is = repeats_node refl (0, 1, refl, lit< tt, equal); least = λ rule broken. let e = (breaks_of_node p 1 refl rule broken).0 in omega (arith, e) })
      (λ k low rule broken.
      let at : k ≡ 0 = omega (arith, low) in
      let early = (breaks_of_node p 0 refl rule (subst (λ j. BreaksTopologyRule p rule (suc j)) at broken)).1.1 in omega (arith, early)))

  pub value_not_refused : (s : Classes) (role : Role) → role_named s n ≡ Some role → is_number_named s n ≡ Some false → IsRefusal s (probe (value_records n)) (Entry 403 2) → ⊥
  unfolding value_sheet value_plan
  value_not_refused s role has bytes h =
      let known = place_some s n role has in
      let p = value_plan known.0 role (Bytes (codes "01")) (Bytes (codes "1")) in
      let none : is_number_named s n ≡ Some true → ⊥ = λ numbers. true≢false (same_Some true false (sym numbers ∙ bytes)) in
      let states = value_states s known.0 role (Bytes (codes "01")) (Bytes (codes "1")) known.1 has (refl, λ numbers. absurd (none numbers)) (refl, λ numbers. absurd (none numbers)) in
      let broken = topology_back s (probe (value_records n)) value_sheet value_stated (value_held s known.0 known.1) p states 403 2 (lit< tt) h.1.is in
      let repeats = (breaks_of_node p 1 refl 403 broken).1 in
      go known.0 repeats.0 repeats.1 repeats.2
    where
      go : (k m : ℕ) → m < 1 → AreEqualNodes (value_plan k role (Bytes (codes "01")) (Bytes (codes "1"))) m 1 → ⊥
      go k zero low e = spellings (ap (λ a. a.value) (same_one _ _ e.attributes))
      go k (suc m) low e = omega (arith, low)
