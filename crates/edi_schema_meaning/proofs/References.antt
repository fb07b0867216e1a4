-- What a sheet breaks of the rules of references, under two schemas with one kind for each name that a pointer can have.
use Rattle.std.proofs.Common.{◌≡◌, ◌≢◌, ◌⊎◌, inl, inr, ℕ, suc, ◌-◌, ◌≤◌, Bool, true, false, true≢false, List, [], ◌∷◌, Some, None, codes, bytes_eq, slice_get, refl, sym, ap, ◌∙◌, subst, arith}
use Rattle.std.specs.List.{AllByRecursion, AllZip, list_any}
use Rattle.std.proofs.lemmas.Option.{get_or_from_slice_get, slice_get_within}
use Rattle.std.proofs.lemmas.Slice.Eq.{bytes_eq-Decides}
use Rattle.edi_line.specs.ZoneData.{ZoneData}
use Rattle.edi_line.specs.Refusal.{IsUnbroken}
use Rattle.edi_line.specs.Zones.{groups_of}
use Rattle.edi_line.proofs.EachElement.{each_from_found}
use Rattle.edi_record.specs.Records.{States, SheetData}
use Rattle.edi_record.specs.Texts.{is_semicolon}
use Rattle.edi_record.specs.declared.name.Name.{Name}
use Rattle.edi_record.specs.declared.record.Attribute.{Attribute}
use Rattle.edi_record.specs.declared.record.Record.{Record}
use Rattle.edi_schema.proofs.Ordered.{all_at}
use Rattle.edi_schema.specs.Classes.{Classes, place_of, role_named}
use Rattle.edi_schema.specs.declared.role.Role.{Role}
use Rattle.edi_plan.proofs.RuleLemmas.{any_map}
use Rattle.edi_plan.specs.ReferenceRules.{BreaksReferenceRule, IsLinkOfRole, IsRecordAt}
use Rattle.edi_plan.specs.ReferenceRules.BreaksReferenceRule.{repeats_name, lacks_class, lacks_attribute_class, leaves_subset, names_nothing, joins_wrong, repeats_side}
use Rattle.edi_compare.specs.PlanOfFile.{IsSheetOf}
use Rattle.edi_schema_text.proofs.Named.{no_semicolon}

-- ---- what names a sheet has

-- no class of a record has a semicolon in its type
abbrev pub Nameable : List Record → Type 0
Nameable list = AllByRecursion (λ r. list_any is_semicolon r.scp.rty ≡ false) list

-- each attribute's class is of type ATT
abbrev pub Attributed : List Record → Type 0
Attributed list = AllByRecursion (λ r. AllByRecursion (λ a. a.atp.rty ≡ codes "ATT") r.attributes) list

each_nameable : (groups : List (List ZoneData)) (list : List Record) → AllZip States groups list → Nameable list
each_nameable [] [] all = tt
each_nameable [] (r ∷ rs) all = absurd all
each_nameable (g ∷ gs) [] all = absurd all
each_nameable (g ∷ gs) (r ∷ rs) all = (no_semicolon r.scp.rty all.0.scp.2.2.rty_part, each_nameable gs rs all.1)

pub nameable : (b : List ℕ) (sheet : SheetData) → IsSheetOf b sheet → Nameable sheet.list
nameable b sheet h = each_nameable (groups_of h.0) sheet.list h.2.records

pub attributed : (s : Classes) (list : List Record) → IsUnbroken (BreaksReferenceRule s list) → Attributed list
attributed s list unbroken = each_from_found (λ r. AllByRecursion (λ a. a.atp.rty ≡ codes "ATT") r.attributes) list
    (λ k r here. each_from_found (λ a. a.atp.rty ≡ codes "ATT") r.attributes (λ i a there. go k r here i a there (bytes_eq a.atp.rty (codes "ATT")) refl))
  where
    go : (k : ℕ) (r : Record) → slice_get list k ≡ Some r → (i : ℕ) (a : Attribute) → slice_get r.attributes i ≡ Some a → (t : Bool) → bytes_eq a.atp.rty (codes "ATT") ≡ t → a.atp.rty ≡ codes "ATT"
    go k r here i a there true e = (bytes_eq-Decides a.atp.rty (codes "ATT")).0 e
    go k r here i a there false e =
        let at : (1 ≤ suc k) × (slice_get list (suc k - 1) ≡ Some r) = (omega arith, (let e : k ≡ suc k - 1 = omega arith in subst (λ j. slice_get list j ≡ Some r) e here)) in
        absurd (unbroken 303 (suc k) (lacks_attribute_class refl
        (r, at, (i, a, slice_get_within r.attributes i a there, get_or_from_slice_get r.attributes i a a there, inl (λ same. true≢false (sym ((bytes_eq-Decides a.atp.rty (codes "ATT")).1 same) ∙ e))))))

-- ---- two schemas

-- where the one has no class of such a name, the other hasn't, and the kinds are the same
pub record SameNames (s u : Classes) : Type 0 where
  pub none : (n : Name) → list_any is_semicolon n.rty ≡ false → place_of s n ≡ None → place_of u n ≡ None
  pub role : (n : Name) → list_any is_semicolon n.rty ≡ false → role_named s n ≡ role_named u n

type_plain : (n : Name) → n.rty ≡ codes "ATT" → list_any is_semicolon n.rty ≡ false
type_plain n e = ap (list_any is_semicolon) e

module _ (s u : Classes) (names : SameNames s u) (list : List Record) (plain : Nameable list) where
  plain_at : (at : ℕ) (r : Record) → IsRecordAt s list at r → list_any is_semicolon r.scp.rty ≡ false
  plain_at at r h = all_at (λ q. list_any is_semicolon q.scp.rty ≡ false) list plain (at - 1) r h.1

  link_in : (at : ℕ) (r : Record) → IsRecordAt s list at r → (role : Role) → IsLinkOfRole s list r role → IsLinkOfRole u list r role
  link_in at r h role link = (link.0, sym (names.role r.scp (plain_at at r h)) ∙ link.1)

  class_in : (a : Attribute) → (a.atp.rty ≢ codes "ATT") ⊎ (place_of s a.atp ≡ None) → (a.atp.rty ≢ codes "ATT") ⊎ (place_of u a.atp ≡ None)
  class_in a (inl other) = inl other
  class_in a (inr none) = go (bytes_eq a.atp.rty (codes "ATT")) refl
    where
      go : (t : Bool) → bytes_eq a.atp.rty (codes "ATT") ≡ t → (a.atp.rty ≢ codes "ATT") ⊎ (place_of u a.atp ≡ None)
      go true e = inr (names.none a.atp (type_plain a.atp ((bytes_eq-Decides a.atp.rty (codes "ATT")).0 e)) none)
      go false e = inl (λ same. true≢false (sym ((bytes_eq-Decides a.atp.rty (codes "ATT")).1 same) ∙ e))

  either : {A B C D : Type 0} → (A → C) → (B → D) → A ⊎ B → C ⊎ D
  either f g (inl a) = inl (f a)
  either f g (inr b) = inr (g b)

  pub references : (rule at : ℕ) → BreaksReferenceRule s list rule at → BreaksReferenceRule u list rule at
  references rule at (repeats_name e h) = repeats_name e h
  references rule at (lacks_class e h) = lacks_class e (h.0, h.1, names.none h.0.scp (plain_at at h.0 h.1) h.2)
  references rule at (lacks_attribute_class e h) = lacks_attribute_class e (h.0, h.1, any_map _ _ class_in h.0.attributes h.2)
  references rule at (leaves_subset e h) = leaves_subset e h
  references rule at (names_nothing e h) = names_nothing e h
  references rule at (joins_wrong e h) =
      let link = link_in at h.0 h.1 in
      joins_wrong e (h.0, h.1, either (λ x. (either (link _) (link _) x.0, x.1)) (λ x. (either (link _) (link _) x.0, x.1)) h.2)
  references rule at (repeats_side e h) =
      repeats_side e (h.0, h.1, h.2, h.3, h.4, h.5, h.6, h.7, h.8, link_in h.0 h.2 h.6 h.4 h.9, link_in at h.3 h.7 h.4 h.10, h.11, h.12)
