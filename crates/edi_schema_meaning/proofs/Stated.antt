-- The plan of a sheet under a schema, and under what the schema means.
use Rattle.std.proofs.Common.{◌≡◌, ℕ, true, false, List, [], ◌∷◌, map, Option, Some, None, option_map, codes, refl, sym, ap, ◌∙◌, subst}
use Rattle.std.specs.List.{AllByRecursion, AllZip, list_any}
use Rattle.std.proofs.lemmas.Option.{none-some, same_Some}
use Rattle.edi_record.specs.Records.{IsValueOf, SheetData}
use Rattle.edi_record.specs.Texts.{is_semicolon}
use Rattle.edi_record.specs.declared.name.Name.{Name}
use Rattle.edi_record.specs.declared.record.Attribute.{Attribute}
use Rattle.edi_record.specs.declared.record.Record.{Record}
use Rattle.edi_schema.specs.Classes.{Classes, is_number_named, place_of}
use Rattle.edi_plan.specs.PlanOf.{IsPlanOf, StatesPlanAttribute, StatesPlanRecord}
use Rattle.edi_plan.specs.Plans.{PlanData}
use Rattle.edi_plan.specs.declared.record.PlanAttribute.{PlanAttribute}
use Rattle.edi_plan.specs.declared.record.PlanRecord.{PlanRecord}
use Rattle.edi_schema_text.proofs.Meaning.{meaning}
use Rattle.edi_schema_text.proofs.Named.{attribute_kept, role_kept}
use Rattle.edi_schema_meaning.proofs.Embed.{back_again, embed, name_placed, unembed}
use Rattle.edi_schema_meaning.proofs.References.{Attributed, Nameable, SameNames}
use Rattle.edi_schema_meaning.proofs.Renamed.{renamed, renamed_attribute, renamed_record}

module _ (s : Classes) where
  -- ---- names

  pub class_in : (n : Name) → list_any is_semicolon n.rty ≡ false → (k : ℕ) → place_of (meaning s) n ≡ Some k → place_of s n ≡ Some (embed s k)
  class_in n plain k h = name_placed s n plain ∙ ap (option_map (embed s)) h

  pub class_back : (n : Name) → list_any is_semicolon n.rty ≡ false → (c : ℕ) → place_of s n ≡ Some c → (place_of (meaning s) n ≡ Some (unembed s c)) × (embed s (unembed s c) ≡ c)
  class_back n plain c h = go (place_of (meaning s) n) refl
    where
      go : (o : Option ℕ) → place_of (meaning s) n ≡ o → (place_of (meaning s) n ≡ Some (unembed s c)) × (embed s (unembed s c) ≡ c)
      go None e = absurd (none-some c (sym (name_placed s n plain ∙ ap (option_map (embed s)) e) ∙ h))
      go (Some k) e =
          let there : embed s k ≡ c = same_Some (embed s k) c (sym (name_placed s n plain ∙ ap (option_map (embed s)) e) ∙ h) in
          let here : unembed s c ≡ k = ap (unembed s) (sym there) ∙ back_again s k in
          (e ∙ ap Some (sym here), ap (embed s) here ∙ there)

  pub names_in : SameNames (meaning s) s
  names_in = record {
    none = λ n plain h. name_placed s n plain ∙ ap (option_map (embed s)) h;
    role = λ n plain. role_kept s n plain;
  }

  pub names_back : SameNames s (meaning s)
  names_back = record {
    none = λ n plain h. go n plain (place_of (meaning s) n) refl h;
    role = λ n plain. sym (role_kept s n plain);
  }
    where
      go : (n : Name) → list_any is_semicolon n.rty ≡ false → (o : Option ℕ) → place_of (meaning s) n ≡ o → place_of s n ≡ None → place_of (meaning s) n ≡ None
      go n plain None e h = e
      go n plain (Some k) e h = absurd (none-some (embed s k) (sym h ∙ (name_placed s n plain ∙ ap (option_map (embed s)) e)))

  -- ---- attributes

  plain_type : (n : Name) → n.rty ≡ codes "ATT" → list_any is_semicolon n.rty ≡ false
  plain_type n e = ap (list_any is_semicolon) e

  number_kept : (n : Name) → n.rty ≡ codes "ATT" → is_number_named (meaning s) n ≡ is_number_named s n
  number_kept n e = ap (option_map (λ c. c.is_number)) (attribute_kept s n (plain_type n e) e)

  attribute_in : (a : Attribute) (p : PlanAttribute) → a.atp.rty ≡ codes "ATT" → StatesPlanAttribute (meaning s) a p → StatesPlanAttribute s a (renamed_attribute (embed s) p)
  attribute_in a p e h = record {
    class = class_in a.atp (plain_type a.atp e) p.atp h.class;
    set = h.set;
    value = subst (λ n. IsValueOf (n ≡ Some true) a.atv p.value) (number_kept a.atp e) h.value;
  }

  attribute_back : (a : Attribute) (p : PlanAttribute) → a.atp.rty ≡ codes "ATT" → StatesPlanAttribute s a p → StatesPlanAttribute (meaning s) a (renamed_attribute (unembed s) p)
  attribute_back a p e h = record {
    class = (class_back a.atp (plain_type a.atp e) p.atp h.class).0;
    set = h.set;
    value = subst (λ n. IsValueOf (n ≡ Some true) a.atv p.value) (sym (number_kept a.atp e)) h.value;
  }

  attribute_again : (a : Attribute) (p : PlanAttribute) → a.atp.rty ≡ codes "ATT" → StatesPlanAttribute s a p → renamed_attribute (embed s) (renamed_attribute (unembed s) p) ≡ p
  attribute_again a p e h = let same = (class_back a.atp (plain_type a.atp e) p.atp h.class).1 in λ i. record { atp = same i; tex = p.tex; value = p.value }

  attributes_in : (bs : List Attribute) (ps : List PlanAttribute) → AllByRecursion (λ a. a.atp.rty ≡ codes "ATT") bs → AllZip (StatesPlanAttribute (meaning s)) bs ps → AllZip (StatesPlanAttribute s) bs (map (renamed_attribute (embed s)) ps)
  attributes_in [] [] types all = tt
  attributes_in [] (p ∷ ps) types all = absurd all
  attributes_in (a ∷ rest) [] types all = absurd all
  attributes_in (a ∷ rest) (p ∷ ps) types all = (attribute_in a p types.0 all.0, attributes_in rest ps types.1 all.1)

  attributes_back : (bs : List Attribute) (ps : List PlanAttribute) → AllByRecursion (λ a. a.atp.rty ≡ codes "ATT") bs → AllZip (StatesPlanAttribute s) bs ps → AllZip (StatesPlanAttribute (meaning s)) bs (map (renamed_attribute (unembed s)) ps)
  attributes_back [] [] types all = tt
  attributes_back [] (p ∷ ps) types all = absurd all
  attributes_back (a ∷ rest) [] types all = absurd all
  attributes_back (a ∷ rest) (p ∷ ps) types all = (attribute_back a p types.0 all.0, attributes_back rest ps types.1 all.1)

  attributes_again : (bs : List Attribute) (ps : List PlanAttribute) → AllByRecursion (λ a. a.atp.rty ≡ codes "ATT") bs → AllZip (StatesPlanAttribute s) bs ps
      → map (renamed_attribute (embed s)) (map (renamed_attribute (unembed s)) ps) ≡ ps
  attributes_again [] [] types all = refl
  attributes_again [] (p ∷ ps) types all = absurd all
  attributes_again (a ∷ rest) [] types all = absurd all
  attributes_again (a ∷ rest) (p ∷ ps) types all = λ i. attribute_again a p types.0 all.0 i ∷ attributes_again rest ps types.1 all.1 i

  -- ---- records

  module _ (list : List Record) where
    record_in : (r : Record) (p : PlanRecord) → list_any is_semicolon r.scp.rty ≡ false → AllByRecursion (λ a. a.atp.rty ≡ codes "ATT") r.attributes
        → StatesPlanRecord (meaning s) list r p → StatesPlanRecord s list r (renamed_record (embed s) p)
    record_in r p plain types h = record {
      kind = h.kind;
      class = class_in r.scp plain p.class h.class;
      role = sym (role_kept s r.scp plain) ∙ h.role;
      points = h.points;
      attributes = attributes_in r.attributes p.attributes types h.attributes;
      extras = h.extras;
      ends = h.ends;
    }

    record_back : (r : Record) (p : PlanRecord) → list_any is_semicolon r.scp.rty ≡ false → AllByRecursion (λ a. a.atp.rty ≡ codes "ATT") r.attributes
        → StatesPlanRecord s list r p → StatesPlanRecord (meaning s) list r (renamed_record (unembed s) p)
    record_back r p plain types h = record {
      kind = h.kind;
      class = (class_back r.scp plain p.class h.class).0;
      role = role_kept s r.scp plain ∙ h.role;
      points = h.points;
      attributes = attributes_back r.attributes p.attributes types h.attributes;
      extras = h.extras;
      ends = h.ends;
    }

    record_again : (r : Record) (p : PlanRecord) → list_any is_semicolon r.scp.rty ≡ false → AllByRecursion (λ a. a.atp.rty ≡ codes "ATT") r.attributes
        → StatesPlanRecord s list r p → renamed_record (embed s) (renamed_record (unembed s) p) ≡ p
    record_again r p plain types h =
        let same = (class_back r.scp plain p.class h.class).1 in
        let attributes = attributes_again r.attributes p.attributes types h.attributes in
        λ i. record { kind = p.kind; class = same i; role = p.role; points = p.points; attributes = attributes i; extras = p.extras; ends = p.ends }

    records_in : (rs : List Record) (ps : List PlanRecord) → Nameable rs → Attributed rs → AllZip (StatesPlanRecord (meaning s) list) rs ps → AllZip (StatesPlanRecord s list) rs (map (renamed_record (embed s)) ps)
    records_in [] [] plain types all = tt
    records_in [] (p ∷ ps) plain types all = absurd all
    records_in (r ∷ rs) [] plain types all = absurd all
    records_in (r ∷ rs) (p ∷ ps) plain types all = (record_in r p plain.0 types.0 all.0, records_in rs ps plain.1 types.1 all.1)

    records_back : (rs : List Record) (ps : List PlanRecord) → Nameable rs → Attributed rs → AllZip (StatesPlanRecord s list) rs ps → AllZip (StatesPlanRecord (meaning s) list) rs (map (renamed_record (unembed s)) ps)
    records_back [] [] plain types all = tt
    records_back [] (p ∷ ps) plain types all = absurd all
    records_back (r ∷ rs) [] plain types all = absurd all
    records_back (r ∷ rs) (p ∷ ps) plain types all = (record_back r p plain.0 types.0 all.0, records_back rs ps plain.1 types.1 all.1)

    records_again : (rs : List Record) (ps : List PlanRecord) → Nameable rs → Attributed rs → AllZip (StatesPlanRecord s list) rs ps → map (renamed_record (embed s)) (map (renamed_record (unembed s)) ps) ≡ ps
    records_again [] [] plain types all = refl
    records_again [] (p ∷ ps) plain types all = absurd all
    records_again (r ∷ rs) [] plain types all = absurd all
    records_again (r ∷ rs) (p ∷ ps) plain types all = λ i. record_again r p plain.0 types.0 all.0 i ∷ records_again rs ps plain.1 types.1 all.1 i

  -- ---- plans

  pub plan_in : (sheet : SheetData) (p : PlanData) → Nameable sheet.list → Attributed sheet.list → IsPlanOf (meaning s) sheet p → IsPlanOf s sheet (renamed (embed s) p)
  plan_in sheet p plain types h = record { set = h.set; each = records_in sheet.list sheet.list p.list plain types h.each }

  pub plan_back : (sheet : SheetData) (p : PlanData) → Nameable sheet.list → Attributed sheet.list → IsPlanOf s sheet p → IsPlanOf (meaning s) sheet (renamed (unembed s) p)
  plan_back sheet p plain types h = record { set = h.set; each = records_back sheet.list sheet.list p.list plain types h.each }

  pub plan_again : (sheet : SheetData) (p : PlanData) → Nameable sheet.list → Attributed sheet.list → IsPlanOf s sheet p → renamed (embed s) (renamed (unembed s) p) ≡ p
  plan_again sheet p plain types h = let same = records_again sheet.list sheet.list p.list plain types h.each in λ i. record { cse = p.cse; list = same i }
