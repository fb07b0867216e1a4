-- The layout of a plan is the same with its classes renamed, where the names are.
use Rattle.std.proofs.Common.{◌≡◌, ℕ, ◌+◌, List, [], ◌∷◌, ◌++◌, length, map, take, Option, Some, None, option_map, unwrap_or, count_by, codes, refl, sym, ap, ◌∙◌}
use Rattle.std.specs.Prelude.{flat_map, option_to_list, slice_get}
use Rattle.std.specs.List.{AllByRecursion}
use Rattle.std.proofs.lemmas.List.{length-map, take-map}
use Rattle.edi_line.specs.Bytes.{letter_a}
use Rattle.edi_line.specs.Printing.{printed}
use Rattle.edi_record.specs.CanonicalZones.{attribute_count_zone, attribute_zone, begin_zone, class_zone, cse_zone, end_count_zone, end_zone, extra_zone, identifier_zone, set_zone, sns_zone, target_zone, type_zone, value_zone}
use Rattle.edi_record.specs.Shapes.{kind_code}
use Rattle.edi_record.specs.declared.name.Name.{Name}
use Rattle.edi_record.specs.declared.record.Kind.{Kind}
use Rattle.edi_record.specs.declared.record.Kind.TheVariants.{Pno, Par, Pfe, Fea, Lnk}
use Rattle.edi_schema.specs.Classes.{Classes}
use Rattle.edi_schema.specs.declared.class.Class.{Class}
use Rattle.edi_plan.specs.Plans.{PlanData, record_at, same_kind}
use Rattle.edi_plan.specs.declared.record.PlanAttribute.{PlanAttribute}
use Rattle.edi_plan.specs.declared.record.PlanEnd.{PlanEnd}
use Rattle.edi_plan.specs.declared.record.PlanRecord.{PlanRecord}
use Rattle.edi_rank.proofs.KeysPreserved.{count_by-map}
use Rattle.edi_write.specs.Layout.{attribute_zones, body_zones, class_letter_of, class_name_of, end_zones, identifier, layout, name_in, no_name, number_in, record_zones, zones_from}
use Rattle.edi_write.specs.Written.{HasAttributeClasses}
use Rattle.edi_schema_text.proofs.Meaning.{meaning, meaning_of}
use Rattle.edi_schema_text.proofs.Named.{settled_same}
use Rattle.edi_schema_meaning.proofs.Embed.{class_placed, embed, stands}
use Rattle.edi_schema_meaning.proofs.Renamed.{kind_at, renamed, renamed_attribute, renamed_record}

-- ---- names and letters

name_placed_of : (s : Classes) (k : ℕ) → class_name_of s (embed s k) ≡ class_name_of (meaning s) k
name_placed_of s k = ap (λ o. unwrap_or o no_name) (sym (class_placed s k))

letter_placed : (s : Classes) (k : ℕ) → (class_name_of (meaning s) k).rty ≡ codes "ATT" → class_letter_of s (embed s k) ≡ class_letter_of (meaning s) k
letter_placed s k att = go (slice_get s (embed s k)) refl
  where
    go : (o : Option (Name × Class)) → slice_get s (embed s k) ≡ o → class_letter_of s (embed s k) ≡ class_letter_of (meaning s) k
    go None h =
        ap (λ x. unwrap_or (option_map (λ c. c.letter) (option_map (λ e. e.1) x)) letter_a) h
        ∙ sym (ap (λ x. unwrap_or (option_map (λ c. c.letter) (option_map (λ e. e.1) x)) letter_a) (stands s k ∙ ap (option_map meaning_of) h))
    go (Some e) h =
        let name : class_name_of (meaning s) k ≡ e.0 =
        ap (λ o. unwrap_or o no_name) (Rattle.std.proofs.lemmas.Option.slice_get-map (λ x. x.0) (meaning s) k ∙ ap (option_map (λ x. x.0)) (stands s k ∙ ap (option_map meaning_of) h)) in
        let is : e.0.rty ≡ codes "ATT" = ap (λ n. n.rty) (sym name) ∙ att in
        ap (λ x. unwrap_or (option_map (λ c. c.letter) (option_map (λ e. e.1) x)) letter_a) h
        ∙ (ap (λ c. c.letter) (sym (settled_same e.0.rty e.1 is))
        ∙ sym (ap (λ x. unwrap_or (option_map (λ c. c.letter) (option_map (λ e. e.1) x)) letter_a) (stands s k ∙ ap (option_map meaning_of) h)))

module _ (s : Classes) (p : PlanData) where
  -- ---- numbers

  number_same : (k : ℕ) → number_in (meaning s) (renamed (embed s) p) k ≡ number_in (meaning s) p k
  number_same k = ap (λ n. n + 1)
      ((λ i. count_by (λ r. same_kind (kind_at (embed s) p k i) r.kind) (take k (map (renamed_record (embed s)) p.list)))
      ∙ (ap (count_by (λ r. same_kind (record_at p k).kind r.kind)) (take-map (renamed_record (embed s)) k p.list)
      ∙ count_by-map (λ r. same_kind (record_at p k).kind r.kind) (renamed_record (embed s)) (take k p.list)))

  name_same : (k : ℕ) → name_in s (renamed (embed s) p) k ≡ name_in (meaning s) p k
  name_same k = λ i. record { rty = kind_code (kind_at (embed s) p k i); rid = identifier (kind_at (embed s) p k i) (number_same k i) }

  -- ---- zones

  attribute_same : (a : PlanAttribute) → (class_name_of (meaning s) a.atp).rty ≡ codes "ATT" → attribute_zones s (renamed_attribute (embed s) a) ≡ attribute_zones (meaning s) a
  attribute_same a att = λ i. attribute_zone (name_placed_of s a.atp i) ∷ (map set_zone (option_to_list a.tex) ++ value_zone (letter_placed s a.atp att i) a.value ∷ [])

  attributes_same : (xs : List PlanAttribute) → AllByRecursion (λ a. (class_name_of (meaning s) a.atp).rty ≡ codes "ATT") xs
      → flat_map (attribute_zones s) (map (renamed_attribute (embed s)) xs) ≡ flat_map (attribute_zones (meaning s)) xs
  attributes_same [] all = refl
  attributes_same (a ∷ xs) all = λ i. attribute_same a all.0 i ++ attributes_same xs all.1 i

  end_same : (e : PlanEnd) → end_zones s (renamed (embed s) p) e ≡ end_zones (meaning s) p e
  end_same e = λ i. target_zone (name_same e.target i) ∷ map sns_zone (option_to_list e.sns)

  body_same : (kind : Kind) (r : PlanRecord) → body_zones s (renamed (embed s) p) kind (renamed_record (embed s) r) ≡ body_zones (meaning s) p kind r
  body_same Pno r = refl
  body_same Par r = refl
  body_same Pfe r = refl
  body_same Fea r = refl
  body_same Lnk r = λ i. end_count_zone (length r.ends) ∷ flat_map (λ e. end_same e i) r.ends

  record_same : (number : ℕ) (r : PlanRecord) → AllByRecursion (λ a. (class_name_of (meaning s) a.atp).rty ≡ codes "ATT") r.attributes
      → record_zones s (renamed (embed s) p) number (renamed_record (embed s) r) ≡ record_zones (meaning s) p number r
  record_same number r all = λ i.
      (type_zone r.kind ∷ identifier_zone (identifier r.kind number) ∷ class_zone (name_placed_of s r.class i) ∷ [])
      ++ (body_same r.kind r i
      ++ (attribute_count_zone (length-map r.attributes (renamed_attribute (embed s)) i) ∷ (attributes_same r.attributes all i ++ map extra_zone r.extras)))

  zones_same : (place : ℕ) (rs : List PlanRecord) → AllByRecursion (λ r. AllByRecursion (λ a. (class_name_of (meaning s) a.atp).rty ≡ codes "ATT") r.attributes) rs
      → zones_from s (renamed (embed s) p) place (map (renamed_record (embed s)) rs) ≡ zones_from (meaning s) p place rs
  zones_same place [] all = refl
  zones_same place (r ∷ rs) all =
      (λ i. record_zones s (renamed (embed s) p) (number_same place i) (renamed_record (embed s) r) ++ zones_same (place + 1) rs all.1 i)
      ∙ ap (λ z. z ++ zones_from (meaning s) p (place + 1) rs) (record_same (number_in (meaning s) p place) r all.0)

  pub layout_same : HasAttributeClasses (meaning s) p → layout s (renamed (embed s) p) ≡ layout (meaning s) p
  unfolding layout
  layout_same all = ap printed (λ i. begin_zone ∷ (map cse_zone (option_to_list p.cse) ++ (zones_same 0 p.list all i ++ end_zone ∷ [])))
