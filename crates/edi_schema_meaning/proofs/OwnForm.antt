-- A file that is the layout of its own plan is its own canonical file.
use Rattle.std.proofs.Common.{◌≡◌, ℕ, suc, Bool, true, false, cond, List, [], ◌∷◌, Option, Some, None, option_map, unwrap_or, refl, sym, ap, ◌∙◌, subst}
use Rattle.std.specs.Map.{keys_of}
use Rattle.std.proofs.lemmas.Option.{none-some, same_Some}
use Rattle.edi_line.specs.Bytes.{IsBytes}
use Rattle.edi_line.specs.Refusal.{IsUnbroken}
use Rattle.edi_record.specs.RecordLayout.{records_layout}
use Rattle.edi_record.specs.declared.name.Name.{Name}
use Rattle.edi_record.specs.declared.record.Record.{Record}
use Rattle.edi_record.specs.Records.{SheetData}
use Rattle.edi_schema.proofs.Names.{same_name}
use Rattle.edi_schema.specs.Classes.{Classes, IsSchema, class_name_at, is_name, place_of}
use Rattle.edi_plan.proofs.Built.{plans_agreeing, plans_whole}
use Rattle.edi_plan.specs.PlanOf.{IsPlanOf}
use Rattle.edi_plan.specs.Plans.{PlanData}
use Rattle.edi_plan.specs.ReferenceRules.{BreaksReferenceRule}
use Rattle.edi_rank.proofs.SameLaws.{same_refl}
use Rattle.edi_rank.specs.EqualObjects.{BreaksObjectRule}
use Rattle.edi_rank.specs.InOrder.{IsInOrder}
use Rattle.edi_topo.specs.TopologyRules.{BreaksTopologyRule}
use Rattle.edi_write.proofs.WrittenRecords.{written_layout}
use Rattle.edi_write.specs.Layout.{class_name_of, layout, no_name}
use Rattle.edi_write.specs.Written.{letters, written_records}
use Rattle.edi_compare.proofs.Headline.{decide}
use Rattle.edi_compare.proofs.Phases.{all_held, one_plan, references_held, sheet_whole, topology_held}
use Rattle.edi_compare.proofs.Reading.{reading_is_one}
use Rattle.edi_compare.specs.Canonical.{IsCanonical}
use Rattle.edi_compare.specs.Headline.{IsFormOf}
use Rattle.edi_compare.specs.PlanOfFile.{IsPlanOfFile, IsSheetOf, StateSame}
use Rattle.edi_compare.specs.Rules.{IsAccepted, RecordsHold, ReferencesHold}
use Rattle.edi_schema_meaning.proofs.Embed.{position-cons}

-- the name at the place of a name
pub name_there : (s : Classes) (n : Name) (k : ℕ) → place_of s n ≡ Some k → class_name_at s k ≡ Some n
name_there [] n k h = absurd (none-some k h)
name_there (e ∷ s) n k h = go (is_name n e.0) refl (sym (position-cons (is_name n) e.0 (keys_of s)) ∙ h) (name_there s n)
  where
    behind : (o : Option ℕ) → place_of s n ≡ o → option_map suc o ≡ Some k → ((j : ℕ) → place_of s n ≡ Some j → class_name_at s j ≡ Some n) → class_name_at (e ∷ s) k ≡ Some n
    behind None p g more = absurd (none-some k g)
    behind (Some j) p g more = subst (λ i. class_name_at (e ∷ s) i ≡ Some n) (same_Some (suc j) k g) (more j p)

    go : (b : Bool) → is_name n e.0 ≡ b → cond (is_name n e.0) (Some 0) (option_map suc (place_of s n)) ≡ Some k → ((j : ℕ) → place_of s n ≡ Some j → class_name_at s j ≡ Some n) → class_name_at (e ∷ s) k ≡ Some n
    go true same g more =
        let first : 0 ≡ k = same_Some 0 k (sym (ap (λ b. cond b (Some 0) (option_map suc (place_of s n))) same) ∙ g) in
        subst (λ i. class_name_at (e ∷ s) i ≡ Some n) first (ap Some (sym (same_name n e.0 same)))
    go false other g more = behind (place_of s n) refl (sym (ap (λ b. cond b (Some 0) (option_map suc (place_of s n))) other) ∙ g) more

pub name_at_place : (s : Classes) (n : Name) (k : ℕ) → place_of s n ≡ Some k → class_name_of s k ≡ n
name_at_place s n k h = ap (λ o. unwrap_or o no_name) (name_there s n k h)

-- a canonical file is the canonical file of itself
pub own_form : (s : Classes) → IsSchema s → (c : List ℕ) → IsCanonical s c → IsFormOf s c c
own_form s keeps c h =
    let same : StateSame s c c = (h.plan, h.plan, h.states, h.states, same_refl s h.plan) in
    record { accepted = h.accepted; canonical = h; same = same; only = decide reading_is_one s keeps c c h.accepted h same }

-- a file of records that a schema accepts, and whose plan is written as these records
pub record IsWrittenSo (s : Classes) (c : List ℕ) (rs : List Record) (p : PlanData) : Type 0 where
  pub sheet : SheetData
  pub states : IsSheetOf c sheet
  pub list : sheet.list ≡ rs
  pub records : RecordsHold s c
  pub references : IsUnbroken (BreaksReferenceRule s rs)
  pub plan : IsPlanOf s sheet p
  pub no_set : p.cse ≡ None
  pub topology : IsUnbroken (BreaksTopologyRule p)
  pub objects : IsUnbroken (BreaksObjectRule p)
  pub written : written_records s p ≡ rs

module _ (s : Classes) (keeps : IsSchema s) (c : List ℕ) (rs : List Record) (p : PlanData) (h : IsWrittenSo s c rs p) where
  unbroken : IsUnbroken (BreaksReferenceRule s h.sheet.list)
  unbroken = subst (λ l. IsUnbroken (BreaksReferenceRule s l)) (sym h.list) h.references

  pub plan_is : IsPlanOfFile s c p
  plan_is = (h.sheet, h.states, h.plan)

  held : ReferencesHold s c
  held = references_held s c h.records h.sheet h.states unbroken

  pub accepted_so : IsAccepted s c
  accepted_so = all_held s c (topology_held s c held p plan_is h.topology) p plan_is h.objects

  pub laid_out_so : layout s p ≡ records_layout (letters s) None rs
  laid_out_so =
      written_layout s p keeps (plans_whole s h.sheet p h.plan (sheet_whole s c h.records h.sheet h.states) unbroken) (plans_agreeing s h.sheet p h.plan)
      ∙ (λ i. records_layout (letters s) (h.no_set i) (h.written i))

  -- where it is their layout, in order and of bytes, it is canonical
  pub canonical_so : c ≡ records_layout (letters s) None rs → IsBytes c → IsInOrder p → IsCanonical s c
  canonical_so is bytes order = record { plan = p; bytes = bytes; accepted = accepted_so; states = plan_is; laid_out = is ∙ sym laid_out_so; in_order = order }

  -- and where it is canonical, it is
  pub laid_out_back : IsCanonical s c → c ≡ records_layout (letters s) None rs
  laid_out_back k = k.laid_out ∙ (ap (layout s) (one_plan s c k.plan p k.states plan_is) ∙ laid_out_so)

  pub order_back : IsCanonical s c → IsInOrder p
  order_back k = subst IsInOrder (one_plan s c k.plan p k.states plan_is) k.in_order
