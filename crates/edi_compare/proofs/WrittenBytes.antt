-- The layout of a plan of bytes under a schema of bytes is bytes.
use Rattle.std.proofs.Common.{◌≡◌, ℕ, zero, suc, ◌<◌, ◌^◌, Bool, List, [], ◌∷◌, map, Some, slice_get, refl, sym, ◌∙◌, subst, arith}
use Rattle.std.specs.Prelude.{codes, decimal, IfSome}
use Rattle.std.specs.List.{AllByRecursion, AllZip}
use Rattle.std.proofs.lemmas.Option.{same_Some, slice_get_within}
use Rattle.edi_line.specs.Bytes.{IsBytes}
use Rattle.edi_line.proofs.EachElement.{each_in_any_order, each_from_found}
use Rattle.edi_record.specs.CanonicalZones.{value_text}
use Rattle.edi_record.specs.LinkEnds.{EndData}
use Rattle.edi_record.specs.RecordLayout.{zones_of_sheet}
use Rattle.edi_record.specs.declared.record.Attribute.{Attribute}
use Rattle.edi_record.specs.declared.record.Kind.{Kind}
use Rattle.edi_record.specs.declared.record.Kind.TheVariants.{Pno, Par, Pfe, Fea, Lnk}
use Rattle.edi_record.specs.declared.record.Record.{Record}
use Rattle.edi_record.specs.Records.{SheetData}
use Rattle.edi_record.specs.inner.Records.{value_of}
use Rattle.edi_record.proofs.Printable.{sheet_printable}
use Rattle.edi_schema.specs.Classes.{Classes, IsSchema}
use Rattle.edi_schema.proofs.Ordered.{all_at}
use Rattle.edi_plan.specs.Agreeing.{Agrees}
use Rattle.edi_plan.specs.PlanOf.{IsPlanOf, StatesPlanAttribute, StatesPlanEnd, StatesPlanRecord}
use Rattle.edi_plan.specs.Plans.{PlanData, IsPlace, record_at, blank}
use Rattle.edi_plan.specs.Whole.{IsWholePlan}
use Rattle.edi_plan.specs.declared.record.PlanAttribute.{PlanAttribute}
use Rattle.edi_plan.specs.declared.record.PlanEnd.{PlanEnd}
use Rattle.edi_plan.specs.declared.record.PlanRecord.{PlanRecord}
use Rattle.edi_plan.proofs.Built.{value_found, zip_at}
use Rattle.edi_rank.specs.Same.{CarriesRecord, Same, moved}
use Rattle.edi_rank.proofs.SameLaws.{ends_moved}
use Rattle.edi_write.specs.Layout.{class_name_of, identifier, kind_letter, layout, number_in}
use Rattle.edi_write.specs.Written.{letters, written_attribute, written_end, written_record, written_records, CanBePrinted}
use Rattle.edi_write.proofs.Naming.{number_few}
use Rattle.edi_write.proofs.WrittenPrinted.{letters_printable}
use Rattle.edi_write.proofs.WrittenRecords.{written_at, written_count, written_layout}
use Rattle.edi_compare.specs.Sameness.{HasByteNames}
use Rattle.edi_compare.proofs.PrintedBytes.{known_bytes, printed_values}
use Rattle.edi_compare.proofs.ReadBytes.{is_bytes}
use Rattle.edi_compare.proofs.SheetBytes.{HasBytesOfExtra, HasReadBytes, HasSheetBytes, IsByteName, IsByteAttribute, IsByteEnd, IsByteRecord, decimal_bytes, kind_bytes, own_bytes, sheet_laid, whole_bytes}

-- ---- names

name_bytes : (s : Classes) → HasByteNames s → (class : ℕ) → IsByteName (class_name_of s class)
name_bytes [] names class = (is_bytes [] tt, is_bytes [] tt)
name_bytes (e ∷ es) names zero = names.0
name_bytes (e ∷ es) names (suc class) = name_bytes es names.1 class

letter_bytes : (kind : Kind) → IsBytes (kind_letter kind)
letter_bytes Pno = is_bytes (codes "N") (known_bytes (codes "N") refl)
letter_bytes Par = is_bytes (codes "A") (known_bytes (codes "A") refl)
letter_bytes Pfe = is_bytes (codes "F") (known_bytes (codes "F") refl)
letter_bytes Fea = is_bytes (codes "O") (known_bytes (codes "O") refl)
letter_bytes Lnk = is_bytes (codes "L") (known_bytes (codes "L") refl)

identifier_bytes : (kind : Kind) (number : ℕ) → number < 2 ^ 64 → IsBytes (identifier kind number)
identifier_bytes kind number few = whole_bytes (kind_letter kind) (decimal number) (letter_bytes kind) (decimal_bytes number few)

-- ---- records of a plan

abbrev AttributeHasBytes : PlanAttribute → Type 0
AttributeHasBytes a = IfSome a.tex IsBytes × IsBytes (value_text a.value)

abbrev EndHasBytes : PlanEnd → Type 0
EndHasBytes e = IfSome e.sns IsBytes

record HasPlanBytes (x : PlanRecord) : Type 0 where
  attributes : AllByRecursion AttributeHasBytes x.attributes
  ends : AllByRecursion EndHasBytes x.ends
  extras : AllByRecursion HasBytesOfExtra x.extras

attributes_stated : (s : Classes) (bs : List Attribute) (xs : List PlanAttribute) → AllByRecursion (λ b. IfSome b.tex IsBytes × IsBytes b.atv) bs → AllZip (StatesPlanAttribute s) bs xs → AllByRecursion AttributeHasBytes xs
attributes_stated s [] [] h all = tt
attributes_stated s [] (x ∷ xs) h all = absurd all
attributes_stated s (b ∷ bs) [] h all = absurd all
attributes_stated s (b ∷ bs) (x ∷ xs) h all =
    let may : (m : Bool) → IsBytes (value_text (value_of m b.atv)) = λ m. own_bytes m b.atv h.0.1 in (
      (subst (λ t. IfSome t IsBytes) (sym all.0.set) h.0.0, subst (λ v. IsBytes (value_text v)) (sym (value_found s b.atp b.atv x.value all.0.value)) (may _)),
      attributes_stated s bs xs h.1 all.1,
    )

ends_stated : (list : List Record) (ds : List EndData) (es : List PlanEnd) → AllByRecursion (λ d. IfSome d.sns IsBytes) ds → AllZip (StatesPlanEnd list) ds es → AllByRecursion EndHasBytes es
ends_stated list [] [] h all = tt
ends_stated list [] (e ∷ es) h all = absurd all
ends_stated list (d ∷ ds) [] h all = absurd all
ends_stated list (d ∷ ds) (e ∷ es) h all = (subst (λ t. IfSome t IsBytes) (sym all.0.sns) h.0, ends_stated list ds es h.1 all.1)

record_stated : (s : Classes) (list : List Record) (r : Record) (x : PlanRecord) → HasReadBytes r → StatesPlanRecord s list r x → HasPlanBytes x
record_stated s list r x h states = record {
  attributes = attributes_stated s r.attributes x.attributes h.attributes states.attributes;
  ends = ends_stated list r.ends x.ends h.ends states.ends;
  extras = subst (AllByRecursion HasBytesOfExtra) (sym states.extras) h.extras;
}

ends_carried : (to : ℕ → ℕ) (es : List PlanEnd) → AllByRecursion EndHasBytes es → AllByRecursion EndHasBytes (map (moved to) es)
ends_carried to [] h = tt
ends_carried to (e ∷ es) h = (h.0, ends_carried to es h.1)

record_carried : (s : Classes) (to : ℕ → ℕ) (turned : ℕ → Bool) (i : ℕ) (x y : PlanRecord) → CarriesRecord s to turned i x y → HasPlanBytes x → HasPlanBytes y
record_carried s to turned i x y c h = record {
  attributes = each_in_any_order AttributeHasBytes x.attributes y.attributes c.attributes h.attributes;
  ends = each_in_any_order EndHasBytes (map (moved to) x.ends) y.ends (ends_moved s to turned i x y c) (ends_carried to x.ends h.ends);
  extras = subst (AllByRecursion HasBytesOfExtra) (sym c.extras) h.extras;
}

-- ---- what is written of them

module _ (s : Classes) (names : HasByteNames s) (q : PlanData) (whole : IsWholePlan q) where
  attributes_written : (xs : List PlanAttribute) → AllByRecursion AttributeHasBytes xs → AllByRecursion IsByteAttribute (map (written_attribute s) xs)
  attributes_written [] h = tt
  attributes_written (a ∷ xs) h = ((name_bytes s names a.atp, h.0), attributes_written xs h.1)

  ends_written : (es : List PlanEnd) → AllByRecursion EndHasBytes es → AllByRecursion IsByteEnd (map (written_end s q) es)
  ends_written [] h = tt
  ends_written (e ∷ es) h =
      let kind = (record_at q e.target).kind in
      (((kind_bytes kind, identifier_bytes kind (number_in s q e.target) (number_few s q whole e.target)), h.0), ends_written es h.1)

  record_written : (k : ℕ) (y : PlanRecord) → HasPlanBytes y → IsByteRecord (written_record s q (number_in s q k) y)
  record_written k y h = record {
    rid = identifier_bytes y.kind (number_in s q k) (number_few s q whole k);
    class = name_bytes s names y.class;
    attributes = attributes_written y.attributes h.attributes;
    ends = ends_written y.ends h.ends;
    extras = h.extras;
  }

  all_written : ((k : ℕ) → IsPlace q k → HasPlanBytes (record_at q k)) → AllByRecursion IsByteRecord (written_records s q)
  all_written h = each_from_found IsByteRecord (written_records s q) each
    where
      each : (k : ℕ) (r : Record) → slice_get (written_records s q) k ≡ Some r → IsByteRecord r
      each k r e =
          let within = slice_get_within (written_records s q) k r e in
          let there : IsPlace q k = omega (arith, within, written_count s q) in
          subst IsByteRecord (same_Some _ r (sym (written_at s q k there) ∙ e)) (record_written k (record_at q k) (h k there))

-- ---- the plan of a sheet, carried

module _ (s : Classes) (sheet : SheetData) (p q : PlanData) (has : HasSheetBytes sheet) (plan : IsPlanOf s sheet p) (same : Same s p q) where
  at_old : (i : ℕ) → IsPlace p i → HasPlanBytes (record_at p i)
  at_old i h =
      let d = zip_at (StatesPlanRecord s sheet.list) sheet.list p.list plan.each i blank h in
      record_stated s sheet.list d.0 (record_at p i) (all_at HasReadBytes sheet.list has.records i d.0 d.1) d.2

  at_new : (k : ℕ) → IsPlace q k → HasPlanBytes (record_at q k)
  at_new k h =
      let from = same.2.places.onto k h in
      subst (λ j. HasPlanBytes (record_at q j)) from.2
      (record_carried s same.0 same.1 from.0 (record_at p from.0) (record_at q (same.0 from.0)) (same.2.each from.0 from.1) (at_old from.0 from.1))

  set : IfSome q.cse IsBytes
  set = subst (λ o. IfSome o IsBytes) (sym (same.2.cse ∙ plan.set)) has.cse

  pub layout_bytes : HasByteNames s → IsSchema s → IsWholePlan q → Agrees s q → CanBePrinted q.cse (written_records s q) → IsBytes (layout s q)
  layout_bytes names keeps whole agrees can =
      let rs = written_records s q in
      subst IsBytes (sym (written_layout s q keeps whole agrees))
      (printed_values (zones_of_sheet (letters s) q.cse rs) (sheet_printable (letters s) q.cse rs (letters_printable s keeps) can.set can.records can.lines)
      (sheet_laid (letters s) q.cse rs set can.lines (all_written s names q whole at_new)))
