-- What holds of the names of an accepted sheet.
use Rattle.std.proofs.Common.{◌≡◌, ℕ, zero, suc, ◌-◌, ◌<◌, ◌≤◌, ◌^◌, ◌⊎◌, inl, inr, Bool, true, false, not, ◌&&◌, ◌||◌, ◌==◌, nat_le, List, [], ◌∷◌, length, Some, slice_get, refl, sym, ap, ◌∙◌, subst, arith}
use Rattle.std.specs.List.{list_any, AllByRecursion}
use Rattle.std.proofs.lemmas.Bool.{cases_lt, or_parts, and_parts, not-true}
use Rattle.std.proofs.lemmas.List.{length-map}
use Rattle.std.proofs.lemmas.List.Folds.{list_any_none}
use Rattle.std.proofs.lemmas.Option.{slice_get_within, same_Some}
use Rattle.edi_line.specs.Bytes.{line_feed}
use Rattle.edi_line.specs.Printing.{IsOneLine}
use Rattle.edi_record.proofs.ReadRecords.{sheet_read}
use Rattle.edi_record.specs.RecordLayout.{IsLineRecord, FollowsRules}
use Rattle.edi_record.specs.Readable.{IsPrintableSheet}
use Rattle.edi_record.specs.RecordRules.{is_identifier}
use Rattle.edi_record.specs.Shapes.{kind_code}
use Rattle.edi_record.specs.Texts.{is_semicolon}
use Rattle.edi_record.specs.declared.record.Record.{Record}
use Rattle.edi_record.specs.Records.{SheetData}
use Rattle.edi_schema.specs.Classes.{Classes}
use Rattle.edi_plan.specs.PlanOf.{own_name}
use Rattle.edi_plan.specs.ReferenceRules.BreaksReferenceRule.{repeats_name}
use Rattle.edi_compare.specs.PlanOfFile.{IsSheetOf}
use Rattle.edi_compare.specs.Rules.{IsAccepted, RecordsHold}
use Rattle.edi_compare.specs.Rules.Breaks.{of_references}
use Rattle.edi_pairing.specs.Names.{AreNames, is_mark, name_at, names_of}
use Rattle.edi_pairing.specs.declared.names.RecordName.{RecordName}

-- the record at a place, and its name
pub record_there : (list : List Record) (k : ℕ) → k < length list → (r : Record) × (slice_get list k ≡ Some r)
record_there [] k less = absurd (omega arith)
record_there (r ∷ rs) zero less = (r, refl)
record_there (r ∷ rs) (suc k) less = record_there rs k (omega arith)

named : Record → RecordName
named r = record { kind = r.kind; rid = r.rid }

named_there : (list : List Record) (k : ℕ) (r : Record) → slice_get list k ≡ Some r → name_at (names_of list) k ≡ named r
unfolding named
named_there [] k r e = let l = slice_get_within [] k r e in absurd (omega (arith, l))
named_there (q ∷ qs) zero r e = ap named (same_Some q r e)
named_there (q ∷ qs) (suc k) r e = named_there qs k r e

pub kind_there : (list : List Record) (k : ℕ) (r : Record) → slice_get list k ≡ Some r → (name_at (names_of list) k).kind ≡ r.kind
unfolding named
kind_there list k r e = ap (λ (n : RecordName). n.kind) (named_there list k r e)

holds_there : {X : Type 0} (P : X → Type 0) (xs : List X) (k : ℕ) (x : X) → AllByRecursion P xs → slice_get xs k ≡ Some x → P x
holds_there P [] k x all e = let l = slice_get_within [] k x e in absurd (omega (arith, l))
holds_there P (y ∷ ys) zero x all e = subst P (same_Some y x e) all.0
holds_there P (y ∷ ys) (suc k) x all e = holds_there P ys k x all.1 e

-- ---- identifiers without marks

none_of_both : (p q : ℕ → Bool) (xs : List ℕ) → list_any p xs ≡ false → list_any q xs ≡ false → list_any (λ c. p c || q c) xs ≡ false
none_of_both p q [] hp hq = refl
none_of_both p q (x ∷ xs) hp hq =
    let ps = or_parts (p x) (list_any p xs) hp in
    let qs = or_parts (q x) (list_any q xs) hq in
    rw (ps.0, qs.0) (none_of_both p q xs ps.1 qs.1)

plain_identifier : (rid : List ℕ) → is_identifier rid ≡ true → IsOneLine rid → list_any is_mark rid ≡ false
plain_identifier rid h one =
    let short = and_parts (nat_le 1 (length rid)) (nat_le (length rid) 255 && not (list_any is_semicolon rid)) h in
    let no_semicolon = not-true (list_any is_semicolon rid) (and_parts (nat_le (length rid) 255) (not (list_any is_semicolon rid)) short.1).1 in
    none_of_both is_semicolon (λ c. c == line_feed) rid no_semicolon (list_any_none (λ c. c == line_feed) rid one)

-- ---- the names of an accepted sheet

module _ (s : Classes) (bytes : List ℕ) (sheet : SheetData) (is_sheet : IsSheetOf bytes sheet) (held : RecordsHold s bytes) (accepted : IsAccepted s bytes) where
  -- no record has the name of an earlier one
  no_repeat : (j k : ℕ) (q r : Record) → j < k → slice_get sheet.list j ≡ Some q → slice_get sheet.list k ≡ Some r → own_name q ≡ own_name r → ⊥
  no_repeat j k q r less there here same =
      let at : suc j - 1 ≡ j = omega arith in
      let at' : suc k - 1 ≡ k = omega arith in
      accepted 301 (suc k) (of_references sheet held is_sheet (repeats_name refl
      (suc j, q, r, omega arith, (omega arith, ap (slice_get sheet.list) at ∙ there), (omega arith, ap (slice_get sheet.list) at' ∙ here), same)))

  same_names : (q r : Record) → named q ≡ named r → own_name q ≡ own_name r
  unfolding named
  same_names q r e i = record { rty = kind_code (e i).kind; rid = (e i).rid }

  names_apart : (j k : ℕ) → j < length sheet.list → k < length sheet.list → name_at (names_of sheet.list) j ≡ name_at (names_of sheet.list) k → j ≡ k
  names_apart j k below below' e =
      let q = record_there sheet.list j below in
      let r = record_there sheet.list k below' in
      let same = same_names q.0 r.0 (sym (named_there sheet.list j q.0 q.1) ∙ (e ∙ named_there sheet.list k r.0 r.1)) in
      go q.0 q.1 r.0 r.1 same (cases_lt j k) (cases_lt k j)
    where
      go : (q : Record) → slice_get sheet.list j ≡ Some q → (r : Record) → slice_get sheet.list k ≡ Some r → own_name q ≡ own_name r → (j < k) ⊎ (k ≤ j) → (k < j) ⊎ (j ≤ k) → j ≡ k
      go q there r here same (inl less) other = absurd (no_repeat j k q r less there here same)
      go q there r here same (inr past) (inl more) = absurd (no_repeat k j r q more here there (sym same))
      go q there r here same (inr past) (inr past') = omega arith

  module _ (short : length bytes < 2 ^ 64) where
    printable : IsPrintableSheet sheet
    printable = sheet_read bytes is_sheet.0 sheet short is_sheet.1 held.0 is_sheet.2 (held.1 is_sheet.0 is_sheet.1)

    plain_there : (k : ℕ) → k < length sheet.list → list_any is_mark (name_at (names_of sheet.list) k).rid ≡ false
    unfolding named
    plain_there k below =
        let r = record_there sheet.list k below in
        let rules : FollowsRules r.0 = holds_there FollowsRules sheet.list k r.0 printable.rules r.1 in
        let lines : IsLineRecord r.0 = holds_there IsLineRecord sheet.list k r.0 printable.lines r.1 in
        ap (λ (n : RecordName). list_any is_mark n.rid) (named_there sheet.list k r.0 r.1) ∙ plain_identifier r.0.rid rules.identifier lines.rid

    pub names_sound : length sheet.list ≤ 9999999 → AreNames (names_of sheet.list)
    names_sound few =
        let long : length (names_of sheet.list) ≡ length sheet.list = length-map sheet.list (λ r. record { kind = r.kind; rid = r.rid }) in
        record {
          few = omega (arith, long);
          plain = λ k below. plain_there k (omega (arith, long, below));
          distinct = λ j k below below' e. names_apart j k (omega (arith, long, below)) (omega (arith, long, below')) e;
        }
