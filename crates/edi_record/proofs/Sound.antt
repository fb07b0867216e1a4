-- What is printed breaks no rule.
use Rattle.std.proofs.Common.{◌≡◌, ℕ, ◌≤◌, true, false, inl, List, [], ◌∷◌, ◌++◌, map, length, Option, Some, None, codes, bytes_eq, refl, sym, ap, ◌∙◌, subst, arith}
use Rattle.std.specs.Prelude.{flat_map, option_map, option_to_list, IfSome}
use Rattle.std.specs.List.{AllByRecursion}
use Rattle.std.proofs.lemmas.List.{length-map}
use Rattle.edi_line.specs.ZoneData.{ZoneData}
use Rattle.edi_line.specs.Refusal.{IsUnbroken}
use Rattle.edi_line.specs.inner.Refusal.{first_broken}
use Rattle.edi_line.specs.Zones.{IsGroup, IsFileOf, groups_of}
use Rattle.edi_line.proofs.ZonesFound.{zones_of}
use Rattle.edi_line.specs.LineKinds.{is_inner}
use Rattle.edi_line.specs.Printing.{zone_text, line_numbered, IsOneLine}
use Rattle.edi_line.proofs.FirstBroken.{none_broken}
use Rattle.edi_line.proofs.Printed.{printed_again}
use Rattle.edi_line.proofs.PrintedRules as lines
use Rattle.edi_line.proofs.Said.{file_said}
use Rattle.edi_line.proofs.Readings.{unbroken_read}
use Rattle.edi_line.proofs.ZonesSaid.{zones_said}
use Rattle.edi_line.proofs.EachElement.{each_weaker, each_mapped}
use Rattle.edi_record.proofs.RulesSaid.{records_unbroken}
use Rattle.edi_record.specs.Shapes.{kind_code}
use Rattle.edi_record.specs.inner.RecordRules.{record_tests, FailsTest}
use Rattle.edi_record.specs.CanonicalZones.{class_text, extra_zone, begin_zone, end_zone, cse_zone}
use Rattle.edi_record.specs.RecordLayout.{Letters, HasPrintableLetters, zones_of_body, zones_of_record, zones_of_sheet, records_layout, IsExtra, IsRecord, IsLineRecord, FollowsRules}
use Rattle.edi_record.specs.Sound.{IsSoundFile}
use Rattle.edi_record.specs.declared.record.Record.{Record}
use Rattle.edi_record.specs.declared.record.Extra.{Extra}
use Rattle.edi_record.specs.declared.record.Kind.{Kind}
use Rattle.edi_record.proofs.Stated.{record_is, unknown, joined, HoldsInBody, HoldsBehind, body_each, behind, behind_each}
use Rattle.edi_record.proofs.SheetStated.{free_apart}
use Rattle.edi_record.proofs.Printable.{sheet_printable}
use Rattle.edi_record.proofs.PrintedRecords.{printed_unbroken}
use Rattle.edi_record.proofs.Unnumbered.{bare, bare_tests, same_groups}

-- ---- the shape of a file

abbrev IsInner : ZoneData → Type 0
IsInner z = is_inner z.code ≡ true

inner_body : HoldsInBody IsInner
inner_body = record { ptc = λ _. refl; ftc = λ _. refl; cor = λ _. refl; ftp = λ _. refl; sns = λ _. refl }

inner_behind : HoldsBehind IsInner
inner_behind = record { atc = λ _. refl; atp = λ _. refl; tex = λ _. refl; atv = λ _ _. refl }

inner_code : (code : List ℕ) → AllByRecursion (λ known. bytes_eq code known ≡ false) (codes "NEX" ∷ codes "REM" ∷ codes "BOM" ∷ codes "CSE" ∷ codes "EOM" ∷ []) → bytes_eq code (codes "RTY") ≡ false → is_inner code ≡ true
inner_code code h rty = rw (h.1.1.0, h.1.1.1.0, rty, h.1.1.1.1.0) refl

inner_extra : (kind : Kind) (e : Extra) → IsExtra kind e → IsInner (extra_zone e)
inner_extra kind e h = inner_code e.code (free_apart e.code h.free) (unknown kind e h).0

record_group : (s : Letters) (r : Record) → IsRecord r → IsGroup (zones_of_record s r)
record_group s r h = record {
  first = zone_text (codes "RTY") 83 65 (kind_code r.kind);
  rest = zone_text (codes "RID") 83 65 r.rid ∷ zone_text (codes "SCP") 67 80 (class_text r.scp) ∷ (zones_of_body r.kind r.points r.ends ++ behind s r);
  joined = record_is s r;
  leads = refl;
  others = (
    refl,
    (refl, joined IsInner (zones_of_body r.kind r.points r.ends) (behind s r) (body_each IsInner inner_body r.kind r.points r.ends) (behind_each IsInner inner_behind s r (inner_extra r.kind) h)),
  );
}

record_groups : (s : Letters) (rs : List Record) → AllByRecursion IsRecord rs → AllByRecursion IsGroup (map (zones_of_record s) rs)
record_groups s [] h = tt
record_groups s (r ∷ rs) h = (record_group s r h.0, record_groups s rs h.1)

charset_zones : (cse : Option (List ℕ)) → map cse_zone (option_to_list cse) ≡ option_to_list (option_map cse_zone cse)
charset_zones None = refl
charset_zones (Some text) = refl

joined_groups : (zones : Record → List ZoneData) (rs : List Record) → flat_map zones rs ≡ flat_map (λ g. g) (map zones rs)
joined_groups zones [] = refl
joined_groups zones (r ∷ rs) = ap (λ t. zones r ++ t) (joined_groups zones rs)

sheet_file : (s : Letters) (cse : Option (List ℕ)) (rs : List Record) → AllByRecursion IsRecord rs → IsFileOf (zones_of_sheet s cse rs) (option_map cse_zone cse) (map (zones_of_record s) rs)
sheet_file s cse rs h = record {
  head = begin_zone;
  tail = end_zone;
  joined =
      ap (λ t. begin_zone ∷ (t ++ (flat_map (zones_of_record s) rs ++ end_zone ∷ []))) (charset_zones cse)
      ∙ ap (λ t. begin_zone ∷ (option_to_list (option_map cse_zone cse) ++ (t ++ end_zone ∷ []))) (joined_groups (zones_of_record s) rs);
  head_is = refl;
  charset_is = charset_kind cse;
  groups_are = record_groups s rs h;
  tail_is = refl;
}
  where
    charset_kind : (text : Option (List ℕ)) → IfSome (option_map cse_zone text) (λ z. z.code ≡ codes "CSE")
    charset_kind None = tt
    charset_kind (Some text) = refl

-- ---- rules of records

abbrev IsKept : List ZoneData → Type 0
IsKept group = first_broken (record_tests group) ≡ None

unmapped : {X V : Type 0} (P : V → Type 0) (f : X → V) (xs : List X) → AllByRecursion P (map f xs) → AllByRecursion (λ x. P (f x)) xs
unmapped P f [] h = tt
unmapped P f (x ∷ xs) h = (h.0, unmapped P f xs h.1)

-- groups that break no rule break none where they are line_numbered
numbered_kept : (n : ℕ) (zs : List ZoneData) → AllByRecursion IsKept (groups_of zs) → AllByRecursion IsKept (groups_of (line_numbered n zs))
numbered_kept n zs h =
    let plain = each_mapped IsKept bare (groups_of zs) (each_weaker IsKept (λ g. IsKept (bare g)) (λ g k. ap first_broken (bare_tests g) ∙ k) (groups_of zs) h) in
    let same = subst (AllByRecursion IsKept) (sym (same_groups n zs)) plain in
    each_weaker (λ g. IsKept (bare g)) IsKept (λ g k. sym (ap first_broken (bare_tests g)) ∙ k) (groups_of (line_numbered n zs)) (unmapped IsKept bare (groups_of (line_numbered n zs)) same)

records_kept : (s : Letters) (rs : List Record) → AllByRecursion IsRecord rs → AllByRecursion FollowsRules rs → AllByRecursion IsKept (map (zones_of_record s) rs)
records_kept s [] h k = tt
records_kept s (r ∷ rs) h k = (printed_unbroken s r h.0 k.0, records_kept s rs h.1 k.1)

one_of : (before : List (List ZoneData)) (group : List ZoneData) (after : List (List ZoneData)) → AllByRecursion IsKept (before ++ group ∷ after) → IsKept group
one_of [] group after h = h.0
one_of (g ∷ before) group after h = one_of before group after h.1

kept_unbroken : (zones : List ZoneData) → AllByRecursion IsKept (groups_of zones) → IsUnbroken (FailsTest zones)
kept_unbroken zones h rule place b = none_broken (record_tests b.group) (one_of b.before b.group b.after (subst (AllByRecursion IsKept) b.cut h)) rule b.breaks

-- What is printed of a sheet breaks no rule.
pub sheet_sound : (s : Letters) (cse : Option (List ℕ)) (rs : List Record) → HasPrintableLetters s → IfSome cse IsOneLine → AllByRecursion IsRecord rs → AllByRecursion IsLineRecord rs → AllByRecursion FollowsRules rs
    → length rs ≤ 9999999 → IsSoundFile s cse rs
sheet_sound s cse rs letters text is lines_of rules few =
    let file = sheet_file s cse rs is in
    let printable = sheet_printable s cse rs letters text is lines_of in
    let few_groups : length (map (zones_of_record s) rs) ≤ 9999999 = (let same = length-map rs (zones_of_record s) in omega (arith, same, few)) in
    let unbroken = lines.printed_unbroken (zones_of_sheet s cse rs) (option_map cse_zone cse) (map (zones_of_record s) rs) file printable few_groups in
    let groups = file_said (zones_of_sheet s cse rs) (option_map cse_zone cse) (map (zones_of_record s) rs) file in
    let kept = numbered_kept 1 (zones_of_sheet s cse rs) (subst (AllByRecursion IsKept) (sym groups.1) (records_kept s rs is rules)) in
    record {
      file = file;
      zones = zones_of (records_layout s cse rs);
      are_zones = zones_said (records_layout s cse rs) (zones_of (records_layout s cse rs)) (record { readable = λ rule place own broken. unbroken_read (records_layout s cse rs) unbroken rule place (inl broken); is = refl });
      lines = unbroken;
      records = records_unbroken (zones_of (records_layout s cse rs)) (kept_unbroken (zones_of (records_layout s cse rs)) (subst (λ zs. AllByRecursion IsKept (groups_of zs)) (sym (printed_again (zones_of_sheet s cse rs) printable)) kept));
    }
