-- The records_layout of records states them.
use Rattle.std.proofs.Common.{◌≡◌, ℕ, ◌+◌, true, false, List, [], ◌∷◌, ◌++◌, map, length, filter, flat_map, Option, Some, None, option_map, option_to_list, codes, bytes_eq, refl, sym, ap, ◌∙◌, subst, append_assoc}
use Rattle.std.specs.List.{AllByRecursion, AllZip}
use Rattle.std.proofs.lemmas.Bool.{not-true, or_from}
use Rattle.edi_line.specs.ZoneData.{ZoneData, has_code, first}
use Rattle.edi_line.specs.Zones.{ends_group, groups_of, charset_of}
use Rattle.edi_line.proofs.ZonesFound.{zones_of, zones_in}
use Rattle.edi_line.specs.Printing.{zone_text, line_numbered, IsPrintable, lines_of_zone}
use Rattle.edi_line.proofs.Printed.{printed_again}
use Rattle.edi_record.specs.Shapes.{kind_code}
use Rattle.edi_record.specs.Records.{values, States}
use Rattle.edi_record.specs.inner.Records.{ReadsAsRecord}
use Rattle.edi_record.specs.CanonicalZones.{class_text, cse_zone, begin_zone, end_zone}
use Rattle.edi_record.specs.RecordLayout.{Letters, zones_of_body, zones_of_record, zones_of_sheet, records_layout, is_free, IsRecord, settled_record, LayoutIsReadAgain}
use Rattle.edi_record.specs.declared.record.Record.{Record}
use Rattle.edi_line.proofs.Readings.{readings_are}
use Rattle.edi_line.proofs.ZonesSaid.{zones_are}
use Rattle.edi_record.proofs.StatesSaid.{all_said}
use Rattle.edi_record.proofs.Stated.{record_again, record_is, unknown, any_apart, joined, HoldsInBody, HoldsBehind, body_each, behind, behind_each, none_found}
use Rattle.edi_record.proofs.Numbered.{IsCut, groups_state, same_values}

-- the code of an extra is none that parts a file
pub free_apart : (code : List ℕ) → is_free code ≡ true → AllByRecursion (λ known. bytes_eq code known ≡ false) (codes "NEX" ∷ codes "REM" ∷ codes "BOM" ∷ codes "CSE" ∷ codes "EOM" ∷ [])
free_apart code h = any_apart (bytes_eq code) (codes "NEX" ∷ codes "REM" ∷ codes "BOM" ∷ codes "CSE" ∷ codes "EOM" ∷ []) (not-true _ h)

ends_none_in_body : HoldsInBody (λ z. ends_group z ≡ false)
ends_none_in_body = record { ptc = λ _. refl; ftc = λ _. refl; cor = λ _. refl; ftp = λ _. refl; sns = λ _. refl }

ends_none_behind : HoldsBehind (λ z. ends_group z ≡ false)
ends_none_behind = record { atc = λ _. refl; atp = λ _. refl; tex = λ _. refl; atv = λ _ _. refl }

no_set_in_body : HoldsInBody (λ z. has_code (codes "CSE") z ≡ false)
no_set_in_body = record { ptc = λ _. refl; ftc = λ _. refl; cor = λ _. refl; ftp = λ _. refl; sns = λ _. refl }

no_set_behind : HoldsBehind (λ z. has_code (codes "CSE") z ≡ false)
no_set_behind = record { atc = λ _. refl; atp = λ _. refl; tex = λ _. refl; atv = λ _ _. refl }

record_cut : (s : Letters) (r : Record) → IsRecord r → IsCut (zones_of_record s r)
record_cut s r h = record {
  first = zone_text (codes "RTY") 83 65 (kind_code r.kind);
  rest = zone_text (codes "RID") 83 65 r.rid ∷ zone_text (codes "SCP") 67 80 (class_text r.scp) ∷ (zones_of_body r.kind r.points r.ends ++ behind s r);
  joined = record_is s r;
  leads = refl;
  none = (
    refl,
    (
      refl,
      joined (λ z. ends_group z ≡ false) (zones_of_body r.kind r.points r.ends) (behind s r) (body_each (λ z. ends_group z ≡ false) ends_none_in_body r.kind r.points r.ends)
          (behind_each (λ z. ends_group z ≡ false) ends_none_behind s r (λ e k. or_from _ _ (unknown r.kind e k).0 (free_apart e.code k.free).1.1.1.1.0) h),
    ),
  );
}

no_set : (s : Letters) (r : Record) → IsRecord r → AllByRecursion (λ z. has_code (codes "CSE") z ≡ false) (zones_of_record s r)
no_set s r h =
    subst (AllByRecursion (λ z. has_code (codes "CSE") z ≡ false)) (sym (record_is s r)) (
      refl,
      (
        refl,
        (
          refl,
          joined (λ z. has_code (codes "CSE") z ≡ false) (zones_of_body r.kind r.points r.ends) (behind s r) (body_each (λ z. has_code (codes "CSE") z ≡ false) no_set_in_body r.kind r.points r.ends)
              (behind_each (λ z. has_code (codes "CSE") z ≡ false) no_set_behind s r (λ e k. (free_apart e.code k.free).1.1.1.0) h),
        ),
      ),
    )

no_sets : (s : Letters) (rs : List Record) → AllByRecursion IsRecord rs → AllByRecursion (λ z. has_code (codes "CSE") z ≡ false) (flat_map (zones_of_record s) rs ++ end_zone ∷ [])
no_sets s [] h = (refl, tt)
no_sets s (r ∷ rs) h =
    subst (AllByRecursion (λ z. has_code (codes "CSE") z ≡ false)) (sym (append_assoc (zones_of_record s r) (flat_map (zones_of_record s) rs) (end_zone ∷ [])))
    (joined (λ z. has_code (codes "CSE") z ≡ false) (zones_of_record s r) (flat_map (zones_of_record s) rs ++ end_zone ∷ []) (no_set s r h.0) (no_sets s rs h.1))

first_value : (xs : List ZoneData) → option_map (λ (e : ZoneData). e.value) (first xs) ≡ first (map (λ (e : ZoneData). e.value) xs)
first_value [] = refl
first_value (x ∷ xs) = refl

set_found : (cse : Option (List ℕ)) (zs : List ZoneData) → AllByRecursion (λ z. has_code (codes "CSE") z ≡ false) zs → first (values (codes "CSE") (begin_zone ∷ (map cse_zone (option_to_list cse) ++ zs))) ≡ cse
set_found None zs h = ap (λ t. first (map (λ (e : ZoneData). e.value) t)) (none_found (has_code (codes "CSE")) zs h)
set_found (Some text) zs h = refl

-- each record states what it is settled as, and is cut off well
each_stated : (s : Letters) (rs : List Record) → AllByRecursion IsRecord rs → AllByRecursion (λ r. IsCut (zones_of_record s r) × ReadsAsRecord (zones_of_record s r) (settled_record s r)) rs
each_stated s [] h = tt
each_stated s (r ∷ rs) h = ((record_cut s r h.0, record_again s r h.0), each_stated s rs h.1)

behind_set : (cse : Option (List ℕ)) (n : ℕ) (zs : List ZoneData) (rs : List Record) → ((m : ℕ) → AllZip ReadsAsRecord (groups_of (line_numbered m zs)) rs) → AllZip ReadsAsRecord (groups_of (line_numbered n (map cse_zone (option_to_list cse) ++ zs))) rs
behind_set None n zs rs more = more n
behind_set (Some text) n zs rs more = more (n + length (lines_of_zone (cse_zone text)))

pub sheet_again : (s : Letters) (cse : Option (List ℕ)) (rs : List Record) → AllByRecursion IsPrintable (zones_of_sheet s cse rs) → AllByRecursion IsRecord rs
    → (option_map (λ (e : ZoneData). e.value) (charset_of (zones_of (records_layout s cse rs))) ≡ cse) × AllZip ReadsAsRecord (groups_of (zones_of (records_layout s cse rs))) (map (settled_record s) rs)
sheet_again s cse rs p h =
    let body = flat_map (zones_of_record s) rs ++ end_zone ∷ [] in
    let zones = printed_again (zones_of_sheet s cse rs) p in (
      ap (λ zs. option_map (λ (e : ZoneData). e.value) (charset_of zs)) zones
          ∙ first_value (filter (has_code (codes "CSE")) (line_numbered 1 (zones_of_sheet s cse rs)))
          ∙ ap first (same_values (codes "CSE") 1 (zones_of_sheet s cse rs))
          ∙ set_found cse body (no_sets s rs h),
      subst (λ zs. AllZip ReadsAsRecord (groups_of zs) (map (settled_record s) rs)) (sym zones)
          (behind_set cse (1 + length (lines_of_zone begin_zone)) body (map (settled_record s) rs)
          (λ m. (groups_state (zones_of_record s) (settled_record s) rs m end_zone (each_stated s rs h) refl refl).1)),
    )

-- the same, of whatever zones the lines of the records_layout have
pub sheet_stated : LayoutIsReadAgain
sheet_stated s cse rs readings zones p h say are =
    let same : zones ≡ zones_of (records_layout s cse rs) = zones_are readings zones are ∙ ap zones_in (readings_are (records_layout s cse rs) readings say) in
    let again = sheet_again s cse rs p h in (
      ap (λ zs. option_map (λ (e : ZoneData). e.value) (charset_of zs)) same ∙ again.0,
      subst (λ zs. AllZip States (groups_of zs) (map (settled_record s) rs)) (sym same) (all_said (groups_of (zones_of (records_layout s cse rs))) (map (settled_record s) rs) again.1),
    )
