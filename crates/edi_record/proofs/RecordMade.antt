-- The rules of a record of which all zones have come.
use Rattle.std.proofs.Common.{◌≡◌, ℕ, ◌+◌, Bool, true, false, not, ◌&&◌, ◌||◌, List, length, map, Some, None, is_none, codes, refl, sym, ap, ◌∙◌, subst, arith, Result, Ok, Err, IsErrAnd, IfErr}
use Rattle.edi_line.specs.ZoneData.{ZoneData}
use Rattle.edi_line.specs.inner.Refusal.{first_broken}
use Rattle.edi_record.specs.Records.{values, has_points, is_link}
use Rattle.edi_record.specs.inner.Records.{attributes}
use Rattle.edi_record.specs.RecordRules.{has_no_identifier}
use Rattle.edi_record.specs.inner.RecordRules.{kind_in, is_arc_kind, counts_right, has_no_kind, has_no_class, has_bad_attribute, has_wrong_count, has_bad_point, has_bad_end, has_unknown_pointer, record_tests}
use Rattle.edi_record.specs.inner.RecordRefusal.{IsBreachOf, IsGroupRefusal}
use Rattle.edi_record.specs.declared.record.Kind.{Kind}
use Rattle.edi_record.specs.declared.record.Kind.TheVariants.{Pno, Par, Pfe, Fea, Lnk}
use Rattle.edi_record.specs.declared.record.Attribute.{Attribute}
use Rattle.edi_record.specs.declared.fault.GroupFault.{GroupFault}
use Rattle.edi_record.specs.declared.fault.GroupFault.TheVariants.{Memory as GroupMemory, Broken as GroupBroken}
use Rattle.edi_record.proofs.Parts.{attributes_count, same_length}

-- ---- counts

pub wrong_counts : (kind : Kind) (g : List ZoneData) (done : List Attribute) (n counted : ℕ) (a b : Bool) → kind_in g ≡ Some kind → attributes g ≡ map Some done → n ≡ length done
    → (has_points kind ≡ true → length (values (codes "COR") g) ≡ counted + 0) → (is_link kind ≡ true → length (values (codes "FTP") g) ≡ counted + 0)
    → a ≡ not (counts_right (values (codes "ATC") g) n)
    → b ≡ ((is_arc_kind kind && not (counts_right (values (codes "PTC") g) counted)) || (is_link kind && not (counts_right (values (codes "FTC") g) counted))) → has_wrong_count g ≡ (a || b)
wrong_counts kind g done n counted a b k made many points ends e f = rw (e, f, many, ← attributes_many) (by_kind kind k points ends)
  where
    attributes_many : length (values (codes "ATP") g) ≡ length done
    attributes_many = sym (attributes_count g) ∙ same_length (attributes g) done made

    by_kind : (kind : Kind) → kind_in g ≡ Some kind → (has_points kind ≡ true → length (values (codes "COR") g) ≡ counted + 0) → (is_link kind ≡ true → length (values (codes "FTP") g) ≡ counted + 0)
        → has_wrong_count g ≡ (not (counts_right (values (codes "ATC") g) (length (values (codes "ATP") g))) || ((is_arc_kind kind && not (counts_right (values (codes "PTC") g) counted)) || (is_link kind && not (counts_right (values (codes "FTC") g) counted))))
    by_kind Pno k points ends = rw k refl
    by_kind Par k points ends = let few : length (values (codes "COR") g) ≡ counted = omega (arith, points refl) in rw (k, few) refl
    by_kind Pfe k points ends = rw k refl
    by_kind Fea k points ends = rw k refl
    by_kind Lnk k points ends = let few : length (values (codes "FTP") g) ≡ counted = omega (arith, ends refl) in rw (k, few) refl

-- ---- the least rule

pub no_201 : (kind : Kind) (g : List ZoneData) → kind_in g ≡ Some kind → has_no_kind g ≡ false
no_201 kind g k = ap is_none k

pub least_205 : (g : List ZoneData) → has_no_kind g ≡ false → has_no_identifier g ≡ false → has_no_class g ≡ false → has_bad_attribute g ≡ false → has_wrong_count g ≡ true → first_broken (record_tests g) ≡ Some 205
least_205 g a b c d e = rw (a, b, c, d, e) refl

pub least_206 : (g : List ZoneData) → has_no_kind g ≡ false → has_no_identifier g ≡ false → has_no_class g ≡ false → has_bad_attribute g ≡ false → has_wrong_count g ≡ false → has_bad_point g ≡ true → first_broken (record_tests g) ≡ Some 206
least_206 g a b c d e f = rw (a, b, c, d, e, f) refl

pub least_207 : (g : List ZoneData) → has_no_kind g ≡ false → has_no_identifier g ≡ false → has_no_class g ≡ false → has_bad_attribute g ≡ false → has_wrong_count g ≡ false → has_bad_point g ≡ false → has_bad_end g ≡ true
    → first_broken (record_tests g) ≡ Some 207
least_207 g a b c d e f i = rw (a, b, c, d, e, f, i) refl

pub least_208 : (g : List ZoneData) → has_no_kind g ≡ false → has_no_identifier g ≡ false → has_no_class g ≡ false → has_bad_attribute g ≡ false → has_wrong_count g ≡ false → has_bad_point g ≡ false → has_bad_end g ≡ false → has_unknown_pointer g ≡ true
    → first_broken (record_tests g) ≡ Some 208
least_208 g a b c d e f i j = rw (a, b, c, d, e, f, i, j) refl

pub none_broken_in : (g : List ZoneData) → has_no_kind g ≡ false → has_no_identifier g ≡ false → has_no_class g ≡ false → has_bad_attribute g ≡ false → has_wrong_count g ≡ false → has_bad_point g ≡ false → has_bad_end g ≡ false → has_unknown_pointer g ≡ false
    → first_broken (record_tests g) ≡ None
none_broken_in g a b c d e f i j = rw (a, b, c, d, e, f, i, j) refl

-- the fault of a rule whose breach is the least
pub breach_least : (rule : ℕ) (is_broken : Bool) (g : List ZoneData) (fault : GroupFault) → (is_broken ≡ true → first_broken (record_tests g) ≡ Some rule) → IsBreachOf rule is_broken fault → IsGroupRefusal g fault
breach_least rule is_broken g (GroupMemory e) least h = tt
breach_least rule is_broken g (GroupBroken r) least h = least h.1 ∙ ap (λ n. Some n) (sym h.0)

-- the exit of a `?` whose fault is given on
pub err_kept : {T : Type 0} (r : Result T GroupFault) (fault : GroupFault) (P : GroupFault → Type 0) → IsErrAnd r (λ e. e ≡ fault) → P fault → IfErr r P
err_kept (Ok x) fault P e h = tt
err_kept (Err f) fault P e h = subst P (sym e) h
