-- Two schemas that answer alike have the same letters for classes of attributes.
use Rattle.std.proofs.Common.{◌≡◌, ℕ, zero, suc, ◌<◌, ◌≤◌, Bool, true, false, ◌&&◌, List, [], ◌∷◌, ◌++◌, get_or, map, Some, None, codes, refl, sym, ap, ◌∙◌, subst, arith, lit≤, lit<, ℤ}
use Rattle.std.specs.Fmt.{digits}
use Rattle.std.specs.Prelude.{is_some, nat_le}
use Rattle.std.specs.List.{AllByRecursion}
use Rattle.std.proofs.lemmas.Bool.{leb-true, and_parts}
use Rattle.std.proofs.lemmas.Option.{none-some}
use Rattle.std.proofs.lemmas.Slice.Eq.{bytes_eq-Decides}
use Rattle.edi_line.proofs.NumberRead.{number_is}
use Rattle.edi_line.proofs.Printed.{printed_again}
use Rattle.edi_line.proofs.ZonesFound.{zones_of}
use Rattle.edi_line.specs.Bytes.{IsBytes}
use Rattle.edi_line.specs.ZoneData.{ZoneData}
use Rattle.edi_line.specs.Number.{IsNumberText, fraction_digits, size_text}
use Rattle.edi_line.specs.Printing.{line_numbered, zone_headed}
use Rattle.edi_line.specs.inner.Number.{fraction_number, number, whole_number}
use Rattle.edi_record.specs.CanonicalZones.{class_text, value_text}
use Rattle.edi_line.specs.Spelling.{is_printable}
use Rattle.edi_record.specs.RecordLayout.{HasPrintableLetters, Letters, records_layout, zones_of_attribute, zones_of_body, zones_of_record, zones_of_sheet}
use Rattle.edi_record.specs.Texts.{point_text}
use Rattle.edi_record.specs.inner.Records.{value_of}
use Rattle.edi_record.specs.declared.name.Name.{Name}
use Rattle.edi_record.specs.declared.record.Kind.TheVariants.{Pno}
use Rattle.edi_record.specs.declared.record.Value.TheVariants.{Bytes}
use Rattle.edi_record.specs.Records.{SheetData}
use Rattle.edi_schema.specs.Classes.{Classes, IsSchema, place_of, role_named}
use Rattle.edi_schema.specs.declared.role.Role.{Role}
use Rattle.edi_plan.specs.Plans.{PlanData, record_at}
use Rattle.edi_plan.specs.inner.Resolving.{is_elsewhere}
use Rattle.edi_rank.specs.InOrder.{IsInOrder}
use Rattle.edi_topo.proofs.AtPlaces.{breaks_of_node, none_is_broken}
use Rattle.edi_topo.specs.TopologyRules.{BreaksTopologyRule}
use Rattle.edi_write.proofs.WrittenPrinted.{letters_printable}
use Rattle.edi_write.specs.Layout.{class_name_of}
use Rattle.edi_write.specs.Written.{letters}
use Rattle.edi_compare.proofs.KnownSheetsReferences.{references_as}
use Rattle.edi_compare.proofs.KnownSheetsTests.{none_is}
use Rattle.edi_compare.specs.Canonical.{IsCanonical}
use Rattle.edi_schema_meaning.proofs.Apart.{lone}
use Rattle.edi_schema_meaning.proofs.OwnForm.{IsWrittenSo, canonical_so, laid_out_back, name_at_place, own_form}
use Rattle.edi_compare.proofs.PrintedBytes.{NameBytes, class_bytes, headed, known_bytes, printed_bytes}
use Rattle.edi_compare.proofs.ReadBytes.{AreBytes, is_bytes}
use Rattle.edi_schema_meaning.proofs.Probing.{CanBeRead, IsPlainName, file_records, file_sheet, valued_node, zones_printable}
use Rattle.edi_schema_meaning.proofs.Told.{place_some}
use Rattle.edi_schema_meaning.specs.Answers.{AnswerAlike}
use Rattle.edi_schema_meaning.specs.Probes.{letter_records, spot}

-- ---- an empty value

no_number : number [] ≡ None
unfolding number whole_number fraction_number
no_number = refl

empty_value : (b : Bool) → value_text (value_of b []) ≡ []
unfolding number whole_number fraction_number
empty_value true = refl
empty_value false = refl

not_number : (m : ℤ) → ¬ (IsNumberText [] m)
not_number m h = none-some m (sym no_number ∙ (number_is [] m).1 h)

-- ---- a node with an attribute of the class, under letters

abbrev letter_plan : ℕ → Role → PlanData
letter_plan k role = record {
  cse = None;
  list = record { kind = Pno; class = k; role = role; points = spot 0 0 ∷ []; attributes = record { atp = k; tex = None; value = Bytes [] } ∷ []; extras = []; ends = [] } ∷ [];
}

letter_order : (k : ℕ) (role : Role) → IsInOrder (letter_plan k role)
letter_order k role = record {
  by_type = λ i j less there. absurd (omega (arith, less, there));
  rise = record {
    nodes = λ i j b. absurd (not_two i j b.first b.second b.lesser);
    arcs = λ i j b. absurd (not_two i j b.first b.second b.lesser);
    faces = λ i j b. absurd (not_two i j b.first b.second b.lesser);
    objects = λ i j b. absurd (not_two i j b.first b.second b.lesser);
    links = λ i j b. absurd (not_two i j b.first b.second b.lesser);
  };
  forward = λ i there arc. absurd (no_arc i there arc);
  attributes = λ i there. at i there;
  others = λ i there. none i there;
}
  where
    not_two : (i j : ℕ) → i < 1 → j < 1 → suc i < suc j → ⊥
    not_two i j hi hj less = omega (arith, hi, hj, less)

    no_arc : (i : ℕ) → i < 1 → (record_at (letter_plan k role) i).kind ≡ Rattle.edi_record.specs.declared.record.Kind.TheVariants.Par → ⊥
    no_arc zero h e = omega (arith, ap Rattle.edi_record.specs.Shapes.kind_rank e)
    no_arc (suc i) h e = omega (arith, h)

    at : (i : ℕ) → i < 1 → Rattle.edi_schema.specs.Sorted.NeverFalls Rattle.edi_plan.specs.Orders.attribute_cmp (record_at (letter_plan k role) i).attributes
    at zero h = (tt, tt)
    at (suc i) h = absurd (omega (arith, h))

    none : (i : ℕ) → i < 1 → Rattle.edi_schema.specs.Sorted.NeverFalls Rattle.edi_rank.specs.Keys.end_cmp (map (Rattle.edi_rank.specs.Keys.numbered (letter_plan k role) suc) (Rattle.edi_plan.specs.Plans.others_of (record_at (letter_plan k role) i)))
    none zero h = tt
    none (suc i) h = absurd (omega (arith, h))

module _ (L : Letters) (printable : HasPrintableLetters L) (n : Name) (plain : IsPlainName n) where
  can_letter : AllByRecursion (CanBeRead L) (letter_records n)
  can_letter = (valued_node L n plain (codes "N1") [] refl (none_is 10 (codes "N1") refl) (none_is 10 [] refl) (empty_value (L.is_number n)), tt)

  letter_sheet : SheetData
  letter_sheet = record { cse = None; list = letter_records n }

  -- what a schema with the class makes of the file
  written_so : (s : Classes) (k : ℕ) (role : Role) → n.rty ≡ codes "ATT" → place_of s n ≡ Some k → role_named s n ≡ Some role → IsWrittenSo s (records_layout L None (letter_records n)) (letter_records n) (letter_plan k role)
  unfolding letter_sheet is_elsewhere digits
  written_so s k role att known has =
      let name : class_name_of s k ≡ n = name_at_place s n k known in
      record {
        sheet = letter_sheet;
        states = file_sheet L printable (letter_records n) can_letter (lit≤ tt) letter_sheet refl refl;
        list = refl;
        records = file_records L printable (letter_records n) can_letter (lit≤ tt) s;
        references = references_as s (letter_records n) (record {
          names = refl;
          classes = ap (λ o. is_some o && true) known;
          attributes = rw ((bytes_eq-Decides n.rty (codes "ATT")).1 att, known) refl;
          subsets = refl;
          ends = refl;
          joins = refl;
          kinds = refl;
        });
        plan = record { set = refl; each = (record { kind = refl; class = known; role = has; points = refl; attributes = (record { class = known; set = refl; value = (refl, λ may m. not_number m) }, tt); extras = refl; ends = tt }, tt) };
        no_set = refl;
        topology = none_is_broken (letter_plan k role) 1 (λ j h. h) (λ j low rule broken.
            let at : j ≡ 0 = omega (arith, low) in
            let early = (breaks_of_node (letter_plan k role) 0 refl rule (subst (λ i. BreaksTopologyRule (letter_plan k role) rule (suc i)) at broken)).1.1 in omega (arith, early));
        objects = lone None (record { kind = Pno; class = k; role = role; points = spot 0 0 ∷ []; attributes = record { atp = k; tex = None; value = Bytes [] } ∷ []; extras = []; ends = [] });
        written = λ i. record { kind = Pno; rid = codes "N1"; scp = name i; points = spot 0 0 ∷ []; ends = []; attributes = record { atp = name i; tex = None; atv = [] } ∷ []; extras = [] } ∷ [];
      }

-- ---- bytes

letter_bytes : (L : Letters) (n : Name) → NameBytes n → L.letter n < 256 → IsBytes (records_layout L None (letter_records n))
unfolding zones_of_record zones_of_body zones_of_attribute digits point_text size_text fraction_digits number whole_number fraction_number
letter_bytes L n name letter =
    let text = class_text n in
    let class = class_bytes n name in
    let value : AreBytes (value_text (value_of (L.is_number n) [])) = subst AreBytes (sym (empty_value (L.is_number n))) tt in
    is_bytes (records_layout L None (letter_records n)) (printed_bytes (zones_of_sheet L None (letter_records n)) (
      headed (codes "BOMT ") (codes "CANON.VEC") refl (lit< tt) (lit< tt) (known_bytes (codes "CANON.VEC") refl),
      (
        headed (codes "RTYSA") (codes "PNO") refl (lit< tt) (lit< tt) (known_bytes (codes "PNO") refl),
        (
          headed (codes "RIDSA") (codes "N1") refl (lit< tt) (lit< tt) (known_bytes (codes "N1") refl),
          (
            headed (codes "SCPCP") text refl (lit< tt) (lit< tt) class,
            (
              headed (codes "CORCC") (point_text (spot 0 0)) refl (lit< tt) (lit< tt) (known_bytes (point_text (spot 0 0)) refl),
              (
                headed (codes "ATCSN") (codes "1") refl (lit< tt) (lit< tt) (known_bytes (codes "1") refl),
                (
                  headed (codes "ATPCP") text refl (lit< tt) (lit< tt) class,
                  (
                    headed (codes "ATVS" ++ L.letter n ∷ []) (value_text (value_of (L.is_number n) [])) refl (lit< tt) letter value,
                    (headed (codes "EOMT ") [] refl (lit< tt) (lit< tt) tt, tt),
                  ),
                ),
              ),
            ),
          ),
        ),
      ),
    ))

-- ---- the letter of the file

seventh : List ZoneData → ℕ
seventh zones = (get_or zones 7 (zone_headed (codes "EOMT ") [])).format

module _ (L : Letters) (n : Name) where
  letter_read : seventh (line_numbered 1 (zones_of_sheet L None (letter_records n))) ≡ L.letter n
  unfolding seventh zones_of_record zones_of_body zones_of_attribute
  letter_read = refl

-- two files of one text have one letter
one_letter : (L M : Letters) → HasPrintableLetters L → HasPrintableLetters M → (n : Name) → IsPlainName n → records_layout L None (letter_records n) ≡ records_layout M None (letter_records n) → L.letter n ≡ M.letter n
one_letter L M hl hm n plain e =
    let first = printed_again (zones_of_sheet L None (letter_records n)) (zones_printable L hl (letter_records n) (can_letter L hl n plain) (lit≤ tt)) in
    let second = printed_again (zones_of_sheet M None (letter_records n)) (zones_printable M hm (letter_records n) (can_letter M hm n plain) (lit≤ tt)) in
    sym (letter_read L n) ∙ (ap seventh (sym first ∙ (ap zones_of e ∙ second)) ∙ letter_read M n)

-- ---- two schemas

pub same_letter : (s t : Classes) → IsSchema s → IsSchema t → AnswerAlike s t → (n : Name) → IsPlainName n → NameBytes n → n.rty ≡ codes "ATT" → (a b : Role) → role_named s n ≡ Some a → role_named t n ≡ Some b
    → (letters s).letter n ≡ (letters t).letter n
same_letter s t hs ht alike n plain name att a b ha hb =
    let here = place_some s n a ha in
    let there = place_some t n b hb in
    let L = letters s in
    let printable : HasPrintableLetters L = letters_printable s hs in
    let c = records_layout L None (letter_records n) in
    let first = written_so L printable n plain s here.0 a att here.1 ha in
    let second = written_so L printable n plain t there.0 b att there.1 hb in
    let letter : L.letter n < 256 = below (L.letter n) (printable n) in
    let canonical : IsCanonical s c = canonical_so s hs c (letter_records n) (letter_plan here.0 a) first refl (letter_bytes L n name letter) (letter_order here.0 a) in
    let again : IsCanonical t c = ((alike.form c c).0 (own_form s hs c canonical)).canonical in
    one_letter L (letters t) printable (letters_printable t ht) n plain (laid_out_back t ht c (letter_records n) (letter_plan there.0 b) second again)
  where
    below : (x : ℕ) → is_printable x ≡ true → x < 256
    below x h = let parts = and_parts (nat_le 32 x) (nat_le x 126) h in let low : x ≤ 126 = leb-true x 126 parts.1 in omega (arith, low)
