-- Two schemas that answer alike don't exchange left and right.
use Rattle.std.proofs.Common.{◌≡◌, ◌≢◌, ◌⊎◌, inl, inr, ℕ, zero, suc, ◌<◌, ◌≤◌, true, false, not, ◌||◌, true≢false, List, [], ◌∷◌, map, Some, None, codes, refl, sym, ap, ◌∙◌, subst, arith, lit≤, lit<, Less, Greater}
use Rattle.std.specs.Fmt.{digits}
use Rattle.std.specs.Prelude.{nat_eq, nat_le, pos}
use Rattle.std.specs.List.{AllByRecursion}
use Rattle.std.specs.Option.{option_cmp}
use Rattle.std.specs.Ordering.{is_gt, nat_cmp}
use Rattle.std.proofs.lemmas.Bool.{leb-true}
use Rattle.edi_line.specs.Bytes.{IsBytes}
use Rattle.edi_line.specs.ZoneData.{ZoneData}
use Rattle.edi_line.specs.Number.{fraction_digits, size_text}
use Rattle.edi_line.specs.Refusal.{IsUnbroken}
use Rattle.edi_record.specs.CanonicalZones.{class_text, end_text}
use Rattle.edi_record.specs.RecordLayout.{HasPrintableLetters, Letters, records_layout, zones_of_body, zones_of_end, zones_of_record, zones_of_sheet}
use Rattle.edi_record.specs.Shapes.{kind_rank}
use Rattle.edi_record.specs.Texts.{point_text, pointer_text}
use Rattle.edi_record.specs.declared.name.Name.{Name}
use Rattle.edi_record.specs.declared.record.Kind.{Kind}
use Rattle.edi_record.specs.declared.record.Kind.TheVariants.{Pno, Par, Pfe, Fea, Lnk}
use Rattle.edi_record.specs.Records.{SheetData}
use Rattle.edi_schema.proofs.Ordered.{classes_ordered}
use Rattle.edi_schema.specs.Classes.{Classes, IsSchema, name_cmp, place_of, role_named}
use Rattle.edi_schema.specs.Roles.{exchanged}
use Rattle.edi_schema.specs.Sorted.{NeverFalls}
use Rattle.edi_schema.specs.declared.role.Role.{Role}
use Rattle.edi_schema.specs.declared.role.Role.TheVariants.{Initial, Final, Left, Right, Plain}
use Rattle.edi_plan.specs.Joined.{beside}
use Rattle.edi_plan.specs.Orders.{attribute_cmp}
use Rattle.edi_plan.specs.Plans.{PlanData, others_of, record_at}
use Rattle.edi_plan.specs.Sides.{Side}
use Rattle.edi_plan.specs.inner.Resolving.{is_elsewhere}
use Rattle.edi_rank.specs.EqualObjects.{BreaksObjectRule}
use Rattle.edi_rank.specs.EqualObjects.BreaksObjectRule.{repeats_object}
use Rattle.edi_rank.specs.InOrder.{IsInOrder}
use Rattle.edi_rank.specs.Keys.{end_cmp, face_key_cmp, least_side, link_key, link_key_cmp, numbered}
use Rattle.edi_topo.proofs.AtPlaces.{BreaksOfArc, breaks_of_arc, breaks_of_face, breaks_of_other, none_is_broken}
use Rattle.edi_topo.proofs.AtPlaces.BreaksOfArc.{starts, ends, reverses, repeats}
use Rattle.edi_topo.specs.TopologyRules.{BreaksTopologyRule}
use Rattle.edi_write.proofs.WrittenPrinted.{letters_printable}
use Rattle.edi_write.specs.Layout.{class_name_of}
use Rattle.edi_write.specs.Written.{letters}
use Rattle.edi_compare.proofs.KnownSheetsReferences.{Refer, references_as}
use Rattle.edi_compare.proofs.KnownSheetsTests.{all_below, none_is, only_one, true_below}
use Rattle.edi_compare.specs.Canonical.{IsCanonical}
use Rattle.edi_compare.specs.Headline.{IsFormOf}
use Rattle.edi_schema_meaning.proofs.OwnForm.{IsWrittenSo, canonical_so, name_at_place, name_there, order_back, own_form}
use Rattle.edi_compare.proofs.PrintedBytes.{NameBytes, ZoneBytes, class_bytes, headed, known_bytes, printed_bytes, zones_joined}
use Rattle.edi_compare.proofs.ReadBytes.{AreBytes, is_bytes}
use Rattle.edi_schema_meaning.proofs.Probing.{CanBeRead, IsPlainName, bare_arc, bare_face, bare_link, file_records, file_sheet}
use Rattle.edi_schema_meaning.proofs.Told.{place_some}
use Rattle.edi_schema_meaning.specs.Probes.{arc_of, end_at, face_of, link_of, side_records, spot}

-- ---- the plan: of classes at the places j and k, with this role and the exchanged one

abbrev side_plan : ℕ → ℕ → Role → PlanData
side_plan j k role = record {
  cse = None;
  list = record { kind = Par; class = j; role = role; points = spot 0 0 ∷ spot 1 0 ∷ []; attributes = []; extras = []; ends = [] }
      ∷ record { kind = Pfe; class = j; role = role; points = []; attributes = []; extras = []; ends = [] }
      ∷ record { kind = Pfe; class = j; role = role; points = []; attributes = []; extras = []; ends = [] }
      ∷ record { kind = Lnk; class = j; role = role; points = []; attributes = []; extras = []; ends = record { target = 0; sns = None } ∷ record { target = 1; sns = None } ∷ [] }
      ∷ record { kind = Lnk; class = k; role = exchanged role; points = []; attributes = []; extras = []; ends = record { target = 0; sns = None } ∷ record { target = 2; sns = None } ∷ [] }
      ∷ [];
}

at_five : (P : ℕ → Type 0) → P 0 → P 1 → P 2 → P 3 → P 4 → (i : ℕ) → i < 5 → P i
at_five P a b c d e zero h = a
at_five P a b c d e (suc zero) h = b
at_five P a b c d e (suc (suc zero)) h = c
at_five P a b c d e (suc (suc (suc zero))) h = d
at_five P a b c d e (suc (suc (suc (suc zero)))) h = e
at_five P a b c d e (suc (suc (suc (suc (suc i))))) h = absurd (omega (arith, h))

other_faces : (role : Role) → beside role ≡ Pfe → beside (exchanged role) ≡ Pfe
other_faces Initial h = h
other_faces Final h = h
other_faces Left h = h
other_faces Right h = h
other_faces Plain h = h

not_initial : (role : Role) → beside role ≡ Pfe → role ≡ Initial → ⊥
not_initial role h e = omega (arith, ap kind_rank (sym (ap beside e) ∙ h))

not_final : (role : Role) → beside role ≡ Pfe → role ≡ Final → ⊥
not_final role h e = omega (arith, ap kind_rank (sym (ap beside e) ∙ h))

spots : spot 0 0 ≡ spot 1 0 → ⊥
spots h = let e : pos 0 ≡ pos 1 = ap (λ q. q.x) h in absurd (omega (arith, ap (λ z. Rattle.edi_line.specs.Number.size_of z) e))

module _ (j k : ℕ) (role : Role) (faces : beside role ≡ Pfe) where
  role_faces : (i : ℕ) → i < 5 → beside (record_at (side_plan j k role) i).role ≡ Pfe
  role_faces = at_five (λ i. beside (record_at (side_plan j k role) i).role ≡ Pfe) faces faces faces faces (other_faces role faces)

  kind_is : (kind : Kind) (rank : ℕ) → kind_rank kind ≡ rank → all_below 5 (λ i. not (nat_eq (kind_rank (record_at (side_plan j k role) i).kind) rank)) ≡ true → (i : ℕ) → i < 5 → (record_at (side_plan j k role) i).kind ≡ kind → ⊥
  kind_is kind rank e tests i h is =
      let apart = true_below 5 (λ i. not (nat_eq (kind_rank (record_at (side_plan j k role) i).kind) rank)) tests i h in
      let same : nat_eq (kind_rank (record_at (side_plan j k role) i).kind) rank ≡ true = Rattle.std.proofs.Common.eq-eqb _ _ (ap kind_rank is ∙ e) in
      true≢false (sym apart ∙ ap not same)

  -- ---- topology and objects

  first_side : (a : Role) → role ≡ a → a ≢ Plain → Side (side_plan j k role) 0 a 1
  first_side a e real = record { link = 3; there = lit< tt; is_link = refl; has_role = e; not_plain = real; arc_there = lit< tt; is_arc = refl; ends = inl refl }

  second_side : (a : Role) → exchanged role ≡ a → a ≢ Plain → Side (side_plan j k role) 0 a 2
  second_side a e real = record { link = 4; there = lit< tt; is_link = refl; has_role = e; not_plain = real; arc_there = lit< tt; is_arc = refl; ends = inl refl }

  arc_holds : (rule : ℕ) → BreaksOfArc (side_plan j k role) 0 rule → ⊥
  arc_holds rule (starts e h) = not_initial _ (role_faces h.7.link h.7.there) h.7.has_role
  arc_holds rule (ends e h) = not_final _ (role_faces h.7.link h.7.there) h.7.has_role
  arc_holds rule (reverses e h) = spots (same h)
    where
      same : spot 0 0 ∷ spot 1 0 ∷ [] ≡ spot 1 0 ∷ spot 0 0 ∷ [] → spot 0 0 ≡ spot 1 0
      same g = cc
  arc_holds rule (repeats e h) = let early = h.3 in omega (arith, early)

  pub side_topology : IsUnbroken (BreaksTopologyRule (side_plan j k role))
  side_topology = none_is_broken (side_plan j k role) 5 (λ i h. h) (at_five (λ i. (rule : ℕ) → BreaksTopologyRule (side_plan j k role) rule (suc i) → ⊥)
      (λ rule h. arc_holds rule (breaks_of_arc (side_plan j k role) 0 refl rule h))
      (λ rule h. first_bound role refl ((breaks_of_face (side_plan j k role) 1 refl rule h).1 0))
      (λ rule h. second_bound role refl ((breaks_of_face (side_plan j k role) 2 refl rule h).1 0))
      (λ rule h. breaks_of_other (side_plan j k role) 3 Lnk (lit< tt) refl rule h)
      (λ rule h. breaks_of_other (side_plan j k role) 4 Lnk (lit< tt) refl rule h))
    where
      left_real : Left ≢ Plain
      left_real g = cc

      right_real : Right ≢ Plain
      right_real g = cc

      first_bound : (a : Role) → role ≡ a → ¬ ((Side (side_plan j k role) 0 Left 1) ⊎ (Side (side_plan j k role) 0 Right 1)) → ⊥
      first_bound Left e none = none (inl (first_side Left e left_real))
      first_bound Right e none = none (inr (first_side Right e right_real))
      first_bound Initial e none = not_initial role faces e
      first_bound Final e none = not_final role faces e
      first_bound Plain e none = omega (arith, ap kind_rank (sym (ap beside e) ∙ faces))

      second_bound : (a : Role) → role ≡ a → ¬ ((Side (side_plan j k role) 0 Left 2) ⊎ (Side (side_plan j k role) 0 Right 2)) → ⊥
      second_bound Left e none = none (inr (second_side Right (ap exchanged e) right_real))
      second_bound Right e none = none (inl (second_side Left (ap exchanged e) left_real))
      second_bound Initial e none = not_initial role faces e
      second_bound Final e none = not_final role faces e
      second_bound Plain e none = omega (arith, ap kind_rank (sym (ap beside e) ∙ faces))

  pub side_objects : IsUnbroken (BreaksObjectRule (side_plan j k role))
  side_objects rule at (repeats_object {m} {n} e a less h) = kind_is Fea 3 refl refl m h.first h.first_object

-- ---- the order, where the first link is to the left

module _ (j k : ℕ) (less : nat_cmp j k ≡ Less) where
  left : beside Left ≡ Pfe
  left = refl

  only : (kind : Kind) (rank one : ℕ) → kind_rank kind ≡ rank → all_below 5 (λ i. not (nat_eq (kind_rank (record_at (side_plan j k Left) i).kind) rank) || nat_eq i one) ≡ true → (i : ℕ) → i < 5 → (record_at (side_plan j k Left) i).kind ≡ kind → i ≡ one
  only kind rank one e tests i h is =
      only_one 5 (λ i. nat_eq (kind_rank (record_at (side_plan j k Left) i).kind) rank) one tests i h (Rattle.std.proofs.Common.eq-eqb _ _ (ap kind_rank is ∙ e))

  faces_rise : (i n : ℕ) → i < 5 → n < 5 → (record_at (side_plan j k Left) i).kind ≡ Pfe → (record_at (side_plan j k Left) n).kind ≡ Pfe → suc i < suc n
      → option_cmp face_key_cmp (least_side (side_plan j k Left) suc i) (least_side (side_plan j k Left) suc n) ≡ Less
  faces_rise zero n hi hn fi fn up = absurd (omega (arith, ap kind_rank fi))
  faces_rise (suc zero) n hi hn fi fn up = two n hn fn up
    where
      two : (n : ℕ) → n < 5 → (record_at (side_plan j k Left) n).kind ≡ Pfe → 2 < suc n → option_cmp face_key_cmp (least_side (side_plan j k Left) suc 1) (least_side (side_plan j k Left) suc n) ≡ Less
      two zero h f up = absurd (omega (arith, up))
      two (suc zero) h f up = absurd (omega (arith, up))
      two (suc (suc zero)) h f up = refl
      two (suc (suc (suc zero))) h f up = absurd (omega (arith, ap kind_rank f))
      two (suc (suc (suc (suc zero)))) h f up = absurd (omega (arith, ap kind_rank f))
      two (suc (suc (suc (suc (suc i))))) h f up = absurd (omega (arith, h))
  faces_rise (suc (suc zero)) n hi hn fi fn up = three n hn fn up
    where
      three : (n : ℕ) → n < 5 → (record_at (side_plan j k Left) n).kind ≡ Pfe → 3 < suc n → option_cmp face_key_cmp (least_side (side_plan j k Left) suc 2) (least_side (side_plan j k Left) suc n) ≡ Less
      three zero h f up = absurd (omega (arith, up))
      three (suc zero) h f up = absurd (omega (arith, up))
      three (suc (suc zero)) h f up = absurd (omega (arith, up))
      three (suc (suc (suc zero))) h f up = absurd (omega (arith, ap kind_rank f))
      three (suc (suc (suc (suc zero)))) h f up = absurd (omega (arith, ap kind_rank f))
      three (suc (suc (suc (suc (suc i))))) h f up = absurd (omega (arith, h))
  faces_rise (suc (suc (suc zero))) n hi hn fi fn up = absurd (omega (arith, ap kind_rank fi))
  faces_rise (suc (suc (suc (suc zero)))) n hi hn fi fn up = absurd (omega (arith, ap kind_rank fi))
  faces_rise (suc (suc (suc (suc (suc i))))) n hi hn fi fn up = absurd (omega (arith, hi))

  links_rise : (i n : ℕ) → i < 5 → n < 5 → (record_at (side_plan j k Left) i).kind ≡ Lnk → (record_at (side_plan j k Left) n).kind ≡ Lnk → suc i < suc n
      → is_gt (link_key_cmp (link_key (side_plan j k Left) suc (record_at (side_plan j k Left) i)) (link_key (side_plan j k Left) suc (record_at (side_plan j k Left) n))) ≡ false
  links_rise zero n hi hn fi fn up = absurd (omega (arith, ap kind_rank fi))
  links_rise (suc zero) n hi hn fi fn up = absurd (omega (arith, ap kind_rank fi))
  links_rise (suc (suc zero)) n hi hn fi fn up = absurd (omega (arith, ap kind_rank fi))
  links_rise (suc (suc (suc zero))) n hi hn fi fn up = four n hn up
    where
      four : (n : ℕ) → n < 5 → 4 < suc n → is_gt (link_key_cmp (link_key (side_plan j k Left) suc (record_at (side_plan j k Left) 3)) (link_key (side_plan j k Left) suc (record_at (side_plan j k Left) n))) ≡ false
      four zero h up = absurd (omega (arith, up))
      four (suc zero) h up = absurd (omega (arith, up))
      four (suc (suc zero)) h up = absurd (omega (arith, up))
      four (suc (suc (suc zero))) h up = absurd (omega (arith, up))
      four (suc (suc (suc (suc zero)))) h up = rw less refl
      four (suc (suc (suc (suc (suc i))))) h up = absurd (omega (arith, h))
  links_rise (suc (suc (suc (suc zero)))) n hi hn fi fn up = absurd (omega (arith, hn, up))
  links_rise (suc (suc (suc (suc (suc i))))) n hi hn fi fn up = absurd (omega (arith, hi))

  pub side_order : IsInOrder (side_plan j k Left)
  side_order = record {
    by_type = λ i n below there.
        let tests = true_below 5 (λ n. all_below n (λ i. nat_le (kind_rank (record_at (side_plan j k Left) i).kind) (kind_rank (record_at (side_plan j k Left) n).kind))) refl n there in
        leb-true _ _ (true_below n (λ i. nat_le (kind_rank (record_at (side_plan j k Left) i).kind) (kind_rank (record_at (side_plan j k Left) n).kind)) tests i below);
    rise = record {
      nodes = λ i n b. absurd (kind_is j k Left left Pno 0 refl refl i b.first b.first_kind);
      arcs = λ i n b.
          let first = only Par 1 0 refl refl i b.first b.first_kind in
          let second = only Par 1 0 refl refl n b.second b.second_kind in
          let up = b.lesser in absurd (omega (arith, first, second, up));
      faces = λ i n b. faces_rise i n b.first b.second b.first_kind b.second_kind b.lesser;
      objects = λ i n b. absurd (kind_is j k Left left Fea 3 refl refl i b.first b.first_kind);
      links = λ i n b. links_rise i n b.first b.second b.first_kind b.second_kind b.lesser;
    };
    forward = λ i there arc. subst (λ i. Rattle.edi_rank.specs.Turned.is_forward (record_at (side_plan j k Left) i).points ≡ true) (sym (only Par 1 0 refl refl i there arc)) refl;
    attributes = at_five (λ i. NeverFalls attribute_cmp (record_at (side_plan j k Left) i).attributes) tt tt tt tt tt;
    others = at_five (λ i. NeverFalls end_cmp (map (numbered (side_plan j k Left) suc) (others_of (record_at (side_plan j k Left) i)))) tt tt tt (tt, tt) (tt, tt);
  }

-- and it isn't in order where that is the right
pub side_disorder : (j k : ℕ) → IsInOrder (side_plan j k Right) → ⊥
side_disorder j k h = greater (h.rise.faces 1 2 (record { first = lit< tt; second = lit< tt; first_kind = refl; second_kind = refl; lesser = lit< tt }))
  where
    greater : Greater ≡ Less → ⊥
    greater e = cc

-- ---- the file

module _ (L : Letters) (printable : HasPrintableLetters L) (m n : Name) (first : IsPlainName m) (second : IsPlainName n) where
  can_sides : AllByRecursion (CanBeRead L) (side_records m n)
  can_sides = (
    bare_arc L m first (codes "A1") refl (none_is 10 (codes "A1") refl),
    (
      bare_face L m first (codes "F1") refl (none_is 10 (codes "F1") refl),
      (
        bare_face L m first (codes "F2") refl (none_is 10 (codes "F2") refl),
        (
          bare_link L m first (codes "L1") Par Pfe (codes "A1") (codes "F1") refl (none_is 10 (codes "L1") refl) refl (none_is 10 (codes "A1") refl) refl (none_is 10 (codes "F1") refl),
          (bare_link L n second (codes "L2") Par Pfe (codes "A1") (codes "F2") refl (none_is 10 (codes "L2") refl) refl (none_is 10 (codes "A1") refl) refl (none_is 10 (codes "F2") refl), tt),
        ),
      ),
    ),
  )

  side_sheet : SheetData
  side_sheet = record { cse = None; list = side_records m n }

  side_refers : (role : Role) (s : Classes) (j k : ℕ) → beside role ≡ Pfe → place_of s m ≡ Some j → place_of s n ≡ Some k → role_named s m ≡ Some role → role_named s n ≡ Some (exchanged role) → Refer s (side_records m n)
  unfolding is_elsewhere
  side_refers Left s j k faces hj hk hm hn = record { names = refl; classes = rw (hj, hk) refl; attributes = refl; subsets = refl; ends = refl; joins = rw (hm, hn) refl; kinds = rw (hm, hn) refl }
  side_refers Right s j k faces hj hk hm hn = record { names = refl; classes = rw (hj, hk) refl; attributes = refl; subsets = refl; ends = refl; joins = rw (hm, hn) refl; kinds = rw (hm, hn) refl }
  side_refers Initial s j k faces hj hk hm hn = absurd (omega (arith, ap kind_rank faces))
  side_refers Final s j k faces hj hk hm hn = absurd (omega (arith, ap kind_rank faces))
  side_refers Plain s j k faces hj hk hm hn = absurd (omega (arith, ap kind_rank faces))

  -- what a schema with the two classes makes of it
  sides_written : (s : Classes) (role : Role) (j k : ℕ) → beside role ≡ Pfe → place_of s m ≡ Some j → place_of s n ≡ Some k → role_named s m ≡ Some role → role_named s n ≡ Some (exchanged role)
      → IsWrittenSo s (records_layout L None (side_records m n)) (side_records m n) (side_plan j k role)
  unfolding side_sheet digits
  sides_written s role j k faces hj hk hm hn =
      let x : class_name_of s j ≡ m = name_at_place s m j hj in
      let y : class_name_of s k ≡ n = name_at_place s n k hk in
      record {
        sheet = side_sheet;
        states = file_sheet L printable (side_records m n) can_sides (lit≤ tt) side_sheet refl refl;
        list = refl;
        records = file_records L printable (side_records m n) can_sides (lit≤ tt) s;
        references = references_as s (side_records m n) (side_refers role s j k faces hj hk hm hn);
        plan = record {
          set = refl;
          each = (
            record { kind = refl; class = hj; role = hm; points = refl; attributes = tt; extras = refl; ends = tt },
            (
              record { kind = refl; class = hj; role = hm; points = refl; attributes = tt; extras = refl; ends = tt },
              (
                record { kind = refl; class = hj; role = hm; points = refl; attributes = tt; extras = refl; ends = tt },
                (
                  record { kind = refl; class = hj; role = hm; points = refl; attributes = tt; extras = refl; ends = (record { target = refl; sns = refl }, (record { target = refl; sns = refl }, tt)) },
                  (record { kind = refl; class = hk; role = hn; points = refl; attributes = tt; extras = refl; ends = (record { target = refl; sns = refl }, (record { target = refl; sns = refl }, tt)) }, tt),
                ),
              ),
            ),
          );
        };
        no_set = refl;
        topology = side_topology j k role faces;
        objects = side_objects j k role faces;
        written = λ i.
            record { kind = Par; rid = codes "A1"; scp = x i; points = spot 0 0 ∷ spot 1 0 ∷ []; ends = []; attributes = []; extras = [] }
            ∷ record { kind = Pfe; rid = codes "F1"; scp = x i; points = []; ends = []; attributes = []; extras = [] }
            ∷ record { kind = Pfe; rid = codes "F2"; scp = x i; points = []; ends = []; attributes = []; extras = [] }
            ∷ record { kind = Lnk; rid = codes "L1"; scp = x i; points = []; ends = end_at Par (codes "A1") ∷ end_at Pfe (codes "F1") ∷ []; attributes = []; extras = [] }
            ∷ record { kind = Lnk; rid = codes "L2"; scp = y i; points = []; ends = end_at Par (codes "A1") ∷ end_at Pfe (codes "F2") ∷ []; attributes = []; extras = [] }
            ∷ [];
      }

-- ---- its bytes

arc_bytes : (L : Letters) (n : Name) → NameBytes n → AllByRecursion ZoneBytes (zones_of_record L (arc_of n (codes "A1")))
unfolding zones_of_record zones_of_body digits point_text size_text fraction_digits
arc_bytes L n name = (
  headed (codes "RTYSA") (codes "PAR") refl (lit< tt) (lit< tt) (known_bytes (codes "PAR") refl),
  (
    headed (codes "RIDSA") (codes "A1") refl (lit< tt) (lit< tt) (known_bytes (codes "A1") refl),
    (
      headed (codes "SCPCP") (class_text n) refl (lit< tt) (lit< tt) (class_bytes n name),
      (
        headed (codes "PTCSN") (codes "2") refl (lit< tt) (lit< tt) (known_bytes (codes "2") refl),
        (
          headed (codes "CORCC") (point_text (spot 0 0)) refl (lit< tt) (lit< tt) (known_bytes (point_text (spot 0 0)) refl),
          (
            headed (codes "CORCC") (point_text (spot 1 0)) refl (lit< tt) (lit< tt) (known_bytes (point_text (spot 1 0)) refl),
            (headed (codes "ATCSN") (codes "0") refl (lit< tt) (lit< tt) (known_bytes (codes "0") refl), tt),
          ),
        ),
      ),
    ),
  ),
)

face_bytes : (L : Letters) (n : Name) (rid : List ℕ) → NameBytes n → AreBytes rid → AllByRecursion ZoneBytes (zones_of_record L (face_of n rid))
unfolding zones_of_record zones_of_body digits
face_bytes L n rid name id = (
  headed (codes "RTYSA") (codes "PFE") refl (lit< tt) (lit< tt) (known_bytes (codes "PFE") refl),
  (
    headed (codes "RIDSA") rid refl (lit< tt) (lit< tt) id,
    (
      headed (codes "SCPCP") (class_text n) refl (lit< tt) (lit< tt) (class_bytes n name),
      (headed (codes "ATCSN") (codes "0") refl (lit< tt) (lit< tt) (known_bytes (codes "0") refl), tt),
    ),
  ),
)

link_bytes : (L : Letters) (n : Name) (rid face : List ℕ) → NameBytes n → AreBytes rid → AreBytes (end_text (record { rty = codes "PFE"; rid = face })) → AllByRecursion ZoneBytes (zones_of_record L (link_of n rid (end_at Par (codes "A1")) (end_at Pfe face)))
unfolding zones_of_record zones_of_body zones_of_end digits pointer_text
link_bytes L n rid face name id target = (
  headed (codes "RTYSA") (codes "LNK") refl (lit< tt) (lit< tt) (known_bytes (codes "LNK") refl),
  (
    headed (codes "RIDSA") rid refl (lit< tt) (lit< tt) id,
    (
      headed (codes "SCPCP") (class_text n) refl (lit< tt) (lit< tt) (class_bytes n name),
      (
        headed (codes "FTCSN") (codes "2") refl (lit< tt) (lit< tt) (known_bytes (codes "2") refl),
        (
          headed (codes "FTPCP") (end_text (record { rty = codes "PAR"; rid = codes "A1" })) refl (lit< tt) (lit< tt) (known_bytes (end_text (record { rty = codes "PAR"; rid = codes "A1" })) refl),
          (
            headed (codes "FTPCP") (end_text (record { rty = codes "PFE"; rid = face })) refl (lit< tt) (lit< tt) target,
            (headed (codes "ATCSN") (codes "0") refl (lit< tt) (lit< tt) (known_bytes (codes "0") refl), tt),
          ),
        ),
      ),
    ),
  ),
)

first_target : AreBytes (end_text (record { rty = codes "PFE"; rid = codes "F1" }))
unfolding pointer_text
first_target = known_bytes (end_text (record { rty = codes "PFE"; rid = codes "F1" })) refl

second_target : AreBytes (end_text (record { rty = codes "PFE"; rid = codes "F2" }))
unfolding pointer_text
second_target = known_bytes (end_text (record { rty = codes "PFE"; rid = codes "F2" })) refl

side_bytes : (L : Letters) (m n : Name) → NameBytes m → NameBytes n → IsBytes (records_layout L None (side_records m n))
side_bytes L m n first second =
    let last : AllByRecursion ZoneBytes (zone_end ∷ []) = (headed (codes "EOMT ") [] refl (lit< tt) (lit< tt) tt, tt) in
    let link2 = zones_joined (zones_of_record L (link_of n (codes "L2") (end_at Par (codes "A1")) (end_at Pfe (codes "F2")))) [] (link_bytes L n (codes "L2") (codes "F2") second (known_bytes (codes "L2") refl) second_target) tt in
    let link1 = zones_joined (zones_of_record L (link_of m (codes "L1") (end_at Par (codes "A1")) (end_at Pfe (codes "F1")))) _ (link_bytes L m (codes "L1") (codes "F1") first (known_bytes (codes "L1") refl) first_target) link2 in
    let face2 = zones_joined (zones_of_record L (face_of m (codes "F2"))) _ (face_bytes L m (codes "F2") first (known_bytes (codes "F2") refl)) link1 in
    let face1 = zones_joined (zones_of_record L (face_of m (codes "F1"))) _ (face_bytes L m (codes "F1") first (known_bytes (codes "F1") refl)) face2 in
    let arc = zones_joined (zones_of_record L (arc_of m (codes "A1"))) _ (arc_bytes L m first) face1 in
    is_bytes (records_layout L None (side_records m n)) (printed_bytes (zones_of_sheet L None (side_records m n))
    (headed (codes "BOMT ") (codes "CANON.VEC") refl (lit< tt) (lit< tt) (known_bytes (codes "CANON.VEC") refl), zones_joined _ (zone_end ∷ []) arc last))
  where
    zone_end : ZoneData
    zone_end = Rattle.edi_record.specs.CanonicalZones.end_zone

-- ---- two schemas

-- a canonical file of the one, in which the lesser name is to the left, isn't one of the other, where it is to the right
pub sides_told : (s t : Classes) → IsSchema s → IsSchema t → ((b c : List ℕ) → IsFormOf s b c → IsFormOf t b c) → (m n : Name) → IsPlainName m → IsPlainName n → NameBytes m → NameBytes n → name_cmp m n ≡ Less
    → role_named s m ≡ Some Left → role_named s n ≡ Some Right → role_named t m ≡ Some Right → role_named t n ≡ Some Left → ⊥
sides_told s t hs ht form m n first second mb nb less sm sn tm tn =
    let j = place_some s m Left sm in
    let k = place_some s n Right sn in
    let J = place_some t m Right tm in
    let K = place_some t n Left tn in
    let L = letters s in
    let printable : HasPrintableLetters L = letters_printable s hs in
    let c = records_layout L None (side_records m n) in
    let order : nat_cmp j.0 k.0 ≡ Less = sym (classes_ordered s hs j.0 k.0 m n (name_there s m j.0 j.1) (name_there s n k.0 k.1)) ∙ less in
    let here = sides_written L printable m n first second s Left j.0 k.0 refl j.1 k.1 sm sn in
    let there = sides_written L printable m n first second t Right J.0 K.0 refl J.1 K.1 tm tn in
    let canonical : IsCanonical s c = canonical_so s hs c (side_records m n) (side_plan j.0 k.0 Left) here refl (side_bytes L m n mb nb) (side_order j.0 k.0 order) in
    let again : IsCanonical t c = (form c c (own_form s hs c canonical)).canonical in
    side_disorder J.0 K.0 (order_back t ht c (side_records m n) (side_plan J.0 K.0 Right) there again)
