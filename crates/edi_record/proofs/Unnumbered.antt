-- The rules of records don't look at the lines that zones lie on.
use Rattle.std.proofs.Common.{◌≡◌, ℕ, ◌+◌, Bool, true, false, cond, not, ◌&&◌, ◌||◌, ltb, eqb, List, [], ◌∷◌, map, length, filter, one-add, Option, Some, None, codes, refl, sym, ap, ◌∙◌, is_none, is_some}
use Rattle.std.specs.Prelude.{option_and_then}
use Rattle.std.specs.List.{list_any}
use Rattle.edi_line.specs.ZoneData.{ZoneData, has_code, first}
use Rattle.edi_line.specs.Refusal.{test}
use Rattle.edi_line.specs.Zones.{begins_group, ends_group, before_end, groups_of}
use Rattle.edi_line.specs.Printing.{at_line, lines_of_zone, line_numbered}
use Rattle.edi_record.specs.inner.Texts.{pointer, point_in}
use Rattle.edi_record.specs.Records.{values, has_points, is_link, opens, closes, points_at}
use Rattle.edi_record.specs.inner.Records.{Placed, is_open_after, zones_placed}
use Rattle.edi_record.specs.RecordRules.{just_one, is_identifier, has_no_identifier}
use Rattle.edi_record.specs.inner.RecordRules.{kind_named, kind_in, in_kind, is_node, is_arc_kind, some_no_pointer, count_until, repeats_code, counts_right, counts_wrong, is_unknown_pointer, has_no_kind, has_no_class, has_bad_attribute, has_wrong_count, has_bad_point, has_bad_end, has_unknown_pointer, record_tests}
use Rattle.edi_record.specs.declared.record.Kind.{Kind}
use Rattle.edi_record.specs.inner.Stored.{is_stray, has_stray}
use Rattle.edi_record.proofs.Loops.{stray_sns_goes_on}

-- zones that lie on no line
abbrev pub bare : List ZoneData → List ZoneData
bare zones = map (at_line 0) zones

bare_value : (b : Bool) (z : ZoneData) (xs ys : List ZoneData) → map (λ (w : ZoneData). w.value) xs ≡ map (λ (w : ZoneData). w.value) ys
    → map (λ (w : ZoneData). w.value) (cond b (at_line 0 z ∷ xs) xs) ≡ map (λ (w : ZoneData). w.value) (cond b (z ∷ ys) ys)
bare_value true z xs ys e = ap (λ t. z.value ∷ t) e
bare_value false z xs ys e = e

bare_values : (code : List ℕ) (zs : List ZoneData) → values code (bare zs) ≡ values code zs
bare_values code [] = refl
bare_values code (z ∷ zs) = bare_value (has_code code z) z (filter (has_code code) (bare zs)) (filter (has_code code) zs) (bare_values code zs)

-- a test that doesn't look at lines
abbrev IsBlind : (ZoneData → Bool) → Type 0
IsBlind p = (z : ZoneData) → p (at_line 0 z) ≡ p z

bare_count : (p : ZoneData → Bool) → IsBlind p → (code : List ℕ) (zs : List ZoneData) → count_until p code (bare zs) ≡ count_until p code zs
bare_count p blind code [] = refl
bare_count p blind code (z ∷ zs) = rw (blind z, bare_count p blind code zs) refl

bare_repeats : (p q : ZoneData → Bool) → IsBlind p → IsBlind q → (code : List ℕ) (zs : List ZoneData) → repeats_code p q code (bare zs) ≡ repeats_code p q code zs
bare_repeats p q blind_p blind_q code [] = refl
bare_repeats p q blind_p blind_q code (z ∷ zs) = rw (blind_p z, bare_count q blind_q code zs, bare_repeats p q blind_p blind_q code zs) refl

abbrev place_made : Bool → ZoneData → Placed
place_made b z = record { open_before = b; zone = z }

bare_placed : (p : Placed → Bool) → ((b : Bool) (z : ZoneData) → p (place_made b (at_line 0 z)) ≡ p (place_made b z)) → (b : Bool) (zs : List ZoneData) → list_any p (zones_placed b (bare zs)) ≡ list_any p (zones_placed b zs)
unfolding zones_placed
bare_placed p blind b [] = refl
bare_placed p blind b (z ∷ zs) = rw (blind b z, bare_placed p blind (is_open_after b z) zs) refl

sns_here : (z : ZoneData) (zs : List ZoneData) → points_at z ≡ false → has_code (codes "SNS") z ≡ true → has_stray (z ∷ zs) ≡ true
sns_here z zs e f = rw (e, one-add, f) refl

bare_stray : (zs : List ZoneData) → has_stray (bare zs) ≡ has_stray zs
bare_stray [] = refl
bare_stray (z ∷ zs) = go (points_at z) refl (has_code (codes "SNS") z) refl (bare_stray zs)
  where
    go : (b : Bool) → points_at z ≡ b → (c : Bool) → has_code (codes "SNS") z ≡ c → has_stray (bare zs) ≡ has_stray zs → has_stray (bare (z ∷ zs)) ≡ has_stray (z ∷ zs)
    go true e c f more = rw e refl
    go false e true f more = sns_here (at_line 0 z) (bare zs) e f ∙ sym (sns_here z zs e f)
    go false e false f more = sym (stray_sns_goes_on (at_line 0 z) (bare zs) e f) ∙ more ∙ stray_sns_goes_on z zs e f

-- ---- each rule

bare_kind : (g : List ZoneData) → kind_in (bare g) ≡ kind_in g
bare_kind g = ap (λ vs. option_and_then kind_named (first vs)) (bare_values (codes "RTY") g)

bare_in_kind : (t u : Kind → Bool) (g : List ZoneData) → ((kind : Kind) → t kind ≡ u kind) → in_kind t (bare g) ≡ in_kind u g
bare_in_kind t u g same = go (kind_in g) refl
  where
    go : (o : Option Kind) → kind_in g ≡ o → in_kind t (bare g) ≡ in_kind u g
    go None e = rw (bare_kind g ∙ e, e) refl
    go (Some kind) e = rw (bare_kind g ∙ e, e) (same kind)

same_or : (a b c d : Bool) → a ≡ c → b ≡ d → (a || b) ≡ (c || d)
same_or a b c d p q = rw (p, q) refl

same_and : (a b c d : Bool) → a ≡ c → b ≡ d → (a && b) ≡ (c && d)
same_and a b c d p q = rw (p, q) refl

bare_counts : (counting counted : List ℕ) (g : List ZoneData) → counts_wrong counting counted (bare g) ≡ counts_wrong counting counted g
bare_counts counting counted g =
    ap (λ vs. not (counts_right vs (length (values counted (bare g))))) (bare_values counting g) ∙ ap (λ vs. not (counts_right (values counting g) (length vs))) (bare_values counted g)

bare_attribute : (g : List ZoneData) → has_bad_attribute (bare g) ≡ has_bad_attribute g
bare_attribute g =
    same_or (some_no_pointer (values (codes "ATP") (bare g))) _ (some_no_pointer (values (codes "ATP") g)) _ (ap some_no_pointer (bare_values (codes "ATP") g))
    (same_or (list_any is_stray (zones_placed false (bare g))) _ (list_any is_stray (zones_placed false g)) _ (bare_placed is_stray (λ b z. refl) false g)
    (bare_repeats opens (λ z. opens z || closes z) (λ z. refl) (λ z. refl) (codes "TEX") g))

bare_wrong_count : (g : List ZoneData) → has_wrong_count (bare g) ≡ has_wrong_count g
bare_wrong_count g =
    same_or (counts_wrong (codes "ATC") (codes "ATP") (bare g)) _ (counts_wrong (codes "ATC") (codes "ATP") g) _ (bare_counts (codes "ATC") (codes "ATP") g)
    (same_or (in_kind is_arc_kind (bare g) && counts_wrong (codes "PTC") (codes "COR") (bare g)) _ (in_kind is_arc_kind g && counts_wrong (codes "PTC") (codes "COR") g) _
    (same_and (in_kind is_arc_kind (bare g)) _ (in_kind is_arc_kind g) _ (bare_in_kind is_arc_kind is_arc_kind g (λ kind. refl)) (bare_counts (codes "PTC") (codes "COR") g))
    (same_and (in_kind is_link (bare g)) _ (in_kind is_link g) _ (bare_in_kind is_link is_link g (λ kind. refl)) (bare_counts (codes "FTC") (codes "FTP") g)))

no_position : List (List ℕ) → Bool
no_position texts = list_any (λ text. is_none (point_in text)) texts

bare_point : (g : List ZoneData) → has_bad_point (bare g) ≡ has_bad_point g
unfolding no_position
bare_point g =
    same_or (in_kind has_points (bare g) && no_position (values (codes "COR") (bare g))) _ (in_kind has_points g && no_position (values (codes "COR") g)) _
    (same_and (in_kind has_points (bare g)) _ (in_kind has_points g) _ (bare_in_kind has_points has_points g (λ kind. refl)) (ap no_position (bare_values (codes "COR") g)))
    (same_or (in_kind is_node (bare g) && not (eqb (length (values (codes "COR") (bare g))) 1)) _ (in_kind is_node g && not (eqb (length (values (codes "COR") g)) 1)) _
    (same_and (in_kind is_node (bare g)) _ (in_kind is_node g) _ (bare_in_kind is_node is_node g (λ kind. refl)) (ap (λ vs. not (eqb (length vs) 1)) (bare_values (codes "COR") g)))
    (same_and (in_kind is_arc_kind (bare g)) _ (in_kind is_arc_kind g) _ (bare_in_kind is_arc_kind is_arc_kind g (λ kind. refl)) (ap (λ vs. ltb (length vs) 2) (bare_values (codes "COR") g))))

bare_end : (g : List ZoneData) → has_bad_end (bare g) ≡ has_bad_end g
bare_end g =
    same_and (in_kind is_link (bare g)) _ (in_kind is_link g) _ (bare_in_kind is_link is_link g (λ kind. refl))
    (same_or (some_no_pointer (values (codes "FTP") (bare g))) _ (some_no_pointer (values (codes "FTP") g)) _ (ap some_no_pointer (bare_values (codes "FTP") g))
    (same_or (ltb (length (values (codes "FTP") (bare g))) 2) _ (ltb (length (values (codes "FTP") g)) 2) _ (ap (λ vs. ltb (length vs) 2) (bare_values (codes "FTP") g))
    (same_or (has_stray (bare g)) _ (has_stray g) _ (bare_stray g) (bare_repeats points_at points_at (λ z. refl) (λ z. refl) (codes "SNS") g))))

bare_pointer : (g : List ZoneData) → has_unknown_pointer (bare g) ≡ has_unknown_pointer g
bare_pointer g =
    bare_in_kind (λ kind. list_any (is_unknown_pointer kind) (zones_placed false (bare g))) (λ kind. list_any (is_unknown_pointer kind) (zones_placed false g)) g
    (λ kind. bare_placed (is_unknown_pointer kind) (λ b z. refl) false g)

eight_tests : (a b c d e f g h i j k l m n o p : Bool) → a ≡ i → b ≡ j → c ≡ k → d ≡ l → e ≡ m → f ≡ n → g ≡ o → h ≡ p
    → test 201 a ∷ test 202 b ∷ test 203 c ∷ test 204 d ∷ test 205 e ∷ test 206 f ∷ test 207 g ∷ test 208 h ∷ []
    ≡ test 201 i ∷ test 202 j ∷ test 203 k ∷ test 204 l ∷ test 205 m ∷ test 206 n ∷ test 207 o ∷ test 208 p ∷ []
eight_tests a b c d e f g h i j k l m n o p q r s t u v w x = rw (q, r, s, t, u, v, w, x) refl

-- The rules are the same wherever the zones lie.
pub bare_tests : (g : List ZoneData) → record_tests (bare g) ≡ record_tests g
bare_tests g =
    eight_tests (has_no_kind (bare g)) (has_no_identifier (bare g)) (has_no_class (bare g)) (has_bad_attribute (bare g)) (has_wrong_count (bare g)) (has_bad_point (bare g)) (has_bad_end (bare g)) (has_unknown_pointer (bare g))
    (has_no_kind g) (has_no_identifier g) (has_no_class g) (has_bad_attribute g) (has_wrong_count g) (has_bad_point g) (has_bad_end g) (has_unknown_pointer g)
    (ap is_none (bare_kind g))
    (ap (λ vs. not (just_one is_identifier vs)) (bare_values (codes "RID") g))
    (ap (λ vs. not (just_one (λ text. is_some (pointer text)) vs)) (bare_values (codes "SCP") g))
    (bare_attribute g) (bare_wrong_count g) (bare_point g) (bare_end g) (bare_pointer g)

-- ---- groups

bare_before : (zs : List ZoneData) → before_end (bare zs) ≡ bare (before_end zs)
bare_before [] = refl
bare_before (z ∷ zs) = go (ends_group z) (bare_before zs)
  where
    go : (b : Bool) → before_end (bare zs) ≡ bare (before_end zs) → cond b [] (at_line 0 z ∷ before_end (bare zs)) ≡ bare (cond b [] (z ∷ before_end zs))
    go true e = refl
    go false e = ap (λ t. at_line 0 z ∷ t) e

bare_groups : (zs : List ZoneData) → groups_of (bare zs) ≡ map bare (groups_of zs)
bare_groups [] = refl
bare_groups (z ∷ zs) = go (begins_group z) (bare_groups zs)
  where
    go : (b : Bool) → groups_of (bare zs) ≡ map bare (groups_of zs) → cond b ((at_line 0 z ∷ before_end (bare zs)) ∷ groups_of (bare zs)) (groups_of (bare zs)) ≡ map bare (cond b ((z ∷ before_end zs) ∷ groups_of zs) (groups_of zs))
    go true e = ap (λ t. (at_line 0 z ∷ t) ∷ groups_of (bare zs)) (bare_before zs) ∙ ap (λ t. bare (z ∷ before_end zs) ∷ t) e
    go false e = e

bare_numbered : (n : ℕ) (zs : List ZoneData) → bare (line_numbered n zs) ≡ bare zs
bare_numbered n [] = refl
bare_numbered n (z ∷ zs) = ap (λ t. at_line 0 z ∷ t) (bare_numbered (n + length (lines_of_zone z)) zs)

-- the groups of line_numbered zones are those of the zones, but for the lines
pub same_groups : (n : ℕ) (zs : List ZoneData) → map bare (groups_of (line_numbered n zs)) ≡ map bare (groups_of zs)
same_groups n zs = sym (bare_groups (line_numbered n zs)) ∙ ap groups_of (bare_numbered n zs) ∙ bare_groups zs
