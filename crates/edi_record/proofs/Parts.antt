-- The parts of a record, and the rules on them.
use Rattle.std.proofs.Common.{◌≡◌, ℕ, suc, ◌<◌, ◌≤◌, Bool, true, false, cond, ◌||◌, ltb, List, [], ◌∷◌, length, map, Option, Some, None, is_none, codes, bytes_eq, refl, sym, ap, ◌∙◌, arith}
use Rattle.std.specs.Prelude.{option_and_then}
use Rattle.std.specs.List.{list_any}
use Rattle.std.proofs.lemmas.Bool.{or_left, or_right, or_from, leb-true, leb-false, lt-ltb, le-ltb}
use Rattle.std.proofs.lemmas.List.{length-map}
use Rattle.std.proofs.lemmas.Slice.Eq.{bytes_eq-Decides}
use Rattle.edi_line.specs.ZoneData.{ZoneData, first}
use Rattle.edi_line.proofs.Truths.{or_true}
use Rattle.edi_record.specs.Texts.{PointerText}
use Rattle.edi_record.specs.inner.Texts.{pointer, point_in}
use Rattle.edi_record.specs.Shapes.{kind_code, may_have_points}
use Rattle.edi_record.specs.Records.{values, has_points, is_link, opens, closes, points_at}
use Rattle.edi_record.specs.inner.Records.{set_after, value_after, attribute, attributes, sns_after, end_with_sense, ends, zones_placed}
use Rattle.edi_record.specs.inner.RecordRules.{kind_named, kind_in, repeats_code, some_no_pointer, has_bad_attribute, has_bad_point, has_bad_end}
use Rattle.edi_record.specs.declared.record.Kind.{Kind}
use Rattle.edi_record.specs.declared.record.Kind.TheVariants.{Pno, Par, Pfe, Fea, Lnk}
use Rattle.edi_record.specs.declared.record.Attribute.{Attribute}
use Rattle.edi_record.specs.LinkEnds.{EndData}
use Rattle.edi_record.specs.declared.record.Point.{Point}
use Rattle.edi_record.specs.inner.Stored.{is_stray, has_stray}

none_missing : {X : Type 0} (ys : List X) → list_any is_none (map Some ys) ≡ false
none_missing [] = refl
none_missing (y ∷ ys) = none_missing ys

pub all_there : {X : Type 0} (xs : List (Option X)) (ys : List X) → xs ≡ map Some ys → list_any is_none xs ≡ false
all_there xs ys e = ap (list_any is_none) e ∙ none_missing ys

pub same_length : {X : Type 0} (xs : List (Option X)) (ys : List X) → xs ≡ map Some ys → length xs ≡ length ys
same_length xs ys e = ap length e ∙ length-map ys Some

-- ---- attributes

no_class : (text : List ℕ) (tex : Option (List ℕ)) (atv : List ℕ) → is_none (attribute text tex atv) ≡ is_none (pointer text)
no_class text tex atv = go (pointer text) refl
  where
    go : (p : Option PointerText) → pointer text ≡ p → is_none (attribute text tex atv) ≡ is_none (pointer text)
    go (Some p) e = rw e refl
    go None e = rw e refl

pub attributes_lack : (g : List ZoneData) → list_any is_none (attributes g) ≡ some_no_pointer (values (codes "ATP") g)
unfolding attributes
attributes_lack [] = refl
attributes_lack (z ∷ zs) = go (opens z) refl (attributes_lack zs)
  where
    go : (b : Bool) → opens z ≡ b → list_any is_none (attributes zs) ≡ some_no_pointer (values (codes "ATP") zs) → list_any is_none (attributes (z ∷ zs)) ≡ some_no_pointer (values (codes "ATP") (z ∷ zs))
    go true e more = rw (e, no_class z.value (set_after zs) (value_after zs), more) refl
    go false e more = rw (e, more) refl

pub attributes_count : (g : List ZoneData) → length (attributes g) ≡ length (values (codes "ATP") g)
unfolding attributes
attributes_count [] = refl
attributes_count (z ∷ zs) = go (opens z) refl (attributes_count zs)
  where
    go : (b : Bool) → opens z ≡ b → length (attributes zs) ≡ length (values (codes "ATP") zs) → length (attributes (z ∷ zs)) ≡ length (values (codes "ATP") (z ∷ zs))
    go true e more = rw e (ap suc more)
    go false e more = rw e more

pub bad_class : (g : List ZoneData) → list_any is_none (attributes g) ≡ true → has_bad_attribute g ≡ true
bad_class g e = or_left _ _ (sym (attributes_lack g) ∙ e)

pub good_attributes : (g : List ZoneData) (found : List Attribute) (stray more : Bool) → attributes g ≡ map Some found → stray ≡ list_any is_stray (zones_placed false g) → stray ≡ false
    → more ≡ repeats_code opens (λ z. opens z || closes z) (codes "TEX") g → more ≡ false → has_bad_attribute g ≡ false
good_attributes g found stray more e s is_stray_not m is_more_not = or_from _ _ (sym (attributes_lack g) ∙ all_there (attributes g) found e) (or_from _ _ (sym s ∙ is_stray_not) (sym m ∙ is_more_not))

-- ---- points

places_lack : (vs : List (List ℕ)) → list_any is_none (map point_in vs) ≡ list_any (λ text. is_none (point_in text)) vs
places_lack [] = refl
places_lack (v ∷ vs) = ap (λ b. is_none (point_in v) || b) (places_lack vs)

pub bad_place : (kind : Kind) (g : List ZoneData) → kind_in g ≡ Some kind → has_points kind ≡ true → list_any is_none (map point_in (values (codes "COR") g)) ≡ true → has_bad_point g ≡ true
bad_place kind g k h e = rw (k, h) (or_left _ _ (sym (places_lack (values (codes "COR") g)) ∙ e))

pub right_points : (kind : Kind) (g : List ZoneData) (ps : List Point) → kind_in g ≡ Some kind → has_points kind ≡ true → map point_in (values (codes "COR") g) ≡ map Some ps → may_have_points kind (length ps) ≡ true → has_bad_point g ≡ false
right_points kind g ps k h e shape = go kind k h shape
  where
    count : length (values (codes "COR") g) ≡ length ps
    count = sym (length-map (values (codes "COR") g) point_in) ∙ same_length (map point_in (values (codes "COR") g)) ps e

    all : list_any (λ text. is_none (point_in text)) (values (codes "COR") g) ≡ false
    all = sym (places_lack (values (codes "COR") g)) ∙ all_there (map point_in (values (codes "COR") g)) ps e

    go : (kind : Kind) → kind_in g ≡ Some kind → has_points kind ≡ true → may_have_points kind (length ps) ≡ true → has_bad_point g ≡ false
    go Pno k h s = rw (k, all, count, s) refl
    go Par k h s = rw (k, all, count) (let two = leb-true _ _ s in le-ltb (length ps) 2 two)
    go Pfe k h s = absurd cc
    go Fea k h s = absurd cc
    go Lnk k h s = absurd cc

pub wrong_number : (kind : Kind) (g : List ZoneData) (ps : List Point) → kind_in g ≡ Some kind → has_points kind ≡ true → map point_in (values (codes "COR") g) ≡ map Some ps → may_have_points kind (length ps) ≡ false → has_bad_point g ≡ true
wrong_number kind g ps k h e shape = go kind k h shape
  where
    count : length (values (codes "COR") g) ≡ length ps
    count = sym (length-map (values (codes "COR") g) point_in) ∙ same_length (map point_in (values (codes "COR") g)) ps e

    go : (kind : Kind) → kind_in g ≡ Some kind → has_points kind ≡ true → may_have_points kind (length ps) ≡ false → has_bad_point g ≡ true
    go Pno k h s = rw (k, count, s) (or_true (list_any (λ text. is_none (point_in text)) (values (codes "COR") g)))
    go Par k h s =
        let less = leb-false _ _ s in
        let few : ltb (length ps) 2 ≡ true = lt-ltb (length ps) 2 (omega (arith, less)) in
        rw (k, count, few) (or_true (list_any (λ text. is_none (point_in text)) (values (codes "COR") g)))
    go Pfe k h s = absurd cc
    go Fea k h s = absurd cc
    go Lnk k h s = absurd cc

-- ---- ends

no_end : (text : List ℕ) (sns : Option (List ℕ)) → is_none (end_with_sense text sns) ≡ is_none (pointer text)
no_end text sns = go (pointer text) refl
  where
    go : (p : Option PointerText) → pointer text ≡ p → is_none (end_with_sense text sns) ≡ is_none (pointer text)
    go (Some p) e = rw e refl
    go None e = rw e refl

pub ends_lack : (g : List ZoneData) → list_any is_none (ends g) ≡ some_no_pointer (values (codes "FTP") g)
unfolding ends
ends_lack [] = refl
ends_lack (z ∷ zs) = go (points_at z) refl (ends_lack zs)
  where
    go : (b : Bool) → points_at z ≡ b → list_any is_none (ends zs) ≡ some_no_pointer (values (codes "FTP") zs) → list_any is_none (ends (z ∷ zs)) ≡ some_no_pointer (values (codes "FTP") (z ∷ zs))
    go true e more = rw (e, no_end z.value (sns_after zs), more) refl
    go false e more = rw (e, more) refl

pub ends_count : (g : List ZoneData) → length (ends g) ≡ length (values (codes "FTP") g)
unfolding ends
ends_count [] = refl
ends_count (z ∷ zs) = go (points_at z) refl (ends_count zs)
  where
    go : (b : Bool) → points_at z ≡ b → length (ends zs) ≡ length (values (codes "FTP") zs) → length (ends (z ∷ zs)) ≡ length (values (codes "FTP") (z ∷ zs))
    go true e more = rw e (ap suc more)
    go false e more = rw e more

pub link_end : (kind : Kind) (g : List ZoneData) → kind_in g ≡ Some kind → is_link kind ≡ true
    → has_bad_end g ≡ (some_no_pointer (values (codes "FTP") g) || (ltb (length (values (codes "FTP") g)) 2 || (has_stray g || repeats_code points_at points_at (codes "SNS") g)))
link_end kind g k h = rw (k, h) refl

pub bad_target : (kind : Kind) (g : List ZoneData) → kind_in g ≡ Some kind → is_link kind ≡ true → list_any is_none (ends g) ≡ true → has_bad_end g ≡ true
bad_target kind g k h e = link_end kind g k h ∙ or_left _ _ (sym (ends_lack g) ∙ e)

pub few_ends : (kind : Kind) (g : List ZoneData) (es : List EndData) → kind_in g ≡ Some kind → is_link kind ≡ true → ends g ≡ map Some es → length es < 2 → has_bad_end g ≡ true
few_ends kind g es k h e few =
    let count = sym (ends_count g) ∙ same_length (ends g) es e in
    link_end kind g k h ∙ or_right _ _ (or_left _ _ (lt-ltb (length (values (codes "FTP") g)) 2 (omega (arith, count, few))))

pub bad_sns : (kind : Kind) (g : List ZoneData) (bad : Bool) → kind_in g ≡ Some kind → is_link kind ≡ true → bad ≡ (has_stray g || repeats_code points_at points_at (codes "SNS") g) → bad ≡ true → has_bad_end g ≡ true
bad_sns kind g bad k h e b = link_end kind g k h ∙ or_right _ _ (or_right _ _ (sym e ∙ b))

pub good_ends : (kind : Kind) (g : List ZoneData) (es : List EndData) (bad : Bool) → kind_in g ≡ Some kind → is_link kind ≡ true → ends g ≡ map Some es → 2 ≤ length es
    → bad ≡ (has_stray g || repeats_code points_at points_at (codes "SNS") g) → bad ≡ false → has_bad_end g ≡ false
good_ends kind g es bad k h e many s b =
    let count = sym (ends_count g) ∙ same_length (ends g) es e in
    link_end kind g k h ∙ or_from _ _ (sym (ends_lack g) ∙ all_there (ends g) es e) (or_from _ _ (le-ltb (length (values (codes "FTP") g)) 2 (omega (arith, count, many))) (sym s ∙ b))

-- ---- types

pub code_named : (v : List ℕ) (kind : Kind) → kind_named v ≡ Some kind → v ≡ kind_code kind
code_named v kind e = go (bytes_eq v (codes "PNO")) refl (bytes_eq v (codes "PAR")) refl (bytes_eq v (codes "PFE")) refl (bytes_eq v (codes "FEA")) refl (bytes_eq v (codes "LNK")) refl e
  where
    is : (code : List ℕ) (own : Kind) → kind_code own ≡ code → bytes_eq v code ≡ true → ◌≡◌ {A = Option Kind} (Some own) (Some kind) → v ≡ kind_code kind
    is code own c b e = let same : own ≡ kind = cc in (bytes_eq-Decides v code).0 b ∙ sym c ∙ ap kind_code same

    go : (a : Bool) → bytes_eq v (codes "PNO") ≡ a → (b : Bool) → bytes_eq v (codes "PAR") ≡ b → (c : Bool) → bytes_eq v (codes "PFE") ≡ c → (d : Bool) → bytes_eq v (codes "FEA") ≡ d → (f : Bool) → bytes_eq v (codes "LNK") ≡ f
        → cond a (Some Pno) (cond b (Some Par) (cond c (Some Pfe) (cond d (Some Fea) (cond f (Some Lnk) None)))) ≡ Some kind → v ≡ kind_code kind
    go true p b q c r d s f t e = is (codes "PNO") Pno refl p e
    go false p true q c r d s f t e = is (codes "PAR") Par refl q e
    go false p false q true r d s f t e = is (codes "PFE") Pfe refl r e
    go false p false q false r true s f t e = is (codes "FEA") Fea refl s e
    go false p false q false r false s true t e = is (codes "LNK") Lnk refl t e
    go false p false q false r false s false t e = absurd cc

pub type_is : (vs : List (List ℕ)) (kind : Kind) → length vs ≡ 1 → option_and_then kind_named (first vs) ≡ Some kind → vs ≡ kind_code kind ∷ []
type_is [] kind one e = absurd cc
type_is (v ∷ []) kind one e = ap (λ t. t ∷ []) (code_named v kind e)
type_is (v ∷ w ∷ vs) kind one e = absurd (omega arith)
