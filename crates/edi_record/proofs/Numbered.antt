-- What zones state doesn't depend on the lines that they lie on.
use Rattle.std.proofs.Common.{◌≡◌, ℕ, ◌+◌, Bool, true, false, cond, ◌||◌, List, [], ◌∷◌, ◌++◌, map, length, filter, flat_map, codes, bytes_eq, refl, sym, ap, ◌∙◌, subst, append_assoc, arith}
use Rattle.std.specs.List.{AllByRecursion, AllZip}
use Rattle.edi_line.specs.ZoneData.{ZoneData, has_code}
use Rattle.edi_line.specs.Zones.{begins_group, ends_group, before_end, groups_of}
use Rattle.edi_line.specs.Printing.{at_line, lines_of_zone, line_numbered}
use Rattle.edi_record.specs.inner.Texts.{point_in, class_of}
use Rattle.edi_record.specs.Records.{values, has_points, is_link}
use Rattle.edi_record.specs.inner.Records.{set_after, value_after, attributes, sns_after, ends, Placed, is_open_after, zones_placed, is_extra, extra, ReadsAsRecord}
use Rattle.edi_record.specs.declared.record.Kind.{Kind}
use Rattle.edi_record.specs.declared.record.Record.{Record}

-- the line that follows a zone
abbrev after : ℕ → ZoneData → ℕ
after n z = n + length (lines_of_zone z)

picked : (b : Bool) (n : ℕ) (z : ZoneData) (xs ys : List ZoneData) → map (λ (w : ZoneData). w.value) xs ≡ map (λ (w : ZoneData). w.value) ys
    → map (λ (w : ZoneData). w.value) (cond b (at_line n z ∷ xs) xs) ≡ map (λ (w : ZoneData). w.value) (cond b (z ∷ ys) ys)
picked true n z xs ys e = ap (λ t. z.value ∷ t) e
picked false n z xs ys e = e

pub same_values : (code : List ℕ) (n : ℕ) (zs : List ZoneData) → values code (line_numbered n zs) ≡ values code zs
same_values code n [] = refl
same_values code n (z ∷ zs) = picked (bytes_eq z.code code) n z (filter (has_code code) (line_numbered (after n z) zs)) (filter (has_code code) zs) (same_values code (after n z) zs)

same_set : (n : ℕ) (zs : List ZoneData) → set_after (line_numbered n zs) ≡ set_after zs
unfolding set_after
same_set n [] = refl
same_set n (z ∷ zs) = rw (same_set (after n z) zs) refl

same_value : (n : ℕ) (zs : List ZoneData) → value_after (line_numbered n zs) ≡ value_after zs
unfolding value_after
same_value n [] = refl
same_value n (z ∷ zs) = rw (same_value (after n z) zs) refl

pub same_attributes : (n : ℕ) (zs : List ZoneData) → attributes (line_numbered n zs) ≡ attributes zs
unfolding attributes
same_attributes n [] = refl
same_attributes n (z ∷ zs) = rw (same_set (after n z) zs, same_value (after n z) zs, same_attributes (after n z) zs) refl

same_sns : (n : ℕ) (zs : List ZoneData) → sns_after (line_numbered n zs) ≡ sns_after zs
unfolding sns_after
same_sns n [] = refl
same_sns n (z ∷ zs) = rw (same_sns (after n z) zs) refl

pub same_ends : (n : ℕ) (zs : List ZoneData) → ends (line_numbered n zs) ≡ ends zs
unfolding ends
same_ends n [] = refl
same_ends n (z ∷ zs) = rw (same_sns (after n z) zs, same_ends (after n z) zs) refl

abbrev place_made : Bool → ZoneData → Placed
place_made b z = record { open_before = b; zone = z }

extra_kept : (test : Bool) (b : Bool) (n : ℕ) (z : ZoneData) (xs ys : List Placed) → map (λ (p : Placed). extra p.zone) xs ≡ map (λ (p : Placed). extra p.zone) ys
    → map (λ (p : Placed). extra p.zone) (cond test (place_made b (at_line n z) ∷ xs) xs) ≡ map (λ (p : Placed). extra p.zone) (cond test (place_made b z ∷ ys) ys)
extra_kept true b n z xs ys e = ap (λ t. extra z ∷ t) e
extra_kept false b n z xs ys e = e

same_extras : (kind : Kind) (b : Bool) (n : ℕ) (zs : List ZoneData) → map (λ (p : Placed). extra p.zone) (filter (is_extra kind) (zones_placed b (line_numbered n zs))) ≡ map (λ (p : Placed). extra p.zone) (filter (is_extra kind) (zones_placed b zs))
unfolding zones_placed
same_extras kind b n [] = refl
same_extras kind b n (z ∷ zs) =
    extra_kept (is_extra kind (place_made b z)) b n z (filter (is_extra kind) (zones_placed (is_open_after b z) (line_numbered (after n z) zs))) (filter (is_extra kind) (zones_placed (is_open_after b z) zs)) (same_extras kind (is_open_after b z) (after n z) zs)

pub numbered_states : (n : ℕ) (zs : List ZoneData) (r : Record) → ReadsAsRecord zs r → ReadsAsRecord (line_numbered n zs) r
numbered_states n zs r h = record {
  type = same_values (codes "RTY") n zs ∙ h.type;
  rid = same_values (codes "RID") n zs ∙ h.rid;
  scp = ap (map class_of) (same_values (codes "SCP") n zs) ∙ h.scp;
  points = ap (λ t. cond (has_points r.kind) (map point_in t) []) (same_values (codes "COR") n zs) ∙ h.points;
  ends = ap (λ t. cond (is_link r.kind) t []) (same_ends n zs) ∙ h.ends;
  attributes = same_attributes n zs ∙ h.attributes;
  extras = same_extras r.kind false n zs ∙ h.extras;
}

-- ---- the groups of line_numbered zones

abbrev lines_in : List ZoneData → ℕ
lines_in [] = 0
lines_in (z ∷ zs) = length (lines_of_zone z) + lines_in zs

numbered_append : (n : ℕ) (xs ys : List ZoneData) → line_numbered n (xs ++ ys) ≡ line_numbered n xs ++ line_numbered (n + lines_in xs) ys
numbered_append n [] ys = ap (λ k. line_numbered k ys) (omega arith)
numbered_append n (x ∷ xs) ys = ap (λ t. at_line n x ∷ t) (numbered_append (after n x) xs ys ∙ ap (λ k. line_numbered (after n x) xs ++ line_numbered k ys) (omega arith))

abbrev NoneEnds : List ZoneData → Type 0
NoneEnds zs = AllByRecursion (λ z. ends_group z ≡ false) zs

before_numbered : (n : ℕ) (xs rest : List ZoneData) → NoneEnds xs → before_end rest ≡ [] → before_end (line_numbered n xs ++ rest) ≡ line_numbered n xs
before_numbered n [] rest h end = end
before_numbered n (x ∷ xs) rest h end = rw (h.0) (ap (λ t. at_line n x ∷ t) (before_numbered (after n x) xs rest h.1 end))

no_begin : (a b : Bool) → (a || b) ≡ false → a ≡ false
no_begin false b e = refl
no_begin true b e = absurd cc

groups_numbered : (n : ℕ) (xs rest : List ZoneData) → NoneEnds xs → groups_of (line_numbered n xs ++ rest) ≡ groups_of rest
groups_numbered n [] rest h = refl
groups_numbered n (x ∷ xs) rest h = rw (no_begin (bytes_eq x.code (codes "RTY")) (bytes_eq x.code (codes "EOM")) h.0) (groups_numbered (after n x) xs rest h.1)

-- an RTY, and zones behind it of which none begins or ends a record
pub record IsCut (zs : List ZoneData) : Type 0 where
  pub first : ZoneData
  pub rest : List ZoneData
  pub joined : zs ≡ first ∷ rest
  pub leads : begins_group first ≡ true
  pub none : NoneEnds rest

cut_ends : (n : ℕ) (zs rest : List ZoneData) → IsCut zs → before_end (line_numbered n zs ++ rest) ≡ []
cut_ends n zs rest c = ap (λ t. before_end (line_numbered n t ++ rest)) c.joined ∙ rw (c.leads) refl

cut_group : (n : ℕ) (zs rest : List ZoneData) → IsCut zs → before_end rest ≡ [] → groups_of (line_numbered n zs ++ rest) ≡ line_numbered n zs ∷ groups_of rest
cut_group n zs rest c end =
    ap (λ t. groups_of (line_numbered n t ++ rest)) c.joined
    ∙ rw (c.leads, before_numbered (after n c.first) c.rest rest c.none end, groups_numbered (after n c.first) c.rest rest c.none)
    (ap (λ t. line_numbered n t ∷ groups_of rest) (sym c.joined))

-- the groups of printed records are theirs
pub groups_state : (zones : Record → List ZoneData) (said : Record → Record) (rs : List Record) (n : ℕ) (tail : ZoneData)
    → AllByRecursion (λ r. IsCut (zones r) × ReadsAsRecord (zones r) (said r)) rs → begins_group tail ≡ false → ends_group tail ≡ true
    → (before_end (line_numbered n (flat_map zones rs ++ tail ∷ [])) ≡ []) × AllZip ReadsAsRecord (groups_of (line_numbered n (flat_map zones rs ++ tail ∷ []))) (map said rs)
groups_state zones said [] n tail h apart end = (rw end refl, subst (λ gs. AllZip ReadsAsRecord gs []) (sym (none n tail apart)) tt)
  where
    none : (n : ℕ) (tail : ZoneData) → begins_group tail ≡ false → groups_of (line_numbered n (tail ∷ [])) ≡ []
    none n tail apart = rw apart refl
groups_state zones said (r ∷ rs) n tail h apart end =
    let more = groups_state zones said rs (n + lines_in (zones r)) tail h.1 apart end in
    let rest = line_numbered (n + lines_in (zones r)) (flat_map zones rs ++ tail ∷ []) in
    let whole : line_numbered n (flat_map zones (r ∷ rs) ++ tail ∷ []) ≡ line_numbered n (zones r) ++ rest =
    ap (line_numbered n) (append_assoc (zones r) (flat_map zones rs) (tail ∷ [])) ∙ numbered_append n (zones r) (flat_map zones rs ++ tail ∷ []) in (
      ap before_end whole ∙ cut_ends n (zones r) rest h.0.0,
      subst (λ gs. AllZip ReadsAsRecord gs (map said (r ∷ rs))) (sym (ap groups_of whole ∙ cut_group n (zones r) rest h.0.0 more.0))
          (numbered_states n (zones r) (said r) h.0.1, more.1),
    )
