-- Zones that go to what is kept of a record.
use Rattle.std.proofs.Common.{◌≡◌, ℕ, ◌+◌, inl, inr, Bool, true, false, cond, not, ◌&&◌, List, [], ◌∷◌, length, Option, is_some, codes, bytes_eq, refl, sym, ap, ◌∙◌, subst, arith}
use Rattle.std.specs.List.{list_any}
use Rattle.std.proofs.lemmas.Bool.{or_right, or_parts}
use Rattle.std.proofs.lemmas.Slice.Eq.{bytes_eq-Decides}
use Rattle.edi_line.specs.ZoneData.{ZoneData, has_code}
use Rattle.edi_record.specs.Records.{values, has_points, is_link, known_anywhere, known_in, is_known}
use Rattle.edi_record.specs.inner.Records.{is_open_after, is_extra}
use Rattle.edi_record.specs.inner.RecordRules.{is_arc_kind}
use Rattle.edi_record.specs.inner.Stored.{AreTexts, AreCounts, AreClassTexts, LeavesOpen, StoresAttributes, StoresPoints, StoresEnds, StoresExtras, StoresRecord, TakesExtra, KeptAttributes, KeptExtras, KeptRecord}
use Rattle.edi_record.specs.declared.only.Only.{Only}
use Rattle.edi_record.specs.declared.role.ZoneRole.TheVariants.{BodyCount, Skipped, Unknown}
use Rattle.edi_record.specs.declared.record.Kind.{Kind}
use Rattle.edi_record.specs.declared.record.Kind.TheVariants.{Pno, Par, Pfe, Fea, Lnk}
use Rattle.edi_record.proofs.AttributesStored.{attributes_pass}
use Rattle.edi_record.proofs.EndsStored.{ends_pass}
use Rattle.edi_record.proofs.GroupCuts.{value_here, value_skipped}
use Rattle.edi_record.proofs.PointsStored.{points_pass, extras_pass}
use Rattle.edi_record.proofs.Roles.{CodeIs, no_arc, link_known, point_count_known, arc_apart, link_apart, place_apart}
use Rattle.edi_record.proofs.Stated.{any_apart}

-- ---- texts

-- so much is stored of texts, where these are left and those are all
abbrev Stores : Type 0 → Type 1
Stores T = T → List (List ℕ) → List (List ℕ) → Type 0

pub texts_pass : {T : Type 0} (Are : Stores T) (o : T) (code : List ℕ) (z : ZoneData) (left : List ZoneData) (all : List (List ℕ)) → has_code code z ≡ false → Are o (values code (z ∷ left)) all → Are o (values code left) all
texts_pass Are o code z left all e h = subst (λ vs. Are o vs all) (value_skipped code z left e) h

pub text_taken : {T : Type 0} (Are : Stores T) (old new : T) (code text : List ℕ) (z : ZoneData) (left : List ZoneData) (all : List (List ℕ)) → has_code code z ≡ true → text ≡ z.value
    → ((left all : List (List ℕ)) → Are old (text ∷ left) all → Are new left all) → Are old (values code (z ∷ left)) all → Are new (values code left) all
text_taken Are old new code text z left all e same takes h = takes (values code left) all (subst (λ vs. Are old vs all) (value_here code z left text e same) h)

-- ---- counts

pub count_pass : (code : List ℕ) (n all : ℕ) (z : ZoneData) (left : List ZoneData) → has_code code z ≡ false → all ≡ n + length (values code (z ∷ left)) → all ≡ n + length (values code left)
count_pass code n all z left e h = h ∙ ap (λ vs. n + length vs) (value_skipped code z left e)

pub count_taken : (code : List ℕ) (n all : ℕ) (z : ZoneData) (left : List ZoneData) → has_code code z ≡ true → all ≡ n + length (values code (z ∷ left)) → all ≡ n + 1 + length (values code left)
count_taken code n all z left e h = let here = ap length (value_here code z left z.value e refl) in omega (arith, h, here)

-- ---- the parts that don't take a zone with a code

pub record Others (code : List ℕ) (d : KeptRecord) (z : ZoneData) (left group : List ZoneData) : Type 0 where
  pub identifier : bytes_eq code (codes "RID") ≡ false → AreTexts d.identifier (values (codes "RID") left) (values (codes "RID") group)
  pub class : bytes_eq code (codes "SCP") ≡ false → AreClassTexts d.class (values (codes "SCP") left) (values (codes "SCP") group)
  pub attribute_count : bytes_eq code (codes "ATC") ≡ false → AreCounts d.attribute_count (values (codes "ATC") left) (values (codes "ATC") group)
  pub point_count : bytes_eq code (codes "PTC") ≡ false → is_arc_kind d.kind ≡ true → AreCounts d.body_count (values (codes "PTC") left) (values (codes "PTC") group)
  pub end_count : bytes_eq code (codes "FTC") ≡ false → is_link d.kind ≡ true → AreCounts d.body_count (values (codes "FTC") left) (values (codes "FTC") group)
  pub counted_points : bytes_eq code (codes "COR") ≡ false → has_points d.kind ≡ true → length (values (codes "COR") group) ≡ d.counted + length (values (codes "COR") left)
  pub counted_ends : bytes_eq code (codes "FTP") ≡ false → is_link d.kind ≡ true → length (values (codes "FTP") group) ≡ d.counted + length (values (codes "FTP") left)
  pub attributes : bytes_eq code (codes "ATP") ≡ false → bytes_eq code (codes "ATV") ≡ false → (is_some d.attributes.opened && bytes_eq code (codes "TEX")) ≡ false → StoresAttributes d.attributes left group
  pub points : bytes_eq code (codes "COR") ≡ false → has_points d.kind ≡ true → StoresPoints d.points left group
  pub ends : bytes_eq code (codes "FTP") ≡ false → bytes_eq code (codes "SNS") ≡ false → is_link d.kind ≡ true → StoresEnds d.ends left group
  pub extras : is_known d.kind code ≡ true → d.attributes.is_broken ≡ false → StoresExtras d.kind (is_open_after (is_some d.attributes.opened) z) d.extras left group

pub others : (code : List ℕ) (d : KeptRecord) (z : ZoneData) (left group : List ZoneData) → z.code ≡ code → StoresRecord d (z ∷ left) group → Others code d z left group
others code d z left group is h = record {
  identifier = λ e. texts_pass AreTexts d.identifier (codes "RID") z left (values (codes "RID") group) (no (codes "RID") e) h.identifier;
  class = λ e. texts_pass AreClassTexts d.class (codes "SCP") z left (values (codes "SCP") group) (no (codes "SCP") e) h.class;
  attribute_count = λ e. texts_pass AreCounts d.attribute_count (codes "ATC") z left (values (codes "ATC") group) (no (codes "ATC") e) h.attribute_count;
  point_count = λ e k. texts_pass AreCounts d.body_count (codes "PTC") z left (values (codes "PTC") group) (no (codes "PTC") e) (h.point_count k);
  end_count = λ e k. texts_pass AreCounts d.body_count (codes "FTC") z left (values (codes "FTC") group) (no (codes "FTC") e) (h.end_count k);
  counted_points = λ e k. count_pass (codes "COR") d.counted (length (values (codes "COR") group)) z left (no (codes "COR") e) (h.counted_points k);
  counted_ends = λ e k. count_pass (codes "FTP") d.counted (length (values (codes "FTP") group)) z left (no (codes "FTP") e) (h.counted_ends k);
  attributes = λ e f g. attributes_pass d.attributes z left group (no (codes "ATP") e) (no (codes "ATV") f) (ap (λ c. is_some d.attributes.opened && bytes_eq c (codes "TEX")) is ∙ g) h.attributes;
  points = λ e k. points_pass d.points z left group (no (codes "COR") e) (h.points k);
  ends = λ e f k. ends_pass d.ends z left group (no (codes "FTP") e) (no (codes "SNS") f) (h.ends k);
  extras = λ e b. extras_pass d.kind (is_some d.attributes.opened) d.extras z left group (known (ap (is_known d.kind) is ∙ e)) (h.extras b);
}
  where
    no : (c : List ℕ) → bytes_eq code c ≡ false → has_code c z ≡ false
    no c e = ap (λ t. bytes_eq t c) is ∙ e

    known : is_known d.kind z.code ≡ true → is_extra d.kind (record { open_before = is_some d.attributes.opened; zone = z }) ≡ false
    known e = ap not (or_right (has_code (codes "TEX") z && is_some d.attributes.opened) (is_known d.kind z.code) e)

-- no attribute is opened or closed
pub open_stays : (code : List ℕ) (is_open : Bool) (z : ZoneData) → z.code ≡ code → bytes_eq code (codes "ATP") ≡ false → bytes_eq code (codes "ATV") ≡ false → is_open_after is_open z ≡ is_open
open_stays code is_open z is e f = rw (ap (λ t. bytes_eq t (codes "ATP")) is ∙ e, ap (λ t. bytes_eq t (codes "ATV")) is ∙ f) refl

-- the extras where this zone, which isn't one, opened and closed no attribute
pub extras_stay : (code : List ℕ) (d : KeptRecord) (z : ZoneData) (left group : List ZoneData) → z.code ≡ code → bytes_eq code (codes "ATP") ≡ false → bytes_eq code (codes "ATV") ≡ false
    → (d.attributes.is_broken ≡ false → StoresExtras d.kind (is_open_after (is_some d.attributes.opened) z) d.extras left group) → d.attributes.is_broken ≡ false → StoresExtras d.kind (is_some d.attributes.opened) d.extras left group
extras_stay code d z left group is e f h b = subst (λ o. StoresExtras d.kind o d.extras left group) (open_stays code (is_some d.attributes.opened) z is e f) (h b)

-- ---- a zone with a code

pub has : (code : List ℕ) (z : ZoneData) → z.code ≡ code → has_code code z ≡ true
has code z is = (bytes_eq-Decides z.code code).1 is

pub no_set : (d : KeptRecord) → (is_some d.attributes.opened && false) ≡ false
no_set d = go (is_some d.attributes.opened)
  where
    go : (b : Bool) → (b && false) ≡ false
    go true = refl
    go false = refl

-- the extras where a zone opened or closed an attribute
pub extras_move : (is_open : Bool) (code : List ℕ) (d : KeptRecord) (new : KeptAttributes) (z : ZoneData) (left group : List ZoneData) → z.code ≡ code → cond (bytes_eq code (codes "ATP")) true (cond (bytes_eq code (codes "ATV")) false (is_some d.attributes.opened)) ≡ is_open
    → LeavesOpen is_open d.attributes new → (d.attributes.is_broken ≡ false → StoresExtras d.kind (is_open_after (is_some d.attributes.opened) z) d.extras left group)
    → new.is_broken ≡ false → StoresExtras d.kind (is_some new.opened) d.extras left group
extras_move is_open code d new z left group is after leaves h b =
    let was = leaves b in
    let same : is_open_after (is_some d.attributes.opened) z ≡ is_some new.opened = ap (λ c. cond (bytes_eq c (codes "ATP")) true (cond (bytes_eq c (codes "ATV")) false (is_some d.attributes.opened))) is ∙ after ∙ sym was.1 in
    subst (λ o. StoresExtras d.kind o d.extras left group) same (h was.0)

-- the extras where the open attribute took a character set
pub extras_beside_set : (d : KeptRecord) (new : KeptAttributes) (z : ZoneData) (left group : List ZoneData) → z.code ≡ codes "TEX" → is_some d.attributes.opened ≡ true → LeavesOpen true d.attributes new
    → (d.attributes.is_broken ≡ false → StoresExtras d.kind (is_some d.attributes.opened) d.extras (z ∷ left) group) → new.is_broken ≡ false → StoresExtras d.kind (is_some new.opened) d.extras left group
extras_beside_set d new z left group is was leaves h =
    extras_move true (codes "TEX") d new z left group is was leaves (λ b. extras_pass d.kind (is_some d.attributes.opened) d.extras z left group not_extra (h b))
  where
    not_extra : is_extra d.kind (record { open_before = is_some d.attributes.opened; zone = z }) ≡ false
    not_extra = rw (has (codes "TEX") z is, was) refl

pub set_is_extra : (kind : Kind) (is_open : Bool) (z : ZoneData) → z.code ≡ codes "TEX" → is_open ≡ false → is_extra kind (record { open_before = is_open; zone = z }) ≡ true
set_is_extra kind is_open z is none = rw (is, none) (by_kind kind)
  where
    by_kind : (kind : Kind) → not (is_known kind (codes "TEX")) ≡ true
    by_kind Pno = refl
    by_kind Par = refl
    by_kind Pfe = refl
    by_kind Fea = refl
    by_kind Lnk = refl

-- the extras with one more
pub extra_kept : (code : List ℕ) (d : KeptRecord) (new : KeptExtras) (z : ZoneData) (left group : List ZoneData) → z.code ≡ code → bytes_eq code (codes "ATP") ≡ false → bytes_eq code (codes "ATV") ≡ false
    → is_extra d.kind (record { open_before = is_some d.attributes.opened; zone = z }) ≡ true → TakesExtra z d.extras new
    → (d.attributes.is_broken ≡ false → StoresExtras d.kind (is_some d.attributes.opened) d.extras (z ∷ left) group) → d.attributes.is_broken ≡ false → StoresExtras d.kind (is_some d.attributes.opened) new left group
extra_kept code d new z left group is e f extra takes h b =
    subst (λ o. StoresExtras d.kind o new left group) (open_stays code (is_some d.attributes.opened) z is e f) (takes d.kind (is_some d.attributes.opened) left group extra (h b))

-- ---- counts of points or of ends

pub body_count_taken : (d : KeptRecord) (new : Only (Option ℕ)) (z : ZoneData) (left group : List ZoneData) (text : List ℕ) → CodeIs d.kind z.code BodyCount → text ≡ z.value
    → ((left all : List (List ℕ)) → AreCounts d.body_count (text ∷ left) all → AreCounts new left all) → StoresRecord d (z ∷ left) group
    → StoresRecord (record { kind = d.kind; identifier = d.identifier; class = d.class; attribute_count = d.attribute_count; body_count = new; counted = d.counted; attributes = d.attributes; points = d.points; ends = d.ends; extras = d.extras }) left group
body_count_taken d new z left group text (inl (arc, is)) same takes h =
    let o = others (codes "PTC") d z left group is h in
    record {
      identifier = o.identifier refl;
      class = o.class refl;
      attribute_count = o.attribute_count refl;
      point_count = λ k. text_taken AreCounts d.body_count new (codes "PTC") text z left (values (codes "PTC") group) (has (codes "PTC") z is) same takes (h.point_count k);
      end_count = λ k. absurd (no_arc d.kind arc k);
      counted_points = o.counted_points refl;
      counted_ends = o.counted_ends refl;
      attributes = o.attributes refl refl (no_set d);
      points = o.points refl;
      ends = o.ends refl refl;
      extras = extras_stay (codes "PTC") d z left group is refl refl (o.extras (point_count_known d.kind arc));
    }
body_count_taken d new z left group text (inr (link, is)) same takes h =
    let o = others (codes "FTC") d z left group is h in
    record {
      identifier = o.identifier refl;
      class = o.class refl;
      attribute_count = o.attribute_count refl;
      point_count = λ k. absurd (no_arc d.kind k link);
      end_count = λ k. text_taken AreCounts d.body_count new (codes "FTC") text z left (values (codes "FTC") group) (has (codes "FTC") z is) same takes (h.end_count k);
      counted_points = o.counted_points refl;
      counted_ends = o.counted_ends refl;
      attributes = o.attributes refl refl (no_set d);
      points = o.points refl;
      ends = o.ends refl refl;
      extras = extras_stay (codes "FTC") d z left group is refl refl (o.extras (link_known d.kind (codes "FTC") link refl));
    }

-- ---- zones that no part takes

-- the codes of the zones that go to parts
abbrev taken_codes : List (List ℕ)
taken_codes = codes "RID" ∷ codes "SCP" ∷ codes "ATC" ∷ codes "PTC" ∷ codes "FTC" ∷ codes "COR" ∷ codes "FTP" ∷ codes "SNS" ∷ codes "ATP" ∷ codes "ATV" ∷ codes "TEX" ∷ []

passed : (code : List ℕ) (d : KeptRecord) (z : ZoneData) (left group : List ZoneData) → z.code ≡ code → list_any (bytes_eq code) taken_codes ≡ false → is_known d.kind code ≡ true → StoresRecord d (z ∷ left) group → StoresRecord d left group
passed code d z left group is free known h =
    let o = others code d z left group is h in
    let a = any_apart (bytes_eq code) taken_codes free in
    let points = a.1.1.1.1.1 in
    let attributes = points.1.1.1 in
    record {
      identifier = o.identifier a.0;
      class = o.class a.1.0;
      attribute_count = o.attribute_count a.1.1.0;
      point_count = o.point_count a.1.1.1.0;
      end_count = o.end_count a.1.1.1.1.0;
      counted_points = o.counted_points points.0;
      counted_ends = o.counted_ends points.1.0;
      attributes = o.attributes attributes.0 attributes.1.0 (ap (λ b. is_some d.attributes.opened && b) attributes.1.1.0 ∙ no_set d);
      points = o.points points.0;
      ends = o.ends points.1.0 points.1.1.0;
      extras = extras_stay code d z left group is attributes.0 attributes.1.0 (o.extras known);
    }

pub skipped : (d : KeptRecord) (z : ZoneData) (left group : List ZoneData) → CodeIs d.kind z.code Skipped → StoresRecord d (z ∷ left) group → StoresRecord d left group
skipped d z left group (inl is) h = passed (codes "RTY") d z left group is refl refl h
skipped d z left group (inr (inl is)) h = passed (codes "QAC") d z left group is refl refl h
skipped d z left group (inr (inr is)) h = passed (codes "QAP") d z left group is refl refl h

-- ---- zones whose code isn't known

pub unknown_taken : (d : KeptRecord) (new : KeptExtras) (z : ZoneData) (left group : List ZoneData) → CodeIs d.kind z.code Unknown → TakesExtra z d.extras new → StoresRecord d (z ∷ left) group
    → StoresRecord (record { kind = d.kind; identifier = d.identifier; class = d.class; attribute_count = d.attribute_count; body_count = d.body_count; counted = d.counted; attributes = d.attributes; points = d.points; ends = d.ends; extras = new }) left group
unknown_taken d new z left group is takes h =
    let o = others z.code d z left group refl h in
    let parts = or_parts (list_any (bytes_eq z.code) known_anywhere) (list_any (bytes_eq z.code) (known_in d.kind)) is.0 in
    let a = any_apart (bytes_eq z.code) known_anywhere parts.0 in
    let attributes = a.1.1.1.1 in
    record {
      identifier = o.identifier a.1.0;
      class = o.class a.1.1.0;
      attribute_count = o.attribute_count a.1.1.1.0;
      point_count = λ k. o.point_count (arc_apart d.kind z.code k parts.1).1 k;
      end_count = λ k. o.end_count (link_apart d.kind z.code k parts.1).0 k;
      counted_points = λ k. o.counted_points (place_apart d.kind z.code k parts.1) k;
      counted_ends = λ k. o.counted_ends (link_apart d.kind z.code k parts.1).1.0 k;
      attributes = o.attributes attributes.0 attributes.1.0 (ap (λ b. is_some d.attributes.opened && b) is.1 ∙ no_set d);
      points = λ k. o.points (place_apart d.kind z.code k parts.1) k;
      ends = λ k. let l = link_apart d.kind z.code k parts.1 in o.ends l.1.0 l.1.1 k;
      extras = extra_kept z.code d new z left group refl attributes.0 attributes.1.0 (rw (is.1, is.0) refl) takes h.extras;
    }
