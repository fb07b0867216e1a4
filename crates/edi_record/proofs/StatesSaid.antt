-- What a group states, and the record that reading finds in it.
use Rattle.std.proofs.Common.{◌≡◌, ◌↔◌, ◌⊎◌, ℕ, Bool, true, false, ◌&&◌, ◌||◌, cond, List, [], ◌∷◌, ◌++◌, map, filter, Option, Some, None, option_map, codes, refl, sym, ap, ◌∙◌, subst, inl, inr}
use Rattle.std.specs.Prelude.{unwrap_or}
use Rattle.std.specs.List.{list_any, before_first, AllZip}
use Rattle.std.proofs.lemmas.Bool.{both_ways, and_parts, and_from, not-true, false_from_ne_true, or_parts}
use Rattle.std.proofs.lemmas.List.{append_assoc}
use Rattle.std.proofs.lemmas.List.Folds.{list_any-append}
use Rattle.edi_line.specs.ZoneData.{ZoneData, has_code, first}
use Rattle.edi_line.specs.Made.{AreMadeFrom}
use Rattle.edi_line.proofs.Numbers.{number_unique}
use Rattle.edi_record.specs.Records.{values, has_points, is_link, IsOpen, opens, closes, IsAttributeAt, points_at, IsEndAt, IsExtraAt, IsValueOf, may_be_number, IsExtraOf, States}
use Rattle.edi_record.specs.Texts.{PointerText, IsPointer, PointsTo, IsPosition}
use Rattle.edi_record.specs.inner.Records.{ReadsAsRecord, Placed, zones_placed, is_open_after, is_extra, value_of, extra, extras, attributes, ends}
use Rattle.edi_record.specs.inner.Texts.{pointer, class_of, point_in}
use Rattle.edi_record.specs.declared.name.Name.{Name}
use Rattle.edi_record.specs.declared.record.Attribute.{Attribute}
use Rattle.edi_record.specs.LinkEnds.{EndData}
use Rattle.edi_record.specs.declared.record.Extra.{Extra}
use Rattle.edi_record.specs.declared.record.Kind.{Kind}
use Rattle.edi_record.specs.declared.record.Record.{Record}
use Rattle.edi_record.specs.declared.record.Value.{Value}
use Rattle.edi_record.specs.declared.record.Value.TheVariants.{Number, Bytes}
use Rattle.edi_record.proofs.InStretches.{IsMadeBy, attribute_in, attributes_made, end_in, ends_made}
use Rattle.edi_line.proofs.Made.{made_one}
use Rattle.edi_record.proofs.Passes.{value_said}
use Rattle.edi_record.proofs.Unique.{states_one}
use Rattle.edi_record.proofs.TextParts.{pointer_is, place_is}

-- ---- lists of what is found

zip_found : {X Y : Type 0} (f : X → Option Y) (P : X → Y → Type 0) → ((x : X) (y : Y) → f x ≡ Some y → P x y) → (xs : List X) (ys : List Y) → map f xs ≡ map Some ys → AllZip P xs ys
zip_found f P to [] [] e = tt
zip_found f P to [] (y ∷ ys) e = absurd cc
zip_found f P to (x ∷ xs) [] e = absurd cc
zip_found f P to (x ∷ xs) (y ∷ ys) e = (to x y cc, zip_found f P to xs ys cc)

found_zip : {X Y : Type 0} (f : X → Option Y) (P : X → Y → Type 0) → ((x : X) (y : Y) → P x y → f x ≡ Some y) → (xs : List X) (ys : List Y) → AllZip P xs ys → map f xs ≡ map Some ys
found_zip f P from [] [] h = refl
found_zip f P from [] (y ∷ ys) h = absurd h
found_zip f P from (x ∷ xs) [] h = absurd h
found_zip f P from (x ∷ xs) (y ∷ ys) h = ap (λ o. o ∷ map f xs) (from x y h.0) ∙ ap (λ os. Some y ∷ os) (found_zip f P from xs ys h.1)

-- ---- one item for each zone that passes

module _ {Y : Type 0} (p : ZoneData → Bool) (f : ZoneData → List ZoneData → Option Y) (F : List ZoneData → List (Option Y)) (m : IsMadeBy p f F) (Makes : List ZoneData → ZoneData → List ZoneData → Y → Type 0) where
  made_said : ((front : List ZoneData) (z : ZoneData) (behind : List ZoneData) (y : Y) → f z behind ≡ Some y → Makes front z behind y)
      → (front group : List ZoneData) (ys : List Y) → F group ≡ map Some ys → AreMadeFrom (λ front z. p z ≡ true) Makes front group ys
  made_said to front [] [] e = refl
  made_said to front [] (y ∷ ys) e = let h : ◌≡◌ {A = List (Option Y)} [] (Some y ∷ map Some ys) = sym m.none ∙ e in absurd cc
  made_said to front (z ∷ zs) ys e = go (λ more h. made_said to (front ++ z ∷ []) zs more h) (p z) refl ys e
    where
      go : ((more : List Y) → F zs ≡ map Some more → AreMadeFrom (λ front z. p z ≡ true) Makes (front ++ z ∷ []) zs more)
          → (b : Bool) → p z ≡ b → (ys : List Y) → F (z ∷ zs) ≡ map Some ys → AreMadeFrom (λ front z. p z ≡ true) Makes front (z ∷ zs) ys
      go rest true q [] e = let h : f z zs ∷ F zs ≡ [] = sym (m.here z zs q) ∙ e in absurd cc
      go rest true q (y ∷ ys) e =
          let h : f z zs ∷ F zs ≡ Some y ∷ map Some ys = sym (m.here z zs q) ∙ e in
          inl (y, ys, q, to front z zs y cc, refl, rest ys cc)
      go rest false q ys e = inr (λ t. both_ways _ q t, rest ys (sym (m.skip z zs q) ∙ e))

  made_read : ((front : List ZoneData) (z : ZoneData) (behind : List ZoneData) (y : Y) → Makes front z behind y → f z behind ≡ Some y)
      → (front group : List ZoneData) (ys : List Y) → AreMadeFrom (λ front z. p z ≡ true) Makes front group ys → F group ≡ map Some ys
  made_read from front [] ys e = m.none ∙ sym (ap (map Some) e)
  made_read from front (z ∷ zs) ys (inl (y, more, q, makes, e, h)) =
      m.here z zs q ∙ ap (λ o. o ∷ F zs) (from front z zs y makes) ∙ ap (λ os. Some y ∷ os) (made_read from (front ++ z ∷ []) zs more h) ∙ sym (ap (map Some) e)
  made_read from front (z ∷ zs) ys (inr h) = m.skip z zs (false_from_ne_true _ h.0) ∙ made_read from (front ++ z ∷ []) zs ys h.1

-- ---- names

abbrev name_made : PointerText → Name
name_made p = record { rty = p.rty; rid = p.rid }

pub points_said : (text : List ℕ) (name : Name) → class_of text ≡ Some name → PointsTo text name
points_said text name e = go (pointer text) refl e
  where
    go : (o : Option PointerText) → pointer text ≡ o → option_map name_made o ≡ Some name → PointsTo text name
    go (Some p) q e =
        let same : name_made p ≡ name = cc in
        (p.lot, p.subset, subst (λ n. IsPointer text (record { lot = p.lot; subset = p.subset; rty = n.rty; rid = n.rid })) same ((pointer_is text p).0 q))
    go None q e = absurd cc

pub points_read : (text : List ℕ) (name : Name) → PointsTo text name → class_of text ≡ Some name
points_read text name h = ap (option_map name_made) ((pointer_is text (record { lot = h.0; subset = h.1; rty = name.rty; rid = name.rid })).1 h.2)

-- ---- attributes

abbrev attribute_made : Option (List ℕ) → List ℕ → Name → Attribute
attribute_made tex atv name = record { atp = name; tex = tex; atv = atv }

abbrev set_behind : List ZoneData → Option (List ℕ)
set_behind behind = first (values (codes "TEX") (before_first closes (before_first opens behind)))

abbrev value_behind : List ZoneData → List ℕ
value_behind behind = unwrap_or (first (values (codes "ATV") (before_first opens behind))) []

attribute_said : (front : List ZoneData) (z : ZoneData) (behind : List ZoneData) (a : Attribute) → attribute_in z behind ≡ Some a → IsAttributeAt front z behind a
attribute_said front z behind a e = go (class_of z.value) refl e
  where
    go : (o : Option Name) → class_of z.value ≡ o → option_map (attribute_made (set_behind behind) (value_behind behind)) o ≡ Some a → IsAttributeAt front z behind a
    go (Some name) q e =
        let same : attribute_made (set_behind behind) (value_behind behind) name ≡ a = cc in
        subst (IsAttributeAt front z behind) same (record { class = points_said z.value name q; set = refl; value = refl })
    go None q e = absurd cc

attribute_read : (front : List ZoneData) (z : ZoneData) (behind : List ZoneData) (a : Attribute) → IsAttributeAt front z behind a → attribute_in z behind ≡ Some a
attribute_read front z behind a h =
    ap (option_map (attribute_made (set_behind behind) (value_behind behind))) (points_read z.value a.atp h.class)
    ∙ ap (λ t. Some (attribute_made t (value_behind behind) a.atp)) (sym h.set) ∙ ap (λ t. Some (attribute_made a.tex t a.atp)) (sym h.value)

-- ---- ends

abbrev sns_behind : List ZoneData → Option (List ℕ)
sns_behind behind = first (values (codes "SNS") (before_first points_at behind))

abbrev end_made : Option (List ℕ) → PointerText → EndData
end_made sns p = record { lot = p.lot; subset = p.subset; target = record { rty = p.rty; rid = p.rid }; sns = sns }

end_said : (front : List ZoneData) (z : ZoneData) (behind : List ZoneData) (x : EndData) → end_in z behind ≡ Some x → IsEndAt front z behind x
end_said front z behind x e = go (pointer z.value) refl e
  where
    go : (o : Option PointerText) → pointer z.value ≡ o → option_map (end_made (sns_behind behind)) o ≡ Some x → IsEndAt front z behind x
    go (Some p) q e =
        let same : end_made (sns_behind behind) p ≡ x = cc in
        subst (IsEndAt front z behind) same (record { names = (pointer_is z.value p).0 q; sns = refl })
    go None q e = absurd cc

end_read : (front : List ZoneData) (z : ZoneData) (behind : List ZoneData) (x : EndData) → IsEndAt front z behind x → end_in z behind ≡ Some x
end_read front z behind x h =
    ap (option_map (end_made (sns_behind behind))) ((pointer_is z.value (record { lot = x.lot; subset = x.subset; rty = x.target.rty; rid = x.target.rid })).1 h.names)
    ∙ ap (λ t. Some (end_made t (record { lot = x.lot; subset = x.subset; rty = x.target.rty; rid = x.target.rid }))) (sym h.sns)

-- ---- values

pub value_one : (may : Type 0) (text : List ℕ) (v w : Value) → IsValueOf may text v → IsValueOf may text w → v ≡ w
value_one may text (Number m) (Number n) h k = ap (λ x. Number x) (number_unique text m n h.1 k.1)
value_one may text (Number m) (Bytes b) h k = absurd (k.1 h.0 m h.1)
value_one may text (Bytes b) (Number m) h k = absurd (h.1 k.0 m k.1)
value_one may text (Bytes b) (Bytes c) h k = ap (λ x. Bytes x) (h.0 ∙ sym k.0)

pub value_read : (may : Bool) (text : List ℕ) (v : Value) → IsValueOf (may ≡ true) text v → v ≡ value_of may text
value_read may text v h = value_one (may ≡ true) text v (value_of may text) h (value_said may text)

-- ---- extras

abbrev extra_made : List ℕ → ℕ → ℕ → Value → Extra
extra_made code nature format value = record { code = code; nature = nature; format = format; value = value }

extra_said : (front : List ZoneData) (z : ZoneData) (behind : List ZoneData) → IsExtraOf front z behind (extra z)
extra_said front z behind = record { code = refl; nature = refl; format = refl; value = value_said (may_be_number z.format) z.value }

extra_read : (front : List ZoneData) (z : ZoneData) (behind : List ZoneData) (x : Extra) → IsExtraOf front z behind x → x ≡ extra z
extra_read front z behind x h =
    ap (λ t. extra_made t x.nature x.format x.value) h.code ∙ ap (λ t. extra_made z.code t x.format x.value) h.nature
    ∙ ap (λ t. extra_made z.code z.nature t x.value) h.format ∙ ap (extra_made z.code z.nature z.format) (value_read (may_be_number z.format) z.value x.value h.value)

-- an attribute is open behind these zones, by whatever belongs to it
abbrev pub Open : List ZoneData → Type 0
Open front = (since : List ZoneData) × IsOpen front since

-- a test that says so
abbrev pub SaysOpen : Bool → List ZoneData → Type 0
SaysOpen b front = b ≡ true ↔ Open front

no_cut : (before : List ZoneData) (head : ZoneData) (since : List ZoneData) → [] ≡ before ++ head ∷ since → ⊥
no_cut [] head since e = cc
no_cut (x ∷ before) head since e = cc

pub open_none : SaysOpen false []
open_none = (λ e. (let h : false ≡ true = e in absurd cc), λ h. absurd (no_cut h.1.before h.1.head h.0 h.1.cut))

-- where the last zone is taken off a cut
abbrev PushCut : List ZoneData → ZoneData → List ZoneData → ZoneData → List ZoneData → Type 0
PushCut front z before head since = ((front ≡ before) × (z ≡ head) × (since ≡ [])) ⊎ ((rest : List ZoneData) × (since ≡ rest ++ z ∷ []) × (front ≡ before ++ head ∷ rest))

push_cut : (front : List ZoneData) (z : ZoneData) (before : List ZoneData) (head : ZoneData) (since : List ZoneData) → front ++ z ∷ [] ≡ before ++ head ∷ since → PushCut front z before head since
push_cut [] z [] head since e = inl (refl, cc, cc)
push_cut [] z (b ∷ before) head since e = absurd (no_cut before head since cc)
push_cut (x ∷ front) z [] head since e =
    let rest : front ++ z ∷ [] ≡ since = cc in
    let head_same : x ≡ head = cc in
    inr (front, sym rest, ap (λ w. w ∷ front) head_same)
push_cut (x ∷ front) z (b ∷ before) head since e = along (push_cut front z before head since cc)
  where
    first_same : x ≡ b
    first_same = cc

    along : PushCut front z before head since → PushCut (x ∷ front) z (b ∷ before) head since
    along (inl h) = inl (ap (λ w. w ∷ front) first_same ∙ ap (λ l. b ∷ l) h.0, h.1, h.2)
    along (inr h) = inr (h.0, h.1, ap (λ w. w ∷ front) first_same ∙ ap (λ l. b ∷ l) h.2)

any_push : (p : ZoneData → Bool) (xs : List ZoneData) (x : ZoneData) → list_any p xs ≡ false → p x ≡ false → list_any p (xs ++ x ∷ []) ≡ false
any_push p xs x h k = list_any-append p xs (x ∷ []) ∙ rw (h, k) refl

any_pushed : (p : ZoneData → Bool) (xs : List ZoneData) (x : ZoneData) → list_any p (xs ++ x ∷ []) ≡ false → (list_any p xs ≡ false) × (p x ≡ false)
any_pushed p xs x e = go (list_any p xs) refl (p x) refl
  where
    go : (a : Bool) → list_any p xs ≡ a → (b : Bool) → p x ≡ b → (list_any p xs ≡ false) × (p x ≡ false)
    go false h false k = (h, k)
    go true h b k = let t : true ≡ false = sym (list_any-append p xs (x ∷ []) ∙ rw h refl) ∙ e in absurd cc
    go false h true k = let t : true ≡ false = sym (list_any-append p xs (x ∷ []) ∙ rw (h, k) refl) ∙ e in absurd cc

abbrev ends_attribute : ZoneData → Bool
ends_attribute z = opens z || closes z

open_begun : (front : List ZoneData) (z : ZoneData) → opens z ≡ true → Open (front ++ z ∷ [])
open_begun front z q = ([], record { before = front; head = z; cut = refl; begun = q; goes_on = refl })

open_still : (front : List ZoneData) (z : ZoneData) → ends_attribute z ≡ false → Open front → Open (front ++ z ∷ [])
open_still front z q h = (
  h.0 ++ z ∷ [],
  record {
    before = h.1.before;
    head = h.1.head;
    cut = ap (λ l. l ++ z ∷ []) h.1.cut ∙ append_assoc h.1.before (h.1.head ∷ h.0) (z ∷ []);
    begun = h.1.begun;
    goes_on = any_push ends_attribute h.0 z h.1.goes_on q;
  },
)

open_back : (front : List ZoneData) (z : ZoneData) → opens z ≡ false → Open (front ++ z ∷ []) → (ends_attribute z ≡ false) × Open front
open_back front z q h = along (push_cut front z h.1.before h.1.head h.0 h.1.cut)
  where
    along : PushCut front z h.1.before h.1.head h.0 → (ends_attribute z ≡ false) × Open front
    along (inl k) = absurd (both_ways _ q (ap opens k.1 ∙ h.1.begun))
    along (inr k) =
        let off = any_pushed ends_attribute k.0 z (sym (ap (list_any ends_attribute) k.1) ∙ h.1.goes_on) in
        (off.1, (k.0, record { before = h.1.before; head = h.1.head; cut = k.2; begun = h.1.begun; goes_on = off.0 }))

-- one zone more
pub open_more : (b : Bool) (front : List ZoneData) (z : ZoneData) → SaysOpen b front → SaysOpen (is_open_after b z) (front ++ z ∷ [])
open_more b front z says = go (opens z) refl (closes z) refl
  where
    go : (o : Bool) → opens z ≡ o → (c : Bool) → closes z ≡ c → SaysOpen (cond o true (cond c false b)) (front ++ z ∷ [])
    go true q c r = (λ e. open_begun front z q, λ h. refl)
    go false q true r = (λ e. (let h : false ≡ true = e in absurd cc), λ h. absurd (both_ways _ (open_back front z q h).0 (rw (q, r) refl)))
    go false q false r = (λ e. open_still front z (rw (q, r) refl) (says.0 e), λ h. says.1 (open_back front z q h).1)

pub extra_test : (kind : Kind) (b : Bool) (front : List ZoneData) (z : ZoneData) → SaysOpen b front → is_extra kind (record { open_before = b; zone = z }) ≡ true → IsExtraAt kind front z
extra_test kind b front z says e =
    let p = or_parts _ _ (not-true _ e) in
    record {
      unknown = p.1;
      no_set = λ since h. false_from_ne_true _ (λ t. both_ways _ p.0 (and_from _ _ t (says.1 (since, h))));
    }

pub test_extra : (kind : Kind) (b : Bool) (front : List ZoneData) (z : ZoneData) → SaysOpen b front → IsExtraAt kind front z → is_extra kind (record { open_before = b; zone = z }) ≡ true
test_extra kind b front z says h =
    let set : (has_code (codes "TEX") z && b) ≡ false = false_from_ne_true _ (λ t. let p = and_parts _ _ t in let o = says.0 p.1 in both_ways _ (h.no_set o.0 o.1) p.0) in
    rw (set, h.unknown) refl

abbrev extras_from : Kind → Bool → List ZoneData → List Extra
extras_from kind b group = map (λ (p : Placed). extra p.zone) (filter (is_extra kind) (zones_placed b group))

extras_end : (kind : Kind) (b : Bool) → extras_from kind b [] ≡ []
unfolding zones_placed
extras_end kind b = refl

extras_here : (kind : Kind) (b : Bool) (z : ZoneData) (zs : List ZoneData) → is_extra kind (record { open_before = b; zone = z }) ≡ true → extras_from kind b (z ∷ zs) ≡ extra z ∷ extras_from kind (is_open_after b z) zs
unfolding zones_placed
extras_here kind b z zs e = rw e refl

extras_skip : (kind : Kind) (b : Bool) (z : ZoneData) (zs : List ZoneData) → is_extra kind (record { open_before = b; zone = z }) ≡ false → extras_from kind b (z ∷ zs) ≡ extras_from kind (is_open_after b z) zs
unfolding zones_placed
extras_skip kind b z zs e = rw e refl

extras_said : (kind : Kind) (b : Bool) (front group : List ZoneData) → SaysOpen b front → AreMadeFrom (IsExtraAt kind) IsExtraOf front group (extras_from kind b group)
extras_said kind b front [] says = extras_end kind b
extras_said kind b front (z ∷ zs) says = go (extras_said kind (is_open_after b z) (front ++ z ∷ []) zs (open_more b front z says)) (is_extra kind (record { open_before = b; zone = z })) refl
  where
    go : AreMadeFrom (IsExtraAt kind) IsExtraOf (front ++ z ∷ []) zs (extras_from kind (is_open_after b z) zs)
        → (t : Bool) → is_extra kind (record { open_before = b; zone = z }) ≡ t → AreMadeFrom (IsExtraAt kind) IsExtraOf front (z ∷ zs) (extras_from kind b (z ∷ zs))
    go more true e = inl (extra z, extras_from kind (is_open_after b z) zs, extra_test kind b front z says e, extra_said front z zs, extras_here kind b z zs e, more)
    go more false e = inr (λ h. both_ways _ e (test_extra kind b front z says h), subst (AreMadeFrom (IsExtraAt kind) IsExtraOf (front ++ z ∷ []) zs) (sym (extras_skip kind b z zs e)) more)

extras_read : (kind : Kind) (group : List ZoneData) (xs : List Extra) → AreMadeFrom (IsExtraAt kind) IsExtraOf [] group xs → extras kind group ≡ xs
extras_read kind group xs h =
    sym (made_one (IsExtraAt kind) IsExtraOf (λ front z behind x y s t. extra_read front z behind x s ∙ sym (extra_read front z behind y t)) [] group xs (extras kind group) h (extras_said kind false [] group open_none))

-- ---- records

class_said : (texts : List (List ℕ)) (name : Name) → map class_of texts ≡ Some name ∷ [] → (text : List ℕ) × (texts ≡ text ∷ []) × PointsTo text name
class_said [] name e = absurd cc
class_said (text ∷ []) name e = (text, refl, points_said text name cc)
class_said (text ∷ other ∷ texts) name e = absurd cc

points_chosen : (b : Bool) (texts : List (List ℕ)) → cond b (map point_in texts) [] ≡ map point_in (cond b texts [])
points_chosen true texts = refl
points_chosen false texts = refl

ends_chosen : (b : Bool) (group : List ZoneData) → cond b (ends group) [] ≡ ends (cond b group [])
ends_chosen true group = refl
ends_chosen false group = sym ends_made.none

pub states_said : (group : List ZoneData) (r : Record) → ReadsAsRecord group r → States group r
states_said group r h = record {
  type = h.type;
  rid = h.rid;
  scp = class_said (values (codes "SCP") group) r.scp h.scp;
  points = zip_found point_in IsPosition (λ text p e. (place_is text p).0 e) (cond (has_points r.kind) (values (codes "COR") group) []) r.points (sym (points_chosen (has_points r.kind) (values (codes "COR") group)) ∙ h.points);
  ends = made_said points_at end_in ends ends_made IsEndAt end_said [] (cond (is_link r.kind) group []) r.ends (sym (ends_chosen (is_link r.kind) group) ∙ h.ends);
  attributes = made_said opens attribute_in attributes attributes_made IsAttributeAt attribute_said [] group r.attributes h.attributes;
  extras = subst (AreMadeFrom (IsExtraAt r.kind) IsExtraOf [] group) h.extras (extras_said r.kind false [] group open_none);
}

pub states_read : (group : List ZoneData) (r : Record) → States group r → ReadsAsRecord group r
states_read group r h = record {
  type = h.type;
  rid = h.rid;
  scp = ap (map class_of) h.scp.1 ∙ ap (λ o. o ∷ []) (points_read h.scp.0 r.scp h.scp.2);
  points = points_chosen (has_points r.kind) (values (codes "COR") group) ∙ found_zip point_in IsPosition (λ text p s. (place_is text p).1 s) (cond (has_points r.kind) (values (codes "COR") group) []) r.points h.points;
  ends = ends_chosen (is_link r.kind) group ∙ made_read points_at end_in ends ends_made IsEndAt end_read [] (cond (is_link r.kind) group []) r.ends h.ends;
  attributes = made_read opens attribute_in attributes attributes_made IsAttributeAt attribute_read [] group r.attributes h.attributes;
  extras = extras_read r.kind group r.extras h.extras;
}

pub states_unique : (group : List ZoneData) (r q : Record) → States group r → States group q → r ≡ q
states_unique group r q h k = states_one group r q (states_read group r h) (states_read group q k)

pub all_said : (groups : List (List ZoneData)) (list : List Record) → AllZip ReadsAsRecord groups list → AllZip States groups list
all_said [] [] h = tt
all_said [] (r ∷ list) h = absurd h
all_said (g ∷ groups) [] h = absurd h
all_said (g ∷ groups) (r ∷ list) h = (states_said g r h.0, all_said groups list h.1)

pub all_read : (groups : List (List ZoneData)) (list : List Record) → AllZip States groups list → AllZip ReadsAsRecord groups list
all_read [] [] h = tt
all_read [] (r ∷ list) h = absurd h
all_read (g ∷ groups) [] h = absurd h
all_read (g ∷ groups) (r ∷ list) h = (states_read g r h.0, all_read groups list h.1)
