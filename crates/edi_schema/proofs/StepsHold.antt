-- The rules of the records of two files, against the steps over what is read of them.
use Rattle.std.proofs.Common.{◌≡◌, ◌≢◌, ◌⊎◌, ℕ, zero, suc, ◌-◌, ◌<◌, ◌≤◌, Bool, true, false, cond, ◌||◌, List, [], ◌∷◌, length, map, take, Option, Some, None, option_map, slice_get, position, codes, refl, sym, ap, ◌∙◌, subst, arith, inl, inr, true≢false}
use Rattle.std.specs.Prelude.{option_and_then, find}
use Rattle.std.specs.List.{AllByRecursion, IsDistinct, list_any}
use Rattle.std.proofs.lemmas.Option.{same_Some, none-some, slice_get-map, slice_get_within, slice_get-get_or, get_or_from_slice_get}
use Rattle.std.proofs.lemmas.List.Quantifiers.{position-Some}
use Rattle.std.proofs.lemmas.Map.Keys.{apart_from_distinct}
use Rattle.edi_line.specs.ZoneData.{ZoneData}
use Rattle.edi_record.specs.declared.name.Name.{Name}
use Rattle.edi_record.specs.Records.{values, first}
use Rattle.edi_record.specs.RecordRules.{has_no_identifier}
use Rattle.edi_record.specs.Texts.{PointsTo}
use Rattle.edi_record.specs.inner.Texts.{class_of}
use Rattle.edi_record.proofs.StatesSaid.{points_said, points_read}
use Rattle.edi_schema.specs.Roles.{KindCodes}
use Rattle.edi_schema.specs.Classes.{Classes, is_name}
use Rattle.edi_schema.specs.inner.Drafts.{Said, said_in, draft_name, word_in, type_by, class_by, class_in}
use Rattle.edi_schema.specs.SchemaOf.{IsNamed}
use Rattle.edi_schema.specs.SchemaRules.{BreaksEntry, HasNoWord, IsFirstEntry, EntriesHold, step}
use Rattle.edi_schema.specs.SchemaRules.BreaksEntry.{lacks_identifier, repeats_name, no_word}
use Rattle.edi_schema.specs.inner.Steps.{AreIdentified, IsFirstUnidentified, IsFirstRepeat, IsFirstLacking, names_said, AreNamed, StopsAt, AreStated}
use Rattle.edi_schema.specs.inner.Steps.StopsAt.{class_unidentified, word_unidentified, class_repeats, word_repeats, lacks_word}
use Rattle.edi_schema.specs.declared.fault.Source.{Source}
use Rattle.edi_schema.specs.declared.fault.Source.TheVariants.{Scd, Dic}
use Rattle.edi_schema.proofs.Led.{IsLed, is_named, named_so}
use Rattle.edi_schema.proofs.Names.{same_name, name_itself}
use Rattle.edi_schema.proofs.Ordered.{all_at}

abbrev pub unidentified : Said → Bool
unidentified s = s.lacks_identifier

-- a group at a place of a list of groups
abbrev pub At : List (List ZoneData) → ℕ → List ZoneData → Type 0
At gs at g = (1 ≤ at) × (slice_get gs (at - 1) ≡ Some g)

abbrev Lacks : List (List ZoneData) → ℕ → Type 0
Lacks gs at = (g : List ZoneData) × At gs at g × (has_no_identifier g ≡ true)

abbrev Repeats : List (List ZoneData) → ℕ → Type 0
Repeats gs at = (m : ℕ) × (earlier g : List ZoneData) × (name : Name) × (m < at) × At gs m earlier × At gs at g × IsNamed earlier name × IsNamed g name

-- ---- 601

none_passes : {X : Type 0} (p : X → Bool) (xs : List X) → position p xs ≡ None → (k : ℕ) (x : X) → slice_get xs k ≡ Some x → p x ≡ false
none_passes p xs none k x here = go (p x) refl
  where
    go : (b : Bool) → p x ≡ b → b ≡ false
    go false e = refl
    go true e =
        let some = Rattle.edi_schema.proofs.Paired.is_counted p xs k x here e in
        let zero_count = Rattle.edi_schema.proofs.Noted.none_counted p xs none in
        absurd (omega (arith, some, zero_count))

all_in_form : (gs : List (List ZoneData)) → AreIdentified (map said_in gs) → (k : ℕ) (g : List ZoneData) → slice_get gs k ≡ Some g → has_no_identifier g ≡ false
all_in_form gs none k g here = none_passes unidentified (map said_in gs) none k (said_in g) (slice_get-map said_in gs k ∙ ap (option_map said_in) here)

no_lack : (gs : List (List ZoneData)) → AreIdentified (map said_in gs) → (at : ℕ) → Lacks gs at → ⊥
no_lack gs none at h = true≢false (sym h.2 ∙ all_in_form gs none (at - 1) h.0 h.1.1)

first_lack : (gs : List (List ZoneData)) (at : ℕ) → IsFirstUnidentified (map said_in gs) at → Lacks gs at × ((p : ℕ) → Lacks gs p → at ≤ p)
first_lack gs at h = (found, least)
  where
    below : h.place < length (map said_in gs)
    below = (position-Some unidentified (map said_in gs) h.place (said_in []) h.here).0

    item : (g : List ZoneData) × (slice_get gs h.place ≡ Some g) × (has_no_identifier g ≡ true)
    item = pick (slice_get gs h.place) refl
      where
        passes : unidentified (Rattle.std.proofs.Common.get_or (map said_in gs) h.place (said_in [])) ≡ true
        passes = (position-Some unidentified (map said_in gs) h.place (said_in []) h.here).1

        read : slice_get (map said_in gs) h.place ≡ Some (Rattle.std.proofs.Common.get_or (map said_in gs) h.place (said_in []))
        read = slice_get-get_or (map said_in gs) h.place (said_in []) below

        pick : (o : Option (List ZoneData)) → slice_get gs h.place ≡ o → (g : List ZoneData) × (slice_get gs h.place ≡ Some g) × (has_no_identifier g ≡ true)
        pick None e = absurd (none-some _ (sym (slice_get-map said_in gs h.place ∙ ap (option_map said_in) e) ∙ read))
        pick (Some g) e =
            let same : said_in g ≡ Rattle.std.proofs.Common.get_or (map said_in gs) h.place (said_in []) = same_Some _ _ (sym (slice_get-map said_in gs h.place ∙ ap (option_map said_in) e) ∙ read) in
            (g, e, ap unidentified same ∙ passes)

    found : Lacks gs at
    found =
        let place : at - 1 ≡ h.place = omega (arith, h.at_is) in
        (item.0, (omega (arith, h.at_is), ap (slice_get gs) place ∙ item.1), item.2)

    least : (p : ℕ) → Lacks gs p → at ≤ p
    least p l = go (Rattle.std.proofs.lemmas.Bool.cases_order (p - 1) h.place)
      where
        earlier : p - 1 < h.place → ⊥
        earlier lower =
            let fails = (position-Some unidentified (map said_in gs) h.place (said_in []) h.here).2 (p - 1) lower in
            let read = get_or_from_slice_get (map said_in gs) (p - 1) (said_in l.0) (said_in []) (slice_get-map said_in gs (p - 1) ∙ ap (option_map said_in) l.1.1) in
            true≢false (sym l.2 ∙ (sym (ap unidentified read) ∙ fails))

        go : (p - 1 ≡ h.place) ⊎ ((p - 1 < h.place) ⊎ (h.place < p - 1)) → at ≤ p
        go (inl e) = let one : 1 ≤ p = l.1.0 in omega (arith, e, h.at_is, one)
        go (inr (inl lower)) = absurd (earlier lower)
        go (inr (inr upper)) = omega (arith, upper, h.at_is)

-- ---- 602

name_at_place : (gs : List (List ZoneData)) (k : ℕ) (g : List ZoneData) → slice_get gs k ≡ Some g → slice_get (names_said (map said_in gs)) k ≡ Some (draft_name g)
name_at_place gs k g e =
    slice_get-map (λ s. s.name) (map said_in gs) k ∙ (ap (option_map (λ s. s.name)) (slice_get-map said_in gs k) ∙ ap (λ o. option_map (λ s. s.name) (option_map said_in o)) e)

distinct_apart : (ns : List Name) → IsDistinct is_name ns → (i k : ℕ) (m n : Name) → i < k → slice_get ns i ≡ Some m → slice_get ns k ≡ Some n → is_name m n ≡ false
distinct_apart ns distinct i k m n lower h g =
    let apart = apart_from_distinct is_name ns i k m distinct lower (slice_get_within ns k n g) in
    sym (ap (λ x. is_name x n) (get_or_from_slice_get ns i m m h) ∙ refl) ∙ (ap (is_name (Rattle.std.proofs.Common.get_or ns i m)) (sym (get_or_from_slice_get ns k n m g)) ∙ apart)

no_repeat : (gs : List (List ZoneData)) → IsDistinct is_name (names_said (map said_in gs)) → (at : ℕ) → Repeats gs at → ⊥
no_repeat gs distinct at h =
    let m = h.0 in
    let name = h.3 in
    let first_at : At gs m h.1 = h.5 in
    let one : 1 ≤ m = first_at.0 in
    let lower : m < at = h.4 in
    let apart = distinct_apart (names_said (map said_in gs)) distinct (m - 1) (at - 1) (draft_name h.1) (draft_name h.2) (omega (arith, one, lower)) (name_at_place gs (m - 1) h.1 h.5.1) (name_at_place gs (at - 1) h.2 h.6.1) in
    let same : draft_name h.1 ≡ draft_name h.2 = sym (named_so h.1 name h.7) ∙ named_so h.2 name h.8 in
    true≢false (sym (name_itself (draft_name h.2)) ∙ (sym (ap (λ x. is_name x (draft_name h.2)) same) ∙ apart))

any_at : {X : Type 0} (test : X → Bool) (xs : List X) → list_any test xs ≡ true → (j : ℕ) × (x : X) × (slice_get xs j ≡ Some x) × (test x ≡ true)
any_at test [] h = absurd (true≢false (sym h))
any_at {X} test (x ∷ xs) h = go (test x) refl h (any_at test xs)
  where
    go : (b : Bool) → test x ≡ b → (b || list_any test xs) ≡ true → (list_any test xs ≡ true → (j : ℕ) × (y : X) × (slice_get xs j ≡ Some y) × (test y ≡ true)) → (j : ℕ) × (y : X) × (slice_get (x ∷ xs) j ≡ Some y) × (test y ≡ true)
    go true e h more = (0, x, refl, e)
    go false e h more = let found = more h in (suc found.0, found.1, found.2, found.3)

taken_at : {X : Type 0} (xs : List X) (n k : ℕ) (x : X) → slice_get (take n xs) k ≡ Some x → (k < n) × (slice_get xs k ≡ Some x)
taken_at [] zero k x e = absurd (none-some x e)
taken_at [] (suc n) k x e = absurd (none-some x e)
taken_at (y ∷ ys) zero k x e = absurd (none-some x e)
taken_at (y ∷ ys) (suc n) zero x e = (omega arith, e)
taken_at (y ∷ ys) (suc n) (suc k) x e = let more = taken_at ys n k x e in (omega (arith, more.0), more.1)

take_at_place : {X : Type 0} (xs : List X) (n k : ℕ) (x : X) → k < n → slice_get xs k ≡ Some x → slice_get (take n xs) k ≡ Some x
take_at_place [] zero k x below e = absurd (omega arith)
take_at_place [] (suc n) k x below e = absurd (none-some x e)
take_at_place (y ∷ ys) zero k x below e = absurd (omega arith)
take_at_place (y ∷ ys) (suc n) zero x below e = e
take_at_place (y ∷ ys) (suc n) (suc k) x below e = take_at_place ys n k x (omega (arith, below)) e

pub mapped_at : {X Y : Type 0} (f : X → Y) (xs : List X) (k : ℕ) (y : Y) → slice_get (map f xs) k ≡ Some y → (x : X) × (slice_get xs k ≡ Some x) × (f x ≡ y)
mapped_at f [] k y e = absurd (none-some y e)
mapped_at f (x ∷ xs) zero y e = (x, refl, same_Some (f x) y e)
mapped_at f (x ∷ xs) (suc k) y e = mapped_at f xs k y e

group_named : (gs : List (List ZoneData)) (k : ℕ) (n : Name) → slice_get (names_said (map said_in gs)) k ≡ Some n → (g : List ZoneData) × (slice_get gs k ≡ Some g) × (draft_name g ≡ n)
group_named gs k n e =
    let s = mapped_at (λ s. s.name) (map said_in gs) k n e in
    let g = mapped_at said_in gs k s.0 s.1 in
    (g.0, g.1, ap (λ s. s.name) g.2 ∙ s.2)

module _ (gs : List (List ZoneData)) (led : AllByRecursion IsLed gs) (form : AreIdentified (map said_in gs)) where
  pub own_name : (k : ℕ) (g : List ZoneData) → slice_get gs k ≡ Some g → IsNamed g (draft_name g)
  own_name k g e = is_named g (all_at IsLed gs led k g e) (all_in_form gs form k g e)

  named_by : (k : ℕ) (g : List ZoneData) (n : Name) → slice_get gs k ≡ Some g → draft_name g ≡ n → IsNamed g n
  named_by k g n e same = subst (IsNamed g) same (own_name k g e)

  first_repeat : (at : ℕ) → IsFirstRepeat (names_said (map said_in gs)) at → Repeats gs at × ((p : ℕ) → Repeats gs p → at ≤ p)
  first_repeat at h = (found, least)
    where
      found : Repeats gs at
      found =
          let earlier = any_at (is_name h.name) (take h.place (names_said (map said_in gs))) h.repeats in
          let place = taken_at (names_said (map said_in gs)) h.place earlier.0 earlier.1 earlier.2 in
          let one = group_named gs earlier.0 earlier.1 place.1 in
          let two = group_named gs h.place h.name h.here in
          let same : draft_name one.0 ≡ h.name = one.2 ∙ sym (same_name h.name earlier.1 earlier.3) in
          let early : suc earlier.0 - 1 ≡ earlier.0 = omega arith in
          let late : at - 1 ≡ h.place = omega (arith, h.at_is) in (
            suc earlier.0,
            one.0,
            two.0,
            h.name,
            omega (arith, place.0, h.at_is),
            (omega arith, ap (slice_get gs) early ∙ one.1),
            (omega (arith, h.at_is), ap (slice_get gs) late ∙ two.1),
            named_by earlier.0 one.0 h.name one.1 same,
            named_by h.place two.0 h.name two.1 two.2,
          )

      least : (p : ℕ) → Repeats gs p → at ≤ p
      least p r = go (Rattle.std.proofs.lemmas.Bool.cases_order (p - 1) h.place)
        where
          earlier : p - 1 < h.place → ⊥
          earlier lower =
              let m = r.0 in
              let one : 1 ≤ m = r.5.0 in
              let less : m < p = r.4 in
              let ns = names_said (map said_in gs) in
              let first = take_at_place ns h.place (m - 1) (draft_name r.1) (omega (arith, one, less, lower)) (name_at_place gs (m - 1) r.1 r.5.1) in
              let second = take_at_place ns h.place (p - 1) (draft_name r.2) lower (name_at_place gs (p - 1) r.2 r.6.1) in
              let apart = distinct_apart (take h.place ns) h.distinct (m - 1) (p - 1) (draft_name r.1) (draft_name r.2) (omega (arith, one, less)) first second in
              let same : draft_name r.1 ≡ draft_name r.2 = sym (named_so r.1 r.3 r.7) ∙ named_so r.2 r.3 r.8 in
              true≢false (sym (name_itself (draft_name r.2)) ∙ (sym (ap (λ x. is_name x (draft_name r.2)) same) ∙ apart))

          go : (p - 1 ≡ h.place) ⊎ ((p - 1 < h.place) ⊎ (h.place < p - 1)) → at ≤ p
          go (inl e) = let one : 1 ≤ p = r.6.0 in omega (arith, e, h.at_is, one)
          go (inr (inl lower)) = absurd (earlier lower)
          go (inr (inr upper)) = omega (arith, upper, h.at_is)

-- ---- 603

abbrev pub NoWord : List (List ZoneData) → List ZoneData → Type 0
NoWord ws g = (text : List ℕ) × (first (values (codes "DIP") g) ≡ Some text)
    × ((name : Name) → PointsTo text name → (m : ℕ) (word : List ZoneData) → At ws m word → ¬ (IsNamed word name))

find_there : {X : Type 0} (test : X → Bool) (xs : List X) (x : X) → find test xs ≡ Some x → (k : ℕ) × (slice_get xs k ≡ Some x) × (test x ≡ true)
find_there test [] x e = absurd (none-some x e)
find_there {X} test (y ∷ ys) x e = go (test y) refl e (find_there test ys x)
  where
    go : (b : Bool) → test y ≡ b → cond b (Some y) (find test ys) ≡ Some x → (find test ys ≡ Some x → (k : ℕ) × (slice_get ys k ≡ Some x) × (test x ≡ true)) → (k : ℕ) × (slice_get (y ∷ ys) k ≡ Some x) × (test x ≡ true)
    go true f e more = (0, e, ap test (sym (same_Some y x e)) ∙ f)
    go false f e more = let found = more e in (suc found.0, found.1, found.2)

find_lacks : {X : Type 0} (test : X → Bool) (xs : List X) → find test xs ≡ None → (k : ℕ) (x : X) → slice_get xs k ≡ Some x → test x ≡ false
find_lacks test [] e k x h = absurd (none-some x h)
find_lacks {X} test (y ∷ ys) e k x h = go (test y) refl e k h (find_lacks test ys)
  where
    go : (b : Bool) → test y ≡ b → cond b (Some y) (find test ys) ≡ None → (k : ℕ) → slice_get (y ∷ ys) k ≡ Some x → (find test ys ≡ None → (k : ℕ) (z : X) → slice_get ys k ≡ Some z → test z ≡ false) → test x ≡ false
    go true f e k h more = absurd (none-some y (sym e))
    go false f e zero h more = ap test (sym (same_Some y x h)) ∙ f
    go false f e (suc k) h more = more e k x h

-- the class of a record whose DIP leads to a type, with its name
abbrev pub named_class : KindCodes → List ZoneData → Option (List ℕ) → Name × Rattle.edi_schema.specs.declared.class.Class.Class
named_class kinds g t = (draft_name g, class_by kinds (said_in g) t)

module _ (ws : List (List ZoneData)) (led : AllByRecursion IsLed ws) (form : AreIdentified (map said_in ws)) where
  -- what word_in finds is named so
  pub word_named : (text : List ℕ) (w : Said) → word_in (map said_in ws) text ≡ Some w → (name : Name) × (k : ℕ) × (g : List ZoneData) × (class_of text ≡ Some name) × (slice_get ws k ≡ Some g) × (said_in g ≡ w) × IsNamed g name
  word_named text w e = go (class_of text) refl e
    where
      go : (o : Option Name) → class_of text ≡ o → option_and_then (λ name. find (λ word. is_name name word.name) (map said_in ws)) o ≡ Some w
          → (name : Name) × (k : ℕ) × (g : List ZoneData) × (class_of text ≡ Some name) × (slice_get ws k ≡ Some g) × (said_in g ≡ w) × IsNamed g name
      go None f e = absurd (none-some w e)
      go (Some name) f e =
          let found = find_there (λ word. is_name name word.name) (map said_in ws) w e in
          let group = mapped_at said_in ws found.0 w found.1 in
          let same : name ≡ draft_name group.0 = same_name name w.name found.2 ∙ ap (λ s. s.name) (sym group.2) in
          (name, found.0, group.0, f, group.1, group.2, named_by ws led form found.0 group.0 name group.1 (sym same))

  -- a record with a class has a word
  pub has_word : (kinds : KindCodes) (g : List ZoneData) (p : Name × Rattle.edi_schema.specs.declared.class.Class.Class) → class_in kinds (map said_in ws) (said_in g) ≡ Some p → NoWord ws g → ⊥
  has_word kinds g p e none = go (word_in (map said_in ws) none.0) refl
    where
      typed : option_map (named_class kinds g) (type_by (map said_in ws) (Some none.0)) ≡ Some p
      typed = sym (ap (λ o. option_map (named_class kinds g) (type_by (map said_in ws) o)) none.1) ∙ e

      go : (o : Option Said) → word_in (map said_in ws) none.0 ≡ o → ⊥
      go None f = none-some p (sym (ap (λ o. option_map (named_class kinds g) (option_map (λ word. word.word_type) o)) f) ∙ typed)
      go (Some w) f =
          let found = word_named none.0 w f in
          let place : suc found.1 - 1 ≡ found.1 = omega arith in
          none.2 found.0 (points_said none.0 found.0 found.3) (suc found.1) found.2 (omega arith, ap (slice_get ws) place ∙ found.4) found.6

  -- a record without a class has none
  pub lacks_class : (kinds : KindCodes) (g : List ZoneData) → class_in kinds (map said_in ws) (said_in g) ≡ None → NoWord ws g
  lacks_class kinds g e = go (first (values (codes "DIP") g)) refl e
    where
      by_word : (text : List ℕ) → first (values (codes "DIP") g) ≡ Some text → (o : Option Said) → word_in (map said_in ws) text ≡ o
          → option_map (named_class kinds g) (option_map (λ word. word.word_type) o) ≡ None → NoWord ws g
      by_word text f (Some w) h e = absurd (none-some _ (sym e))
      by_word text f None h e = (
        text,
        f,
        λ name points m word at is.
            let lacks : find (λ word. is_name name word.name) (map said_in ws) ≡ None = sym (ap (option_and_then (λ name. find (λ word. is_name name word.name) (map said_in ws))) (points_read text name points)) ∙ h in
            let other = find_lacks (λ word. is_name name word.name) (map said_in ws) lacks (m - 1) (said_in word) (slice_get-map said_in ws (m - 1) ∙ ap (option_map said_in) at.1) in
            let same : name ≡ draft_name word = named_so word name is in
            true≢false (sym (name_itself (draft_name word)) ∙ (ap (λ x. is_name x (draft_name word)) (sym same) ∙ other)),
      )

      go : (o : Option (List ℕ)) → first (values (codes "DIP") g) ≡ o → option_map (named_class kinds g) (type_by (map said_in ws) o) ≡ None → NoWord ws g
      go None f e = absurd (none-some _ (sym e))
      go (Some text) f e = by_word text f (word_in (map said_in ws) text) refl e

  pub some_class : (kinds : KindCodes) (gs : List (List ZoneData)) (found : Classes) → map (class_in kinds (map said_in ws)) (map said_in gs) ≡ map Some found
      → (k : ℕ) (g : List ZoneData) → slice_get gs k ≡ Some g → (p : Name × Rattle.edi_schema.specs.declared.class.Class.Class) × (class_in kinds (map said_in ws) (said_in g) ≡ Some p)
  some_class kinds [] found e k g h = absurd (none-some g h)
  some_class kinds (x ∷ xs) [] e k g h = absurd (none-some _ (ap Rattle.edi_line.specs.ZoneData.first (sym e)))
  some_class kinds (x ∷ xs) (p ∷ found) e zero g h = (p, ap (λ y. class_in kinds (map said_in ws) (said_in y)) (sym (same_Some x g h)) ∙ same_Some _ _ (ap Rattle.edi_line.specs.ZoneData.first e))
  some_class kinds (x ∷ xs) (p ∷ found) e (suc k) g h = some_class kinds xs found (ap (Rattle.std.proofs.Common.drop 1) e) k g h

  no_lacking : (kinds : KindCodes) (gs : List (List ZoneData)) (found : Classes) → map (class_in kinds (map said_in ws)) (map said_in gs) ≡ map Some found
      → (at : ℕ) (g : List ZoneData) → At gs at g → NoWord ws g → ⊥
  no_lacking kinds gs found e at g here none =
      let p = some_class kinds gs found e (at - 1) g here.1 in
      has_word kinds g p.0 p.1 none

  first_lacking : (kinds : KindCodes) (gs : List (List ZoneData)) (at : ℕ) → IsFirstLacking (class_in kinds (map said_in ws)) (map said_in gs) at
      → ((g : List ZoneData) × At gs at g × NoWord ws g) × ((p : ℕ) (g : List ZoneData) → At gs p g → NoWord ws g → at ≤ p)
  first_lacking kinds gs at h = (found, least)
    where
      found : (g : List ZoneData) × At gs at g × NoWord ws g
      found =
          let g = mapped_at said_in gs h.place h.item h.here in
          let place : at - 1 ≡ h.place = omega (arith, h.at_is) in
          (g.0, (omega (arith, h.at_is), ap (slice_get gs) place ∙ g.1), lacks_class kinds g.0 (ap (class_in kinds (map said_in ws)) g.2 ∙ h.lacks))

      front : map (class_in kinds (map said_in ws)) (map said_in (take h.place gs)) ≡ map Some h.found
      front = ap (map (class_in kinds (map said_in ws))) (sym (Rattle.std.proofs.lemmas.List.take-map said_in h.place gs)) ∙ h.front

      least : (p : ℕ) (g : List ZoneData) → At gs p g → NoWord ws g → at ≤ p
      least p g here none = go (Rattle.std.proofs.lemmas.Bool.cases_order (p - 1) h.place)
        where
          go : (p - 1 ≡ h.place) ⊎ ((p - 1 < h.place) ⊎ (h.place < p - 1)) → at ≤ p
          go (inl e) = let one : 1 ≤ p = here.0 in omega (arith, e, h.at_is, one)
          go (inr (inl lower)) =
              let c = some_class kinds (take h.place gs) h.found front (p - 1) g (take_at_place gs h.place (p - 1) g lower here.1) in
              absurd (has_word kinds g c.0 c.1 none)
          go (inr (inr upper)) = omega (arith, upper, h.at_is)

-- ---- the steps

module _ (cs ws : List (List ZoneData)) (cs_led : AllByRecursion IsLed cs) (ws_led : AllByRecursion IsLed ws) (kinds : KindCodes) where
  no_word_here : (p : ℕ) → HasNoWord cs ws p → (g : List ZoneData) × At cs p g × NoWord ws g
  no_word_here p h = (h.0, h.2, (h.1, h.3, h.4))

  word_missing : (p : ℕ) → ((g : List ZoneData) × At cs p g × NoWord ws g) → HasNoWord cs ws p
  word_missing p h = (h.0, h.2.0, h.1, h.2.1, h.2.2)

  not_word : Dic ≡ Scd → ⊥
  not_word e = absurd cc

  class_601 : (at : ℕ) → IsFirstUnidentified (map said_in cs) at → IsFirstEntry cs ws Scd 601 at
  class_601 at h = record { is = lacks_identifier refl (first_lack cs at h).0; least = least (first_lack cs at h).1 }
    where
      least : ((p : ℕ) → Lacks cs p → at ≤ p) → (other : Source) (r p : ℕ) → BreaksEntry cs ws other r p → (step cs ws Scd 601 < step cs ws other r) ⊎ ((step cs ws Scd 601 ≡ step cs ws other r) × (at ≤ p))
      least first Scd r p (lacks_identifier g l) = inr (omega (arith, g), first p l)
      least first Dic r p (lacks_identifier g l) = inl (omega (arith, g))
      least first Scd r p (repeats_name g l) = inl (omega (arith, g))
      least first Dic r p (repeats_name g l) = inl (omega (arith, g))
      least first Scd r p (no_word g s l) = inl (omega (arith, g))
      least first Dic r p (no_word g s l) = inl (omega (arith, g))

  word_601 : (at : ℕ) → AreIdentified (map said_in cs) → IsFirstUnidentified (map said_in ws) at → IsFirstEntry cs ws Dic 601 at
  word_601 at form h = record { is = lacks_identifier refl (first_lack ws at h).0; least = least (first_lack ws at h).1 }
    where
      least : ((p : ℕ) → Lacks ws p → at ≤ p) → (other : Source) (r p : ℕ) → BreaksEntry cs ws other r p → (step cs ws Dic 601 < step cs ws other r) ⊎ ((step cs ws Dic 601 ≡ step cs ws other r) × (at ≤ p))
      least first Scd r p (lacks_identifier g l) = absurd (no_lack cs form p l)
      least first Dic r p (lacks_identifier g l) = inr (omega (arith, g), first p l)
      least first Scd r p (repeats_name g l) = inl (omega (arith, g))
      least first Dic r p (repeats_name g l) = inl (omega (arith, g))
      least first Scd r p (no_word g s l) = inl (omega (arith, g))
      least first Dic r p (no_word g s l) = inl (omega (arith, g))

  class_602 : (at : ℕ) → AreIdentified (map said_in cs) → AreIdentified (map said_in ws) → IsFirstRepeat (names_said (map said_in cs)) at → IsFirstEntry cs ws Scd 602 at
  class_602 at form words_form h = record { is = repeats_name refl (first_repeat cs cs_led form at h).0; least = least (first_repeat cs cs_led form at h).1 }
    where
      least : ((p : ℕ) → Repeats cs p → at ≤ p) → (other : Source) (r p : ℕ) → BreaksEntry cs ws other r p → (step cs ws Scd 602 < step cs ws other r) ⊎ ((step cs ws Scd 602 ≡ step cs ws other r) × (at ≤ p))
      least first Scd r p (lacks_identifier g l) = absurd (no_lack cs form p l)
      least first Dic r p (lacks_identifier g l) = absurd (no_lack ws words_form p l)
      least first Scd r p (repeats_name g l) = inr (omega (arith, g), first p l)
      least first Dic r p (repeats_name g l) = inl (omega (arith, g))
      least first Scd r p (no_word g s l) = inl (omega (arith, g))
      least first Dic r p (no_word g s l) = inl (omega (arith, g))

  word_602 : (at : ℕ) → AreIdentified (map said_in cs) → AreIdentified (map said_in ws) → IsDistinct is_name (names_said (map said_in cs)) → IsFirstRepeat (names_said (map said_in ws)) at → IsFirstEntry cs ws Dic 602 at
  word_602 at form words_form distinct h = record { is = repeats_name refl (first_repeat ws ws_led words_form at h).0; least = least (first_repeat ws ws_led words_form at h).1 }
    where
      least : ((p : ℕ) → Repeats ws p → at ≤ p) → (other : Source) (r p : ℕ) → BreaksEntry cs ws other r p → (step cs ws Dic 602 < step cs ws other r) ⊎ ((step cs ws Dic 602 ≡ step cs ws other r) × (at ≤ p))
      least first Scd r p (lacks_identifier g l) = absurd (no_lack cs form p l)
      least first Dic r p (lacks_identifier g l) = absurd (no_lack ws words_form p l)
      least first Scd r p (repeats_name g l) = absurd (no_repeat cs distinct p l)
      least first Dic r p (repeats_name g l) = inr (omega (arith, g), first p l)
      least first Scd r p (no_word g s l) = inl (omega (arith, g))
      least first Dic r p (no_word g s l) = inl (omega (arith, g))

  class_603 : (at : ℕ) → AreNamed (map said_in cs) (map said_in ws) kinds → IsFirstLacking (class_in kinds (map said_in ws)) (map said_in cs) at → IsFirstEntry cs ws Scd 603 at
  class_603 at named h = record { is = no_word refl refl (word_missing at (first_lacking ws ws_led named.words_identified kinds cs at h).0); least = least (first_lacking ws ws_led named.words_identified kinds cs at h).1 }
    where
      least : ((p : ℕ) (g : List ZoneData) → At cs p g → NoWord ws g → at ≤ p) → (other : Source) (r p : ℕ) → BreaksEntry cs ws other r p → (step cs ws Scd 603 < step cs ws other r) ⊎ ((step cs ws Scd 603 ≡ step cs ws other r) × (at ≤ p))
      least first Scd r p (lacks_identifier g l) = absurd (no_lack cs named.classes_identified p l)
      least first Dic r p (lacks_identifier g l) = absurd (no_lack ws named.words_identified p l)
      least first Scd r p (repeats_name g l) = absurd (no_repeat cs named.classes_distinct p l)
      least first Dic r p (repeats_name g l) = absurd (no_repeat ws named.words_distinct p l)
      least first Scd r p (no_word g s l) = let n = no_word_here p l in inr (omega (arith, g), first p n.0 n.1 n.2)
      least first Dic r p (no_word g s l) = absurd (not_word s)

  moved : (file other : Source) (rule r at : ℕ) → file ≡ other → rule ≡ r → IsFirstEntry cs ws other r at → IsFirstEntry cs ws file rule at
  moved file other rule r at e f h = subst (λ s. IsFirstEntry cs ws s rule at) (sym e) (subst (λ n. IsFirstEntry cs ws other n at) (sym f) h)

  pub first_entry : (file : Source) (rule at : ℕ) → StopsAt (map said_in cs) (map said_in ws) kinds file rule at → IsFirstEntry cs ws file rule at
  first_entry file rule at (class_unidentified f r h) = moved file Scd rule 601 at f r (class_601 at h)
  first_entry file rule at (word_unidentified f r form h) = moved file Dic rule 601 at f r (word_601 at form h)
  first_entry file rule at (class_repeats f r form words_form h) = moved file Scd rule 602 at f r (class_602 at form words_form h)
  first_entry file rule at (word_repeats f r form words_form distinct h) = moved file Dic rule 602 at f r (word_602 at form words_form distinct h)
  first_entry file rule at (lacks_word f r named h) = moved file Scd rule 603 at f r (class_603 at named h)

  pub entries_hold : (s : Classes) → AreStated (map said_in cs) (map said_in ws) kinds s → EntriesHold cs ws
  entries_hold s are Scd rule at (lacks_identifier g l) = no_lack cs are.named.classes_identified at l
  entries_hold s are Dic rule at (lacks_identifier g l) = no_lack ws are.named.words_identified at l
  entries_hold s are Scd rule at (repeats_name g l) = no_repeat cs are.named.classes_distinct at l
  entries_hold s are Dic rule at (repeats_name g l) = no_repeat ws are.named.words_distinct at l
  entries_hold s are Scd rule at (no_word g e l) = let n = no_word_here at l in no_lacking ws ws_led are.named.words_identified kinds cs are.stated are.each at n.0 n.1 n.2
  entries_hold s are Dic rule at (no_word g e l) = not_word e
