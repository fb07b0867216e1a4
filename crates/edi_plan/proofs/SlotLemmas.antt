-- Slots in which places stand.
use Rattle.std.proofs.Common.{◌≡◌, ◌≢◌, ℕ, zero, suc, ◌+◌, ◌-◌, ◌<◌, ◌≤◌, min, ◌⊎◌, inl, inr, Bool, true, false, ◌&&◌, List, [], ◌∷◌, length, drop, get_or, None, Some, is_some, if◌then◌else◌, slice_get, slice_index, slice_range, refl, sym, ap, ◌∙◌, subst, arith}
use Rattle.std.proofs.lemmas.Bool.{cases_lt, eq-eqb}
use Rattle.std.proofs.lemmas.List.{get_or-take, get_or-drop, length-take, length-drop}
use Rattle.std.proofs.lemmas.Option.{slice_get_within}
use Rattle.edi_line.specs.Bytes.{most_records}
use Rattle.edi_record.specs.Shapes.{kind_code}
use Rattle.edi_record.specs.declared.name.Name.{Name}
use Rattle.edi_record.specs.declared.record.Kind.{Kind}
use Rattle.edi_record.specs.declared.record.Record.{Record}
use Rattle.edi_schema.proofs.Names.{name_itself}
use Rattle.edi_plan.specs.PlanOf.{own_name}
use Rattle.edi_plan.specs.inner.Hints.{is_named, is_named_at, is_held, first_held, tag_from, tag_of, slots_at, slots_of, start_of, near_number, far_number, HasTabled, IsPassed, ArePassed, StandsFrom, StandsUnder, KeepsPlaces}
use Rattle.edi_plan.specs.inner.Names.{is_tabled}
use Rattle.edi_plan.specs.inner.Slots.{tagged, slot_tag, slot_place, free_slot}
use Rattle.edi_plan.specs.declared.name_slots.NameHints.{NameHints}
use Rattle.edi_plan.proofs.HintLemmas.{first_of_two}

module _ (list : List Record) (name : Name) where
  module _ (old new : List ℕ) (keeps : KeepsPlaces old new) where
    pub passed_kept : (start end : ℕ) → ArePassed list name old start end → ArePassed list name new start end
    passed_kept start end passed j from less =
        let here : IsPassed list name (slice_index old j) = passed j from less in
        subst (IsPassed list name) (sym (keeps.taken j here.0)) here

    pub stands_kept : (start slot : ℕ) → slot ≢ free_slot → StandsFrom list name old start slot → StandsFrom list name new start slot
    stands_kept start slot held stands = record {
      at = stands.at;
      past_start = stands.past_start;
      in_window = stands.in_window;
      within = subst (λ n. stands.at < n) (sym keeps.as_long) stands.within;
      here = keeps.taken stands.at (λ e. held (sym stands.here ∙ e)) ∙ stands.here;
      before = passed_kept start stands.at stands.before;
    }

  -- the first of these slots that has a place of this name
  first_at : (slots : List ℕ) (i : ℕ) → i < length slots → is_held list name (get_or slots i 0) ≡ true
      → ((j : ℕ) → j < i → is_held list name (get_or slots j 0) ≡ false) → first_held list name slots ≡ Some (slot_place (get_or slots i 0))
  unfolding first_held
  first_at [] i less held before = absurd (omega (arith, less))
  first_at (p ∷ ps) zero less held before = ap (λ b. if b then Some (slot_place p) else first_held list name ps) held
  first_at (p ∷ ps) (suc i) less held before =
      ap (λ b. if b then Some (slot_place p) else first_held list name ps) (before 0 (omega arith))
      ∙ first_at ps i (omega (arith, less)) held (λ j below. before (suc j) (omega (arith, below)))

  none_held : (slots : List ℕ) → ((j : ℕ) → j < length slots → is_held list name (get_or slots j 0) ≡ false) → first_held list name slots ≡ None
  unfolding first_held
  none_held [] none = refl
  none_held (p ∷ ps) none =
      ap (λ b. if b then Some (slot_place p) else first_held list name ps) (none 0 (omega arith))
      ∙ none_held ps (λ j less. none (suc j) (omega (arith, less)))

  module _ (slots : List ℕ) (start : ℕ) where
    abbrev window : List ℕ
    window = slice_range slots start (start + 8)

    in_window : (j : ℕ) → j < 8 → get_or window j 0 ≡ slice_index slots (start + j)
    in_window j less = get_or-take (start + 8 - start) (drop start slots) j 0 (omega (arith, less)) ∙ get_or-drop start slots j 0

    length_window : length window ≡ min (start + 8 - start) (length slots - start)
    length_window = length-take (start + 8 - start) (drop start slots) ∙ ap (min (start + 8 - start)) (length-drop start slots)

    not_held : (j : ℕ) → j < 8 → IsPassed list name (slice_index slots (start + j)) → is_held list name (get_or window j 0) ≡ false
    not_held j less passed = ap (is_held list name) (in_window j less) ∙ passed.1

    passed_none : ArePassed list name slots start (start + 8) → first_held list name window ≡ None
    passed_none passed = none_held window (λ j less.
        let below : j < 8 = omega (arith, less, length_window) in
        not_held j below (passed (start + j) (omega arith) (omega (arith, below))))

    stands_first : (slot : ℕ) → is_held list name slot ≡ true → StandsFrom list name slots start slot → first_held list name window ≡ Some (slot_place slot)
    stands_first slot held s =
        let j : ℕ = s.at - start in
        let below : j < 8 = omega (arith, s.past_start, s.in_window) in
        let there : start + j ≡ s.at = omega (arith, s.past_start) in
        let is : get_or window j 0 ≡ slot = in_window j below ∙ (ap (slice_index slots) there ∙ s.here) in
        first_at window j (omega (arith, length_window, s.past_start, s.in_window, s.within)) (ap (is_held list name) is ∙ held)
        (λ i less. not_held i (omega (arith, less, below)) (s.before (start + i) (omega arith) (omega (arith, less, there))))
        ∙ ap (λ t. Some (slot_place t)) is

-- what a tagged place has: the place, the tag; and it is no free slot
module _ (tag place : ℕ) (few : place < 16777215) where
  pub place_tagged : slot_place (tagged tag place) ≡ place
  place_tagged = omega (arith, few)

  pub tag_tagged : slot_tag (tagged tag place) ≡ tag
  tag_tagged = omega (arith, few)

  pub tagged_held : tag < 256 → tagged tag place ≢ free_slot
  tagged_held byte e = omega (arith, few, byte, e)

tag_few : (rid : List ℕ) → tag_of rid < 256
unfolding tag_from
tag_few rid = omega arith

held_tagged : (list : List Record) (name : Name) (place : ℕ) → place < 16777215 → is_named_at list name place ≡ true
    → is_held list name (tagged (tag_of name.rid) place) ≡ true
held_tagged list name place few named =
    let tag : ℕ = tag_of name.rid in
    ap (λ b. b && is_named_at list name (slot_place (tagged tag place))) (eq-eqb (slot_tag (tagged tag place)) tag (tag_tagged tag place few))
    ∙ (ap (is_named_at list name) (place_tagged tag place few) ∙ named)

module _ (list : List Record) (kind : Kind) (rid : List ℕ) (place : ℕ) where
  abbrev name : Name
  name = record { rty = kind_code kind; rid = rid }

  abbrev slot : ℕ
  slot = tagged (tag_of rid) place

  -- what stands under a name is found by it
  found_standing : (slots : List ℕ) → place < 16777215 → is_named_at list name place ≡ true → StandsUnder list slots kind rid place
      → first_held list name (slots_of slots kind rid) ≡ Some place
  found_standing slots few named stands = first_of_two list name near far ∙ (go stands ∙ ap Some (place_tagged (tag_of rid) place few))
    where
      held : is_held list name slot ≡ true
      held = held_tagged list name place few named

      start : ℕ
      start = start_of (length slots) (near_number kind rid)

      far_start : ℕ
      far_start = start_of (length slots) (far_number (length slots) kind rid)

      near : List ℕ
      near = slots_at slots (near_number kind rid)

      far : List ℕ
      far = slots_at slots (far_number (length slots) kind rid)

      go : StandsUnder list slots kind rid place → (if is_some (first_held list name near) then first_held list name near else first_held list name far) ≡ Some (slot_place slot)
      go (inl here) = ap (λ o. if is_some o then o else first_held list name far) (stands_first list name slots start slot held here)
      go (inr farther) =
          ap (λ o. if is_some o then o else first_held list name far) (passed_none list name slots start farther.0)
          ∙ stands_first list name slots far_start slot held farther.1

  -- it stands under a name where there are so many slots
  abbrev StandsAmong : List ℕ → ℕ → Type 0
  StandsAmong slots n =
      StandsFrom list name slots (start_of n (near_number kind rid)) slot
      ⊎ (ArePassed list name slots (start_of n (near_number kind rid)) (start_of n (near_number kind rid) + 8)
      × StandsFrom list name slots (start_of n (far_number n kind rid)) slot)

  -- and it stays there while other places are put into free slots
  stays : (old new : List ℕ) → KeepsPlaces old new → place < 16777215 → StandsUnder list old kind rid place → StandsUnder list new kind rid place
  stays old new keeps few stands = subst (StandsAmong new) (sym keeps.as_long) (go stands)
    where
      held : slot ≢ free_slot
      held = tagged_held (tag_of rid) place few (tag_few rid)

      go : StandsUnder list old kind rid place → StandsAmong new (length old)
      go (inl here) = inl (stands_kept list name old new keeps _ slot held here)
      go (inr farther) = inr (passed_kept list name old new keeps _ _ farther.0, stands_kept list name old new keeps _ slot held farther.1)

-- the places of the first so many records stand under their names, but for links where these rise
abbrev pub PlacesStand : Bool → List Record → List ℕ → ℕ → Type 0
PlacesStand links_rise list slots n = (k : ℕ) (r : Record) → k < n → slice_get list k ≡ Some r
    → is_tabled links_rise r.kind ≡ true → StandsUnder list slots r.kind r.rid k

pub keeps_same : (slots : List ℕ) → KeepsPlaces slots slots
keeps_same slots = record { as_long = refl; taken = λ at held. refl }

-- one more place stands
pub stand_more : (rise : Bool) (list : List Record) (old new : List ℕ) → KeepsPlaces old new → (n : ℕ) → n < 16777215 → PlacesStand rise list old n
    → ((r : Record) → slice_get list n ≡ Some r → is_tabled rise r.kind ≡ true → StandsUnder list new r.kind r.rid n) → PlacesStand rise list new (n + 1)
stand_more rise list old new keeps n few before one k q less at tabled = go (cases_lt k n)
  where
    go : (k < n) ⊎ (n ≤ k) → StandsUnder list new q.kind q.rid k
    go (inl below) = stays list q.kind q.rid k old new keeps (omega (arith, below, few)) (before k q below at tabled)
    go (inr past) =
        let e : k ≡ n = omega (arith, less, past) in
        subst (StandsUnder list new q.kind q.rid) (sym e) (one q (subst (λ m. slice_get list m ≡ Some q) e at) tabled)

-- where all stand, each is found
pub places_found : (rise : Bool) (list : List Record) (hints : NameHints) (n : ℕ) → length list ≤ most_records → length list ≤ n → PlacesStand rise list hints.slots.items n
    → HasTabled rise list hints
places_found rise list hints n few past stand k r at tabled =
    let within : k < length list = slice_get_within list k r at in
    let named : is_named_at list (own_name r) k ≡ true = ap (is_named (own_name r)) at ∙ name_itself (own_name r) in
    found_standing list r.kind r.rid k hints.slots.items (omega (arith, within, few)) named (stand k r (omega (arith, within, past)) at tabled)
