-- The records of the groups, one after the other.
use Rattle.std.proofs.Common.{◌≡◌, ℕ, suc, ◌+◌, ◌<◌, ◌≤◌, ◌⊎◌, inl, inr, Bool, true, false, List, [], ◌∷◌, ◌++◌, length, Option, Some, None, is_some, option_and_then, codes, refl, sym, ap, ◌∙◌, subst, arith, length-append}
use Rattle.std.specs.List.{AllByRecursion, AllZip, list_all}
use Rattle.std.proofs.lemmas.Bool.{and_parts, and_from}
use Rattle.std.proofs.lemmas.List.{append-nil, append_assoc}
use Rattle.edi_line.specs.ZoneData.{ZoneData, entry, entries, first}
use Rattle.edi_line.specs.declared.zone.Zone.{Zone}
use Rattle.edi_line.specs.Zones.{begins_group, before_end, groups_of}
use Rattle.edi_line.specs.Refusal.{IsUnbroken, IsLeastBroken, BreaksTest}
use Rattle.edi_line.specs.inner.Refusal.{first_broken}
use Rattle.edi_line.proofs.FirstBroken.{none_broken, first_is_least}
use Rattle.edi_line.proofs.Rules.{AreApart, two_cuts}
use Rattle.edi_record.specs.Shapes.{is_in_shape}
use Rattle.edi_record.specs.inner.Records.{ReadsAsRecord}
use Rattle.edi_record.specs.Records.{values}
use Rattle.edi_record.specs.inner.RecordRules.{kind_in, kind_named, record_tests, FailsTest}
use Rattle.edi_record.specs.inner.Stored.{StoresRecord, kept}
use Rattle.edi_record.specs.inner.Lists.{IsSound, IsListOfGroups, IsFirstBroken, IsMadeOfGroups, HoldsRecords, IsComingOf, IsComingUnless, IsRecordOf, StoresComing}
use Rattle.edi_record.specs.RecordRefusal.{IsRecordRefusal}
use Rattle.edi_record.specs.RecordRules.{BreaksRecordRule}
use Rattle.edi_record.proofs.RulesSaid.{records_unbroken, refusal_said}
use Rattle.edi_record.specs.inner.RecordRefusal.{IsGroupRefusal, fault_at}
use Rattle.edi_record.specs.declared.fault.GroupFault.{GroupFault}
use Rattle.edi_record.specs.declared.fault.GroupFault.TheVariants.{Memory as GroupMemory, Broken as GroupBroken}
use Rattle.edi_record.specs.declared.fault.RecordFault.{RecordFault}
use Rattle.edi_record.specs.declared.fault.RecordFault.TheVariants.{Memory, Broken}
use Rattle.edi_line.specs.Groups.{IsHandedOut, IsOneRecord}
use Rattle.edi_line.proofs.HandedZones.{inner_whole}
use Rattle.edi_record.specs.declared.draft.Draft.{Draft}
use Rattle.edi_record.specs.declared.list.Coming.{Coming}
use Rattle.edi_record.specs.declared.list.Coming.TheVariants.{Nothing, WithoutKind, Stored}
use Rattle.edi_record.specs.declared.list.RecordsUntilFault.{RecordsUntilFault}
use Rattle.edi_record.specs.declared.record.Kind.{Kind}
use Rattle.edi_record.specs.declared.record.Record.{Record}
use Rattle.edi_record.specs.declared.record_parts.RecordParts.{RecordParts}
use Rattle.edi_record.proofs.GroupCuts.{one_type, value_here}
use Rattle.edi_record.proofs.RecordStored.{skipped as head_skipped}
use Rattle.std.proofs.lemmas.Slice.Eq.{bytes_eq-Decides}

-- the groups before these zones state the records, and break no rule
pub record SoFar (zones rest : List ZoneData) (list : List Record) : Type 0 where
  pub done : List (List ZoneData)
  pub cut : groups_of zones ≡ done ++ groups_of rest
  pub states : AllZip ReadsAsRecord done list
  pub sound : AllByRecursion IsSound done
  pub shape : list_all is_in_shape list ≡ true

pub none_done : (zones : List ZoneData) → SoFar zones zones []
none_done zones = record { done = []; cut = refl; states = tt; sound = tt; shape = refl }

pub zip_push : (gs : List (List ZoneData)) (rs : List Record) (g : List ZoneData) (r : Record) → AllZip ReadsAsRecord gs rs → ReadsAsRecord g r → AllZip ReadsAsRecord (gs ++ g ∷ []) (rs ++ r ∷ [])
zip_push [] [] g r h k = (k, tt)
zip_push [] (y ∷ rs) g r h k = absurd h
zip_push (x ∷ gs) [] g r h k = absurd h
zip_push (x ∷ gs) (y ∷ rs) g r h k = (h.0, zip_push gs rs g r h.1 k)

pub zip_length : (gs : List (List ZoneData)) (rs : List Record) → AllZip ReadsAsRecord gs rs → length gs ≡ length rs
zip_length [] [] h = refl
zip_length [] (y ∷ rs) h = absurd h
zip_length (x ∷ gs) [] h = absurd h
zip_length (x ∷ gs) (y ∷ rs) h = ap suc (zip_length gs rs h.1)

pub sound_push : (gs : List (List ZoneData)) (g : List ZoneData) → AllByRecursion IsSound gs → IsSound g → AllByRecursion IsSound (gs ++ g ∷ [])
sound_push [] g h k = (k, tt)
sound_push (x ∷ gs) g h k = (h.0, sound_push gs g h.1 k)

pub shape_push : (rs : List Record) (r : Record) → list_all is_in_shape rs ≡ true → is_in_shape r ≡ true → list_all is_in_shape (rs ++ r ∷ []) ≡ true
shape_push [] r h k = rw k refl
shape_push (x ∷ rs) r h k = let parts = and_parts (is_in_shape x) (list_all is_in_shape rs) h in and_from (is_in_shape x) (list_all is_in_shape (rs ++ r ∷ [])) parts.0 (shape_push rs r parts.1 k)

-- the zones from a group on
pub group_here : (z : ZoneData) (zs : List ZoneData) → begins_group z ≡ true → groups_of (z ∷ zs) ≡ (z ∷ before_end zs) ∷ groups_of zs
group_here z zs e = rw e refl

pub no_group_here : (z : ZoneData) (zs : List ZoneData) → begins_group z ≡ false → groups_of (z ∷ zs) ≡ groups_of zs
no_group_here z zs e = rw e refl

pub one_more : (zones rest : List ZoneData) (list new : List Record) (z : ZoneData) (zs : List ZoneData) (r : Record) → SoFar zones rest list → rest ≡ z ∷ zs → begins_group z ≡ true
    → ReadsAsRecord (z ∷ before_end zs) r → is_in_shape r ≡ true → IsSound (z ∷ before_end zs) → new ≡ list ++ r ∷ [] → SoFar zones zs new
one_more zones rest list new z zs r h e b states shape sound pushed =
    let group = z ∷ before_end zs in
    subst (λ l. SoFar zones zs l) (sym pushed) (record {
      done = h.done ++ group ∷ [];
      cut = h.cut ∙ ap (λ t. h.done ++ groups_of t) e ∙ ap (λ t. h.done ++ t) (group_here z zs b) ∙ sym (append_assoc h.done (group ∷ []) (groups_of zs));
      states = zip_push h.done list group r h.states states;
      sound = sound_push h.done group h.sound sound;
      shape = shape_push list r h.shape shape;
    })

pub skipped : (zones rest : List ZoneData) (list : List Record) (z : ZoneData) (zs : List ZoneData) → SoFar zones rest list → rest ≡ z ∷ zs → begins_group z ≡ false → SoFar zones zs list
skipped zones rest list z zs h e b = record {
  done = h.done;
  cut = h.cut ∙ ap (λ t. h.done ++ groups_of t) e ∙ ap (λ t. h.done ++ t) (no_group_here z zs b);
  states = h.states;
  sound = h.sound;
  shape = h.shape;
}

-- the same list, where no group begins in the zones between
pub moved : (zones rest left : List ZoneData) (list : List Record) → SoFar zones rest list → groups_of left ≡ groups_of rest → SoFar zones left list
moved zones rest left list h e = record { done = h.done; cut = h.cut ∙ ap (λ t. h.done ++ t) (sym e); states = h.states; sound = h.sound; shape = h.shape }

-- ---- the end

all_cut : (zones rest : List ZoneData) (list : List Record) (h : SoFar zones rest list) → rest ≡ [] → groups_of zones ≡ h.done
all_cut zones rest list h e = h.cut ∙ ap (λ t. h.done ++ groups_of t) e ∙ append-nil h.done

pub all_stated : (zones rest : List ZoneData) (list : List Record) → SoFar zones rest list → rest ≡ [] → AllZip ReadsAsRecord (groups_of zones) list
all_stated zones rest list h e = subst (λ gs. AllZip ReadsAsRecord gs list) (sym (all_cut zones rest list h e)) h.states

in_front : (gs : List (List ZoneData)) (g : List ZoneData) (more : List (List ZoneData)) → AllByRecursion IsSound (gs ++ g ∷ more) → IsSound g
in_front [] g more h = h.0
in_front (x ∷ gs) g more h = in_front gs g more h.1

sound_unbroken : (done : List (List ZoneData)) → AllByRecursion IsSound done → (before : List (List ZoneData)) (g : List ZoneData) (after : List (List ZoneData)) (rule : ℕ) → done ≡ before ++ g ∷ after → BreaksTest (record_tests g) rule → ⊥
sound_unbroken done h before g after rule e b = none_broken (record_tests g) (in_front before g after (subst (AllByRecursion IsSound) e h)) rule b

pub all_unbroken : (zones rest : List ZoneData) (list : List Record) → SoFar zones rest list → rest ≡ [] → IsUnbroken (FailsTest zones)
all_unbroken zones rest list h e rule place b = sound_unbroken h.done h.sound b.before b.group b.after rule (sym (all_cut zones rest list h e) ∙ b.cut) b.breaks

-- ---- a group that breaks a rule

-- the first group that breaks a rule
pub least_of : (zones : List ZoneData) (rule place : ℕ) → IsFirstBroken (groups_of zones) rule place → IsLeastBroken (FailsTest zones) rule place
least_of zones rule place h =
    let found = first_is_least (record_tests h.group) rule refl h.broken in
    record {
      is = record { before = h.before; group = h.group; after = h.after; cut = h.cut; place_is = h.place_is; breaks = found.breaks };
      least = λ r p k. go r p k found.least (two_cuts h.before h.group h.after k.before k.group k.after (sym h.cut ∙ k.cut));
    }
  where
    go : (r p : ℕ) (k : FailsTest zones r p) → ((q : ℕ) → BreaksTest (record_tests h.group) q → rule ≤ q) → AreApart h.before h.group k.before k.group → (place < p) ⊎ ((place ≡ p) × (rule ≤ r))
    go r p k least (inl (gs, same)) = absurd (sound_unbroken h.before h.sound k.before k.group gs r same k.breaks)
    go r p k least (inr (inl (same, at))) =
        let long = ap length same in
        inr (omega (arith, k.place_is, h.place_is, long), least r (subst (λ g. BreaksTest (record_tests g) r) (sym at) k.breaks))
    go r p k least (inr (inr short)) = inl (omega (arith, k.place_is, h.place_is, short))

pub refused : (zones rest : List ZoneData) (list : List Record) (z : ZoneData) (zs : List ZoneData) (rule place : ℕ) → SoFar zones rest list → rest ≡ z ∷ zs → begins_group z ≡ true → place ≡ length list + 1
    → first_broken (record_tests (z ∷ before_end zs)) ≡ Some rule → IsLeastBroken (FailsTest zones) rule place
refused zones rest list z zs rule place h e b place_is broken = least_of zones rule place (record {
  before = h.done;
  group = z ∷ before_end zs;
  after = groups_of zs;
  cut = h.cut ∙ ap (λ t. h.done ++ groups_of t) e ∙ ap (λ t. h.done ++ t) (group_here z zs b);
  sound = h.sound;
  broken = broken;
  place_is = omega (arith, place_is, zip_length h.done list h.states);
})

-- there is room for one more
pub few_so_far : (zones rest : List ZoneData) (list : List Record) (z : ZoneData) (zs : List ZoneData) → SoFar zones rest list → rest ≡ z ∷ zs → begins_group z ≡ true → length (groups_of zones) ≤ 9999999 → length list + 1 ≤ 9999999
few_so_far zones rest list z zs h e b few =
    let count = zip_length h.done list h.states in
    let cut = ap length (h.cut ∙ ap (λ t. h.done ++ groups_of t) e ∙ ap (λ t. h.done ++ t) (group_here z zs b)) in
    let parts = length-append h.done ((z ∷ before_end zs) ∷ groups_of zs) in
    omega (arith, count, cut, parts, few)

pub few_in_all : (zones rest : List ZoneData) (list : List Record) → SoFar zones rest list → rest ≡ [] → length (groups_of zones) ≤ 9999999 → length list ≤ 9999999
few_in_all zones rest list h e few = let count = zip_length h.done list h.states in let cut = ap length (all_cut zones rest list h e) in omega (arith, count, cut, few)

pub refusal_at : (zones rest : List ZoneData) (list : List Record) (z : ZoneData) (zs : List ZoneData) (fault : GroupFault) (at : ℕ) (result : RecordFault) → SoFar zones rest list → rest ≡ z ∷ zs → begins_group z ≡ true
    → at ≡ length list + 1 → result ≡ fault_at at fault → IsGroupRefusal (z ∷ before_end zs) fault → IsRecordRefusal (FailsTest zones) result
refusal_at zones rest list z zs (GroupMemory e) at result h cut b place is broken = subst (IsRecordRefusal (FailsTest zones)) (sym is) tt
refusal_at zones rest list z zs (GroupBroken rule) at result h cut b place is broken = subst (IsRecordRefusal (FailsTest zones)) (sym is) (refused zones rest list z zs rule at h cut b place broken)

-- ---- there are no more groups than zones

pub groups_few : (zs : List Zone) → length (groups_of (entries zs)) ≤ length zs
groups_few [] = omega arith
groups_few (z ∷ zs) = go (begins_group (entry z)) refl (groups_few zs)
  where
    go : (b : Bool) → begins_group (entry z) ≡ b → length (groups_of (entries zs)) ≤ length zs → length (groups_of (entries (z ∷ zs))) ≤ suc (length zs)
    go true e more = rw e (omega (arith, more))
    go false e more = rw e (omega (arith, more))

-- ---- groups one after the other

-- a group that states the next record
pub list_more : (groups : List (List ZoneData)) (list new : List Record) (group : List ZoneData) (r : Record) → IsListOfGroups groups list → ReadsAsRecord group r → is_in_shape r ≡ true → IsSound group → new ≡ list ++ r ∷ [] → IsListOfGroups (groups ++ group ∷ []) new
list_more groups list new group r h states shape sound pushed = subst (IsListOfGroups (groups ++ group ∷ [])) (sym pushed) (record {
  states = zip_push groups list group r h.states states;
  sound = sound_push groups group h.sound sound;
  shape = shape_push list r h.shape shape;
})

-- a group that breaks a rule
pub list_refused : (groups : List (List ZoneData)) (list : List Record) (group : List ZoneData) (rule place : ℕ) → IsListOfGroups groups list → first_broken (record_tests group) ≡ Some rule → place ≡ length list + 1 → IsFirstBroken (groups ++ group ∷ []) rule place
list_refused groups list group rule place h broken place_is = record {
  before = groups;
  group = group;
  after = [];
  cut = refl;
  sound = h.sound;
  broken = broken;
  place_is = omega (arith, place_is, zip_length groups list h.states);
}

-- what comes behind a broken rule changes nothing
made_still : (groups : List (List ZoneData)) (group : List ZoneData) (list : List Record) (fault : RecordFault) → IsMadeOfGroups groups list (Some fault) → IsMadeOfGroups (groups ++ group ∷ []) list (Some fault)
made_still groups group list (Memory e) h = tt
made_still groups group list (Broken rule at) h = record {
  before = h.before;
  group = h.group;
  after = h.after ++ group ∷ [];
  cut = ap (λ gs. gs ++ group ∷ []) h.cut ∙ append_assoc h.before (h.group ∷ h.after) (group ∷ []);
  sound = h.sound;
  broken = h.broken;
  place_is = h.place_is;
}

pub made_past : (groups : List (List ZoneData)) (group : List ZoneData) (list : List Record) (fault : Option RecordFault) → is_some fault ≡ true → IsMadeOfGroups groups list fault → IsMadeOfGroups (groups ++ group ∷ []) list fault
made_past groups group list None e h = absurd (cc)
made_past groups group list (Some fault) e h = made_still groups group list fault h

-- no rule is broken so far
pub made_list : (groups : List (List ZoneData)) (list : List Record) (fault : Option RecordFault) → is_some fault ≡ false → IsMadeOfGroups groups list fault → IsListOfGroups groups list
made_list groups list None e h = h
made_list groups list (Some fault) e h = absurd (cc)

pub made_more : (groups : List (List ZoneData)) (list : List Record) (fault : Option RecordFault) → is_some fault ≡ false → IsListOfGroups groups list → IsMadeOfGroups groups list fault
made_more groups list None e h = h
made_more groups list (Some fault) e h = absurd (cc)

-- ---- the record that is coming

kind_of_head : (head : ZoneData) (zs : List ZoneData) → begins_group head ≡ true → kind_in (head ∷ zs) ≡ kind_named head.value
kind_of_head head zs begins = ap (λ vs. option_and_then kind_named (first vs)) (value_here (codes "RTY") head zs head.value begins refl)

-- a zone more doesn't change its type
kind_still : (group : List ZoneData) (z : ZoneData) → IsOneRecord group → kind_in (group ++ z ∷ []) ≡ kind_in group
kind_still group z one =
    ap (λ g. kind_in (g ++ z ∷ [])) one.joined ∙ kind_of_head one.head (one.rest ++ z ∷ []) one.leads ∙ sym (kind_of_head one.head one.rest one.leads) ∙ ap kind_in (sym one.joined)

pub type_once : (group : List ZoneData) → IsOneRecord group → length (values (codes "RTY") group) ≡ 1
type_once group one =
    ap (λ g. length (values (codes "RTY") g)) (one.joined ∙ ap (λ l. one.head ∷ l) (sym (inner_whole one.rest one.whole))) ∙ one_type one.head one.rest one.leads

-- a record of this type has begun, or one of none
pub kind_begun : (head : ZoneData) (text : List ℕ) (kind : Option Kind) → begins_group head ≡ true → text ≡ head.value → kind ≡ kind_named text → kind_in (head ∷ []) ≡ kind
kind_begun head text kind begins same is = kind_of_head head [] begins ∙ ap kind_named (sym same) ∙ sym is

pub stores_begun : (d : Draft) (parts : RecordParts) (head : ZoneData) → begins_group head ≡ true → kind_in (head ∷ []) ≡ Some d.kind
    → ((group : List ZoneData) → StoresRecord (kept d parts) group group) → StoresComing d parts (head ∷ [])
stores_begun d parts head begins kind keeps = record {
  kind = kind;
  stores = λ left. head_skipped (kept d parts) head left (head ∷ left) (inl ((bytes_eq-Decides head.code (codes "RTY")).0 begins)) (keeps (head ∷ left));
}

-- a zone more
pub stores_more : (old new : Draft) (before after : RecordParts) (group : List ZoneData) (z : ZoneData) → IsOneRecord group → new.kind ≡ old.kind
    → ((left group : List ZoneData) → StoresRecord (kept old before) (z ∷ left) group → StoresRecord (kept new after) left group) → StoresComing old before group → StoresComing new after (group ++ z ∷ [])
stores_more old new before after group z one same keeps h = record {
  kind = kind_still group z one ∙ h.kind ∙ ap (λ k. Some k) (sym same);
  stores = λ left. keeps left ((group ++ z ∷ []) ++ left) (subst (StoresRecord (kept old before) (z ∷ left)) (sym (append_assoc group (z ∷ []) left)) (h.stores (z ∷ left)));
}

-- all its zones have come
pub stores_all : (d : Draft) (parts : RecordParts) (group : List ZoneData) → StoresComing d parts group → StoresRecord (kept d parts) [] group
stores_all d parts group h = subst (StoresRecord (kept d parts) []) (append-nil group) (h.stores [])

-- a record begins behind one that breaks a rule
pub begun_past : (fault : Option RecordFault) (coming : Coming) (parts : RecordParts) (before group : List ZoneData) → is_some fault ≡ true → IsComingUnless fault coming parts before → IsComingUnless fault coming parts group
begun_past None coming parts before group e h = absurd cc
begun_past (Some fault) coming parts before group e h = h

pub begun_now : (fault : Option RecordFault) (coming : Coming) (parts : RecordParts) (group : List ZoneData) → is_some fault ≡ false → IsComingOf coming parts group → IsComingUnless fault coming parts group
begun_now None coming parts group e h = h
begun_now (Some fault) coming parts group e h = absurd cc

not_empty : (group : List ZoneData) → IsOneRecord group → group ≡ [] → ⊥
not_empty group one e = let wrong : one.head ∷ one.rest ≡ [] = sym one.joined ∙ e in absurd cc

module _ (group : List ZoneData) (z : ZoneData) (one : IsOneRecord group) where
  pub taken_by : (fault : Option RecordFault) (coming : Coming) (old new : Draft) (before after : RecordParts) → coming ≡ Stored old → new.kind ≡ old.kind
      → ((left group : List ZoneData) → StoresRecord (kept old before) (z ∷ left) group → StoresRecord (kept new after) left group)
      → IsComingUnless fault coming before group → IsComingUnless fault (Stored new) after (group ++ z ∷ [])
  taken_by None coming old new before after is same keeps h = stores_more old new before after group z one same keeps (subst (λ (k : Coming). IsComingOf k before group) is h)
  taken_by (Some fault) coming old new before after is same keeps h = let wrong : Stored old ≡ Nothing = sym is ∙ h in absurd cc

  -- nothing is stored of the record, or it is of no known type
  pub taken_past : (fault : Option RecordFault) (coming : Coming) (parts : RecordParts) → ((d : Draft) → ¬ (coming ≡ Stored d)) → IsComingUnless fault coming parts group → IsComingUnless fault coming parts (group ++ z ∷ [])
  taken_past None Nothing parts other h = absurd (not_empty group one h)
  taken_past None WithoutKind parts other h = kind_still group z one ∙ h
  taken_past None (Stored d) parts other h = absurd (other d refl)
  taken_past (Some fault) coming parts other h = h

-- ---- the record is whole

module _ (groups : List (List ZoneData)) (group : List ZoneData) (one : IsOneRecord group) (coming : Coming) (parts now : RecordParts) where
  -- nothing was stored of it
  pub ended_without : (list : List Record) (fault : Option RecordFault) → coming ≡ Nothing → IsMadeOfGroups groups list fault → IsComingUnless fault coming parts group
      → IsMadeOfGroups (groups ++ group ∷ []) list fault × IsComingUnless fault Nothing now []
  ended_without list None none made come = absurd (not_empty group one (subst (λ (k : Coming). IsComingOf k parts group) none come))
  ended_without list (Some fault) none made come = (made_past groups group list (Some fault) refl made, refl)

  -- it states a record
  pub ended_with : (list new : List Record) (fault : Option RecordFault) (r : Record) → ¬ (coming ≡ Nothing) → (IsComingOf coming parts group → IsRecordOf group r) → new ≡ list ++ r ∷ []
      → IsMadeOfGroups groups list fault → IsComingUnless fault coming parts group → IsMadeOfGroups (groups ++ group ∷ []) new fault × IsComingUnless fault Nothing now []
  ended_with list new None r some is pushed made come =
      let state = is come in
      (list_more groups list new group r made state.states state.shape state.sound pushed, refl)
  ended_with list new (Some fault) r some is pushed made come = absurd (some come)

  -- it breaks a rule
  pub ended_refused : (list : List Record) (fault : Option RecordFault) (refusal : GroupFault) (place : ℕ) → ¬ (coming ≡ Nothing) → (IsComingOf coming parts group → IsGroupRefusal group refusal) → place ≡ length list + 1
      → IsMadeOfGroups groups list fault → IsComingUnless fault coming parts group → IsMadeOfGroups (groups ++ group ∷ []) list (Some (fault_at place refusal))
  ended_refused list None (GroupMemory e) place some breaks at made come = tt
  ended_refused list None (GroupBroken rule) place some breaks at made come = list_refused groups list group rule place made (breaks come) at
  ended_refused list (Some fault) refusal place some breaks at made come = absurd (some come)

-- ---- the sheet of a file

pub made_of_file : (bytes : List ℕ) (charset : Option (List ℕ)) (first last : RecordsUntilFault) (found : Option RecordFault) (Before After : List (List ZoneData) → List ZoneData → Type 0)
    (h : IsHandedOut bytes charset (λ groups group. HoldsRecords groups group first × Before groups group) (λ groups group. HoldsRecords groups group last × After groups group)) → HoldsRecords [] [] first → Before [] [] → last.fault ≡ found
    → IsMadeOfGroups (groups_of h.zones) last.list found × After (groups_of h.zones) []
made_of_file bytes charset first last found Before After h none before is =
    let both = h.handed [] (none, before) in
    (subst (IsMadeOfGroups (groups_of h.zones) last.list) is both.0.made, both.1)

pub file_unbroken : (zones : List ZoneData) (list : List Record) → IsListOfGroups (groups_of zones) list → IsUnbroken (BreaksRecordRule zones)
file_unbroken zones list h = records_unbroken zones (λ rule place b. sound_unbroken (groups_of zones) h.sound b.before b.group b.after rule b.cut b.breaks)

made_refusal : (zones : List ZoneData) (list : List Record) (fault : RecordFault) → IsMadeOfGroups (groups_of zones) list (Some fault) → IsRecordRefusal (FailsTest zones) fault
made_refusal zones list (Memory e) h = tt
made_refusal zones list (Broken rule at) h = least_of zones rule at h

pub file_refusal : (zones : List ZoneData) (list : List Record) (fault : RecordFault) → IsMadeOfGroups (groups_of zones) list (Some fault) → IsRecordRefusal (BreaksRecordRule zones) fault
file_refusal zones list fault h = refusal_said zones fault (made_refusal zones list fault h)

pub made_few : (groups : List (List ZoneData)) (list : List Record) → IsListOfGroups groups list → length groups ≤ 9999999 → length list ≤ 9999999
made_few groups list h few = let count = zip_length groups list h.states in omega (arith, count, few)
