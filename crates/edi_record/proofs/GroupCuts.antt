-- The zones of a record, cut off.
use Rattle.std.proofs.Common.{◌≡◌, ℕ, ◌+◌, ◌-◌, ◌<◌, ◌≤◌, Bool, true, false, cond, not, ◌||◌, List, [], ◌∷◌, length, take, drop, get_or, position, Some, None, refl, sym, ap, ◌∙◌, arith, one-add}
use Rattle.std.specs.List.{position_or_len}
use Rattle.std.proofs.lemmas.Bool.{ltb-true, ltb-false, or_parts}
use Rattle.std.specs.Prelude.{codes, option_and_then}
use Rattle.std.proofs.lemmas.List.{take_all}
use Rattle.std.proofs.lemmas.List.Sums.{prefix_len-le-length}
use Rattle.edi_line.specs.ZoneData.{ZoneData, entry, entries, has_code, first}
use Rattle.edi_record.specs.Records.{values, group_at}
use Rattle.edi_line.specs.Zones.{begins_group, ends_group, before_end, groups_of}
use Rattle.edi_line.specs.declared.zone.Zone.{Zone}
use Rattle.edi_record.specs.inner.RecordRules.{kind_named, kind_in}
use Rattle.edi_record.specs.declared.record.Kind.{Kind}

abbrev pub begins : Zone → Bool
begins z = begins_group (entry z)

abbrev pub ends : Zone → Bool
ends z = ends_group (entry z)

-- the zones before the end of a record
pub before_here : (zs : List Zone) → entries (take (position_or_len ends zs) zs) ≡ before_end (entries zs)
before_here [] = refl
before_here (z ∷ zs) = go (ends z) refl (before_here zs)
  where
    go : (b : Bool) → ends z ≡ b → entries (take (position_or_len ends zs) zs) ≡ before_end (entries zs)
        → entries (take (cond (not b) (1 + position_or_len ends zs) 0) (z ∷ zs)) ≡ cond b [] (entry z ∷ before_end (entries zs))
    go true e more = refl
    go false e more = rw one-add (ap (λ es. entry z ∷ es) more)

-- ---- places

some_test : (t : Bool) (i k : ℕ) → cond t (Some i) None ≡ Some k → (t ≡ true) × (k ≡ i)
some_test true i k e = (refl, cc)
some_test false i k e = absurd cc

none_test : (t : Bool) (i : ℕ) → cond t (Some i) None ≡ None → t ≡ false
none_test true i e = absurd cc
none_test false i e = refl

pub place_at_Some : {X : Type 0} (p : X → Bool) (xs : List X) (k : ℕ) → position p xs ≡ Some k → (k ≡ position_or_len p xs) × (k < length xs)
place_at_Some p xs k e =
    let parts = some_test _ _ _ e in
    let at : k ≡ position_or_len p xs = parts.1 in
    (at, omega (arith, at, ltb-true _ _ parts.0))

pub no_position : {X : Type 0} (p : X → Bool) (xs : List X) → position p xs ≡ None → length xs ≤ position_or_len p xs
no_position p xs e = ltb-false _ _ (none_test _ _ e)

pub place_at_None : {X : Type 0} (p : X → Bool) (xs : List X) → position p xs ≡ None → length xs ≡ position_or_len p xs
place_at_None p xs e = omega (arith, no_position p xs e, prefix_len-le-length (λ x. not (p x)) xs)

-- ---- values

pub value_here : (code : List ℕ) (z : ZoneData) (zs : List ZoneData) (value : List ℕ) → has_code code z ≡ true → value ≡ z.value → values code (z ∷ zs) ≡ value ∷ values code zs
value_here code z zs value e same = rw (e, same) refl

pub value_skipped : (code : List ℕ) (z : ZoneData) (zs : List ZoneData) → has_code code z ≡ false → values code (z ∷ zs) ≡ values code zs
value_skipped code z zs e = rw e refl

-- ---- a group holds one type

none_before : (zs : List ZoneData) → values (codes "RTY") (before_end zs) ≡ []
none_before [] = refl
none_before (z ∷ zs) = go (ends_group z) refl (begins_group z) refl (none_before zs)
  where
    go : (b : Bool) → ends_group z ≡ b → (c : Bool) → begins_group z ≡ c → values (codes "RTY") (before_end zs) ≡ [] → values (codes "RTY") (before_end (z ∷ zs)) ≡ []
    go true e c f more = rw e refl
    go false e true f more = let wrong : true ≡ false = sym (ap (λ b. b || has_code (codes "EOM") z) f) ∙ e in absurd (cc)
    go false e false f more = rw (e, f) more

pub one_type : (z : ZoneData) (zs : List ZoneData) → begins_group z ≡ true → length (values (codes "RTY") (z ∷ before_end zs)) ≡ 1
one_type z zs e = rw e (ap (λ vs. length (z.value ∷ vs)) (none_before zs))

-- the record that begins with the first zone
pub record_here : (zs : List Zone) (d z : Zone) (n : ℕ) → 1 ≤ length zs → z ≡ get_or zs 0 d → begins z ≡ true → n ≡ position_or_len ends (take (length zs - 1) (drop 1 zs))
    → Some (entries (take (1 + n) zs)) ≡ group_at (entries zs)
record_here [] d z n some e begin count = absurd (omega arith)
record_here (x ∷ xs) d z n some e begin count =
    let all : take (length (x ∷ xs) - 1) xs ≡ xs = take_all (length (x ∷ xs) - 1) xs (omega arith) in
    let first : begins x ≡ true = ap begins (sym e) ∙ begin in
    let n_is : n ≡ position_or_len ends xs = count ∙ ap (position_or_len ends) all in
    rw (first, one-add, n_is) (ap (λ es. Some (entry x ∷ es)) (before_here xs))

-- ---- the zones of a record, one after the other

-- the type that the first zone names is that of the group
pub head_kind : (z : ZoneData) (zs : List ZoneData) (text : List ℕ) (kind : Kind) → begins_group z ≡ true → text ≡ z.value → Some kind ≡ kind_named text → kind_in (z ∷ zs) ≡ Some kind
head_kind z zs text kind e same read = ap (λ vs. option_and_then kind_named (first vs)) (value_here (codes "RTY") z zs text e same) ∙ sym read

pub goes_on : (z : ZoneData) (zs : List ZoneData) → ends_group z ≡ false → before_end (z ∷ zs) ≡ z ∷ before_end zs
goes_on z zs e = rw e refl

pub stops : (z : ZoneData) (zs : List ZoneData) → ends_group z ≡ true → before_end (z ∷ zs) ≡ []
stops z zs e = rw e refl

pub no_group : (z : ZoneData) (zs : List ZoneData) → ends_group z ≡ false → groups_of (z ∷ zs) ≡ groups_of zs
no_group z zs e = let parts = or_parts (begins_group z) (has_code (codes "EOM") z) e in rw parts.0 refl
