-- The records of a file, handed on one after the other, whose zones are in memory.
use Rattle.std.proofs.Common.{◌≡◌, ◌∙◌, ◌-◌, ◌<◌, ◌≤◌, List, [], ◌∷◌, ◌++◌, Bool, true, false, Option, Some, None, cond, length, take, drop, refl, sym, ap, subst, arith, append-nil, append_assoc}
use Rattle.std.specs.List.{list_any}
use Rattle.std.proofs.lemmas.List.{take_all}
use Rattle.edi_line.specs.ZoneData.{ZoneData, entry, entries}
use Rattle.edi_line.specs.Groups.{IsOneRecord}
use Rattle.edi_line.specs.Zones.{before_end, begins_group, ends_group, groups_of}
use Rattle.edi_line.specs.declared.zone.Zone.{Zone}
use Rattle.edi_record.specs.Records.{group_at}
use Rattle.edi_explain.proofs.RowGroups.{some_group}

no_group : (z : ZoneData) (zs : List ZoneData) → ◌≡◌ {A = Option (List ZoneData)} None (group_at (z ∷ zs)) → groups_of (z ∷ zs) ≡ groups_of zs
no_group z zs e = go (begins_group z) refl e
  where
    go : (b : Bool) → begins_group z ≡ b → ◌≡◌ {A = Option (List ZoneData)} None (cond b (Some (z ∷ before_end zs)) None) → groups_of (z ∷ zs) ≡ groups_of zs
    go true t h = absurd cc
    go false t h = rw t refl

inner_before : (zs : List ZoneData) → list_any ends_group (before_end zs) ≡ false
inner_before [] = refl
inner_before (z ∷ zs) = go (ends_group z) refl (inner_before zs)
  where
    go : (b : Bool) → ends_group z ≡ b → list_any ends_group (before_end zs) ≡ false → list_any ends_group (cond b [] (z ∷ before_end zs)) ≡ false
    go true t h = refl
    go false t h = rw t h

one_group : (z : ZoneData) (zs g : List ZoneData) → Some g ≡ group_at (z ∷ zs) → IsOneRecord g
one_group z zs g e = go (begins_group z) refl e
  where
    go : (b : Bool) → begins_group z ≡ b → Some g ≡ cond b (Some (z ∷ before_end zs)) None → IsOneRecord g
    go true t h = let same : z ∷ before_end zs ≡ g = cc in
        subst IsOneRecord same (record { head = z; rest = before_end zs; joined = refl; leads = t; whole = inner_before zs })
    go false t h = absurd cc

-- the zones of a record that begins with the first of some zones
pub group_is_one : (rest : List Zone) (g : List ZoneData) → 1 ≤ length rest → Some g ≡ group_at (entries rest) → IsOneRecord g
group_is_one [] g some e = absurd (omega arith)
group_is_one (z ∷ zs) g some e = one_group (entry z) (entries zs) g e

behind_first : (z : Zone) (zs : List Zone) → zs ≡ take (length (z ∷ zs) - 1) (drop 1 (z ∷ zs))
behind_first z zs = sym (take_all (length (z ∷ zs) - 1) zs (omega arith))

-- Of the records of these zones those were handed on that don't begin among the rest.
module _ (Before : List (List ZoneData) → Type 0) (zones : List ZoneData) where
  abbrev pub HandedOn : (List (List ZoneData) → Type 0) → List ZoneData → Type 0
  HandedOn After rest = (groups : List (List ZoneData)) → Before groups
      → (done : List (List ZoneData)) × (done ++ groups_of rest ≡ groups_of zones) × After (groups ++ done)

  pub one_more_handed : (Then After : List (List ZoneData) → Type 0) (rest : List Zone) (g : List ZoneData) → 1 ≤ length rest → Some g ≡ group_at (entries rest)
      → HandedOn Then (entries rest) → ((groups : List (List ZoneData)) → Then groups → After (groups ++ g ∷ []))
      → HandedOn After (entries (take (length rest - 1) (drop 1 rest)))
  one_more_handed Then After [] g some e so_far more = absurd (omega arith)
  one_more_handed Then After (z ∷ zs) g some e so_far more = subst (λ (l : List Zone). HandedOn After (entries l)) (behind_first z zs) (λ groups h.
      let d = so_far groups h in (
        d.0 ++ g ∷ [],
        append_assoc d.0 (g ∷ []) (groups_of (entries zs)) ∙ (ap (λ gs. d.0 ++ gs) (sym (some_group (entry z) (entries zs) g e)) ∙ d.1),
        subst After (append_assoc groups d.0 (g ∷ [])) (more (groups ++ d.0) d.2),
      ))

  pub none_more_handed : (After : List (List ZoneData) → Type 0) (rest : List Zone) → 1 ≤ length rest → ◌≡◌ {A = Option (List ZoneData)} None (group_at (entries rest))
      → HandedOn After (entries rest) → HandedOn After (entries (take (length rest - 1) (drop 1 rest)))
  none_more_handed After [] some e so_far = absurd (omega arith)
  none_more_handed After (z ∷ zs) some e so_far = subst (λ (l : List Zone). HandedOn After (entries l)) (behind_first z zs) (λ groups h.
      let d = so_far groups h in (d.0, ap (λ gs. d.0 ++ gs) (sym (no_group (entry z) (entries zs) e)) ∙ d.1, d.2))

  pub all_handed : (After : List (List ZoneData) → Type 0) (rest : List Zone) → length rest < 1 → HandedOn After (entries rest)
      → (groups : List (List ZoneData)) → Before groups → After (groups ++ groups_of zones)
  all_handed After [] none so_far groups h = let d = so_far groups h in subst (λ gs. After (groups ++ gs)) (sym (append-nil d.0) ∙ d.1) d.2
  all_handed After (z ∷ zs) none so_far groups h = absurd (omega arith)

-- at first none was
pub none_handed : (Holds : List (List ZoneData) → Type 0) (zones : List ZoneData) → HandedOn Holds zones Holds zones
none_handed Holds zones groups h = ([], refl, subst Holds (sym (append-nil groups)) h)
