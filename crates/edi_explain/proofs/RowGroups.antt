-- The groups of zones one after the other, and their names.
use Rattle.std.proofs.Common.{◌≡◌, ℕ, suc, ◌+◌, ◌<◌, ◌≤◌, ◌-◌, Bool, true, false, List, [], ◌∷◌, length, take, drop, Some, None, refl, sym, ap, ◌∙◌, slice_get, subst, arith, length-drop}
use Rattle.std.proofs.lemmas.List.{take_all}
use Rattle.std.proofs.lemmas.Option.{same_Some}
use Rattle.edi_line.specs.ZoneData.{ZoneData, entry, entries}
use Rattle.edi_line.specs.declared.zone.Zone.{Zone}
use Rattle.edi_record.proofs.AttributesRead.{nothing_left}
use Rattle.edi_line.specs.Zones.{groups_of, begins_group, before_end}
use Rattle.edi_record.specs.Records.{group_at}
use Rattle.edi_record.specs.declared.name.Name.{Name}
use Rattle.edi_schema.specs.SchemaOf.{IsNamed}
use Rattle.edi_explain.specs.RowPartners.{SharesRowName}
use Rattle.edi_explain.specs.inner.RowPartners.{IsEarlierRow}

pub some_group : (z : ZoneData) (zs g : List ZoneData) → Some g ≡ group_at (z ∷ zs) → groups_of (z ∷ zs) ≡ g ∷ groups_of zs
some_group z zs g e = go (begins_group z) refl e
  where
    go : (b : Bool) → begins_group z ≡ b → Some g ≡ Rattle.std.proofs.Common.cond b (Some (z ∷ before_end zs)) None → groups_of (z ∷ zs) ≡ g ∷ groups_of zs
    go true t h = let same : g ≡ z ∷ before_end zs = cc in rw (t, same) refl
    go false t h = absurd cc

module _ (P : List ZoneData → Type 0) (groups : List (List ZoneData)) (place m : ℕ) (q r : List ZoneData) (less : m < place) (there : slice_get groups m ≡ Some q) (here : slice_get groups place ≡ Some r) where
  pub earlier_row : P q → IsEarlierRow P groups place m
  earlier_row h = (q, r, less, there, here, h)

  pub row_passes : IsEarlierRow P groups place m → P q
  row_passes h = subst P (same_Some _ _ (sym h.3 ∙ there)) h.5

-- earlier records with the name of this one
module _ (groups : List (List ZoneData)) (place : ℕ) (r : List ZoneData) (name : Name) (here : slice_get groups place ≡ Some r) (named : IsNamed r name) (m : ℕ) where
  pub name_shared : IsEarlierRow (λ g. IsNamed g name) groups place m → SharesRowName groups place m
  name_shared h = (h.0, h.1, h.2, h.3, h.4, (name, h.5, subst (λ g. IsNamed g name) (same_Some _ _ (sym here ∙ h.4)) named))

  pub share_name : SharesRowName groups place m → IsEarlierRow (λ g. IsNamed g name) groups place m
  share_name h =
      let own = subst (λ g. IsNamed g h.5.0) (same_Some _ _ (sym h.4 ∙ here)) h.5.2 in
      (h.0, h.1, h.2, h.3, h.4, record { rty = h.5.1.rty ∙ (sym own.rty ∙ named.rty); rid = h.5.1.rid ∙ (sym own.rid ∙ named.rid) })

-- behind a place the groups are those of what is left
abbrev pub IsLeftAt : List (List ZoneData) → ℕ → List Zone → Type 0
IsLeftAt groups at rest = (j : ℕ) → slice_get groups (at + j) ≡ slice_get (groups_of (entries rest)) j

first_left : (groups : List (List ZoneData)) (at : ℕ) (rest : List Zone) (g : List ZoneData) → 1 ≤ length rest → IsLeftAt groups at rest → Some g ≡ group_at (entries rest)
    → (slice_get groups at ≡ Some g) × ((j : ℕ) → slice_get groups (at + 1 + j) ≡ slice_get (groups_of (entries (drop 1 rest))) j)
first_left groups at [] g some left e = absurd (omega arith)
first_left groups at (z ∷ zs) g some left e =
    let is = some_group (entry z) (entries zs) g e in (
      ap (slice_get groups) (omega arith) ∙ (left 0 ∙ ap (λ gs. slice_get gs 0) is),
      λ j. ap (slice_get groups) (omega arith) ∙ (left (suc j) ∙ ap (λ gs. slice_get gs (suc j)) is),
    )

pub here_left : (groups : List (List ZoneData)) (at : ℕ) (rest : List Zone) (g : List ZoneData) → 1 ≤ length rest → IsLeftAt groups at rest → Some g ≡ group_at (entries rest) → slice_get groups at ≡ Some g
here_left groups at rest g some left e = (first_left groups at rest g some left e).0

pub next_left : (groups : List (List ZoneData)) (at : ℕ) (rest : List Zone) (g : List ZoneData) → 1 ≤ length rest → IsLeftAt groups at rest → Some g ≡ group_at (entries rest)
    → IsLeftAt groups (at + 1) (take (length rest - 1) (drop 1 rest))
next_left groups at rest g some left e = λ j. (first_left groups at rest g some left e).1 j ∙ ap (λ zs. slice_get (groups_of (entries zs)) j) (sym (take_all (length rest - 1) (drop 1 rest) (omega (arith, length-drop 1 rest))))

pub ended : (groups : List (List ZoneData)) (at place : ℕ) (rest : List Zone) (g : List ZoneData) → length rest < 1 → IsLeftAt groups at rest → at ≤ place → slice_get groups place ≡ Some g → ⊥
ended groups at place rest g none left within here =
    let past : slice_get groups place ≡ None = ap (slice_get groups) (omega (arith, sub_back at place within)) ∙ (left (place - at) ∙ ap (λ zs. slice_get (groups_of zs) (place - at)) (nothing_left rest none)) in cc
  where
    sub_back : (m n : ℕ) → m ≤ n → n ≡ m + (n - m)
    sub_back m n h = omega arith
