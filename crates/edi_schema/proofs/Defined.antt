-- Steps of the loop that reads the records of a file.
use Rattle.std.proofs.Common.{◌≡◌, Bool, true, false, cond, List, [], ◌∷◌, ◌++◌, ◌≤◌, ◌<◌, ◌-◌, length, take, drop, arith, map, Some, None, refl, sym, ap, ◌∙◌}
use Rattle.std.proofs.lemmas.List.{append-nil, append_assoc, take_all, map-append}
use Rattle.edi_line.specs.ZoneData.{ZoneData, entry, entries}
use Rattle.edi_line.specs.Zones.{begins_group, before_end, groups_of}
use Rattle.edi_line.specs.declared.zone.Zone.{Zone}
use Rattle.edi_record.specs.Records.{group_at}
use Rattle.edi_schema.specs.inner.Drafts.{Said, definition_said, said_in}
use Rattle.edi_schema.specs.declared.definition.Definition.{Definition}

abbrev behind : List Zone → List Zone
behind rest = take (length rest - 1) (drop 1 rest)

group_found : (rest : List Zone) (g : List ZoneData) → Some g ≡ group_at (entries rest) → groups_of (entries rest) ≡ g ∷ groups_of (entries (behind rest))
group_found [] g e = absurd cc
group_found (z ∷ zs) g e = go (begins_group (entry z)) refl e
  where
    go : (b : Bool) → begins_group (entry z) ≡ b → Some g ≡ cond b (Some (entry z ∷ before_end (entries zs))) None → groups_of (entries (z ∷ zs)) ≡ g ∷ groups_of (entries (take (length (z ∷ zs) - 1) zs))
    go true b e =
        let same : g ≡ entry z ∷ before_end (entries zs) = cc in
        rw (b, same, take_all (length (z ∷ zs) - 1) zs (omega arith)) refl
    go false b e = absurd cc

group_lacks : (rest : List Zone) → 1 ≤ length rest → None ≡ group_at (entries rest) → groups_of (entries rest) ≡ groups_of (entries (behind rest))
group_lacks [] some e = absurd (omega arith)
group_lacks (z ∷ zs) some e = go (begins_group (entry z)) refl e
  where
    go : (b : Bool) → begins_group (entry z) ≡ b → None ≡ cond b (Some (entry z ∷ before_end (entries zs))) None → groups_of (entries (z ∷ zs)) ≡ groups_of (entries (take (length (z ∷ zs) - 1) zs))
    go true b e = absurd cc
    go false b e = rw (b, take_all (length (z ∷ zs) - 1) zs (omega arith)) refl

abbrev Kept : List Said → List Definition → List Zone → Type 0
Kept all done rest = all ≡ map definition_said done ++ map said_in (groups_of (entries rest))

pub one_more : (all : List Said) (done new : List Definition) (d : Definition) (rest : List Zone) (g : List ZoneData)
    → Kept all done rest → Some g ≡ group_at (entries rest) → definition_said d ≡ said_in g → new ≡ done ++ d ∷ [] → Kept all new (behind rest)
one_more all done new d rest g kept here is pushed =
    let next : map said_in (groups_of (entries rest)) ≡ definition_said d ∷ map said_in (groups_of (entries (behind rest))) =
    ap (map said_in) (group_found rest g here) ∙ ap (λ s. s ∷ map said_in (groups_of (entries (behind rest)))) (sym is) in
    kept ∙ (ap (λ t. map definition_said done ++ t) next ∙ (sym (append_assoc (map definition_said done) (definition_said d ∷ []) (map said_in (groups_of (entries (behind rest)))))
    ∙ ap (λ t. t ++ map said_in (groups_of (entries (behind rest)))) (sym (map-append definition_said done (d ∷ [])) ∙ ap (map definition_said) (sym pushed))))

pub no_more : (all : List Said) (done : List Definition) (rest : List Zone) → 1 ≤ length rest → Kept all done rest → None ≡ group_at (entries rest) → Kept all done (behind rest)
no_more all done rest some kept here = kept ∙ ap (λ t. map definition_said done ++ map said_in t) (group_lacks rest some here)

pub all_read : (all : List Said) (done : List Definition) (rest : List Zone) → length rest < 1 → Kept all done rest → map definition_said done ≡ all
all_read all done [] none kept = sym (kept ∙ append-nil (map definition_said done))
all_read all done (z ∷ zs) none kept = absurd (omega arith)
