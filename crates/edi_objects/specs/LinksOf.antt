-- Which links name a record.
use Rattle.std.specs.Prelude.{ℕ, ◌==◌, List, map, filter}
use Rattle.std.specs.List.{flat_map}
use Rattle.std.specs.Ordering.{ordering_then, nat_cmp}
use Rattle.std.specs.declared.cmp.Ordering.{Ordering}
use Rattle.edi_record.specs.declared.record.Kind.TheVariants.{Lnk}
use Rattle.edi_schema.specs.Sorted.{sort_by}
use Rattle.edi_plan.specs.Places.{places_of}
use Rattle.edi_plan.specs.Plans.{PlanData, record_at}
use Rattle.edi_plan.specs.Sides.{targets}

-- a record and a link that names it: by the record, then by the link
abbrev pub naming_cmp : ℕ × ℕ → ℕ × ℕ → Ordering
naming_cmp a b = ordering_then (nat_cmp a.0 b.0) (nat_cmp a.1 b.1)

-- what a link names, each with the link
abbrev pub named_by : PlanData → ℕ → List (ℕ × ℕ)
named_by p link = map (λ place. (place, link)) (targets (record_at p link))

-- what all links name, in order
unfoldable pub index_of : PlanData → List (ℕ × ℕ)
index_of p = sort_by naming_cmp (flat_map (named_by p) (places_of Lnk p))

-- the entries of the record at a place
abbrev pub entries_of : List (ℕ × ℕ) → ℕ → List (ℕ × ℕ)
entries_of index place = filter (λ named. named.0 == place) index

-- the links that name the record at a place, in file order: as often as they name it
abbrev pub links_of : PlanData → ℕ → List ℕ
links_of p place = map (λ named. named.1) (entries_of (index_of p) place)
