-- What objects and links are found by, with the places where their ends go.
use Rattle.std.specs.Prelude.{ℕ, ◌++◌, Bool, false, List, [], ◌∷◌, Option, Some, None, filter_map, find, flat_map, if◌then◌else◌, is_some, length, nat_lt, option_and_then, option_map, slice_index_or}
use Rattle.edi_record.specs.declared.record.Kind.TheVariants.{Fea, Lnk}
use Rattle.edi_schema.specs.Classes.{Classes, partner_of}
use Rattle.edi_schema.specs.Sorted.{sort_by}
use Rattle.edi_plan.specs.Orders.{attribute_cmp}
use Rattle.edi_plan.specs.Places.{places_of}
use Rattle.edi_plan.specs.Plans.{PlanData, is_object, record_at}
use Rattle.edi_plan.specs.declared.record.PlanEnd.{PlanEnd}
use Rattle.edi_plan.specs.declared.record.PlanRecord.{PlanRecord}
use Rattle.edi_rank.specs.Keys.{end_cmp, numbered}
use Rattle.edi_rank.specs.Labelling.{Labelling, number_of, turned_at}
use Rattle.edi_rank.specs.Same.{class_after}
use Rattle.edi_rank.specs.declared.keys.LinkKey.{LinkKey}
use Rattle.edi_rank.specs.declared.keys.NumberedEnd.{NumberedEnd}
use Rattle.edi_matching.specs.declared.entries.ContentKey.{ContentKey}
use Rattle.edi_matching.specs.declared.entries.NeighbourKey.{NeighbourKey}
use Rattle.edi_matching.specs.declared.ranked.Member.{Member}
use Rattle.edi_matching.specs.inner.PlainLinks.{plain_ends}
use Rattle.edi_matching.specs.inner.Ranked.{member_at}

-- the first of these ends that is an object
abbrev pub object_among : PlanData → List PlanEnd → Option ℕ
object_among p ends = option_map (λ e. e.target) (find (λ e. is_object (record_at p e.target).kind) ends)

-- an end, with the place where it goes, if it goes anywhere
abbrev pub end_there : PlanData → List (Option ℕ) → PlanEnd → Option NumberedEnd
end_there p to e =
    option_and_then (λ j. if nat_lt e.target (length p.list) then Some (numbered p (λ k. j) e) else None)
    (slice_index_or to e.target None)

-- these ends with the places where they go, if each goes somewhere
abbrev pub all_there : PlanData → List (Option ℕ) → List PlanEnd → Option (List NumberedEnd)
all_there p to [] = Some []
all_there p to (e ∷ es) = option_and_then (λ x. option_map (λ xs. x ∷ xs) (all_there p to es)) (end_there p to e)

-- the same of the ends of a link: the others in order, and the origin last
abbrev pub ends_there : PlanData → List (Option ℕ) → List PlanEnd → Option (List NumberedEnd)
ends_there p to [] = None
ends_there p to (origin ∷ others) =
    option_and_then (λ x. option_map (λ xs. sort_by end_cmp xs ++ x ∷ []) (all_there p to others))
    (end_there p to origin)

-- what a link holds, with this class and these ends
abbrev pub link_key_with : ℕ → List NumberedEnd → PlanRecord → LinkKey
link_key_with class ends r =
    record { class = class; ends = ends; attributes = sort_by attribute_cmp r.attributes; extras = r.extras }

-- what a link holds after the reversals, with the places where its ends go, if it isn't plain and each of them goes
-- somewhere
abbrev pub link_there : Classes → PlanData → List (Option ℕ) → List Bool → PlanRecord → Option LinkKey
link_there s p to turned r =
    if is_some (plain_ends r) then None
    else option_map (λ ends. link_key_with (class_after (partner_of s) (turned_at turned) r) ends r)
    (ends_there p to r.ends)

-- the places for which there is a key, each with that
abbrev pub keyed_places : {K : Type 0} → (ℕ → Option K) → List ℕ → List (K × ℕ)
keyed_places key places = filter_map (λ k. option_map (λ x. (x, k)) (key k)) places

-- what a record holds beside its points and its ends
abbrev pub content_key_of : PlanRecord → ContentKey
content_key_of r = record { class = r.class; attributes = sort_by attribute_cmp r.attributes; extras = r.extras }

-- what the record at a place holds, with a value beside it, if it is one of the plan
abbrev pub content_beside : {T : Type 0} → PlanData → ℕ → T → Option (ContentKey × T)
content_beside p k x = if nat_lt k (length p.list) then Some (content_key_of (record_at p k), x) else None

abbrev pub content_at : PlanData → Member → Option (ContentKey × Member)
content_at p m = content_beside p m.place m

-- the record at a place, by what it holds, if it isn't done
abbrev pub content_entry : PlanData → Labelling → List Bool → ℕ → Option (ContentKey × Member)
content_entry p l done k = if slice_index_or done k false then None else content_at p (member_at l k)

-- an object, by the class of a link, the number that an end of that link has where it goes, if it goes anywhere, and
-- the number of what the object holds
abbrev pub neighbour_entry : PlanData → Labelling → List (Option ℕ) → ℕ → ℕ → Member → PlanEnd
    → Option (NeighbourKey × Member)
neighbour_entry p there to class contents member e =
    option_map (λ x.
    (record { class = class; end = record x { number = number_of there x.number }; contents = contents }, member))
    (end_there p to e)

-- The entries of an object of a link, if there is one that isn't done: one for each end of the link that goes
-- somewhere. The contents have the number of what each object holds.
abbrev pub entries_of_object : PlanData → Labelling → Labelling → List ℕ → List (Option ℕ) → List Bool → PlanRecord → Option ℕ
    → List (NeighbourKey × Member)
entries_of_object p here there contents to done r None = []
entries_of_object p here there contents to done r (Some object) =
    if slice_index_or done object false then []
    else filter_map
    (neighbour_entry p there to r.class (slice_index_or contents object 0) (member_at here object)) r.ends

abbrev pub link_entries : PlanData → Labelling → Labelling → List ℕ → List (Option ℕ) → List Bool → ℕ
    → List (NeighbourKey × Member)
link_entries p here there contents to done k =
    entries_of_object p here there contents to done (record_at p k) (object_among p (record_at p k).ends)

-- those of all links of a plan
abbrev pub neighbour_entries : PlanData → Labelling → Labelling → List ℕ → List (Option ℕ) → List Bool
    → List (NeighbourKey × Member)
neighbour_entries p here there contents to done =
    flat_map (link_entries p here there contents to done) (places_of Lnk p)

-- the objects of a plan that aren't done, by what they hold
abbrev pub content_entries : PlanData → Labelling → List Bool → List (ContentKey × Member)
content_entries p l done = filter_map (content_entry p l done) (places_of Fea p)
