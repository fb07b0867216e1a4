-- The keys of the members of each layer.
use Rattle.std.specs.Prelude.{◌≡◌, ◌<◌, ◌-◌, ℕ, Bool, List, length, slice_index, slice_index_or}
use Rattle.std.specs.Ordering.{ordering_then, nat_cmp}
use Rattle.std.specs.declared.cmp.Ordering.{Ordering}
use Rattle.edi_record.specs.declared.record.Kind.{Kind}
use Rattle.edi_record.specs.declared.record.Kind.TheVariants.{Pfe, Lnk}
use Rattle.edi_schema.specs.Classes.{Classes, partner_of}
use Rattle.edi_plan.specs.Places.{places_of}
use Rattle.edi_plan.specs.Plans.{PlanData, record_at}
use Rattle.edi_topo.specs.Ranking.{IsRanking}
use Rattle.edi_rank.specs.Keys.{link_key, face_key_cmp, link_key_cmp}
use Rattle.edi_rank.specs.Labelling.{NumbersEach, turned_at}
use Rattle.edi_rank.specs.Turned.{turned_record}
use Rattle.edi_rank.specs.declared.keys.LinkKey.{LinkKey}
use Rattle.edi_rank.specs.Layers.{no_side, face_keys}

-- the numbers of the faces by their keys, where the arcs have these numbers
abbrev pub IsFaceRanking : PlanData → List ℕ → List ℕ → Type 0
IsFaceRanking p arcs numbers =
    IsRanking face_key_cmp (λ m. slice_index_or (face_keys p arcs) m no_side) (length (places_of Pfe p)) numbers

-- what the keys of links are made of: the plan, the schema, which records are turned, and the number of each record
pub record LinkSource : Type 0 where
  pub plan : PlanData
  pub classes : Classes
  pub turned : List Bool
  pub numbers : List ℕ

-- the key of the link at a place after the reversals
abbrev pub turned_link_key : LinkSource → ℕ → LinkKey
turned_link_key l place =
    link_key l.plan (slice_index l.numbers)
    (turned_record (partner_of l.classes) (turned_at l.turned) place (record_at l.plan place))

-- a link by its key, and then by its place
abbrev pub placed_link_key : LinkSource → ℕ → LinkKey × ℕ
placed_link_key l place = (turned_link_key l place, place)

abbrev pub placed_link_cmp : LinkKey × ℕ → LinkKey × ℕ → Ordering
placed_link_cmp a b = ordering_then (link_key_cmp a.0 b.0) (nat_cmp a.1 b.1)

-- the numbers of the links, in file order
abbrev pub IsLinkRanking : LinkSource → List ℕ → Type 0
IsLinkRanking l numbers =
    IsRanking placed_link_cmp (λ m. placed_link_key l (slice_index (places_of Lnk l.plan) m))
    (length (places_of Lnk l.plan)) numbers

-- the numbers of the records of a type: from 1 to their count, no two equal
pub record AreNumbersOf (p : PlanData) (kind : Kind) (numbers : List ℕ) : Type 0 where
  pub all : length numbers ≡ length (places_of kind p)
  pub each : NumbersEach numbers

-- the places of the records of a type, in the order of these numbers
pub record ArePlacesBy (p : PlanData) (kind : Kind) (numbers order : List ℕ) : Type 0 where
  pub all : length order ≡ length (places_of kind p)
  pub each : (m : ℕ) → m < length (places_of kind p)
      → slice_index order (slice_index numbers m - 1) ≡ slice_index (places_of kind p) m
