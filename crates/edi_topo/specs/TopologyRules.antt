-- The rules of topology, each for a plan at a place.
use Rattle.std.specs.Prelude.{◌≡◌, ◌≢◌, ◌⊎◌, ℕ, suc, ◌<◌, List, [], ◌∷◌, ◌++◌, reverse, IsPermutation}
use Rattle.edi_record.specs.declared.record.Point.{Point}
use Rattle.edi_record.specs.declared.record.Kind.{Kind}
use Rattle.edi_record.specs.declared.record.Kind.TheVariants.{Pno, Par, Pfe}
use Rattle.edi_schema.specs.declared.role.Role.TheVariants.{Initial, Final, Left, Right}
use Rattle.edi_plan.specs.Plans.{PlanData, IsPlace, record_at}
use Rattle.edi_plan.specs.Sides.{Side}

-- two nodes that nothing but their identifiers and their links tells apart
pub record AreEqualNodes (p : PlanData) (m n : ℕ) : Type 0 where
  pub first : IsPlace p m
  pub second : IsPlace p n
  pub first_node : (record_at p m).kind ≡ Pno
  pub second_node : (record_at p n).kind ≡ Pno
  pub points : (record_at p m).points ≡ (record_at p n).points
  pub class : (record_at p m).class ≡ (record_at p n).class
  pub attributes : IsPermutation (record_at p m).attributes (record_at p n).attributes
  pub extras : (record_at p m).extras ≡ (record_at p n).extras

module _ (p : PlanData) where
  -- the points of the record at a place from 0, of a kind
  abbrev pub HasPoints : Kind → ℕ → List Point → Type 0
  HasPoints kind k points = IsPlace p k × ((record_at p k).kind ≡ kind) × ((record_at p k).points ≡ points)

  module _ (at : ℕ) where
    -- the record at this place from 1
    abbrev pub IsAt : ℕ → Type 0
    IsAt k = at ≡ suc k

    -- 401: the initial node isn't at the arc's first point
    abbrev pub StartsElsewhere : Type 0
    StartsElsewhere =
        (a n : ℕ) × (first position : Point) × (others : List Point) × IsAt a × HasPoints Par a (first ∷ others)
        × Side p a Initial n × HasPoints Pno n (position ∷ []) × (position ≢ first)

    -- 402: the final node isn't at the arc's last point
    abbrev pub EndsElsewhere : Type 0
    EndsElsewhere =
        (a n : ℕ) × (last position : Point) × (others : List Point) × IsAt a × HasPoints Par a (others ++ last ∷ [])
        × Side p a Final n × HasPoints Pno n (position ∷ []) × (position ≢ last)

    -- 403: a node with the position, the class, the attributes and the extras of an earlier node
    abbrev pub RepeatsNode : Type 0
    RepeatsNode = (m n : ℕ) × IsAt n × (m < n) × AreEqualNodes p m n

    -- 404: an arc whose points equal their reverse
    abbrev pub EqualsReverse : Type 0
    EqualsReverse = (a : ℕ) × (points : List Point) × IsAt a × HasPoints Par a points × (points ≡ reverse points)

    -- 405: an arc with an earlier arc's points, in either direction
    abbrev pub RepeatsArc : Type 0
    RepeatsArc =
        (a b : ℕ) × (earlier points : List Point) × IsAt b × (a < b) × HasPoints Par a earlier × HasPoints Par b points
        × ((points ≡ earlier) ⊎ (points ≡ reverse earlier))

    -- 406: a face that is on no side of an arc
    abbrev pub BoundsNothing : Type 0
    BoundsNothing =
        (x : ℕ) × (points : List Point) × IsAt x × HasPoints Pfe x points
        × ((a : ℕ) → ¬ (Side p a Left x ⊎ Side p a Right x))

  -- the record at this place breaks the rule
  pub data BreaksTopologyRule (rule at : ℕ) : Type 0 where
    starts_elsewhere : rule ≡ 401 → StartsElsewhere at → BreaksTopologyRule rule at
    ends_elsewhere : rule ≡ 402 → EndsElsewhere at → BreaksTopologyRule rule at
    repeats_node : rule ≡ 403 → RepeatsNode at → BreaksTopologyRule rule at
    equals_reverse : rule ≡ 404 → EqualsReverse at → BreaksTopologyRule rule at
    repeats_arc : rule ≡ 405 → RepeatsArc at → BreaksTopologyRule rule at
    bounds_nothing : rule ≡ 406 → BoundsNothing at → BreaksTopologyRule rule at
