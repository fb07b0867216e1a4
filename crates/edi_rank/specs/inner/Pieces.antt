-- The links that are pieces of an object.
use Rattle.std.specs.Prelude.{ℕ, ◌+◌, ◌==◌, Bool, false, List, [], ◌∷◌, if◌then◌else◌, Option, None, Some, slice_index, length}
use Rattle.edi_plan.specs.Plans.{PlanData}
use Rattle.edi_plan.specs.declared.record.PlanRecord.{PlanRecord}
use Rattle.edi_record.specs.declared.record.Kind.TheVariants.{Fea}
use Rattle.edi_plan.specs.Places.{places_of}
use Rattle.edi_topo.specs.Ranking.{IsRanking}
use Rattle.edi_rank.specs.Keys.{is_piece, object_key_cmp}
use Rattle.edi_rank.specs.Pieces.{ObjectSource, object_key_at}

-- the object is the one that was found
abbrev pub is_owner : Option ℕ → ℕ → Bool
is_owner None object = false
is_owner (Some k) object = k == object

-- the places of the links that are pieces of an object, from a place on
abbrev pub pieces_from : PlanData → ℕ → ℕ → List PlanRecord → List ℕ
pieces_from p object place [] = []
pieces_from p object place (r ∷ rs) =
    if is_piece p object r then place ∷ pieces_from p object (place + 1) rs else pieces_from p object (place + 1) rs

abbrev pub piece_places : PlanData → ℕ → List ℕ
piece_places p object = pieces_from p object 0 p.list

-- the numbers of the objects by their keys, in file order
abbrev pub IsObjectRanking : ObjectSource → List ℕ → Type 0
IsObjectRanking l numbers =
    IsRanking object_key_cmp (λ m. object_key_at l (slice_index (places_of Fea l.plan) m))
    (length (places_of Fea l.plan)) numbers
