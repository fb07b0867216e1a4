-- The arcs round faces, while they are gathered.
use Rattle.std.specs.Prelude.{◌≡◌, ◌==◌, ℕ, Bool, false, List, [], Option, None, Some, length, map, slice_index_or}
use Rattle.std.specs.List.{filter}
use Rattle.std.specs.Global.{Vec}
use Rattle.edi_plan.specs.Places.{places_of}
use Rattle.edi_plan.specs.Plans.{PlanData, IsPlace}
use Rattle.edi_record.specs.declared.record.Kind.TheVariants.{Par}
use Rattle.edi_picture.specs.Faces.{bounds}

-- an arc has the face at the place k on a side
abbrev pub is_face : ℕ → Option ℕ → Bool
is_face k None = false
is_face k (Some x) = x == k

-- the arcs in the list of a face
abbrev pub arcs_at : List (Vec ℕ) → ℕ → List ℕ
arcs_at lists k = slice_index_or (map (λ list. list.items) lists) k []

-- the list of each face has those of these arcs that are round it
pub record HaveArcs (p : PlanData) (arcs : List ℕ) (lists : List (Vec ℕ)) : Type 0 where
  pub long : length lists ≡ length p.list
  pub each : (k : ℕ) → IsPlace p k → arcs_at lists k ≡ filter (bounds p k) arcs

-- the list of each face has all arcs round it
abbrev pub AreRounds : PlanData → List (Vec ℕ) → Type 0
AreRounds p lists = HaveArcs p (places_of Par p) lists
