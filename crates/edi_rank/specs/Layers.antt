-- The keys of the members of each layer.
use Rattle.std.specs.Prelude.{ℕ, List, [], map, slice_index, unwrap_or}
use Rattle.edi_record.specs.declared.record.Kind.{Kind}
use Rattle.edi_record.specs.declared.record.Kind.TheVariants.{Pno, Par, Pfe, Fea, Lnk}
use Rattle.edi_schema.specs.declared.role.Role.TheVariants.{Plain}
use Rattle.edi_plan.specs.Places.{places_of, member_of}
use Rattle.edi_plan.specs.Plans.{PlanData, record_at}
use Rattle.edi_rank.specs.Keys.{least_side, object_key}
use Rattle.edi_rank.specs.Turned.{is_backward, turned_plan}
use Rattle.edi_rank.specs.declared.keys.FaceKey.{FaceKey}
use Rattle.edi_rank.specs.declared.keys.ObjectKey.{ObjectKey}

-- the plan with every arc turned forward. Classes stay, since no key of these layers has that of a link of a kind
abbrev pub forward_plan : PlanData → PlanData
forward_plan p = turned_plan (λ c. c) (is_backward p) p

-- the number of a node, an arc or a face, from the numbers of the layers
abbrev pub number_by : List ℕ → List ℕ → List ℕ → Kind → ℕ → ℕ
number_by nodes arcs faces Pno member = slice_index nodes member
number_by nodes arcs faces Par member = slice_index arcs member
number_by nodes arcs faces Pfe member = slice_index faces member
number_by nodes arcs faces Fea member = 0
number_by nodes arcs faces Lnk member = 0

abbrev pub ranked : PlanData → List ℕ → List ℕ → List ℕ → ℕ → ℕ
ranked p nodes arcs faces place = number_by nodes arcs faces (record_at p place).kind (member_of p place)

abbrev pub no_side : FaceKey
no_side = record { arc = 0; side = Plain }

-- the least side of each face, where the arcs have these numbers
abbrev pub face_keys : PlanData → List ℕ → List FaceKey
face_keys p arcs = map (λ k. unwrap_or (least_side (forward_plan p) (ranked p [] arcs []) k) no_side) (places_of Pfe p)

abbrev pub object_keys : PlanData → List ℕ → List ℕ → List ℕ → List ObjectKey
object_keys p nodes arcs faces = map (object_key p (ranked p nodes arcs faces)) (places_of Fea p)
