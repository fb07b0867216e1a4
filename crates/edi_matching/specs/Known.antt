-- A plan of two nodes, the same with one of them moved and the other behind it, and what of it is unchanged.
use Rattle.std.specs.Prelude.{ℕ, pos, false, [], ◌∷◌, Some, None}
use Rattle.edi_record.specs.declared.record.Kind.TheVariants.{Pno}
use Rattle.edi_schema.specs.declared.role.Role.TheVariants.{Plain}
use Rattle.edi_plan.specs.Plans.{PlanData}
use Rattle.edi_plan.specs.declared.record.PlanRecord.{PlanRecord}
use Rattle.edi_matching.specs.declared.matching.Matching.{Matching}

-- a node at this x
abbrev pub node_at : ℕ → PlanRecord
node_at x =
    record {
      kind = Pno;
      class = 0;
      role = Plain;
      points = (record { x = pos x; y = pos 0; z = None }) ∷ [];
      attributes = [];
      extras = [];
      ends = [];
    }

abbrev pub two_nodes : PlanData
two_nodes = record { cse = None; list = node_at 1 ∷ node_at 2 ∷ [] }

abbrev pub moved_node : PlanData
moved_node = record { cse = None; list = node_at 3 ∷ node_at 1 ∷ [] }

-- the first node is the second of the other plan
abbrev pub matched_node : Matching
matched_node = record { to = Some 1 ∷ None ∷ []; turned = false ∷ false ∷ [] }

-- and the second is the first
abbrev pub both_nodes : Matching
both_nodes = record { to = Some 1 ∷ Some 0 ∷ []; turned = false ∷ false ∷ [] }
