use Rattle.std.proofs.Common.{◌≡◌, ◌||◌, ◌&&◌, ℕ, false, is_some, length, take}
use Rattle.std.specs.List.{list_any}
use Rattle.edi_schema.specs.Roles.{is_plain, same_role}
use Rattle.edi_schema.specs.declared.role.Role.{Role}
use Rattle.edi_plan.specs.inner.Findings.{is_arc_at}
use Rattle.edi_plan.specs.inner.SideTable.{side_at}
use Rattle.edi_plan.proofs.link_findings.note_arcs.Given as goal

abbrev pub invariant-loop-target : goal.invariant-loop-target
invariant-loop-target l = record {
  long : length l.sides ≡ length l.initial.sides;
  each : (a : ℕ) (o : Role) → is_plain o ≡ false → is_some (side_at l.sides a o)
      ≡ (is_some (side_at l.initial.sides a o) || (same_role o l.role && list_any (is_arc_at a) (take l.target-index l.targets)));
}
