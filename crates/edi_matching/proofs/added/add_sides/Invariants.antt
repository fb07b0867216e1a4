use Rattle.std.proofs.Common.{cond}
use Rattle.edi_schema.specs.Roles.{exchanged}
use Rattle.edi_schema.specs.declared.role.Role.{Role}
use Rattle.edi_plan.specs.Sides.{Side}
use Rattle.edi_matching.specs.inner.Additions.{AddsPairs, AreAlike}
use Rattle.edi_matching.proofs.added.add_sides.Given as goal

abbrev pub invariant-loop-role : goal.invariant-loop-role
invariant-loop-role l =
    AddsPairs (λ i j. (role : Role) × Side l.first.plan.now l.arc role i × Side l.other l.target (cond l.is_turned (exchanged role) role) j × AreAlike l.first.plan.now l.other i j)
    l.initial.to l.initial.taken l.to l.taken
