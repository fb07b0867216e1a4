use Rattle.std.proofs.Common.{◌≡◌, ◌≤◌, ◌++◌, length}
use Rattle.std.specs.Prelude.{flat_map}
use Rattle.std.specs.List.{AllByRecursion}
use Rattle.edi_line.specs.Printing.{printed}
use Rattle.edi_plan.specs.Plans.{IsPlace}
use Rattle.edi_write.specs.inner.SharedFronts.{all_written}
use Rattle.edi_write.specs.inner.ClassLines.{IsLineOfItsClass}
use Rattle.edi_write.specs.inner.Numbered.{numbered_zones}
use Rattle.edi_write.proofs.labelled_plan.LabelledPlan.write_places.Given as goal

abbrev pub invariant-loop-rest : goal.invariant-loop-rest
invariant-loop-rest l = record {
  line : IsLineOfItsClass l.self.classes l.line;
  there : AllByRecursion (IsPlace l.self.plan) l.rest;
  other : l.file.other.now ≡ l.fn.file.other.now;
  within : l.file.front ≤ length l.file.other.now;
  written : all_written l.file ++ printed (flat_map (numbered_zones l.self.classes l.self.labels l.self.plan) l.rest)
      ≡ all_written l.fn.file ++ printed (flat_map (numbered_zones l.self.classes l.self.labels l.self.plan) l.places);
}

abbrev pub decreases-loop-rest : goal.decreases-loop-rest
decreases-loop-rest l = length l.rest
