use Rattle.std.proofs.Common.{◌≡◌, ◌++◌, map, take}
use Rattle.std.specs.Prelude.{flat_map}
use Rattle.edi_line.specs.Printing.{printed}
use Rattle.edi_write.specs.inner.ClassLines.{IsLineOfItsClass}
use Rattle.edi_write.specs.inner.Numbered.{numbered_zones}
use Rattle.edi_write.proofs.labelled_plan.LabelledPlan.write_opened.Given as goal

abbrev pub invariant-loop-opening : goal.invariant-loop-opening
invariant-loop-opening l = record {
  line : IsLineOfItsClass l.self.classes l.line;
  written : l.page.file.items ≡ l.fn.page.file.items ++ printed (flat_map (numbered_zones l.self.classes l.self.labels l.self.plan) (map (λ o. o.place) (take l.opening-index l.openings)));
}
