use Rattle.std.proofs.Common.{◌≡◌, ◌++◌, List, length}
use Rattle.edi_report.specs.declared.site.Site.{Site}
use Rattle.edi_report.specs.inner.Packing.{ArePacked}
use Rattle.edi_report.specs.inner.PackedSites.{IsPackingOf, site_in}
use Rattle.edi_report.proofs.packed.Packing.unpack.Given as goal

abbrev pub invariant-loop-rest : goal.invariant-loop-rest
invariant-loop-rest l = (sites : List Site) → IsPackingOf l.fn.self sites → (left : List Site) × (sites ≡ l.list.items ++ left) × ArePacked (site_in l.last) left l.rest

abbrev pub decreases-loop-rest : goal.decreases-loop-rest
decreases-loop-rest l = length l.rest
