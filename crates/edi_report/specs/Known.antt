-- A known report.
use Rattle.std.specs.Prelude.{ℕ, pos, true, List, [], ◌∷◌, Some, None, codes}
use Rattle.edi_record.specs.declared.record.Kind.TheVariants.{Pno}
use Rattle.edi_schema.specs.declared.role.Role.TheVariants.{Plain}
use Rattle.edi_plan.specs.declared.record.PlanRecord.{PlanRecord}
use Rattle.edi_report.specs.Reports.{Report, no_parts}
use Rattle.edi_report.specs.declared.sheet.LocatedSheet.{LocatedSheet}
use Rattle.edi_report.specs.declared.site.Site.{Site}

-- a node at this x, in millionths
abbrev pub node : ℕ → PlanRecord
node x = record {
  kind = Pno;
  class = 0;
  role = Plain;
  points = (record { x = pos x; y = pos 0; z = None }) ∷ [];
  attributes = [];
  extras = [];
  ends = [];
}

-- a sheet of two nodes, at these, with these sites
abbrev pub sheet_of_two : ℕ → ℕ → Site → Site → LocatedSheet
sheet_of_two x x' first second = record {
  accepted = record { cse = None; list = node x ∷ node x' ∷ [] };
  sites = first ∷ second ∷ [];
}

abbrev pub site : ℕ → List ℕ → Site
site line rid = record { line = line; rid = rid }

-- The first node of A is gone, the second became the first of B at another position, and the second of B is new.
abbrev pub known_report : Report
known_report = record {
  first = sheet_of_two 0 1000000 (site 2 (codes "N1")) (site 6 (codes "N2"));
  second = sheet_of_two 2000000 3000000 (site 4 (codes "M1")) (site 8 (codes "M2"));
  unchanged = None ∷ None ∷ [];
  became = None ∷ Some 0 ∷ [];
  parts = no_parts ∷ record no_parts { points = true } ∷ [];
}
