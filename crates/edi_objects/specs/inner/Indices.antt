-- How the index of a plan is made.
use Rattle.std.specs.Prelude.{ℕ, List}
use Rattle.std.specs.List.{flat_map}
use Rattle.edi_record.specs.declared.record.Kind.TheVariants.{Lnk}
use Rattle.edi_plan.specs.Places.{places_of}
use Rattle.edi_plan.specs.Plans.{PlanData}
use Rattle.edi_objects.specs.LinksOf.{named_by}

-- what all links name, in file order
abbrev pub all_named : PlanData → List (ℕ × ℕ)
all_named p = flat_map (named_by p) (places_of Lnk p)
