-- The places of the records of one type.
use Rattle.std.specs.Prelude.{◌≡◌, ℕ, List, map}
use Rattle.edi_record.specs.declared.record.Kind.{Kind}
use Rattle.edi_record.specs.declared.record.Kind.TheVariants.{Pno, Par, Pfe, Fea, Lnk}
use Rattle.edi_plan.specs.declared.places.Places.{Places}
use Rattle.edi_plan.specs.declared.record.PlanRecord.{PlanRecord}
use Rattle.edi_plan.specs.Places.{places_from}

-- what a table has for a type
abbrev pub places_listed : Places → Kind → List ℕ
places_listed table Pno = table.nodes.items
places_listed table Par = table.arcs.items
places_listed table Pfe = table.faces.items
places_listed table Fea = table.objects.items
places_listed table Lnk = table.links.items

-- the table has the type of each record, and the places of the records of each type
abbrev pub ArePlacesOf : List PlanRecord → Places → Type 0
ArePlacesOf list table =
    (table.kinds.items ≡ map (λ r. r.kind) list) × ((kind : Kind) → places_listed table kind ≡ places_from kind 0 list)
