-- The places of the records of one type.
use Rattle.std.specs.Prelude.{ℕ, ◌+◌, List, [], ◌∷◌, take, count_by, if◌then◌else◌}
use Rattle.edi_record.specs.declared.record.Kind.{Kind}
use Rattle.edi_plan.specs.Plans.{PlanData, record_at, same_kind}
use Rattle.edi_plan.specs.declared.record.PlanRecord.{PlanRecord}

-- the places of the records of a kind, in file order
abbrev pub places_from : Kind → ℕ → List PlanRecord → List ℕ
places_from kind place [] = []
places_from kind place (r ∷ rs) =
    if same_kind kind r.kind then place ∷ places_from kind (place + 1) rs else places_from kind (place + 1) rs

abbrev pub places_of : Kind → PlanData → List ℕ
places_of kind p = places_from kind 0 p.list

-- the member that a record is among those of its kind
abbrev pub member_of : PlanData → ℕ → ℕ
member_of p place = count_by (λ r. same_kind (record_at p place).kind r.kind) (take place p.list)
