-- Two plans, what became of the records of the first so far, and by what names the records of both are known.
use Rattle.std.specs.Prelude.{ℕ, ◌+◌, Bool, false, true, not, List, [], ◌∷◌, ◌++◌, map, Option, None, Some, find, is_none, option_and_then, slice_get, slice_index_or, if◌then◌else◌}
use Rattle.edi_schema.specs.Roles.{exchanged, is_plain}
use Rattle.edi_schema.specs.declared.role.Role.{Role}
use Rattle.edi_schema.specs.declared.role.Role.TheVariants.{Initial, Final, Left, Right, Plain}
use Rattle.edi_plan.specs.Plans.{PlanData, is_arc, record_at}
use Rattle.edi_plan.specs.declared.record.PlanEnd.{PlanEnd}
use Rattle.edi_diff.specs.declared.changes.Changes.{Changes}
use Rattle.edi_diff.specs.declared.proposing.LinkClass.{LinkClass}
use Rattle.edi_diff.specs.declared.proposing.Open.{Open}
use Rattle.edi_diff.specs.declared.proposing.LinkClass.TheVariants.{OfKind, Plain as OfClass}
use Rattle.edi_diff.specs.inner.Codes.{code_at}

-- two plans, and where the records of the first went so far, which of its arcs are reversed, and which records of the
-- second were reached
pub record ChangesSoFar : Type 0 where
  pub plan : PlanData
  pub other : PlanData
  pub to : List (Option ℕ)
  pub turned : List Bool
  pub reached : List Bool

-- the same of two plans and of changes
abbrev pub progress_by : PlanData → PlanData → Changes → ChangesSoFar
progress_by plan other changes =
    record {
      plan = plan;
      other = other;
      to = changes.to.items;
      turned = changes.turned.items;
      reached = changes.reached.items;
    }

-- what the code has of it
abbrev pub progress_of : Open → ChangesSoFar
progress_of m = progress_by m.plan.now m.other.now m.changes.now

-- the first plan, or the second
abbrev pub plan_of : ChangesSoFar → Bool → PlanData
plan_of m of_second = if of_second then m.other else m.plan

-- the name of a record, if it is known: the place in the second sheet where it went, or its own if it is of that sheet
-- and was reached
abbrev pub known_name : ChangesSoFar → Bool → ℕ → Option ℕ
known_name m of_second place =
    if of_second
    then (if slice_index_or m.reached place false then Some place else None) else slice_index_or m.to place None

-- the first arc among the ends of a link
abbrev pub arc_of_ends : PlanData → List PlanEnd → Option ℕ
arc_of_ends p ends = find (λ place. is_arc (record_at p place).kind) (map (λ end. end.target) ends)

-- whether the arc of a link is reversed in the second sheet, if its name is known: an arc of that sheet is not
abbrev pub reversal_of : ChangesSoFar → Bool → PlanData → ℕ → Option Bool
reversal_of m of_second p place =
    option_and_then (λ arc. option_and_then (λ name. if of_second then Some false else slice_get m.turned arc)
    (known_name m of_second arc)) (arc_of_ends p (record_at p place).ends)

-- of two kinds that a reversal exchanges the first
abbrev pub first_of_pair : Role → Role
first_of_pair Initial = Initial
first_of_pair Final = Initial
first_of_pair Left = Left
first_of_pair Right = Left
first_of_pair Plain = Plain

-- a kind of link as it is where its arc may be reversed, or the first of the two that it may be
abbrev pub kind_there : Role → Option Bool → Role
kind_there role None = first_of_pair role
kind_there role (Some reversed) = if reversed then exchanged role else role

-- the class of a link, or its kind as the second sheet has it
abbrev pub link_class : ℕ → Role → Option Bool → LinkClass
link_class class role reversal = if is_plain role then OfClass class else OfKind (kind_there role reversal)

-- the class of the link at a place
abbrev pub link_class_at : ChangesSoFar → Bool → ℕ → LinkClass
link_class_at m of_second place =
    link_class (record_at (plan_of m of_second) place).class (record_at (plan_of m of_second) place).role
    (reversal_of m of_second (plan_of m of_second) place)

-- the places, from one on, of the values of a list that pass a test
abbrev pub places_where : {X : Type 0} → (X → Bool) → ℕ → List X → List ℕ
places_where test place [] = []
places_where test place (x ∷ xs) =
    if test x then place ∷ places_where test (place + 1) xs else places_where test (place + 1) xs

-- the records of the second sheet that weren't reached, by their codes
abbrev pub open_seconds : ChangesSoFar → List ℕ
open_seconds m = map (code_at true) (places_where not 0 m.reached)

-- the records that are still open: before those, the records of the first sheet that went nowhere
abbrev pub open_codes : ChangesSoFar → List ℕ
open_codes m = map (code_at false) (places_where is_none 0 m.to) ++ open_seconds m
