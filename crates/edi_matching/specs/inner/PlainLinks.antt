-- Links with two ends and nothing else.
use Rattle.std.specs.Prelude.{ℕ, ◌&&◌, Bool, List, [], ◌∷◌, Option, Some, None, if◌then◌else◌, is_none, option_and_then, option_map, slice_index_or}
use Rattle.edi_schema.specs.Classes.{Classes, partner_of}
use Rattle.edi_plan.specs.declared.record.PlanEnd.{PlanEnd}
use Rattle.edi_plan.specs.declared.record.PlanRecord.{PlanRecord}
use Rattle.edi_rank.specs.Labelling.{turned_at}
use Rattle.edi_rank.specs.Same.{class_after}
use Rattle.edi_rank.specs.inner.PlacedLinks.{is_empty}
use Rattle.edi_matching.specs.declared.plain_links.PlainLink.{PlainLink}

-- two ends without SNS, and no others
abbrev pub bare_pair : List PlanEnd → Option (PlanEnd × PlanEnd)
bare_pair [] = None
bare_pair (a ∷ []) = None
bare_pair (a ∷ b ∷ []) = if is_none a.sns && is_none b.sns then Some (a, b) else None
bare_pair (a ∷ b ∷ c ∷ ends) = None

-- the two ends of a record that has no others, no SNS, no attributes and no extra zones
abbrev pub plain_ends : PlanRecord → Option (PlanEnd × PlanEnd)
plain_ends r = if is_empty r.attributes && is_empty r.extras then bare_pair r.ends else None

-- a plain link by its class after the reversals and the places where its two ends go, if both go somewhere
abbrev pub plain_link : Classes → List (Option ℕ) → List Bool → PlanRecord → Option PlainLink
plain_link s to turned r =
    option_and_then (λ ends. option_and_then (λ i. option_map (λ j.
    record { class = class_after (partner_of s) (turned_at turned) r; origin = i; other = j })
    (slice_index_or to ends.1.target None)) (slice_index_or to ends.0.target None)) (plain_ends r)
