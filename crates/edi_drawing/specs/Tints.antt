-- Which records are tinted where two sheets are drawn.
use Rattle.std.specs.Prelude.{ℕ, ◌&&◌, ◌||◌, Bool, true, false, List, Option, Some, None, length, nat_lt, slice_index_or}
use Rattle.std.specs.List.{list_any}
use Rattle.edi_record.specs.declared.record.Kind.TheVariants.{Lnk}
use Rattle.edi_plan.specs.Places.{places_of}
use Rattle.edi_plan.specs.Plans.{PlanData, record_at}
use Rattle.edi_picture.specs.declared.mark.Mark.{Mark}
use Rattle.edi_picture.specs.declared.mark.Mark.TheVariants.{Plain, OnlyFirst, OnlySecond, Before, After, Hidden}
use Rattle.edi_drawing.specs.Labels.{names, names_few}
use Rattle.edi_drawing.specs.Marked.{SheetPairData, first_marks, twin_of, second_marks}

-- a record isn't in both sheets as it is
abbrev pub stands_out : Mark → Bool
stands_out Plain = false
stands_out OnlyFirst = true
stands_out OnlySecond = true
stands_out Before = true
stands_out After = true
stands_out Hidden = false

-- the same of the record at a place
abbrev pub is_out : List Mark → ℕ → Bool
is_out marks k = stands_out (slice_index_or marks k Hidden)

-- a link isn't in both sheets as it is, or something isn't that it names
abbrev pub links_out : List Mark → PlanData → ℕ → Bool
links_out marks p link = is_out marks link || list_any (λ e. is_out marks e.target) (record_at p link).ends

-- Such a link names the record at a place and few others: a link of a section, of whose parcels one is new, doesn't
-- touch the others.
abbrev pub touches : List Mark → PlanData → ℕ → ℕ → Bool
touches marks p k link = names p k link && (names_few p link && links_out marks p link)

abbrev pub is_touched : List Mark → PlanData → ℕ → Bool
is_touched marks p k = nat_lt k (length p.list) && list_any (touches marks p k) (places_of Lnk p)

-- the same of a record that another may be
abbrev pub is_touched_there : List Mark → PlanData → Option ℕ → Bool
is_touched_there marks q None = false
is_touched_there marks q (Some j) = is_touched marks q j

-- A record of the first sheet is tinted if only that has it; and if both have it as it is, and it is touched in one.
-- Where it became another the one that it became is tinted.
abbrev pub tint_by : Mark → Bool → Bool
tint_by Plain touched = touched
tint_by OnlyFirst touched = true
tint_by OnlySecond touched = false
tint_by Before touched = false
tint_by After touched = false
tint_by Hidden touched = false

abbrev pub first_tint : SheetPairData → ℕ → Bool
first_tint c i = tint_by (slice_index_or (first_marks c) i Hidden)
    (is_touched (first_marks c) c.first.accepted i || is_touched_there (second_marks c) c.second.accepted (twin_of c i))
