-- What stands round the plan.
use Rattle.std.specs.Prelude.{ℕ, ◌+◌, ◌&&◌, Bool, not, List, [], ◌∷◌, ◌++◌, count_by, codes, decimal, filter}
use Rattle.std.specs.List.{flat_map, list_any}
use Rattle.edi_line.specs.Number.{size_text}
use Rattle.edi_record.specs.declared.record.Kind.TheVariants.{Pno}
use Rattle.edi_schema.specs.Classes.{Classes}
use Rattle.edi_plan.specs.Places.{places_of}
use Rattle.edi_plan.specs.Plans.{record_at}
use Rattle.edi_plan.specs.declared.extent.Extent.{Extent}
use Rattle.edi_picture.specs.Frames.{is_outside, pixels, plan_height, side_length}
use Rattle.edi_picture.specs.Marks.{colour, same_mark}
use Rattle.edi_picture.specs.declared.mark.Mark.TheVariants.{OnlyFirst, OnlySecond, Before, Hidden}
use Rattle.edi_picture.specs.Sheets.{DrawnSheet, mark_at}
use Rattle.edi_picture.specs.Titles.{file_name_text, record_title}
use Rattle.edi_picture.specs.declared.mark.Ink.{Ink}
use Rattle.edi_picture.specs.declared.mark.Ink.TheVariants.{Grey, Old, New}

-- ---- the page

abbrev pub head_text : ℕ → List ℕ
head_text height =
    codes "<svg xmlns='http://www.w3.org/2000/svg' font-family='sans-serif' font-size='14' viewBox='0 0 1000 "
    ++ decimal height ++ codes "'>\n<rect width='1000' height='" ++ decimal height ++ codes "' fill='white'/>\n"

abbrev pub tail_text : List ℕ
tail_text = codes "</svg>\n"

-- words, so far below the top
abbrev pub words_at : ℕ → List ℕ → List ℕ
words_at y words = codes "' y='" ++ decimal y ++ codes "'>" ++ words ++ codes "</text>\n"

-- ---- the legend

-- a line in an ink, so far below the top
abbrev pub sample_end : Ink → List ℕ
sample_end Grey = codes "'/>\n"
sample_end Old = codes "' stroke-dasharray='6'/>\n"
sample_end New = codes "'/>\n"

abbrev pub sample_place : ℕ → List ℕ
sample_place y = codes "<path fill='none' stroke-width='2' d='M20," ++ decimal y ++ codes "h30' stroke='"

abbrev pub sample : ℕ → Ink → List ℕ
sample y ink = sample_place y ++ colour ink ++ sample_end ink

-- that, and words behind it
abbrev pub legend_row : ℕ → Ink → List ℕ → List ℕ
legend_row y ink words = sample y ink ++ codes "<text x='60" ++ words_at (y + 5) words

-- a sheet by a letter and the name of its file, and how many of its records the other sheet hasn't
abbrev pub sheet_words : List ℕ → DrawnSheet → ℕ → List ℕ
sheet_words letter sheet count =
    letter ++ file_name_text sheet.name ++ codes ", records only here: " ++ decimal count

abbrev pub first_words : DrawnSheet → List ℕ
first_words sheet = sheet_words (codes "A: ") sheet (count_by (same_mark OnlyFirst) sheet.marks)

abbrev pub second_words : DrawnSheet → List ℕ
second_words sheet = sheet_words (codes "B: ") sheet (count_by (same_mark OnlySecond) sheet.marks)

abbrev pub changed_words : DrawnSheet → List ℕ
changed_words sheet =
    codes "records changed: " ++ decimal (count_by (same_mark Before) sheet.marks) ++ codes "; grey: the same in both"

-- a patch of the tint, and what it says
abbrev pub tint_row : List ℕ
tint_row = codes "<rect x='20' y='73' width='30' height='14' fill='#F0E442' fill-opacity='0.5'/>\n"
    ++ codes "<text x='60' y='85'>an outline, an object or a link changed</text>\n"

abbrev pub legend_of_two : DrawnSheet → DrawnSheet → List ℕ
legend_of_two first second =
    legend_row 20 Old (first_words first) ++ legend_row 40 New (second_words second)
    ++ legend_row 60 Grey (changed_words first) ++ tint_row

-- the name of the file of a sheet that is drawn alone; and where there are two, what the inks say
abbrev pub legend_text : List DrawnSheet → List ℕ
legend_text [] = []
legend_text (sheet ∷ []) = codes "<text x='20" ++ words_at 25 (file_name_text sheet.name)
legend_text (first ∷ second ∷ sheets) = legend_of_two first second

-- how far below the top the legend ends
abbrev pub legend_height : List DrawnSheet → ℕ
legend_height [] = 40
legend_height (sheet ∷ []) = 40
legend_height (first ∷ second ∷ sheets) = 100

-- ---- the scale

-- the width and the height of the frame, in units of the file
abbrev pub sides_text : Extent → List ℕ
sides_text f = size_text (side_length f.x) ++ codes " " ++ size_text (side_length f.y) ++ codes "'>\n"

-- how high an inner picture of the plan is on the page
abbrev pub inset_height : Extent → List ℕ
inset_height f = codes "' width='960' height='" ++ decimal (plan_height f)
    ++ codes "' overflow='visible' preserveAspectRatio='xMinYMin' viewBox='0 0 "

-- an inner picture of the size of the frame, so far below the top
abbrev pub inset_text : Extent → ℕ → List ℕ
inset_text f top = codes "<svg x='20' y='" ++ decimal top ++ inset_height f ++ sides_text f

-- a line of this length
abbrev pub bar_line : Extent → ℕ → List ℕ
bar_line f bar = codes "<path fill='none' stroke='black' stroke-width='" ++ pixels f 3 ++ codes "' d='M0,0h"
    ++ size_text bar

-- an arrow to the north
abbrev pub north_text : List ℕ
north_text = codes "<path fill='none' stroke='black' stroke-width='2' d='M970,30v-22m-5,8l5,-8l5,8'/>\n"
    ++ codes "<text x='965' y='46'>N</text>\n"

-- how many units the bar is long, in words
abbrev pub bar_words : ℕ → ℕ → List ℕ
bar_words top bar = codes "<text x='20' y='" ++ decimal top ++ codes "'>" ++ size_text bar ++ codes " unit(s)</text>\n"

-- the bar below words that stand so far below the top
abbrev pub bar_below : Extent → ℕ → ℕ → List ℕ
bar_below f top bar = bar_words top bar ++ inset_text f (top + 8) ++ bar_line f bar ++ codes "'/>\n</svg>\n"

abbrev pub bar_text : Extent → ℕ → ℕ → List ℕ
bar_text f top bar = north_text ++ bar_below f top bar

-- ---- what isn't drawn

-- a node whose mark doesn't hide it lies outside of the frame
abbrev pub is_far : Extent → DrawnSheet → ℕ → Bool
is_far f sheet k =
    not (same_mark Hidden (mark_at sheet k)) && list_any (is_outside f) (record_at sheet.plan k).points

-- the names of those nodes of a sheet
abbrev pub far_name : Classes → DrawnSheet → ℕ → List ℕ
far_name s sheet k = codes " " ++ record_title s sheet k ++ codes ";"

abbrev pub far_names : Classes → Extent → DrawnSheet → List ℕ
far_names s f sheet = flat_map (far_name s sheet) (filter (is_far f sheet) (places_of Pno sheet.plan))

-- a line that names some, if there are any
abbrev pub far_line : ℕ → List ℕ → List ℕ
far_line y [] = []
far_line y (c ∷ names) = codes "<text x='20" ++ words_at y (codes "far off:" ++ (c ∷ names))

-- the line of the nodes of all sheets that are far off
abbrev pub far_text : Classes → Extent → List DrawnSheet → ℕ → List ℕ
far_text s f sheets y = far_line y (flat_map (far_names s f) sheets)
