-- Pictures of sheets.
use Rattle.std.specs.Prelude.{◌≡◌, ℕ, ◌+◌, List, ◌++◌, Option, Some, None, codes}
use Rattle.std.specs.List.{flat_map}
use Rattle.edi_record.specs.declared.record.Kind.TheVariants.{Pno, Par}
use Rattle.edi_schema.specs.Classes.{Classes}
use Rattle.edi_plan.specs.declared.extent.Extent.{Extent}
use Rattle.edi_picture.specs.Elements.{drawn_records}
use Rattle.edi_picture.specs.Faces.{faces_of}
use Rattle.edi_picture.specs.Frames.{IsBar, IsFrame, pixels, plan_height, side_length}
use Rattle.edi_picture.specs.Labels.{sheet_labels}
use Rattle.edi_picture.specs.Legends.{bar_text, far_text, head_text, inset_text, legend_height, legend_text, tail_text}
use Rattle.edi_picture.specs.Marks.{colour, filling, stroke_width}
use Rattle.edi_picture.specs.Sheets.{DrawnSheet}
use Rattle.edi_picture.specs.declared.mark.Ink.{Ink}
use Rattle.edi_picture.specs.declared.mark.Ink.TheVariants.{Grey, Old, New}

-- ---- the plan, in layers

abbrev pub group_end : List ℕ
group_end = codes "</g>\n"

-- the faces of all sheets
abbrev pub faces_text : Classes → Extent → List DrawnSheet → List ℕ
faces_text s f sheets = codes "<g fill='none' fill-rule='evenodd' fill-opacity='0.5' pointer-events='all'>\n"
    ++ flat_map (faces_of s f) sheets ++ group_end

-- lines of what was are dashed
abbrev pub dashes : Extent → Ink → List ℕ
dashes f Grey = codes "'>\n"
dashes f Old = codes "' stroke-dasharray='" ++ pixels f 6 ++ codes "'>\n"
dashes f New = codes "'>\n"

abbrev pub arcs_begin : Extent → Ink → List ℕ
arcs_begin f ink = codes "<g fill='none' stroke-linejoin='round' stroke='" ++ colour ink
    ++ codes "' stroke-width='" ++ pixels f (stroke_width ink)

-- the arcs of all sheets in an ink
abbrev pub arcs_text : Classes → Extent → List DrawnSheet → Ink → List ℕ
arcs_text s f sheets ink =
    arcs_begin f ink ++ dashes f ink ++ flat_map (drawn_records Par s f ink) sheets ++ group_end

abbrev pub nodes_begin : Ink → List ℕ
nodes_begin ink = codes "<g fill='" ++ filling ink ++ codes "' stroke='" ++ colour ink

abbrev pub rim_text : Extent → List ℕ
rim_text f = codes "' stroke-width='" ++ pixels f 1 ++ codes "'>\n"

-- the nodes of all sheets in an ink
abbrev pub nodes_text : Classes → Extent → List DrawnSheet → Ink → List ℕ
nodes_text s f sheets ink =
    nodes_begin ink ++ rim_text f ++ flat_map (drawn_records Pno s f ink) sheets ++ group_end

-- what both sheets have lies below what the second has, and that below what the first has, whose dashes and rings
-- don't cover it
abbrev pub all_arcs : Classes → Extent → List DrawnSheet → List ℕ
all_arcs s f sheets = arcs_text s f sheets Grey ++ arcs_text s f sheets New ++ arcs_text s f sheets Old

abbrev pub all_nodes : Classes → Extent → List DrawnSheet → List ℕ
all_nodes s f sheets = nodes_text s f sheets Grey ++ nodes_text s f sheets Old ++ nodes_text s f sheets New

abbrev pub layers : Classes → Extent → List DrawnSheet → List ℕ
layers s f sheets = faces_text s f sheets ++ all_arcs s f sheets ++ all_nodes s f sheets

-- the layers in an inner picture, so far below the top
abbrev pub plan_text : Classes → Extent → List DrawnSheet → ℕ → List ℕ
plan_text s f sheets top = inset_text f top ++ layers s f sheets ++ tail_text

-- what is written on the faces of all sheets
abbrev pub labels_text : Extent → List DrawnSheet → ℕ → List ℕ
labels_text f sheets top =
    codes "<g text-anchor='middle' font-size='12'>\n" ++ flat_map (sheet_labels f top) sheets ++ group_end

-- ---- the whole

-- how far below the top the plan begins, and where it ends
abbrev pub plan_top : List DrawnSheet → ℕ
plan_top sheets = legend_height sheets + 28

abbrev pub plan_bottom : List DrawnSheet → Extent → ℕ
plan_bottom sheets f = plan_top sheets + plan_height f

-- the bar, the plan with what is written on it, and the line of what is far off
abbrev pub drawn_text : Classes → List DrawnSheet → Extent → ℕ → List ℕ
drawn_text s sheets f bar = bar_text f (legend_height sheets + 10) bar ++ plan_text s f sheets (plan_top sheets)
    ++ labels_text f sheets (plan_top sheets) ++ far_text s f sheets (plan_bottom sheets f + 22)

-- the head of a page so high, and the legend
abbrev pub page_top : List DrawnSheet → ℕ → List ℕ
page_top sheets height = head_text height ++ legend_text sheets

-- a page: that alone where there is no frame; else, below it, what is drawn with the bar that fits the frame
abbrev pub IsPage : Classes → List DrawnSheet → Option Extent → List ℕ → Type 0
IsPage s sheets None text = text ≡ page_top sheets (legend_height sheets) ++ tail_text
IsPage s sheets (Some f) text = (bar : ℕ) × IsBar (side_length f.x) bar
    × (text ≡ page_top sheets (plan_bottom sheets f + 32) ++ drawn_text s sheets f bar ++ tail_text)

-- the picture of some sheets: the page with the frame that holds their points
pub record IsPicture (s : Classes) (sheets : List DrawnSheet) (text : List ℕ) : Type 0 where
  pub frame : Option Extent
  pub is_frame : IsFrame sheets frame
  pub is_page : IsPage s sheets frame text
