-- Sheets have one picture.
use Rattle.std.proofs.Common.{◌≡◌, ◌⊎◌, inl, inr, ℕ, ◌+◌, ◌*◌, ◌^◌, ◌<◌, ◌≤◌, List, [], ◌++◌, filter, Option, Some, None, ℤ, Contains, refl, sym, ap, ◌∙◌, subst, arith, lit<}
use Rattle.std.proofs.Math.Nat.{pow-le-pow_right}
use Rattle.std.proofs.lemmas.Bool.{cases_lt}
use Rattle.std.proofs.lemmas.Grind.{pow_more}
use Rattle.std.proofs.lemmas.Int.{ints}
use Rattle.edi_record.specs.declared.record.Point.{Point}
use Rattle.edi_schema.specs.Classes.{Classes}
use Rattle.edi_plan.specs.Extents.{IsExtent, IsExtentIfAny, IsSpan, all_x, all_y}
use Rattle.edi_plan.specs.declared.extent.Extent.{Extent}
use Rattle.edi_plan.specs.declared.extent.Span.{Span}
use Rattle.edi_picture.specs.Frames.{IsBar, IsFrame, is_near, side_length}
use Rattle.edi_picture.specs.Legends.{tail_text}
use Rattle.edi_picture.specs.Pictures.{IsPage, IsPicture, drawn_text, page_top, plan_bottom}
use Rattle.edi_picture.specs.Sheets.{DrawnSheet, all_points, arc_points}

-- ---- one frame

abbrev span_of : ℤ → ℤ → Span
span_of a b = record { least = a; greatest = b }

span_by_ends : (a b c d : ℤ) → a ≡ c → b ≡ d → span_of a b ≡ span_of c d
span_by_ends a b c d one two = cc

abbrev extent_of : Span → Span → Extent
extent_of x y = record { x = x; y = y }

extent_by_spans : (a b c d : Span) → a ≡ c → b ≡ d → extent_of a b ≡ extent_of c d
extent_by_spans a b c d one two = cc

-- the least of some numbers is one number, and so is the greatest
one_span : (numbers : List ℤ) (s t : Span) → IsSpan numbers s → IsSpan numbers t → s ≡ t
one_span numbers s t h k = span_by_ends s.least s.greatest t.least t.greatest
    (let up = h.above t.least k.least in let down = k.above s.least h.least in omega (arith, ints))
    (let up = h.below t.greatest k.greatest in let down = k.below s.greatest h.greatest in omega (arith, ints))

one_extent : (points : List Point) (e f : Extent) → IsExtent points e → IsExtent points f → e ≡ f
one_extent points e f h k =
    extent_by_spans e.x e.y f.x f.y (one_span (all_x points) e.x f.x h.x k.x) (one_span (all_y points) e.y f.y h.y k.y)

-- where there are no points, there is no extent
no_extent : (points : List Point) (e : Extent) → points ≡ [] → IsExtent points e → ⊥
no_extent points e none h = of_none (subst (λ (some : List Point). Contains (all_x some) e.x.least) none h.x.least)
  where
    of_none : Contains (all_x []) e.x.least → ⊥
    of_none (k, less, is) = omega arith

one_frame : (points : List Point) (a b : Option Extent) → IsExtentIfAny points a → IsExtentIfAny points b → a ≡ b
one_frame points None None h k = refl
one_frame points None (Some f) h k = absurd (no_extent points f h k)
one_frame points (Some e) None h k = absurd (no_extent points e k h)
one_frame points (Some e) (Some f) h k = ap Some (one_extent points e f h k)

-- ---- one bar

-- a power of ten that is less than ten times another has no greater exponent
no_greater : (p q : ℕ) → 10 ^ p < 10 * 10 ^ q → p < q + 1
no_greater p q less = within (cases_lt p (q + 1))
  where
    within : (p < q + 1) ⊎ (q + 1 ≤ p) → p < q + 1
    within (inl below) = below
    within (inr more) =
        let powers : 10 ^ (q + 1) ≤ 10 ^ p = pow-le-pow_right (lit< tt) more in
        let step : 10 ^ (q + 1) ≡ 10 ^ q * 10 = pow_more 10 q in
        absurd (omega arith)

one_bar : (width a b : ℕ) → IsBar width a → IsBar width b → a ≡ b
one_bar width a b h k =
    let below : h.power < k.power + 1 = no_greater h.power k.power (omega arith) in
    let above : k.power < h.power + 1 = no_greater k.power h.power (omega arith) in
    let same : h.power ≡ k.power = omega arith in
    h.is_power ∙ ap (λ (p : ℕ). 10 ^ p) same ∙ sym k.is_power

-- ---- one text

one_page : (s : Classes) (sheets : List DrawnSheet) (frame : Option Extent) (a b : List ℕ) → IsPage s sheets frame a → IsPage s sheets frame b → a ≡ b
one_page s sheets None a b h k = h ∙ sym k
one_page s sheets (Some f) a b (bar, is_bar, is) (bar', is_bar', is') =
    is ∙ ap (λ (n : ℕ). page_top sheets (plan_bottom sheets f + 32) ++ drawn_text s sheets f n ++ tail_text) (one_bar (side_length f.x) bar bar' is_bar is_bar') ∙ sym is'

-- the frame is one, since the extent of the arcs is
one_frame_of : (sheets : List DrawnSheet) (a b : Option Extent) → IsFrame sheets a → IsFrame sheets b → a ≡ b
one_frame_of sheets a b h k =
    let arcs : h.arcs ≡ k.arcs = one_frame (arc_points sheets) h.arcs k.arcs h.are_arcs k.are_arcs in
    let near = subst (λ (e : Option Extent). IsExtentIfAny (filter (is_near e) (all_points sheets)) a) arcs h.is_frame in
    one_frame (filter (is_near k.arcs) (all_points sheets)) a b near k.is_frame

pub one_picture : (s : Classes) (sheets : List DrawnSheet) (text other : List ℕ) → IsPicture s sheets text → IsPicture s sheets other → text ≡ other
one_picture s sheets text other h k =
    let same : h.frame ≡ k.frame = one_frame_of sheets h.frame k.frame h.is_frame k.is_frame in
    one_page s sheets k.frame text other (subst (λ (frame : Option Extent). IsPage s sheets frame text) same h.is_page) k.is_page
