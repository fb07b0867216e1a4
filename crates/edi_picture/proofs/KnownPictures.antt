-- Known sheets have their pictures.
use Rattle.std.proofs.Common.{◌≡◌, ℕ, List, [], ◌∷◌, Bool, true, T, ℤ, pos, Some, None, Contains, refl, sym, subst, lit<, lit≤}
use Rattle.std.specs.Fmt.{digits}
use Rattle.std.specs.Int.Signed.{◌≤ℤ◌, le_z, le_z_yes}
use Rattle.std.specs.List.{list_all}
use Rattle.std.proofs.lemmas.List.Elements.{All-contains}
use Rattle.std.proofs.lemmas.List.Sums.{AllPass-from_list_all}
use Rattle.edi_line.specs.Number.{fraction_digits, size_text}
use Rattle.edi_schema.specs.Classes.{Classes}
use Rattle.edi_plan.specs.Extents.{IsExtent, IsSpan, all_x, all_y}
use Rattle.edi_plan.specs.declared.extent.Extent.{Extent}
use Rattle.edi_plan.specs.declared.extent.Span.{Span}
use Rattle.edi_picture.specs.Frames.{IsBar}
use Rattle.edi_picture.specs.KnownPictures.{IsOnlyPicture, blank_picture, blank_sheet, classes_of_nodes, faces_of_a, faces_of_b, nodes_of_a, nodes_of_b, picture_of_faces, picture_of_nodes, triangle_classes, triangle_picture, triangle_sheet}
use Rattle.edi_picture.specs.Known.{one_class}
use Rattle.edi_picture.specs.Pictures.{IsPicture}
use Rattle.edi_picture.specs.Sheets.{DrawnSheet, all_points, arc_points}
use Rattle.edi_picture.proofs.OnePicture.{one_picture}

-- a picture is the only one
pub only_picture : (s : Classes) (sheets : List DrawnSheet) (picture : List ℕ) → IsPicture s sheets picture → IsOnlyPicture s sheets picture
only_picture s sheets picture known text =
    (λ drawn. one_picture s sheets text picture drawn known, λ same. subst (IsPicture s sheets) (sym same) known)

-- a number that passes the test of an order is in that order
in_order : (a b : ℤ) → le_z a b ≡ true → a ≤ℤ b
in_order a b passed = le_z_yes (subst T (sym passed) tt)

-- the span of some numbers, by where its ends stand among them and the tests of all of them
spans : (numbers : List ℤ) (s : Span) → Contains numbers s.least → Contains numbers s.greatest
    → list_all (le_z s.least) numbers ≡ true → list_all (λ n. le_z n s.greatest) numbers ≡ true → IsSpan numbers s
spans numbers s least greatest above below = record {
  least = least;
  greatest = greatest;
  above = λ n there. in_order s.least n (passes (le_z s.least) above n there);
  below = λ n there. in_order n s.greatest (passes (λ m. le_z m s.greatest) below n there);
}
  where
    passes : (test : ℤ → Bool) → list_all test numbers ≡ true → (n : ℤ) → Contains numbers n → test n ≡ true
    passes test all n there = All-contains (λ m. test m ≡ true) numbers n (AllPass-from_list_all test numbers all) there

abbrev triangle_frame : Extent
triangle_frame = record {
  x = record { least = pos 1000000; greatest = pos 4000000 };
  y = record { least = pos 2000000; greatest = pos 6500000 };
}

frames_triangle : IsExtent (all_points (triangle_sheet ∷ [])) triangle_frame
frames_triangle = record {
  x = spans (all_x (all_points (triangle_sheet ∷ []))) triangle_frame.x (0, lit< tt, refl) (2, lit< tt, refl) refl refl;
  y = spans (all_y (all_points (triangle_sheet ∷ []))) triangle_frame.y (0, lit< tt, refl) (3, lit< tt, refl) refl refl;
}

arcs_of_triangle : IsExtent (arc_points (triangle_sheet ∷ [])) triangle_frame
arcs_of_triangle = record {
  x = spans (all_x (arc_points (triangle_sheet ∷ []))) triangle_frame.x (0, lit< tt, refl) (1, lit< tt, refl) refl refl;
  y = spans (all_y (arc_points (triangle_sheet ∷ []))) triangle_frame.y (0, lit< tt, refl) (2, lit< tt, refl) refl refl;
}

bar_of_one : IsBar 3000000 1000000
bar_of_one = record { power = 6; is_power = refl; fits = lit≤ tt; greatest = lit< tt }

pub triangle_is_drawn : IsPicture triangle_classes (triangle_sheet ∷ []) triangle_picture
unfolding size_text fraction_digits digits
triangle_is_drawn = record {
  frame = Some triangle_frame;
  is_frame = record { arcs = Some triangle_frame; are_arcs = arcs_of_triangle; is_frame = frames_triangle };
  is_page = (1000000, bar_of_one, refl);
}

abbrev frame_of_nodes : Extent
frame_of_nodes = record {
  x = record { least = pos 0; greatest = pos 20000000 };
  y = record { least = pos 0; greatest = pos 8000000 };
}

frames_nodes : IsExtent (all_points (nodes_of_a ∷ nodes_of_b ∷ [])) frame_of_nodes
frames_nodes = record {
  x = spans (all_x (all_points (nodes_of_a ∷ nodes_of_b ∷ []))) frame_of_nodes.x (0, lit< tt, refl) (2, lit< tt, refl) refl refl;
  y = spans (all_y (all_points (nodes_of_a ∷ nodes_of_b ∷ []))) frame_of_nodes.y (0, lit< tt, refl) (3, lit< tt, refl) refl refl;
}

bar_of_eight : IsBar 8000000 1000000
bar_of_eight = record { power = 6; is_power = refl; fits = lit≤ tt; greatest = lit< tt }

bar_of_ten : IsBar 20000000 10000000
bar_of_ten = record { power = 7; is_power = refl; fits = lit≤ tt; greatest = lit< tt }

pub nodes_are_drawn : IsPicture classes_of_nodes (nodes_of_a ∷ nodes_of_b ∷ []) picture_of_nodes
unfolding size_text fraction_digits digits
nodes_are_drawn = record {
  frame = Some frame_of_nodes;
  is_frame = record { arcs = None; are_arcs = refl; is_frame = frames_nodes };
  is_page = (10000000, bar_of_ten, refl);
}

-- the frame of two sheets with faces, and the extent of their arcs, in which all but the node that lies far off are
abbrev frame_of_faces : Extent
frame_of_faces = record {
  x = record { least = pos 0; greatest = pos 8000000 };
  y = record { least = pos 0; greatest = pos 4000000 };
}

abbrev sheets_of_faces : List DrawnSheet
sheets_of_faces = faces_of_a ∷ faces_of_b ∷ []

arcs_of_faces : IsExtent (arc_points sheets_of_faces) frame_of_faces
arcs_of_faces = record {
  x = spans (all_x (arc_points sheets_of_faces)) frame_of_faces.x (0, lit< tt, refl) (5, lit< tt, refl) refl refl;
  y = spans (all_y (arc_points sheets_of_faces)) frame_of_faces.y (0, lit< tt, refl) (8, lit< tt, refl) refl refl;
}

pub faces_are_drawn : IsPicture triangle_classes sheets_of_faces picture_of_faces
unfolding size_text fraction_digits digits
faces_are_drawn = record {
  frame = Some frame_of_faces;
  is_frame = record { arcs = Some frame_of_faces; are_arcs = arcs_of_faces; is_frame = arcs_of_faces };
  is_page = (1000000, bar_of_eight, refl);
}

pub page_is_drawn : IsPicture one_class (blank_sheet ∷ []) blank_picture
unfolding digits
page_is_drawn = record { frame = None; is_frame = record { arcs = None; are_arcs = refl; is_frame = refl }; is_page = refl }
