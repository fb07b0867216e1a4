use Rattle.std.proofs.Common.{[], ◌∷◌, lit<}
use Rattle.edi_picture.specs.Known.{one_class}
use Rattle.edi_picture.specs.KnownPictures.{blank_picture, blank_sheet, classes_of_nodes, faces_of_a, faces_of_b, nodes_of_a, nodes_of_b, picture_of_faces, picture_of_nodes, triangle_classes, triangle_picture, triangle_sheet}
use Rattle.edi_picture.proofs.KnownPictures.{faces_are_drawn, nodes_are_drawn, only_picture, page_is_drawn, triangle_is_drawn}
use Rattle.edi_picture.proofs.known.known_pictures_are_drawn.Goals as goal

pub returns-clause-triangle : goal.returns-clause-triangle
returns-clause-triangle c = only_picture triangle_classes (triangle_sheet ∷ []) triangle_picture triangle_is_drawn

pub returns-clause-nodes : goal.returns-clause-nodes
returns-clause-nodes c = only_picture classes_of_nodes (nodes_of_a ∷ nodes_of_b ∷ []) picture_of_nodes nodes_are_drawn

pub returns-clause-faces : goal.returns-clause-faces
returns-clause-faces c = only_picture triangle_classes (faces_of_a ∷ faces_of_b ∷ []) picture_of_faces faces_are_drawn

pub returns-clause-blank : goal.returns-clause-blank
returns-clause-blank c = only_picture one_class (blank_sheet ∷ []) blank_picture page_is_drawn

pub returns-clause-triangle_has_classes : goal.returns-clause-triangle_has_classes
returns-clause-triangle_has_classes c =
    ((lit< tt, (lit< tt, (lit< tt, (lit< tt, (lit< tt, (lit< tt, tt)))))), tt)

pub returns-clause-nodes_have_classes : goal.returns-clause-nodes_have_classes
returns-clause-nodes_have_classes c =
    ((lit< tt, (lit< tt, (lit< tt, tt))), ((lit< tt, (lit< tt, (lit< tt, (lit< tt, tt)))), tt))

pub returns-clause-faces_have_classes : goal.returns-clause-faces_have_classes
returns-clause-faces_have_classes c =
    ((lit< tt, (lit< tt, (lit< tt, (lit< tt, (lit< tt, (lit< tt, (lit< tt, tt))))))), ((lit< tt, tt), tt))
