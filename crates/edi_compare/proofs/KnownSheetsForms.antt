-- The canonical files of the known sheets of an arc between two nodes.
use Rattle.std.proofs.Common.{◌≡◌, refl, true, false, [], ◌∷◌, lit≤}
use Rattle.std.specs.Fmt.{digits}
use Rattle.edi_line.specs.Number.{fraction_digits, size_text}
use Rattle.edi_line.specs.inner.Number.{whole_number, fraction_number}
use Rattle.edi_line.specs.Printing.{printed_zone, broken_into, content_text, line_text, next_zone}
use Rattle.edi_record.specs.Texts.{pointer_text, point_text}
use Rattle.edi_rank.specs.Arranged.{arranged}
use Rattle.edi_rank.specs.Labelling.{Labelling, AreLabels}
use Rattle.edi_write.specs.Layout.{layout}
use Rattle.edi_compare.specs.Headline.{IsFormOf}
use Rattle.edi_compare.specs.Verdicts.{IsVerdict, IsFirstDifference}
use Rattle.edi_compare.specs.declared.pairing.Verdict.TheVariants.{Same, Different}
use Rattle.edi_compare.proofs.Differing.{first_difference}
use Rattle.edi_compare.proofs.KnownSheetsPaired.{arc_paired}
use Rattle.edi_compare.specs.Known.{arc_classes, arc_pairing, turned_arc_sheet, turned_arc_plan, turned_arc_file, reversed_arc_sheet, reversed_arc_plan, exchanged_sheet, exchanged_plan, exchanged_file}
use Rattle.edi_compare.proofs.Forms.{canonical_file}
use Rattle.edi_compare.proofs.KnownSheetsTests.{bytes_of}
use Rattle.edi_compare.proofs.KnownSheetsAccepted.{arc_accepted, exchanged_accepted, reversed_accepted}
use Rattle.edi_compare.proofs.KnownSheetsLabelled.{labels_as}
use Rattle.edi_compare.proofs.KnownSheetsSchema.{arc_schema}
use Rattle.edi_compare.proofs.KnownSheetsStated.{arc_states, reversed_states, exchanged_states, not_same}

abbrev arc_labels : Labelling
arc_labels = record {
  numbers = 2 ∷ 1 ∷ 1 ∷ 2 ∷ 1 ∷ 1 ∷ 2 ∷ 4 ∷ 1 ∷ 3 ∷ 6 ∷ 5 ∷ [];
  turned = false ∷ false ∷ true ∷ false ∷ false ∷ false ∷ false ∷ false ∷ false ∷ false ∷ false ∷ false ∷ [];
  others = [] ∷ [] ∷ [] ∷ [] ∷ [] ∷ [] ∷ [] ∷ [] ∷ [] ∷ [] ∷ [] ∷ [] ∷ [];
  nodes = 1 ∷ 0 ∷ [];
  arcs = 2 ∷ [];
  faces = 4 ∷ 3 ∷ [];
  objects = 5 ∷ [];
  links = 8 ∷ 6 ∷ 9 ∷ 7 ∷ 11 ∷ 10 ∷ [];
}

arc_labelled : AreLabels arc_classes turned_arc_plan arc_labels
arc_labelled = labels_as arc_classes turned_arc_plan arc_labels (record {
  all_numbered = refl;
  all_directed = refl;
  all_ordered = refl;
  turned = refl;
  from_one = refl;
  to_count = refl;
  node_places = refl;
  arc_places = refl;
  face_places = refl;
  object_places = refl;
  link_places = refl;
  nodes = refl;
  arcs = refl;
  faces = refl;
  objects = refl;
  links = refl;
  others = refl;
})

arc_laid_out : turned_arc_file ≡ layout arc_classes (arranged arc_classes arc_labels turned_arc_plan)
unfolding layout printed_zone broken_into content_text line_text next_zone pointer_text point_text digits fraction_digits size_text whole_number fraction_number Rattle.edi_line.specs.inner.Number.number
arc_laid_out = refl

pub arc_form : IsFormOf arc_classes turned_arc_sheet turned_arc_file
arc_form =
    canonical_file arc_classes turned_arc_sheet turned_arc_file arc_schema (lit≤ tt) (bytes_of turned_arc_file refl)
    (record { plan = turned_arc_plan; labels = arc_labels; accepted = arc_accepted; states = arc_states; are_labels = arc_labelled; laid_out = arc_laid_out })

-- of the other presentation it is the same file

abbrev reversed_labels : Labelling
reversed_labels = record {
  numbers = 5 ∷ 6 ∷ 1 ∷ 3 ∷ 1 ∷ 4 ∷ 2 ∷ 2 ∷ 1 ∷ 1 ∷ 1 ∷ 2 ∷ [];
  turned = false ∷ false ∷ false ∷ false ∷ false ∷ false ∷ false ∷ false ∷ false ∷ false ∷ false ∷ false ∷ [];
  others = [] ∷ [] ∷ [] ∷ [] ∷ [] ∷ [] ∷ [] ∷ [] ∷ [] ∷ [] ∷ [] ∷ [] ∷ [];
  nodes = 10 ∷ 11 ∷ [];
  arcs = 9 ∷ [];
  faces = 8 ∷ 7 ∷ [];
  objects = 2 ∷ [];
  links = 4 ∷ 6 ∷ 3 ∷ 5 ∷ 0 ∷ 1 ∷ [];
}

reversed_labelled : AreLabels arc_classes reversed_arc_plan reversed_labels
reversed_labelled = labels_as arc_classes reversed_arc_plan reversed_labels (record {
  all_numbered = refl;
  all_directed = refl;
  all_ordered = refl;
  turned = refl;
  from_one = refl;
  to_count = refl;
  node_places = refl;
  arc_places = refl;
  face_places = refl;
  object_places = refl;
  link_places = refl;
  nodes = refl;
  arcs = refl;
  faces = refl;
  objects = refl;
  links = refl;
  others = refl;
})

reversed_laid_out : turned_arc_file ≡ layout arc_classes (arranged arc_classes reversed_labels reversed_arc_plan)
unfolding layout printed_zone broken_into content_text line_text next_zone pointer_text point_text digits fraction_digits size_text whole_number fraction_number Rattle.edi_line.specs.inner.Number.number
reversed_laid_out = refl

pub reversed_form : IsFormOf arc_classes reversed_arc_sheet turned_arc_file
reversed_form =
    canonical_file arc_classes reversed_arc_sheet turned_arc_file arc_schema (lit≤ tt) (bytes_of turned_arc_file refl)
    (record { plan = reversed_arc_plan; labels = reversed_labels; accepted = reversed_accepted; states = reversed_states; are_labels = reversed_labelled; laid_out = reversed_laid_out })

-- with the sides exchanged it is another

abbrev exchanged_labels : Labelling
exchanged_labels = record {
  numbers = 2 ∷ 1 ∷ 1 ∷ 1 ∷ 2 ∷ 1 ∷ 2 ∷ 4 ∷ 3 ∷ 1 ∷ 6 ∷ 5 ∷ [];
  turned = false ∷ false ∷ true ∷ false ∷ false ∷ false ∷ false ∷ false ∷ false ∷ false ∷ false ∷ false ∷ [];
  others = [] ∷ [] ∷ [] ∷ [] ∷ [] ∷ [] ∷ [] ∷ [] ∷ [] ∷ [] ∷ [] ∷ [] ∷ [];
  nodes = 1 ∷ 0 ∷ [];
  arcs = 2 ∷ [];
  faces = 3 ∷ 4 ∷ [];
  objects = 5 ∷ [];
  links = 9 ∷ 6 ∷ 8 ∷ 7 ∷ 11 ∷ 10 ∷ [];
}

exchanged_labelled : AreLabels arc_classes exchanged_plan exchanged_labels
exchanged_labelled = labels_as arc_classes exchanged_plan exchanged_labels (record {
  all_numbered = refl;
  all_directed = refl;
  all_ordered = refl;
  turned = refl;
  from_one = refl;
  to_count = refl;
  node_places = refl;
  arc_places = refl;
  face_places = refl;
  object_places = refl;
  link_places = refl;
  nodes = refl;
  arcs = refl;
  faces = refl;
  objects = refl;
  links = refl;
  others = refl;
})

exchanged_laid_out : exchanged_file ≡ layout arc_classes (arranged arc_classes exchanged_labels exchanged_plan)
unfolding layout printed_zone broken_into content_text line_text next_zone pointer_text point_text digits fraction_digits size_text whole_number fraction_number Rattle.edi_line.specs.inner.Number.number
exchanged_laid_out = refl

pub exchanged_form : IsFormOf arc_classes exchanged_sheet exchanged_file
exchanged_form =
    canonical_file arc_classes exchanged_sheet exchanged_file arc_schema (lit≤ tt) (bytes_of exchanged_file refl)
    (record { plan = exchanged_plan; labels = exchanged_labels; accepted = exchanged_accepted; states = exchanged_states; are_labels = exchanged_labelled; laid_out = exchanged_laid_out })

-- ---- the verdicts

pub same_verdict : IsVerdict arc_classes turned_arc_sheet reversed_arc_sheet (Same arc_pairing)
same_verdict = (turned_arc_plan, reversed_arc_plan, arc_states, reversed_states, arc_paired)

files_differ : IsFirstDifference turned_arc_file exchanged_file 63
files_differ = first_difference turned_arc_file exchanged_file 63 refl

pub different_verdict : IsVerdict arc_classes turned_arc_sheet exchanged_sheet (Different 63)
different_verdict = (not_same, (turned_arc_file, exchanged_file, arc_form.canonical, exchanged_form.canonical, arc_form.same, exchanged_form.same, files_differ))
