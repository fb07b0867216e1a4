-- The zone of each type of record, as it is printed.
use Rattle.std.proofs.Common.{◌≡◌, [], ◌∷◌, ◌++◌, refl, codes}
use Rattle.edi_line.specs.Printing.{printed_zone, broken_into, line_text, content_text, zone_headed}
use Rattle.edi_record.specs.Shapes.{kind_code}
use Rattle.edi_record.specs.declared.record.Kind.{Kind}
use Rattle.edi_record.specs.declared.record.Kind.TheVariants.{Pno, Par, Pfe, Fea, Lnk}

pub type_printed : (kind : Kind) → printed_zone (zone_headed (codes "RTYSA") (kind_code kind)) ≡ codes "RTYSA03:" ++ kind_code kind ++ 13 ∷ 10 ∷ []
unfolding printed_zone broken_into line_text content_text
type_printed Pno = refl
type_printed Par = refl
type_printed Pfe = refl
type_printed Fea = refl
type_printed Lnk = refl
