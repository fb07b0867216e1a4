-- The zones of the counts that nearly all records have.
use Rattle.std.proofs.Common.{◌≡◌, refl, ap, ◌∙◌, codes, decimal, lit<}
use Rattle.std.proofs.lemmas.Fmt.{decimal_digit}
use Rattle.edi_line.specs.Printing.{printed_zone, broken_into, line_text, content_text}
use Rattle.edi_write.specs.declared.heads.TheConstants.{ATTRIBUTE_COUNT, END_COUNT}
use Rattle.edi_write.specs.inner.Heads.{headed}

pub no_attributes : printed_zone (headed ATTRIBUTE_COUNT (decimal 0)) ≡ codes "ATCSN01:0\r\n"
unfolding printed_zone broken_into line_text content_text
no_attributes = ap (λ digits. printed_zone (headed ATTRIBUTE_COUNT digits)) (decimal_digit 0 (lit< tt)) ∙ refl

pub two_ends : printed_zone (headed END_COUNT (decimal 2)) ≡ codes "FTCSN01:2\r\n"
unfolding printed_zone broken_into line_text content_text
two_ends = ap (λ digits. printed_zone (headed END_COUNT digits)) (decimal_digit 2 (lit< tt)) ∙ refl
