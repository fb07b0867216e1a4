use Rattle.std.proofs.Common.{ap}
use Rattle.std.specs.Char.{encode_utf8}
use Rattle.std.specs.Fmt.{digits}
use Rattle.std.specs.Str.{chars, is_utf8}
use Rattle.edi_line.specs.Number.{fraction_digits, size_text}
use Rattle.edi_objects.specs.Accounts.{account_text}
use Rattle.edi_objects.specs.Distances.{root}
use Rattle.edi_objects.specs.Elements.{element_text}
use Rattle.edi_objects.specs.LinksOf.{index_of}
use Rattle.edi_objects.specs.Names.{shown_class}
use Rattle.edi_objects.specs.Objects.{attributes_change, class_change, extras_change, has_other_outline}
use Rattle.edi_diff.specs.Forms.{identifiers_in, naming_by}
use Rattle.edi_diff.specs.Known.{registered_account, three_classes}
use Rattle.edi_diff.proofs.known.known_object_is_called_as_given.Goals as goal

pub returns : goal.returns
unfolding attributes_change class_change shown_class element_text extras_change has_other_outline index_of digits chars encode_utf8 is_utf8 size_text fraction_digits root
returns c = λ given text. ap (λ ids. account_text (naming_by three_classes (identifiers_in ids)) registered_account) text
