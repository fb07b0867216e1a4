use Rattle.std.proofs.Common.{◌∙◌, sym, ap, subst}
use Rattle.edi_line.specs.Bytes.{IsBytes}
use Rattle.edi_line.specs.FileBytes.{file_bytes}
use Rattle.edi_line.proofs.file.FileBytes.keeps.Goals as goal

pub returns-in-Whole-clause-bytes : goal.returns-in-Whole-clause-bytes
returns-in-Whole-clause-bytes c = subst IsBytes (c.as_slice.ensures.value ∙ sym (ap file_bytes c.in-Whole.is)) c.hold.ensures.bytes
