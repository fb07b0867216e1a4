use Rattle.std.proofs.Common.{rules, append_assoc}
use Rattle.std.proofs.lemmas.Result.{IfOk-equal}
use Rattle.edi_line.specs.Printing.{line_text, content_text}
use Rattle.edi_write.proofs.ThreeBytes.{three_bytes}
use Rattle.edi_write.proofs.zones.write_line.Goals as goal

pub returns : goal.returns
unfolding line_text content_text
returns c = search (rules, IfOk-equal, append_assoc, three_bytes)
