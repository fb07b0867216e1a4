use Rattle.std.proofs.Common.{◌≡◌, ◌-◌, ◌≤◌, length, arith, min, max}
use Rattle.std.proofs.lemmas.List.{take_rest, length-drop}
use Rattle.edi_line.proofs.DeviceLemmas.{Reads-left_at}
use Rattle.edi_line.proofs.script.ScriptInByteIn.read.Goals as goal

pub returns-clause-bytes : goal.returns-clause-bytes
returns-clause-bytes c =
    let self = c.self.inside in
    let bytes = self.bytes.now in
    let start = c.start-start.result in
    let count = c.copy_piece-count.result in
    let buffer = c.copy_piece-count.new.buffer in
    let rest = take_rest bytes start in
    let counted : count ≡ min (min (max self.piece 1) (length buffer)) (length bytes - start) =
    rw (← length-drop start bytes, ← rest) c.copy_piece-count.ensures.count in
    let within : start ≤ length bytes = c.start-start.ensures.within in
    rw (← c.self.view_is)
    (Reads-left_at bytes buffer self.endless self.at start count c.start-start.ensures.place within
    (omega arith)
    (λ zero room. omega arith)
    (rw rest at c.copy_piece-count.ensures.copied))
