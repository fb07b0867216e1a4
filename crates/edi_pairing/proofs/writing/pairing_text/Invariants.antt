use Rattle.std.proofs.Common.{◌≡◌, suc}
use Rattle.edi_pairing.specs.PairingText.{first_lines}
use Rattle.edi_pairing.proofs.writing.pairing_text.Given as goal

abbrev pub invariant-loop-place : goal.invariant-loop-place
invariant-loop-place l = l.text.items ≡ first_lines l.first l.second l.pairing (suc l.place)
