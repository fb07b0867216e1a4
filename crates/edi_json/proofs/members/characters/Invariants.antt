use Rattle.std.proofs.Common.{◌≡◌, string_bytes, take}
use Rattle.edi_json.specs.Values.{characters}
use Rattle.edi_json.proofs.members.characters.Given as goal

abbrev pub invariant-loop-byte : goal.invariant-loop-byte
invariant-loop-byte l = string_bytes l.text ≡ characters (take l.byte-index l.bytes)
