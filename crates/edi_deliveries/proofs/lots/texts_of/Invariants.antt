use Rattle.std.proofs.Common.{◌≡◌, map, string_bytes, take}
use Rattle.edi_deliveries.proofs.lots.texts_of.Given as goal

abbrev pub invariant-loop-path : goal.invariant-loop-path
invariant-loop-path l = map (λ text. text.now) l.texts.items ≡ map string_bytes (take l.path-index l.paths)
