use Rattle.std.proofs.Common.{◌≡◌, ◌++◌, map, take}
use Rattle.edi_delivery.specs.NameParts.{file_name}
use Rattle.edi_delivery.specs.declared.file_name.Extension.TheVariants.{Vec}
use Rattle.edi_delivery.proofs.lot.Lot.add_vecs.Given as goal

abbrev pub invariant-loop-own : goal.invariant-loop-own
invariant-loop-own l = l.files.items ≡ l.initial.files.items ++ map (file_name l.self.name Vec) (take l.own-index l.self.vecs)
