use Rattle.std.proofs.Common.{◌≡◌, flat_map, map, option_to_list, string_bytes, take}
use Rattle.edi_delivery.specs.NameParts.{file_name}
use Rattle.edi_delivery.specs.declared.file_name.Extension.TheVariants.{Vec}
use Rattle.edi_deliveries.specs.Deliveries.{found_path}
use Rattle.edi_deliveries.proofs.lot_files.vec_paths.Given as goal

abbrev pub invariant-loop-own : goal.invariant-loop-own
invariant-loop-own l =
    map string_bytes l.paths.items
    ≡ flat_map (λ own. option_to_list (found_path l.before l.names (file_name l.lot.name Vec own))) (take l.own-index l.lot.vecs)
