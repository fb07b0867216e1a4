use Rattle.std.proofs.Common.{◌≡◌, ◌++◌, flat_map, map, option_to_list, take}
use Rattle.edi_deliveries.specs.Deliveries.{found_name}
use Rattle.edi_deliveries.proofs.said.push_found.Given as goal

abbrev pub invariant-loop-file : goal.invariant-loop-file
invariant-loop-file l =
    map (λ name. name.now) l.found.items
    ≡ map (λ name. name.now) l.initial.found.items ++ flat_map (λ file. option_to_list (found_name l.names file)) (take l.file-index l.file-items)
