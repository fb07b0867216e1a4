use Rattle.std.proofs.Common.{◌≡◌, take}
use Rattle.edi_outcome.specs.Words.{texts}
use Rattle.edi_answers.proofs.Names.{input_names}
use Rattle.edi_answers.proofs.paths.names_of_paths.Given as goal

abbrev pub invariant-loop-path : goal.invariant-loop-path
invariant-loop-path l = texts l.names.items ≡ input_names (take l.path-index l.inputs)
