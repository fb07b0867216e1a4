-- Paths, and the names that lines have for them.
use Rattle.std.specs.Prelude.{ℕ, ◌-◌, List, [], ◌∷◌, length, codes, if◌then◌else◌}
use Rattle.edi_compare.specs.declared.fault.RunFault.{RunFault}
use Rattle.edi_compare.specs.declared.fault.RunFault.TheVariants.{Memory, Read, TooLong, Schema, First, Second, Write}
use Rattle.edi_words.specs.Requests.{is_standard_path}
use Rattle.edi_outcome.specs.Words.{text_in}
use Rattle.edi_outcome.specs.declared.outcome.Outcome.{Outcome}
use Rattle.edi_outcome.specs.declared.outcome.Outcome.TheVariants.{Accepted, Same, Different, Pairs, Unpaired, WrongPairing, Fault}

-- the name of an input, and of an output
abbrev pub input_name : List ℕ → List ℕ
input_name path = if is_standard_path path then codes "standard input" else path

abbrev pub output_name : List ℕ → List ℕ
output_name path = if is_standard_path path then codes "standard output" else path

-- the names of inputs, of which this is the first, and of the output, whose path is the last
abbrev pub names_from : List ℕ → List (List ℕ) → List (List ℕ)
names_from path [] = output_name path ∷ []
names_from path (next ∷ paths) = input_name path ∷ names_from next paths

-- the names of the inputs of these paths, and of the output, whose path is the last
abbrev pub names_of_paths : List (List ℕ) → List (List ℕ)
names_of_paths [] = []
names_of_paths (path ∷ paths) = names_from path paths

-- the path of a fault, by those of the inputs and then of the output
abbrev pub path_of_fault : RunFault → List (List ℕ) → List ℕ
path_of_fault (Memory e) paths = []
path_of_fault (Read input) paths = text_in paths (input - 1)
path_of_fault (TooLong input) paths = text_in paths (input - 1)
path_of_fault (Schema f) paths = []
path_of_fault (First f) paths = []
path_of_fault (Second f) paths = []
path_of_fault (Write w) paths = text_in paths (length paths - 1)

-- the path of an outcome, which a fault alone has
abbrev pub path_for : Outcome → List (List ℕ) → List ℕ
path_for Accepted paths = []
path_for Same paths = []
path_for (Different line) paths = []
path_for Pairs paths = []
path_for (Unpaired why) paths = []
path_for (WrongPairing line why) paths = []
path_for (Fault fault) paths = path_of_fault fault paths
