use Rattle.std.proofs.Common.{refl, inr}
use Rattle.clap.specs.Words.{found_of, rows_of}
use Rattle.edi_words.proofs.words.explain_all_request.Goals as goal

pub returns-in-Err : goal.returns-in-Err
returns-in-Err g c = λ give. (rows_of (found_of c.args.given.now), inr (inr refl), c.out_of_memory.ensures)
