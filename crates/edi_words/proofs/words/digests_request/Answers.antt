use Rattle.std.proofs.Common.{inl, refl}
use Rattle.clap.specs.Words.{found_of, rows_of}
use Rattle.edi_words.proofs.words.digests_request.Goals as goal

pub returns-in-Err : goal.returns-in-Err
returns-in-Err g c = λ none give. (rows_of (found_of c.args.given.now), inl refl, c.out_of_memory.ensures)
