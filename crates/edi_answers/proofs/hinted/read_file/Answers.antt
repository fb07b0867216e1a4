use Rattle.std.proofs.Common.{List, ℕ, inl, inr}
use Rattle.edi_compare.specs.declared.fault.RunFault.{RunFault}
use Rattle.edi_compare.specs.declared.fault.RunFault.TheVariants.{Memory, Read, TooLong, Schema, First, Second, Write}
use Rattle.edi_answers.specs.Effects.{Inputs, inputs}
use Rattle.edi_answers.specs.Hinted.{IsUnreadable}
use Rattle.edi_answers.specs.WholeInputs.{WholeInputFault}
use Rattle.edi_answers.specs.inner.Hinted.{IsOther}
use Rattle.edi_answers.proofs.hinted.read_file.Goals as goal

-- a fault of reading, other than lack of memory, is one of these
unread : (inputs : Inputs) (path : List ℕ) (e : RunFault) → IsOther e → WholeInputFault inputs path e → IsUnreadable inputs path
unread inputs path e other (inl h) = inl h.0
unread inputs path (Memory e) other (inr h) = absurd other
unread inputs path (Read n) other (inr h) = inr (inl h.1.1)
unread inputs path (TooLong n) other (inr h) = inr (inr h.1.1)
unread inputs path (Schema f) other (inr h) = absurd h.1
unread inputs path (First f) other (inr h) = absurd h.1
unread inputs path (Second f) other (inr h) = absurd h.1
unread inputs path (Write w) other (inr h) = absurd h.1

pub returns-in_ok-but_memory-in-Err : goal.returns-in_ok-but_memory-in-Err
returns-in_ok-but_memory-in-Err g c =
    unread (inputs g.F.Folder g.F.Reader.ByteIn c.args.folder.now) c.args.path.now c.in-Err.fault c.in_ok-but_memory-in-Err.ensures c.in-Err.ensures.err
