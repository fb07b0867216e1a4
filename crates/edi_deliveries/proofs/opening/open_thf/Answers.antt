use Rattle.std.proofs.Common.{ℕ, List, inl, inr, string_bytes, subst}
use Rattle.edi_answers.specs.Effects.{inputs, written}
use Rattle.edi_answers.specs.Hashes.{TellsFault}
use Rattle.edi_answers.specs.WholeInputs.{WholeInputFault}
use Rattle.edi_deliveries.specs.inner.Paths.{MatchThf}
use Rattle.edi_deliveries.proofs.Told.{told_status}
use Rattle.edi_deliveries.proofs.opening.open_thf.Goals as goal

pub returns-clause-err : goal.returns-clause-err
returns-clause-err g c =
    let inputs = inputs g.F.Folder g.F.Reader.ByteIn c.args.folder.now in
    let why = g.F.Folder.why c.args.folder.now in
    let err = written g.E.ByteOut c.args.err.now c.tell_fault.new.err in
    let fault = c.in-Err-Unread.fault in
    let unread = subst (MatchThf inputs c.deref.result.now) c.in-Err-Unread.field-0-is c.in-Err-Unread.ensures.err in
    let told = subst (λ (path : List ℕ). TellsFault why err fault path c.tell_fault.result) c.deref-in-Err-Unread.ensures c.tell_fault.ensures.contents in (
      told_status why err fault (string_bytes c.args.thf) c.tell_fault.result told,
      inr (inl (fault, subst (λ (path : List ℕ). WholeInputFault inputs path fault) c.deref.ensures unread, told)),
    )
