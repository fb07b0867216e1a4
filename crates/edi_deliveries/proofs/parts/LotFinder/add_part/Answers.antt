use Rattle.std.proofs.Common.{ℕ, List, refl, subst}
use Rattle.edi_answers.specs.Effects.{written}
use Rattle.edi_answers.specs.Hashes.{TellsFault}
use Rattle.edi_deliveries.proofs.FoundSteps.{none_added}
use Rattle.edi_deliveries.proofs.parts.LotFinder.add_part.Goals as goal

pub returns-in-Err-clause-found : goal.returns-in-Err-clause-found
returns-in-Err-clause-found g c =
    let err = written g.E.ByteOut c.args.err.now c.tell_fault.new.err in
    let told = subst (λ (path : List ℕ). TellsFault (g.F.Folder.why c.args.self.now.folder.now) err c.in-Err.fault path c.tell_fault.result) c.deref.ensures c.tell_fault.ensures.contents in
    rw c.in-Err.is (none_added c.args.lines.now.items _ (refl, told))
