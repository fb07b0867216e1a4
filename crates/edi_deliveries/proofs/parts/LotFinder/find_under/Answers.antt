use Rattle.std.proofs.Common.{ℕ, List, inr, refl, subst}
use Rattle.edi_answers.specs.Effects.{inputs, written}
use Rattle.edi_answers.specs.Hashes.{TellsFault}
use Rattle.edi_answers.specs.Notes.{WritesNoteIfAny}
use Rattle.edi_deliveries.specs.inner.Finding.{placed_of}
use Rattle.edi_deliveries.proofs.FoundParts.{schema_found}
use Rattle.edi_deliveries.proofs.FoundSteps.{none_added}
use Rattle.edi_deliveries.proofs.parts.LotFinder.find_under.Goals as goal

pub returns-in-Ok-clause-found : goal.returns-in-Ok-clause-found
returns-in-Ok-clause-found g c =
    schema_found (inputs g.F.Folder g.F.Reader.ByteIn c.args.self.now.folder.now) (g.F.Folder.why c.args.self.now.folder.now) c.args.self.now.kinds.now c.args.files.now (placed_of c.args.self.now)
    c.args.lines.now.items c.find_sheets.new.lines.items c.in-Ok.loaded.schema c.in-Ok.loaded.note.items (g.E.ByteOut.contents c.args.err.now)
    (g.E.ByteOut.contents c.say.new.err) (g.E.ByteOut.contents c.find_sheets.new.err) (g.E.ByteOut.has_failed c.say.new.err) (g.E.ByteOut.has_failed c.find_sheets.new.err)
    c.find_sheets.result c.in-Ok.ensures.ok (subst (λ (note : List ℕ). WritesNoteIfAny (written g.E.ByteOut c.args.err.now c.say.new.err) note) c.deref.ensures.value c.say.ensures.text)
    c.find_sheets.ensures.found c.find_sheets.ensures.stays

pub returns-in-Err-clause-found : goal.returns-in-Err-clause-found
returns-in-Err-clause-found g c =
    let err = written g.E.ByteOut c.args.err.now c.tell_fault.new.err in
    let told = subst (λ (path : List ℕ). TellsFault (g.F.Folder.why c.args.self.now.folder.now) err c.in-Err.fault path c.tell_fault.result) c.path_of_schema.ensures c.tell_fault.ensures.contents in
    none_added c.args.lines.now.items _ (inr (c.in-Err.fault, c.in-Err.ensures.err, told, refl))
