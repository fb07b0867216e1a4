use Rattle.std.proofs.Common.{◌≡◌, List, refl, subst}
use Rattle.edi_manifest.specs.ManifestText.{manifest_text}
use Rattle.edi_manifest.specs.declared.line.ManifestLine.{ManifestLine}
use Rattle.edi_files.specs.Folders.{IsSpare}
use Rattle.edi_files.specs.Outputs.{IsWholeOrNew}
use Rattle.edi_files.proofs.Steps.{goes_map}
use Rattle.edi_answers.specs.Effects.{effects, written}
use Rattle.edi_deliveries.specs.Deliveries.{listings}
use Rattle.edi_deliveries.specs.Manifests.{IsStored}
use Rattle.edi_deliveries.specs.inner.Opening.{opened_of}
use Rattle.edi_deliveries.proofs.MadeManifests.{all_found, lines_of_all, not_all_found, whole_manifest}
use Rattle.edi_deliveries.proofs.manifests.ManifestRequest.put_found.Goals as goal

pub returns-then-status-eq0-clause-answer : goal.returns-then-status-eq0-clause-answer
returns-then-status-eq0-clause-answer g c =
    let run = effects g.F.Folder g.F.Reader.ByteIn g.F.Sink.ByteOut g.F.NewFile.ByteOut c.args.folder.now c.store.new.folder in
    let found = c.find-status in
    let stored = IsStored run c.args.self.now.path.now c.args.self.now.file.now in
    all_found run.inputs (g.F.Folder.why c.args.folder.now) c.args.self.now.kinds.now (opened_of c.args.self.now.opened.now) c.new-lines.result.items found.new.lines.items
    c.new-lines.ensures.items (g.E.ByteOut.contents c.args.err.now) (g.E.ByteOut.contents found.new.err) (g.E.ByteOut.has_failed found.new.err) found.result found.ensures.found
    run.why stored run.untouched (g.E.ByteOut.contents c.store.new.err) (g.E.ByteOut.has_failed c.store.new.err) c.store.result c.if-status-eq0.true c.store.ensures.stays
    (subst (λ (lines : List ManifestLine). stored lines (written g.E.ByteOut found.new.err c.store.new.err) c.store.result) c.deref.ensures.value c.store.ensures.answer)

pub returns-then-status-eq0-clause-replaced : goal.returns-then-status-eq0-clause-replaced
returns-then-status-eq0-clause-replaced g c tells =
    let folder = c.args.folder.now in
    let run = effects g.F.Folder g.F.Reader.ByteIn g.F.Sink.ByteOut g.F.NewFile.ByteOut folder c.store.new.folder in
    let found = c.find-status in
    let d = opened_of c.args.self.now.opened.now in
    let err = written g.E.ByteOut c.args.err.now found.new.err in
    let Spare = IsSpare (g.F.Folder.is_stray folder) (g.F.Folder.moment folder) (g.F.Folder.left_since folder) in
    let lines = lines_of_all run.inputs (g.F.Folder.why folder) c.args.self.now.kinds.now d c.new-lines.result.items found.new.lines.items c.new-lines.ensures.items
    (g.E.ByteOut.contents c.args.err.now) (g.E.ByteOut.contents found.new.err) (g.E.ByteOut.has_failed found.new.err) found.result found.ensures.found run.why c.if-status-eq0.true in
    let whole = subst (λ (ls : List ManifestLine). run.Replaces c.args.self.now.file.now (λ bytes. bytes ≡ manifest_text ls)) c.deref.ensures.value c.store.ensures.replaced in
    goes_map _ _ _ _ (IsWholeOrNew c.args.self.now.file.now Spare (λ bytes. bytes ≡ manifest_text found.new.lines.items)) _
    (whole_manifest run (listings g.F.Listing folder) c.args.self.now.kinds.now c.args.self.now.path.now d found.new.lines.items err c.requires.opens lines c.args.self.now.file.now Spare) (whole tells)

pub returns-clause-answer : goal.returns-clause-answer
returns-clause-answer g c =
    let run = effects g.F.Folder g.F.Reader.ByteIn g.F.Sink.ByteOut g.F.NewFile.ByteOut c.args.folder.now c.args.folder.now in
    let found = c.find-status in
    not_all_found run.inputs run.why c.args.self.now.kinds.now (opened_of c.args.self.now.opened.now) c.new-lines.result.items found.new.lines.items c.new-lines.ensures.items
    (g.E.ByteOut.contents c.args.err.now) (g.E.ByteOut.contents found.new.err) (g.E.ByteOut.has_failed found.new.err) found.result found.ensures.found
    (IsStored run c.args.self.now.path.now c.args.self.now.file.now) run.untouched c.if-status-eq0.false refl
