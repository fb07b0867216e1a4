use Rattle.std.proofs.Common.{List, subst}
use Rattle.edi_manifest.specs.declared.line.ManifestLine.{ManifestLine}
use Rattle.edi_answers.specs.Effects.{inputs, written}
use Rattle.edi_answers.specs.Statuses.{Prints}
use Rattle.edi_answers.proofs.Answering.{appends_nothing}
use Rattle.std.proofs.Common.{[]}
use Rattle.edi_deliveries.specs.Manifests.{IsPrinted}
use Rattle.edi_deliveries.specs.inner.Opening.{opened_of}
use Rattle.edi_deliveries.proofs.MadeManifests.{all_found, not_all_found}
use Rattle.edi_deliveries.proofs.manifests.ManifestRequest.send.Goals as goal

pub returns-then-status-eq0-clause-answer : goal.returns-then-status-eq0-clause-answer
returns-then-status-eq0-clause-answer g c =
    let why = g.F.Folder.why c.args.folder.now in
    let out = written g.O.ByteOut c.args.out.now c.print.new.out in
    let found = c.find-status in
    all_found (inputs g.F.Folder g.F.Reader.ByteIn c.args.folder.now) why c.args.self.now.kinds.now (opened_of c.args.self.now.opened.now) c.new-lines.result.items found.new.lines.items
    c.new-lines.ensures.items (g.E.ByteOut.contents c.args.err.now) (g.E.ByteOut.contents found.new.err) (g.E.ByteOut.has_failed found.new.err) found.result found.ensures.found
    why (IsPrinted out) (Prints out []) (g.E.ByteOut.contents c.print.new.err) (g.E.ByteOut.has_failed c.print.new.err) c.print.result c.if-status-eq0.true c.print.ensures.stays
    (subst (λ (lines : List ManifestLine). IsPrinted out lines (written g.E.ByteOut found.new.err c.print.new.err) c.print.result) c.deref.ensures.value c.print.ensures.answer)

pub returns-clause-answer : goal.returns-clause-answer
returns-clause-answer g c =
    let out = written g.O.ByteOut c.args.out.now c.args.out.now in
    let found = c.find-status in
    not_all_found (inputs g.F.Folder g.F.Reader.ByteIn c.args.folder.now) (g.F.Folder.why c.args.folder.now) c.args.self.now.kinds.now (opened_of c.args.self.now.opened.now)
    c.new-lines.result.items found.new.lines.items c.new-lines.ensures.items (g.E.ByteOut.contents c.args.err.now) (g.E.ByteOut.contents found.new.err)
    (g.E.ByteOut.has_failed found.new.err) found.result found.ensures.found (IsPrinted out) (Prints out []) c.if-status-eq0.false
    (appends_nothing (g.O.ByteOut.contents c.args.out.now))
