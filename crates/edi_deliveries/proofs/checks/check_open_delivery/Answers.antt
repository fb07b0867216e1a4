use Rattle.std.proofs.Common.{List, inl, inr, subst, sym}
use Rattle.edi_manifest.specs.declared.line.ManifestLine.{ManifestLine}
use Rattle.edi_answers.specs.Effects.{inputs, written}
use Rattle.edi_answers.specs.Statuses.{IsPairStatus}
use Rattle.edi_answers.proofs.Answering.{appends_nothing}
use Rattle.edi_changes.proofs.Checking.{of_greater}
use Rattle.edi_deliveries.specs.Checks.{AreHeld}
use Rattle.edi_deliveries.specs.inner.Opening.{opened_of}
use Rattle.edi_deliveries.proofs.MadeManifests.{lines_of_it}
use Rattle.edi_deliveries.proofs.checks.check_open_delivery.Goals as goal

pub returns-in_default-clause-answer : goal.returns-in_default-clause-answer
returns-in_default-clause-answer g c =
    inr ((appends_nothing (g.O.ByteOut.contents c.args.out.now), c.out_of_memory.ensures.text), c.out_of_memory.ensures.status)

pub returns-clause-status : goal.returns-clause-status
returns-clause-status g c =
    let found = c.find_lines-found in
    let held = c.hold-held in
    subst IsPairStatus (sym c.max.ensures) (of_greater IsPairStatus found.result held.result (inr found.ensures.status) held.ensures.status)

pub returns-clause-answer : goal.returns-clause-answer
returns-clause-answer g c =
    let found = c.find_lines-found in
    let held = c.hold-held in
    let lines = found.new.lines.items in
    let out = written g.O.ByteOut c.args.out.now held.new.out in
    let err = written g.E.ByteOut found.new.err held.new.err in
    let of_it = lines_of_it (inputs g.F.Folder g.F.Reader.ByteIn c.args.folder.now) (g.F.Folder.why c.args.folder.now) c.args.kinds.now (opened_of c.args.opened.now)
    c.new-lines.result.items lines c.new-lines.ensures.items (g.E.ByteOut.contents c.args.err.now) (g.E.ByteOut.contents found.new.err)
    (g.E.ByteOut.has_failed found.new.err) found.result found.ensures.found in
    inl (
      lines,
      found.result,
      held.result,
      (
        g.E.ByteOut.contents found.new.err,
        g.E.ByteOut.has_failed found.new.err,
        held.ensures.stays,
        of_it,
        subst (λ (ls : List ManifestLine). AreHeld c.args.known.now ls out err held.result) c.deref-2.ensures.value held.ensures.answer,
      ),
      c.max.ensures,
    )
