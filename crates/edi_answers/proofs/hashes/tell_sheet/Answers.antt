use Rattle.std.proofs.Common.{◌∙◌, ◌++◌, codes, inl, inr, refl, subst}
use Rattle.edi_files.specs.Reasons.{ended, reason_line}
use Rattle.edi_answers.specs.Hashes.{escaped_name, fault_line}
use Rattle.edi_answers.specs.Statuses.{GoesOut}
use Rattle.edi_answers.proofs.Answering.{goes_more}
use Rattle.edi_answers.proofs.hashes.tell_sheet.Goals as goal

pub returns-clause-contents : goal.returns-clause-contents
returns-clause-contents g c =
    let contents = g.E.ByteOut.contents in
    let failed = g.E.ByteOut.has_failed in
    let said = c.in-Ok.ensures in
    let lines = fault_line c.args.fault.now c.args.path.now ++ reason_line (escaped_name c.args.path.now) said.0 in
    let line : GoesOut (contents c.args.err.now) (contents c.warn.new.err) (failed c.warn.new.err) lines =
    subst (GoesOut (contents c.args.err.now) (contents c.warn.new.err) (failed c.warn.new.err)) (c.deref.ensures.value ∙ said.2) c.warn.ensures.text in
    let hints = subst (GoesOut (contents c.warn.new.err) (contents c.warn-2.new.err) (failed c.warn-2.new.err)) c.deref-2.ensures.value c.warn-2.ensures.text in (
      _,
      inl (said.0, said.1, inl (c.in-Ok-hints_at.hints.items, c.in-Ok-hints_at.ensures, c.status_of_fault.ensures, refl)),
      goes_more (contents c.args.err.now) (contents c.warn.new.err) (contents c.warn-2.new.err) (failed c.warn.new.err) (failed c.warn-2.new.err) _ _ line hints c.warn-2.ensures.stays,
    )

pub returns-in_default-hints_at-clause-contents : goal.returns-in_default-hints_at-clause-contents
returns-in_default-hints_at-clause-contents g c =
    let contents = g.E.ByteOut.contents in
    let failed = g.E.ByteOut.has_failed in
    let said = c.in-Ok.ensures in
    let lines = fault_line c.args.fault.now c.args.path.now ++ reason_line (escaped_name c.args.path.now) said.0 in
    let line : GoesOut (contents c.args.err.now) (contents c.warn.new.err) (failed c.warn.new.err) lines =
    subst (GoesOut (contents c.args.err.now) (contents c.warn.new.err) (failed c.warn.new.err)) (c.deref.ensures.value ∙ said.2) c.warn.ensures.text in (
      lines ++ ended (codes "out of memory"),
      inl (said.0, said.1, inr (c.out_of_memory-in_default-hints_at.ensures.status, refl)),
      goes_more (contents c.args.err.now) (contents c.warn.new.err) (contents c.out_of_memory-in_default-hints_at.new.err) (failed c.warn.new.err) (failed c.out_of_memory-in_default-hints_at.new.err) _ _ line c.out_of_memory-in_default-hints_at.ensures.text c.out_of_memory-in_default-hints_at.ensures.stays,
    )

pub returns-in_default-clause-contents : goal.returns-in_default-clause-contents
returns-in_default-clause-contents g c = (ended (codes "out of memory"), inr (c.out_of_memory.ensures.status, refl), c.out_of_memory.ensures.text)
