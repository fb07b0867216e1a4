use Rattle.std.proofs.Common.{◌≡◌, ◌∙◌, [], append-nil, inl, sym, ap, subst, map}
use Rattle.std.specs.Io.KnownBytes.{Appends}
use Rattle.edi_line.specs.declared.broken.BrokenRule.{BrokenRule}
use Rattle.edi_answers.specs.Census.{status_of_all}
use Rattle.edi_answers.specs.Effects.{inputs, written}
use Rattle.edi_answers.specs.inner.Census.{AddsShare}
use Rattle.edi_answers.proofs.Answering.{appends_nothing}
use Rattle.edi_answers.proofs.Shares.{fault_share, told_share}
use Rattle.edi_answers.proofs.census.answer_one.Goals as goal

pub returns-in-Ok-put_all-clause-ok : goal.returns-in-Ok-put_all-clause-ok
returns-in-Ok-put_all-clause-ok g c =
    let inputs = inputs g.F.Folder g.F.Reader.ByteIn c.args.folder.now in
    let why = g.F.Folder.why c.args.folder.now in
    let out = written g.O.ByteOut c.args.out.now c.put_all.new.writer in
    let err = written g.E.ByteOut c.args.err.now c.args.err.now in
    let told = c.in-Ok.told in
    let own = map (λ (it : BrokenRule). it.rule) told.broken.items in
    let text = subst (Appends (g.O.ByteOut.contents c.args.out.now) (g.O.ByteOut.contents c.put_all.new.writer)) c.deref.ensures.value c.in-Ok-put_all.ensures.ok in
    let status : status_of_all told.broken.items ≡ c.status_of.result = sym (c.status_of.ensures ∙ ap status_of_all c.deref-in-Ok-put_all.ensures.value) in (
      own,
      c.in-Ok.ensures.ok.1,
      subst (λ s. AddsShare inputs why c.args.schema.now c.args.form c.args.path.now out err s own) status
          (told_share inputs why c.args.schema.now c.args.form c.args.path.now out err told.broken.items told.text.items c.in-Ok.ensures.ok.0 text (inl (appends_nothing (g.E.ByteOut.contents c.args.err.now)))),
    )

pub returns-clause-ok : goal.returns-clause-ok
returns-clause-ok g c =
    let inputs = inputs g.F.Folder g.F.Reader.ByteIn c.args.folder.now in
    let out = written g.O.ByteOut c.args.out.now c.args.out.now in
    let err = written g.E.ByteOut c.args.err.now c.tell_fault.new.err in (
      [],
      c.in-Err.ensures.err.1 ∙ sym (append-nil c.args.rules.now.items),
      fault_share inputs (g.F.Folder.why c.args.folder.now) c.args.schema.now c.args.form c.args.path.now out err c.in-Err.fault c.tell_fault.result c.in-Err.ensures.err.0
          c.tell_fault.ensures.contents (appends_nothing (g.O.ByteOut.contents c.args.out.now)),
    )
