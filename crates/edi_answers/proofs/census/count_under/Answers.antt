use Rattle.std.proofs.Common.{inl, refl, subst, take}
use Rattle.std.specs.Io.KnownBytes.{Appends}
use Rattle.edi_answers.specs.Census.{IsCountedIn}
use Rattle.edi_answers.specs.Effects.{inputs}
use Rattle.edi_answers.proofs.Answering.{appends_nothing, paths_of}
use Rattle.edi_answers.proofs.Shares.{all_counted, counts_cut, not_counted, sheet_cut}
use Rattle.edi_answers.proofs.census.count_under.Goals as goal

pub returns-in_default-clause-answer : goal.returns-in_default-clause-answer
returns-in_default-clause-answer g c =
    let inputs = inputs g.F.Folder g.F.Reader.ByteIn c.args.folder.now in
    let out = g.O.ByteOut.contents c.answer_each.new.out in
    let failed = g.O.ByteOut.has_failed c.answer_each.new.out in
    sheet_cut inputs (g.F.Folder.why c.args.folder.now) c.args.schema.now c.args.form (g.O.ByteOut.contents c.args.out.now) out out failed failed
    (g.E.ByteOut.contents c.args.err.now) (g.E.ByteOut.contents c.answer_each.new.err) (g.E.ByteOut.contents c.say_unwritten.new.err)
    (g.E.ByteOut.has_failed c.answer_each.new.err) (g.E.ByteOut.has_failed c.say_unwritten.new.err)
    (paths_of c.args.sheets.now) c.say_unwritten.result c.in_default.ensures.err refl refl c.say_unwritten.ensures.text c.say_unwritten.ensures.stays c.say_unwritten.ensures.status

pub returns-in_default-text_of_counts-clause-answer : goal.returns-in_default-text_of_counts-clause-answer
returns-in_default-text_of_counts-clause-answer g c =
    let inputs = inputs g.F.Folder g.F.Reader.ByteIn c.args.folder.now in
    let out = g.O.ByteOut.contents c.answer_each.new.out in
    let failed = g.O.ByteOut.has_failed c.answer_each.new.out in
    not_counted inputs (g.F.Folder.why c.args.folder.now) c.args.schema.now c.args.form (g.O.ByteOut.contents c.args.out.now) out out failed failed
    (g.E.ByteOut.contents c.args.err.now) (g.E.ByteOut.contents c.answer_each.new.err) (g.E.ByteOut.contents c.out_of_memory.new.err)
    (g.E.ByteOut.has_failed c.answer_each.new.err) (g.E.ByteOut.has_failed c.out_of_memory.new.err)
    (paths_of c.args.sheets.now) c.in-Ok.worst c.out_of_memory.result c.answer_each.new.rules.items c.in-Ok.ensures.ok (appends_nothing out)
    c.out_of_memory.ensures.text c.out_of_memory.ensures.stays c.out_of_memory.ensures.status

pub returns-in-Ok-put_all-clause-answer : goal.returns-in-Ok-put_all-clause-answer
returns-in-Ok-put_all-clause-answer g c =
    let inputs = inputs g.F.Folder g.F.Reader.ByteIn c.args.folder.now in
    let out = g.O.ByteOut.contents c.answer_each.new.out in
    let after = g.O.ByteOut.contents c.put_all.new.writer in
    let err = g.E.ByteOut.contents c.answer_each.new.err in
    let counts = subst (λ rules. IsCountedIn c.args.form rules c.in-Ok-text_of_counts.counts.items) c.deref.ensures.value c.in-Ok-text_of_counts.ensures in
    all_counted inputs (g.F.Folder.why c.args.folder.now) c.args.schema.now c.args.form (g.O.ByteOut.contents c.args.out.now) out after
    (g.O.ByteOut.has_failed c.answer_each.new.out) (g.O.ByteOut.has_failed c.put_all.new.writer)
    (g.E.ByteOut.contents c.args.err.now) err err (g.E.ByteOut.has_failed c.answer_each.new.err) (g.E.ByteOut.has_failed c.answer_each.new.err)
    (paths_of c.args.sheets.now) c.in-Ok.worst c.in-Ok.worst c.answer_each.new.rules.items c.in-Ok-text_of_counts.counts.items c.in-Ok.ensures.ok
    counts (subst (Appends out after) c.deref-2.ensures.value c.in-Ok-put_all.ensures.ok) (inl (appends_nothing err)) (λ t. t) refl

pub returns-clause-answer : goal.returns-clause-answer
returns-clause-answer g c =
    let inputs = inputs g.F.Folder g.F.Reader.ByteIn c.args.folder.now in
    let out = g.O.ByteOut.contents c.answer_each.new.out in
    let after = g.O.ByteOut.contents c.put_all.new.writer in
    let count = c.in-Err.field-0.count in
    let counts = subst (λ rules. IsCountedIn c.args.form rules c.in-Ok-text_of_counts.counts.items) c.deref.ensures.value c.in-Ok-text_of_counts.ensures in
    counts_cut inputs (g.F.Folder.why c.args.folder.now) c.args.schema.now c.args.form (g.O.ByteOut.contents c.args.out.now) out after
    (g.O.ByteOut.has_failed c.answer_each.new.out) (g.O.ByteOut.has_failed c.put_all.new.writer)
    (g.E.ByteOut.contents c.args.err.now) (g.E.ByteOut.contents c.answer_each.new.err) (g.E.ByteOut.contents c.say_unwritten-in-Err.new.err)
    (g.E.ByteOut.has_failed c.answer_each.new.err) (g.E.ByteOut.has_failed c.say_unwritten-in-Err.new.err)
    (paths_of c.args.sheets.now) c.in-Ok.worst c.say_unwritten-in-Err.result count c.answer_each.new.rules.items c.in-Ok-text_of_counts.counts.items c.in-Ok.ensures.ok
    counts (subst (λ l. Appends out after (take count l)) c.deref-2.ensures.value c.in-Err.ensures.err.1) c.in-Err.ensures.failed
    c.say_unwritten-in-Err.ensures.text c.say_unwritten-in-Err.ensures.stays c.say_unwritten-in-Err.ensures.status
