use Rattle.std.proofs.Common.{◌∙◌, ℕ, List, ap, inl, map, string_bytes, subst}
use Rattle.edi_delivery.specs.declared.lot.Lot.{Lot}
use Rattle.edi_answers.specs.Effects.{effects, written}
use Rattle.edi_deliveries.specs.Deliveries.{AreLotsAnswered}
use Rattle.edi_deliveries.specs.inner.Opening.{opened_of}
use Rattle.edi_deliveries.proofs.deliveries.answer_open_delivery.Goals as goal

pub returns-clause-answer : goal.returns-clause-answer
returns-clause-answer g c =
    let run = effects g.F.Folder g.F.Reader.ByteIn g.F.Sink.ByteOut g.F.NewFile.ByteOut c.args.folder.now c.args.folder.now in
    let out = written g.O.ByteOut c.args.out.now c.answer_lots.new.out in
    let err = written g.E.ByteOut c.args.err.now c.answer_lots.new.err in
    let d = opened_of c.args.opened.now in
    let kinds = c.args.kinds.now in
    let s = c.answer_lots.result in
    let by_before = subst (λ (before : List ℕ). AreLotsAnswered run kinds before c.in-Ok.names c.lots-lots.result.now out err s) c.as_str-before.ensures c.answer_lots.ensures.answer in
    let by_names = subst (λ (names : List (List ℕ)). AreLotsAnswered run kinds d.before names c.lots-lots.result.now out err s)
    (c.in-Ok.ensures ∙ ap (map string_bytes) c.deref.ensures.value) by_before in
    inl (subst (λ (lots : List Lot). AreLotsAnswered run kinds d.before d.names lots out err s) c.lots-lots.ensures by_names)
