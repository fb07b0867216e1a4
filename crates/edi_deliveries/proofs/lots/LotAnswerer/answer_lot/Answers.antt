use Rattle.edi_answers.proofs.Answering.{appends_nothing}
use Rattle.edi_deliveries.proofs.Steps.{behind}
use Rattle.edi_deliveries.proofs.lots.LotAnswerer.answer_lot.Goals as goal

pub returns-clause-answer : goal.returns-clause-answer
returns-clause-answer g c =
    let o = g.O.ByteOut.contents c.args.out.now in
    behind _ _ o o (g.O.ByteOut.contents c.hash_lot-hashed.new.out) (g.E.ByteOut.contents c.args.err.now) (g.E.ByteOut.contents c.say_missing-missing.new.err) (g.E.ByteOut.contents c.hash_lot-hashed.new.err)
    (g.O.ByteOut.has_failed c.args.out.now) (g.O.ByteOut.has_failed c.hash_lot-hashed.new.out) (g.E.ByteOut.has_failed c.say_missing-missing.new.err) (g.E.ByteOut.has_failed c.hash_lot-hashed.new.err)
    c.say_missing-missing.result c.hash_lot-hashed.result c.max.result (appends_nothing o, c.say_missing-missing.ensures.said) c.hash_lot-hashed.ensures.answer
    c.hash_lot-hashed.ensures.out_stays c.hash_lot-hashed.ensures.err_stays c.max.ensures
