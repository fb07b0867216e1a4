use Rattle.std.proofs.Common.{◌<◌, ◌++◌, ◌∷◌, ◌∙◌, ap, [], length, arith}
use Rattle.edi_picture.proofs.ArcsRound.{list_at, list_of}
use Rattle.edi_picture.proofs.rounds.add_to.Goals as goal

pub returns-in_ok-push-clause-each : goal.returns-in_ok-push-clause-each
returns-in_ok-push-clause-each c = λ k here.
    let there : c.in-Some.place < length c.args.lists.now.items = omega (arith, c.if-place-len.true, c.len.ensures) in
    list_of c.args.lists.now.items k c.in-Some.place c.push.new.self c.args.arc c.args.face c.in-Some.is there here
    (c.in_ok-push.ensures.items ∙ ap (λ xs. xs ++ c.args.arc ∷ []) (list_at c.args.lists.now.items c.in-Some.place c.index_mut.result.now there c.index_mut.ensures.value))
