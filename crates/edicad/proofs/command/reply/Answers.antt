use Rattle.std.proofs.Common.{◌≡◌, ◌⊎◌, ℕ, [], IsTrue, inl, inr, refl}
use Rattle.edi_words.specs.declared.words.Misuse.{Misuse}
use Rattle.edicad.specs.Answered.{IsMisusedStatus}
use Rattle.edi_answers.specs.Effects.{Stream, written}
use Rattle.edi_answers.specs.Misuses.{misuse_lines, shows_words}
use Rattle.edi_answers.specs.Statuses.{LacksMemory, Prints, Warns}
use Rattle.edi_answers.proofs.Answering.{appends_nothing}
use Rattle.edicad.proofs.command.reply.Goals as goal

pub returns-in-Answered-clause-answer : goal.returns-in-Answered-clause-answer
returns-in-Answered-clause-answer g c =
    rw c.in-Answered.is (refl, refl, appends_nothing (g.O.ByteOut.contents c.args.out.now), appends_nothing (g.E.ByteOut.contents c.args.err.now))

pub returns-in-Answered-clause-status : goal.returns-in-Answered-clause-status
returns-in-Answered-clause-status g c = rw c.in-Answered.is refl

-- what was said of arguments that make no sense, where nothing went out
misused_status : (out err : Stream) (misuse : Misuse) (s : ℕ) → Prints out [] → ((s ≡ 3) × Warns err (misuse_lines misuse)) ⊎ ((s ≡ 5) × IsTrue (shows_words misuse) × LacksMemory err) → IsMisusedStatus out err misuse s
misused_status out err misuse s none (inl h) = inl (h.0, (none, h.1))
misused_status out err misuse s none (inr h) = inr (h.0, h.1, none, h.2)

pub returns-in-Misused-clause-answer : goal.returns-in-Misused-clause-answer
returns-in-Misused-clause-answer g c =
    let out = written g.O.ByteOut c.args.out.now c.args.out.now in
    let err = written g.E.ByteOut c.args.err.now c.say_misuse.new.err in
    rw c.in-Misused.is (refl, misused_status out err c.in-Misused.misuse c.say_misuse.result (appends_nothing (g.O.ByteOut.contents c.args.out.now)) c.say_misuse.ensures)

pub returns-in-CheckManifest-clause-answer : goal.returns-in-CheckManifest-clause-answer
returns-in-CheckManifest-clause-answer g c = rw c.in-CheckManifest.is (refl, c.check_manifest.ensures.answer)

pub returns-in-Changed-clause-answer : goal.returns-in-Changed-clause-answer
returns-in-Changed-clause-answer g c = rw c.in-Changed.is (refl, c.tell_changes_between.ensures.answer)
