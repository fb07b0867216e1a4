use Rattle.std.proofs.Common.{false, inr, subst, sym}
use Rattle.edi_answers.specs.Effects.{effects, written}
use Rattle.edi_answers.specs.Replies.{OneThenOther}
use Rattle.edi_changes.specs.Checks.{FailsInVerdict, GivesVerdict, IsSheetHeld, SaysNoDigest}
use Rattle.edi_changes.specs.inner.Checking.{IsSaidAs, MatchNoDigest, at_least}
use Rattle.edi_changes.proofs.Checking.{no_digest_said, said_behind, said_weaker}
use Rattle.edi_changes.proofs.checks.LineChecker.hold_sheet.Goals as goal

pub returns-in-Err-clause-said : goal.returns-in-Err-clause-said
returns-in-Err-clause-said g c =
    let run = effects g.F.Folder g.F.Reader.ByteIn g.F.Sink.ByteOut g.F.NewFile.ByteOut c.args.self.now.folder.now c.args.self.now.folder.now in
    let s = c.args.self.now.schema.now in
    let line = c.args.line.now in
    let o = g.O.ByteOut.contents c.args.out.now in
    let e = g.E.ByteOut.contents c.args.err.now in
    let out = written g.O.ByteOut c.args.out.now c.say_verdict-in-Err.new.out in
    let err = written g.E.ByteOut c.args.err.now c.say_verdict-in-Err.new.err in
    let says_none = SaysNoDigest run s GivesVerdict line in
    let why = subst (λ name. MatchNoDigest run.inputs s name c.in-Err.why) c.as_slice.ensures c.in-Err.ensures.err in
    let first = no_digest_said run s GivesVerdict line o (g.O.ByteOut.has_failed c.args.out.now) (written g.E.ByteOut c.args.err.now c.tell_no_digest-status.new.err) c.in-Err.why
    c.tell_no_digest-status.result why c.tell_no_digest-status.ensures.told in
    let both = said_behind says_none (GivesVerdict line false) (FailsInVerdict line false) o o (g.O.ByteOut.contents c.say_verdict-in-Err.new.out)
    e (g.E.ByteOut.contents c.tell_no_digest-status.new.err) (g.E.ByteOut.contents c.say_verdict-in-Err.new.err)
    (g.O.ByteOut.has_failed c.args.out.now) (g.O.ByteOut.has_failed c.say_verdict-in-Err.new.out) (g.E.ByteOut.has_failed c.tell_no_digest-status.new.err) (g.E.ByteOut.has_failed c.say_verdict-in-Err.new.err)
    c.tell_no_digest-status.result c.say_verdict-in-Err.result first c.say_verdict-in-Err.ensures.said c.say_verdict-in-Err.ensures.out_stays c.say_verdict-in-Err.ensures.err_stays in
    subst (IsSaidAs (IsSheetHeld run s GivesVerdict line) (IsSheetHeld run s FailsInVerdict line) out err) (sym c.at_least.ensures.value)
    (said_weaker (OneThenOther says_none (GivesVerdict line false)) (OneThenOther says_none (FailsInVerdict line false)) (IsSheetHeld run s GivesVerdict line) (IsSheetHeld run s FailsInVerdict line) out err (at_least c.tell_no_digest-status.result c.say_verdict-in-Err.result) (λ n h. inr h) (λ n h. inr h) both)
