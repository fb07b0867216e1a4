use Rattle.std.proofs.Common.{◌≡◌, ◌++◌, take, arith, length-append}
use Rattle.std.proofs.lemmas.List.{length-take-le}
use Rattle.edi_line.proofs.DeviceLemmas.{Consumes-append}
use Rattle.uses.specs.Streams.{IsStreamFault}
use Rattle.uses.specs.declared.feeding.StreamFault.TheVariants.{Line}
use Rattle.uses.proofs.Streams.{end_is_all, err_kept, front_is_all}
use Rattle.uses.proofs.feeding.zones_of_stream.Goals as goal

pub loop-turn-preserved : goal.loop-turn-preserved
loop-turn-preserved g c =
    let b = c.loop-turn.invariant.0 in
    let count = c.in-Some.count in
    let buffer = c.read.new.buffer in
    let call = c.in_ok-feed-in-Some.ensures in
    let read = c.in-Some.ensures in (
      b ++ take count buffer,
      call.takes b c.loop-turn.invariant.1,
      call.clean,
      Consumes-append _ _ _ b (take count buffer) c.loop-turn.invariant.3 read.bytes.0,
      omega (arith, length-append b (take count buffer), length-take-le count buffer read.bound, read.bound, c.loop-turn.invariant.4),
      omega (arith, length-append b (take count buffer), length-take-le count buffer read.bound, c.in-Some.count-test, c.loop-turn.invariant.5),
    )

pub returns-in_err-feed-in-Some-clause-fault : goal.returns-in_err-feed-in-Some-clause-fault
returns-in_err-feed-in-Some-clause-fault g c =
    let b = c.loop-turn.invariant.0 in
    let front = take c.in-Some.count c.read.new.buffer in
    let contents = g.R.ByteIn.contents in
    let fault = c.in_err-feed-in-Some.field-0.0 in
    err_kept c.from_residual-in_err-feed-in-Some.result (Line fault) (IsStreamFault (contents c.args.stream.now) (g.R.ByteIn.has_failed c.read.new.self))
    c.from_residual-in_err-feed-in-Some.ensures.1
    (front_is_all (contents c.args.stream.now) (contents c.read.new.self) (b ++ front) fault
    (Consumes-append _ _ _ b front c.loop-turn.invariant.3 c.in-Some.ensures.bytes.0) (c.in_err-feed-in-Some.ensures.broken b c.loop-turn.invariant.1))

pub returns-in_err-finish-in-Some-eq0-clause-fault : goal.returns-in_err-finish-in-Some-eq0-clause-fault
returns-in_err-finish-in-Some-eq0-clause-fault g c =
    let b = c.loop-turn.invariant.0 in
    let contents = g.R.ByteIn.contents in
    let fault = c.in_err-finish-in-Some-eq0.field-0.0 in
    let read = c.in-Some-eq0.ensures in
    let zero : c.in-Some-eq0.field-0 ≡ 0 = c.in-Some-eq0.field-0-test in
    err_kept c.from_residual.result (Line fault) (IsStreamFault (contents c.args.stream.now) (g.R.ByteIn.has_failed c.read.new.self))
    c.from_residual.ensures.1
    (end_is_all (contents c.args.stream.now) (contents c.loop-turn.stream) (contents c.read.new.self) b c.read.new.buffer c.in-Some-eq0.field-0 fault
    c.loop-turn.invariant.3 read.bytes.0 zero (read.bytes.1 zero (omega arith)) (c.in_err-finish-in-Some-eq0.ensures.least b c.loop-turn.invariant.1))
