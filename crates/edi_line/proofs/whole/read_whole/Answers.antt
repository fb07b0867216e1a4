use Rattle.std.proofs.Common.{◌≡◌, ◌++◌, length, take, sym, ◌∙◌, ap, subst, arith, length-append}
use Rattle.std.specs.Io.KnownBytes.{Consumes}
use Rattle.std.proofs.lemmas.List.{length-take-le}
use Rattle.edi_line.proofs.DeviceLemmas.{Consumes-append, mapped_value}
use Rattle.edi_line.proofs.whole.read_whole.Goals as goal

-- what was stored, and the piece that is too much
pub returns-then-limit-count-clause-too_long : goal.returns-then-limit-count-clause-too_long
returns-then-limit-count-clause-too_long g c =
    let bytes = (g.G.Gathering.bytes c.loop-gathered.gathered) in
    let chunk = c.read.new.buffer in
    let count = c.in-Some.count in
    let call = c.in-Some.ensures in
    let size = length-append bytes (take count chunk) in
    let piece : length (take count chunk) ≡ count = length-take-le count chunk call.bound in
    λ is. (
      bytes ++ take count chunk,
      Consumes-append _ _ _ bytes (take count chunk) c.loop-gathered.invariant.1 call.bytes.0,
      omega (arith, size, piece, c.count.ensures, c.if-limit-count.true),
    )

pub loop-gathered-smaller : goal.loop-gathered-smaller
loop-gathered-smaller g c =
    let bytes = (g.G.Gathering.bytes c.loop-gathered.gathered) in
    let chunk = c.read.new.buffer in
    let count = c.in-Some.count in
    let piece : length (take count chunk) ≡ count = length-take-le count chunk c.in-Some.ensures.bound in
    let more : g.G.Gathering.bytes c.in_ok-gathered-in-Some.gathered ≡ bytes ++ take count chunk = mapped_value c.with.result c.map_err.result _ c.in_ok-gathered-in-Some.gathered (λ p. g.G.Gathering.bytes p ≡ bytes ++ take count chunk) c.map_err.ensures.cases c.in_ok-gathered-in-Some.was c.with.ensures in
    omega (arith, ap length more, length-append bytes (take count chunk), piece, c.count.ensures, c.if-limit-count.false, c.in-Some.count-test)

pub loop-gathered-preserved : goal.loop-gathered-preserved
loop-gathered-preserved g c =
    let bytes = (g.G.Gathering.bytes c.loop-gathered.gathered) in
    let chunk = c.read.new.buffer in
    let count = c.in-Some.count in
    let call = c.in-Some.ensures in
    let piece : length (take count chunk) ≡ count = length-take-le count chunk call.bound in
    let more : g.G.Gathering.bytes c.in_ok-gathered-in-Some.gathered ≡ bytes ++ take count chunk = mapped_value c.with.result c.map_err.result _ c.in_ok-gathered-in-Some.gathered (λ p. g.G.Gathering.bytes p ≡ bytes ++ take count chunk) c.map_err.ensures.cases c.in_ok-gathered-in-Some.was c.with.ensures in (
      omega (arith, ap length more, length-append bytes (take count chunk), piece, c.count.ensures, c.if-limit-count.false),
      subst (Consumes (g.R.ByteIn.contents c.args.reader.now) (g.R.ByteIn.contents c.read.new.self)) (sym more) (Consumes-append _ _ _ bytes (take count chunk) c.loop-gathered.invariant.1 call.bytes.0),
      omega (arith, ap length more, length-append bytes (take count chunk), piece, c.loop-gathered.invariant.2, call.at_most, c.in-Some.count-test),
      call.same ∙ c.loop-gathered.invariant.3,
    )
