use Rattle.std.proofs.Common.{◌≡◌, ◌∙◌, ◌-◌, suc, ap, arith}
use Rattle.edi_record.specs.inner.FlatRecords.{no_stops, stops_before}
use Rattle.edi_record.proofs.FlatRecords.{stops_there}
use Rattle.edi_record.proofs.block.begin.Goals as goal

pub returns-then-place-gt0 : goal.returns-then-place-gt0
returns-then-place-gt0 g c =
    let place : suc (c.args.place - 1) ≡ c.args.place = omega (arith, c.if-place-gt0.true) in
    stops_there no_stops c.args.heads.now.items (c.args.place - 1) c.index.result.now
    (omega (arith, c.requires, c.if-place-gt0.true)) c.index.ensures
    ∙ ap (λ n. stops_before n no_stops c.args.heads.now.items) place
