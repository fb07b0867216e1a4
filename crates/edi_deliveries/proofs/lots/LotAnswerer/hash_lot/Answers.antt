use Rattle.std.proofs.Common.{subst}
use Rattle.std.specs.Option.{MatchOption}
use Rattle.edi_answers.specs.Effects.{effects, written}
use Rattle.edi_deliveries.specs.Deliveries.{LacksSchema}
use Rattle.edi_deliveries.specs.inner.Paths.{AreLotPaths}
use Rattle.edi_deliveries.proofs.Paths.{lot_hashed}
use Rattle.edi_deliveries.proofs.lots.LotAnswerer.hash_lot.Goals as goal

pub returns-in-Ok-Some-clause-answer : goal.returns-in-Ok-Some-clause-answer
returns-in-Ok-Some-clause-answer g c =
    let names = c.args.self.now.names.now in
    let are = subst (λ found. MatchOption found (LacksSchema names c.args.lot.now) (AreLotPaths c.args.self.now.before.now names c.args.lot.now)) c.in-Ok-Some.field-0-is c.in-Ok-Some.ensures in
    let run = effects g.F.Folder g.F.Reader.ByteIn g.F.Sink.ByteOut g.F.NewFile.ByteOut c.args.self.now.folder.now c.args.self.now.folder.now in
    lot_hashed run c.args.self.now.kinds.now c.args.self.now.before.now names c.args.lot.now c.in-Ok-Some.paths (written g.O.ByteOut c.args.out.now c.hash_paths.new.out)
    (written g.E.ByteOut c.args.err.now c.hash_paths.new.err) c.hash_paths.result are c.hash_paths.ensures.answer
