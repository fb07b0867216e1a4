use Rattle.std.proofs.Common.{◌∙◌, length, sym, ap, arith}
use Rattle.std.specs.List.{slice_get}
use Rattle.edi_record.proofs.InBlocks.{closed_same, last_there, last_same}
use Rattle.edi_record.proofs.blocks.Blocks.block.Goals as goal

pub returns-then-at-len-clause-same : goal.returns-then-at-len-clause-same
returns-then-at-len-clause-same g c =
    let closed = c.self.inside.closed in
    ap (λ es. slice_get es c.args.place) (sym c.self.view_is)
    ∙ closed_same closed.items c.self.inside.last c.self.invariant c.args.place c.index.result.now
    (omega (arith, c.if-at-len.true, c.len.ensures, closed.ok.0)) c.index.ensures

pub returns-else-at-len-clause-there : goal.returns-else-at-len-clause-there
returns-else-at-len-clause-there g c =
    let closed = c.self.inside.closed in
    last_there closed.items c.self.inside.last c.self.invariant c.args.place
    (omega (arith, c.requires, ap length c.self.view_is))
    (omega (arith, c.if-at-len.false, c.len.ensures, closed.ok.0))

pub returns-else-at-len-clause-same : goal.returns-else-at-len-clause-same
returns-else-at-len-clause-same g c =
    let closed = c.self.inside.closed in
    ap (λ es. slice_get es c.args.place) (sym c.self.view_is)
    ∙ last_same closed.items c.self.inside.last c.self.invariant c.args.place
    (omega (arith, c.requires, ap length c.self.view_is))
    (omega (arith, c.if-at-len.false, c.len.ensures, closed.ok.0))
