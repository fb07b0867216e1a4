use Rattle.edi_record.proofs.TextParts.{no_cut, one_cut, two_cuts, cut_again, cut_last, no_pointer, some_pointer}
use Rattle.edi_record.proofs.pointer.Pointer.read.Goals as goal

pub returns-in_err-lot : goal.returns-in_err-lot
returns-in_err-lot c = rw c.from_residual.ensures (no_pointer c.args.text.now (no_cut c.args.text.now c.in_err-lot.ensures))

pub returns-in_err-subset : goal.returns-in_err-subset
returns-in_err-subset c = rw c.from_residual-in_err-subset.ensures (no_pointer c.args.text.now (one_cut c.args.text.now c.in_ok-lot.lot.now c.in_ok-lot.rest.text.now c.in_ok-lot.ensures c.in_err-subset.ensures))

pub returns-in_err-rty : goal.returns-in_err-rty
returns-in_err-rty c = rw c.from_residual-in_err-rty.ensures (no_pointer c.args.text.now (two_cuts c.args.text.now c.in_ok-lot.lot.now c.in_ok-lot.rest.text.now c.in_ok-subset.subset.now c.in_ok-subset.rest.text.now c.in_ok-lot.ensures c.in_ok-subset.ensures c.in_err-rty.ensures))

pub returns-then-is_some : goal.returns-then-is_some
returns-then-is_some c =
    no_pointer c.args.text.now (cut_again _ c.split_at_semicolon-4.result c.is_some.result c.args.text.now c.in_ok-lot.lot.now c.in_ok-lot.rest.text.now c.in_ok-subset.subset.now c.in_ok-subset.rest.text.now c.in_ok-rty.rty.now c.in_ok-rty.rid.text.now
    c.is_some.ensures c.if-is_some.true c.in_ok-lot.ensures c.in_ok-subset.ensures c.in_ok-rty.ensures c.split_at_semicolon-4.ensures)

pub returns : goal.returns
returns c =
    some_pointer c.args.text.now _ (cut_last _ c.split_at_semicolon-4.result c.is_some.result c.args.text.now c.in_ok-lot.lot.now c.in_ok-lot.rest.text.now c.in_ok-subset.subset.now c.in_ok-subset.rest.text.now c.in_ok-rty.rty.now c.in_ok-rty.rid.text.now
    c.is_some.ensures c.if-is_some.false c.in_ok-lot.ensures c.in_ok-subset.ensures c.in_ok-rty.ensures c.split_at_semicolon-4.ensures)
