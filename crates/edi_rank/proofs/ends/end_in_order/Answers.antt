use Rattle.std.proofs.Common.{◌∙◌, ◌<◌, sym, arith, length, get_or}
use Rattle.std.proofs.lemmas.List.{get_or_default}
use Rattle.edi_rank.specs.EndOrder.{no_end}
use Rattle.edi_rank.proofs.OthersSorted.{as_many, position_within, end_by_position}
use Rattle.edi_rank.proofs.ends.end_in_order.Goals as goal

pub bounds-positions-index : goal.bounds-positions-index
bounds-positions-index c =
    let many = as_many c.args.positions.now c.args.ends.now c.requires.each c.in_default.len_at_least in
    omega (arith, many, c.requires.index)

pub returns-in_default : goal.returns-in_default
returns-in_default c =
    let ends = c.args.ends.now in
    let positions = c.args.positions.now in
    let many = as_many positions ends c.requires.each c.in_default.len_at_least in
    let within : c.args.index < length positions = omega (arith, many, c.requires.index) in
    c.index-ends-positions.is
    ∙ (get_or_default ends (get_or positions c.args.index 0) c.index-ends-positions.result no_end (position_within positions ends c.requires.each c.args.index within)
    ∙ sym (end_by_position positions ends c.requires.each c.in_default.len_at_least c.args.index c.requires.index))
