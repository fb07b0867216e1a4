use Rattle.std.proofs.Common.{◌&&◌, ◌||◌, ◌==◌, not}
use Rattle.edi_line.specs.Bytes.{most_records}
use Rattle.edi_line.specs.inner.Kinds.{is_bom, is_cse, is_rty, is_other_kind, is_next, is_zone_kind}
use Rattle.edi_line.proofs.AllBroken.{put}
use Rattle.edi_line.proofs.LinesBroken.{six_put}
use Rattle.edi_line.proofs.order.Order.push_broken.Goals as goal

pub returns : goal.returns
returns c =
    let seen = c.args.self.now in
    let kind = c.args.kind in
    six_put c.args.at (is_next kind && not seen.started) (is_zone_kind kind && (not (is_bom kind) && not seen.begun)) (is_zone_kind kind && seen.eom) ((is_bom kind && seen.bom) || (is_cse kind && (seen.cse || seen.rty))) (is_other_kind kind && not seen.rty) (is_rty kind && (seen.records == most_records))
    c.args.list.now.items c.push_if_broken.new.list.items c.push_if_broken-2.new.list.items c.push_if_broken-3.new.list.items c.push_if_broken-4.new.list.items c.push_if_broken-5.new.list.items c.push_if_broken-6.new.list.items
    (put c.args.list.now.items 104 c.args.at c.continues_nothing.result (is_next kind && not seen.started) c.push_if_broken.new.list.items c.continues_nothing.ensures c.in_ok-push_if_broken.ensures)
    (put c.push_if_broken.new.list.items 105 c.args.at c.begins_otherwise.result (is_zone_kind kind && (not (is_bom kind) && not seen.begun)) c.push_if_broken-2.new.list.items c.begins_otherwise.ensures c.in_ok-push_if_broken-2.ensures)
    (put c.push_if_broken-2.new.list.items 107 c.args.at c.has_ended.result (is_zone_kind kind && seen.eom) c.push_if_broken-3.new.list.items c.has_ended.ensures c.in_ok-push_if_broken-3.ensures)
    (put c.push_if_broken-3.new.list.items 108 c.args.at c.comes_again.result ((is_bom kind && seen.bom) || (is_cse kind && (seen.cse || seen.rty))) c.push_if_broken-4.new.list.items c.comes_again.ensures c.in_ok-push_if_broken-4.ensures)
    (put c.push_if_broken-4.new.list.items 109 c.args.at c.belongs_to_nothing.result (is_other_kind kind && not seen.rty) c.push_if_broken-5.new.list.items c.belongs_to_nothing.ensures c.in_ok-push_if_broken-5.ensures)
    (put c.push_if_broken-5.new.list.items 110 c.args.at c.is_one_too_many.result (is_rty kind && (seen.records == most_records)) c.push_if_broken-6.new.list.items c.is_one_too_many.ensures c.in_ok-push_if_broken-6.ensures)
