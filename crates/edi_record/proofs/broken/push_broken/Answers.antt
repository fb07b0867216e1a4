use Rattle.edi_line.specs.ZoneData.{entries}
use Rattle.edi_record.specs.RecordRules.{has_no_identifier}
use Rattle.edi_record.specs.inner.RecordRules.{has_no_kind, has_no_class, has_bad_attribute, has_wrong_count, has_bad_point, has_bad_end, has_unknown_pointer}
use Rattle.edi_line.proofs.AllBroken.{put}
use Rattle.edi_record.proofs.RecordsBroken.{eight_put}
use Rattle.edi_record.proofs.broken.push_broken.Goals as goal

pub returns : goal.returns
returns c =
    let group = entries c.args.group.now in
    eight_put c.args.at (has_no_kind group) (has_no_identifier group) (has_no_class group) (has_bad_attribute group) (has_wrong_count group) (has_bad_point group) (has_bad_end group) (has_unknown_pointer group)
    c.args.list.now.items c.push_if_broken.new.list.items c.push_if_broken-2.new.list.items c.push_if_broken-3.new.list.items c.push_if_broken-4.new.list.items c.push_if_broken-5.new.list.items c.push_if_broken-6.new.list.items c.push_if_broken-7.new.list.items c.push_if_broken-8.new.list.items
    (put c.args.list.now.items 201 c.args.at c.lacks_kind.result (has_no_kind group) c.push_if_broken.new.list.items c.lacks_kind.ensures c.in_ok-push_if_broken.ensures)
    (put c.push_if_broken.new.list.items 202 c.args.at c.lacks_identifier.result (has_no_identifier group) c.push_if_broken-2.new.list.items c.lacks_identifier.ensures c.in_ok-push_if_broken-2.ensures)
    (put c.push_if_broken-2.new.list.items 203 c.args.at c.lacks_class.result (has_no_class group) c.push_if_broken-3.new.list.items c.lacks_class.ensures c.in_ok-push_if_broken-3.ensures)
    (put c.push_if_broken-3.new.list.items 204 c.args.at c.has_bad_attribute.result (has_bad_attribute group) c.push_if_broken-4.new.list.items c.has_bad_attribute.ensures c.in_ok-push_if_broken-4.ensures)
    (put c.push_if_broken-4.new.list.items 205 c.args.at c.has_wrong_count.result (has_wrong_count group) c.push_if_broken-5.new.list.items c.has_wrong_count.ensures c.in_ok-push_if_broken-5.ensures)
    (put c.push_if_broken-5.new.list.items 206 c.args.at c.has_bad_point.result (has_bad_point group) c.push_if_broken-6.new.list.items c.has_bad_point.ensures c.in_ok-push_if_broken-6.ensures)
    (put c.push_if_broken-6.new.list.items 207 c.args.at c.has_bad_end.result (has_bad_end group) c.push_if_broken-7.new.list.items c.has_bad_end.ensures c.in_ok-push_if_broken-7.ensures)
    (put c.push_if_broken-7.new.list.items 208 c.args.at c.has_unknown_pointer.result (has_unknown_pointer group) c.push_if_broken-8.new.list.items c.has_unknown_pointer.ensures c.in_ok-push_if_broken-8.ensures)
