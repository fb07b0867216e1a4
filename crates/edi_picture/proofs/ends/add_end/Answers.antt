use Rattle.std.proofs.Common.{◌∙◌, sym, true, false, w64, to_z, of_z}
use Rattle.edi_picture.proofs.Counted.{unchanged_place, near, turned_at}
use Rattle.edi_picture.proofs.ends.add_end.Goals as goal

pub returns-then-remove : goal.returns-then-remove
returns-then-remove c =
    turned_at c.args.odd.now c.remove.new.self c.args.end.now (to_z w64 (of_z w64 c.millionths.result)) (to_z w64 (of_z w64 c.millionths-2.result))
    (near c.millionths.result c.args.end.now.x c.millionths.ensures.value c.millionths.ensures.range) (near c.millionths-2.result c.args.end.now.y c.millionths-2.ensures.value c.millionths-2.ensures.range)
    false (sym c.if-remove.ensures.test) c.if-remove.ensures.updates.0

pub returns-in-Ok : goal.returns-in-Ok
returns-in-Ok c = λ ends h.
    turned_at c.remove.new.self c.insert.new.self c.args.end.now (to_z w64 (of_z w64 c.millionths.result)) (to_z w64 (of_z w64 c.millionths-2.result))
    (near c.millionths.result c.args.end.now.x c.millionths.ensures.value c.millionths.ensures.range) (near c.millionths-2.result c.args.end.now.y c.millionths-2.ensures.value c.millionths-2.ensures.range)
    true
    (sym (unchanged_place c.args.odd.now c.remove.new.self (to_z w64 (of_z w64 c.millionths.result)) (to_z w64 (of_z w64 c.millionths-2.result)) c.if-remove.ensures.unchanged) ∙ sym c.if-remove.ensures.test)
    c.in-Ok.ensures.updates.0
    ends (λ q. sym (unchanged_place c.args.odd.now c.remove.new.self q.x q.y c.if-remove.ensures.unchanged) ∙ h q)
