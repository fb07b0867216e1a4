use Rattle.std.proofs.Common.{◌∙◌, ◌++◌, ◌∷◌, [], ap, arith}
use Rattle.edi_record.specs.AnyRecords.{any_record}
use Rattle.edi_record.specs.declared.block.Head.{Head}
use Rattle.edi_record.specs.inner.PartLists.{held}
use Rattle.edi_record.proofs.FlatRecords.{IsPushed, pushed}
use Rattle.edi_record.proofs.block.Block.push.Goals as goal

is_pushed : (g : _) (c : goal.After-append-2 g)
    → IsPushed (held c.self.inside.lists)
    (any_record c.args.head c.args.points.now.items c.args.ends.now.items c.args.attributes.now.items
    c.args.extras.now.items)
    (held c.make_room.new.self) (held c.append-2.new.self) c.self.inside.heads.items c.push_behind.new.list.items
    c.in_ok-stops.stops
is_pushed g c =
    let head : Head _ = record { head = c.args.head; stops = c.in_ok-stops.stops } in
    record {
      same = c.in_ok-stops.ensures.same;
      points = c.append-2.ensures.points ∙ c.append.ensures.moved;
      ends = c.append-2.ensures.ends;
      attributes = c.append-2.ensures.attributes;
      extras = c.append-2.ensures.extras;
      heads_are = c.push_behind.ensures ∙ ap (λ l. l ++ head ∷ []) c.in_ok-reserve.ensures.items;
      stops = record {
        points = omega (arith, c.in_ok-stops.ensures.stops.points, c.len.ensures, c.args.points.now.ok.0);
        ends = omega (arith, c.in_ok-stops.ensures.stops.ends, c.len-2.ensures, c.args.ends.now.ok.0);
        attributes = omega (arith, c.in_ok-stops.ensures.stops.attributes, c.len-3.ensures, c.args.attributes.now.ok.0);
        extras = omega (arith, c.in_ok-stops.ensures.stops.extras, c.len-4.ensures, c.args.extras.now.ok.0);
      };
    }

pub invariant_of-self-2 : goal.invariant_of-self-2
invariant_of-self-2 g c = (pushed _ _ _ _ _ _ _ (is_pushed g c) c.self.invariant).0

pub returns-clause-added : goal.returns-clause-added
returns-clause-added g c =
    let e =
    any_record c.args.head c.args.points.now.items c.args.ends.now.items c.args.attributes.now.items c.args.extras.now.items
    in
    (pushed _ _ _ _ _ _ _ (is_pushed g c) c.self.invariant).1 ∙ ap (λ es. es ++ e ∷ []) c.self.view_is
