use Rattle.std.proofs.Common.{◌∙◌, ◌++◌, ◌∷◌, [], ap, sym, refl, length, arith}
use Rattle.edi_record.specs.declared.block.Head.{Head}
use Rattle.edi_record.specs.declared.part_lists.Stops.{Stops}
use Rattle.edi_record.specs.inner.PartLists.{held}
use Rattle.edi_record.proofs.Remade.{old_after, left_put, made_put, made_of, IsNext, IsPut, left_long}
use Rattle.edi_record.proofs.remade_block.RemadeBlock.put.Goals as goal

pub index-requires : goal.index-requires
index-requires g c =
    let b = c.self.inside in
    let left = left_long b.old_heads.items (held b.old_lists) (length b.heads.items) in
    let same = ap (λ v. length v.left) c.self.view_is in
    omega (arith, left, c.requires, same, c.len-place.ensures, b.heads.ok.0, b.old_heads.ok.0)

-- where the record's parts end
abbrev to : (g : _) (c : goal.After-move_behind-2 g) → Stops
to g c = record {
  points = c.index.result.now.stops.points;
  ends = c.in_ok-room_for-2.field-0;
  attributes = c.in_ok-room_for-3.field-0;
  extras = c.index.result.now.stops.extras;
}

is_next : (g : _) (c : goal.After-move_behind-2 g)
    → IsNext c.self.inside.old_heads.items (held c.self.inside.old_lists) c.index.result.now
    c.self.inside.heads.items c.self.inside.attributes.items c.self.inside.ends.items c.len-place.result
is_next g c =
    let b = c.self.inside in
    let left = left_long b.old_heads.items (held b.old_lists) (length b.heads.items) in
    let same = ap (λ v. length v.left) c.self.view_is in
    record {
      made = c.self.invariant;
      place_is = omega (arith, c.len-place.ensures, b.heads.ok.0);
      there = omega (arith, left, c.requires, same, c.len-place.ensures, b.heads.ok.0);
      found = c.index.ensures;
    }

is_put : (g : _) (c : goal.After-move_behind-2 g)
    → IsPut c.self.inside.old_heads.items (held c.self.inside.old_lists) c.index.result.now
    c.self.inside.heads.items c.self.inside.attributes.items c.self.inside.ends.items
    c.args.head c.args.attributes.now.items c.args.ends.now.items (to g c)
    c.push_behind.new.list.items c.move_behind-2.new.list.items c.move_behind.new.list.items
is_put g c =
    let head : Head _ = record { head = c.args.head; stops = to g c } in
    record {
      heads_are = c.push_behind.ensures ∙ ap (λ l. l ++ head ∷ []) c.in_ok-room_for.ensures.items;
      attributes_are = c.move_behind-2.ensures.moved
          ∙ ap (λ l. l ++ c.args.attributes.now.items) c.in_ok-room_for-3.ensures.items;
      ends_are = c.move_behind.ensures.moved ∙ ap (λ l. l ++ c.args.ends.now.items) c.in_ok-room_for-2.ensures.items;
      points_end = refl;
      ends_end = omega (arith, c.in_ok-room_for-2.ensures.stop, c.len-2.ensures, c.args.ends.now.ok.0);
      attributes_end = omega (arith, c.in_ok-room_for-3.ensures.stop, c.len-4.ensures, c.args.attributes.now.ok.0);
      extras_end = refl;
    }

pub invariant_of-self-2 : goal.invariant_of-self-2
invariant_of-self-2 g c = (made_put _ _ _ _ _ _ _ _ _ (to g c) _ _ _ _ (is_next g c) (is_put g c)).0

pub returns-clause-put : goal.returns-clause-put
returns-clause-put g c =
    let b = c.self.inside in
    let r = old_after b.old_heads.items (held b.old_lists) c.index.result.now (length b.heads.items) in (
      r,
      ap (λ v. v.left) (sym c.self.view_is) ∙ left_put _ _ _ _ _ _ _ _ _ (to g c) _ _ _ _ (is_next g c) (is_put g c),
      (made_put _ _ _ _ _ _ _ _ _ (to g c) _ _ _ _ (is_next g c) (is_put g c)).1
          ∙ ap (λ v. v.made ++ made_of c.args.head c.args.attributes.now.items c.args.ends.now.items r ∷ [])
          c.self.view_is,
    )
