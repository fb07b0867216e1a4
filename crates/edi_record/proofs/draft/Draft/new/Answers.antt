use Rattle.std.proofs.Common.{false, refl, sym, subst, arith}
use Rattle.edi_record.specs.inner.Stored.{StoresAttributes, StoresPoints, StoresEnds, StoresExtras, kept_attributes, kept_points, kept_ends, kept_extras}
use Rattle.edi_record.proofs.draft.Draft.new.Goals as goal

pub returns-clause-keeps : goal.returns-clause-keeps
returns-clause-keeps c = λ parts group none. record {
  identifier = refl;
  class = refl;
  attribute_count = refl;
  point_count = λ k. refl;
  end_count = λ k. refl;
  counted_points = λ k. omega arith;
  counted_ends = λ k. omega arith;
  attributes = subst (λ l. StoresAttributes (kept_attributes c.new.result l) group group) (sym none.attributes) (c.new.ensures.keeps group);
  points = λ k. subst (λ l. StoresPoints (kept_points c.new-2.result l) group group) (sym none.points) (c.new-2.ensures group);
  ends = λ k. subst (λ l. StoresEnds (kept_ends c.new-3.result l) group group) (sym none.ends) (c.new-3.ensures group);
  extras = λ b. subst (λ o. StoresExtras c.args.kind o (kept_extras c.new-4.result parts.extras.items) group group) (sym (c.new.ensures.closed parts.attributes.items))
      (subst (λ l. StoresExtras c.args.kind false (kept_extras c.new-4.result l) group group) (sym none.extras) (c.new-4.ensures c.args.kind group));
}
