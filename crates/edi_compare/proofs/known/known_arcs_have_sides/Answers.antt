use Rattle.std.proofs.Common.{refl, inl, lit≤}
use Rattle.edi_compare.proofs.known.known_arcs_have_sides.Goals as goal

pub returns-clause-turned : goal.returns-clause-turned
returns-clause-turned c = refl

pub returns-clause-initial : goal.returns-clause-initial
returns-clause-initial c = record { link = 6; there = lit≤ tt; is_link = refl; has_role = refl; not_plain = λ e. cc; arc_there = lit≤ tt; is_arc = refl; ends = inl refl }

pub returns-clause-last : goal.returns-clause-last
returns-clause-last c = record { link = 7; there = lit≤ tt; is_link = refl; has_role = refl; not_plain = λ e. cc; arc_there = lit≤ tt; is_arc = refl; ends = inl refl }

pub returns-clause-left : goal.returns-clause-left
returns-clause-left c = record { link = 8; there = lit≤ tt; is_link = refl; has_role = refl; not_plain = λ e. cc; arc_there = lit≤ tt; is_arc = refl; ends = inl refl }

pub returns-clause-right : goal.returns-clause-right
returns-clause-right c = record { link = 9; there = lit≤ tt; is_link = refl; has_role = refl; not_plain = λ e. cc; arc_there = lit≤ tt; is_arc = refl; ends = inl refl }

pub returns-clause-piece : goal.returns-clause-piece
returns-clause-piece c = refl

pub returns-clause-plain : goal.returns-clause-plain
returns-clause-plain c = refl
