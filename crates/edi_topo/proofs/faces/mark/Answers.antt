use Rattle.std.proofs.Common.{◌≡◌, ◌⊎◌, inl, inr, arith, sym, subst, true, false, get_or}
use Rattle.edi_plan.specs.Sides.{Side}
use Rattle.edi_topo.proofs.ArcEnds.{one_side, side_there}
use Rattle.edi_topo.proofs.Marked.{marked}
use Rattle.edi_topo.proofs.faces.mark.Goals as goal

pub index_mut-requires : goal.index_mut-requires
index_mut-requires c =
    let there = side_there c.args.plan.now c.requires.joined c.keeps.ensures.whole c.args.arc c.in-Some.face c.args.role c.in-Some.ensures in
    omega (arith, there, c.requires.long)

pub returns-in-Some-clause-marked : goal.returns-in-Some-clause-marked
returns-in-Some-clause-marked c x =
    let there = side_there c.args.plan.now c.requires.joined c.keeps.ensures.whole c.args.arc c.in-Some.face c.args.role c.in-Some.ensures in
    let both = marked c.args.faced.now.items c.in-Some.face x (omega (arith, there, c.requires.long)) in
    (λ t. onto (both.0 t), λ t. both.1 (back t))
  where
    onto : (get_or c.args.faced.now.items x false ≡ true) ⊎ (x ≡ c.in-Some.face) → (get_or c.args.faced.now.items x false ≡ true) ⊎ Side c.args.plan.now c.args.arc c.args.role x
    onto (inl t) = inl t
    onto (inr e) = inr (subst (Side c.args.plan.now c.args.arc c.args.role) (sym e) c.in-Some.ensures)

    back : (get_or c.args.faced.now.items x false ≡ true) ⊎ Side c.args.plan.now c.args.arc c.args.role x → (get_or c.args.faced.now.items x false ≡ true) ⊎ (x ≡ c.in-Some.face)
    back (inl t) = inl t
    back (inr s) = inr (one_side c.args.plan.now c.requires.joined c.args.arc x c.in-Some.face c.args.role s c.in-Some.ensures)

pub returns-in_default-clause-marked : goal.returns-in_default-clause-marked
returns-in_default-clause-marked c x = (λ t. inl t, left)
  where
    left : (get_or c.args.faced.now.items x false ≡ true) ⊎ Side c.args.plan.now c.args.arc c.args.role x → get_or c.args.faced.now.items x false ≡ true
    left (inl t) = t
    left (inr s) = absurd (c.in_default.ensures x s)
