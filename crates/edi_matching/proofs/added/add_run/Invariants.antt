use Rattle.std.proofs.Common.{◌≡◌, ◌<◌, ◌∷◌, []}
use Rattle.edi_matching.specs.declared.ranked.Member.{Member}
use Rattle.edi_matching.specs.inner.Additions.{AddsPairs, AreAlike, AreFree, IsListed}
use Rattle.edi_matching.proofs.added.add_run.Given as goal

abbrev pub invariant-loop-at : goal.invariant-loop-at
invariant-loop-at g l = record {
  pairs : AddsPairs (λ i j. IsListed l.objects i × IsListed l.others j × AreAlike l.plan l.other i j) l.initial.to l.initial.taken l.to l.taken;
  none_left : (x y : g.row.K.Denot × Member) → l.objects ≡ x ∷ [] → l.others ≡ y ∷ [] → 0 < l.at → AreAlike l.plan l.other x.1.place y.1.place → ¬ (AreFree l.to l.taken x.1.place y.1.place);
}
