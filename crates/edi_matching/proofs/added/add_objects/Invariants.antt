use Rattle.edi_matching.specs.declared.ranked.Member.{Member}
use Rattle.edi_matching.specs.inner.Additions.{AddsPairs, AreAlike, AreInOrder, HaveOneKey}
use Rattle.edi_matching.proofs.LoneKeys.{NoneLeft}
use Rattle.edi_matching.proofs.added.add_objects.Given as goal

abbrev pub invariant-loop-index : goal.invariant-loop-index
invariant-loop-index g l = record {
  pairs : AddsPairs (λ i j. HaveOneKey g.K.PartialEq.eq (λ (m : Member). m.place) l.objects l.others i j × AreAlike l.plan l.other i j) l.initial.to l.initial.taken l.to l.taken;
  none_left : AreInOrder g.K.Ord.cmp l.objects → AreInOrder g.K.Ord.cmp l.others → NoneLeft g.K.Ord.cmp g.K.PartialEq.eq l.plan l.other l.objects l.others l.index l.at l.to l.taken;
}
