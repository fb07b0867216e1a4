-- Labels that make one plan number as many records of each kind.
use Rattle.std.proofs.Common.{◌≡◌, ℕ, ◌+◌, ◌<◌, ◌≤◌, ◌⊎◌, inl, inr, ◌++◌, length, length-append, sym, ap, ◌∙◌, subst, arith}
use Rattle.std.proofs.lemmas.Bool.{cases_lt}
use Rattle.edi_record.specs.declared.record.Kind.{Kind}
use Rattle.edi_record.specs.declared.record.Kind.TheVariants.{Pno, Par, Pfe, Fea, Lnk}
use Rattle.edi_schema.specs.Classes.{Classes}
use Rattle.edi_plan.specs.Plans.{PlanData, IsPlace, record_at, kind_rank}
use Rattle.edi_plan.proofs.PlaceLemmas.{one_kind}
use Rattle.edi_rank.specs.Arranged.{offset, old_places, arranged}
use Rattle.edi_rank.specs.Labelling.{Labelling, AreLabels, order_of}
use Rattle.edi_rank.proofs.Arranging.{From, came_from, same_length}
use Rattle.edi_rank.proofs.ArrangedOrder.{below_rank, kind_from, number_within}

total_long : (l : Labelling) → length (old_places l) ≡ offset l Lnk + length l.links
total_long l =
    omega (
      arith,
      length-append (l.nodes ++ l.arcs ++ l.faces ++ l.objects) l.links,
      length-append (l.nodes ++ l.arcs ++ l.faces) l.objects,
      length-append (l.nodes ++ l.arcs) l.faces,
      length-append l.nodes l.arcs,
    )

offset_within : (l : Labelling) (kind : Kind) → offset l kind ≤ length (old_places l)
offset_within l Pno = omega arith
offset_within l Par = omega (arith, total_long l)
offset_within l Pfe = omega (arith, total_long l)
offset_within l Fea = omega (arith, total_long l)
offset_within l Lnk = omega (arith, total_long l)

-- a kind that stands no lower has no lesser offset
offset_rises : (l : Labelling) (a b : Kind) → kind_rank a ≤ kind_rank b → offset l a ≤ offset l b
offset_rises l a b h = go (cases_lt (kind_rank a) (kind_rank b))
  where
    go : (kind_rank a < kind_rank b) ⊎ (kind_rank b ≤ kind_rank a) → offset l a ≤ offset l b
    go (inl lower) = omega (arith, below_rank l a b lower)
    go (inr same) = omega (arith, ap (offset l) (one_kind a b (omega arith)))

module _ (s : Classes) (p : PlanData) (l : Labelling) (labels : AreLabels s p l) where
  -- before the offset of a kind stand the kinds before it, and behind it the others
  before_offset : (kind : Kind) (j : ℕ) → IsPlace (arranged s l p) j → j < offset l kind → kind_rank (record_at (arranged s l p) j).kind < kind_rank kind
  before_offset kind j h less = omega (arith, ap kind_rank (kind_from s p l labels j w), go (cases_lt (kind_rank (record_at p w.old).kind) (kind_rank kind)))
    where
      w : From s p l labels j
      w = came_from s p l labels j h

      go : (kind_rank (record_at p w.old).kind < kind_rank kind) ⊎ (kind_rank kind ≤ kind_rank (record_at p w.old).kind) → kind_rank (record_at p w.old).kind < kind_rank kind
      go (inl lower) = lower
      go (inr more) = absurd (omega (arith, less, w.is, offset_rises l kind (record_at p w.old).kind more))

  behind_offset : (kind : Kind) (j : ℕ) → IsPlace (arranged s l p) j → offset l kind ≤ j → kind_rank kind ≤ kind_rank (record_at (arranged s l p) j).kind
  behind_offset kind j h more = omega (arith, ap kind_rank (kind_from s p l labels j w), go (cases_lt (kind_rank (record_at p w.old).kind) (kind_rank kind)))
    where
      w : From s p l labels j
      w = came_from s p l labels j h

      go : (kind_rank (record_at p w.old).kind < kind_rank kind) ⊎ (kind_rank kind ≤ kind_rank (record_at p w.old).kind) → kind_rank kind ≤ kind_rank (record_at p w.old).kind
      go (inl lower) = absurd (omega (arith, more, w.is, below_rank l (record_at p w.old).kind kind lower, number_within s p l labels w.old w.there))
      go (inr up) = up

module _ (s : Classes) (p q : PlanData) (l m : Labelling) (labels : AreLabels s p l) (labels' : AreLabels s q m) (one : arranged s l p ≡ arranged s m q) where
  not_above : (kind : Kind) → offset l kind < offset m kind → ⊥
  not_above kind less =
      let there : IsPlace (arranged s m q) (offset l kind) = omega (arith, less, offset_within m kind, same_length s q m labels') in
      let here : IsPlace (arranged s l p) (offset l kind) = subst (λ (r : PlanData). IsPlace r (offset l kind)) (sym one) there in
      omega (
        arith,
        before_offset s q m labels' kind (offset l kind) there less,
        behind_offset s p l labels kind (offset l kind) here (omega arith),
        ap (λ (r : PlanData). kind_rank (record_at r (offset l kind)).kind) one,
      )

pub one_offset : (s : Classes) (p q : PlanData) (l m : Labelling) → AreLabels s p l → AreLabels s q m → arranged s l p ≡ arranged s m q → (kind : Kind) → offset l kind ≡ offset m kind
one_offset s p q l m labels labels' one kind = go (cases_lt (offset l kind) (offset m kind)) (cases_lt (offset m kind) (offset l kind))
  where
    go : (offset l kind < offset m kind) ⊎ (offset m kind ≤ offset l kind) → (offset m kind < offset l kind) ⊎ (offset l kind ≤ offset m kind) → offset l kind ≡ offset m kind
    go (inl less) other = absurd (not_above s p q l m labels labels' one kind less)
    go (inr more) (inl less) = absurd (not_above s q p m l labels' labels (sym one) kind less)
    go (inr more) (inr less) = omega arith

pub one_count : (s : Classes) (p q : PlanData) (l m : Labelling) → AreLabels s p l → AreLabels s q m → arranged s l p ≡ arranged s m q
    → (kind : Kind) → length (order_of l kind) ≡ length (order_of m kind)
one_count s p q l m labels labels' one = counts
  where
    at : (kind : Kind) → offset l kind ≡ offset m kind
    at = one_offset s p q l m labels labels' one

    all : length (old_places l) ≡ length (old_places m)
    all = sym (same_length s p l labels) ∙ (ap (λ (r : PlanData). length r.list) one ∙ same_length s q m labels')

    counts : (kind : Kind) → length (order_of l kind) ≡ length (order_of m kind)
    counts Pno = at Par
    counts Par = omega (arith, at Par, at Pfe)
    counts Pfe = omega (arith, at Pfe, at Fea)
    counts Fea = omega (arith, at Fea, at Lnk)
    counts Lnk = omega (arith, at Lnk, all, total_long l, total_long m)
