-- The plan that labels make of a plan stands in order.
use Rattle.std.proofs.Common.{◌≡◌, ℕ, suc, ◌+◌, ◌-◌, ◌<◌, ◌≤◌, ◌⊎◌, inl, inr, true, List, [], ◌∷◌, length, get_or, refl, sym, ap, ◌∙◌, subst, arith, Less, eqb-true}
use Rattle.std.proofs.lemmas.Bool.{cases_lt}
use Rattle.std.proofs.lemmas.Option.{slice_get_within}
use Rattle.edi_record.specs.Orders.{points_cmp}
use Rattle.edi_record.specs.Shapes.{may_have_ends}
use Rattle.edi_record.specs.declared.record.Kind.{Kind}
use Rattle.edi_record.specs.declared.record.Kind.TheVariants.{Pno, Par, Pfe, Fea, Lnk}
use Rattle.edi_schema.specs.Classes.{Classes, partner_of}
use Rattle.edi_schema.specs.Sorted.{sort_by, NeverFalls}
use Rattle.edi_schema.proofs.SortedLists.{NeverFalls-sort_by, sort_by-in_order}
use Rattle.edi_plan.specs.Orders.{attribute_cmp}
use Rattle.edi_plan.specs.Plans.{PlanData, IsPlace, record_at, kind_rank}
use Rattle.edi_plan.specs.declared.record.PlanRecord.{PlanRecord}
use Rattle.edi_plan.specs.declared.record.PlanEnd.{PlanEnd}
use Rattle.edi_plan.proofs.Orders.{attribute_total, attribute_exact}
use Rattle.edi_topo.specs.NodeKeys.{node_key, node_key_cmp, no_point}
use Rattle.edi_rank.specs.Arranged.{offset, arranged_record, arranged}
use Rattle.edi_rank.specs.InOrder.{Both}
use Rattle.edi_rank.specs.Labelling.{Labelling, AreLabels, order_of, number_of, turned_at, turned_by}
use Rattle.edi_rank.specs.Same.{class_after, directed}
use Rattle.edi_rank.specs.Turned.{turned_record}
use Rattle.edi_rank.proofs.Arranging.{From, came_from}
use Rattle.edi_rank.proofs.TurnedRecords.{record_turned, turned_long}

-- the records of a kind stand before those of the kinds after it
pub below_rank : (l : Labelling) (a b : Kind) → kind_rank a < kind_rank b → offset l a + length (order_of l a) ≤ offset l b
below_rank l Pno Pno h = absurd (omega (arith, h))
below_rank l Pno Par h = omega arith
below_rank l Pno Pfe h = omega arith
below_rank l Pno Fea h = omega arith
below_rank l Pno Lnk h = omega arith
below_rank l Par Pno h = absurd (omega (arith, h))
below_rank l Par Par h = absurd (omega (arith, h))
below_rank l Par Pfe h = omega arith
below_rank l Par Fea h = omega arith
below_rank l Par Lnk h = omega arith
below_rank l Pfe Pno h = absurd (omega (arith, h))
below_rank l Pfe Par h = absurd (omega (arith, h))
below_rank l Pfe Pfe h = absurd (omega (arith, h))
below_rank l Pfe Fea h = omega arith
below_rank l Pfe Lnk h = omega arith
below_rank l Fea Pno h = absurd (omega (arith, h))
below_rank l Fea Par h = absurd (omega (arith, h))
below_rank l Fea Pfe h = absurd (omega (arith, h))
below_rank l Fea Fea h = absurd (omega (arith, h))
below_rank l Fea Lnk h = omega arith
below_rank l Lnk Pno h = absurd (omega (arith, h))
below_rank l Lnk Par h = absurd (omega (arith, h))
below_rank l Lnk Pfe h = absurd (omega (arith, h))
below_rank l Lnk Fea h = absurd (omega (arith, h))
below_rank l Lnk Lnk h = absurd (omega (arith, h))

pub no_ends : (r : PlanRecord) → r.kind ≡ Pno → may_have_ends r.kind (length r.ends) ≡ true → r.ends ≡ []
no_ends r is may = go r.ends (ap (λ kind. may_have_ends kind (length r.ends)) (sym is) ∙ may)
  where
    go : (xs : List PlanEnd) → may_have_ends Pno (length xs) ≡ true → xs ≡ []
    go [] none = refl
    go (x ∷ xs) none = let e : suc (length xs) ≡ 0 = eqb-true _ _ none in absurd (omega (arith, e))

module _ (s : Classes) (p : PlanData) (l : Labelling) (labels : AreLabels s p l) where
  abbrev kind_at : ℕ → Kind
  kind_at k = (record_at p k).kind

  from : (j : ℕ) → IsPlace (arranged s l p) j → From s p l labels j
  from j h = came_from s p l labels j h

  pub kind_from : (j : ℕ) (w : From s p l labels j) → (record_at (arranged s l p) j).kind ≡ kind_at w.old
  kind_from j w = ap (λ (r : PlanRecord). r.kind) w.made

  pub number_within : (k : ℕ) → IsPlace p k → number_of l k - 1 < length (order_of l (kind_at k))
  number_within k h = slice_get_within (order_of l (kind_at k)) (number_of l k - 1) k (labels.to_count k h)

  pub by_type : (i k : ℕ) → i < k → IsPlace (arranged s l p) k → kind_rank (record_at (arranged s l p) i).kind ≤ kind_rank (record_at (arranged s l p) k).kind
  by_type i k less h = omega (arith, ap kind_rank (kind_from i w), ap kind_rank (kind_from k v), go (cases_lt (kind_rank (kind_at v.old)) (kind_rank (kind_at w.old))))
    where
      w : From s p l labels i
      w = from i (omega (arith, less, h))

      v : From s p l labels k
      v = from k h

      go : (kind_rank (kind_at v.old) < kind_rank (kind_at w.old)) ⊎ (kind_rank (kind_at w.old) ≤ kind_rank (kind_at v.old)) → kind_rank (kind_at w.old) ≤ kind_rank (kind_at v.old)
      go (inl lower) = absurd (omega (arith, less, w.is, v.is, below_rank l (kind_at v.old) (kind_at w.old) lower, number_within v.old v.there))
      go (inr same) = same

  pub attributes_in_order : (i : ℕ) → IsPlace (arranged s l p) i → NeverFalls attribute_cmp (record_at (arranged s l p) i).attributes
  attributes_in_order i h =
      let w = from i h in
      subst (λ (r : PlanRecord). NeverFalls attribute_cmp r.attributes) (sym w.made) (NeverFalls-sort_by attribute_cmp attribute_total (record_at p w.old).attributes)

  -- two records of a kind, the first at the lesser place, are two of the turned plan, the first with the lesser number
  pub both_before : (kind : Kind) (i k : ℕ) (w : From s p l labels i) (v : From s p l labels k) → Both (arranged s l p) suc kind i k → Both (turned_by s l p) (number_of l) kind w.old v.old
  both_before kind i k w v both = record {
    first = omega (arith, w.there, turned_long (partner_of s) (turned_at l.turned) 0 p.list);
    second = omega (arith, v.there, turned_long (partner_of s) (turned_at l.turned) 0 p.list);
    first_kind = kind_turned w.old w.there ∙ first;
    second_kind = kind_turned v.old v.there ∙ second;
    lesser = omega (arith, both.lesser, w.is, v.is, ap (offset l) first, ap (offset l) second, labels.from_one w.old w.there, labels.from_one v.old v.there);
  }
    where
      kind_turned : (t : ℕ) → IsPlace p t → (record_at (turned_by s l p) t).kind ≡ kind_at t
      kind_turned t h = ap (λ (r : PlanRecord). r.kind) (record_turned (partner_of s) (turned_at l.turned) p t h)

      first : kind_at w.old ≡ kind
      first = sym (kind_from i w) ∙ both.first_kind

      second : kind_at v.old ≡ kind
      second = sym (kind_from k v) ∙ both.second_kind

  -- the key of a node is that of the turned plan
  node_key_made : (j : ℕ) (w : From s p l labels j) → node_key (record_at (arranged s l p) j) ≡ node_key (record_at (turned_by s l p) w.old)
  node_key_made j w = ap node_key w.made ∙ (same ∙ sym (ap node_key (record_turned (partner_of s) (turned_at l.turned) p w.old w.there)))
    where
      same : node_key (arranged_record s l p w.old) ≡ node_key (turned_record (partner_of s) (turned_at l.turned) w.old (record_at p w.old))
      same =
          let t = sort_by-in_order attribute_cmp attribute_total attribute_exact (sort_by attribute_cmp (record_at p w.old).attributes) (NeverFalls-sort_by attribute_cmp attribute_total (record_at p w.old).attributes) in
          λ i. record {
            point = get_or (directed (turned_at l.turned w.old) (record_at p w.old).points) 0 no_point;
            class = class_after (partner_of s) (turned_at l.turned) (record_at p w.old);
            attributes = t i;
            extras = (record_at p w.old).extras;
          }

  pub nodes_rise : (i k : ℕ) → Both (arranged s l p) suc Pno i k → node_key_cmp (node_key (record_at (arranged s l p) i)) (node_key (record_at (arranged s l p) k)) ≡ Less
  nodes_rise i k both =
      let w = from i both.first in
      let v = from k both.second in
      subst (λ x. node_key_cmp x (node_key (record_at (arranged s l p) k)) ≡ Less) (sym (node_key_made i w))
      (subst (λ x. node_key_cmp (node_key (record_at (turned_by s l p) w.old)) x ≡ Less) (sym (node_key_made k v)) (labels.rise.nodes w.old v.old (both_before Pno i k w v both)))

  points_made : (j : ℕ) (w : From s p l labels j) → (record_at (arranged s l p) j).points ≡ (record_at (turned_by s l p) w.old).points
  points_made j w = ap (λ (r : PlanRecord). r.points) w.made ∙ sym (ap (λ (r : PlanRecord). r.points) (record_turned (partner_of s) (turned_at l.turned) p w.old w.there))

  pub arcs_rise : (i k : ℕ) → Both (arranged s l p) suc Par i k → points_cmp (record_at (arranged s l p) i).points (record_at (arranged s l p) k).points ≡ Less
  arcs_rise i k both =
      let w = from i both.first in
      let v = from k both.second in
      subst (λ x. points_cmp x (record_at (arranged s l p) k).points ≡ Less) (sym (points_made i w))
      (subst (λ x. points_cmp (record_at (turned_by s l p) w.old).points x ≡ Less) (sym (points_made k v)) (labels.rise.arcs w.old v.old (both_before Par i k w v both)))
