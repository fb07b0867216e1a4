-- The numbers of the layers tell nodes, arcs and faces apart.
use Rattle.std.proofs.Common.{◌≡◌, ℕ, zero, suc, ◌+◌, ◌<◌, Bool, true, false, cond, List, [], ◌∷◌, length, get_or, take, refl, sym, ap, ◌∙◌, subst, arith, count_by, eq-eqb}
use Rattle.edi_record.specs.declared.record.Kind.{Kind}
use Rattle.edi_record.specs.declared.record.Kind.TheVariants.{Pno, Par, Pfe, Fea, Lnk}
use Rattle.edi_schema.proofs.SortedLists.{count_by-cons}
use Rattle.edi_plan.specs.Places.{places_from, places_of, member_of}
use Rattle.edi_plan.specs.Plans.{PlanData, IsPlace, record_at, blank, kind_rank, same_kind}
use Rattle.edi_plan.specs.declared.record.PlanRecord.{PlanRecord}
use Rattle.edi_rank.specs.Labelling.{NumbersEach}
use Rattle.edi_rank.specs.Laws.{TellsApart}
use Rattle.edi_rank.specs.Layers.{number_by, ranked}

-- as many of a kind as stand before it are before it among their places
member_from : (kind : Kind) (place : ℕ) (rs : List PlanRecord) (i m : ℕ) → i < length rs → same_kind kind (get_or rs i blank).kind ≡ true → m ≡ count_by (λ r. same_kind kind r.kind) (take i rs)
    → (m < length (places_from kind place rs)) × (get_or (places_from kind place rs) m 0 ≡ place + i)
member_from kind place [] i m h is e = absurd (omega (arith, h))
member_from kind place (r ∷ rs) zero zero h is e = rw is (omega arith, omega arith)
member_from kind place (r ∷ rs) zero (suc m) h is e = absurd (omega (arith, e))
member_from kind place (r ∷ rs) (suc i) m h is e =
    go (same_kind kind r.kind) m (e ∙ count_by-cons (λ r. same_kind kind r.kind) r (take i rs)) (λ n f. member_from kind (place + 1) rs i n (omega (arith, h)) is f)
  where
    go : (b : Bool) (m : ℕ) → m ≡ cond b 1 0 + count_by (λ r. same_kind kind r.kind) (take i rs)
        → ((n : ℕ) → n ≡ count_by (λ r. same_kind kind r.kind) (take i rs) → (n < length (places_from kind (place + 1) rs)) × (get_or (places_from kind (place + 1) rs) n 0 ≡ (place + 1) + i))
        → (m < length (cond b (place ∷ places_from kind (place + 1) rs) (places_from kind (place + 1) rs)))
        × (get_or (cond b (place ∷ places_from kind (place + 1) rs) (places_from kind (place + 1) rs)) m 0 ≡ place + suc i)
    go true zero e more = absurd (omega (arith, e))
    go true (suc m) e more = let d = more m (omega (arith, e)) in (omega (arith, d.0), omega (arith, d.1))
    go false m e more = let d = more m (omega (arith, e)) in (d.0, omega (arith, d.1))

-- the place of the member that a record is
pub place_of_member : (p : PlanData) (k : ℕ) → IsPlace p k → (member_of p k < length (places_of (record_at p k).kind p)) × (get_or (places_of (record_at p k).kind p) (member_of p k) 0 ≡ k)
place_of_member p k h =
    let d = member_from (record_at p k).kind 0 p.list k (member_of p k) h (eq-eqb (kind_rank (record_at p k).kind) (kind_rank (record_at p k).kind) refl) refl in
    (d.0, omega (arith, d.1))

pub ranked_apart : (p : PlanData) (nodes arcs faces : List ℕ) → NumbersEach nodes → length nodes ≡ length (places_of Pno p) → NumbersEach arcs → length arcs ≡ length (places_of Par p)
    → NumbersEach faces → length faces ≡ length (places_of Pfe p) → TellsApart p (ranked p nodes arcs faces)
ranked_apart p nodes arcs faces by_node nodes_long by_arc arcs_long by_face faces_long = record {
  apart = λ i k h g kinds lower numbers.
      let first = place_of_member p i h in
      let second = subst (λ kind. (member_of p k < length (places_of kind p)) × (get_or (places_of kind p) (member_of p k) 0 ≡ k)) (sym kinds) (place_of_member p k g) in
      let same = one_member (record_at p i).kind (member_of p i) (member_of p k) lower first.0 second.0 (numbers ∙ ap (λ kind. number_by nodes arcs faces kind (member_of p k)) (sym kinds)) in
      sym first.1 ∙ (ap (λ m. get_or (places_of (record_at p i).kind p) m 0) same ∙ second.1);
}
  where
    one_member : (kind : Kind) (m n : ℕ) → kind_rank kind < 3 → m < length (places_of kind p) → n < length (places_of kind p) → number_by nodes arcs faces kind m ≡ number_by nodes arcs faces kind n → m ≡ n
    one_member Pno m n lower h g e = by_node.apart m n (omega (arith, h, nodes_long)) (omega (arith, g, nodes_long)) e
    one_member Par m n lower h g e = by_arc.apart m n (omega (arith, h, arcs_long)) (omega (arith, g, arcs_long)) e
    one_member Pfe m n lower h g e = by_face.apart m n (omega (arith, h, faces_long)) (omega (arith, g, faces_long)) e
    one_member Fea m n lower h g e = absurd (omega (arith, lower))
    one_member Lnk m n lower h g e = absurd (omega (arith, lower))
