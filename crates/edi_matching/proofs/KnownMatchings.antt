-- One of two nodes is kept, and the other has moved.
use Rattle.std.proofs.Common.{◌≡◌, ℕ, zero, suc, ◌<◌, false, true≢false, List, [], Some, None, slice_index, get_or, refl, sym, ap, ◌∙◌, subst, arith, lit<, pos}
use Rattle.std.specs.List.{AllByRecursion}
use Rattle.std.proofs.lemmas.List.Sorted.{IsPermutation-refl}
use Rattle.edi_record.specs.declared.record.Point.{Point}
use Rattle.edi_plan.specs.Plans.{record_at}
use Rattle.edi_plan.specs.declared.record.PlanEnd.{PlanEnd}
use Rattle.edi_topo.specs.NodeKeys.{no_point}
use Rattle.edi_rank.specs.Labelling.{turned_at}
use Rattle.edi_rank.specs.Same.{CarriesRecord}
use Rattle.edi_compare.specs.Known.{node_classes}
use Rattle.edi_matching.specs.Known.{node_at, two_nodes, moved_node, matched_node, both_nodes}
use Rattle.edi_matching.specs.Matchings.{IsMatched, IsTotal, MatchingHolds, targets_of}

goes : (i j : ℕ) → get_or matched_node.to i None ≡ Some j → (i ≡ 0) × (j ≡ 1)
goes zero j e = (refl, cc)
goes (suc zero) j e = cc
goes (suc (suc i)) j e = cc

none_turned : (i : ℕ) → get_or matched_node.turned i false ≡ false
none_turned zero = refl
none_turned (suc zero) = refl
none_turned (suc (suc i)) = refl

node_carried : CarriesRecord node_classes (slice_index (targets_of matched_node.to)) (turned_at matched_node.turned) 0 (node_at 1) (node_at 1)
node_carried = record { kind = refl; attributes = IsPermutation-refl []; extras = refl; class = refl; points = refl; origin = refl; others = IsPermutation-refl [] }

pub kept_holds : MatchingHolds node_classes two_nodes moved_node matched_node
kept_holds = record {
  all_entered = refl;
  all_directed = refl;
  within = λ i j e. let f = (goes i j e).1 in omega (arith, f);
  apart = λ i k j e f. (goes i j e).0 ∙ sym (goes k j f).0;
  arcs = λ i h t. absurd (true≢false (sym t ∙ none_turned i));
  ends = λ i j e. subst (λ n. AllByRecursion (λ (x : PlanEnd). IsMatched matched_node.to x.target) (record_at two_nodes n).ends) (sym (goes i j e).0) tt;
  each = λ i j e. subst (λ n. CarriesRecord node_classes (slice_index (targets_of matched_node.to)) (turned_at matched_node.turned) n (record_at two_nodes n) (record_at moved_node j)) (sym (goes i j e).0)
      (subst (λ n. CarriesRecord node_classes (slice_index (targets_of matched_node.to)) (turned_at matched_node.turned) 0 (node_at 1) (record_at moved_node n)) (sym (goes i j e).1) node_carried);
}

pub kept_partial : ¬ (IsTotal two_nodes moved_node matched_node)
kept_partial total = let w = total.each 1 (lit< tt) in let e : None ≡ Some w.0 = w.1 in cc

numbers_apart : (m n : ℕ) → n < m → pos m ≡ pos n → ⊥
numbers_apart m n less e = let same : m ≡ n = cc in omega (arith, same, less)

pub both_refused : ¬ (MatchingHolds node_classes two_nodes moved_node both_nodes)
both_refused holds =
    let same : (node_at 3).points ≡ (node_at 2).points = (holds.each 1 0 refl).points in
    let x : pos 3 ≡ pos 2 = ap (λ (points : List Point). (get_or points 0 no_point).x) same in
    numbers_apart 3 2 (lit< tt) x
