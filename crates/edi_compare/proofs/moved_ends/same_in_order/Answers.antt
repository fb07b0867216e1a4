use Rattle.std.proofs.Common.{◌≡◌, ◌∙◌, sym, subst, IsPermutation, IsSorted, map}
use Rattle.std.specs.List.{slice_index}
use Rattle.std.proofs.lemmas.Slice.Eq.{slice_eq-Decides}
use Rattle.edi_schema.specs.Sorted.{sort_by}
use Rattle.edi_schema.proofs.SortedLists.{sorted_is}
use Rattle.edi_rank.specs.Same.{moved}
use Rattle.edi_compare.specs.inner.Checking.{placed_end}
use Rattle.edi_compare.proofs.Placed.{placed_order, placed_total, placed_exact, placed_decided, placed_permuted, placed_in_order, placed_moved, placed_end_cmp}
use Rattle.edi_compare.proofs.moved_ends.same_in_order.Goals as goal

pub returns : goal.returns
returns c =
    let to = slice_index c.args.to.now in
    let ends = c.args.ends.now in
    let others = c.args.others.now in
    let moves = c.sort_unstable.new.self.items in
    let places = c.sort_unstable-2.new.self.items in
    let first : moves ≡ sort_by placed_end_cmp (map placed_end (map (moved to) ends)) =
    sorted_is placed_end_cmp placed_total placed_exact (map placed_end (map (moved to) ends)) moves
    (subst (λ xs. IsPermutation xs moves) (c.in_ok-moves.ensures ∙ placed_moved to ends) c.sort_unstable.ensures.permutation)
    (subst (λ cmp. IsSorted cmp moves) (λ i a b. placed_order a b i) c.sort_unstable.ensures.sorted) in
    let second : places ≡ sort_by placed_end_cmp (map placed_end others) =
    sorted_is placed_end_cmp placed_total placed_exact (map placed_end others) places
    (subst (λ xs. IsPermutation xs places) c.in_ok-places.ensures c.sort_unstable-2.ensures.permutation)
    (subst (λ cmp. IsSorted cmp places) (λ i a b. placed_order a b i) c.sort_unstable-2.ensures.sorted) in
    let d = slice_eq-Decides placed_decided moves places c.eq.result c.eq.ensures in
    (λ t. placed_permuted (map (moved to) ends) others (sym first ∙ (d.0 t ∙ second)), λ same. d.1 (first ∙ (placed_in_order (map (moved to) ends) others same ∙ sym second)))
