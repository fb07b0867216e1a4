use Rattle.std.proofs.Common.{◌∙◌, ◌++◌, ap, map, nat_cmp, subst, sym, IsPermutation, List, ℕ}
use Rattle.std.proofs.lemmas.Cmp.{nat_cmp_total}
use Rattle.std.proofs.lemmas.List.{map-append}
use Rattle.std.proofs.lemmas.Map.Lookups.{exact_unsigned}
use Rattle.edi_schema.proofs.SortedLists.{sorted_is}
use Rattle.edi_plan.specs.declared.record.PlanAttribute.{PlanAttribute}
use Rattle.edi_objects.proofs.attributes.classes_of_both.Goals as goal

pub returns : goal.returns
returns c =
    let here = c.args.here.now in
    let there = c.args.there.now in
    let class : PlanAttribute → ℕ = λ (a : PlanAttribute). a.atp in
    sorted_is nat_cmp nat_cmp_total exact_unsigned (map class (here ++ there)) c.sort_unstable.new.self.items
    (subst (λ xs. IsPermutation xs c.sort_unstable.new.self.items)
    (c.in_ok-push_classes-2.ensures ∙ (ap (λ (xs : List ℕ). xs ++ map class there) (c.in_ok-push_classes.ensures ∙ ap (λ (xs : List ℕ). xs ++ map class here) c.new-classes.ensures.items) ∙ sym (map-append class here there)))
    c.sort_unstable.ensures.permutation)
    c.sort_unstable.ensures.sorted
