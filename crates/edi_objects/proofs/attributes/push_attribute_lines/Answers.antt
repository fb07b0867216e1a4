use Rattle.std.proofs.Common.{◌∙◌, ◌++◌, ◌<◌, ℕ, List, ap, length, map, nat_cmp, subst, sym, Bor}
use Rattle.std.specs.List.{AllByRecursion}
use Rattle.std.proofs.lemmas.Cmp.{nat_cmp_total}
use Rattle.std.proofs.lemmas.List.Sorted.{IsPermutation-sym}
use Rattle.edi_line.proofs.EachElement.{each_of_both, each_in_any_order}
use Rattle.edi_plan.specs.declared.record.PlanAttribute.{PlanAttribute}
use Rattle.edi_schema.specs.Sorted.{sort_by}
use Rattle.edi_schema.proofs.SortedLists.{IsPermutation-sort_by}
use Rattle.edi_objects.specs.Attributes.{class_line_at}
use Rattle.edi_objects.proofs.Marked.{lines_more}
use Rattle.edi_objects.proofs.AttributeLists.{all_mapped, one_of_all, sorted_rise}
use Rattle.edi_objects.proofs.attributes.push_attribute_lines.Goals as goal

pub push_line_at-requires-clause-here : goal.push_line_at-requires-clause-here
push_line_at-requires-clause-here c = sorted_rise c.args.here.now c.deref.result.now (ap (map (λ (a : Bor PlanAttribute). a.now)) c.deref.ensures.value ∙ c.in_ok-here.ensures)

pub push_line_at-requires-clause-there : goal.push_line_at-requires-clause-there
push_line_at-requires-clause-there c = sorted_rise c.args.there.now c.deref-in-loop-at.result.now (ap (map (λ (a : Bor PlanAttribute). a.now)) c.deref-in-loop-at.ensures.value ∙ c.in_ok-there.ensures)

pub push_line_at-requires-clause-class : goal.push_line_at-requires-clause-class
push_line_at-requires-clause-class c =
    let both = c.args.here.now ++ c.args.there.now in
    let class : PlanAttribute → ℕ = λ (a : PlanAttribute). a.atp in
    let few : ℕ → Type 0 = λ n. n < length c.args.namer.now.classes in
    let all = all_mapped class few both (each_of_both (λ (a : PlanAttribute). few a.atp) c.args.here.now c.args.there.now c.requires.here c.requires.there) in
    let sorted = each_in_any_order few (map class both) (sort_by nat_cmp (map class both)) (IsPermutation-sym _ _ (IsPermutation-sort_by nat_cmp nat_cmp_total (map class both))) all in
    let is = c.deref-in-loop-at-2.ensures.value ∙ c.in_ok-classes.ensures in
    one_of_all few c.deref-in-loop-at-2.result.now (subst (λ (ns : List ℕ). AllByRecursion few ns) (sym is) sorted) c.loop-at.at 0
    (subst (λ n. c.loop-at.at < n) (c.len-at-end.ensures ∙ sym c.deref-in-loop-at-2.ensures.len) c.loop-at-test.true)

pub loop-at-preserved : goal.loop-at-preserved
loop-at-preserved c =
    let now : Bor PlanAttribute → PlanAttribute = λ (a : Bor PlanAttribute). a.now in
    let s = c.args.namer.now.classes in
    let here = map now c.in_ok-here.here.items in
    let there = map now c.in_ok-there.there.items in
    let classes = c.in_ok-classes.classes.items in
    let k = c.loop-at.at in
    let same = ap (λ (xs : List (Bor PlanAttribute)). class_line_at s (map now xs) (map now c.deref-in-loop-at.result.now) c.deref-in-loop-at-2.result.now k) c.deref.ensures.value
    ∙ (ap (λ (xs : List (Bor PlanAttribute)). class_line_at s here (map now xs) c.deref-in-loop-at-2.result.now k) c.deref-in-loop-at.ensures.value
    ∙ ap (λ (xs : List ℕ). class_line_at s here there xs k) c.deref-in-loop-at-2.ensures.value) in
    lines_more (class_line_at s here there classes) k c.args.text.now.items c.loop-at.text.items c.push_line_at.new.text.items c.loop-at.invariant
    (c.in_ok-push_line_at.ensures ∙ ap (λ (ys : List ℕ). c.loop-at.text.items ++ ys) same)
