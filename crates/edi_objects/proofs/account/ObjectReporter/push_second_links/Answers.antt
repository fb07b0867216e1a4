use Rattle.std.proofs.Common.{◌∙◌, ◌<◌, List, ℕ, ap, get_or, length, subst, sym}
use Rattle.std.specs.List.Sorted.{IsNonDecreasingBy}
use Rattle.edi_plan.specs.Plans.{IsPlace}
use Rattle.edi_objects.specs.Accounts.{NamedReport}
use Rattle.edi_objects.specs.LinksOf.{entries_of}
use Rattle.edi_objects.proofs.Indexed.{index_rises}
use Rattle.edi_objects.proofs.Placed.{link_there}
use Rattle.edi_objects.proofs.account.ObjectReporter.push_second_links.Goals as goal

pub entries_of-link-items-requires : goal.entries_of-link-items-requires
entries_of-link-items-requires c = subst (λ (xs : List (ℕ × ℕ)). IsNonDecreasingBy (λ (x : ℕ × ℕ). x.0) xs) (sym (c.deref.ensures.value ∙ c.self.invariant.1.indexed)) (index_rises c.self.inside.report.now.second.accepted)

pub push_second_link-requires : goal.push_second_link-requires
push_second_link-requires c =
    let p = c.self.inside.report.now.second.accepted in
    let k = c.loop-link.link-index in
    let items = c.entries_of-link-items.result.now in
    let is = c.entries_of-link-items.ensures ∙ ap (λ (xs : List (ℕ × ℕ)). entries_of xs c.args.place) (c.deref.ensures.value ∙ c.self.invariant.1.indexed) in
    subst (λ (t : NamedReport). IsPlace t.report.second.accepted (get_or items k (0, 0)).1) c.self.view_is
    (subst (λ (xs : List (ℕ × ℕ)). IsPlace p (get_or xs k (0, 0)).1) (sym is) (link_there p c.args.place k (0, 0) (subst (λ (xs : List (ℕ × ℕ)). k < length xs) is c.loop-link-test.true)))
