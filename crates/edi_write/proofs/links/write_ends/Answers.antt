use Rattle.std.proofs.Common.{◌≡◌, ◌∙◌, ◌∷◌, ◌-◌, ℕ, List, sym, subst, ap, drop, length, map, take}
use Rattle.std.specs.List.{slice_index}
use Rattle.std.specs.Result.{OnOk}
use Rattle.edi_plan.specs.Plans.{record_at, rest_of}
use Rattle.edi_plan.specs.declared.record.PlanEnd.{PlanEnd}
use Rattle.edi_rank.specs.EndOrder.{PutsInOrder, ends_at, positions_at}
use Rattle.edi_rank.specs.Keys.{ends_key, numbered}
use Rattle.edi_rank.specs.Labelling.{number_of}
use Rattle.edi_rank.proofs.OthersSorted.{ends_keyed}
use Rattle.edi_write.specs.inner.Numbered.{numbered_end_zones}
use Rattle.edi_write.proofs.EndsWritten.{origin_first}
use Rattle.edi_write.proofs.links.write_ends.Goals as goal

pub returns-after-others-lt1 : goal.returns-after-others-lt1
returns-after-others-lt1 c =
    let p = c.args.plan.now in
    let number = number_of c.args.labels.now in
    let ends = c.ends.result.now in
    let order = c.others.result.now in
    let rest = map (numbered p number) (ends_at order (take (length ends - 1) (drop 1 ends))) in
    let puts : PutsInOrder p number order (rest_of ends) = subst (λ (positions : List ℕ). PutsInOrder p number positions (rest_of ends)) (sym c.others.ensures)
    (subst (λ (es : List PlanEnd). PutsInOrder p number (positions_at c.args.labels.now.others c.args.place) (rest_of es)) (sym c.ends.ensures) c.requires.order) in
    let all : c.numbered_end.result ∷ rest ≡ ends_key p number (record_at p c.args.place).ends =
    ap (λ k. k ∷ rest) (c.numbered_end.ensures ∙ ap (λ (ns : List ℕ). numbered p (slice_index ns) c.origin-item.result) c.numbers.ensures)
    ∙ (ends_keyed p number order ends c.origin-item.result c.in-len1-up.len_at_least c.origin-item.is puts ∙ ap (ends_key p number) c.ends.ensures) in
    subst (λ (xs : List ℕ). OnOk c.write_others.result (c.write_others.new.page.file.items ≡ xs))
    (origin_first numbered_end_zones c.numbered_end.result rest (ends_key p number (record_at p c.args.place).ends) c.args.page.now.file.items c.write_end.new.page.file.items c.in_ok-write_end-in-len1-up.ensures all)
    c.write_others.ensures
