use Rattle.std.proofs.Common.{◌∙◌, ◌≡◌, Some, Vec, Global, ap, option_map, sym}
use Rattle.edi_plan.specs.Plans.{record_at}
use Rattle.edi_rank.specs.declared.keys.NumberedEnd.{NumberedEnd}
use Rattle.edi_matching.specs.inner.Entries.{ends_there, link_key_with}
use Rattle.edi_matching.proofs.PlainEnds.{link_known}
use Rattle.edi_matching.proofs.entries.link_there.Goals as goal

pub returns-in_ok-link_key-in-Some : goal.returns-in_ok-link_key-in-Some
returns-in_ok-link_key-in-Some c =
    let p = c.args.plan.now in
    let r = record_at p c.args.place in
    let ends = c.in-Some.ends.items in
    let goes : ends_there p c.args.to.now r.ends ≡ Some ends = ap (ends_there p c.args.to.now) (sym c.ends.ensures)
    ∙ (sym c.in_ok-ends.ensures ∙ ap (option_map (λ (v : Vec NumberedEnd Global). v.items)) c.in-Some.is) in
    ap Some (c.in_ok-link_key-in-Some.ensures ∙ ap (λ k. link_key_with k ends r) c.class_after_reversals-class.ensures)
    ∙ sym (link_known c.args.schema.now p c.args.to.now c.args.turned.now r c.plain_ends.result (sym c.is_some.ensures ∙ c.if-is_some.false) c.plain_ends.ensures.ends c.plain_ends.ensures.none ends goes)
