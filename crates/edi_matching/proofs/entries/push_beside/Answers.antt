use Rattle.std.proofs.Common.{◌∙◌, ◌≡◌, None, Some, Option, List, Vec, Global, ap, get_or, option_map, rules, sym}
use Rattle.edi_plan.specs.Plans.{record_at}
use Rattle.edi_plan.specs.declared.record.PlanEnd.{PlanEnd}
use Rattle.edi_rank.specs.Labelling.{number_of}
use Rattle.edi_rank.specs.declared.keys.NumberedEnd.{NumberedEnd}
use Rattle.edi_matching.specs.declared.entries.NeighbourKey.{NeighbourKey}
use Rattle.edi_matching.specs.declared.ranked.Member.{Member}
use Rattle.edi_matching.specs.inner.Entries.{neighbour_entry}
use Rattle.edi_matching.proofs.Listed.{kept_none, kept_one, known_within}
use Rattle.edi_matching.proofs.entries.push_beside.Goals.{in-Some+in_ok-push, in_default}
use Rattle.edi_matching.proofs.entries.push_beside.Goals as goal

pub loop-end-preserved : goal.loop-end-preserved
loop-end-preserved c =
    let p = c.args.here.plan.now in
    let all = (record_at p c.args.link).ends in
    let n = c.loop-end.end-index in
    let e = c.end-item.result in
    let before = c.args.objects.now.items in
    let labels = c.args.there.labels.now in
    let class = c.scp-class.result in
    let member = c.member-member.result in
    let entry : PlanEnd → Option (NeighbourKey × Member) = neighbour_entry p labels c.args.to.now class c.args.contents member in
    let within = known_within all c.ends-end-items.result.now c.ends-end-items.ensures n e c.loop-end-test.true in
    let at : get_or all n e ≡ e = sym (c.end-item.is ∙ ap (λ (xs : List PlanEnd). get_or xs n e) c.ends-end-items.ensures) in
    let made : NumberedEnd → NeighbourKey × Member = λ x. (record { class = class; end = record { kind = x.kind; number = number_of labels x.number; sns = x.sns }; contents = c.args.contents }, member) in
    let found : entry (get_or all n e) ≡ option_map made c.end_there.result = ap entry at ∙ ap (option_map made) (sym c.end_there.ensures) in
    elim c.match-end_there.branch [
      | in-Some+in_ok-push w ↦
          ap (λ (v : Vec (NeighbourKey × Member) Global). v.items) w.objects-is
          ∙ kept_one entry all n e within before c.loop-end.objects.items w.push.new.self.items
          (record { class = class; end = record { kind = w.in-Some.field-0.kind; number = w.number-number.result; sns = w.in-Some.field-0.sns }; contents = c.args.contents }, member) c.loop-end.invariant
          (found ∙ (ap (option_map made) w.in-Some.is ∙ ap (λ k. Some (record { class = class; end = record { kind = w.in-Some.field-0.kind; number = k; sns = w.in-Some.field-0.sns }; contents = c.args.contents }, member)) (sym w.number-number.ensures)))
          w.in_ok-push.ensures.items
      | in_default w ↦
          let none : c.end_there.result ≡ None = search rules in
          ap (λ (v : Vec (NeighbourKey × Member) Global). v.items) w.objects-is
          ∙ kept_none entry all n e within before c.loop-end.objects.items c.loop-end.invariant (found ∙ ap (option_map made) none)
    ]
