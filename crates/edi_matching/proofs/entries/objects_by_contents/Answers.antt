use Rattle.std.proofs.Common.{◌∙◌, ◌++◌, ◌≡◌, ℕ, None, Vec, Global, ap, cond, get_or, option_to_list, sym}
use Rattle.edi_record.specs.declared.record.Kind.TheVariants.{Fea}
use Rattle.edi_plan.specs.Places.{places_of}
use Rattle.edi_matching.specs.declared.entries.ContentKey.{ContentKey}
use Rattle.edi_matching.specs.declared.ranked.Member.{Member}
use Rattle.edi_matching.specs.inner.Entries.{content_at, content_entry}
use Rattle.edi_matching.specs.inner.Ranked.{member_at}
use Rattle.edi_matching.proofs.Listed.{known_any, known_none}
use Rattle.edi_matching.proofs.entries.objects_by_contents.Goals.{then-not-is_done+in_ok-push_contents, else-not-is_done}
use Rattle.edi_matching.proofs.entries.objects_by_contents.Goals as goal

pub loop-place-preserved : goal.loop-place-preserved
loop-place-preserved c =
    let p = c.args.here.plan.now in
    let l = c.args.here.labels.now in
    let items = c.places-place-items.result.now in
    let n = c.loop-place.place-index in
    let place : ℕ = get_or items n 0 in
    let old = c.loop-place.objects.items in
    let entry = content_entry p l c.args.done.now in
    let found : entry place ≡ cond c.is_done.result None (content_at p (member_at l place)) = ap (λ b. cond b None (content_at p (member_at l place))) (sym c.is_done.ensures) in
    elim c.if-not-is_done.branch [
      | then-not-is_done+in_ok-push_contents w ↦
          let is : content_at p w.member-member.result ≡ entry place = ap (content_at p) w.member-member.ensures ∙ sym (found ∙ ap (λ b. cond b None (content_at p (member_at l place))) w.if-not-is_done.true) in
          ap (λ (v : Vec (ContentKey × Member) Global). v.items) w.objects-is
          ∙ known_any (places_of Fea p) items c.places-place-items.ensures n 0 entry old w.push_contents.new.records.items c.loop-place-test.true c.loop-place.invariant
          (w.in_ok-push_contents.ensures ∙ ap (λ o. old ++ option_to_list o) is)
      | else-not-is_done w ↦
          ap (λ (v : Vec (ContentKey × Member) Global). v.items) w.objects-is
          ∙ known_none (places_of Fea p) items c.places-place-items.ensures n 0 entry old c.loop-place-test.true c.loop-place.invariant
          (found ∙ ap (λ b. cond b None (content_at p (member_at l place))) w.if-not-is_done.false)
    ]
