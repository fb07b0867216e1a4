use Rattle.edi_record.specs.declared.record.Kind.TheVariants.{Lnk}
use Rattle.edi_plan.proofs.PlaceLemmas.{place_there}
use Rattle.std.proofs.Common.{length, subst, List, ℕ, ◌<◌, get_or, sym}
use Rattle.edi_plan.specs.Plans.{IsPlace}
use Rattle.edi_objects.proofs.index.push_all_named.Goals as goal

pub push_named-requires : goal.push_named-requires
push_named-requires c =
    let is = c.places-link-items.ensures in
    subst (λ (ps : List ℕ). IsPlace c.args.plan.now (get_or ps c.loop-link.link-index 0)) (sym is)
    (place_there Lnk c.args.plan.now c.loop-link.link-index (subst (λ (ps : List ℕ). c.loop-link.link-index < length ps) is c.loop-link-test.true))
