use Rattle.std.proofs.Common.{◌∙◌, ◌==◌, ℕ, Bool, Vec, Global, ap, sym}
use Rattle.std.specs.List.{list_any}
use Rattle.edi_record.specs.declared.record.Kind.TheVariants.{Lnk}
use Rattle.edi_plan.specs.Plans.{record_at}
use Rattle.edi_picture.proofs.Joined.{places_there}
use Rattle.uses.proofs.Kept.{one_kept, one_left}
use Rattle.uses.proofs.plans.links_naming.Goals.{then-names+in_ok-push, else-names}
use Rattle.uses.proofs.plans.links_naming.Goals as goal

pub names-requires : goal.names-requires
names-requires c =
    places_there Lnk c.args.plan.now c.places-link-items.result.now c.loop-link.link-index c.places-link-items.ensures c.loop-link-test.true

pub loop-link-preserved : goal.loop-link-preserved
loop-link-preserved c =
    let test : ℕ → Bool = λ link. list_any (λ e. e.target == c.args.place) (record_at c.args.plan.now link).ends in
    let links = c.places-link-items.result.now in
    let n = c.loop-link.link-index in
    elim c.if-names.branch [
      | then-names+in_ok-push w ↦
          ap (λ (v : Vec ℕ Global). v.items) w.found-is
          ∙ one_kept test links n c.loop-link.found.items w.push.new.self.items c.loop-link-test.true (sym c.names.ensures ∙ w.if-names.true) c.loop-link.invariant w.in_ok-push.ensures.items
      | else-names w ↦
          ap (λ (v : Vec ℕ Global). v.items) w.found-is
          ∙ one_left test links n c.loop-link.found.items c.loop-link-test.true (sym c.names.ensures ∙ w.if-names.false) c.loop-link.invariant
    ]
