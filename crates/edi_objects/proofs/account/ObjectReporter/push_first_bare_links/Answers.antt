use Rattle.std.proofs.Common.{◌∙◌, ap}
use Rattle.edi_report.specs.declared.sheet.LocatedSheet.{LocatedSheet}
use Rattle.edi_plan.specs.Places.{places_of}
use Rattle.edi_report.proofs.Reported.{places_there}
use Rattle.edi_record.specs.declared.record.Kind.TheVariants.{Lnk}
use Rattle.edi_objects.proofs.account.ObjectReporter.push_first_bare_links.Goals as goal

pub push_first_bare_link-requires : goal.push_first_bare_link-requires
push_first_bare_link-requires c =
    places_there Lnk c.args.self.now.report.first.accepted c.places-place-items.result.now c.loop-place.place-index
    (c.places-place-items.ensures ∙ ap (places_of Lnk) (c.plan.ensures ∙ ap (λ (s : LocatedSheet). s.accepted) c.first.ensures.sheet)) c.loop-place-test.true
