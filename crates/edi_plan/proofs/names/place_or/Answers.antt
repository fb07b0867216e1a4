use Rattle.std.proofs.Common.{◌∙◌, unwrap_or, ap, rules}
use Rattle.edi_plan.proofs.NameLemmas.{by_eq, put_or}
use Rattle.edi_plan.proofs.names.place_or.Goals as goal

pub returns-clause-first : goal.returns-clause-first
returns-clause-first c = c.or_insert.ensures.value ∙ ap (λ o. unwrap_or o c.args.place) (c.in_ok-places.ensures.value ∙ by_eq c.args.name c.args.places.now.entries)

pub returns-clause-put : goal.returns-clause-put
returns-clause-put c =
    let written = c.in_ok-places.ensures.update.0 c.or_insert.result.now in
    put_or c.args.places.now.entries _ c.args.name c.args.place c.or_insert.result.now
    (c.or_insert.ensures.value ∙ ap (λ o. unwrap_or o c.args.place) c.in_ok-places.ensures.value)
    (λ q. search (written.0, rules))
