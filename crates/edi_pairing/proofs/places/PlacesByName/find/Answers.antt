use Rattle.std.proofs.Common.{◌∙◌, Some, None, sym, subst}
use Rattle.edi_pairing.specs.inner.Places.{IsPlaceIfAny}
use Rattle.edi_pairing.proofs.PlaceLemmas.{place_found}
use Rattle.edi_pairing.proofs.places.PlacesByName.find.Goals as goal

pub returns-in-Some-clause-place : goal.returns-in-Some-clause-place
returns-in-Some-clause-place c =
    subst (λ names. IsPlaceIfAny names (record { kind = c.args.kind; rid = c.args.rid.now }) (Some c.in-Some.place)) c.self.view_is
    (place_found c.self.inside.names.keys (record { kind = c.args.kind; rid = c.args.rid }) (Some c.in-Some.place) (sym c.in-Some.is ∙ c.get_index_of.ensures.index))

pub returns-in-None-clause-place : goal.returns-in-None-clause-place
returns-in-None-clause-place c =
    subst (λ names. IsPlaceIfAny names (record { kind = c.args.kind; rid = c.args.rid.now }) None) c.self.view_is
    (place_found c.self.inside.names.keys (record { kind = c.args.kind; rid = c.args.rid }) None (sym c.in-None.is ∙ c.get_index_of.ensures.index))
