use Rattle.std.proofs.Common.{◌≡◌, ◌++◌, Some, option_map, refl, sym, ap, ◌∙◌, subst, arith}
use Rattle.edi_line.specs.Feeding.{StandsBy, HoldsFault, fault_seen}
use Rattle.edi_line.specs.inner.Feeding.{RefusesIn, refusal_seen}
use Rattle.edi_line.specs.inner.Zones.{readings_of}
use Rattle.edi_line.proofs.Feeds.{held_stands, if_broken, refused_still, held_by, stands_by, holds_room, piece_taken, piece_refused}
use Rattle.edi_line.specs.contracts.feed.Feed.{the_view}
use Rattle.edi_line.proofs.feed.Feed.feed.Goals as goal

pub returns-in-Some-clause-broken : goal.returns-in-Some-clause-broken
returns-in-Some-clause-broken c =
    let f = c.args.self.now in
    let is : f.refused ≡ Some (fault_seen c.fault.result) = sym (ap (λ s. s.refused) c.self.view_is) ∙ ap (option_map refusal_seen) c.in-Some.is ∙ ap (λ r. Some r) (sym c.fault.ensures) in
    λ b h. refused_still b c.args.piece.now f c.fault.result (subst (StandsBy b f) is h)

pub take_piece-requires-clause-room : goal.take_piece-requires-clause-room
take_piece-requires-clause-room c =
    let v = the_view c.self.inside in
    let none = ap (option_map refusal_seen) c.in_default.is in
    let is = c.requires (sym (ap (λ s. s.refused) c.self.view_is) ∙ none) in
    omega (arith, is.2, holds_room is.0 v (held_by is.0 v c.args.self.now c.self.view_is none is.1))

pub take_piece-requires-clause-holds : goal.take_piece-requires-clause-holds
take_piece-requires-clause-holds c =
    let v = the_view c.self.inside in
    let none = ap (option_map refusal_seen) c.in_default.is in
    let is = c.requires (sym (ap (λ s. s.refused) c.self.view_is) ∙ none) in
    let h = held_by is.0 v c.args.self.now c.self.view_is none is.1 in
    (readings_of h.ended, held_stands is.0 v c.self.inside.reader (refl, refl, refl) h)

pub returns-in-Ok-clause-takes : goal.returns-in-Ok-clause-takes
returns-in-Ok-clause-takes c =
    let v = the_view c.self.inside in
    let none = ap (option_map refusal_seen) c.in_default.is in
    λ b h. stands_by (b ++ c.args.piece.now) _ none (piece_taken b c.args.piece.now v _ c.self.inside.reader c.take_piece.new.reader (refl, refl, refl) (refl, refl, refl)
    (held_by b v c.args.self.now c.self.view_is none h) c.in-Ok.ensures.ok)

pub returns-in-Err-clause-broken : goal.returns-in-Err-clause-broken
returns-in-Err-clause-broken c =
    let v = the_view c.self.inside in
    let none = ap (option_map refusal_seen) c.in_default.is in
    λ b h. if_broken (RefusesIn c.self.inside.reader (v.pending ++ c.args.piece.now)) (HoldsFault (b ++ c.args.piece.now))
    (λ rule place t. piece_refused b c.args.piece.now v c.self.inside.reader rule place (refl, refl, refl) (held_by b v c.args.self.now c.self.view_is none h) t)
    c.in-Err.fault c.in-Err.ensures.broken
