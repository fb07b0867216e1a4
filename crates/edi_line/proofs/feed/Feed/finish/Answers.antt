use Rattle.std.proofs.Common.{◌≡◌, Some, option_map, refl, sym, ap, ◌∙◌, subst, arith}
use Rattle.std.proofs.lemmas.Result.{err_from_is_err_and}
use Rattle.edi_line.specs.Feeding.{StandsBy, fault_seen}
use Rattle.edi_line.specs.inner.Feeding.{RefusesOne, refusal_seen}
use Rattle.edi_line.specs.LineRules.{BreaksLineRule}
use Rattle.edi_line.specs.Refusal.{IsLeastBroken}
use Rattle.edi_line.specs.inner.Zones.{readings_of}
use Rattle.edi_line.specs.contracts.feed.Feed.{the_view}
use Rattle.edi_line.proofs.Passes.{end_refused, end_sound, end_zones}
use Rattle.edi_line.proofs.Shape.{end_shape, end_few}
use Rattle.edi_line.proofs.Feeds.{if_broken, refused_of_all, held_by, holds_room, end_by, end_least, end_room}
use Rattle.edi_line.proofs.feed.Feed.finish.Goals as goal

pub returns-in-Some-clause-least : goal.returns-in-Some-clause-least
returns-in-Some-clause-least c =
    let f = c.args.self in
    let is : f.refused ≡ Some (fault_seen c.fault.result) = sym (ap (λ s. s.refused) c.self.view_is) ∙ ap (option_map refusal_seen) c.in-Some.is ∙ ap (λ r. Some r) (sym c.fault.ensures) in
    λ b h. refused_of_all b f c.fault.result (subst (StandsBy b f) is h)

pub take_last-requires-clause-room : goal.take_last-requires-clause-room
take_last-requires-clause-room c =
    let v = the_view c.self.inside in
    let none = ap (option_map refusal_seen) c.in_default.is in
    let is = c.requires (sym (ap (λ s. s.refused) c.self.view_is) ∙ none) in
    omega (arith, is.2, holds_room is.0 v (held_by is.0 v c.args.self c.self.view_is none is.1))

pub returns-in_err-take_last-clause-least : goal.returns-in_err-take_last-clause-least
returns-in_err-take_last-clause-least c =
    let p = err_from_is_err_and c.from_residual.result c.from_residual.ensures.1 in
    let v = the_view c.self.inside in
    let none = ap (option_map refusal_seen) c.in_default.is in
    λ b h. rw (p.1, p.2) (if_broken (RefusesOne c.self.inside.reader (readings_of c.deref.result.now)) (IsLeastBroken (BreaksLineRule b))
    (λ rule place one. end_least b v c.self.inside.reader rule place (refl, refl, refl) (held_by b v c.args.self c.self.view_is none h)
    (subst (λ x. RefusesOne c.self.inside.reader (readings_of x) rule place) c.deref.ensures.value one))
    c.in_err-take_last.field-0.0 c.in_err-take_last.ensures.broken)

pub finish-requires : goal.finish-requires
finish-requires c =
    let none = ap (option_map refusal_seen) c.in_default.is in
    let is = c.requires (sym (ap (λ s. s.refused) c.self.view_is) ∙ none) in
    let s = end_by is.0 c.deref.result.now (the_view c.self.inside) c.args.self c.self.inside.reader c.take_last.new.reader (refl, refl, refl) c.self.view_is none c.deref.ensures.value c.in_ok-take_last.ensures.ok is.1 in
    omega (arith, is.2, end_room is.0 c.take_last.new.reader s)

pub returns-clause-zones : goal.returns-clause-zones
returns-clause-zones c =
    let none = ap (option_map refusal_seen) c.in_default.is in
    λ b h. end_zones b c.take_last.new.reader c.finish.result
    (end_by b c.deref.result.now (the_view c.self.inside) c.args.self c.self.inside.reader c.take_last.new.reader (refl, refl, refl) c.self.view_is none c.deref.ensures.value c.in_ok-take_last.ensures.ok h)
    c.finish.ensures.ok

pub returns-clause-shape : goal.returns-clause-shape
returns-clause-shape c =
    let none = ap (option_map refusal_seen) c.in_default.is in
    λ b h. end_shape (readings_of b) c.take_last.new.reader c.finish.result
    (end_by b c.deref.result.now (the_view c.self.inside) c.args.self c.self.inside.reader c.take_last.new.reader (refl, refl, refl) c.self.view_is none c.deref.ensures.value c.in_ok-take_last.ensures.ok h)
    c.finish.ensures.ok

pub returns-clause-few : goal.returns-clause-few
returns-clause-few c =
    let none = ap (option_map refusal_seen) c.in_default.is in
    λ b h. end_few (readings_of b) c.take_last.new.reader c.finish.result
    (end_by b c.deref.result.now (the_view c.self.inside) c.args.self c.self.inside.reader c.take_last.new.reader (refl, refl, refl) c.self.view_is none c.deref.ensures.value c.in_ok-take_last.ensures.ok h)
    c.finish.ensures.ok

pub returns-clause-sound : goal.returns-clause-sound
returns-clause-sound c =
    let none = ap (option_map refusal_seen) c.in_default.is in
    λ b h. end_sound b c.take_last.new.reader c.finish.result
    (end_by b c.deref.result.now (the_view c.self.inside) c.args.self c.self.inside.reader c.take_last.new.reader (refl, refl, refl) c.self.view_is none c.deref.ensures.value c.in_ok-take_last.ensures.ok h)
    c.finish.ensures.ok

pub returns-clause-least : goal.returns-clause-least
returns-clause-least c =
    let none = ap (option_map refusal_seen) c.in_default.is in
    λ b h. end_refused b c.take_last.new.reader c.finish.result
    (end_by b c.deref.result.now (the_view c.self.inside) c.args.self c.self.inside.reader c.take_last.new.reader (refl, refl, refl) c.self.view_is none c.deref.ensures.value c.in_ok-take_last.ensures.ok h)
    c.finish.ensures.broken
