use Rattle.std.proofs.Common.{ℕ, ◌∙◌, ◌<◌, ◌≤◌, true, ap, subst, sym, arith}
use Rattle.std.proofs.lemmas.Bool.{false≢true}
use Rattle.edi_plan.specs.inner.Hints.{StandsUnder}
use Rattle.edi_plan.specs.inner.Names.{is_tabled}
use Rattle.edi_plan.proofs.HintLemmas.{kind_there, rid_there}
use Rattle.edi_plan.proofs.SlotLemmas.{keeps_same, places_found, stand_more}
use Rattle.edi_plan.proofs.name_slots.NameHints.among.Goals as goal

pub loop-place-preserved-then-not-is_tabled : goal.loop-place-preserved-then-not-is_tabled
loop-place-preserved-then-not-is_tabled c =
    let list = c.args.records.now in
    let place = c.loop-place.place in
    let few : place < 16777215 = omega (arith, c.requires, c.len-place-end.ensures.len, c.loop-place-test.true) in
    let name = c.name_at-name.result in
    let slots = c.loop-place.hints.slots.items in
    stand_more c.args.links_rise list slots slots (keeps_same slots) place few c.loop-place.invariant
    (λ r there tabled.
    let kind = kind_there list place r name.kind name.rid.now there c.name_at-name.ensures in
    absurd (false≢true (sym c.if-not-is_tabled.true ∙ (c.is_tabled.ensures ∙ (ap (is_tabled c.args.links_rise) kind ∙ tabled)))))

pub loop-place-preserved : goal.loop-place-preserved
loop-place-preserved c =
    let list = c.args.records.now in
    let place = c.loop-place.place in
    let few : place < 16777215 = omega (arith, c.requires, c.len-place-end.ensures.len, c.loop-place-test.true) in
    let name = c.name_at-name.result in
    let slots = c.put.new.self.slots.items in
    stand_more c.args.links_rise list c.loop-place.hints.slots.items slots c.put.ensures.kept place few c.loop-place.invariant
    (λ r there tabled.
    let kind = kind_there list place r name.kind name.rid.now there c.name_at-name.ensures in
    let rid = rid_there list place r name.kind name.rid.now there c.name_at-name.ensures in
    let stands : StandsUnder list slots name.kind name.rid.now place = c.put.ensures.put c.if-not-put.false in
    subst (λ k. StandsUnder list slots k r.rid place) kind (subst (λ i. StandsUnder list slots name.kind i place) rid stands))

pub returns : goal.returns
returns c = places_found c.args.links_rise c.args.records.now c.loop-place.hints c.loop-place.place c.requires
    (subst (λ (n : ℕ). n ≤ c.loop-place.place) c.len-place-end.ensures.len c.loop-place-test.false) c.loop-place.invariant
