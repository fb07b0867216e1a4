use Rattle.std.proofs.Common.{◌≡◌, ◌∙◌, ◌<◌, ◌≤◌, Some, slice_get, sym, ap, subst}
use Rattle.edi_record.specs.Shapes.{stated_at}
use Rattle.edi_record.specs.declared.name.Name.{Name}
use Rattle.edi_record.proofs.StatedAt.{stated_there}
use Rattle.edi_record.proofs.KindCodes.{kind_from_code}
use Rattle.edi_plan.specs.inner.Names.{place_in, is_tabled}
use Rattle.edi_plan.proofs.NameLemmas.{first_own, first_put, was_there, was_new, repeat_more, repeat_none, repeat_all, names_of, left_out, no_link, repeat_apart, first_apart}
use Rattle.edi_plan.proofs.names.NameTable.among.Goals as goal
use Rattle.edi_plan.proofs.names.NameTable.among.Goals.{then-first-place, else-first-place}

pub loop-place-preserved-then-not-is_tabled : goal.loop-place-preserved-then-not-is_tabled
loop-place-preserved-then-not-is_tabled c =
    let records = c.args.records.now in
    let n = c.loop-place.place in
    let r = stated_at records n in
    let rise = c.links_rise-links_rise.result in
    let kind = kind_from_code c.name_at-name.result.kind r.kind (ap (λ (m : Name). m.rty) c.name_at-name.ensures) in
    let here : slice_get records n ≡ Some r = stated_there records n (subst (λ m. n < m) c.len-place-end.ensures.len c.loop-place-test.true) in
    let out = left_out rise r.kind (ap (is_tabled rise) (sym kind) ∙ (sym c.is_tabled.ensures ∙ c.if-not-is_tabled.true)) in
    record {
      first = λ q tabled. first_apart records n r here q (no_link rise q.kind out.0 tabled) out.1 (place_in c.loop-place.places.entries q) (c.loop-place.invariant.first q tabled);
      repeat = repeat_apart records n r here (c.links_rise-links_rise.ensures out.0) out.1 c.loop-place.repeat c.loop-place.invariant.repeat;
    }

pub loop-place-preserved : goal.loop-place-preserved
loop-place-preserved c =
    let records = c.args.records.now in
    let n = c.loop-place.place in
    let r = stated_at records n in
    let table = c.loop-place.places.entries in
    let name = c.name_at-name.result in
    let rise = c.links_rise-links_rise.result in
    let kind = kind_from_code c.name_at-name.result.kind r.kind (ap (λ (m : Name). m.rty) c.name_at-name.ensures) in
    let here : slice_get records n ≡ Some r = stated_there records n (subst (λ m. n < m) c.len-place-end.ensures.len c.loop-place-test.true) in
    let tabled = ap (is_tabled rise) (sym kind) ∙ (sym c.is_tabled.ensures ∙ c.if-not-is_tabled.false) in
    let own = first_own records n r here rise tabled name c.name_at-name.ensures table c.place_or.new.places.entries c.in_ok-first.ensures.put c.loop-place.invariant.first in
    let first = first_put records n r here rise tabled name c.name_at-name.ensures table c.place_or.new.places.entries c.in_ok-first.ensures.put c.loop-place.invariant.first in
    elim c.if-first-place.branch [
      | then-first-place w ↦ record {
        first = first;
        repeat = rw (w.repeat-is, w.or-repeat.ensures) (repeat_more records n r here (place_in table name) c.loop-place.repeat own (was_there records n _ (place_in table name) own (λ same. w.if-first-place.true (c.in_ok-first.ensures.first ∙ same))) c.loop-place.invariant.repeat);
      }
      | else-first-place w ↦ record {
        first = first;
        repeat = rw w.repeat-is (repeat_none records n r here (place_in table name) c.loop-place.repeat own (was_new records n _ (place_in table name) own (sym c.in_ok-first.ensures.first ∙ w.if-first-place.false)) c.loop-place.invariant.repeat);
      }
    ]

pub returns-clause-names : goal.returns-clause-names
returns-clause-names c = names_of c.args.records.now c.loop-place.place (subst (λ m. m ≤ c.loop-place.place) c.len-place-end.ensures.len c.loop-place-test.false) c.links_rise-links_rise.result c.loop-place.places.entries c.loop-place.invariant.first

pub returns-clause-repeat : goal.returns-clause-repeat
returns-clause-repeat c = repeat_all c.args.records.now c.loop-place.place c.loop-place.repeat (subst (λ m. m ≤ c.loop-place.place) c.len-place-end.ensures.len c.loop-place-test.false) c.loop-place.invariant.repeat
