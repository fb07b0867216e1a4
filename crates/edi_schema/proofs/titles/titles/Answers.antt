use Rattle.std.proofs.Common.{◌≡◌, ◌∙◌, ◌+◌, map, take, refl, sym, subst, arith}
use Rattle.std.specs.List.{IsDistinct}
use Rattle.std.proofs.lemmas.Grind.{common_steps}
use Rattle.edi_schema.specs.Classes.{is_name}
use Rattle.edi_schema.specs.inner.Drafts.{title_name, definition_said}
use Rattle.edi_schema.proofs.Distinct.{names_distinct, none_distinct, repeat_found, all_distinct}
use Rattle.edi_schema.proofs.titles.titles.Goals as goal

pub loop-place-init : goal.loop-place-init
loop-place-init c = record { names = rw c.with_hasher-titles.ensures.empty refl; distinct = none_distinct }

pub loop-place-preserved : goal.loop-place-preserved
loop-place-preserved c =
    let more : map title_name c.insert.new.self.keys ≡ map (λ d. (definition_said d).name) (take (c.loop-place.place + 1) c.args.records.now) = grind (arith, common_steps) in
    record { names = more; distinct = subst (IsDistinct is_name) more (names_distinct _ (λ a b. refl) c.insert.new.self.keys c.in_ok-insert.ensures.unique) }

pub returns-then-not-branch-clause-repeat : goal.returns-then-not-branch-clause-repeat
returns-then-not-branch-clause-repeat c =
    (refl, refl, repeat_found _ (λ a b. refl) c.args.records.now c.loop-place.place _ c.loop-place.titles.keys c.loop-place-test.true c.loop-place.invariant.names c.loop-place.invariant.distinct (sym c.in_ok-insert.ensures.added ∙ c.if-not-branch.true))

pub returns-clause-distinct : goal.returns-clause-distinct
returns-clause-distinct c = all_distinct c.args.records.now c.loop-place.place c.loop-place-test.false c.loop-place.invariant.distinct
