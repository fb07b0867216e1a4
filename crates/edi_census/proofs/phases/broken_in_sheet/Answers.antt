use Rattle.std.proofs.Common.{◌∙◌, List, ap, length, sym, subst, arith}
use Rattle.edi_line.specs.AllBroken.{AreAllBroken}
use Rattle.edi_record.specs.declared.record.Record.{Record}
use Rattle.edi_plan.specs.ReferenceRules.{BreaksReferenceRule}
use Rattle.edi_compare.proofs.Phases.{references_held}
use Rattle.edi_census.proofs.PhaseByPhase.{all_of_references, is_some, none_broken}
use Rattle.edi_census.proofs.phases.broken_in_sheet.Goals as goal

pub broken_references-requires : goal.broken_references-requires
broken_references-requires c = let whole = c.keeps.ensures in omega (arith, whole.few, ap length c.list.ensures)

pub returns-then-not-is_none : goal.returns-then-not-is_none
returns-then-not-is_none c =
    all_of_references c.args.schema.now c.args.bytes.now c.in_ok-list.list.items c.requires c.in_ok-sheet.sheet c.in_ok-sheet.ensures
    (subst (λ (l : List Record). AreAllBroken (BreaksReferenceRule c.args.schema.now l) c.in_ok-list.list.items) c.list.ensures c.in_ok-list.ensures)
    (is_some c.deref.result.now c.in_ok-list.list.items c.is_none.result c.if-not-is_none.true c.is_none.ensures.some c.deref.ensures.value)

pub plan_of-requires-clause-held : goal.plan_of-requires-clause-held
plan_of-requires-clause-held c =
    references_held c.args.schema.now c.args.bytes.now c.requires c.in_ok-sheet.sheet c.in_ok-sheet.ensures
    (none_broken (BreaksReferenceRule c.args.schema.now c.in_ok-sheet.sheet.list) c.in_ok-list.list.items
    (subst (λ (l : List Record). AreAllBroken (BreaksReferenceRule c.args.schema.now l) c.in_ok-list.list.items) c.list.ensures c.in_ok-list.ensures)
    (sym c.deref.ensures.value ∙ c.is_none.ensures.none c.if-not-is_none.false))

pub broken_in_plan-requires-clause-held : goal.broken_in_plan-requires-clause-held
broken_in_plan-requires-clause-held c =
    references_held c.args.schema.now c.args.bytes.now c.requires c.in_ok-sheet.sheet c.in_ok-sheet.ensures
    (none_broken (BreaksReferenceRule c.args.schema.now c.in_ok-sheet.sheet.list) c.in_ok-list.list.items
    (subst (λ (l : List Record). AreAllBroken (BreaksReferenceRule c.args.schema.now l) c.in_ok-list.list.items) c.list.ensures c.in_ok-list.ensures)
    (sym c.deref.ensures.value ∙ c.is_none.ensures.none c.if-not-is_none.false))
