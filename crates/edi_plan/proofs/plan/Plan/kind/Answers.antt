use Rattle.std.proofs.Common.{◌≡◌, ◌<◌, ◌∙◌, ℕ, length, get_or, sym, ap, subst, map, arith}
use Rattle.std.proofs.lemmas.List.{get_or-map, length-map}
use Rattle.edi_record.specs.declared.record.Kind.TheVariants.{Pno}
use Rattle.edi_plan.specs.Plans.{PlanData, blank, record_at}
use Rattle.edi_plan.specs.inner.RecordLists.{plan_records_of}
use Rattle.edi_plan.specs.declared.record.PlanRecord.{PlanRecord}
use Rattle.edi_plan.proofs.plan.Plan.kind.Goals as goal

-- the types of the records of a plan, at a place of it
kind_there : (p : PlanData) (place : ℕ) → place < length p.list → get_or (map (λ (r : PlanRecord). r.kind) p.list) place Pno ≡ (record_at p place).kind
kind_there p place there = get_or-map (λ (r : PlanRecord). r.kind) p.list place blank Pno there

-- the place is one of the plan that the table is of
there_inside : (p q : PlanData) (place : ℕ) → p ≡ q → place < length q.list → place < length p.list
there_inside p q place is there = subst (λ (r : PlanData). place < length r.list) (sym is) there

pub kind-requires : goal.kind-requires
kind-requires c =
    let list = plan_records_of c.self.inside.list in
    let there = there_inside (record { cse = c.self.inside.cse; list = list }) c.args.self.now c.args.place c.self.view_is c.requires in
    omega (arith, there, ap length c.self.invariant.1.0, length-map list (λ (r : PlanRecord). r.kind))

pub returns : goal.returns
returns c =
    let p : PlanData = record { cse = c.self.inside.cse; list = plan_records_of c.self.inside.list } in
    let there = there_inside p c.args.self.now c.args.place c.self.view_is c.requires in
    let same : (record_at p c.args.place).kind ≡ (record_at c.args.self.now c.args.place).kind = ap (λ (q : PlanData). (record_at q c.args.place).kind) c.self.view_is in
    c.kind.ensures Pno ∙ (ap (λ ks. get_or ks c.args.place Pno) c.self.invariant.1.0 ∙ (kind_there p c.args.place there ∙ same))
