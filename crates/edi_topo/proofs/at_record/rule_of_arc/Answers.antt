use Rattle.std.proofs.Common.{ℕ, ◌≤◌, sym, ap, ◌∙◌, reverse, arith, true≢false}
use Rattle.edi_topo.specs.inner.Arcs.{RepeatsAnEarlierArc}
use Rattle.edi_topo.proofs.AtPlaces.{at_first, has_it, arc_breaks, BreaksOfArc, breaks_of_arc}
use Rattle.edi_topo.proofs.AtPlaces.BreaksOfArc.{starts, ends, reverses, repeats}
use Rattle.edi_topo.proofs.at_record.rule_of_arc.Goals as goal

pub returns-then-is_place : goal.returns-then-is_place
returns-then-is_place c = record {
  is = arc_breaks c.args.plan.now c.args.place (has_it (RepeatsAnEarlierArc c.args.plan.now) c.args.repeat c.args.place (c.is_place.ensures.0 c.if-is_place.true) c.requires.first);
  least = λ rule h. go rule (breaks_of_arc c.args.plan.now c.args.place c.requires.arc rule h);
}
  where
    go : (rule : ℕ) → BreaksOfArc c.args.plan.now c.args.place rule → 405 ≤ rule
    go rule (starts e h) = absurd (true≢false (sym (c.starts_elsewhere.ensures.1 h) ∙ c.if-starts_elsewhere.false))
    go rule (ends e h) = absurd (true≢false (sym (c.ends_elsewhere.ensures.1 h) ∙ c.if-ends_elsewhere.false))
    go rule (reverses e h) = absurd (true≢false (sym (c.equals_reverse.ensures.1 (c.points.ensures ∙ (h ∙ sym (ap reverse c.points.ensures)))) ∙ c.if-equals_reverse.false))
    go rule (repeats e h) = omega (arith, e)

pub returns-else-is_place : goal.returns-else-is_place
returns-else-is_place c = λ rule h. go rule (breaks_of_arc c.args.plan.now c.args.place c.requires.arc rule h)
  where
    go : (rule : ℕ) → BreaksOfArc c.args.plan.now c.args.place rule → ⊥
    go rule (starts e h) = true≢false (sym (c.starts_elsewhere.ensures.1 h) ∙ c.if-starts_elsewhere.false)
    go rule (ends e h) = true≢false (sym (c.ends_elsewhere.ensures.1 h) ∙ c.if-ends_elsewhere.false)
    go rule (reverses e h) = true≢false (sym (c.equals_reverse.ensures.1 (c.points.ensures ∙ (h ∙ sym (ap reverse c.points.ensures)))) ∙ c.if-equals_reverse.false)
    go rule (repeats e h) = true≢false (sym (c.is_place.ensures.1 (at_first (RepeatsAnEarlierArc c.args.plan.now) c.args.repeat c.args.place c.requires.first c.requires.ahead h)) ∙ c.if-is_place.false)
