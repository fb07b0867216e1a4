-- The verdict, and the pairs of its pairing, are those under the schema.
use Rattle.std.proofs.Common.{inl, ap, subst, ◌∙◌}
use Rattle.edi_compare.specs.Verdicts.{IsVerdict}
use Rattle.edi_compare.specs.declared.pairing.Verdict.{Verdict}
use Rattle.edi_compare.specs.declared.pairing.Verdict.TheVariants.{Same, Different}
use Rattle.edicad_c.specs.Held.{in_box}
use Rattle.edicad_c.proofs.pairings.record_pairs.Goals as goal

pub returns-in-Ok-Same : goal.returns-in-Ok-Same
returns-in-Ok-Same c =
    let w = c.in-Ok-Same in
    inl (
      Same w.pairing,
      w.ensures.first,
      w.ensures.second,
      subst (λ (v : Verdict). IsVerdict c.args.schema.now c.args.first.now c.args.second.now v) w.field-0-is w.ensures.verdict,
      c.pairs_given.ensures,
    )

pub returns-in-Ok-Different : goal.returns-in-Ok-Different
returns-in-Ok-Different c =
    let g = c.nothing in let w = c.in-Ok-Different in
    inl (
      Different w.line,
      w.ensures.first,
      w.ensures.second,
      subst (λ (v : Verdict). IsVerdict c.args.schema.now c.args.first.now c.args.second.now v) w.field-0-is w.ensures.verdict,
      (ap in_box g.ensures.nothing, g.ensures.answer ∙ c.differs_at.ensures),
    )
