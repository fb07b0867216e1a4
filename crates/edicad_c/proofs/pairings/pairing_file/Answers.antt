-- The file is that of a pairing under the schema, or there is none.
use Rattle.std.proofs.Common.{inl, ap, subst, ◌∙◌}
use Rattle.edi_pairing.specs.Verified.{IsComparedTo}
use Rattle.edi_pairing.specs.declared.writing.Compared.{Compared}
use Rattle.edi_pairing.specs.declared.writing.Compared.TheVariants.{Same, Different}
use Rattle.edicad_c.specs.declared.answer.Answer.{Answer}
use Rattle.edicad_c.specs.Held.{IsGiven, in_box}
use Rattle.edicad_c.proofs.pairings.pairing_file.Goals as goal

pub returns-in-Ok-Same : goal.returns-in-Ok-Same
returns-in-Ok-Same c =
    let g = c.of_bytes in let w = c.in-Ok-Same in
    inl (
      Same w.file,
      w.ensures.first,
      w.ensures.second,
      subst (λ (d : Compared). IsComparedTo c.args.schema.now c.args.first.now c.args.second.now d) w.field-0-is w.ensures.compared,
      subst (λ (d : Answer). IsGiven d w.file.items (in_box g.result.content) g.result.answer) c.done.ensures g.ensures,
    )

pub returns-in-Ok-Different : goal.returns-in-Ok-Different
returns-in-Ok-Different c =
    let g = c.nothing in let w = c.in-Ok-Different in
    inl (
      Different w.line,
      w.ensures.first,
      w.ensures.second,
      subst (λ (d : Compared). IsComparedTo c.args.schema.now c.args.first.now c.args.second.now d) w.field-0-is w.ensures.compared,
      (ap in_box g.ensures.nothing, g.ensures.answer ∙ c.differs_at.ensures),
    )
