use Rattle.std.proofs.Common.{subst}
use Rattle.edi_schema.specs.Roles.{KindCodes}
use Rattle.edi_schema.specs.SchemaRefusal.{IsGoodSchema}
use Rattle.edi_compare.specs.Runs.{MatchFault, RefusesSchema}
use Rattle.edi_answers.specs.Hashes.{escaped_name}
use Rattle.edi_answers.proofs.Noted.{note_of_sound}
use Rattle.edi_answers.proofs.hashes.noted_schema.Goals as goal

pub returns-in-Ok-note_on-clause-ok : goal.returns-in-Ok-note_on-clause-ok
returns-in-Ok-note_on-clause-ok c = (
  subst (λ (k : KindCodes). IsGoodSchema c.args.scd.now c.args.dic.now k c.in-Ok.schema) c.kinds.ensures c.in-Ok.ensures.ok,
  note_of_sound c.args.kinds.now c.args.scd.now (escaped_name c.args.files.now.scd.now) c.in-Ok-note_on.note.items c.in-Ok.ensures.ok.lines.0 c.in-Ok-note_on.ensures,
)

pub returns-in-Err-clause-err : goal.returns-in-Err-clause-err
returns-in-Err-clause-err c =
    subst (λ (k : KindCodes). MatchFault c.in-Err.fault (λ _. ⊥) (λ _. ⊥) (RefusesSchema k c.args.scd.now c.args.dic.now) (λ _. ⊥) (λ _. ⊥) (λ _. ⊥)) c.kinds.ensures c.in-Err.ensures.err
