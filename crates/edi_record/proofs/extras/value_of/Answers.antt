use Rattle.std.proofs.Common.{◌≡◌, None, MatchOption, ℤ, subst, rules}
use Rattle.edi_line.specs.Number.{IsNumberText}
use Rattle.std.proofs.lemmas.Bool.{both_ways}
use Rattle.edi_record.specs.declared.record.Value.TheVariants.{Number, Bytes}
use Rattle.edi_record.proofs.StatesSaid.{value_read}
use Rattle.edi_record.proofs.extras.value_of.Goals as goal
use Rattle.edi_record.proofs.extras.value_of.Goals.{else-may-via-else-may, else-may-via-then-may+in-None-1}

pub returns : goal.returns
returns c = value_read c.args.may c.args.text.now (Number c.in-Some.number) (c.if-may.true, c.in-Some.ensures)

pub returns-2 : goal.returns-2
returns-2 c = value_read c.args.may c.args.text.now (Bytes c.in_ok-from_slice.field-0) (
  c.in_ok-from_slice.ensures,
  elim c.else-may.branch [
    | else-may-via-else-may w ↦ λ t. absurd (both_ways _ w.if-may.false t)
    | else-may-via-then-may+in-None-1 w ↦ λ t. (let none : w.read.result ≡ None = search rules in subst (λ r. MatchOption r ((m : ℤ) → ¬ (IsNumberText c.args.text.now m)) (λ m. IsNumberText c.args.text.now m)) none w.read.ensures)
  ],
)
