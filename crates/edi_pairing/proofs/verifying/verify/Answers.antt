use Rattle.std.proofs.Common.{alloc_error}
use Rattle.edi_line.specs.FileBytes.{file_bytes}
use Rattle.edi_compare.proofs.Refusals.{err_kept}
use Rattle.edi_pairing.specs.Verified.{IsVerifyRefusal, of_pairing, of_sheets}
use Rattle.edi_pairing.specs.declared.fault.VerifyFault.TheVariants.{Memory}
use Rattle.edi_pairing.proofs.CarriedPairs.{names_long}
use Rattle.edi_pairing.proofs.VerifyLemmas.{pairing_refusal, sheets_refusal}
use Rattle.edi_pairing.proofs.verifying.verify.Goals as goal

pub returns-in_err-first-clause-refusal : goal.returns-in_err-first-clause-refusal
returns-in_err-first-clause-refusal c =
    let a = file_bytes c.args.a in
    let b = file_bytes c.args.b in
    let f = c.in_err-first.field-0.0 in
    err_kept _ (of_sheets f) (IsVerifyRefusal c.args.schema.now a b c.args.file.now) c.from_residual.ensures.1
    (sheets_refusal c.args.schema.now a b c.args.file.now f c.in_err-first.ensures.refusal)

pub returns-in_err-pairing-clause-refusal : goal.returns-in_err-pairing-clause-refusal
returns-in_err-pairing-clause-refusal c =
    let s = c.args.schema.now in
    let a = file_bytes c.args.a in
    let b = file_bytes c.args.b in
    let file = c.args.file.now in
    let f = c.in_err-pairing.field-0.0 in
    let first = c.in_ok-first.ensures.first in
    let second = c.in_ok-first.ensures.second in
    err_kept _ (of_pairing f) (IsVerifyRefusal s a b file) c.from_residual-in_err-pairing.ensures.1
    (pairing_refusal s a b file c.in_ok-first.first.names c.in_ok-first.second.names first.accepted second.accepted first.names second.names f c.in_err-pairing.ensures.refusal)

pub returns-in_err-answer-clause-refusal : goal.returns-in_err-answer-clause-refusal
returns-in_err-answer-clause-refusal c =
    err_kept _ (Memory alloc_error) (IsVerifyRefusal c.args.schema.now (file_bytes c.args.a) (file_bytes c.args.b) c.args.file.now) c.from_residual-in_err-answer.ensures.1 tt

pub judge-requires-clause-first : goal.judge-requires-clause-first
judge-requires-clause-first c =
    let first = c.in_ok-first.ensures.first in
    names_long c.args.schema.now (file_bytes c.args.a) c.in_ok-first.first.names c.in_ok-first.first.accepted first.names first.plan

pub judge-requires-clause-second : goal.judge-requires-clause-second
judge-requires-clause-second c =
    let second = c.in_ok-first.ensures.second in
    names_long c.args.schema.now (file_bytes c.args.b) c.in_ok-first.second.names c.in_ok-first.second.accepted second.names second.plan

pub returns-clause-answer : goal.returns-clause-answer
returns-clause-answer c =
    let first = c.in_ok-first.ensures.first in
    let second = c.in_ok-first.ensures.second in
    record {
      plan = c.in_ok-first.first.accepted;
      other = c.in_ok-first.second.accepted;
      pairing = c.in_ok-pairing.pairing;
      is_plan = first.plan;
      is_other = second.plan;
      states = record {
        names = c.in_ok-first.first.names;
        others = c.in_ok-first.second.names;
        are_names = first.names;
        are_others = second.names;
        stated = c.in_ok-pairing.ensures.states;
      };
      answers = c.in_ok-answer.ensures;
    }
