use Rattle.edi_line.specs.FileBytes.{file_bytes}
use Rattle.edi_compare.specs.Refused.{IsPairRefusal}
use Rattle.edi_compare.proofs.Refusals.{err_kept}
use Rattle.edi_compare.proofs.comparing.compare_observed.Goals as goal

pub compare_with-requires-clause-first : goal.compare_with-requires-clause-first
compare_with-requires-clause-first g c =
    (c.in-Ok.first.0.labelled.sound, c.in_ok-first.ensures c.args.schema.now (file_bytes c.args.a) c.in-Ok.ensures.form)

pub returns-clause-verdict : goal.returns-clause-verdict
returns-clause-verdict g c =
    c.in_ok-verdict.ensures.verdict (file_bytes c.args.a) c.in-Ok.first.0.labelled.sound c.in-Ok.ensures.form.plan
    (c.in_ok-first.ensures c.args.schema.now (file_bytes c.args.a) c.in-Ok.ensures.form)

pub returns-in_err-verdict-clause-refusal : goal.returns-in_err-verdict-clause-refusal
returns-in_err-verdict-clause-refusal g c =
    err_kept _ c.in_err-verdict.field-0.0 (IsPairRefusal c.args.schema.now (file_bytes c.args.a) (file_bytes c.args.b)) c.from_residual-in_err-verdict.ensures.1
    (c.in_err-verdict.ensures.refusal (file_bytes c.args.a) c.in-Ok.ensures.form.file.accepted)
