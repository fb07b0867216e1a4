use Rattle.std.proofs.Common.{alloc_error, subst}
use Rattle.edi_line.specs.FileBytes.{file_bytes}
use Rattle.edi_line.specs.Bytes.{IsBytes}
use Rattle.edi_compare.specs.Refused.{IsRefusal}
use Rattle.edi_compare.specs.declared.fault.Fault.TheVariants.{Memory}
use Rattle.edi_compare.proofs.Forms.{has_form}
use Rattle.edi_compare.proofs.Refusals.{err_kept}
use Rattle.edi_compare.proofs.canonical.form_of.Goals as goal

pub returns-clause-form : goal.returns-clause-form
returns-clause-form g c =
    has_form c.args.schema.now (file_bytes c.args.bytes) _ c.keeps-2.ensures c.keeps.ensures.short (subst IsBytes c.deref.ensures.value c.hold_bytes.ensures.bytes)
    c.in_ok-labelled.ensures.accepted c.in_ok-labelled.ensures.plan c.in_ok-labelled.ensures.labels c.in_ok-file.ensures

pub returns-in_err-file-clause-refusal : goal.returns-in_err-file-clause-refusal
returns-in_err-file-clause-refusal g c = err_kept _ (Memory alloc_error) (IsRefusal c.args.schema.now (file_bytes c.args.bytes)) c.from_residual-in_err-file.ensures.1 tt
