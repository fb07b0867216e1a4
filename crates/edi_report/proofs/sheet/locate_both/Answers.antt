use Rattle.std.proofs.Common.{alloc_error}
use Rattle.edi_line.specs.FileBytes.{file_bytes}
use Rattle.edi_compare.proofs.Refusals.{err_kept}
use Rattle.edi_compare.specs.Refused.{IsPairRefusal}
use Rattle.edi_compare.specs.declared.fault.CompareFault.TheVariants.{Memory}
use Rattle.edi_report.proofs.sheet.locate_both.Goals as goal

pub returns-in_err-both-clause-refusal : goal.returns-in_err-both-clause-refusal
returns-in_err-both-clause-refusal c = err_kept _ (Memory alloc_error) (IsPairRefusal c.args.schema.now (file_bytes c.args.a) (file_bytes c.args.b)) c.from_residual-in_err-both.ensures.1 tt

pub returns : goal.returns
returns c = record {
  first = c.in_ok-both.ensures.first c.args.schema.now (file_bytes c.args.a) c.in_ok-packed.ensures.first;
  second = c.in_ok-both.ensures.second c.args.schema.now (file_bytes c.args.b) c.in_ok-packed.ensures.second;
  refusal = tt;
}
