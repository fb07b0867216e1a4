use Rattle.std.proofs.Common.{alloc_error, refl}
use Rattle.edi_line.specs.FileBytes.{file_bytes}
use Rattle.edi_compare.proofs.Refusals.{err_kept}
use Rattle.edi_compare.specs.Refused.{IsPairRefusal}
use Rattle.edi_compare.specs.declared.fault.CompareFault.TheVariants.{Memory}
use Rattle.edi_diff.proofs.differing.find_differences.Goals as goal

pub compare_sheets-requires : goal.compare_sheets-requires
compare_sheets-requires c =
    let a = file_bytes c.args.a in
    let b = file_bytes c.args.b in
    let here = c.in_ok-first.ensures.first in
    let there = c.in_ok-first.ensures.second in
    record { first = (a, here.accepted, here.located.plan); second = (b, there.accepted, there.located.plan); classes = here.classes; first_sites = here.all; second_sites = there.all }

pub returns-in_err-unchanged-clause-refusal : goal.returns-in_err-unchanged-clause-refusal
returns-in_err-unchanged-clause-refusal c = err_kept _ (Memory alloc_error) (IsPairRefusal c.args.schema.now (file_bytes c.args.a) (file_bytes c.args.b)) c.from_residual-in_err-unchanged.ensures.1 tt

pub returns : goal.returns
returns c =
    let here = c.in_ok-first.ensures.first in
    let there = c.in_ok-first.ensures.second in
    let compared = c.in_ok-unchanged.ensures in
    record {
      first = here.accepted;
      second = there.accepted;
      findings = record {
        differs = record {
          first = c.in_ok-first.first;
          second = c.in_ok-first.second;
          is_first = here.located;
          is_second = there.located;
          unchanged = c.in_ok-unchanged.field-0.unchanged;
          holds = compared.holds;
          total = compared.total;
          partners = compared.partners;
          faces = compared.faces;
          links = compared.links;
          is_text = compared.is_text;
          same = compared.same;
        };
        by_first = refl;
        by_second = refl;
        by_unchanged = refl;
        by_became = compared.by_became;
      };
      first_classes = here.classes;
      second_classes = there.classes;
      refusal = tt;
    }
