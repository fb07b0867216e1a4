use Rattle.std.proofs.Common.{◌≡◌, ◌≤◌, ◌∙◌, Bool, true, false, cond, length, rules, sym, ap, arith}
use Rattle.edi_line.specs.LineKinds.{bears, code_is}
use Rattle.edi_explain.specs.inner.Skipped.{is_quality_content, is_quality_line}
use Rattle.edi_explain.proofs.Quality.{quality_counted, quality_read}
use Rattle.edi_explain.proofs.Remarks.{all_fine, fine_step, lines_more, no_lines, remark_read, remarks_counted}
use Rattle.edi_explain.proofs.skipped.count_left_out.Goals as goal

pub loop-rest-init : goal.loop-rest-init
loop-rest-init c =
    record { quality = omega arith; remarks = omega arith; few_quality = omega arith; few_remarks = omega arith; fine = all_fine c.args.bytes.now c.requires }

at_most_one : (b : Bool) → cond b 1 0 ≤ 1
at_most_one true = omega arith
at_most_one false = omega arith

pub loop-rest-preserved : goal.loop-rest-preserved
loop-rest-preserved c =
    let rest = c.loop-rest.rest.now in
    let line = c.first_line.result.0.now in
    let behind = c.first_line.result.1.now in
    let i = c.loop-rest.invariant in
    let fine = fine_step rest line behind c.first_line.ensures.lines i.fine in
    let quality = lines_more is_quality_line rest line behind c.first_line.ensures.lines c.is_quality.result
    (quality_read _ fine.0 ∙ (ap is_quality_content (sym c.content-own.ensures) ∙ sym c.is_quality.ensures)) in
    let remarks = lines_more (bears (code_is "REM")) rest line behind c.first_line.ensures.lines c.is_remark.result
    (remark_read _ fine.0 ∙ (ap (λ l. Rattle.std.specs.List.starts_with Rattle.std.proofs.Common.nat_eq l (Rattle.std.proofs.Common.codes "REM")) (sym c.content-own.ensures) ∙ sym c.is_remark.ensures)) in
    record {
      quality = omega (arith, quality, i.quality, c.one_if-quality.ensures);
      remarks = omega (arith, remarks, i.remarks, c.one_if-remarks.ensures);
      few_quality = omega (arith, c.first_line.ensures.shorter, i.few_quality, c.one_if-quality.ensures, at_most_one c.is_quality.result);
      few_remarks = omega (arith, c.first_line.ensures.shorter, i.few_remarks, c.one_if-remarks.ensures, at_most_one c.is_remark.result);
      fine = fine.1;
    }

pub returns-clause-quality : goal.returns-clause-quality
returns-clause-quality c =
    let none : length c.loop-rest.rest.now ≡ 0 = search rules in
    quality_counted c.args.bytes.now c.requires c.loop-rest.quality (omega (arith, c.loop-rest.invariant.quality, no_lines is_quality_line c.loop-rest.rest.now none))

pub returns-clause-remarks : goal.returns-clause-remarks
returns-clause-remarks c =
    let none : length c.loop-rest.rest.now ≡ 0 = search rules in
    remarks_counted c.args.bytes.now c.loop-rest.remarks (omega (arith, c.loop-rest.invariant.remarks, no_lines (bears (code_is "REM")) c.loop-rest.rest.now none))
