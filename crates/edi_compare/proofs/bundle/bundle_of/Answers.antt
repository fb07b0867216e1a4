use Rattle.std.proofs.Common.{◌∙◌, sym, ap}
use Rattle.std.specs.List.{concat}
use Rattle.edi_line.specs.inner.Lines.{lines_in}
use Rattle.edi_line.proofs.Cut.{lines_exist}
use Rattle.edi_compare.specs.Bundle.{first_file, later_files}
use Rattle.edi_compare.proofs.bundle.bundle_of.Goals as goal

pub returns : goal.returns
returns c =
    let first = rw (← c.split_at.ensures.back) at c.file_len.ensures.rest in
    let second = rw (← c.split_at-2.ensures.back) at c.file_len-2.ensures.rest in
    record {
      lines = lines_in c.args.bytes.now;
      is_lines = lines_exist c.args.bytes.now;
      scd_is = c.split_at.ensures.front ∙ c.file_len.ensures.file;
      dic_is = c.split_at-2.ensures.front ∙ c.file_len-2.ensures.file ∙ ap (λ lines. concat (first_file lines)) first;
      vec_is = sym (lines_exist c.split_at-2.result.1.now).joined ∙ ap concat (second ∙ ap later_files first);
    }
