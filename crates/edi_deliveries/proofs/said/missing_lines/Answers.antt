use Rattle.std.proofs.Common.{◌≡◌, ◌∙◌, ◌++◌, ℕ, List, ap, is_none}
use Rattle.edi_deliveries.specs.Deliveries.{found_name, missing_line}
use Rattle.edi_deliveries.proofs.Lines.{one_missing_more, one_there_more}
use Rattle.edi_deliveries.proofs.NameTables.{none_found}
use Rattle.edi_deliveries.proofs.said.missing_lines.Goals as goal
use Rattle.edi_deliveries.proofs.said.missing_lines.Goals.{then-is_none+in_ok-push_missing, else-is_none}

pub loop-file-preserved : goal.loop-file-preserved
loop-file-preserved c =
    let is_missing = λ (file : List ℕ). is_none (found_name c.args.names.now file) in
    let lines = λ (file : List ℕ). missing_line (c.args.before.now ++ file) in
    let files = c.deref-file-items.result.now in
    let test : is_missing c.file-item.result ≡ c.is_none.result = none_found c.in_ok-find.field-0 (found_name c.args.names.now c.file-item.result) c.is_none.result c.in_ok-find.ensures c.is_none.ensures in
    elim c.if-is_none.branch [
      | then-is_none+in_ok-push_missing w ↦
          one_missing_more is_missing lines files c.loop-file.file-index c.file-item.result c.loop-file-test.true c.file-item.is c.loop-file.lines.items c.if-is_none.lines.items
          (test ∙ w.if-is_none.true) c.loop-file.invariant
          (ap (λ v. v.items) w.lines-is ∙ (w.in_ok-push_missing.ensures ∙ ap (λ file. c.loop-file.lines.items ++ lines file) w.as_slice.ensures.bytes))
      | else-is_none w ↦
          one_there_more is_missing lines files c.loop-file.file-index c.file-item.result c.loop-file-test.true c.file-item.is c.loop-file.lines.items c.if-is_none.lines.items
          (test ∙ w.if-is_none.false) c.loop-file.invariant (ap (λ v. v.items) w.lines-is)
    ]
