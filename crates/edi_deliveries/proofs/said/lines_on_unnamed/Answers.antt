use Rattle.std.proofs.Common.{◌≡◌, ◌∙◌, ◌++◌, ℕ, List, Bor, map, string_bytes, sym, ap}
use Rattle.edi_deliveries.specs.Deliveries.{is_unnamed, unnamed_line}
use Rattle.edi_deliveries.proofs.Lines.{one_named_more, one_unnamed_more}
use Rattle.edi_deliveries.proofs.said.lines_on_unnamed.Goals as goal
use Rattle.edi_deliveries.proofs.said.lines_on_unnamed.Goals.{then-is_unnamed+in_ok-path+in_ok-push_named, else-is_unnamed}

pub loop-name-preserved : goal.loop-name-preserved
loop-name-preserved c =
    let found = map (λ (other : Bor (List ℕ)). other.now) c.args.found.now.keys in
    let line = λ (name : List ℕ). unnamed_line (c.args.before.now ++ name) in
    let test : c.is_unnamed.result ≡ is_unnamed found (string_bytes c.name-item.result) = c.is_unnamed.ensures ∙ ap (is_unnamed found) c.deref.ensures in
    elim c.if-is_unnamed.branch [
      | then-is_unnamed+in_ok-path+in_ok-push_named w ↦
          one_unnamed_more string_bytes (is_unnamed found) line c.args.names.now c.loop-name.name-index c.name-item.result c.loop-name-test.true c.name-item.is
          c.loop-name.lines.items c.if-is_unnamed.lines.items (sym test ∙ w.if-is_unnamed.true) c.loop-name.invariant
          (ap (λ v. v.items) w.lines-is ∙ (w.in_ok-push_named.ensures
          ∙ ap (λ path. c.loop-name.lines.items ++ unnamed_line path) (w.deref-then-is_unnamed.ensures.value ∙ (w.in_ok-path.ensures ∙ ap (λ name. c.args.before.now ++ name) w.as_bytes.ensures.value))))
      | else-is_unnamed w ↦
          one_named_more string_bytes (is_unnamed found) line c.args.names.now c.loop-name.name-index c.name-item.result c.loop-name-test.true c.name-item.is
          c.loop-name.lines.items c.if-is_unnamed.lines.items (sym test ∙ w.if-is_unnamed.false) c.loop-name.invariant (ap (λ v. v.items) w.lines-is)
    ]
