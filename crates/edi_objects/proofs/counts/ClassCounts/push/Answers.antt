use Rattle.std.proofs.Common.{◌∙◌, ◌++◌, ◌∷◌, [], List, codes, ℕ, ap, append_assoc}
use Rattle.edi_line.specs.Bytes.{line_feed}
use Rattle.edi_report.specs.Lines.{counted}
use Rattle.edi_objects.proofs.counts.ClassCounts.push.Goals as goal

pub returns : goal.returns
returns c =
    let old = c.args.text.now.items in
    let gone = counted c.args.self.gone (codes " only in A, ") in
    let new = counted c.args.self.new (codes " only in B, ") in
    let changed = counted c.args.self.changed (codes " changed" ++ line_feed ∷ []) in
    let two = c.in_ok-push_counted-2.ensures ∙ (ap (λ (xs : List ℕ). xs ++ new) c.in_ok-push_counted.ensures ∙ append_assoc old gone new) in
    c.in_ok-push_counted-3.ensures ∙ (ap (λ (xs : List ℕ). xs ++ changed) two ∙ append_assoc old (gone ++ new) changed)
