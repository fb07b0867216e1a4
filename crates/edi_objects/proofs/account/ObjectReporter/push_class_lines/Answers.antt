use Rattle.std.proofs.Common.{◌≡◌, ◌∙◌, ◌++◌, ℕ, List, ap, ap₂, length, rules}
use Rattle.std.specs.List.{flat_map, range_with_len}
use Rattle.std.proofs.Math.Path.{fun_ext}
use Rattle.edi_objects.specs.Accounts.{NamedReport}
use Rattle.edi_objects.specs.Names.{Naming}
use Rattle.edi_objects.specs.Counts.{class_count, class_counts_line, class_total, gone_classes, new_classes}
use Rattle.edi_objects.specs.inner.Counts.{told_total}
use Rattle.edi_objects.proofs.Marked.{lines_more}
use Rattle.edi_objects.proofs.account.ObjectReporter.push_class_lines.Goals as goal

pub loop-place-preserved : goal.loop-place-preserved
loop-place-preserved c =
    let line = told_total c.args.self.now.naming c.args.told.now.gone c.args.told.now.new c.args.told.now.changed in
    let n = c.args.self.now.naming in
    let of = c.args.told.now in
    let class = c.class_at-class.result in
    let counts = c.counts.result in
    let named = ap (λ (m : Naming). class_counts_line m class counts.gone counts.new counts.changed) (ap (λ (x : NamedReport). x.naming) c.self.view_is) in
    let two = ap₂ (λ (g w : ℕ). class_counts_line n class g w counts.changed) c.counts.ensures.gone c.counts.ensures.new in
    let all = ap (λ (d : ℕ). class_counts_line n class (class_count class of.gone) (class_count class of.new) d) c.counts.ensures.changed in
    let more : c.push_class_line.new.text.items ≡ c.loop-place.text.items ++ line c.loop-place.place =
    c.in_ok-push_class_line.ensures ∙ ap (λ (xs : List ℕ). c.loop-place.text.items ++ xs) (named ∙ (two ∙ (all ∙ ap line c.class_at-class.ensures))) in
    lines_more line c.loop-place.place c.args.text.now.items c.loop-place.text.items c.push_class_line.new.text.items c.loop-place.invariant more

pub returns : goal.returns
returns c told =
    let n = c.args.self.now.naming in
    let r = c.args.self.now.report in
    let of = c.args.told.now in
    let all : c.loop-place.place ≡ length n.classes = search rules in
    let same : (class : ℕ) → told_total n of.gone of.new of.changed class ≡ class_total n r class =
    λ class. ap₂ (λ (g w : ℕ). class_counts_line n class g w (class_count class of.changed)) (told.all_gone class) (told.all_new class)
    ∙ ap (λ (d : ℕ). class_counts_line n class (class_count class (gone_classes r)) (class_count class (new_classes r)) d) (told.all_changed class) in
    c.loop-place.invariant
    ∙ ap₂ (λ (f : ℕ → List ℕ) (k : ℕ). c.args.text.now.items ++ flat_map f (range_with_len 0 k)) (fun_ext same) all
