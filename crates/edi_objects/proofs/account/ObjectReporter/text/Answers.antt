use Rattle.std.proofs.Common.{◌∙◌, ◌++◌, List, codes, ℕ, ap, ap₂}
use Rattle.edi_report.specs.Lines.{charsets_line, totals_line}
use Rattle.edi_objects.specs.Accounts.{NamedReport, bare_links, objects_of, shapes_of}
use Rattle.edi_objects.specs.Counts.{changed_classes, class_totals}
use Rattle.edi_objects.proofs.account.ObjectReporter.text.Goals as goal

pub returns : goal.returns
returns c =
    let t = c.args.self.now in
    let objects = objects_of t.naming t.report in
    let shapes = shapes_of t.naming t.report in
    let links = bare_links t.naming t.report in
    let totals = class_totals t.naming t.report in
    let first = ap (λ (x : NamedReport). charsets_line x.report) c.self.view_is in
    let last = ap (λ (x : NamedReport). totals_line x.report) c.self.view_is in
    let one = c.in_ok-push_charsets.ensures ∙ ap₂ (λ (xs ys : List ℕ). xs ++ ys) c.new-text.ensures.items first in
    let two = c.in_ok-push_objects.ensures.text ∙ ap (λ (xs : List ℕ). xs ++ objects) one in
    let three = c.in_ok-push_shapes.ensures ∙ ap (λ (xs : List ℕ). xs ++ shapes) two in
    let four = c.in_ok-push_bare_links.ensures ∙ ap (λ (xs : List ℕ). xs ++ links) three in
    let changed = c.in_ok-push_objects.ensures.classes ∙ ap (λ (xs : List ℕ). xs ++ changed_classes t.naming t.report) c.new-changed.ensures.items in
    let five = c.in_ok-push_class_totals.ensures changed ∙ ap (λ (xs : List ℕ). xs ++ totals) four in
    let six = c.in_ok-extend_from_slice.ensures.items ∙ ap (λ (xs : List ℕ). xs ++ codes "records: ") five in
    c.in_ok-push_counts.ensures ∙ ap₂ (λ (xs ys : List ℕ). xs ++ ys) six last
