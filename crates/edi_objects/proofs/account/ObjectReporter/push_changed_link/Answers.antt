use Rattle.std.proofs.Common.{◌≡◌, ◌∙◌, ◌++◌, List, ℕ, ap, ap₂, append_assoc, codes}
use Rattle.std.proofs.lemmas.Result.{on_ok_weaker}
use Rattle.edi_objects.specs.Accounts.{bare_link, changed_parts}
use Rattle.edi_objects.specs.Names.{Naming}
use Rattle.edi_report.specs.declared.sheet.LocatedSheet.{LocatedSheet}
use Rattle.edi_objects.proofs.account.ObjectReporter.push_changed_link.Goals as goal

pub returns : goal.returns
returns c =
    let r = c.args.self.now.report in
    let old = c.args.text.now.items in
    let link : List ℕ = bare_link c.args.self.now.naming r.first c.args.link in
    let parts : List ℕ = changed_parts r c.args.link c.args.target in
    let written : List ℕ = bare_link c.first.result.namer.now c.first.result.sheet.now c.args.link in
    let same : written ≡ link = ap₂ (λ (n : Naming) (sheet : LocatedSheet). bare_link n sheet c.args.link) c.first.ensures.namer c.first.ensures.sheet in
    on_ok_weaker c.push_changed_parts.result
    (λ last. last
    ∙ (ap (λ (x : List ℕ). x ++ parts) (c.in_ok-push_bare_link.ensures ∙ (ap (λ (x : List ℕ). x ++ written) c.in_ok-extend_from_slice.ensures.items
    ∙ ap (λ (x : List ℕ). old ++ codes "~ " ++ x) same))
    ∙ (ap (λ (x : List ℕ). x ++ parts) (append_assoc old (codes "~ ") link) ∙ append_assoc old (codes "~ " ++ link) parts)))
    c.push_changed_parts.ensures
