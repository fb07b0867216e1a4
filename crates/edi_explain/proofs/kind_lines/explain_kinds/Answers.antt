use Rattle.std.proofs.Common.{◌∙◌, List, [], ℕ, ap, subst}
use Rattle.std.proofs.lemmas.Result.{IfOk-weaker}
use Rattle.edi_line.specs.ZoneData.{entries}
use Rattle.edi_line.specs.Zones.{groups_of}
use Rattle.edi_line.specs.declared.zone.Zone.{Zone}
use Rattle.edi_schema.specs.SchemaRules.{BreaksKinds}
use Rattle.edi_explain.specs.KindClasses.{IsKindsCause, codes_of}
use Rattle.edi_explain.specs.Lines.{lines_of_sites}
use Rattle.edi_explain.specs.Refusals.{AreSites}
use Rattle.edi_explain.proofs.kind_lines.explain_kinds.Goals as goal

pub unreachable-requires : goal.unreachable-requires
unreachable-requires c =
    subst (λ (zs : List Zone). ¬ (BreaksKinds (groups_of (entries zs)) [] (codes_of c.args.codes.now))) c.deref.ensures.value c.in_default.ensures
    (c.requires.broken (entries c.in_ok-zones.zones.items) c.in_ok-zones.ensures)

pub returns : goal.returns
returns c =
    let zones = entries c.in_ok-zones.zones.items in
    let cause = c.in-Some.cause in
    let sites = c.in_ok-sites.sites in
    IfOk-weaker c.lines_of_refused.result _ _ (λ lines is. (
      zones,
      cause,
      sites,
      c.in_ok-zones.ensures,
      subst (λ (zs : List Zone). IsKindsCause (groups_of (entries zs)) (codes_of c.args.codes.now) cause) c.deref.ensures.value c.in-Some.ensures,
      subst (λ (zs : List Zone). AreSites (entries zs) cause.number cause.earlier sites) c.deref-2.ensures.value c.in_ok-sites.ensures,
      is ∙ ap (λ (words : List ℕ). lines_of_sites c.args.scd.now.name.now sites words 604) (c.deref-3.ensures.value ∙ c.in_ok-words.ensures),
    )) c.lines_of_refused.ensures
