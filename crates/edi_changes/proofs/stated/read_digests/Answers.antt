use Rattle.std.proofs.Common.{◌≡◌, ◌∙◌, Global, IfSome, MatchOption, Option, Vec, ap, inl, map, subst}
use Rattle.std.specs.List.{AllByRecursion}
use Rattle.edi_manifest.specs.ManifestText.{IsManifestLine, IsNoManifest, manifest_text}
use Rattle.edi_manifest.specs.declared.line.ManifestLine.{ManifestLine}
use Rattle.edi_changes.specs.Stated.{manifest_entry}
use Rattle.edi_changes.proofs.stated.read_digests.Goals as goal

pub returns-in-Some : goal.returns-in-Some
returns-in-Some c =
    let text = c.args.text.now in
    inl (
      c.in-Some.lines.items,
      subst (λ (found : Option (Vec ManifestLine Global)). IfSome found (λ lines. AllByRecursion IsManifestLine lines.items)) c.in-Some.is c.in_ok-lines.ensures.are,
      subst (λ (found : Option (Vec ManifestLine Global)). MatchOption found (IsNoManifest text) (λ lines. manifest_text lines.items ≡ text)) c.in-Some.is c.in_ok-lines.ensures.reads,
      c.in_ok-manifest_entries.ensures ∙ ap (map manifest_entry) c.deref.ensures.value,
    )
