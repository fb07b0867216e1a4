use Rattle.std.proofs.Common.{◌≡◌, ◌∙◌, map, sym, ap}
use Rattle.std.specs.List.{concat}
use Rattle.std.proofs.lemmas.Bool.{both_ways}
use Rattle.std.proofs.lemmas.Slice.Eq.{bytes_eq-Decides}
use Rattle.edi_manifest.specs.ManifestText.{manifest_line, manifest_lines, manifest_text}
use Rattle.edi_manifest.proofs.ReadBack.{written_again}
use Rattle.edi_manifest.proofs.reading.read_manifest.Goals as goal

pub returns-then-eq-clause-reads : goal.returns-then-eq-clause-reads
returns-then-eq-clause-reads c =
    sym (c.as_slice.ensures.value ∙ (c.in_ok-manifest.ensures ∙ ap manifest_text c.deref.ensures.value))
    ∙ (bytes_eq-Decides c.as_slice.result.now c.args.text.now).0 (sym c.eq.ensures ∙ c.if-eq.true)

pub returns-else-eq-clause-reads : goal.returns-else-eq-clause-reads
returns-else-eq-clause-reads c = λ lines h e.
    let body : c.in-Some.body.now ≡ concat (manifest_lines lines) = c.in-Some.ensures lines h e in
    let found : map manifest_line c.in-Some-2.lines.items ≡ manifest_lines lines = rw c.in-Some-2.is at (c.in_ok-lines.ensures.finds lines h (sym body)) in
    let written : c.as_slice.result.now ≡ c.args.text.now =
    c.as_slice.ensures.value ∙ (c.in_ok-manifest.ensures ∙ (ap manifest_text c.deref.ensures.value ∙ (written_again c.in-Some-2.lines.items lines found ∙ e))) in
    both_ways _ (sym c.eq.ensures ∙ c.if-eq.false) ((bytes_eq-Decides c.as_slice.result.now c.args.text.now).1 written)
