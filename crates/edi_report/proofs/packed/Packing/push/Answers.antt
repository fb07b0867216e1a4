use Rattle.std.proofs.Common.{◌∙◌, ◌++◌, ◌-◌, ◌<◌, ◌^◌, rules, List, ℕ, ap, sym, take, drop, length, length-drop, refl, arith}
use Rattle.std.proofs.lemmas.List.{take_all}
use Rattle.edi_report.specs.declared.site.Site.{Site}
use Rattle.edi_report.specs.inner.Packing.{packed_number}
use Rattle.edi_report.specs.inner.PackedSites.{site_in}
use Rattle.edi_report.proofs.Packings.{packing_pushed, is_step, rid_made, same_site, step, step_put}
use Rattle.edi_report.proofs.packed.Packing.push.Goals as goal

pub returns : goal.returns
returns c = λ sites is.
    let old = c.args.self.now in
    let last = site_in old.last in
    let line = c.args.line in
    let rid = c.args.rid.now in
    let kept = c.shared_length-kept.result in
    let new = take (length rid - kept) (drop kept rid) in
    let cut = take_all (length rid - kept) (drop kept rid) (omega (arith, length-drop kept rid)) in
    let here : last.line < 2 ^ 64 = search rules in
    let there : line < 2 ^ 64 = search rules in
    let short : length rid < 2 ^ 64 = search rules in
    let within = c.shared_length-kept.ensures.within in
    let shared = ap (take kept) (sym c.as_slice.ensures.value) ∙ c.shared_length-kept.ensures.shared in
    let bytes = old.bytes.items in
    let one = c.in_ok-push_packed_number.ensures in
    let two = c.in_ok-push_packed_number-2.ensures ∙ ap (λ (xs : List ℕ). xs ++ packed_number kept) one in
    let three = c.in_ok-push_packed_number-3.ensures ∙ ap (λ (xs : List ℕ). xs ++ packed_number (length new)) two in
    let four = c.in_ok-extend_from_slice.ensures.items ∙ ap (λ (xs : List ℕ). xs ++ new) three in
    let next : Site = record { line = line; rid = rid } in
    packing_pushed old _ sites next (step last line rid kept new cut here there short within shared) is (is_step last line rid kept new cut here there short within shared)
    (four ∙ step_put last line rid kept new cut here there short within shared bytes)
    (same_site next line c.extend_from_slice-2.new.self.items refl
    (c.in_ok-extend_from_slice-2.ensures.items ∙ (ap (λ (xs : List ℕ). xs ++ new) c.truncate.ensures.items ∙ rid_made last line rid kept new cut here there short within shared)))
