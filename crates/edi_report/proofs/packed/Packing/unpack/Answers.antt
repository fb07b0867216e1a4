use Rattle.std.proofs.Common.{◌≡◌, ◌<◌, ◌∙◌, ◌++◌, ◌∷◌, [], List, length, refl, ap, sym, arith, eqb-true}
use Rattle.std.proofs.lemmas.List.{append-nil}
use Rattle.std.proofs.lemmas.Bool.Decides.{nat_tests}
use Rattle.edi_report.specs.declared.site.Site.{Site}
use Rattle.edi_report.specs.inner.PackedSites.{site_in}
use Rattle.edi_report.proofs.Packings.{none_left, same_site, site_unpacked}
use Rattle.edi_report.proofs.packed.Packing.unpack.Goals as goal

pub returns : goal.returns
returns c = λ sites is.
    let s = c.loop-rest.invariant sites is in
    let none = none_left (site_in c.loop-rest.last) s.0 c.loop-rest.rest.now s.2 (eqb-true _ 0 (sym c.is_empty.ensures ∙ c.loop-rest-test.false)) in
    sym (s.1 ∙ (ap (λ (left : List Site). c.loop-rest.list.items ++ left) none ∙ append-nil c.loop-rest.list.items))

pub loop-rest-preserved : goal.loop-rest-preserved
loop-rest-preserved c = λ sites is.
    let old = c.loop-rest.list.items in
    let site = site_in c.advance.new.self in
    let some : 0 < length c.loop-rest.rest.now = grind (arith, nat_tests) in
    let s = c.loop-rest.invariant sites is in
    let t = site_unpacked (site_in c.loop-rest.last) s.0 old sites c.loop-rest.rest.now c.in_ok-rest.rest.now site s.2 some s.1 c.in_ok-rest.ensures.site in
    let same = same_site site site.line c.in_ok-from_slice.field-0 refl (c.in_ok-from_slice.ensures ∙ c.as_slice.ensures.value) in
    let pushed : c.push.new.self.items ≡ old ++ site ∷ [] = c.in_ok-push.ensures.items ∙ ap (λ (x : Site). old ++ x ∷ []) same in
    (t.0, t.1 ∙ ap (λ (xs : List Site). xs ++ t.0) (sym pushed), t.2)
