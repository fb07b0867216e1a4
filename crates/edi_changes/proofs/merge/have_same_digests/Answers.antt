use Rattle.std.proofs.Common.{◌≡◌, ◌∙◌, ap, not, sym, true≢false}
use Rattle.std.proofs.lemmas.Slice.Eq.{bytes_eq-Decides}
use Rattle.std.proofs.lemmas.Bool.{not-false}
use Rattle.edi_changes.specs.inner.Merging.{digest_in}
use Rattle.edi_changes.proofs.Comparing.{one_differs, same_more}
use Rattle.edi_changes.proofs.merge.have_same_digests.Goals as goal

pub returns-then-ne : goal.returns-then-ne
returns-then-ne c =
    let a = c.index-before-place.result in
    let b = c.index-after-place.result in
    let one : a.digest ≡ c.as_slice.result.now = ap digest_in c.index-before-place.is ∙ sym c.as_slice.ensures in
    let other : b.digest ≡ c.as_slice-in-loop-place.result.now = ap digest_in c.index-after-place.is ∙ sym c.as_slice-in-loop-place.ensures in
    one_differs c.args.before.now c.args.after.now c.loop-place.place a b a b c.loop-place-test.true c.if-before-after.false c.index-before-place.is c.index-after-place.is (λ same.
    let equal = (bytes_eq-Decides c.as_slice.result.now c.as_slice-in-loop-place.result.now).1 (sym one ∙ (same ∙ other)) in
    true≢false (sym c.if-ne.true ∙ (c.ne.ensures ∙ ap not equal)))

pub loop-place-preserved : goal.loop-place-preserved
loop-place-preserved c =
    let a = c.index-before-place.result in
    let b = c.index-after-place.result in
    let one : a.digest ≡ c.as_slice.result.now = ap digest_in c.index-before-place.is ∙ sym c.as_slice.ensures in
    let other : b.digest ≡ c.as_slice-in-loop-place.result.now = ap digest_in c.index-after-place.is ∙ sym c.as_slice-in-loop-place.ensures in
    let equal = (bytes_eq-Decides c.as_slice.result.now c.as_slice-in-loop-place.result.now).0 (not-false _ (sym c.ne.ensures ∙ c.if-ne.false)) in
    same_more c.args.before.now c.args.after.now c.loop-place.place a b a b c.loop-place-test.true c.if-before-after.false c.index-before-place.is c.index-after-place.is
    (one ∙ (equal ∙ sym other)) c.loop-place.invariant
