use Rattle.std.proofs.Common.{◌∙◌, ◌++◌, ◌∷◌, ◌<◌, [], length, Bool, Global, List, Vec, ap, false, true, get_or, not, subst, sym, ℕ}
use Rattle.edi_diff.specs.inner.Codes.{code_at}
use Rattle.edi_diff.specs.inner.Progress.{open_seconds, progress_of}
use Rattle.edi_diff.proofs.OpenPlaces.{place_more, place_same}
use Rattle.edi_diff.proofs.proposing.Open.push_seconds.Goals.{then-not-reached+in_ok-push, else-not-reached}
use Rattle.edi_diff.proofs.proposing.Open.push_seconds.Goals as goal

pub loop-place-preserved : goal.loop-place-preserved
loop-place-preserved c =
    let reached = c.args.self.now.changes.now.reached.items in
    let n = c.loop-place.place in
    let same = c.as_slice-reached-items.ensures.value in
    let within = subst (λ (xs : List Bool). n < length xs) same c.loop-place-test.true in
    let all = c.args.codes.now.items ++ open_seconds (progress_of c.args.self.now) in
    let at = ap (λ (xs : List Bool). not (get_or xs n false)) (sym same) in
    elim c.if-not-reached.branch [
      | then-not-reached+in_ok-push w ↦
          place_more not (code_at true) reached n false within c.loop-place.codes.items c.if-not-reached.codes.items all c.loop-place.invariant (at ∙ ap not w.if-not-reached.true)
          (ap (λ (v : Vec ℕ Global). v.items) w.codes-is ∙ (w.in_ok-push.ensures.items ∙ ap (λ (k : ℕ). c.loop-place.codes.items ++ k ∷ []) w.code_of.ensures.code))
      | else-not-reached w ↦
          place_same not (code_at true) reached n false within c.loop-place.codes.items c.if-not-reached.codes.items all c.loop-place.invariant (at ∙ ap not w.if-not-reached.false)
          (ap (λ (v : Vec ℕ Global). v.items) w.codes-is)
    ]
