use Rattle.std.proofs.Common.{◌∙◌, ◌++◌, ◌∷◌, ◌<◌, [], length, Global, List, None, Vec, ap, false, get_or, is_none, map, not, subst, sym, ℕ, Option}
use Rattle.edi_line.proofs.Truths.{not-not}
use Rattle.edi_diff.specs.inner.Codes.{code_at}
use Rattle.edi_diff.specs.inner.Progress.{places_where}
use Rattle.edi_diff.proofs.OpenPlaces.{place_more, place_same}
use Rattle.edi_diff.proofs.proposing.Open.codes.Goals.{then-is_none+in_ok-push, else-is_none}
use Rattle.edi_diff.proofs.proposing.Open.codes.Goals as goal

pub loop-place-preserved : goal.loop-place-preserved
loop-place-preserved c =
    let to = c.args.self.now.changes.now.to.items in
    let n = c.loop-place.place in
    let same = c.as_slice-went-items.ensures.value in
    let within = subst (λ (xs : List (Option ℕ)). n < length xs) same c.loop-place-test.true in
    let all = map (code_at false) (places_where is_none 0 to) in
    let at = ap (λ (xs : List (Option ℕ)). is_none (get_or xs n None)) (sym same) in
    elim c.if-is_none.branch [
      | then-is_none+in_ok-push w ↦
          place_more is_none (code_at false) to n None within c.loop-place.codes.items c.if-is_none.codes.items all c.loop-place.invariant (at ∙ (ap not c.is_none.ensures ∙ (not-not c.is_none.result ∙ w.if-is_none.true)))
          (ap (λ (v : Vec ℕ Global). v.items) w.codes-is ∙ (w.in_ok-push.ensures.items ∙ ap (λ (k : ℕ). c.loop-place.codes.items ++ k ∷ []) w.code_of.ensures.code))
      | else-is_none w ↦
          place_same is_none (code_at false) to n None within c.loop-place.codes.items c.if-is_none.codes.items all c.loop-place.invariant (at ∙ (ap not c.is_none.ensures ∙ (not-not c.is_none.result ∙ w.if-is_none.false)))
          (ap (λ (v : Vec ℕ Global). v.items) w.codes-is)
    ]
