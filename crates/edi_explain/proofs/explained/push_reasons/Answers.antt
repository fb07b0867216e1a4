use Rattle.std.proofs.Common.{◌≡◌, ◌∙◌, ◌++◌, List, ℕ, ap, ap₂, codes, append_assoc}
use Rattle.std.proofs.lemmas.Result.{on_ok_weaker}
use Rattle.edi_explain.specs.Explained.{worded_line}
use Rattle.edi_explain.proofs.explained.push_reasons.Goals as goal

three : (o a b d x y z u v w : List ℕ) → a ≡ o ++ x → b ≡ a ++ y → d ≡ b ++ z → x ≡ u → y ≡ v → z ≡ w → d ≡ o ++ ((u ++ v) ++ w)
three o a b d x y z u v w first second third f g h =
    third ∙ (ap (λ l. l ++ z) (second ∙ ap (λ l. l ++ y) first) ∙ (ap (λ l. l ++ z) (append_assoc o x y) ∙ (append_assoc o (x ++ y) z
    ∙ ap (λ l. o ++ l) (ap₂ (λ l m. l ++ m) (ap₂ (λ l m. l ++ m) f g) h))))

pub returns : goal.returns
returns c =
    on_ok_weaker c.push_line-3.result (λ third. three _ _ _ _ _ _ _ _ _ _ c.in_ok-push_line.ensures c.in_ok-push_line-2.ensures third
    (ap (worded_line (codes "Why: ")) c.as_bytes.ensures.value) (ap (worded_line (codes "Usual cause: ")) c.as_bytes-2.ensures.value)
    (ap (worded_line (codes "What to do: ")) c.as_bytes-3.ensures.value)) c.push_line-3.ensures
