use Rattle.std.proofs.Common.{◌≡◌, ◌∙◌, ◌+◌, ◌-◌, ◌++◌, ◌≤◌, ℕ, List, length, take, drop, ap, arith, length-append}
use Rattle.std.proofs.lemmas.List.{take-take, take-append-le, take-append-drop, length-take-le, length-drop}
use Rattle.std.proofs.lemmas.Slice.{take-put_mid}
use Rattle.edi_line.proofs.text.copy_both_ends.Goals as goal

-- a text by its first bytes, which others follow, and its last ones, which overlap them
ends_meet : (size : ℕ) (text first last rest : List ℕ) → length first ≡ size → length text ≤ size + size
    → first ≡ take size text → last ≡ drop (length text - size) text → take (length text - size) (first ++ rest) ++ last ≡ text
ends_meet size text first last rest long all is then =
    let a : ℕ = length text - size in
    ap (λ xs. xs ++ last) (take-append-le a first rest (omega (arith, all, long)) ∙ (ap (take a) is ∙ take-take a size text (omega (arith, all))))
    ∙ (ap (λ xs. take a text ++ xs) then ∙ take-append-drop a text)

pub returns : goal.returns
returns c =
    let text : List ℕ = c.args.text.now in
    let a : ℕ = length text - c.args.size in
    let front : c.copy_from_slice.new.self ≡ take c.args.size text = c.copy_from_slice.ensures.after ∙ c.split_at.ensures.front in
    let back : c.copy_from_slice-2.new.self ≡ drop a text = c.copy_from_slice-2.ensures.after ∙ c.split_at-2.ensures.back in
    let long : length c.copy_from_slice.new.self ≡ c.args.size = ap length front ∙ length-take-le c.args.size text c.requires.enough in
    let left = ap length back ∙ length-drop a text in
    let both = length-append c.copy_from_slice.new.self (drop c.args.size c.args.bytes.now) in
    take-put_mid a _ _ c.copy_from_slice-2.new.self (length text) (omega (arith, left, c.requires.enough)) (omega (arith, both, long, c.requires.all))
    ∙ ends_meet c.args.size text _ _ _ long c.requires.all front back
