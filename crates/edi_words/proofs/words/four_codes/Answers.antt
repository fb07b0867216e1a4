use Rattle.std.proofs.Common.{◌≡◌, ◌∙◌, ℕ, List, [], ◌∷◌, Option, Some, None, Bor, sym, ap, refl, arith, length}
use Rattle.std.specs.Iterator.{AlwaysYields}
use Rattle.std.specs.Str.Iter.{split_steps}
use Rattle.std.specs.Str.Pattern.{FindsChar}
use Rattle.std.proofs.lemmas.Iterator.Splits.{YieldsList-from_str_split}
use Rattle.edi_words.proofs.words.four_codes.Goals as goal

-- an iterator's next item is the first that is left, and at its end none is left
module _ {S : Type 0} (steps : S → Option (Bor (List ℕ)) → S → Type 0) where
  taken : (s t : S) (x : Bor (List ℕ)) (all : List (List ℕ)) → AlwaysYields steps (λ y. y.now) s all → steps s (Some x) t
      → (rest : List (List ℕ)) × (all ≡ x.now ∷ rest) × AlwaysYields steps (λ y. y.now) t rest
  taken s t x [] h k = absurd (h x t k)
  taken s t x (y ∷ rest) h k = (rest, ap (λ z. z ∷ rest) (sym (h.1 x t k).0), (h.1 x t k).1)

  ended : (s t : S) (all : List (List ℕ)) → AlwaysYields steps (λ y. y.now) s all → steps s None t → all ≡ []
  ended s t [] h k = refl
  ended s t (y ∷ ys) h k = absurd (h.0 t k)

pub returns-in_err-final_node : goal.returns-in_err-final_node
returns-in_err-final_node c =
    let road = YieldsList-from_str_split 44 c.args.text.now (omega arith) c.split-codes.ensures.text c.split-codes.ensures.has_more c.split-codes.ensures.pattern in
    let a = taken (split_steps FindsChar (λ a b. b ≡ a)) c.split-codes.result c.next.new.self c.in_ok-initial.initial _ road.runs c.in_ok-initial.ensures.steps in
    let none = ended (split_steps FindsChar (λ a b. b ≡ a)) c.next.new.self c.next-2.new.self _ a.2 c.in_err-final_node.ensures.steps in
    rw c.from_residual-in_err-final_node.ensures (λ four. omega (arith, ap length a.1, ap length none, four))

pub returns-in_err-left : goal.returns-in_err-left
returns-in_err-left c =
    let road = YieldsList-from_str_split 44 c.args.text.now (omega arith) c.split-codes.ensures.text c.split-codes.ensures.has_more c.split-codes.ensures.pattern in
    let a = taken (split_steps FindsChar (λ a b. b ≡ a)) c.split-codes.result c.next.new.self c.in_ok-initial.initial _ road.runs c.in_ok-initial.ensures.steps in
    let b = taken (split_steps FindsChar (λ a b. b ≡ a)) c.next.new.self c.next-2.new.self c.in_ok-final_node.final_node _ a.2 c.in_ok-final_node.ensures.steps in
    let none = ended (split_steps FindsChar (λ a b. b ≡ a)) c.next-2.new.self c.next-3.new.self _ b.2 c.in_err-left.ensures.steps in
    rw c.from_residual-in_err-left.ensures (λ four. omega (arith, ap length a.1, ap length b.1, ap length none, four))

pub returns-in_err-right : goal.returns-in_err-right
returns-in_err-right c =
    let road = YieldsList-from_str_split 44 c.args.text.now (omega arith) c.split-codes.ensures.text c.split-codes.ensures.has_more c.split-codes.ensures.pattern in
    let a = taken (split_steps FindsChar (λ a b. b ≡ a)) c.split-codes.result c.next.new.self c.in_ok-initial.initial _ road.runs c.in_ok-initial.ensures.steps in
    let b = taken (split_steps FindsChar (λ a b. b ≡ a)) c.next.new.self c.next-2.new.self c.in_ok-final_node.final_node _ a.2 c.in_ok-final_node.ensures.steps in
    let d = taken (split_steps FindsChar (λ a b. b ≡ a)) c.next-2.new.self c.next-3.new.self c.in_ok-left.left _ b.2 c.in_ok-left.ensures.steps in
    let none = ended (split_steps FindsChar (λ a b. b ≡ a)) c.next-3.new.self c.next-4.new.self _ d.2 c.in_err-right.ensures.steps in
    rw c.from_residual-in_err-right.ensures (λ four. omega (arith, ap length a.1, ap length b.1, ap length d.1, ap length none, four))

pub returns-in-Some : goal.returns-in-Some
returns-in-Some c =
    let road = YieldsList-from_str_split 44 c.args.text.now (omega arith) c.split-codes.ensures.text c.split-codes.ensures.has_more c.split-codes.ensures.pattern in
    let a = taken (split_steps FindsChar (λ a b. b ≡ a)) c.split-codes.result c.next.new.self c.in_ok-initial.initial _ road.runs c.in_ok-initial.ensures.steps in
    let b = taken (split_steps FindsChar (λ a b. b ≡ a)) c.next.new.self c.next-2.new.self c.in_ok-final_node.final_node _ a.2 c.in_ok-final_node.ensures.steps in
    let d = taken (split_steps FindsChar (λ a b. b ≡ a)) c.next-2.new.self c.next-3.new.self c.in_ok-left.left _ b.2 c.in_ok-left.ensures.steps in
    let e = taken (split_steps FindsChar (λ a b. b ≡ a)) c.next-3.new.self c.next-4.new.self c.in_ok-right.right _ d.2 c.in_ok-right.ensures.steps in
    let more = taken (split_steps FindsChar (λ a b. b ≡ a)) c.next-4.new.self c.next-5.new.self c.in-Some.field-0 _ e.2 c.in-Some.ensures.steps in
    λ four. omega (arith, ap length a.1, ap length b.1, ap length d.1, ap length e.1, ap length more.1, four)

pub returns-in-None : goal.returns-in-None
returns-in-None c =
    let road = YieldsList-from_str_split 44 c.args.text.now (omega arith) c.split-codes.ensures.text c.split-codes.ensures.has_more c.split-codes.ensures.pattern in
    let a = taken (split_steps FindsChar (λ a b. b ≡ a)) c.split-codes.result c.next.new.self c.in_ok-initial.initial _ road.runs c.in_ok-initial.ensures.steps in
    let b = taken (split_steps FindsChar (λ a b. b ≡ a)) c.next.new.self c.next-2.new.self c.in_ok-final_node.final_node _ a.2 c.in_ok-final_node.ensures.steps in
    let d = taken (split_steps FindsChar (λ a b. b ≡ a)) c.next-2.new.self c.next-3.new.self c.in_ok-left.left _ b.2 c.in_ok-left.ensures.steps in
    let e = taken (split_steps FindsChar (λ a b. b ≡ a)) c.next-3.new.self c.next-4.new.self c.in_ok-right.right _ d.2 c.in_ok-right.ensures.steps in
    let none = ended (split_steps FindsChar (λ a b. b ≡ a)) c.next-4.new.self c.next-5.new.self _ e.2 c.in-None.ensures.steps in
    a.1 ∙ ap (λ r. c.in_ok-initial.initial.now ∷ r) (b.1 ∙ ap (λ r. c.in_ok-final_node.final_node.now ∷ r) (d.1 ∙ ap (λ r. c.in_ok-left.left.now ∷ r)
    (e.1 ∙ ap (λ r. c.in_ok-right.right.now ∷ r) none)))
