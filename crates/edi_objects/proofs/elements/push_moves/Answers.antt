use Rattle.std.proofs.Common.{◌≡◌, ◌∙◌, ◌++◌, List, ℕ, ap, append_assoc, codes, decimal, length}
use Rattle.edi_line.specs.Number.{size_text}
use Rattle.edi_objects.specs.Distances.{farthest, side_by_side, unlike_count}
use Rattle.edi_objects.proofs.elements.push_moves.Goals as goal

joined : (old a b t u : List ℕ) → t ≡ old ++ a → u ≡ t ++ b → u ≡ old ++ (a ++ b)
joined old a b t u one two = two ∙ (ap (λ (x : List ℕ). x ++ b) one ∙ append_assoc old a b)

pub returns : goal.returns
returns c =
    let old = c.args.text.now.items in
    let pairs = side_by_side c.args.points.now c.args.others.now in
    let begin : List ℕ = codes " points (" in
    let count : List ℕ = decimal (unlike_count pairs) in
    let of : List ℕ = codes " of " in
    let all : List ℕ = decimal (length c.args.points.now) in
    let most : List ℕ = codes ", by at most " in
    let far : List ℕ = size_text (farthest pairs) in
    let first = c.extend_from_slice.new.self.items in
    let second = c.push_number.new.text.items in
    let third = c.extend_from_slice-2.new.self.items in
    let fourth = c.push_number-2.new.text.items in
    let fifth = c.extend_from_slice-3.new.self.items in
    let sixth = c.push_millionths.new.text.items in
    let counted : second ≡ first ++ count = c.in_ok-push_number.ensures ∙ ap (λ (n : ℕ). first ++ decimal n) c.moves_between-moves.ensures.count in
    let placed : sixth ≡ fifth ++ far = c.in_ok-push_millionths.ensures ∙ ap (λ (n : ℕ). fifth ++ size_text n) c.moves_between-moves.ensures.farthest in
    joined old (begin ++ count ++ of ++ all ++ most ++ far) (codes ")") sixth c.extend_from_slice-4.new.self.items
    (joined old (begin ++ count ++ of ++ all ++ most) far fifth sixth
    (joined old (begin ++ count ++ of ++ all) most fourth fifth
    (joined old (begin ++ count ++ of) all third fourth
    (joined old (begin ++ count) of second third
    (joined old begin count first second c.in_ok-extend_from_slice.ensures.items counted)
    c.in_ok-extend_from_slice-2.ensures.items) c.in_ok-push_number-2.ensures) c.in_ok-extend_from_slice-3.ensures.items) placed)
    c.in_ok-extend_from_slice-4.ensures.items
