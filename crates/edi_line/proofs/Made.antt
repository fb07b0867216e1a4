-- Lists that are made from others, element by element.
use Rattle.std.proofs.Common.{◌≡◌, List, [], ◌∷◌, ◌++◌, sym, ap, ◌∙◌, inl, inr}
use Rattle.edi_line.specs.Made.{AreMadeFrom}

-- where each item is the only one that its element makes, the list is the only one
pub made_one : {X Y : Type 0} (Counts : List X → X → Type 0) (Makes : List X → X → List X → Y → Type 0)
    → ((front : List X) (x : X) (behind : List X) (y z : Y) → Makes front x behind y → Makes front x behind z → y ≡ z)
    → (front list : List X) (items others : List Y) → AreMadeFrom Counts Makes front list items → AreMadeFrom Counts Makes front list others → items ≡ others
made_one Counts Makes one front [] items others h k = h ∙ sym k
made_one Counts Makes one front (x ∷ behind) items others (inl (y, ys, c, m, e, h)) (inl (z, zs, d, n, f, k)) =
    e ∙ ap (λ w. w ∷ ys) (one front x behind y z m n) ∙ ap (λ ws. z ∷ ws) (made_one Counts Makes one (front ++ x ∷ []) behind ys zs h k) ∙ sym f
made_one Counts Makes one front (x ∷ behind) items others (inl h) (inr k) = absurd (k.0 h.2)
made_one Counts Makes one front (x ∷ behind) items others (inr h) (inl k) = absurd (h.0 k.2)
made_one Counts Makes one front (x ∷ behind) items others (inr h) (inr k) = made_one Counts Makes one (front ++ x ∷ []) behind items others h.1 k.1
