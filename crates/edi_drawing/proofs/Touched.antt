-- Which records are touched.
use Rattle.std.proofs.Common.{◌≡◌, ℕ, ◌+◌, ◌<◌, Bool, true, false, ◌&&◌, ◌||◌, List, [], ◌∷◌, ◌++◌, length, get_or, map, take, refl, sym, ap, ◌∙◌, subst, arith}
use Rattle.std.specs.List.{list_any, range_with_len}
use Rattle.std.proofs.Math.Bool.{or-false}
use Rattle.std.proofs.lemmas.List.{take_more}
use Rattle.std.proofs.lemmas.List.Folds.{list_any-append}
use Rattle.std.proofs.lemmas.List.FromFn.{get_or-map-range_with_len, length-map-range_with_len}
use Rattle.edi_plan.specs.Plans.{PlanData}
use Rattle.edi_picture.specs.declared.mark.Mark.{Mark}
use Rattle.edi_drawing.specs.Tints.{touches}
use Rattle.edi_drawing.specs.inner.Tints.{HaveTouched}

-- one link more
pub more_touched : (marks : List Mark) (p : PlanData) (links : List ℕ) (i link : ℕ) (old new : List Bool) → i < length links → link ≡ get_or links i 0
    → HaveTouched marks p (take i links) old → length new ≡ length old
    → ((k : ℕ) → k < length old → get_or new k false ≡ (get_or old k false || touches marks p k link))
    → HaveTouched marks p (take (i + 1) links) new
more_touched marks p links i link old new less is have long each = record {
  long = long ∙ have.long;
  each = λ k h.
      let before : k < length old = subst (λ (n : ℕ). k < n) long h in
      each k before
      ∙ (ap (λ (b : Bool). b || touches marks p k link) (have.each k before)
      ∙ (ap (λ (b : Bool). list_any (touches marks p k) (take i links) || b) (sym (or-false (touches marks p k link)))
      ∙ (sym (list_any-append (touches marks p k) (take i links) (link ∷ []))
      ∙ ap (list_any (touches marks p k)) (ap (λ (x : ℕ). take i links ++ x ∷ []) is ∙ sym (take_more links i 0 less)))));
}

-- one value of each place
pub value_at : {X : Type 0} (f : ℕ → X) (n k : ℕ) (d : X) (xs : List X) → xs ≡ map f (range_with_len 0 n) → k < n → get_or xs k d ≡ f k
value_at {X} f n k d xs is less = ap (λ (ys : List X). get_or ys k d) is ∙ get_or-map-range_with_len f 0 n k k d less (omega arith)

pub values_long : {X : Type 0} (f : ℕ → X) (n : ℕ) (xs : List X) → xs ≡ map f (range_with_len 0 n) → length xs ≡ n
values_long {X} f n xs is = ap length is ∙ length-map-range_with_len f 0 n

with_guard : (c b : Bool) → c ≡ true → b ≡ (c && b)
with_guard c b h = rw h refl

without : (c b : Bool) → c ≡ false → false ≡ (c && b)
without c b h = rw h refl
