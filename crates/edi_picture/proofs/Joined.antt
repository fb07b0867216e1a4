-- What is written piece by piece.
use Rattle.std.proofs.Common.{◌≡◌, ℕ, ◌<◌, List, ◌++◌, append_assoc, length, get_or, sym, ap, ◌∙◌, subst}
use Rattle.std.specs.List.{All}
use Rattle.std.proofs.lemmas.List.Elements.{All-filter, All-from_get_or}
use Rattle.edi_record.specs.declared.record.Kind.TheVariants.{Par}
use Rattle.edi_picture.specs.Faces.{arcs_round, bounds}
use Rattle.edi_record.specs.declared.record.Kind.{Kind}
use Rattle.edi_plan.specs.Places.{places_of}
use Rattle.edi_plan.specs.Plans.{PlanData, IsPlace}
use Rattle.edi_plan.proofs.PlaceLemmas.{place_there}

pub joined2 : (old a b t u : List ℕ) → t ≡ old ++ a → u ≡ t ++ b → u ≡ old ++ (a ++ b)
joined2 old a b t u one two = two ∙ (ap (λ x. x ++ b) one ∙ append_assoc old a b)

pub joined3 : (old a b c t u v : List ℕ) → t ≡ old ++ a → u ≡ t ++ b → v ≡ u ++ c → v ≡ old ++ (a ++ b ++ c)
joined3 old a b c t u v one two three = joined2 old (a ++ b) c u v (joined2 old a b t u one two) three

pub joined4 : (old a b c d t u v w : List ℕ) → t ≡ old ++ a → u ≡ t ++ b → v ≡ u ++ c → w ≡ v ++ d → w ≡ old ++ (a ++ b ++ c ++ d)
joined4 old a b c d t u v w one two three four = joined2 old (a ++ b ++ c) d v w (joined3 old a b c t u v one two three) four

pub joined5 : (old a b c d e t u v w x : List ℕ) → t ≡ old ++ a → u ≡ t ++ b → v ≡ u ++ c → w ≡ v ++ d → x ≡ w ++ e → x ≡ old ++ (a ++ b ++ c ++ d ++ e)
joined5 old a b c d e t u v w x one two three four five = joined2 old (a ++ b ++ c ++ d) e w x (joined4 old a b c d t u v w one two three four) five

pub joined6 : (old a b c d e f t u v w x y : List ℕ) → t ≡ old ++ a → u ≡ t ++ b → v ≡ u ++ c → w ≡ v ++ d → x ≡ w ++ e → y ≡ x ++ f
    → y ≡ old ++ (a ++ b ++ c ++ d ++ e ++ f)
joined6 old a b c d e f t u v w x y one two three four five six = joined2 old (a ++ b ++ c ++ d ++ e) f x y (joined5 old a b c d e t u v w x one two three four five) six

-- the places of a type are places
pub places_there : (kind : Kind) (p : PlanData) (places : List ℕ) (k : ℕ) → places ≡ places_of kind p → k < length places → IsPlace p (get_or places k 0)
places_there kind p places k is less =
    subst (λ (ps : List ℕ). IsPlace p (get_or ps k 0)) (sym is) (place_there kind p k (subst (λ (ps : List ℕ). k < length ps) is less))

-- all arcs round a face are places
pub round_there : (p : PlanData) (k : ℕ) (arcs : List ℕ) → arcs ≡ arcs_round p k → All (IsPlace p) arcs
round_there p k arcs is =
    subst (All (IsPlace p)) (sym is) (All-filter (bounds p k) (IsPlace p) (places_of Par p) (All-from_get_or (IsPlace p) (places_of Par p) 0 (place_there Par p)))

pub joined7 : (old a b c d e f g t u v w x y z : List ℕ) → t ≡ old ++ a → u ≡ t ++ b → v ≡ u ++ c → w ≡ v ++ d → x ≡ w ++ e → y ≡ x ++ f → z ≡ y ++ g
    → z ≡ old ++ (a ++ b ++ c ++ d ++ e ++ f ++ g)
joined7 old a b c d e f g t u v w x y z one two three four five six seven =
    joined2 old (a ++ b ++ c ++ d ++ e ++ f) g y z (joined6 old a b c d e f t u v w x y one two three four five six) seven
