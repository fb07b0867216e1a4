-- The extent of the arcs, one more at a time.
use Rattle.std.proofs.Common.{◌≡◌, ℕ, ◌+◌, ◌<◌, List, ◌++◌, [], ◌∷◌, Option, append_assoc, append-nil, length, get_or, take, sym, ap, ◌∙◌, subst}
use Rattle.std.proofs.lemmas.List.{take_more}
use Rattle.std.specs.List.{flat_map}
use Rattle.edi_record.specs.declared.record.Point.{Point}
use Rattle.edi_plan.specs.Extents.{IsExtentIfAny}
use Rattle.edi_plan.specs.declared.extent.Extent.{Extent}

one_list_more : (f : ℕ → List Point) (xs : List ℕ) (x : ℕ) → flat_map f (xs ++ x ∷ []) ≡ flat_map f xs ++ f x
one_list_more f [] x = append-nil (f x)
one_list_more f (y ∷ xs) x = ap (λ v. f y ++ v) (one_list_more f xs x) ∙ sym (append_assoc (f y) (flat_map f xs) (f x))

pub one_arc_more : (f : ℕ → List Point) (ks : List ℕ) (i : ℕ) (points : List Point) (found mid new : Option Extent) → i < length ks → points ≡ f (get_or ks i 0)
    → ((before : List Point) → IsExtentIfAny before found → IsExtentIfAny (before ++ flat_map f (take i ks)) mid)
    → ((before : List Point) → IsExtentIfAny before mid → IsExtentIfAny (before ++ points) new)
    → (before : List Point) → IsExtentIfAny before found → IsExtentIfAny (before ++ flat_map f (take (i + 1) ks)) new
one_arc_more f ks i points found mid new less is done one before h =
    subst (λ (all : List Point). IsExtentIfAny all new) joined (one (before ++ flat_map f (take i ks)) (done before h))
  where
    joined : (before ++ flat_map f (take i ks)) ++ points ≡ before ++ flat_map f (take (i + 1) ks)
    joined = append_assoc before (flat_map f (take i ks)) points
        ∙ ap (λ v. before ++ v) (ap (λ v. flat_map f (take i ks) ++ v) is
        ∙ (sym (one_list_more f (take i ks) (get_or ks i 0)) ∙ ap (flat_map f) (sym (take_more ks i 0 less))))
