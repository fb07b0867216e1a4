-- The arcs round faces, one arc more.
use Rattle.std.proofs.Common.{◌≡◌, ◌≢◌, ◌==◌, ℕ, zero, suc, ◌<◌, Bool, true, false, not, List, [], ◌∷◌, ◌++◌, length, get_or, set, map, Option, Some, None, refl, sym, ap, ◌∙◌, subst, arith, eq-eqb, eqb-true, if◌then◌else◌}
use Rattle.std.proofs.lemmas.Bool.{eqb-false}
use Rattle.std.proofs.lemmas.List.{get_or-set_other, get_or-set_same, length-map, map-set}
use Rattle.std.specs.Option.{option_eq}
use Rattle.std.proofs.lemmas.List.Elements.{filter-append}
use Rattle.std.specs.List.{filter}
use Rattle.std.specs.Global.{Vec}
use Rattle.edi_schema.specs.declared.role.Role.{Role}
use Rattle.edi_schema.specs.declared.role.Role.TheVariants.{Left, Right, Plain}
use Rattle.edi_plan.specs.Joined.{IsJoined}
use Rattle.edi_plan.specs.Plans.{PlanData, IsPlace}
use Rattle.edi_plan.specs.Sides.{IsSideIfAny}
use Rattle.edi_picture.specs.Faces.{bounds, is_beside}
use Rattle.edi_picture.specs.inner.Rounds.{HaveArcs, is_face}
use Rattle.edi_picture.proofs.Beside.{beside_none, beside_some}

face_is : (p : PlanData) → IsJoined p → (role : Role) (a k : ℕ) (found : Option ℕ) → IsPlace p a → role ≢ Plain → IsSideIfAny p a role found → is_face k found ≡ is_beside p role a k
face_is p joined role a k None there proper none = beside_none p role a k there proper none
face_is p joined role a k (Some x) there proper side = beside_some p joined role a k x proper side

left_proper : Left ≢ Plain
left_proper e = cc

right_proper : Right ≢ Plain
right_proper e = cc

-- the arc has the face on one side alone
abbrev one_alone : Bool → Bool → Bool
one_alone left right = if left then not right else right

bounds_is : (p : PlanData) → IsJoined p → (a k : ℕ) (left right : Option ℕ) → IsPlace p a → IsSideIfAny p a Left left → IsSideIfAny p a Right right
    → bounds p k a ≡ one_alone (is_face k left) (is_face k right)
bounds_is p joined a k left right there one other =
    ap (λ b. one_alone b (is_beside p Right a k)) (sym (face_is p joined Left a k left there left_proper one))
    ∙ ap (one_alone (is_face k left)) (sym (face_is p joined Right a k right there right_proper other))

filtered_more : (p : PlanData) (arcs : List ℕ) (a k : ℕ) (b : Bool) → bounds p k a ≡ b → filter (bounds p k) (arcs ++ a ∷ []) ≡ filter (bounds p k) arcs ++ (if b then a ∷ [] else [])
filtered_more p arcs a k b e = filter-append (bounds p k) arcs (a ∷ []) ∙ ap (λ t. filter (bounds p k) arcs ++ (if t then a ∷ [] else [])) e

-- the face on both sides, or on none
same_not_alone : (b : Bool) → one_alone b b ≡ false
same_not_alone true = refl
same_not_alone false = refl

append_none : (xs : List ℕ) → xs ++ [] ≡ xs
append_none [] = refl
append_none (x ∷ xs) = ap (λ ys. x ∷ ys) (append_none xs)

pub more_none : (p : PlanData) → IsJoined p → (a : ℕ) (left right : Option ℕ) → IsPlace p a → IsSideIfAny p a Left left → IsSideIfAny p a Right right → left ≡ right
    → (lists : List (Vec ℕ)) (arcs : List ℕ) → HaveArcs p arcs lists → HaveArcs p (arcs ++ a ∷ []) lists
more_none p joined a left right there one other same lists arcs h = record {
  long = h.long;
  each = λ k place.
      let no : bounds p k a ≡ false = bounds_is p joined a k left right there one other ∙ (ap (λ o. one_alone (is_face k left) (is_face k o)) (sym same) ∙ same_not_alone (is_face k left)) in
      h.each k place ∙ (sym (append_none (filter (bounds p k) arcs)) ∙ sym (filtered_more p arcs a k false no));
}

face_there : (k : ℕ) (o : Option ℕ) → is_face k o ≡ true → o ≡ Some k
face_there k None e = absurd cc
face_there k (Some x) e = ap Some (eqb-true x k e)

joined_one : (old : List ℕ) (a : ℕ) (left right : Bool) → ((left ≡ true) × (right ≡ true) → ⊥)
    → (old ++ (if left then a ∷ [] else [])) ++ (if right then a ∷ [] else []) ≡ old ++ (if one_alone left right then a ∷ [] else [])
joined_one old a true true apart = absurd (apart (refl, refl))
joined_one old a true false apart = append_none (old ++ a ∷ [])
joined_one old a false true apart = ap (λ xs. xs ++ a ∷ []) (append_none old)
joined_one old a false false apart = append_none (old ++ [])

pub more_two : (p : PlanData) → IsJoined p → (a : ℕ) (left right : Option ℕ) → IsPlace p a → IsSideIfAny p a Left left → IsSideIfAny p a Right right → (left ≡ right → ⊥)
    → (lists mid new : List (Vec ℕ)) → length mid ≡ length lists → length new ≡ length mid
    → ((k : ℕ) → k < length lists → get_or (map (λ (v : Vec ℕ). v.items) mid) k [] ≡ get_or (map (λ (v : Vec ℕ). v.items) lists) k [] ++ (if is_face k left then a ∷ [] else []))
    → ((k : ℕ) → k < length mid → get_or (map (λ (v : Vec ℕ). v.items) new) k [] ≡ get_or (map (λ (v : Vec ℕ). v.items) mid) k [] ++ (if is_face k right then a ∷ [] else []))
    → (arcs : List ℕ) → HaveArcs p arcs lists → HaveArcs p (arcs ++ a ∷ []) new
more_two p joined a left right there one other apart lists mid new long longer first second arcs h = record {
  long = longer ∙ (long ∙ h.long);
  each = λ k place.
      let here : k < length lists = subst (λ n. k < n) (sym h.long) place in
      let in_mid : k < length mid = subst (λ n. k < n) (sym long) here in
      second k in_mid
      ∙ (ap (λ xs. xs ++ (if is_face k right then a ∷ [] else [])) (first k here ∙ ap (λ xs. xs ++ (if is_face k left then a ∷ [] else [])) (h.each k place))
      ∙ (joined_one (filter (bounds p k) arcs) a (is_face k left) (is_face k right) (λ h. apart (face_there k left h.0 ∙ sym (face_there k right h.1)))
      ∙ sym (filtered_more p arcs a k (one_alone (is_face k left) (is_face k right)) (bounds_is p joined a k left right there one other))));
}

pub list_of : (lists : List (Vec ℕ)) (k i : ℕ) (v : Vec ℕ) (a : ℕ) (face : Option ℕ) → face ≡ Some i → i < length lists → k < length lists
    → v.items ≡ get_or (map (λ (v : Vec ℕ). v.items) lists) i [] ++ a ∷ []
    → get_or (map (λ (v : Vec ℕ). v.items) (set lists i v)) k [] ≡ get_or (map (λ (v : Vec ℕ). v.items) lists) k [] ++ (if is_face k face then a ∷ [] else [])
list_of lists k i v a face is there here more =
    ap (λ xs. get_or xs k []) (map-set (λ (v : Vec ℕ). v.items) lists i v)
    ∙ (go (i == k) refl ∙ ap (λ o. get_or (map (λ (v : Vec ℕ). v.items) lists) k [] ++ (if is_face k o then a ∷ [] else [])) (sym is))
  where
    long : i < length (map (λ (v : Vec ℕ). v.items) lists)
    long = subst (λ n. i < n) (sym (length-map lists (λ (v : Vec ℕ). v.items))) there

    go : (b : Bool) → (i == k) ≡ b → get_or (set (map (λ (v : Vec ℕ). v.items) lists) i v.items) k []
        ≡ get_or (map (λ (v : Vec ℕ). v.items) lists) k [] ++ (if i == k then a ∷ [] else [])
    go true e =
        let same : i ≡ k = eqb-true i k e in
        ap (λ n. get_or (set (map (λ (v : Vec ℕ). v.items) lists) i v.items) n []) (sym same)
        ∙ (get_or-set_same (map (λ (v : Vec ℕ). v.items) lists) i v.items [] long
        ∙ (more ∙ (ap (λ n. get_or (map (λ (v : Vec ℕ). v.items) lists) n [] ++ a ∷ []) same
        ∙ ap (λ b. get_or (map (λ (v : Vec ℕ). v.items) lists) k [] ++ (if b then a ∷ [] else [])) (sym e))))
    go false e =
        get_or-set_other (map (λ (v : Vec ℕ). v.items) lists) i k v.items [] (λ same. eqb-false i k e (sym same))
        ∙ (sym (append_none (get_or (map (λ (v : Vec ℕ). v.items) lists) k [])) ∙ ap (λ b. get_or (map (λ (v : Vec ℕ). v.items) lists) k [] ++ (if b then a ∷ [] else [])) (sym e))

-- the list of an element is that of the lists
pub list_at : (lists : List (Vec ℕ)) (i : ℕ) (v : Vec ℕ) → i < length lists → v ≡ get_or lists i v → v.items ≡ get_or (map (λ (v : Vec ℕ). v.items) lists) i []
list_at [] i v there is = absurd (omega (arith, there))
list_at (x ∷ lists) zero v there is = ap (λ (v : Vec ℕ). v.items) is
list_at (x ∷ lists) (suc i) v there is = list_at lists i v (omega (arith, there)) is

-- what a test of two options says
pub one_option : (a b : Option ℕ) → true ≡ option_eq (λ x y. x == y) a b → a ≡ b
one_option None None e = refl
one_option (Some x) (Some y) e = ap Some (eqb-true x y (sym e))
one_option None (Some y) e = absurd cc
one_option (Some x) None e = absurd cc

not_apart : (a : Option ℕ) → false ≡ option_eq (λ x y. x == y) a a → ⊥
not_apart None e = cc
not_apart (Some x) e = let same = eq-eqb x x refl in cc

pub two_options : (a b : Option ℕ) → false ≡ option_eq (λ x y. x == y) a b → a ≡ b → ⊥
two_options a b e same = not_apart a (e ∙ ap (option_eq (λ x y. x == y) a) (sym same))
