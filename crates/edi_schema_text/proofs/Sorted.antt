-- Two schemas in order that say the same at each name are one.
use Rattle.std.proofs.Common.{◌≡◌, Bool, true, false, true≢false, [], ◌∷◌, Some, None, refl, sym, ap, ◌∙◌, Ordering, Less, Equal, Greater}
use Rattle.std.specs.List.{AllByRecursion, list_any}
use Rattle.std.specs.Map.{keys_of}
use Rattle.std.specs.Ordering.{is_eq, ordering_reverse}
use Rattle.std.proofs.lemmas.Option.{none-some, same_Some}
use Rattle.std.proofs.lemmas.Bool.{false_from_ne_true}
use Rattle.edi_record.specs.Texts.{is_semicolon}
use Rattle.edi_record.specs.declared.name.Name.{Name}
use Rattle.edi_schema.proofs.Names.{name_itself, other_name, same_name, ties_name}
use Rattle.edi_schema.proofs.Ordered.{name_total}
use Rattle.edi_schema.specs.Classes.{Classes, class_named, is_name, name_cmp}
use Rattle.edi_schema.specs.Sorted.{AlwaysRises}
use Rattle.edi_schema.specs.declared.class.Class.{Class}
use Rattle.edi_schema_text.proofs.Meaning.{meaning}

-- ---- a name that isn't there

below_all : (n : Name) (s : Classes) → AllByRecursion (λ m. name_cmp n m ≡ Less) (keys_of s) → class_named s n ≡ None
below_all n [] all = refl
below_all n (e ∷ s) all =
    let apart : is_name n e.0 ≡ false = false_from_ne_true (is_name n e.0) (λ same. true≢false (sym (name_itself e.0) ∙ (ap (λ m. is_name e.0 m) (sym (same_name n e.0 same)) ∙ other_name n e.0 all.0))) in
    rw apart (below_all n s all.1)

above_first : (n : Name) (m : Name) (s : Classes) → name_cmp n m ≡ Less → AllByRecursion (λ k. name_cmp m k ≡ Less) (keys_of s) → AllByRecursion (λ k. name_cmp n k ≡ Less) (keys_of s)
above_first n m [] less all = tt
above_first n m (e ∷ s) less all = (name_total.trans n m e.0 less all.0, above_first n m s less all.1)

-- ---- one list

-- behind one first name, the lists agree on each name too
tails_agree : (e f : Name × Class) (xs ys : Classes) → e.0 ≡ f.0 → AllByRecursion (λ m. name_cmp e.0 m ≡ Less) (keys_of xs) → AllByRecursion (λ m. name_cmp f.0 m ≡ Less) (keys_of ys)
    → ((n : Name) → class_named (e ∷ xs) n ≡ class_named (f ∷ ys) n) → (n : Name) → class_named xs n ≡ class_named ys n
tails_agree e f xs ys name hx hy agree n = go (is_name n e.0) refl
  where
    go : (b : Bool) → is_name n e.0 ≡ b → class_named xs n ≡ class_named ys n
    go true same =
        let one : n ≡ e.0 = same_name n e.0 same in
        ap (class_named xs) one ∙ (below_all e.0 xs hx ∙ (sym (below_all f.0 ys hy) ∙ ap (class_named ys) (sym name ∙ sym one)))
    go false other =
        let apart : is_name n f.0 ≡ false = ap (is_name n) (sym name) ∙ other in
        let both = agree n in
        rw (other, apart) at both

first_there : (e : Name × Class) (xs : Classes) → class_named (e ∷ xs) e.0 ≡ Some e.1
first_there e xs = rw (name_itself e.0) refl

pub one_list : (xs ys : Classes) → AlwaysRises name_cmp (keys_of xs) → AlwaysRises name_cmp (keys_of ys) → ((n : Name) → class_named xs n ≡ class_named ys n) → xs ≡ ys
one_list [] [] hx hy agree = refl
one_list [] (f ∷ ys) hx hy agree = absurd (none-some f.1 (agree f.0 ∙ first_there f ys))
one_list (e ∷ xs) [] hx hy agree = absurd (none-some e.1 (sym (agree e.0) ∙ first_there e xs))
one_list (e ∷ xs) (f ∷ ys) hx hy agree = go (name_cmp e.0 f.0) refl (one_list xs ys hx.1 hy.1)
  where
    go : (o : Ordering) → name_cmp e.0 f.0 ≡ o → (((n : Name) → class_named xs n ≡ class_named ys n) → xs ≡ ys) → e ∷ xs ≡ f ∷ ys
    go Less h rest =
        let none : class_named (f ∷ ys) e.0 ≡ None = below_all e.0 (f ∷ ys) (h, above_first e.0 f.0 ys h hy.0) in
        absurd (none-some e.1 (sym none ∙ (sym (agree e.0) ∙ first_there e xs)))
    go Greater h rest =
        let less : name_cmp f.0 e.0 ≡ Less = name_total.antisymm f.0 e.0 ∙ ap ordering_reverse h in
        let none : class_named (e ∷ xs) f.0 ≡ None = below_all f.0 (e ∷ xs) (less, above_first f.0 e.0 xs less hx.0) in
        absurd (none-some f.1 (sym none ∙ (agree f.0 ∙ first_there f ys)))
    go Equal h rest =
        let name : e.0 ≡ f.0 = same_name e.0 f.0 (sym (ties_name e.0 f.0) ∙ ap is_eq h) in
        let class : e.1 ≡ f.1 = same_Some e.1 f.1 (sym (first_there e xs) ∙ (agree e.0 ∙ (ap (class_named (f ∷ ys)) name ∙ first_there f ys))) in
        let more = rest (tails_agree e f xs ys name hx.0 hy.0 agree) in
        λ j. (name j, class j) ∷ more j

-- ---- what a schema means is in order

kept_all : (P : Name → Type 0) (s : Classes) → AllByRecursion P (keys_of s) → AllByRecursion P (keys_of (meaning s))
kept_all P [] all = tt
kept_all P (e ∷ s) all = go (list_any is_semicolon e.0.rty) refl (kept_all P s all.1)
  where
    go : (b : Bool) → list_any is_semicolon e.0.rty ≡ b → AllByRecursion P (keys_of (meaning s)) → AllByRecursion P (keys_of (meaning (e ∷ s)))
    go true h more = rw h more
    go false h more = rw h (all.0, more)

pub meaning_rises : (s : Classes) → AlwaysRises name_cmp (keys_of s) → AlwaysRises name_cmp (keys_of (meaning s))
meaning_rises [] up = tt
meaning_rises (e ∷ s) up = go (list_any is_semicolon e.0.rty) refl (meaning_rises s up.1)
  where
    go : (b : Bool) → list_any is_semicolon e.0.rty ≡ b → AlwaysRises name_cmp (keys_of (meaning s)) → AlwaysRises name_cmp (keys_of (meaning (e ∷ s)))
    go true h more = rw h more
    go false h more = rw h (kept_all (λ m. name_cmp e.0 m ≡ Less) s up.0, more)
