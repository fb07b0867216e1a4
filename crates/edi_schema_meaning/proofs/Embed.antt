-- Where the classes that a pointer can name stand in a schema.
use Rattle.std.proofs.Common.{◌≡◌, ℕ, zero, suc, ◌+◌, ◌<◌, ◌≤◌, Bool, true, false, cond, nat_lt, true≢false, List, [], ◌∷◌, length, map, Option, Some, None, option_map, unwrap_or, slice_get, position, count_by, refl, sym, ap, ◌∙◌, arith, Ordering, Less, Equal, Greater}
use Rattle.std.specs.List.{AllByRecursion, list_any, position_or_len}
use Rattle.std.specs.Ordering.{nat_cmp, MatchOrdering}
use Rattle.std.specs.Cmp.{nat_cmp_is, ranks}
use Rattle.std.proofs.lemmas.Bool.{ltb-true, lt-ltb, false_from_ne_true}
use Rattle.std.proofs.lemmas.Option.{none-some, same_Some, slice_get-map}
use Rattle.edi_line.proofs.EachElement.{each_from_found}
use Rattle.edi_record.specs.Texts.{is_semicolon}
use Rattle.edi_record.specs.declared.name.Name.{Name}
use Rattle.edi_schema.proofs.Paired.{itself, role_there, there}
use Rattle.edi_schema.proofs.Pointable.{is_the_one, makes_pointable, some_pass}
use Rattle.edi_schema.specs.Classes.{Classes, IsSchema, class_name_at, has_role, is_name, is_pointable, partner_at, partner_of, place_of, role_of}
use Rattle.edi_schema.specs.Roles.{exchanged, is_plain, same_role}
use Rattle.edi_schema.specs.declared.class.Class.{Class}
use Rattle.edi_schema.specs.declared.role.Role.{Role}
use Rattle.edi_schema.specs.declared.role.Role.TheVariants.{Plain}
use Rattle.edi_schema.proofs.RoleTests.{still_plain}
use Rattle.edi_schema_text.proofs.Meaning.{meaning, meaning_of}
use Rattle.edi_schema_text.proofs.Named.{name_apart, settled_role}

-- ---- the places

-- a place behind a first class, where the places behind it go by f
step : (ℕ → ℕ) → ℕ → ℕ
step f zero = zero
step f (suc k) = suc (f k)

back : (ℕ → ℕ) → ℕ → ℕ
back f zero = zero
back f (suc k) = f k

-- the place in the schema of a class of what it means
pub embed : Classes → ℕ → ℕ
embed [] k = k
embed (e ∷ s) k = cond (list_any is_semicolon e.0.rty) (suc (embed s k)) (step (embed s) k)

-- and the way back
pub unembed : Classes → ℕ → ℕ
unembed [] k = k
unembed (e ∷ s) k = cond (list_any is_semicolon e.0.rty) (back (unembed s) k) (step (unembed s) k)

pub back_again : (s : Classes) (k : ℕ) → unembed s (embed s k) ≡ k
unfolding embed unembed step back
back_again [] k = refl
back_again (e ∷ s) k = go (list_any is_semicolon e.0.rty) refl k (back_again s)
  where
    go : (b : Bool) → list_any is_semicolon e.0.rty ≡ b → (k : ℕ) → ((j : ℕ) → unembed s (embed s j) ≡ j) → unembed (e ∷ s) (embed (e ∷ s) k) ≡ k
    go true h k more = rw h (more k)
    go false h zero more = rw h refl
    go false h (suc k) more = rw h (ap suc (more k))

pub rises : (s : Classes) (a b : ℕ) → a < b → embed s a < embed s b
unfolding embed step
rises [] a b h = h
rises (e ∷ s) a b h = go (list_any is_semicolon e.0.rty) refl a b h (rises s)
  where
    go : (t : Bool) → list_any is_semicolon e.0.rty ≡ t → (a b : ℕ) → a < b → ((i j : ℕ) → i < j → embed s i < embed s j) → embed (e ∷ s) a < embed (e ∷ s) b
    go true g a b h more = let up : embed s a < embed s b = more a b h in rw g (omega (arith, up))
    go false g zero zero h more = absurd (omega arith)
    go false g zero (suc b) h more = rw g (omega arith)
    go false g (suc a) zero h more = absurd (omega arith)
    go false g (suc a) (suc b) h more = let up : embed s a < embed s b = more a b (omega arith) in rw g (omega (arith, up))

-- the places go as they went
pub same_order : (s : Classes) (a b : ℕ) → nat_cmp (embed s a) (embed s b) ≡ nat_cmp a b
same_order s a b = sym (nat_cmp_is (embed s a) (embed s b) (nat_cmp a b) (go (nat_cmp a b) (ranks a b)))
  where
    go : (o : Ordering) → MatchOrdering o (a < b) (a ≡ b) (b < a) → MatchOrdering o (embed s a < embed s b) (embed s a ≡ embed s b) (embed s b < embed s a)
    go Less h = rises s a b h
    go Equal h = ap (embed s) h
    go Greater h = rises s b a h

-- ---- what stands there

pub stands : (s : Classes) (k : ℕ) → slice_get (meaning s) k ≡ option_map meaning_of (slice_get s (embed s k))
unfolding embed step
stands [] k = refl
stands (e ∷ s) k = go (list_any is_semicolon e.0.rty) refl k (stands s)
  where
    go : (b : Bool) → list_any is_semicolon e.0.rty ≡ b → (k : ℕ) → ((j : ℕ) → slice_get (meaning s) j ≡ option_map meaning_of (slice_get s (embed s j)))
        → slice_get (meaning (e ∷ s)) k ≡ option_map meaning_of (slice_get (e ∷ s) (embed (e ∷ s) k))
    go true h k more = rw h (more k)
    go false h zero more = rw h refl
    go false h (suc k) more = rw h (more k)

-- ---- the first that passes

lt-suc : (a b : ℕ) → nat_lt (1 + a) (suc b) ≡ nat_lt a b
lt-suc a b = go (nat_lt a b) refl
  where
    go : (t : Bool) → nat_lt a b ≡ t → nat_lt (1 + a) (suc b) ≡ t
    go true h = let below : a < b = ltb-true a b h in lt-ltb (1 + a) (suc b) (omega (arith, below))
    go false h = false_from_ne_true (nat_lt (1 + a) (suc b)) (λ g.
        let below : 1 + a < suc b = ltb-true (1 + a) (suc b) g in
        let less : a < b = omega (arith, below) in
        true≢false (sym (lt-ltb a b less) ∙ h))

pub position-cons : {X : Type 0} (test : X → Bool) (x : X) (xs : List X) → position test (x ∷ xs) ≡ cond (test x) (Some 0) (option_map suc (position test xs))
position-cons {X} test x xs = go (test x) refl
  where
    later : (t : Bool) → cond t (Some (1 + position_or_len test xs)) None ≡ option_map suc (cond t (Some (position_or_len test xs)) None)
    later true = ap Some (Rattle.std.proofs.Common.one-add (position_or_len test xs))
    later false = refl

    go : (b : Bool) → test x ≡ b → position test (x ∷ xs) ≡ cond b (Some 0) (option_map suc (position test xs))
    go true h = rw h (rw (lt-ltb 0 (length (x ∷ xs)) (omega arith)) refl)
    go false h = rw h (ap (λ t. cond t (Some (1 + position_or_len test xs)) None) (lt-suc (position_or_len test xs) (length xs)) ∙ later (nat_lt (position_or_len test xs) (length xs)))

pub position-map : {X Y : Type 0} (test : Y → Bool) (f : X → Y) (xs : List X) → position test (map f xs) ≡ position (λ x. test (f x)) xs
position-map test f [] = refl
position-map test f (x ∷ xs) =
    position-cons test (f x) (map f xs) ∙ (ap (λ o. cond (test (f x)) (Some 0) (option_map suc o)) (position-map test f xs) ∙ sym (position-cons (λ y. test (f y)) x xs))

-- ---- the first class that passes is one that a pointer can name

abbrev pub Skips : (Name × Class → Bool) → Name × Class → Type 0
Skips test e = list_any is_semicolon e.0.rty ≡ true → test e ≡ false

abbrev pub Agrees : (Name × Class → Bool) → (Name × Class → Bool) → Type 0
Agrees test there = (e : Name × Class) → there (meaning_of e) ≡ test e

mapped_twice : {X Y Z : Type 0} (f : X → Z) (g : Y → Z) (h : X → Y) → ((x : X) → f x ≡ g (h x)) → (o : Option X) → option_map f o ≡ option_map g (option_map h o)
mapped_twice f g h same None = refl
mapped_twice f g h same (Some x) = ap Some (same x)

embed_skip : (e : Name × Class) (s : Classes) → list_any is_semicolon e.0.rty ≡ true → (k : ℕ) → embed (e ∷ s) k ≡ suc (embed s k)
unfolding embed
embed_skip e s h k = rw h refl

embed_first : (e : Name × Class) (s : Classes) → list_any is_semicolon e.0.rty ≡ false → embed (e ∷ s) 0 ≡ 0
unfolding embed step
embed_first e s h = rw h refl

embed_later : (e : Name × Class) (s : Classes) → list_any is_semicolon e.0.rty ≡ false → (k : ℕ) → embed (e ∷ s) (suc k) ≡ suc (embed s k)
unfolding embed step
embed_later e s h k = rw h refl

meaning_skip : (e : Name × Class) (s : Classes) → list_any is_semicolon e.0.rty ≡ true → meaning (e ∷ s) ≡ meaning s
meaning_skip e s h = rw h refl

meaning_own : (e : Name × Class) (s : Classes) → list_any is_semicolon e.0.rty ≡ false → meaning (e ∷ s) ≡ meaning_of e ∷ meaning s
meaning_own e s h = rw h refl

pub placed : (test there : Name × Class → Bool) → Agrees test there → (s : Classes) → AllByRecursion (Skips test) s → position test s ≡ option_map (embed s) (position there (meaning s))
placed test there agrees [] all = refl
placed test there agrees (e ∷ s) all = go (list_any is_semicolon e.0.rty) refl (placed test there agrees s all.1)
  where
    mapped : Option ℕ
    mapped = position there (meaning s)

    own : (b : Bool) → test e ≡ b → list_any is_semicolon e.0.rty ≡ false → position test s ≡ option_map (embed s) mapped
        → cond b (Some 0) (option_map suc (position test s)) ≡ option_map (embed (e ∷ s)) (cond b (Some 0) (option_map suc mapped))
    own true t h more = ap Some (sym (embed_first e s h))
    own false t h more =
        ap (option_map suc) more ∙ (sym (mapped_twice (λ k. suc (embed s k)) suc (embed s) (λ k. refl) mapped) ∙ mapped_twice (λ k. suc (embed s k)) (embed (e ∷ s)) suc (λ k. sym (embed_later e s h k)) mapped)

    go : (b : Bool) → list_any is_semicolon e.0.rty ≡ b → position test s ≡ option_map (embed s) mapped → position test (e ∷ s) ≡ option_map (embed (e ∷ s)) (position there (meaning (e ∷ s)))
    go true h more =
        position-cons test e s
        ∙ (ap (λ b. cond b (Some 0) (option_map suc (position test s))) (all.0 h)
        ∙ (ap (option_map suc) more
        ∙ (sym (mapped_twice (embed (e ∷ s)) suc (embed s) (embed_skip e s h) mapped)
        ∙ ap (λ l. option_map (embed (e ∷ s)) (position there l)) (sym (meaning_skip e s h)))))
    go false h more =
        position-cons test e s
        ∙ (own (test e) refl h more
        ∙ (ap (λ b. option_map (embed (e ∷ s)) (cond b (Some 0) (option_map suc mapped))) (sym (agrees e))
        ∙ (ap (option_map (embed (e ∷ s))) (sym (position-cons there (meaning_of e) (meaning s)))
        ∙ ap (λ l. option_map (embed (e ∷ s)) (position there l)) (sym (meaning_own e s h)))))

each : {X : Type 0} (P : X → Type 0) (xs : List X) → ((x : X) → P x) → AllByRecursion P xs
each P [] all = tt
each P (x ∷ xs) all = (all x, each P xs all)

-- the class of a name
pub name_placed : (s : Classes) (n : Name) → list_any is_semicolon n.rty ≡ false → place_of s n ≡ option_map (embed s) (place_of (meaning s) n)
name_placed s n none =
    position-map (is_name n) (λ e. e.0) s
    ∙ (placed (λ e. is_name n e.0) (λ e. is_name n e.0) (λ e. refl) s (each (Skips (λ e. is_name n e.0)) s (λ e some. name_apart n e.0 none some))
    ∙ ap (option_map (embed s)) (sym (position-map (is_name n) (λ e. e.0) (meaning s))))

-- ---- what is said there

pub role_placed : (s : Classes) (k : ℕ) → role_of (meaning s) k ≡ role_of s (embed s k)
role_placed s k = rw (stands s k) (go (slice_get s (embed s k)))
  where
    go : (o : Option (Name × Class)) → unwrap_or (option_map (λ c. c.role) (option_map (λ e. e.1) (option_map meaning_of o))) Plain ≡ unwrap_or (option_map (λ c. c.role) (option_map (λ e. e.1) o)) Plain
    go None = refl
    go (Some e) = settled_role e.0.rty e.1

pub class_placed : (s : Classes) (k : ℕ) → class_name_at (meaning s) k ≡ class_name_at s (embed s k)
class_placed s k = slice_get-map (λ e. e.0) (meaning s) k ∙ (ap (option_map (λ e. e.0)) (stands s k) ∙ (go (slice_get s (embed s k)) ∙ sym (slice_get-map (λ e. e.0) s (embed s k))))
  where
    go : (o : Option (Name × Class)) → option_map (λ e. e.0) (option_map meaning_of o) ≡ option_map (λ e. e.0) o
    go None = refl
    go (Some e) = refl

-- a class that stands there can be named
pub named_there : (s : Classes) (k : ℕ) (e : Name × Class) → slice_get s (embed s k) ≡ Some e → list_any is_semicolon e.0.rty ≡ false
unfolding embed step
named_there [] k e h = absurd (none-some e h)
named_there (f ∷ s) k e h = go (list_any is_semicolon f.0.rty) refl k h (named_there s)
  where
    go : (b : Bool) → list_any is_semicolon f.0.rty ≡ b → (k : ℕ) → slice_get (f ∷ s) (embed (f ∷ s) k) ≡ Some e → ((j : ℕ) (x : Name × Class) → slice_get s (embed s j) ≡ Some x → list_any is_semicolon x.0.rty ≡ false)
        → list_any is_semicolon e.0.rty ≡ false
    go true g k h more = more k e (rw g at h)
    go false g zero h more = ap (λ (x : Name × Class). list_any is_semicolon x.0.rty) (sym (same_Some f e (rw g at h))) ∙ g
    go false g (suc k) h more = more k e (rw g at h)

-- ---- partners

unwrapped : (f : ℕ → ℕ) (o : Option ℕ) (k : ℕ) → unwrap_or (option_map f o) (f k) ≡ f (unwrap_or o k)
unwrapped f None k = refl
unwrapped f (Some j) k = refl

-- the class of a kind, where it can be named
pub kind_placed : (s : Classes) (role : Role) → count_by (has_role role) s ≤ 1 → list_any (is_pointable role) s ≡ true → position (has_role role) s ≡ option_map (embed s) (position (has_role role) (meaning s))
kind_placed s role one some =
    placed (has_role role) (has_role role) (λ e. ap (same_role role) (settled_role e.0.rty e.1)) s
    (each_from_found (Skips (has_role role)) s (λ k e h unnamed. false_from_ne_true (has_role role e) (λ has. true≢false (sym unnamed ∙ is_the_one s role one some k e h has))))

pub partner_placed : (s : Classes) → IsSchema s → (k : ℕ) → partner_of s (embed s k) ≡ embed s (partner_of (meaning s) k)
partner_placed s keeps k = ap (λ o. unwrap_or o (embed s k)) (go (is_plain (role_of s (embed s k))) refl) ∙ unwrapped (embed s) (partner_at (meaning s) k) k
  where
    same : role_of (meaning s) k ≡ role_of s (embed s k)
    same = role_placed s k

    at : Role → Classes → Option ℕ
    at role t = cond (is_plain role) None (position (has_role (exchanged role)) t)

    go : (b : Bool) → is_plain (role_of s (embed s k)) ≡ b → partner_at s (embed s k) ≡ option_map (embed s) (partner_at (meaning s) k)
    go true h = ap (λ t. cond t None (position (has_role (exchanged (role_of s (embed s k)))) s)) h
        ∙ sym (ap (λ t. option_map (embed s) (cond t None (position (has_role (exchanged (role_of (meaning s) k))) (meaning s)))) (ap is_plain same ∙ h))
    go false h =
        let role = role_of s (embed s k) in
        let class = there s (embed s k) h in
        let own : has_role role class.0 ≡ true = ap (same_role role) (sym (role_there s (embed s k) class.0 class.1)) ∙ itself role in
        let named : list_any (is_pointable role) s ≡ true = some_pass (is_pointable role) s (embed s k) class.0 class.1 (makes_pointable role class.0 own (named_there s k class.0 class.1)) in
        let other : list_any (is_pointable (exchanged role)) s ≡ true = sym (keeps.pointable role h) ∙ named in
        let kind : is_plain (exchanged role) ≡ false = still_plain role ∙ h in
        ap (λ t. cond t None (position (has_role (exchanged role)) s)) h
        ∙ (kind_placed s (exchanged role) (keeps.one (exchanged role) kind) other
        ∙ (ap (λ r. option_map (embed s) (position (has_role (exchanged r)) (meaning s))) (sym same)
        ∙ sym (ap (λ t. option_map (embed s) (cond t None (position (has_role (exchanged (role_of (meaning s) k))) (meaning s)))) (ap is_plain same ∙ h))))
