-- Which classes of a list pointers can name, in another order, and by their places.
use Rattle.std.proofs.Common.{◌≡◌, ℕ, zero, suc, ◌≤◌, Bool, true, false, not, ◌||◌, true≢false, List, [], ◌∷◌, map, Some, slice_get, count_by, refl, sym, ap, subst, ◌∙◌}
use Rattle.std.specs.List.{list_any}
use Rattle.std.proofs.lemmas.Bool.{and_parts, not-true}
use Rattle.std.proofs.lemmas.Option.{none-some, same_Some}
use Rattle.edi_record.specs.Texts.{is_semicolon}
use Rattle.edi_record.specs.declared.name.Name.{Name}
use Rattle.edi_schema.specs.Classes.{Classes, IsSchema, has_role, is_pointable, partner_of, role_of}
use Rattle.edi_schema.specs.Roles.{exchanged, is_plain, same_role}
use Rattle.edi_schema.specs.declared.class.Class.{Class}
use Rattle.edi_schema.specs.declared.role.Role.{Role}
use Rattle.edi_schema.proofs.Paired.{itself, one_place, partner, role_there}
use Rattle.edi_schema.proofs.RoleTests.{still_plain}

-- where some pass, one is found at a place
pub any_at : {X : Type 0} (test : X → Bool) (xs : List X) → list_any test xs ≡ true → (k : ℕ) × (x : X) × (slice_get xs k ≡ Some x) × (test x ≡ true)
any_at test [] h = absurd (true≢false (sym h))
any_at {X} test (x ∷ xs) h = go (test x) refl h (any_at test xs)
  where
    go : (b : Bool) → test x ≡ b → (b || list_any test xs) ≡ true → (list_any test xs ≡ true → (k : ℕ) × (y : X) × (slice_get xs k ≡ Some y) × (test y ≡ true))
        → (k : ℕ) × (y : X) × (slice_get (x ∷ xs) k ≡ Some y) × (test y ≡ true)
    go true e f more = (0, x, refl, e)
    go false e f more = let found = more f in (suc found.0, found.1, found.2, found.3)

-- and the other way
pub some_pass : {X : Type 0} (test : X → Bool) (xs : List X) (k : ℕ) (x : X) → slice_get xs k ≡ Some x → test x ≡ true → list_any test xs ≡ true
some_pass test [] k x h t = absurd (none-some x h)
some_pass test (y ∷ ys) zero x h t = rw (same_Some y x h, t) refl
some_pass test (y ∷ ys) (suc k) x h t = go (test y) (some_pass test ys k x h t)
  where
    go : (b : Bool) → list_any test ys ≡ true → (b || list_any test ys) ≡ true
    go true more = refl
    go false more = more

-- the elements may be read through a function
pub any_of_map : {X Y : Type 0} (test : Y → Bool) (f : X → Y) (xs : List X) → list_any test (map f xs) ≡ list_any (λ x. test (f x)) xs
any_of_map test f [] = refl
any_of_map test f (x ∷ xs) = ap (λ b. test (f x) || b) (any_of_map test f xs)

-- ---- one class

pub by_pointable : (role : Role) (e : Name × Class) → is_pointable role e ≡ true → (has_role role e ≡ true) × (list_any is_semicolon e.0.rty ≡ false)
by_pointable role e h =
    let both = and_parts (has_role role e) (not (list_any is_semicolon e.0.rty)) h in
    (both.0, not-true (list_any is_semicolon e.0.rty) both.1)

pub makes_pointable : (role : Role) (e : Name × Class) → has_role role e ≡ true → list_any is_semicolon e.0.rty ≡ false → is_pointable role e ≡ true
makes_pointable role e h none = rw (h, none) refl

-- ---- classes of which a kind has one at most

-- if a pointer can name one of a role, it is the one
pub is_the_one : (s : Classes) (role : Role) → count_by (has_role role) s ≤ 1 → list_any (is_pointable role) s ≡ true
    → (k : ℕ) (e : Name × Class) → slice_get s k ≡ Some e → has_role role e ≡ true → list_any is_semicolon e.0.rty ≡ false
is_the_one s role one named k e h has =
    let found = any_at (is_pointable role) s named in
    let parts = by_pointable role found.1 found.3 in
    let same : found.0 ≡ k = one_place (has_role role) s found.0 k found.1 e one found.2 h parts.0 has in
    let entry : found.1 ≡ e = same_Some found.1 e (sym found.2 ∙ (ap (slice_get s) same ∙ h)) in
    subst (λ (x : Name × Class). list_any is_semicolon x.0.rty ≡ false) entry parts.1

-- where a pointer can name the class, one can name its partner
pub partner_named : (s : Classes) → IsSchema s → (c : ℕ) (e : Name × Class) → is_plain (role_of s c) ≡ false → slice_get s c ≡ Some e → list_any is_semicolon e.0.rty ≡ false
    → (f : Name × Class) × (slice_get s (partner_of s c) ≡ Some f) × (list_any is_semicolon f.0.rty ≡ false)
partner_named s keeps c e kind h none =
    let role = role_of s c in
    let own : has_role role e ≡ true = ap (same_role role) (sym (role_there s c e h)) ∙ itself role in
    let named : list_any (is_pointable role) s ≡ true = some_pass (is_pointable role) s c e h (makes_pointable role e own none) in
    let other : list_any (is_pointable (exchanged role)) s ≡ true = sym (keeps.pointable role kind) ∙ named in
    let found = partner s keeps c kind in (
      found.1,
      ap (slice_get s) found.2 ∙ found.3,
      is_the_one s (exchanged role) (keeps.one (exchanged role) (still_plain role ∙ kind)) other found.0 found.1 found.3 found.4,
    )
