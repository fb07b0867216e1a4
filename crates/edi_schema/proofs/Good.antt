-- The schema of two files that break no rule keeps what each schema keeps.
use Rattle.std.proofs.Common.{◌≡◌, ℕ, zero, suc, ◌+◌, ◌-◌, ◌<◌, ◌≤◌, Bool, true, false, cond, List, [], ◌∷◌, length, Option, Some, slice_get, count_by, refl, sym, ap, ◌∙◌, subst, arith, true≢false, inl, inr}
use Rattle.std.specs.List.{AllZip, list_any}
use Rattle.std.proofs.lemmas.List.Sorted.{sum_by-IsPermutation, list_any-IsPermutation}
use Rattle.edi_record.specs.declared.name.Name.{Name}
use Rattle.edi_record.specs.Records.{values, first}
use Rattle.edi_record.specs.Texts.{is_semicolon}
use Rattle.edi_schema.specs.declared.role.Role.{Role}
use Rattle.edi_schema.specs.declared.class.Class.{Class}
use Rattle.edi_schema.specs.Roles.{KindCodes, is_plain, exchanged}
use Rattle.edi_schema.specs.Classes.{Classes, IsSchema, has_role, is_pointable}
use Rattle.edi_schema.specs.inner.Places.{ArePointable}
use Rattle.edi_schema.specs.SchemaOf.{StatesClass}
use Rattle.edi_schema.specs.SchemaRules.{HasRole}
use Rattle.edi_schema.specs.SchemaRefusal.{IsGoodSchema}
use Rattle.edi_schema.proofs.Letters.{all_letters}
use Rattle.edi_schema.proofs.Pointable.{any_at, some_pass, by_pointable, makes_pointable}
use Rattle.edi_schema.proofs.ReadNames.{group_lines, all_readable}
use Rattle.edi_schema.proofs.Paired.{one_role, itself, count-cons, is_counted, found_at}
use Rattle.edi_schema.proofs.RoleTests.{exchanged_back, still_plain, not_plain}

none_counted : {X : Type 0} (test : X → Bool) (xs : List X) → ((k : ℕ) (x : X) → slice_get xs k ≡ Some x → test x ≡ true → ⊥) → count_by test xs ≡ 0
none_counted test [] none = refl
none_counted {X} test (y ∷ ys) none = go (test y) refl (none_counted test ys (λ k x h t. none (suc k) x h t))
  where
    go : (b : Bool) → test y ≡ b → count_by test ys ≡ 0 → count_by test (y ∷ ys) ≡ 0
    go true e more = absurd (none 0 y refl e)
    go false e more = count-cons test y ys ∙ (ap (λ b. cond b 1 0 + count_by test ys) e ∙ omega (arith, more))

one_counted : {X : Type 0} (test : X → Bool) (xs : List X) → ((i k : ℕ) (x y : X) → i < k → slice_get xs i ≡ Some x → slice_get xs k ≡ Some y → test x ≡ true → test y ≡ true → ⊥) → count_by test xs ≤ 1
one_counted test [] apart = omega arith
one_counted {X} test (y ∷ ys) apart = go (test y) refl (one_counted test ys (λ i k x z l h g t u. apart (suc i) (suc k) x z (omega arith) h g t u))
  where
    go : (b : Bool) → test y ≡ b → count_by test ys ≤ 1 → count_by test (y ∷ ys) ≤ 1
    go true e more =
        let none = none_counted test ys (λ k x h t. apart 0 (suc k) y x (omega arith) refl h e t) in
        let total : count_by test (y ∷ ys) ≡ 1 + count_by test ys = count-cons test y ys ∙ ap (λ b. cond b 1 0 + count_by test ys) e in
        omega (arith, none, total)
    go false e more =
        let total : count_by test (y ∷ ys) ≡ 0 + count_by test ys = count-cons test y ys ∙ ap (λ b. cond b 1 0 + count_by test ys) e in
        omega (arith, more, total)

pub zip_at : {A B : Type 0} (R : A → B → Type 0) (xs : List A) (ys : List B) → AllZip R xs ys → (k : ℕ) (y : B) → slice_get ys k ≡ Some y → (x : A) × (slice_get xs k ≡ Some x) × R x y
zip_at R [] [] all k y h = absurd (Rattle.std.proofs.lemmas.Option.none-some y h)
zip_at R [] (z ∷ ys) all k y h = absurd all
zip_at R (x ∷ xs) [] all k y h = absurd all
zip_at R (x ∷ xs) (z ∷ ys) all zero y h = (x, refl, subst (R x) (Rattle.std.proofs.lemmas.Option.same_Some z y h) all.0)
zip_at R (x ∷ xs) (z ∷ ys) all (suc k) y h = zip_at R xs ys all.1 k y h

pub zip_back : {A B : Type 0} (R : A → B → Type 0) (xs : List A) (ys : List B) → AllZip R xs ys → (k : ℕ) (x : A) → slice_get xs k ≡ Some x → (y : B) × (slice_get ys k ≡ Some y) × R x y
zip_back R [] [] all k x h = absurd (Rattle.std.proofs.lemmas.Option.none-some x h)
zip_back R [] (z ∷ ys) all k x h = absurd all
zip_back R (z ∷ xs) [] all k x h = absurd all
zip_back R (z ∷ xs) (y ∷ ys) all zero x h = (y, refl, subst (λ w. R w y) (Rattle.std.proofs.lemmas.Option.same_Some z x h) all.0)
zip_back R (z ∷ xs) (y ∷ ys) all (suc k) x h = zip_back R xs ys all.1 k x h

module _ (scd dic : List ℕ) (kinds : KindCodes) (s : Classes) (good : IsGoodSchema scd dic kinds s) where
  abbrev stated : Classes
  stated = good.is.stated

  -- a stated class of a kind is a record of that kind
  stated_role : (role : Role) → is_plain role ≡ false → (k : ℕ) (e : Name × Class) → slice_get stated k ≡ Some e → has_role role e ≡ true → HasRole good.classes good.entries kinds (suc k) role
  stated_role role kind k e h passes =
      let group = zip_at (StatesClass kinds good.is.words) good.classes stated good.is.each_class k e h in
      let place : suc k - 1 ≡ k = omega arith in
      (group.0, e.0, (omega arith, rw place group.1), group.2.named, sym group.2.role ∙ sym (one_role role e.1.role passes), not_plain role kind)

  counts : (role : Role) → count_by (has_role role) s ≡ count_by (has_role role) stated
  counts role = sum_by-IsPermutation (λ e. cond (has_role role e) 1 0) stated s good.is.same

  one : (role : Role) → is_plain role ≡ false → count_by (has_role role) s ≤ 1
  one role kind =
      let stated_one = one_counted (has_role role) stated (λ i k x y l h g t u.
      good.kinds_hold (inl (suc i, suc k, role, omega arith, stated_role role kind i x h t, stated_role role kind k y g u))) in
      omega (arith, counts role, stated_one)

  -- where a kind has a class, so has the exchanged kind
  other_there : (role : Role) → is_plain role ≡ false → 0 < count_by (has_role role) s → 0 < count_by (has_role (exchanged role)) s
  other_there role kind some =
      let found = found_at (has_role role) stated (omega (arith, counts role, some)) in
      let here = stated_role role kind found.0 found.1 found.3 found.4 in
      go (count_by (has_role (exchanged role)) stated) refl (suc found.0, here)
    where
      none_there : count_by (has_role (exchanged role)) stated ≡ 0 → (m : ℕ) → HasRole good.classes good.entries kinds m (exchanged role) → ⊥
      none_there none m other =
          let class = zip_back (StatesClass kinds good.is.words) good.classes stated good.is.each_class (m - 1) other.0 other.2.1 in
          let name = class.2.named in
          let rid : other.1.rid ≡ class.0.0.rid = Rattle.std.proofs.lemmas.Option.same_Some _ _ (sym other.3.rid ∙ name.rid) in
          let role_is : class.0.1.role ≡ exchanged role = class.2.role ∙ (ap (λ r. Rattle.edi_schema.specs.Roles.role_by kinds (first (values (Rattle.std.proofs.Common.codes "KND") other.0)) r) (sym rid) ∙ other.4) in
          let passes : has_role (exchanged role) class.0 ≡ true = ap (Rattle.edi_schema.specs.Roles.same_role (exchanged role)) role_is ∙ itself (exchanged role) in
          omega (arith, none, is_counted (has_role (exchanged role)) stated (m - 1) class.0 class.1 passes)

      go : (n : ℕ) → count_by (has_role (exchanged role)) stated ≡ n → ((m : ℕ) × HasRole good.classes good.entries kinds m role) → 0 < count_by (has_role (exchanged role)) s
      go zero e here = absurd (good.kinds_hold (inr (inl (here.0, role, here.1, none_there e))))
      go (suc n) e here = omega (arith, counts (exchanged role), e)

  both : (role : Role) → is_plain role ≡ false → count_by (has_role role) s ≡ count_by (has_role (exchanged role)) s
  both role kind = go (count_by (has_role role) s) (count_by (has_role (exchanged role)) s) refl refl
    where
      other_kind : is_plain (exchanged role) ≡ false
      other_kind = still_plain role ∙ kind

      go : (m n : ℕ) → count_by (has_role role) s ≡ m → count_by (has_role (exchanged role)) s ≡ n → m ≡ n
      go zero zero e f = refl
      go (suc m) zero e f = absurd (omega (arith, e, f, other_there role kind (omega (arith, e))))
      go zero (suc n) e f =
          let back : 0 < count_by (has_role (exchanged (exchanged role))) s = other_there (exchanged role) other_kind (omega (arith, f)) in
          absurd (omega (arith, e, subst (λ r. 0 < count_by (has_role r) s) (exchanged_back role) back))
      go (suc m) (suc n) e f = omega (arith, e, f, one role kind, one (exchanged role) other_kind)

  -- a pointer can name a class of a kind alone where one can name its partner
  apart : (role : Role) → is_plain role ≡ false → list_any (is_pointable role) s ≡ true → list_any (is_pointable (exchanged role)) s ≡ false → ⊥
  unfolding stated_role
  apart role kind named none =
      let found = any_at (is_pointable role) stated (list_any-IsPermutation (is_pointable role) stated s good.is.same ∙ named) in
      let parts = by_pointable role found.1 found.3 in
      let here = is_counted (has_role role) stated found.0 found.1 found.2 parts.0 in
      let there = other_there role kind (omega (arith, counts role, here)) in
      let other = found_at (has_role (exchanged role)) stated (omega (arith, counts (exchanged role), there)) in
      go found.0 found.1 found.2 parts.0 parts.1 other.0 other.1 other.3 other.4 (list_any is_semicolon other.1.0.rty) refl
    where
      other_kind : is_plain (exchanged role) ≡ false
      other_kind = still_plain role ∙ kind

      go : (m : ℕ) (e : Name × Class) → slice_get stated m ≡ Some e → has_role role e ≡ true → list_any is_semicolon e.0.rty ≡ false
          → (k : ℕ) (f : Name × Class) → slice_get stated k ≡ Some f → has_role (exchanged role) f ≡ true → (b : Bool) → list_any is_semicolon f.0.rty ≡ b → ⊥
      go m e h own free k f g other false i =
          let passes = some_pass (is_pointable (exchanged role)) stated k f g (makes_pointable (exchanged role) f other i) in
          true≢false (sym passes ∙ (list_any-IsPermutation (is_pointable (exchanged role)) stated s good.is.same ∙ none))
      go m e h own free k f g other true i =
          let again : has_role (exchanged (exchanged role)) e ≡ true = ap (λ r. has_role r e) (exchanged_back role) ∙ own in
          good.kinds_hold (inr (inr (
            suc k,
            suc m,
            exchanged role,
            stated_role (exchanged role) other_kind k f g other,
            stated_role (exchanged (exchanged role)) (still_plain (exchanged role) ∙ other_kind) m e h again,
            i,
            free,
          )))

  pointable : ArePointable s
  pointable role kind = go (list_any (is_pointable role) s) (list_any (is_pointable (exchanged role)) s) refl refl
    where
      go : (b c : Bool) → list_any (is_pointable role) s ≡ b → list_any (is_pointable (exchanged role)) s ≡ c → b ≡ c
      go true true e f = refl
      go false false e f = refl
      go true false e f = absurd (apart role kind e f)
      go false true e f = absurd (apart (exchanged role) (still_plain role ∙ kind) f (ap (λ r. list_any (is_pointable r) s) (exchanged_back role) ∙ e))

  pub keeps : length s ≤ 9999999 → IsSchema s
  keeps few = record {
    few = few;
    letters = all_letters good.classes good.entries kinds s good.is;
    in_order = good.is.in_order;
    one = one;
    both = both;
    pointable = pointable;
    readable = all_readable good.classes good.entries good.rules kinds s good.is (group_lines scd good.classes good.records.0 good.lines.0);
  }
