-- Steps of reading a lot.
use Rattle.std.proofs.Common.{Result, Ok, Err, IfErr, cond, ◌≡◌, ℕ, zero, suc, ◌<◌, Bool, true, false, ◌||◌, List, [], ◌∷◌, ◌++◌, length, map, get_or, Some, None, option_map, option_to_list, codes, refl, sym, ap, ◌∙◌, arith}
use Rattle.std.proofs.Common.{Bor}
use Rattle.std.specs.List.{list_any}
use Rattle.std.proofs.lemmas.List.Folds.{list_any-append}
use Rattle.std.proofs.lemmas.Bool.{or_left, or_right}
use Rattle.edi_line.specs.ZoneData.{ZoneData}
use Rattle.edi_line.specs.Refusal.{Test, test}
use Rattle.edi_line.specs.inner.Refusal.{first_broken}
use Rattle.edi_line.proofs.Truths.{or_false}
use Rattle.edi_record.specs.Records.{values}
use Rattle.edi_delivery.specs.inner.LotTests.{is_unsafe, has_unsafe_file, draft_tests, lot_tests}
use Rattle.edi_delivery.specs.inner.Steps.{IfRule}
use Rattle.edi_delivery.specs.inner.Drafts.{IsDraftOf, own_names}
use Rattle.edi_delivery.specs.declared.draft.LotDraft.{LotDraft}
use Rattle.edi_delivery.specs.declared.fault.LotFault.{LotFault}
use Rattle.edi_delivery.specs.declared.fault.LotFault.TheVariants.{Memory, Broken}

pub if_rule : (P Q : ℕ → Type 0) (fault : LotFault) → IfRule P fault → ((rule : ℕ) → P rule → Q rule) → IfRule Q fault
if_rule P Q (Memory e) h to = tt
if_rule P Q (Broken rule) h to = to rule h

pub err_of : {T : Type 0} (r : Result T LotFault) (P Q : ℕ → Type 0) → IfErr r (IfRule P) → ((rule : ℕ) → P rule → Q rule) → IfErr r (IfRule Q)
err_of (Ok x) P Q h to = tt
err_of (Err fault) P Q h to = if_rule P Q fault h to

-- ---- some of a list

pub any_front : {X : Type 0} (test : X → Bool) (xs ys : List X) → list_any test xs ≡ true → list_any test (xs ++ ys) ≡ true
any_front test [] ys e = let no : false ≡ true = e in absurd cc
any_front test (x ∷ xs) ys e = go (test x) (any_front test xs ys) e
  where
    go : (b : Bool) → (list_any test xs ≡ true → list_any test (xs ++ ys) ≡ true) → (b || list_any test xs) ≡ true → (b || list_any test (xs ++ ys)) ≡ true
    go true more e = refl
    go false more e = more e

pub any_behind : {X : Type 0} (test : X → Bool) (xs ys : List X) → list_any test ys ≡ true → list_any test (xs ++ ys) ≡ true
any_behind test [] ys e = e
any_behind test (x ∷ xs) ys e = or_right _ _ (any_behind test xs ys e)

pub unsafe_at : (texts : List (Bor (List ℕ))) (i : ℕ) (d : Bor (List ℕ)) → i < length texts → is_unsafe (get_or texts i d).now ≡ true → list_any is_unsafe (map (λ t. t.now) texts) ≡ true
unsafe_at [] i d below e = absurd (omega arith)
unsafe_at (t ∷ ts) zero d below e = or_left _ _ e
unsafe_at (t ∷ ts) (suc i) d below e = or_right _ _ (unsafe_at ts i d (omega arith) e)

pub unsafe_quality : (d : LotDraft) → list_any is_unsafe (option_to_list (option_map (λ (t : Bor (List ℕ)). t.now) d.quality)) ≡ true → list_any is_unsafe (own_names d) ≡ true
unsafe_quality d h =
    or_right _ _ (or_right _ _ (any_behind is_unsafe (option_to_list (option_map (λ t. t.now) d.general)) _
    (any_behind is_unsafe (option_to_list (option_map (λ t. t.now) d.geo)) _ (any_front is_unsafe (option_to_list (option_map (λ t. t.now) d.quality)) _ h))))

pub unsafe_vecs : (d : LotDraft) (texts : List (Bor (List ℕ))) → texts ≡ d.vecs.items → list_any is_unsafe (map (λ (t : Bor (List ℕ)). t.now) texts) ≡ true → list_any is_unsafe (own_names d) ≡ true
unsafe_vecs d texts same h =
    or_right _ _ (or_right _ _ (any_behind is_unsafe (option_to_list (option_map (λ t. t.now) d.general)) _
    (any_behind is_unsafe (option_to_list (option_map (λ t. t.now) d.geo)) _ (any_behind is_unsafe (option_to_list (option_map (λ t. t.now) d.quality)) _
    (ap (λ (ts : List (Bor (List ℕ))). list_any is_unsafe (map (λ t. t.now) ts)) (sym same) ∙ h)))))

-- ---- the tests of a lot

-- the own names of a record's files are those of its draft
pub same_unsafe : (group : List ZoneData) (d : LotDraft) → IsDraftOf group d → has_unsafe_file group ≡ list_any is_unsafe (own_names d)
same_unsafe group d h =
    rw (h.scd, h.dic, h.general, h.geo, h.quality, h.vecs)
    (simp (list_any-append {X = List ℕ}, or_false) refl)

-- ---- the first broken

first_none : (ts : List Test) (t : Test) → first_broken ts ≡ None → first_broken (ts ++ t ∷ []) ≡ first_broken (t ∷ [])
first_none [] t e = refl
first_none (u ∷ us) t e = go u.is_broken (first_none us t) e
  where
    go : (b : Bool) → (first_broken us ≡ None → first_broken (us ++ t ∷ []) ≡ first_broken (t ∷ [])) → cond b (Some u.rule) (first_broken us) ≡ None
        → cond b (Some u.rule) (first_broken (us ++ t ∷ [])) ≡ first_broken (t ∷ [])
    go true more e = cc
    go false more e = more e

pub first_some : (ts : List Test) (t : Test) (rule : ℕ) → first_broken ts ≡ Some rule → first_broken (ts ++ t ∷ []) ≡ Some rule
first_some [] t rule e = cc
first_some (u ∷ us) t rule e = go u.is_broken (first_some us t rule) e
  where
    go : (b : Bool) → (first_broken us ≡ Some rule → first_broken (us ++ t ∷ []) ≡ Some rule) → cond b (Some u.rule) (first_broken us) ≡ Some rule
        → cond b (Some u.rule) (first_broken (us ++ t ∷ [])) ≡ Some rule
    go true more e = e
    go false more e = more e

-- a lot whose files aren't all named breaks 708
pub least_708 : (group : List ZoneData) (text : List ℕ) (d : LotDraft) (rule : ℕ) → rule ≡ 708 → values (codes "LON") group ≡ text ∷ [] → is_unsafe text ≡ false → IsDraftOf group d
    → first_broken (draft_tests group) ≡ None → list_any is_unsafe (own_names d) ≡ true → first_broken (lot_tests group) ≡ Some rule
least_708 group text d rule is named safe draft sound not_safe =
    let unsafe : has_unsafe_file group ≡ true = same_unsafe group d draft ∙ not_safe in
    rw (named, safe, is) (first_none (draft_tests group) (test 708 (has_unsafe_file group)) sound ∙ rw unsafe refl)
