-- The tests of one record, in their order.
use Rattle.std.proofs.Common.{◌≡◌, ℕ, ◌+◌, ◌<◌, ◌≤◌, length, drop, get_or, add-one, Bool, true, false, cond, not, ◌||◌, is_none, List, [], ◌∷◌, Option, Some, None, unwrap_or, Result, Ok, Err, refl, sym, ap, ◌∙◌, subst, codes}
use Rattle.std.specs.List.{AllZip, list_any}
use Rattle.std.specs.Result.{IsErrAnd, IfErr}
use Rattle.std.proofs.lemmas.Slice.Eq.{bytes_eq-Decides}
use Rattle.std.proofs.Math.Seq.{drop-cons}
use Rattle.std.proofs.Math.ListN.{drop_of_length-le}
use Rattle.edi_line.specs.inner.Refusal.{first_broken}
use Rattle.edi_record.specs.Records as records
use Rattle.edi_record.specs.declared.record.Attribute.{Attribute}
use Rattle.edi_record.specs.LinkEnds.{EndData}
use Rattle.edi_record.specs.declared.record.Kind.{Kind}
use Rattle.edi_record.specs.declared.record.Kind.TheVariants.{Pno, Par, Pfe, Fea, Lnk}
use Rattle.edi_record.specs.declared.record.Record.{Record}
use Rattle.edi_schema.specs.Classes.{Classes, place_of, role_named}
use Rattle.edi_schema.specs.declared.role.Role.{Role}
use Rattle.edi_schema.specs.declared.role.Role.TheVariants.{Plain}
use Rattle.edi_record.specs.Records.{is_link}
use Rattle.edi_plan.specs.inner.Resolving.{AreGiven, IsUnresolved, Resolves, lacks_class, leaves, reference_tests, role_of_link}
use Rattle.edi_plan.specs.inner.SideTable.{link_tests}
use Rattle.edi_plan.specs.declared.references.Subset.{Subset}
use Rattle.edi_schema.specs.declared.by_role.ByRole.{ByRole}
use Rattle.edi_plan.specs.declared.fault.Unresolved.{Unresolved}
use Rattle.edi_plan.specs.declared.fault.Unresolved.TheVariants.{Memory, Broken}
use Rattle.edi_plan.specs.declared.record.PlanAttribute.{PlanAttribute}
use Rattle.edi_plan.specs.declared.record.PlanEnd.{PlanEnd}
use Rattle.edi_plan.specs.declared.targets.Target.{Target}

-- the fault that is handed on
pub err_kept : {T F : Type 0} (r : Result T F) (fault : F) (P : F → Type 0) → IsErrAnd r (λ e. e ≡ fault) → P fault → IfErr r P
err_kept (Ok x) fault P e h = tt
err_kept (Err f) fault P e h = subst P (sym e) h

pub unresolved_map : (P Q : ℕ → Type 0) → ((rule : ℕ) → P rule → Q rule) → (f : Unresolved) → IsUnresolved P f → IsUnresolved Q f
unresolved_map P Q f (Memory e) h = tt
unresolved_map P Q f (Broken rule) h = f rule h

module _ (s : Classes) (subset : Option Subset) (targets : List (Option Target)) (table : List (ByRole (Option ℕ))) (r : Record) where
  abbrev rest : Option ℕ
  rest = first_broken (link_tests table (role_of_link s r) targets)

  abbrev b4 : Bool
  b4 = leaves subset r.ends

  abbrev b5 : Bool
  b5 = list_any is_none targets

  pub stop_303 : is_none (place_of s r.scp) ≡ false → list_any (lacks_class s) r.attributes ≡ true → first_broken (reference_tests s subset targets table r) ≡ Some 303
  stop_303 e2 e3 = λ i. cond (e2 i) (Some 302) (cond (e3 i) (Some 303) (cond b4 (Some 304) (cond b5 (Some 305) rest)))

  pub stop_304 : is_none (place_of s r.scp) ≡ false → list_any (lacks_class s) r.attributes ≡ false → leaves subset r.ends ≡ true → first_broken (reference_tests s subset targets table r) ≡ Some 304
  stop_304 e2 e3 e4 = λ i. cond (e2 i) (Some 302) (cond (e3 i) (Some 303) (cond (e4 i) (Some 304) (cond b5 (Some 305) rest)))

  pub stop_305 : is_none (place_of s r.scp) ≡ false → list_any (lacks_class s) r.attributes ≡ false → leaves subset r.ends ≡ false → list_any is_none targets ≡ true → first_broken (reference_tests s subset targets table r) ≡ Some 305
  stop_305 e2 e3 e4 e5 = λ i. cond (e2 i) (Some 302) (cond (e3 i) (Some 303) (cond (e4 i) (Some 304) (cond (e5 i) (Some 305) rest)))

  pub pass : is_none (place_of s r.scp) ≡ false → list_any (lacks_class s) r.attributes ≡ false → leaves subset r.ends ≡ false → list_any is_none targets ≡ false
      → first_broken (reference_tests s subset targets table r) ≡ first_broken (link_tests table (role_of_link s r) targets)
  pass e2 e3 e4 e5 = λ i. cond (e2 i) (Some 302) (cond (e3 i) (Some 303) (cond (e4 i) (Some 304) (cond (e5 i) (Some 305) rest)))

pub any_drop : {X : Type 0} (test : X → Bool) (xs : List X) (i : ℕ) (x : X) → i < length xs → x ≡ get_or xs i x → list_any test (drop i xs) ≡ test x || list_any test (drop (i + 1) xs)
any_drop test xs i x less is = ap (list_any test) (drop-cons xs i x less) ∙ (λ j. test (sym is j) || list_any test (drop (sym (add-one i) j) xs))

pub any_first : {X : Type 0} (test : X → Bool) (xs : List X) (i : ℕ) (x : X) → i < length xs → x ≡ get_or xs i x → test x ≡ true → list_any test (drop i xs) ≡ true
any_first test xs i x less is e = any_drop test xs i x less is ∙ ap (λ b. b || list_any test (drop (i + 1) xs)) e

pub any_next : {X : Type 0} (test : X → Bool) (xs : List X) (i : ℕ) (x : X) → i < length xs → x ≡ get_or xs i x → test x ≡ false → list_any test (drop (i + 1) xs) ≡ list_any test (drop i xs)
any_next test xs i x less is e = sym (any_drop test xs i x less is ∙ ap (λ b. b || list_any test (drop (i + 1) xs)) e)

pub any_end : {X : Type 0} (test : X → Bool) (xs : List X) (i : ℕ) → length xs ≤ i → list_any test (drop i xs) ≡ false
any_end test xs i past = ap (list_any test) (drop_of_length-le xs past)

pub none_lacks : (s : Classes) (xs : List Attribute) (ys : List PlanAttribute) → AllZip (Resolves s) xs ys → list_any (lacks_class s) xs ≡ false
none_lacks s [] ys all = refl
none_lacks s (x ∷ xs) [] all = absurd all
none_lacks s (x ∷ xs) (y ∷ ys) all =
    let type = (bytes_eq-Decides x.atp.rty (codes "ATT")).1 all.0.type in
    let more = none_lacks s xs ys all.1 in
    λ i. (not (type i) || is_none (all.0.states.class i)) || more i

pub none_missing : (ts : List (Option Target)) (es : List EndData) (ps : List PlanEnd) → AreGiven ts es ps → list_any is_none ts ≡ false
none_missing [] es ps all = refl
none_missing (t ∷ ts) [] ps all = absurd all
none_missing (t ∷ ts) (e ∷ es) [] all = absurd all
none_missing (None ∷ ts) (e ∷ es) (p ∷ ps) all = absurd all.0
none_missing (Some t ∷ ts) (e ∷ es) (p ∷ ps) all = none_missing ts es ps all.1

pub link_same : (k : Kind) → records.is_link k ≡ is_link k
link_same Pno = refl
link_same Par = refl
link_same Pfe = refl
link_same Fea = refl
link_same Lnk = refl

pub role_of_true : (s : Classes) (r : Record) (role : Role) → is_link r.kind ≡ true → role_named s r.scp ≡ Some role → role_of_link s r ≡ role
role_of_true s r role link named = λ i. cond (link i) (unwrap_or (named i) Plain) Plain

pub role_of_false : (s : Classes) (r : Record) → is_link r.kind ≡ false → role_of_link s r ≡ Plain
role_of_false s r link = λ i. cond (link i) (unwrap_or (role_named s r.scp) Plain) Plain
