-- Names that records lend, and the first record of a name.
use Rattle.std.proofs.Common.{◌≡◌, ◌≢◌, ℕ, zero, suc, ◌+◌, ◌<◌, ◌≤◌, ◌⊎◌, inl, inr, Bool, true, false, cond, not, ◌&&◌, nat_lt, nat_eq, true≢false, eqb-true, eq-eqb, List, [], ◌∷◌, length, Option, Some, None, is_some, unwrap_or, if◌then◌else◌, MatchOption, slice_get, refl, sym, ap, ◌∙◌, subst, arith, codes}
use Rattle.std.specs.List.{position_or_len}
use Rattle.std.specs.Option.{option_or}
use Rattle.std.specs.Map.{lookup}
use Rattle.std.specs.Str.{bytes_eq}
use Rattle.std.proofs.lemmas.Bool.{cases_lt, lt-ltb, le-ltb, false_from_ne_true}
use Rattle.std.proofs.lemmas.Option.{slice_get_within, same_Some}
use Rattle.edi_record.specs.Shapes.{kind_code}
use Rattle.edi_record.specs.declared.name.Name.{Name}
use Rattle.edi_record.specs.declared.record.Kind.{Kind}
use Rattle.edi_record.specs.declared.record.Kind.TheVariants.{Pno, Par, Pfe, Fea, Lnk}
use Rattle.edi_record.specs.declared.record.Record.{Record}
use Rattle.edi_record.specs.contracts.record.KindPartialEq.TheImpl.{ghosts as kinds}
use Rattle.edi_schema.proofs.Names.{same_name, name_itself}
use Rattle.edi_schema.specs.Classes.{is_name}
use Rattle.edi_record.specs.Records.{is_link}
use Rattle.edi_plan.specs.inner.LinkNames.{LinksDiffer}
use Rattle.edi_plan.specs.inner.Names.{name_lent, place_in, is_tabled, IsPlaceAdded, RepeatsNameAt, IsFirstRepeatedName, IsFirstRepeatedNameIfAny}
use Rattle.edi_plan.specs.PlanOf.{own_name, place_named}
use Rattle.edi_plan.specs.declared.names.RecordNameRef.{RecordNameRef}
use Rattle.edi_plan.specs.contracts.names.RecordNameRefPartialEq.TheImpl.{ghosts as names}
use Rattle.edi_plan.proofs.Built.{position_some}

kind_apart : (a b : Kind) → kinds.eq a b ≡ bytes_eq (kind_code a) (kind_code b)
kind_apart Pno Pno = refl
kind_apart Pno Par = refl
kind_apart Pno Pfe = refl
kind_apart Pno Fea = refl
kind_apart Pno Lnk = refl
kind_apart Par Pno = refl
kind_apart Par Par = refl
kind_apart Par Pfe = refl
kind_apart Par Fea = refl
kind_apart Par Lnk = refl
kind_apart Pfe Pno = refl
kind_apart Pfe Par = refl
kind_apart Pfe Pfe = refl
kind_apart Pfe Fea = refl
kind_apart Pfe Lnk = refl
kind_apart Fea Pno = refl
kind_apart Fea Par = refl
kind_apart Fea Pfe = refl
kind_apart Fea Fea = refl
kind_apart Fea Lnk = refl
kind_apart Lnk Pno = refl
kind_apart Lnk Par = refl
kind_apart Lnk Pfe = refl
kind_apart Lnk Fea = refl
kind_apart Lnk Lnk = refl

pub name_apart : (a b : RecordNameRef) → names.eq a b ≡ is_name (name_lent a) (name_lent b)
name_apart a b = ap (λ k. k && bytes_eq a.rid.now b.rid.now) (kind_apart a.kind b.kind)

link_code : (k : Kind) → is_link k ≡ bytes_eq (kind_code k) (codes "LNK")
link_code Pno = refl
link_code Par = refl
link_code Pfe = refl
link_code Fea = refl
link_code Lnk = refl

pub coded_link : (a b : Kind) → kind_code a ≡ kind_code b → is_link a ≡ is_link b
coded_link a b same = link_code a ∙ (ap (λ code. bytes_eq code (codes "LNK")) same ∙ sym (link_code b))

-- ---- names that go into no table

pub left_out : (rise : Bool) (k : Kind) → is_tabled rise k ≡ false → (rise ≡ true) × (is_link k ≡ true)
left_out rise k h = go rise (is_link k) h
  where
    go : (a b : Bool) → not (a && b) ≡ false → (a ≡ true) × (b ≡ true)
    go true true e = (refl, refl)
    go true false e = absurd cc
    go false b e = absurd cc

pub no_link : (rise : Bool) (k : Kind) → rise ≡ true → is_tabled rise k ≡ true → is_link k ≡ false
no_link rise k on h = go rise (is_link k) on h
  where
    go : (a b : Bool) → a ≡ true → not (a && b) ≡ true → b ≡ false
    go true true on e = absurd cc
    go true false on e = refl
    go false b on e = absurd cc

pub looked_up : (rise : Bool) (k : Kind) → is_link k ≡ false → is_tabled rise k ≡ true
looked_up true k h = ap not h
looked_up false k h = refl

-- ---- the first record of a name

pub record IsFirstOf (list : List Record) (name : Name) (k : ℕ) : Type 0 where
  pub there : Record
  pub here : slice_get list k ≡ Some there
  pub is : own_name there ≡ name
  pub none_before : (j : ℕ) (q : Record) → j < k → slice_get list j ≡ Some q → own_name q ≡ name → ⊥

-- the first among the records before a place
abbrev pub FirstTo : List Record → ℕ → Name → Option ℕ → Type 0
FirstTo list n name found = MatchOption found ((j : ℕ) (q : Record) → j < n → slice_get list j ≡ Some q → own_name q ≡ name → ⊥) (λ k. (k < n) × IsFirstOf list name k)

abbrev pub RepeatTo : List Record → ℕ → Option ℕ → Type 0
RepeatTo list n found = MatchOption found ((j : ℕ) → j < n → ¬ (RepeatsNameAt list j)) (λ k. (k < n) × IsFirstRepeatedName list k)

pub pol_is : {X : Type 0} (test : X → Bool) (xs : List X) (k : ℕ) (x : X) → slice_get xs k ≡ Some x → test x ≡ true → ((j : ℕ) (y : X) → j < k → slice_get xs j ≡ Some y → test y ≡ false) → position_or_len test xs ≡ k
pol_is test [] k x h t before = let l = slice_get_within [] k x h in absurd (omega (arith, l))
pol_is test (y ∷ ys) zero x h t before = let e : test y ≡ true = ap test (same_Some _ _ h) ∙ t in rw e refl
pol_is test (y ∷ ys) (suc k) x h t before =
    let e : test y ≡ false = before 0 y (omega arith) refl in
    let more = pol_is test ys k x h t (λ j z less at. before (suc j) z (omega arith) at) in
    rw e (omega (arith, more))

pub pol_none : {X : Type 0} (test : X → Bool) (xs : List X) → ((j : ℕ) (y : X) → slice_get xs j ≡ Some y → test y ≡ false) → position_or_len test xs ≡ length xs
pol_none test [] none = refl
pol_none test (y ∷ ys) none =
    let e : test y ≡ false = none 0 y refl in
    let more = pol_none test ys (λ j z at. none (suc j) z at) in
    rw e (omega (arith, more))

module _ (list : List Record) (name : Name) where
  pub first_named : (k : ℕ) → IsFirstOf list name k → place_named list name ≡ Some k
  first_named k f =
      let at : position_or_len (λ r. is_name name (own_name r)) list ≡ k =
      pol_is (λ r. is_name name (own_name r)) list k f.there f.here (subst (λ n. is_name name n ≡ true) (sym f.is) (name_itself name))
      (λ j q less here. false_from_ne_true _ (λ t. f.none_before j q less here (sym (same_name name (own_name q) t)))) in
      let within = slice_get_within list k f.there f.here in
      ap (λ n. cond (nat_lt n (length list)) (Some n) None) at ∙ ap (λ b. cond b (Some k) None) (lt-ltb k (length list) within)

  pub none_named : ((j : ℕ) (q : Record) → slice_get list j ≡ Some q → own_name q ≡ name → ⊥) → place_named list name ≡ None
  none_named none =
      let at : position_or_len (λ r. is_name name (own_name r)) list ≡ length list =
      pol_none (λ r. is_name name (own_name r)) list (λ j q here. false_from_ne_true _ (λ t. none j q here (sym (same_name name (own_name q) t)))) in
      ap (λ n. cond (nat_lt n (length list)) (Some n) None) at ∙ ap (λ b. cond b (Some (length list)) None) (le-ltb (length list) (length list) (omega arith))

  pub named_from : (found : Option ℕ) → FirstTo list (length list) name found → found ≡ place_named list name
  named_from None h = sym (none_named (λ j q here is. h j q (slice_get_within list j q here) here is))
  named_from (Some k) h = sym (first_named k h.1)

  -- what stands at the place of a name has that name
  pub has_name : (k : ℕ) → place_named list name ≡ Some k → (r : Record) × (slice_get list k ≡ Some r) × (own_name r ≡ name)
  has_name k e = go (place_at list)
    where
      place_at : (rs : List Record) → (n : ℕ) → n ≡ position_or_len (λ r. is_name name (own_name r)) rs → n < length rs → (r : Record) × (slice_get rs n ≡ Some r) × (own_name r ≡ name)
      place_at [] n is less = absurd (omega arith)
      place_at (r ∷ rs) n is less = by (is_name name (own_name r)) refl n is less (place_at rs)
        where
          by : (b : Bool) → is_name name (own_name r) ≡ b → (n : ℕ) → n ≡ cond (not b) (1 + position_or_len (λ r. is_name name (own_name r)) rs) 0 → n < suc (length rs)
              → ((m : ℕ) → m ≡ position_or_len (λ r. is_name name (own_name r)) rs → m < length rs → (q : Record) × (slice_get rs m ≡ Some q) × (own_name q ≡ name))
              → (q : Record) × (slice_get (r ∷ rs) n ≡ Some q) × (own_name q ≡ name)
          by true t n is less more = (r, ap (slice_get (r ∷ rs)) is, sym (same_name name (own_name r) t))
          by false t zero is less more = absurd (omega (arith, is))
          by false t (suc n) is less more = more n (omega (arith, is)) (omega arith)

      go : ((n : ℕ) → n ≡ position_or_len (λ r. is_name name (own_name r)) list → n < length list → (r : Record) × (slice_get list n ≡ Some r) × (own_name r ≡ name)) → (r : Record) × (slice_get list k ≡ Some r) × (own_name r ≡ name)
      go f = let at = position_some (λ r. is_name name (own_name r)) list k e in f k at.0 at.1

-- ---- one record more

module _ (list : List Record) (n : ℕ) (r : Record) (here : slice_get list n ≡ Some r) where
  one_there : (q : Record) → slice_get list n ≡ Some q → q ≡ r
  one_there q h = same_Some _ _ (sym h ∙ here)

  before_more : (name : Name) → ((j : ℕ) (q : Record) → j < n → slice_get list j ≡ Some q → own_name q ≡ name → ⊥) → (own_name r ≡ name → ⊥) → (j : ℕ) (q : Record) → j < n + 1 → slice_get list j ≡ Some q → own_name q ≡ name → ⊥
  before_more name none other j q less at is = go (cases_lt j n)
    where
      go : (j < n) ⊎ (n ≤ j) → ⊥
      go (inl below) = none j q below at is
      go (inr past) = let e : j ≡ n = omega arith in other (ap own_name (sym (one_there q (subst (λ k. slice_get list k ≡ Some q) e at))) ∙ is)

  -- the new name is put at its place
  pub put_first : (name : Name) → own_name r ≡ name → FirstTo list n name None → FirstTo list (n + 1) name (Some n)
  put_first name is none = (omega arith, record { there = r; here = here; is = is; none_before = none })

  -- a name that is found stays, and another stays
  pub kept_first : (name : Name) (found : Option ℕ) → FirstTo list n name found → (own_name r ≡ name → found ≡ None → ⊥) → FirstTo list (n + 1) name found
  kept_first name None h other = before_more name h (λ is. other is refl)
  kept_first name (Some k) h other = (omega (arith, h.0), h.1)

  repeated : (k : ℕ) → FirstTo list n (own_name r) (Some k) → RepeatsNameAt list n
  repeated k h = (k, h.1.there, r, h.0, h.1.here, here, h.1.is)

  fresh : FirstTo list n (own_name r) None → ¬ (RepeatsNameAt list n)
  fresh none d = none d.0 d.1 d.3 d.4 (d.6 ∙ ap own_name (one_there d.2 d.5))

  -- a place other than this one is that of an earlier record of the name
  pub repeats_here : (found : Option ℕ) → FirstTo list n (own_name r) found → (first : ℕ) → first ≡ unwrap_or found n → (not (nat_eq first n) ≡ true → RepeatsNameAt list n) × (RepeatsNameAt list n → not (nat_eq first n) ≡ true)
  repeats_here None none first is = let e = eq-eqb first n is in (λ h. absurd (true≢false (sym h ∙ ap not e)), λ d. absurd (fresh none d))
  repeats_here (Some k) there first is = (λ h. repeated k there, λ d. go (nat_eq first n) refl)
    where
      go : (b : Bool) → nat_eq first n ≡ b → not b ≡ true
      go true t = let e = eqb-true first n t in absurd (omega (arith, there.0, is, e))
      go false t = refl

  none_more : ((j : ℕ) → j < n → ¬ (RepeatsNameAt list j)) → ¬ (RepeatsNameAt list n) → (j : ℕ) → j < n + 1 → ¬ (RepeatsNameAt list j)
  none_more none other j less d = go (cases_lt j n)
    where
      go : (j < n) ⊎ (n ≤ j) → ⊥
      go (inl below) = none j below d
      go (inr past) = let e : j ≡ n = omega arith in other (subst (RepeatsNameAt list) e d)

  pub repeat_more : (found repeat : Option ℕ) → FirstTo list n (own_name r) found → is_some found ≡ true → RepeatTo list n repeat → RepeatTo list (n + 1) (option_or repeat (Some n))
  repeat_more None repeat first some h = cc
  repeat_more (Some k) None first some h = (omega arith, record { repeats = repeated k first; none_before = h })
  repeat_more (Some k) (Some m) first some h = (omega (arith, h.0), h.1)

  pub repeat_none : (found repeat : Option ℕ) → FirstTo list n (own_name r) found → is_some found ≡ false → RepeatTo list n repeat → RepeatTo list (n + 1) repeat
  repeat_none (Some k) repeat first some h = cc
  repeat_none None None first some h = none_more h (fresh first)
  repeat_none None (Some m) first some h = (omega (arith, h.0), h.1)

  -- a link of another identifier than all other links
  pub repeat_apart : LinksDiffer list → is_link r.kind ≡ true → (repeat : Option ℕ) → RepeatTo list n repeat → RepeatTo list (n + 1) repeat
  repeat_apart differ link None h = none_more h apart
    where
      apart : ¬ (RepeatsNameAt list n)
      apart d =
          let is : is_link d.2.kind ≡ true = subst (λ (x : Record). is_link x.kind ≡ true) (sym (one_there d.2 d.5)) link in
          differ d.0 n d.1 d.2 d.3 d.4 d.5 (coded_link d.1.kind d.2.kind (ap (λ (m : Name). m.rty) d.6) ∙ is) is (ap (λ (m : Name). m.rid) d.6)
  repeat_apart differ link (Some m) h = (omega (arith, h.0), h.1)

  pub first_apart : (q : RecordNameRef) → is_link q.kind ≡ false → is_link r.kind ≡ true → (found : Option ℕ) → FirstTo list n (name_lent q) found → FirstTo list (n + 1) (name_lent q) found
  first_apart q other link found h = kept_first (name_lent q) found h (λ is none. let e : is_link r.kind ≡ is_link q.kind = coded_link r.kind q.kind (ap (λ (m : Name). m.rty) is) in cc)

-- a name has another place than a new one exactly if an earlier record has the name
pub was_there : (list : List Record) (n : ℕ) (name : Name) (found : Option ℕ) → FirstTo list n name found → unwrap_or found n ≢ n → is_some found ≡ true
was_there list n name None h other = absurd (other refl)
was_there list n name (Some k) h other = refl

pub was_new : (list : List Record) (n : ℕ) (name : Name) (found : Option ℕ) → FirstTo list n name found → unwrap_or found n ≡ n → is_some found ≡ false
was_new list n name None h same = refl
was_new list n name (Some k) h same = absurd (omega (arith, h.0, same))

pub repeat_all : (list : List Record) (n : ℕ) (found : Option ℕ) → length list ≤ n → RepeatTo list n found → IsFirstRepeatedNameIfAny list found
repeat_all list n None past h = λ j d. let l = slice_get_within list j d.2 d.5 in h j (omega (arith, l)) d
repeat_all list n (Some k) past h = h.1

pub first_all : (list : List Record) (n : ℕ) (name : Name) (found : Option ℕ) → length list ≤ n → FirstTo list n name found → FirstTo list (length list) name found
first_all list n name None past h = λ j q less at is. h j q (omega arith) at is
first_all list n name (Some k) past h = (slice_get_within list k h.1.there h.1.here, h.1)

-- ---- the table of names, one record on

pub by_eq : (q : RecordNameRef) (table : List (RecordNameRef × ℕ)) → lookup (names.eq q) table ≡ place_in table q
by_eq q table i = lookup (λ (t : RecordNameRef). name_apart q t i) table

same_place : (q t : RecordNameRef) → name_lent q ≡ name_lent t → (table : List (RecordNameRef × ℕ)) → place_in table q ≡ place_in table t
same_place q t e table i = lookup (λ (b : RecordNameRef). is_name (e i) (name_lent b)) table

module _ (old new : List (RecordNameRef × ℕ)) (name : RecordNameRef) (place : ℕ) where
  or_none : (o : Option ℕ) → o ≡ option_or o None
  or_none None = refl
  or_none (Some k) = refl

  or_some : (o : Option ℕ) → Some (unwrap_or o place) ≡ option_or o (Some place)
  or_some None = refl
  or_some (Some k) = refl

  -- writing the place that a name has, or else this one, puts this one
  pub put_or : (first : ℕ) → first ≡ unwrap_or (lookup (names.eq name) old) place → ((q : RecordNameRef) → lookup (names.eq q) new ≡ cond (names.eq name q) (Some first) (lookup (names.eq q) old)) → IsPlaceAdded old name place new
  put_or first is updates other =
      sym (by_eq other new) ∙ (updates other ∙ (ap (λ b. cond b (Some first) (lookup (names.eq other) old)) (name_apart name other)
      ∙ (ap (cond (is_name (name_lent name) (name_lent other)) (Some first)) (by_eq other old) ∙ go (is_name (name_lent name) (name_lent other)) refl)))
    where
      go : (b : Bool) → is_name (name_lent name) (name_lent other) ≡ b → cond b (Some first) (place_in old other) ≡ option_or (place_in old other) (if b then Some place else None)
      go false t = or_none (place_in old other)
      go true t =
          let alike : lookup (names.eq name) old ≡ place_in old other = by_eq name old ∙ same_place name other (same_name (name_lent name) (name_lent other) t) old in
          ap Some (is ∙ ap (λ o. unwrap_or o place) alike) ∙ or_some (place_in old other)

module _ (list : List Record) (n : ℕ) (r : Record) (here : slice_get list n ≡ Some r) (rise : Bool) (in_table : is_tabled rise r.kind ≡ true)
    (name : RecordNameRef) (e : name_lent name ≡ own_name r) (old new : List (RecordNameRef × ℕ))
    (put : IsPlaceAdded old name n new) (first : (q : RecordNameRef) → is_tabled rise q.kind ≡ true → FirstTo list n (name_lent q) (place_in old q)) where
  pub first_own : FirstTo list n (own_name r) (place_in old name)
  first_own =
      let tabled = ap (λ b. not (rise && b)) (coded_link name.kind r.kind (ap (λ (m : Name). m.rty) e)) ∙ in_table in
      subst (λ m. FirstTo list n m (place_in old name)) e (first name tabled)

  pub first_put : (q : RecordNameRef) → is_tabled rise q.kind ≡ true → FirstTo list (n + 1) (name_lent q) (place_in new q)
  first_put q tabled = subst (FirstTo list (n + 1) (name_lent q)) (sym (put q)) (go (is_name (name_lent name) (name_lent q)) refl (place_in old q) (first q tabled))
    where
      go : (b : Bool) → is_name (name_lent name) (name_lent q) ≡ b → (found : Option ℕ) → FirstTo list n (name_lent q) found → FirstTo list (n + 1) (name_lent q) (option_or found (if b then Some n else None))
      go b t (Some k) h = kept_first list n r here (name_lent q) (Some k) h (λ is none. cc)
      go true t None h = put_first list n r here (name_lent q) (sym e ∙ same_name (name_lent name) (name_lent q) t) h
      go false t None h = kept_first list n r here (name_lent q) None h (λ is none. let no : true ≡ false = sym (subst (λ m. is_name (name_lent name) m ≡ true) (e ∙ is) (name_itself (name_lent name))) ∙ t in cc)

pub names_of : (list : List Record) (n : ℕ) → length list ≤ n → (rise : Bool) (table : List (RecordNameRef × ℕ)) → ((q : RecordNameRef) → is_tabled rise q.kind ≡ true → FirstTo list n (name_lent q) (place_in table q))
    → (name : RecordNameRef) → is_link name.kind ≡ false → place_in table name ≡ place_named list (name_lent name)
names_of list n past rise table first name no_link = named_from list (name_lent name) (place_in table name) (first_all list n (name_lent name) (place_in table name) past (first name (looked_up rise name.kind no_link)))

pub no_names : (list : List Record) (q : RecordNameRef) → FirstTo list 0 (name_lent q) None
no_names list q = λ j r less. absurd (omega arith)

pub found_at : (list : List Record) (es : List (RecordNameRef × ℕ)) (name : RecordNameRef) → lookup (λ t. is_name (name_lent name) (name_lent t)) es ≡ place_named list (name_lent name)
    → (target : Name) → name_lent name ≡ target → (o : Option ℕ) → o ≡ lookup (names.eq name) es → place_named list target ≡ o
found_at list es name are target is o e =
    let known = (λ i. lookup (λ (t : RecordNameRef). name_apart name t i) es) ∙ are in
    sym (e ∙ (known ∙ ap (place_named list) is))
