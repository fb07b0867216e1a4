-- Lists in which nothing has changed.
use Rattle.std.proofs.Common.{◌≡◌, ◌∙◌, ◌||◌, ◌&&◌, ℕ, Bool, true, false, cond, List, [], ◌∷◌, map, get_or, drop, refl, sym, ap, subst, filter, bytes_eq, true≢false, IsPermutation, Ordering, Less, Equal, Greater, is_gt, arith}
use Rattle.std.specs.List.{AllByRecursion, list_all, list_any}
use Rattle.std.specs.Ordering.{ordering_reverse}
use Rattle.std.proofs.lemmas.Bool.{and_parts}
use Rattle.std.proofs.lemmas.List.Sorted.{IsPermutation-sym, IsPermutation-trans}
use Rattle.std.proofs.lemmas.Slice.Eq.{bytes_eq-Decides}
use Rattle.edi_line.proofs.EachElement.{each_weaker}
use Rattle.edi_record.specs.Orders.{bytes_cmp}
use Rattle.edi_schema.specs.Sorted.{NeverFalls, sort_by}
use Rattle.edi_schema.proofs.SortedLists.{IsPermutation-sort_by, NeverFalls-sort_by, sort_by-in_order}
use Rattle.edi_manifest.proofs.ByteOrder.{bytes_total, bytes_exact}
use Rattle.edi_changes.specs.Changes.{AreListChanges, IsFate, IsTold, digests_of}
use Rattle.edi_changes.specs.Told.{is_same, status_of_changes}
use Rattle.edi_changes.specs.declared.changes.Change.{Change}
use Rattle.edi_changes.specs.declared.changes.Fate.{Fate}
use Rattle.edi_changes.specs.declared.changes.Fate.TheVariants.{New, Gone, Changed, Same}
use Rattle.edi_changes.specs.declared.entry.Entry.{Entry}
use Rattle.edi_changes.specs.inner.Merging.{digest_in, entry_cmp}
use Rattle.edi_changes.proofs.Orders.{entry_total, less_is_other, less_than_more, subject_rises}
use Rattle.edi_changes.proofs.Digests.{digests_moved, filter_none, is_of, run_rises}

-- ---- the digests of a list in order

abbrev plain : List ℕ → List Entry → List (List ℕ)
plain s entries = map digest_in (filter (is_of s) entries)

all_filter : (P : Entry → Type 0) (p : Entry → Bool) (es : List Entry) → AllByRecursion P es → AllByRecursion P (filter p es)
all_filter P p [] h = tt
all_filter P p (e ∷ es) h = go (p e) (all_filter P p es h.1)
  where
    go : (b : Bool) → AllByRecursion P (filter p es) → AllByRecursion P (cond b (e ∷ filter p es) (filter p es))
    go true k = (h.0, k)
    go false k = k

filter_rises : (p : Entry → Bool) (es : List Entry) → NeverFalls entry_cmp es → NeverFalls entry_cmp (filter p es)
filter_rises p [] up = tt
filter_rises p (e ∷ es) up = go (p e) (filter_rises p es up.1)
  where
    go : (b : Bool) → NeverFalls entry_cmp (filter p es) → NeverFalls entry_cmp (cond b (e ∷ filter p es) (filter p es))
    go true k = (all_filter (λ (y : Entry). is_gt (entry_cmp e y) ≡ false) p es up.0, k)
    go false k = k

kept_are : (s : List ℕ) (es : List Entry) → AllByRecursion (λ (e : Entry). e.subject ≡ s) (filter (is_of s) es)
kept_are s [] = tt
kept_are s (e ∷ es) = go (is_of s e) refl (kept_are s es)
  where
    go : (b : Bool) → is_of s e ≡ b → AllByRecursion (λ (y : Entry). y.subject ≡ s) (filter (is_of s) es)
        → AllByRecursion (λ (y : Entry). y.subject ≡ s) (cond b (e ∷ filter (is_of s) es) (filter (is_of s) es))
    go true is k = (sym ((bytes_eq-Decides s e.subject).0 is), k)
    go false is k = k

in_order : (s : List ℕ) (es : List Entry) → NeverFalls entry_cmp es → digests_of s es ≡ plain s es
in_order s es up = sort_by-in_order bytes_cmp bytes_total bytes_exact (plain s es) (run_rises s (filter (is_of s) es) (kept_are s es) (filter_rises (is_of s) es up))

-- ---- lists in order are their digests

plain_first : (e : Entry) (es : List Entry) → plain e.subject (e ∷ es) ≡ e.digest ∷ plain e.subject es
plain_first e es = ap (λ b. map digest_in (cond b (e ∷ filter (is_of e.subject) es) (filter (is_of e.subject) es))) ((bytes_eq-Decides e.subject e.subject).1 refl)

plain_behind : (s : List ℕ) (e : Entry) (es : List Entry) → is_of s e ≡ false → plain s (e ∷ es) ≡ plain s es
plain_behind s e es is = ap (λ b. map digest_in (cond b (e ∷ filter (is_of s) es) (filter (is_of s) es))) is

-- a list that begins behind a subject has none of it
none_less : (s : List ℕ) (f : Entry) (fs : List Entry) → bytes_cmp s f.subject ≡ Less → NeverFalls entry_cmp (f ∷ fs) → plain s (f ∷ fs) ≡ []
none_less s f fs less up =
    ap (map digest_in) (filter_none (is_of s) (f ∷ fs) (
      less_is_other s f.subject less,
      each_weaker (λ (y : Entry). is_gt (entry_cmp f y) ≡ false) (λ (y : Entry). is_of s y ≡ false)
          (λ y k. less_is_other s y.subject (less_than_more s f.subject y.subject less (subject_rises f y k))) fs up.0,
    ))

not_both : (d : List ℕ) (ds : List (List ℕ)) → d ∷ ds ≡ [] → ⊥
not_both d ds e = cc

pub same_lists : (xs ys : List Entry) → NeverFalls entry_cmp xs → NeverFalls entry_cmp ys → ((s : List ℕ) → plain s xs ≡ plain s ys) → xs ≡ ys
same_lists [] [] up up' same = refl
same_lists [] (f ∷ fs) up up' same = absurd (not_both f.digest (plain f.subject fs) (sym (plain_first f fs) ∙ sym (same f.subject)))
same_lists (e ∷ es) [] up up' same = absurd (not_both e.digest (plain e.subject es) (sym (plain_first e es) ∙ same e.subject))
same_lists (e ∷ es) (f ∷ fs) up up' same = go (bytes_cmp e.subject f.subject) refl (same_lists es fs up.1 up'.1)
  where
    go : (o : Ordering) → bytes_cmp e.subject f.subject ≡ o → (((s : List ℕ) → plain s es ≡ plain s fs) → es ≡ fs) → e ∷ es ≡ f ∷ fs
    go Less is rest = absurd (not_both e.digest (plain e.subject es) (sym (plain_first e es) ∙ (same e.subject ∙ none_less e.subject f fs is up')))
    go Greater is rest =
        let less : bytes_cmp f.subject e.subject ≡ Less = bytes_total.antisymm f.subject e.subject ∙ ap ordering_reverse is in
        absurd (not_both f.digest (plain f.subject fs) (sym (plain_first f fs) ∙ (sym (same f.subject) ∙ none_less f.subject e es less up)))
    go Equal is rest =
        let subject : e.subject ≡ f.subject = bytes_exact e.subject f.subject is in
        let here : e.digest ∷ plain e.subject es ≡ f.digest ∷ plain f.subject fs = sym (plain_first e es) ∙ (same e.subject ∙ (ap (λ s. plain s (f ∷ fs)) subject ∙ plain_first f fs)) in
        let digest : e.digest ≡ f.digest = ap (λ ds. get_or ds 0 []) here in
        let behind : plain e.subject es ≡ plain f.subject fs = ap (drop 1) here in
        let others : (s : List ℕ) → plain s es ≡ plain s fs = λ s. each s subject behind (bytes_eq s e.subject) refl in
        (λ i. record { subject = subject i; digest = digest i } ∷ rest others i)
      where
        each : (s : List ℕ) → e.subject ≡ f.subject → plain e.subject es ≡ plain f.subject fs → (b : Bool) → bytes_eq s e.subject ≡ b → plain s es ≡ plain s fs
        each s subject behind true is_here =
            let own : s ≡ e.subject = (bytes_eq-Decides s e.subject).0 is_here in
            ap (λ t. plain t es) own ∙ (behind ∙ ap (λ t. plain t fs) (sym (own ∙ subject)))
        each s subject behind false is_here =
            sym (plain_behind s e es is_here) ∙ (same s ∙ plain_behind s f fs (ap (bytes_eq s) (sym subject) ∙ is_here))

-- ---- nothing has changed

-- what is said of each subject is that it is the same
abbrev pub AllSame : List Change → Type 0
AllSame changes = AllByRecursion (λ (c : Change). c.fate ≡ Same) changes

fate_same : (f : Fate) (d e : List (List ℕ)) → f ≡ Same → IsFate f d e → d ≡ e
fate_same f d e is h = (subst (λ g. IsFate g d e) is h).1

same_told : (before after : List Entry) (s : List ℕ) (cs : List Change) → AllSame cs
    → AllByRecursion (λ (c : Change). IsFate c.fate (digests_of c.subject before) (digests_of c.subject after)) cs → IsTold cs s → digests_of s before ≡ digests_of s after
same_told before after s [] same each told = absurd (true≢false (sym told))
same_told before after s (c ∷ cs) same each told = go (bytes_eq s c.subject) refl told (same_told before after s cs same.1 each.1)
  where
    go : (b : Bool) → bytes_eq s c.subject ≡ b → (b || list_any (λ (x : Change). bytes_eq s x.subject) cs) ≡ true → (IsTold cs s → digests_of s before ≡ digests_of s after)
        → digests_of s before ≡ digests_of s after
    go true is k more =
        let own : s ≡ c.subject = (bytes_eq-Decides s c.subject).0 is in
        subst (λ t. digests_of t before ≡ digests_of t after) (sym own) (fate_same c.fate (digests_of c.subject before) (digests_of c.subject after) same.0 each.0)
    go false is k more = more k

untold : (cs : List Change) (s : List ℕ) (es : List Entry) → list_any (λ (x : Change). bytes_eq s x.subject) cs ≡ false → AllByRecursion (λ (e : Entry). IsTold cs e.subject) es → digests_of s es ≡ []
untold cs s es none told = ap (λ (l : List Entry). sort_by bytes_cmp (map digest_in l)) (filter_none (is_of s) es
    (each_weaker (λ (e : Entry). IsTold cs e.subject) (λ (e : Entry). is_of s e ≡ false) apart es told))
  where
    apart : (e : Entry) → IsTold cs e.subject → is_of s e ≡ false
    apart e t = go (bytes_eq s e.subject) refl
      where
        go : (b : Bool) → bytes_eq s e.subject ≡ b → bytes_eq s e.subject ≡ false
        go false is = is
        go true is = absurd (true≢false (sym (subst (IsTold cs) (sym ((bytes_eq-Decides s e.subject).0 is)) t) ∙ none))

same_digests : (before after : List Entry) (cs : List Change) → AreListChanges before after cs → AllSame cs → (s : List ℕ) → digests_of s before ≡ digests_of s after
same_digests before after cs are same s = go (list_any (λ (x : Change). bytes_eq s x.subject) cs) refl
  where
    go : (b : Bool) → list_any (λ (x : Change). bytes_eq s x.subject) cs ≡ b → digests_of s before ≡ digests_of s after
    go true is = same_told before after s cs same are.each is
    go false is = untold cs s before is are.all_before ∙ sym (untold cs s after is are.all_after)

pub nothing_changed : (before after : List Entry) (cs : List Change) → AreListChanges before after cs → AllSame cs → IsPermutation before after
nothing_changed before after cs are same =
    let old = sort_by entry_cmp before in
    let new = sort_by entry_cmp after in
    let old_moved : IsPermutation before old = IsPermutation-sym old before (IsPermutation-sort_by entry_cmp entry_total before) in
    let new_moved : IsPermutation new after = IsPermutation-sort_by entry_cmp entry_total after in
    let old_up = NeverFalls-sort_by entry_cmp entry_total before in
    let new_up = NeverFalls-sort_by entry_cmp entry_total after in
    let equal : old ≡ new = same_lists old new old_up new_up (λ s.
    sym (in_order s old old_up) ∙ (digests_moved s before old old_moved ∙ (same_digests before after cs are same s ∙ (digests_moved s new after new_moved ∙ in_order s new new_up)))) in
    IsPermutation-trans before old after old_moved (subst (λ l. IsPermutation l after) (sym equal) new_moved)

-- what has the same digests is the same
only_same : (f : Fate) (d e : List (List ℕ)) → d ≡ e → IsFate f d e → f ≡ Same
only_same New d e is h = absurd (h.1 (sym is ∙ h.0))
only_same Gone d e is h = absurd (h.0 (is ∙ h.1))
only_same Changed d e is h = absurd (h.2 is)
only_same Same d e is h = refl

pub moved_is_same : (before after : List Entry) (cs : List Change) → AreListChanges before after cs → IsPermutation before after → AllSame cs
moved_is_same before after cs are moved =
    each_weaker (λ (c : Change). IsFate c.fate (digests_of c.subject before) (digests_of c.subject after)) (λ (c : Change). c.fate ≡ Same)
    (λ c h. only_same c.fate (digests_of c.subject before) (digests_of c.subject after) (sym (digests_moved c.subject before after moved)) h) cs are.each

-- ---- the status

same_is : (f : Fate) → is_same f ≡ true → f ≡ Same
same_is New e = absurd (true≢false (sym e))
same_is Gone e = absurd (true≢false (sym e))
same_is Changed e = absurd (true≢false (sym e))
same_is Same e = refl

all_are : (cs : List Change) → list_all (λ (c : Change). is_same c.fate) cs ≡ true → AllSame cs
all_are [] e = tt
all_are (c ∷ cs) e = let parts = and_parts (is_same c.fate) (list_all (λ (x : Change). is_same x.fate) cs) e in (same_is c.fate parts.0, all_are cs parts.1)

are_all : (cs : List Change) → AllSame cs → list_all (λ (c : Change). is_same c.fate) cs ≡ true
are_all [] h = refl
are_all (c ∷ cs) h = ap (λ f. is_same f && list_all (λ (x : Change). is_same x.fate) cs) h.0 ∙ are_all cs h.1

pub status_same : (cs : List Change) → status_of_changes cs ≡ 0 → AllSame cs
status_same cs e = go (list_all (λ (c : Change). is_same c.fate) cs) refl e
  where
    go : (b : Bool) → list_all (λ (c : Change). is_same c.fate) cs ≡ b → ◌≡◌ {A = ℕ} (cond b 0 1) 0 → AllSame cs
    go true is k = all_are cs is
    go false is k = let n : ◌≡◌ {A = ℕ} 1 0 = k in absurd (omega (arith, n))

pub same_status : (cs : List Change) → AllSame cs → status_of_changes cs ≡ 0
same_status cs h = ap (λ b. cond b 0 1) (are_all cs h)
