-- What is said of two lists in order, run by run.
use Rattle.std.proofs.Common.{◌≡◌, ◌≢◌, ◌⊎◌, ◌||◌, ◌∙◌, ℕ, Bool, true, false, List, [], ◌∷◌, ◌++◌, map, append_assoc, append-nil, refl, sym, ap, subst, inl, inr, true≢false, bytes_eq, IsPermutation, Less}
use Rattle.std.specs.List.{AllByRecursion, list_any}
use Rattle.std.proofs.lemmas.Slice.Eq.{bytes_eq-Decides}
use Rattle.std.proofs.lemmas.List.Elements.{recursion_from_All, All-from_recursion}
use Rattle.std.proofs.lemmas.List.Sorted.{All-permutation, IsPermutation-sym}
use Rattle.std.proofs.lemmas.Bool.{or_right}
use Rattle.edi_line.proofs.EachElement.{each_weaker, each_of_both, each_behind}
use Rattle.edi_record.specs.Orders.{bytes_cmp}
use Rattle.edi_schema.specs.Sorted.{AlwaysRises, NeverFalls}
use Rattle.edi_changes.specs.Changes.{AreListChanges, IsFate, IsTold, change_cmp, digests_of}
use Rattle.edi_changes.specs.declared.changes.Change.{Change}
use Rattle.edi_changes.specs.declared.changes.Fate.{Fate}
use Rattle.edi_changes.specs.declared.changes.Fate.TheVariants.{New, Gone, Changed, Same}
use Rattle.edi_changes.specs.declared.entry.Entry.{Entry}
use Rattle.edi_changes.specs.inner.Merging.{digest_in, entry_cmp}
use Rattle.edi_changes.proofs.Orders.{back_rises, front_rises, less_is_other, more_is_other}
use Rattle.edi_changes.proofs.Digests.{digests_before, digests_behind, digests_moved, digests_of_run}

-- ---- what is said so far

-- each subject of which something is said is less than this one
abbrev pub AllBefore : List Change → List ℕ → Type 0
AllBefore changes s = AllByRecursion (λ (c : Change). bytes_cmp c.subject s ≡ Less) changes

-- and less than those of entries
abbrev pub AreBefore : List Change → List Entry → Type 0
AreBefore changes entries = AllByRecursion (λ (e : Entry). AllBefore changes e.subject) entries

-- what is said of a subject fits two lists
abbrev pub Fits : List Entry → List Entry → Change → Type 0
Fits before after c = IsFate c.fate (digests_of c.subject before) (digests_of c.subject after)

-- all is said of the first entries of two lists, and these are left
pub record Merged (before after : List Entry) (changes : List Change) (old new : List Entry) : Type 0 where
  pub done_before : List Entry
  pub done_after : List Entry
  pub cut_before : before ≡ done_before ++ old
  pub cut_after : after ≡ done_after ++ new
  pub are : AreListChanges done_before done_after changes
  pub old_behind : AreBefore changes old
  pub new_behind : AreBefore changes new
  pub old_rises : NeverFalls entry_cmp old
  pub new_rises : NeverFalls entry_cmp new

none_before : (entries : List Entry) → AreBefore [] entries
none_before [] = tt
none_before (e ∷ es) = (tt, none_before es)

pub none_merged : (before after : List Entry) → NeverFalls entry_cmp before → NeverFalls entry_cmp after → Merged before after [] before after
none_merged before after up up' = record {
  done_before = [];
  done_after = [];
  cut_before = refl;
  cut_after = refl;
  are = record { each = tt; all_before = tt; all_after = tt; order = tt };
  old_behind = none_before before;
  new_behind = none_before after;
  old_rises = up;
  new_rises = up';
}

-- ---- one subject more

or_more : (a b c : Bool) → (b ≡ true → c ≡ true) → (a || b) ≡ true → (a || c) ≡ true
or_more true b c to e = refl
or_more false b c to e = to e

told_last : (cs : List Change) (c : Change) (t : List ℕ) → t ≡ c.subject → IsTold (cs ++ c ∷ []) t
told_last [] c t is = ap (λ b. b || false) ((bytes_eq-Decides t c.subject).1 is)
told_last (d ∷ cs) c t is = or_right (bytes_eq t d.subject) (list_any (λ (x : Change). bytes_eq t x.subject) (cs ++ c ∷ [])) (told_last cs c t is)

told_more : (cs : List Change) (c : Change) (t : List ℕ) → IsTold cs t → IsTold (cs ++ c ∷ []) t
told_more [] c t h = absurd (true≢false (sym h))
told_more (d ∷ cs) c t h =
    or_more (bytes_eq t d.subject) (list_any (λ (x : Change). bytes_eq t x.subject) cs) (list_any (λ (x : Change). bytes_eq t x.subject) (cs ++ c ∷ [])) (told_more cs c t) h

rises_more : (cs : List Change) (c : Change) → AlwaysRises change_cmp cs → AllBefore cs c.subject → AlwaysRises change_cmp (cs ++ c ∷ [])
rises_more [] c up h = (tt, tt)
rises_more (d ∷ cs) c up h = (each_of_both (λ (x : Change). change_cmp d x ≡ Less) cs (c ∷ []) up.0 (h.0, tt), rises_more cs c up.1 h.1)

behind_more : (cs : List Change) (c : Change) (es : List Entry) → AreBefore cs es → AllByRecursion (λ (e : Entry). bytes_cmp c.subject e.subject ≡ Less) es → AreBefore (cs ++ c ∷ []) es
behind_more cs c [] h k = tt
behind_more cs c (e ∷ es) h k = (each_of_both (λ (x : Change). bytes_cmp x.subject e.subject ≡ Less) cs (c ∷ []) h.0 (k.0, tt), behind_more cs c es h.1 k.1)

-- of what is said something is less
told_is_less : (cs : List Change) (s t : List ℕ) → AllBefore cs s → IsTold cs t → bytes_cmp t s ≡ Less
told_is_less [] s t h told = absurd (true≢false (sym told))
told_is_less (c ∷ cs) s t h told = go (bytes_eq t c.subject) refl told (told_is_less cs s t h.1)
  where
    go : (b : Bool) → bytes_eq t c.subject ≡ b → (b || list_any (λ (x : Change). bytes_eq t x.subject) cs) ≡ true → (IsTold cs t → bytes_cmp t s ≡ Less) → bytes_cmp t s ≡ Less
    go true e k more = ap (λ x. bytes_cmp x s) ((bytes_eq-Decides t c.subject).0 e) ∙ h.0
    go false e k more = more k

-- another subject than that of a run
run_apart : (s t : List ℕ) → bytes_cmp t s ≡ Less → (run : List Entry) → AllByRecursion (λ (e : Entry). e.subject ≡ s) run → AllByRecursion (λ (e : Entry). bytes_eq t e.subject ≡ false) run
run_apart s t less [] is = tt
run_apart s t less (e ∷ es) is = (ap (bytes_eq t) is.0 ∙ less_is_other t s less, run_apart s t less es is.1)

-- a run stands behind what is said
run_behind : (s : List ℕ) (changes : List Change) (run behind whole : List Entry) → whole ≡ run ++ behind → AllByRecursion (λ (e : Entry). e.subject ≡ s) run → run ≢ []
    → AreBefore changes whole → AllBefore changes s
run_behind s changes [] behind whole cut is some h = absurd (some refl)
run_behind s changes (e ∷ es) behind whole cut is some h = subst (AllBefore changes) is.0 (subst (AreBefore changes) cut h).0

-- digests are those of entries
some_entries : (es : List Entry) → map digest_in es ≢ [] → es ≢ []
some_entries es h none = h (ap (map digest_in) none)

either_some : (f : Fate) (a b : List Entry) → IsFate f (map digest_in a) (map digest_in b) → (a ≢ []) ⊎ (b ≢ [])
either_some New a b h = inr (some_entries b h.1)
either_some Gone a b h = inl (some_entries a h.0)
either_some Changed a b h = inl (some_entries a h.0)
either_some Same a b h = inl (some_entries a h.0)

module _ (before after : List Entry) (changes : List Change) (old new : List Entry) (m : Merged before after changes old new) (s : List ℕ)
    (old_run old_rest new_run new_rest : List Entry) (old_cut : old ≡ old_run ++ old_rest) (new_cut : new ≡ new_run ++ new_rest)
    (old_is : AllByRecursion (λ (e : Entry). e.subject ≡ s) old_run) (new_is : AllByRecursion (λ (e : Entry). e.subject ≡ s) new_run)
    (old_less : AllByRecursion (λ (e : Entry). bytes_cmp s e.subject ≡ Less) old_rest) (new_less : AllByRecursion (λ (e : Entry). bytes_cmp s e.subject ≡ Less) new_rest) where
  said_before : (f : Fate) → IsFate f (map digest_in old_run) (map digest_in new_run) → AllBefore changes s
  said_before f fate = go (either_some f old_run new_run fate)
    where
      go : (old_run ≢ []) ⊎ (new_run ≢ []) → AllBefore changes s
      go (inl some) = run_behind s changes old_run old_rest old old_cut old_is some m.old_behind
      go (inr some) = run_behind s changes new_run new_rest new new_cut new_is some m.new_behind

  old_up : NeverFalls entry_cmp (old_run ++ old_rest)
  old_up = subst (NeverFalls entry_cmp) old_cut m.old_rises

  new_up : NeverFalls entry_cmp (new_run ++ new_rest)
  new_up = subst (NeverFalls entry_cmp) new_cut m.new_rises

  -- what is said fits the longer lists too
  still_fits : (cs : List Change) → AllBefore cs s → AllByRecursion (Fits m.done_before m.done_after) cs → AllByRecursion (Fits (m.done_before ++ old_run) (m.done_after ++ new_run)) cs
  still_fits [] h k = tt
  still_fits (c ∷ cs) h k =
      let one = digests_before c.subject m.done_before old_run (run_apart s c.subject h.0 old_run old_is) in
      let other = digests_before c.subject m.done_after new_run (run_apart s c.subject h.0 new_run new_is) in (
        subst (λ d. IsFate c.fate d (digests_of c.subject (m.done_after ++ new_run))) (sym one) (subst (λ d. IsFate c.fate (digests_of c.subject m.done_before) d) (sym other) k.0),
        still_fits cs h.1 k.1,
      )

  -- of the subject of a run nothing was said
  done_apart : AllBefore changes s → (es : List Entry) → AllByRecursion (λ (e : Entry). IsTold changes e.subject) es → AllByRecursion (λ (e : Entry). bytes_eq s e.subject ≡ false) es
  done_apart h es told =
      each_weaker (λ (e : Entry). IsTold changes e.subject) (λ (e : Entry). bytes_eq s e.subject ≡ false)
      (λ e t. more_is_other e.subject s (told_is_less changes s e.subject h t)) es told

  now_fits : (f : Fate) → IsFate f (map digest_in old_run) (map digest_in new_run) → Fits (m.done_before ++ old_run) (m.done_after ++ new_run) (record { subject = s; fate = f })
  now_fits f fate =
      let h = said_before f fate in
      let one = digests_behind s m.done_before old_run (done_apart h m.done_before m.are.all_before) ∙ digests_of_run s old_run old_is (front_rises old_run old_rest old_up) in
      let other = digests_behind s m.done_after new_run (done_apart h m.done_after m.are.all_after) ∙ digests_of_run s new_run new_is (front_rises new_run new_rest new_up) in
      subst (λ d. IsFate f d (digests_of s (m.done_after ++ new_run))) (sym one) (subst (λ d. IsFate f (map digest_in old_run) d) (sym other) fate)

  all_told : (f : Fate) (done run : List Entry) → AllByRecursion (λ (e : Entry). IsTold changes e.subject) done → AllByRecursion (λ (e : Entry). e.subject ≡ s) run
      → AllByRecursion (λ (e : Entry). IsTold (changes ++ record { subject = s; fate = f } ∷ []) e.subject) (done ++ run)
  all_told f done run told is =
      let c : Change = record { subject = s; fate = f } in
      each_of_both (λ (e : Entry). IsTold (changes ++ c ∷ []) e.subject) done run
      (each_weaker (λ (e : Entry). IsTold changes e.subject) (λ (e : Entry). IsTold (changes ++ c ∷ []) e.subject) (λ e t. told_more changes c e.subject t) done told)
      (each_weaker (λ (e : Entry). e.subject ≡ s) (λ (e : Entry). IsTold (changes ++ c ∷ []) e.subject) (λ e t. told_last changes c e.subject t) run is)

  pub one_merged : (f : Fate) → IsFate f (map digest_in old_run) (map digest_in new_run) → Merged before after (changes ++ record { subject = s; fate = f } ∷ []) old_rest new_rest
  one_merged f fate =
      let c : Change = record { subject = s; fate = f } in
      let h = said_before f fate in
      record {
        done_before = m.done_before ++ old_run;
        done_after = m.done_after ++ new_run;
        cut_before = m.cut_before ∙ (ap (λ l. m.done_before ++ l) old_cut ∙ sym (append_assoc m.done_before old_run old_rest));
        cut_after = m.cut_after ∙ (ap (λ l. m.done_after ++ l) new_cut ∙ sym (append_assoc m.done_after new_run new_rest));
        are = record {
          each = each_of_both (Fits (m.done_before ++ old_run) (m.done_after ++ new_run)) changes (c ∷ []) (still_fits changes h m.are.each) (now_fits f fate, tt);
          all_before = all_told f m.done_before old_run m.are.all_before old_is;
          all_after = all_told f m.done_after new_run m.are.all_after new_is;
          order = rises_more changes c m.are.order h;
        };
        old_behind = behind_more changes c old_rest (each_behind (λ (e : Entry). AllBefore changes e.subject) old_run old_rest (subst (AreBefore changes) old_cut m.old_behind)) old_less;
        new_behind = behind_more changes c new_rest (each_behind (λ (e : Entry). AllBefore changes e.subject) new_run new_rest (subst (AreBefore changes) new_cut m.new_behind)) new_less;
        old_rises = back_rises old_run old_rest old_up;
        new_rises = back_rises new_run new_rest new_up;
      }

-- ---- all subjects

pub all_merged : (before after : List Entry) (changes : List Change) (old new : List Entry) → Merged before after changes old new → old ≡ [] → new ≡ [] → AreListChanges before after changes
all_merged before after changes old new m no_old no_new =
    let all_before : m.done_before ≡ before = sym (m.cut_before ∙ (ap (λ l. m.done_before ++ l) no_old ∙ append-nil m.done_before)) in
    let all_after : m.done_after ≡ after = sym (m.cut_after ∙ (ap (λ l. m.done_after ++ l) no_new ∙ append-nil m.done_after)) in
    subst (λ (l : List Entry). AreListChanges before l changes) all_after (subst (λ (l : List Entry). AreListChanges l m.done_after changes) all_before m.are)

-- ---- lists in another order

all_moved : (P : Entry → Type 0) (xs ys : List Entry) → IsPermutation xs ys → AllByRecursion P ys → AllByRecursion P xs
all_moved P xs ys moved h = recursion_from_All P xs (All-permutation P ys xs (IsPermutation-sym xs ys moved) (All-from_recursion P ys h))

fits_moved : (before after ordered ordered' : List Entry) → IsPermutation before ordered → IsPermutation after ordered' → (c : Change) → Fits ordered ordered' c → Fits before after c
fits_moved before after ordered ordered' moved moved' c h =
    subst (λ d. IsFate c.fate d (digests_of c.subject after)) (digests_moved c.subject before ordered moved)
    (subst (λ d. IsFate c.fate (digests_of c.subject ordered) d) (digests_moved c.subject after ordered' moved') h)

pub in_any_order : (before after ordered ordered' : List Entry) (changes : List Change) → IsPermutation before ordered → IsPermutation after ordered'
    → AreListChanges ordered ordered' changes → AreListChanges before after changes
in_any_order before after ordered ordered' changes moved moved' are = record {
  each = each_weaker (Fits ordered ordered') (Fits before after) (fits_moved before after ordered ordered' moved moved') changes are.each;
  all_before = all_moved (λ (e : Entry). IsTold changes e.subject) before ordered moved are.all_before;
  all_after = all_moved (λ (e : Entry). IsTold changes e.subject) after ordered' moved' are.all_after;
  order = are.order;
}
