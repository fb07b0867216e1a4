-- Zones that go to the ends that are stored.
use Rattle.std.proofs.Common.{◌≡◌, ℕ, ◌+◌, ◌<◌, ◌≤◌, Bool, true, false, cond, ◌||◌, leb, List, [], ◌∷◌, ◌++◌, length, map, Option, Some, None, is_none, is_some, option_to_list, codes, refl, sym, ap, ◌∙◌, one-add, arith}
use Rattle.std.specs.List.{list_any}
use Rattle.std.proofs.lemmas.Bool.{or_left, or_right}
use Rattle.std.proofs.lemmas.Bool.Decides.{nat_tests}
use Rattle.std.proofs.lemmas.List.{append-nil}
use Rattle.edi_line.specs.ZoneData.{ZoneData, has_code}
use Rattle.edi_line.proofs.Truths.{none_is}
use Rattle.edi_record.specs.inner.Texts.{pointer}
use Rattle.edi_record.specs.Texts.{PointerText}
use Rattle.edi_record.specs.Records.{is_link, points_at}
use Rattle.edi_record.specs.inner.Records.{sns_after, ends}
use Rattle.edi_record.specs.inner.RecordRules.{kind_in, count_until, repeats_code, has_bad_end}
use Rattle.edi_record.specs.inner.Stored.{has_stray, sns_with, end_with, ends_with, bad_sns_with, StoresEnds, KeptEnds}
use Rattle.edi_record.specs.declared.record.Kind.{Kind}
use Rattle.edi_record.specs.LinkEnds.{EndData}
use Rattle.edi_record.proofs.AttributesStored.{code_is, some_joined, one_more}
use Rattle.edi_record.proofs.AttributesRead.{one_missing}
use Rattle.edi_record.proofs.Loops.{sns_none, sns_stops, sns_found, sns_goes_on, ends_end, ends_skip, end_read, no_end, stray_sns_goes_on}
use Rattle.edi_record.proofs.Parts.{bad_target, bad_sns, few_ends, good_ends}

abbrev senses_left : List ZoneData → ℕ
senses_left zs = count_until points_at (codes "SNS") zs

abbrev repeats_left : List ZoneData → Bool
repeats_left zs = repeats_code points_at points_at (codes "SNS") zs

pub sense_only : (z : ZoneData) → has_code (codes "SNS") z ≡ true → points_at z ≡ false
sense_only z e = let same = code_is z (codes "SNS") e in rw same refl

-- ---- an open end that is closed

closes_end : (zs : List ZoneData) (o : Option EndData) → None ≡ sns_after zs → ends_with o zs ≡ map Some (option_to_list o) ++ ends zs
closes_end zs None sns = refl
closes_end zs (Some a) sns = by_sns a.sns
  where
    by_sns : (s : Option (List ℕ)) → Some (end_with a (sns_with s zs)) ∷ ends zs ≡ Some (end_with a s) ∷ ends zs
    by_sns (Some text) = refl
    by_sns None = ap (λ s. Some (end_with a s) ∷ ends zs) (sym sns)

ended_in : (zs group : List ZoneData) (o : Option EndData) (done new : List EndData) → None ≡ sns_after zs → ends group ≡ map Some done ++ ends_with o zs → new ≡ done ++ option_to_list o → ends group ≡ map Some new ++ ends zs
ended_in zs group o done new sns made pushed = made ∙ ap (λ t. map Some done ++ t) (closes_end zs o sns) ∙ some_joined done (option_to_list o) (ends zs) ∙ ap (λ t. map Some t ++ ends zs) (sym pushed)

-- no SNS comes before these zones, and none in them for an open end
sns_over : (zs : List ZoneData) (o : Option EndData) → senses_left zs ≡ 0 → has_stray zs ≡ false → bad_sns_with o zs ≡ repeats_left zs
sns_over zs None none stray = rw stray refl
sns_over zs (Some a) none stray = rw none (by_sns (is_some a.sns))
  where
    by_sns : (b : Bool) → (leb (cond b 1 2) 0 || repeats_left zs) ≡ repeats_left zs
    by_sns true = refl
    by_sns false = refl

-- ---- the pointer of the next end

no_senses : (z : ZoneData) (zs : List ZoneData) → points_at z ≡ true → senses_left (z ∷ zs) ≡ 0
no_senses z zs e = rw e refl

no_stray : (z : ZoneData) (zs : List ZoneData) → points_at z ≡ true → has_stray (z ∷ zs) ≡ false
no_stray z zs e = rw e refl

abbrev pub end_begun : PointerText → EndData
end_begun p = record { lot = p.lot; subset = p.subset; target = record { rty = p.rty; rid = p.rid }; sns = None }

-- an end with these texts and no SNS
pub is_begun : (e : EndData) (p : PointerText) → e.lot ≡ p.lot → e.subset ≡ p.subset → e.target.rty ≡ p.rty → e.target.rid ≡ p.rid → e.sns ≡ None → e ≡ end_begun p
is_begun e p lot subset rty rid sns =
    ap (λ l. (let x : EndData = record { lot = l; subset = e.subset; target = e.target; sns = e.sns } in x)) lot
    ∙ ap (λ l. (let x : EndData = record { lot = p.lot; subset = l; target = e.target; sns = e.sns } in x)) subset
    ∙ ap (λ l. (let x : EndData = record { lot = p.lot; subset = p.subset; target = record { rty = l; rid = e.target.rid }; sns = e.sns } in x)) rty
    ∙ ap (λ l. (let x : EndData = record { lot = p.lot; subset = p.subset; target = record { rty = p.rty; rid = l }; sns = e.sns } in x)) rid
    ∙ ap (λ l. (let x : EndData = record { lot = p.lot; subset = p.subset; target = record { rty = p.rty; rid = p.rid }; sns = l } in x)) sns

pub pointer_taken : (old new : KeptEnds) (p : PointerText) (z : ZoneData) (left group : List ZoneData) (text : List ℕ) → points_at z ≡ true → z.value ≡ text → Some p ≡ pointer text
    → new.is_broken ≡ old.is_broken → new.opened ≡ Some (end_begun p) → new.done ≡ old.done ++ option_to_list old.opened
    → StoresEnds old (z ∷ left) group → StoresEnds new left group
pointer_taken old new p z left group text e same read same_broken opened done h = record {
  broken = λ b. h.broken (sym same_broken ∙ b);
  made = λ b.
      ended_in (z ∷ left) group old.opened old.done new.done (sns_stops z left e) (h.made (sym same_broken ∙ b)) done
      ∙ ap (λ t. map Some new.done ++ t) (end_read z left text p e (sym same) read)
      ∙ ap (λ o. map Some new.done ++ ends_with o left) (sym opened);
  sns = λ b. h.sns (sym same_broken ∙ b) ∙ sns_over (z ∷ left) old.opened (no_senses z left e) (no_stray z left e) ∙ here ∙ ap (λ o. bad_sns_with o left) (sym opened);
}
  where
    here : repeats_left (z ∷ left) ≡ (leb 2 (senses_left left) || repeats_left left)
    here = rw e refl

-- whatever was stored, the rule is broken
pub ends_broken : (old new : KeptEnds) (zs left group : List ZoneData) → new.is_broken ≡ true → (old.is_broken ≡ false → (list_any is_none (ends group) || bad_sns_with None group) ≡ true) → StoresEnds old zs group → StoresEnds new left group
ends_broken old new zs left group broken found h = record {
  broken = λ b. by_old old.is_broken refl;
  made = λ b. let wrong : true ≡ false = sym broken ∙ b in absurd (cc);
  sns = λ b. let wrong : true ≡ false = sym broken ∙ b in absurd (cc);
}
  where
    by_old : (b : Bool) → old.is_broken ≡ b → (list_any is_none (ends group) || bad_sns_with None group) ≡ true
    by_old true e = h.broken e
    by_old false e = found e

pub no_pointer_taken : (old new : KeptEnds) (done : List EndData) (z : ZoneData) (left group : List ZoneData) (text : List ℕ) → points_at z ≡ true → z.value ≡ text → None ≡ pointer text
    → new.is_broken ≡ true → done ≡ old.done ++ option_to_list old.opened → StoresEnds old (z ∷ left) group → StoresEnds new left group
no_pointer_taken old new done z left group text e same read broken pushed h = ends_broken old new (z ∷ left) left group broken (λ b. or_left _ _ (one_missing (ends group) (ends (z ∷ left)) (ends left) done
    (ended_in (z ∷ left) group old.opened old.done done (sns_stops z left e) (h.made b) pushed)
    (no_end z left text e (sym same) read))) h

-- ---- an SNS

senses_more : (z : ZoneData) (left : List ZoneData) → has_code (codes "SNS") z ≡ true → senses_left (z ∷ left) ≡ 1 + senses_left left
senses_more z left e = rw (sense_only z e, e) refl

skips_repeat : (z : ZoneData) (zs : List ZoneData) → points_at z ≡ false → repeats_left (z ∷ zs) ≡ repeats_left zs
skips_repeat z zs e = rw e refl

pub sense_taken : (old new : KeptEnds) (o n : EndData) (z : ZoneData) (left group : List ZoneData) → has_code (codes "SNS") z ≡ true → old.opened ≡ Some o → is_some o.sns ≡ false
    → new.is_broken ≡ old.is_broken → new.done ≡ old.done → new.opened ≡ Some n → n ≡ end_with o (Some z.value)
    → StoresEnds old (z ∷ left) group → StoresEnds new left group
sense_taken old new o n z left group e was no_sense same_broken same_done is made h = record {
  broken = λ b. h.broken (sym same_broken ∙ b);
  made = λ b.
      h.made (sym same_broken ∙ b) ∙ ap (λ t. map Some old.done ++ ends_with t (z ∷ left)) was ∙ ap (λ t. map Some old.done ++ t) (here ∙ sym there)
      ∙ ap (λ t. map Some t ++ ends_with (Some n) left) (sym same_done) ∙ ap (λ t. map Some new.done ++ ends_with t left) (sym is);
  sns = λ b. h.sns (sym same_broken ∙ b) ∙ ap (λ t. bad_sns_with t (z ∷ left)) was ∙ once ∙ ap (λ t. bad_sns_with t left) (sym is);
}
  where
    here : ends_with (Some o) (z ∷ left) ≡ Some (end_with o (Some z.value)) ∷ ends left
    here =
        ap (λ s. Some (end_with o (sns_with s (z ∷ left))) ∷ ends (z ∷ left)) (none_is o.sns no_sense)
        ∙ rw (← sns_found z left (sense_only z e) e, ends_skip z left (sense_only z e)) refl

    there : ends_with (Some n) left ≡ Some (end_with o (Some z.value)) ∷ ends left
    there = ap (λ x. ends_with (Some x) left) made

    once : bad_sns_with (Some o) (z ∷ left) ≡ bad_sns_with (Some n) left
    once = rw (made, no_sense, senses_more z left e, skips_repeat z left (sense_only z e), one_more (senses_left left)) refl

sns_here : (z : ZoneData) (zs : List ZoneData) → has_code (codes "SNS") z ≡ true → has_stray (z ∷ zs) ≡ true
sns_here z zs e = rw (sense_only z e, one-add, e) refl

pub stray_sense : (old new : KeptEnds) (z : ZoneData) (left group : List ZoneData) → has_code (codes "SNS") z ≡ true → old.opened ≡ None → new.is_broken ≡ true → StoresEnds old (z ∷ left) group → StoresEnds new left group
stray_sense old new z left group e was broken h = ends_broken old new (z ∷ left) left group broken (λ b. or_right _ _ (h.sns b ∙ ap (λ o. bad_sns_with o (z ∷ left)) was ∙ or_left _ _ (sns_here z left e))) h

-- the second SNS of an end
pub second_sense : (old new : KeptEnds) (o : EndData) (z : ZoneData) (left group : List ZoneData) → has_code (codes "SNS") z ≡ true → old.opened ≡ Some o → is_some o.sns ≡ true → new.is_broken ≡ true → StoresEnds old (z ∷ left) group → StoresEnds new left group
second_sense old new o z left group e was sense broken h = ends_broken old new (z ∷ left) left group broken (λ b. or_right _ _ (h.sns b ∙ ap (λ t. bad_sns_with t (z ∷ left)) was ∙ or_left _ _ twice)) h
  where
    twice : leb (cond (is_some o.sns) 1 2) (senses_left (z ∷ left)) ≡ true
    twice = rw (sense, senses_more z left e) (grind (arith, nat_tests))

-- ---- a zone that no end takes

pub ends_pass : (a : KeptEnds) (z : ZoneData) (left group : List ZoneData) → points_at z ≡ false → has_code (codes "SNS") z ≡ false → StoresEnds a (z ∷ left) group → StoresEnds a left group
ends_pass a z left group not_end not_sense h = record {
  broken = h.broken;
  made = λ b. h.made b ∙ ap (λ t. map Some a.done ++ t) (past a.opened);
  sns = λ b. h.sns b ∙ past_sns a.opened;
}
  where
    past_one : (s : Option (List ℕ)) → sns_with s (z ∷ left) ≡ sns_with s left
    past_one (Some text) = refl
    past_one None = sym (sns_goes_on z left not_end not_sense)

    past : (o : Option EndData) → ends_with o (z ∷ left) ≡ ends_with o left
    past None = ends_skip z left not_end
    past (Some o) = ap (λ s. Some (end_with o s) ∷ ends (z ∷ left)) (past_one o.sns) ∙ ap (λ t. Some (end_with o (sns_with o.sns left)) ∷ t) (ends_skip z left not_end)

    past_sns : (o : Option EndData) → bad_sns_with o (z ∷ left) ≡ bad_sns_with o left
    past_sns None = rw (← stray_sns_goes_on z left not_end not_sense, skips_repeat z left not_end) refl
    past_sns (Some o) = rw (not_end, not_sense) refl

-- ---- all zones have come

pub ends_come : (a : KeptEnds) (done : List EndData) (group : List ZoneData) → a.is_broken ≡ false → done ≡ a.done ++ option_to_list a.opened → StoresEnds a [] group → ends group ≡ map Some done
ends_come a done group b closed h = ended_in [] group a.opened a.done done sns_none (h.made b) closed ∙ ap (λ t. map Some done ++ t) ends_end ∙ append-nil (map Some done)

pub ends_sound : (a : KeptEnds) (kind : Kind) (done : List EndData) (group : List ZoneData) → a.is_broken ≡ false → done ≡ a.done ++ option_to_list a.opened → 2 ≤ length done → kind_in group ≡ Some kind → is_link kind ≡ true → StoresEnds a [] group → has_bad_end group ≡ false
ends_sound a kind done group b closed many k link h =
    good_ends kind group done (bad_sns_with None group) k link (ends_come a done group b closed h) many refl (h.sns b ∙ sns_over [] a.opened refl refl)

pub ends_few : (a : KeptEnds) (kind : Kind) (done : List EndData) (group : List ZoneData) → a.is_broken ≡ false → done ≡ a.done ++ option_to_list a.opened → length done < 2 → kind_in group ≡ Some kind → is_link kind ≡ true → StoresEnds a [] group → has_bad_end group ≡ true
ends_few a kind done group b closed few k link h = few_ends kind group done k link (ends_come a done group b closed h) few

pub ends_bad : (a : KeptEnds) (kind : Kind) (group : List ZoneData) → a.is_broken ≡ true → kind_in group ≡ Some kind → is_link kind ≡ true → StoresEnds a [] group → has_bad_end group ≡ true
ends_bad a kind group b k link h = by_pointer (list_any is_none (ends group)) refl (h.broken b)
  where
    by_pointer : (p : Bool) → list_any is_none (ends group) ≡ p → (p || bad_sns_with None group) ≡ true → has_bad_end group ≡ true
    by_pointer true e t = bad_target kind group k link e
    by_pointer false e t = bad_sns kind group (bad_sns_with None group) k link refl t
