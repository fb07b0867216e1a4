-- Printed zones break no rule of lines.
use Rattle.std.proofs.Common.{◌≡◌, codes, ℕ, ◌+◌, ◌<◌, ◌≤◌, Bool, true, false, ◌||◌, Option, Some, None, List, [], ◌∷◌, ◌++◌, map, length, flat_map, option_to_list, IfSome, refl, sym, ap, ◌∙◌, subst, inl, inr, arith}
use Rattle.std.specs.List.{AllByRecursion}
use Rattle.std.proofs.lemmas.Bool.{both_ways, ne_eqb}
use Rattle.std.proofs.lemmas.List.{append_assoc, append-nil}
use Rattle.edi_line.specs.ZoneData.{ZoneData}
use Rattle.edi_line.specs.Spelling.{Reading}
use Rattle.edi_line.specs.Zones.{IsGroup, IsFileOf}
use Rattle.edi_line.specs.inner.Zones.{readings_of}
use Rattle.edi_line.specs.LineKinds.{is_inner}
use Rattle.edi_line.specs.inner.Kinds.{kind_of, is_inner_kind, is_zone_kind}
use Rattle.edi_line.specs.LineRules.{BreaksIn, BreaksLineRule}
use Rattle.edi_line.specs.Refusal.{IsUnbroken}
use Rattle.edi_line.specs.Printing.{with_value, lines_of_zone, printed, IsPrintable}
use Rattle.edi_line.specs.inner.Held.{rule_of, rule_of_kind, noted, noted_kind}
use Rattle.edi_line.specs.Feeding.{seen_in}
use Rattle.edi_line.specs.declared.order.ZoneKind.{ZoneKind}
use Rattle.edi_line.specs.declared.order.ZoneKind.TheVariants.{Bom, Cse, Rty, Eom, Next, Remark, Other}
use Rattle.edi_line.specs.declared.order.Order.{Order}
use Rattle.edi_line.proofs.Readings.{rule_read}
use Rattle.edi_line.proofs.Rules.{noted_seen, no_rule_broken, no_cut_of_none}
use Rattle.edi_line.proofs.KindsSaid.{zone_same, inner_same}
use Rattle.edi_line.proofs.Printed.{said, zone_readings, lines_broken}
use Rattle.edi_line.proofs.Truths.{or_false, or_true}

-- these lines break no rule where this has been seen, and then this is seen
abbrev Runs : Order → List Reading → Order → Type 0
Runs seen [] last = seen ≡ last
Runs seen (line ∷ lines) last = (rule_of seen line ≡ None) × Runs (noted seen line) lines last

joined : (seen middle last : Order) (xs ys : List Reading) → Runs seen xs middle → Runs middle ys last → Runs seen (xs ++ ys) last
joined seen middle last [] ys a b = subst (λ o. Runs o ys last) (sym a) b
joined seen middle last (x ∷ xs) ys a b = (a.0, joined (noted seen x) middle last xs ys a.1 b)

-- what has been seen of a sheet: the records so far, and whether an end
abbrev in_file : Bool → Bool → Bool → ℕ → Order
in_file cse rty eom records = record { started = true; begun = true; bom = true; cse = cse; rty = rty; eom = eom; records = records }

-- NEX lines change nothing
next_runs : (cse rty eom : Bool) (records : ℕ) (ws : List ZoneData) → AllByRecursion (λ w. kind_of w.code ≡ Next) ws → Runs (in_file cse rty eom records) (map said ws) (in_file cse rty eom records)
next_runs cse rty eom records [] h = refl
next_runs cse rty eom records (w ∷ ws) h =
    let same : noted (in_file cse rty eom records) (said w) ≡ in_file cse rty eom records = rw (h.0) (kept cse rty eom records) in
    (rw (h.0) refl, subst (λ o. Runs o (map said ws) (in_file cse rty eom records)) (sym same) (next_runs cse rty eom records ws h.1))
  where
    same_bool : (b : Bool) → (b || false) ≡ b
    same_bool true = refl
    same_bool false = refl

    kept : (c r e : Bool) (n : ℕ) → noted_kind (in_file c r e n) Next ≡ in_file c r e n
    kept c r e n =
        ap (λ x. in_file x (r || false) (e || false) (n + 0)) (same_bool c)
        ∙ ap (λ x. in_file c x (e || false) (n + 0)) (same_bool r)
        ∙ ap (λ x. in_file c r x (n + 0)) (same_bool e)
        ∙ ap (λ x. in_file c r e x) (omega arith)

-- the lines of a zone, whose kind breaks no rule and is noted so
zone_runs : (z : ZoneData) → IsPrintable z → (seen : Order) (cse rty eom : Bool) (records : ℕ) → rule_of_kind seen (kind_of z.code) ≡ None → noted_kind seen (kind_of z.code) ≡ in_file cse rty eom records
    → Runs seen (map said (lines_of_zone z)) (in_file cse rty eom records)
zone_runs z p seen cse rty eom records none note =
    let b = lines_broken z p in
    let w = with_value b.value z in
    subst (λ zs. Runs seen (map said zs) (in_file cse rty eom records)) (sym b.lines)
    (none, subst (λ o. Runs o (map said b.rest) (in_file cse rty eom records)) (sym note) (next_runs cse rty eom records b.rest b.next))

step_runs : (z : ZoneData) (zs : List ZoneData) → IsPrintable z → (seen last : Order) (cse rty eom : Bool) (records : ℕ) → rule_of_kind seen (kind_of z.code) ≡ None → noted_kind seen (kind_of z.code) ≡ in_file cse rty eom records
    → Runs (in_file cse rty eom records) (readings_of (printed zs)) last → Runs seen (readings_of (printed (z ∷ zs))) last
step_runs z zs p seen last cse rty eom records none note more =
    subst (λ rs. Runs seen rs last) (sym (zone_readings z (printed zs) p))
    (joined seen (in_file cse rty eom records) last (map said (lines_of_zone z)) (readings_of (printed zs)) (zone_runs z p seen cse rty eom records none note) more)

abbrev ArePrintable : List ZoneData → Type 0
ArePrintable zs = AllByRecursion IsPrintable zs

-- a zone within a group has no code of its own
only_other : (kind : ZoneKind) → is_zone_kind kind ≡ true → is_inner_kind kind ≡ true → kind ≡ Other
only_other Bom zone inner = cc
only_other Cse zone inner = cc
only_other Rty zone inner = cc
only_other Eom zone inner = cc
only_other Next zone inner = cc
only_other Remark zone inner = cc
only_other Other zone inner = refl

-- the other zones of a record
others_run : (zs rest : List ZoneData) (cse : Bool) (records : ℕ) (last : Order) → ArePrintable zs → AllByRecursion (λ z. is_inner z.code ≡ true) zs
    → Runs (in_file cse true false records) (readings_of (printed rest)) last → Runs (in_file cse true false records) (readings_of (printed (zs ++ rest))) last
others_run [] rest cse records last p h more = more
others_run (z ∷ zs) rest cse records last p h more =
    let other : kind_of z.code ≡ Other = only_other (kind_of z.code) (sym (zone_same z.code) ∙ p.0.zone) (sym (inner_same z.code) ∙ h.0) in
    step_runs z (zs ++ rest) p.0 (in_file cse true false records) last cse true false records (rw other refl)
    (rw other (ap (λ x. in_file x true false (records + 0)) (or_false cse) ∙ ap (λ n. in_file cse true false n) (let e : records + 0 ≡ records = omega arith in e)))
    (others_run zs rest cse records last p.1 h.1 more)

few_records : (n : ℕ) (rty cse eom : Bool) → n < 9999999 → rule_of_kind (in_file cse rty false n) Rty ≡ None
few_records n rty cse eom h = rw (ne_eqb n 9999999 (λ e. omega arith)) refl

rty_noted : (cse rty : Bool) (n : ℕ) → noted_kind (in_file cse rty false n) Rty ≡ in_file cse true false (n + 1)
rty_noted cse rty n = ap (λ x. in_file x (rty || true) false (n + 1)) (or_false cse) ∙ ap (λ x. in_file cse x false (n + 1)) (or_true rty)

eom_noted : (cse rty : Bool) (n : ℕ) → noted_kind (in_file cse rty false n) Eom ≡ in_file cse rty true n
eom_noted cse rty n = ap (λ x. in_file x (rty || false) true (n + 0)) (or_false cse) ∙ ap (λ x. in_file cse x true (n + 0)) (or_false rty) ∙ ap (λ x. in_file cse rty true x) (let e : n + 0 ≡ n = omega arith in e)

-- the printable zones of lists
printable_left : (xs ys : List ZoneData) → ArePrintable (xs ++ ys) → ArePrintable xs
printable_left [] ys h = tt
printable_left (x ∷ xs) ys h = (h.0, printable_left xs ys h.1)

printable_right : (xs ys : List ZoneData) → ArePrintable (xs ++ ys) → ArePrintable ys
printable_right [] ys h = h
printable_right (x ∷ xs) ys h = printable_right xs ys h.1

-- what is seen at the end
record Ends (seen : Order) (lines : List Reading) : Type 0 where
  last : Order
  runs : Runs seen lines last
  eom : last.eom ≡ true

groups_run : (gs : List (List ZoneData)) (tail : ZoneData) (cse rty : Bool) (n : ℕ) → ArePrintable (flat_map (λ g. g) gs ++ tail ∷ []) → AllByRecursion IsGroup gs → tail.code ≡ codes "EOM" → n + length gs ≤ 9999999
    → Ends (in_file cse rty false n) (readings_of (printed (flat_map (λ g. g) gs ++ tail ∷ [])))
groups_run [] tail cse rty n p h e few = record {
  last = in_file cse rty true n;
  runs = step_runs tail [] p.0 (in_file cse rty false n) (in_file cse rty true n) cse rty true n (rw e refl) (rw e (eom_noted cse rty n)) refl;
  eom = refl;
}
groups_run (g ∷ gs) tail cse rty n p h e few =
    let f = h.0 in
    let rest = flat_map (λ x. x) gs ++ tail ∷ [] in
    let whole : flat_map (λ x. x) (g ∷ gs) ++ tail ∷ [] ≡ f.first ∷ (f.rest ++ rest) = append_assoc g (flat_map (λ x. x) gs) (tail ∷ []) ∙ ap (λ t. t ++ rest) f.joined in
    let all : ArePrintable (f.first ∷ (f.rest ++ rest)) = subst ArePrintable whole p in
    let more = groups_run gs tail cse true (n + 1) (printable_right f.rest rest all.1) h.1 e (omega (arith, few)) in
    record {
      last = more.last;
      runs = subst (λ t. Runs (in_file cse rty false n) (readings_of (printed t)) more.last) (sym whole)
          (step_runs f.first (f.rest ++ rest) all.0 (in_file cse rty false n) more.last cse true false (n + 1) (rw (f.leads) (few_records n rty cse false (omega (arith, few)))) (rw (f.leads) (rty_noted cse rty n))
          (others_run f.rest rest cse (n + 1) more.last (printable_left f.rest rest all.1) f.others more.runs));
      eom = more.eom;
    }

charset_runs : (charset : Option ZoneData) (zs : List ZoneData) → IfSome charset (λ z. z.code ≡ codes "CSE") → ArePrintable (option_to_list charset ++ zs)
    → ((cse : Bool) → Ends (in_file cse false false 0) (readings_of (printed zs))) → Ends (in_file false false false 0) (readings_of (printed (option_to_list charset ++ zs)))
charset_runs None zs h p more = more false
charset_runs (Some z) zs h p more =
    let m = more true in
    record { last = m.last; runs = step_runs z zs p.0 (in_file false false false 0) m.last true false false 0 (rw h refl) (rw h refl) m.runs; eom = m.eom }

file_runs : (zones : List ZoneData) (charset : Option ZoneData) (groups : List (List ZoneData)) → IsFileOf zones charset groups → ArePrintable zones → length groups ≤ 9999999 → Ends (seen_in []) (readings_of (printed zones))
file_runs zones charset groups f p few =
    let body = flat_map (λ g. g) groups ++ f.tail ∷ [] in
    let all : ArePrintable (f.head ∷ (option_to_list charset ++ body)) = subst ArePrintable f.joined p in
    let back = printable_right (option_to_list charset) body all.1 in
    let m = charset_runs charset body f.charset_is all.1 (λ cse. groups_run groups f.tail cse false 0 back f.groups_are f.tail_is (omega (arith, few))) in
    record {
      last = m.last;
      runs = subst (λ t. Runs (seen_in []) (readings_of (printed t)) m.last) (sym f.joined)
          (step_runs f.head (option_to_list charset ++ body) all.0 (seen_in []) m.last false false false 0 (rw (f.head_is) refl) (rw (f.head_is) refl) m.runs);
      eom = m.eom;
    }

-- ---- what runs breaks nothing

sound_from : (done lines : List Reading) (last : Order) → Runs (seen_in done) lines last → (before : List Reading) (line : Reading) (after : List Reading) → lines ≡ before ++ line ∷ after → rule_of (seen_in (done ++ before)) line ≡ None
sound_from done [] last run before line after e = absurd (no_cut_of_none before line after e)
sound_from done (x ∷ xs) last run [] line after e =
    let same : x ≡ line = cc in
    ap (λ d. rule_of (seen_in d) line) (append-nil done) ∙ ap (λ y. rule_of (seen_in done) y) (sym same) ∙ run.0
sound_from done (x ∷ xs) last run (b ∷ before) line after e =
    let same : x ≡ b = cc in
    let rest : xs ≡ before ++ line ∷ after = cc in
    ap (λ d. rule_of (seen_in d) line) (ap (λ y. done ++ y ∷ before) (sym same) ∙ sym (append_assoc done (x ∷ []) before))
    ∙ sound_from (done ++ x ∷ []) xs last (subst (λ o. Runs o xs last) (noted_seen done x) run.1) before line after rest

all_seen : (done lines : List Reading) (last : Order) → Runs (seen_in done) lines last → last ≡ seen_in (done ++ lines)
all_seen done [] last run = sym run ∙ ap seen_in (sym (append-nil done))
all_seen done (x ∷ xs) last run = all_seen (done ++ x ∷ []) xs last (subst (λ o. Runs o xs last) (noted_seen done x) run.1) ∙ ap seen_in (append_assoc done (x ∷ []) xs)

pub printed_unbroken : (zones : List ZoneData) (charset : Option ZoneData) (groups : List (List ZoneData)) → IsFileOf zones charset groups → AllByRecursion IsPrintable zones → length groups ≤ 9999999 → IsUnbroken (BreaksLineRule (printed zones))
printed_unbroken zones charset groups f p few rule place broken = along (rule_read (printed zones) rule place broken)
  where
    along : BreaksIn (readings_of (printed zones)) rule place → ⊥
    along (inl b) =
        let run = file_runs zones charset groups f p few in
        no_rule_broken b.before b.line (sound_from [] (readings_of (printed zones)) run.last run.runs b.before b.line b.after b.cut) rule b.breaks
    along (inr l) =
        let run = file_runs zones charset groups f p few in
        let seen = all_seen [] (readings_of (printed zones)) run.last run.runs in
        both_ways _ l.2 (ap (λ o. o.eom) (sym seen) ∙ run.eom)
