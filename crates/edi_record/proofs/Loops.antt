-- Steps of the loops over the zones of a record.
use Rattle.std.proofs.Common.{◌≡◌, ℕ, ◌+◌, ◌*◌, ◌^◌, ◌<◌, ◌≤◌, Bool, true, false, ◌&&◌, eqb, List, [], ◌∷◌, ◌++◌, length, get_or, drop, Some, None, codes, refl, sym, ap, ◌∙◌, arith, add-one, one-add, ltb, lt-ltb}
use Rattle.std.specs.List.{list_any}
use Rattle.std.specs.Str.{all_ascii_digits}
use Rattle.std.specs.Char.{is_ascii_digit, digit_value}
use Rattle.std.proofs.lemmas.Bool.{eqb-true, eqb-false}
use Rattle.std.proofs.lemmas.Slice.Eq.{bytes_eq-Decides}
use Rattle.std.proofs.Math.Seq.{drop-cons}
use Rattle.std.proofs.Math.ListN.{drop_of_length-le}
use Rattle.std.proofs.lemmas.List.{append_assoc, nil_from_length}
use Rattle.std.specs.Str.Parse.{digits_value_after}
use Rattle.edi_line.specs.ZoneData.{ZoneData, entry, entries, has_code}
use Rattle.edi_line.specs.declared.zone.Zone.{Zone}
use Rattle.edi_record.specs.Records.{opens, closes, points_at}
use Rattle.edi_record.specs.inner.Records.{sns_after, end_with_sense, ends, zones_placed, is_open_after, is_extra, extra}
use Rattle.edi_record.specs.Texts.{PointerText}
use Rattle.edi_record.specs.inner.Texts.{pointer, count}
use Rattle.edi_record.specs.inner.RecordRules.{kind_in, is_unknown_pointer, has_unknown_pointer, counts_right}
use Rattle.edi_record.specs.inner.Stored.{is_stray, extras_after, has_stray}
use Rattle.edi_record.specs.declared.record.Kind.{Kind}
use Rattle.edi_record.specs.declared.record.Extra.{Extra}
use Rattle.edi_record.specs.LinkEnds.{EndData}

-- ---- the zone at an index

pub next_zone : (zs : List Zone) (i : ℕ) (z : Zone) → i < length zs → z ≡ get_or zs i z → entries (drop i zs) ≡ entry z ∷ entries (drop (i + 1) zs)
next_zone zs i z below is =
    let cut : drop i zs ≡ get_or zs i z ∷ drop (i + 1) zs = rw add-one (drop-cons zs i z below) in
    ap entries cut ∙ ap (λ x. entry x ∷ entries (drop (i + 1) zs)) (sym is)

pub no_zone : (zs : List Zone) (i : ℕ) → length zs ≤ i → entries (drop i zs) ≡ []
no_zone zs i past = ap entries (drop_of_length-le zs past)

-- ---- values where no attribute is open

opens_apart : (z : ZoneData) → opens z ≡ true → closes z ≡ false
opens_apart z e = let same : z.code ≡ codes "ATP" = (bytes_eq-Decides z.code (codes "ATP")).0 e in rw same refl

pub stray_opens : (b : Bool) (z : ZoneData) (zs : List ZoneData) → opens z ≡ true → list_any is_stray (zones_placed b (z ∷ zs)) ≡ list_any is_stray (zones_placed true zs)
unfolding zones_placed
stray_opens b z zs e = rw (opens_apart z e, e) refl

pub stray_here : (b : Bool) (z : ZoneData) (zs : List ZoneData) → closes z ≡ true → b ≡ false → list_any is_stray (zones_placed b (z ∷ zs)) ≡ true
unfolding zones_placed
stray_here b z zs e f = rw (e, f) refl

pub stray_closes : (b : Bool) (z : ZoneData) (zs : List ZoneData) → opens z ≡ false → closes z ≡ true → b ≡ true → list_any is_stray (zones_placed b (z ∷ zs)) ≡ list_any is_stray (zones_placed false zs)
unfolding zones_placed
stray_closes b z zs e f g = rw (e, f, g) refl

pub stray_skips : (b : Bool) (z : ZoneData) (zs : List ZoneData) → opens z ≡ false → closes z ≡ false → list_any is_stray (zones_placed b (z ∷ zs)) ≡ list_any is_stray (zones_placed b zs)
unfolding zones_placed
stray_skips b z zs e f = rw (e, f) refl

pub stray_end : (b : Bool) → list_any is_stray (zones_placed b []) ≡ false
unfolding zones_placed
stray_end b = refl

-- ---- extras

pub extras_none : (kind : Kind) (b : Bool) → extras_after kind b [] ≡ []
unfolding zones_placed
extras_none kind b = refl

pub extras_here : (kind : Kind) (b : Bool) (z : ZoneData) (zs : List ZoneData) → is_extra kind (record { open_before = b; zone = z }) ≡ true → extras_after kind b (z ∷ zs) ≡ extra z ∷ extras_after kind (is_open_after b z) zs
unfolding zones_placed
extras_here kind b z zs e = rw e refl

pub extras_skip : (kind : Kind) (b : Bool) (z : ZoneData) (zs : List ZoneData) → is_extra kind (record { open_before = b; zone = z }) ≡ false → extras_after kind b (z ∷ zs) ≡ extras_after kind (is_open_after b z) zs
unfolding zones_placed
extras_skip kind b z zs e = rw e refl

pub extras_grow : (all found more : List Extra) (done new : List Extra) (x : Extra) → all ≡ done ++ found → found ≡ x ∷ more → new ≡ done ++ x ∷ [] → all ≡ new ++ more
extras_grow all found more done new x kept here pushed = kept ∙ ap (λ t. done ++ t) here ∙ sym (append_assoc done (x ∷ []) more) ∙ ap (λ t. t ++ more) (sym pushed)

-- ---- the SNS of ends

pub sns_none : None ≡ sns_after []
unfolding sns_after
sns_none = refl

pub sns_stops : (z : ZoneData) (zs : List ZoneData) → points_at z ≡ true → None ≡ sns_after (z ∷ zs)
unfolding sns_after
sns_stops z zs e = rw e refl

pub sns_found : (z : ZoneData) (zs : List ZoneData) → points_at z ≡ false → has_code (codes "SNS") z ≡ true → Some z.value ≡ sns_after (z ∷ zs)
unfolding sns_after
sns_found z zs e f = rw (e, f) refl

pub sns_goes_on : (z : ZoneData) (zs : List ZoneData) → points_at z ≡ false → has_code (codes "SNS") z ≡ false → sns_after zs ≡ sns_after (z ∷ zs)
unfolding sns_after
sns_goes_on z zs e f = rw (e, f) refl

pub stray_sns_goes_on : (z : ZoneData) (zs : List ZoneData) → points_at z ≡ false → has_code (codes "SNS") z ≡ false → has_stray zs ≡ has_stray (z ∷ zs)
stray_sns_goes_on z zs e f = rw (e, one-add, f) refl

-- ---- ends

pub ends_end : ends [] ≡ []
unfolding ends
ends_end = refl

pub ends_skip : (z : ZoneData) (zs : List ZoneData) → points_at z ≡ false → ends (z ∷ zs) ≡ ends zs
unfolding ends
ends_skip z zs e = rw e refl

pub ends_here : (z : ZoneData) (zs : List ZoneData) → points_at z ≡ true → ends (z ∷ zs) ≡ end_with_sense z.value (sns_after zs) ∷ ends zs
unfolding ends
ends_here z zs e = rw e refl

abbrev end_made : PointerText → List ZoneData → EndData
end_made p zs = record { lot = p.lot; subset = p.subset; target = record { rty = p.rty; rid = p.rid }; sns = sns_after zs }

pub end_read : (z : ZoneData) (zs : List ZoneData) (text : List ℕ) (p : PointerText) → points_at z ≡ true → text ≡ z.value → Some p ≡ pointer text → ends (z ∷ zs) ≡ Some (end_made p zs) ∷ ends zs
end_read z zs text p e same read =
    let found : pointer z.value ≡ Some p = ap pointer (sym same) ∙ sym read in
    ends_here z zs e ∙ rw found refl

pub no_end : (z : ZoneData) (zs : List ZoneData) (text : List ℕ) → points_at z ≡ true → text ≡ z.value → None ≡ pointer text → ends (z ∷ zs) ≡ None ∷ ends zs
no_end z zs text e same read =
    let found : pointer z.value ≡ None = ap pointer (sym same) ∙ sym read in
    ends_here z zs e ∙ rw found refl

-- ---- counts

-- the digits are all that is left of a number, and this is what it is worth with what came before them
abbrev pub comes_to : ℕ → List ℕ → ℕ → Bool
comes_to before digits number = all_ascii_digits digits && eqb (digits_value_after 10 before digits) number

more_with : (before : ℕ) (digits : List ℕ) → before ≤ digits_value_after 10 before digits
more_with before [] = omega arith
more_with before (d ∷ ds) = let more = more_with (before * 10 + digit_value d) ds in omega (arith, more)

-- a byte that is no digit, or makes the number too large
pub past : (before byte number : ℕ) (behind : List ℕ) → number < 2 ^ 64 → ((is_ascii_digit byte ≡ true) × (before * 10 + digit_value byte < 2 ^ 64) → ⊥) → comes_to before (byte ∷ behind) number ≡ false
past before byte number behind below neither = go (is_ascii_digit byte) refl (eqb (digits_value_after 10 before (byte ∷ behind)) number) refl
  where
    go : (a : Bool) → is_ascii_digit byte ≡ a → (b : Bool) → eqb (digits_value_after 10 before (byte ∷ behind)) number ≡ b → ((a && all_ascii_digits behind) && b) ≡ false
    go false e b f = refl
    go true e true f = let more = more_with (before * 10 + digit_value byte) behind in let same = eqb-true _ _ f in absurd (neither (e, omega (arith, more, same)))
    go true e false f = and_false (all_ascii_digits behind)
      where
        and_false : (c : Bool) → (c && false) ≡ false
        and_false true = refl
        and_false false = refl

pub first_apart : (rest : List ℕ) → 1 ≤ length rest → rest ≡ get_or rest 0 0 ∷ drop 1 rest
first_apart [] some = absurd (omega arith)
first_apart (x ∷ xs) some = refl

pub counts_some : (text : List ℕ) (n : ℕ) (empty : Bool) → empty ≡ eqb (length text) 0 → empty ≡ false → counts_right (text ∷ []) n ≡ comes_to 0 text n
unfolding count
counts_some text n empty is full = go (all_ascii_digits text) refl
  where
    some : ltb 0 (length text) ≡ true
    some = let no_zero = eqb-false _ _ (sym is ∙ full) in lt-ltb 0 (length text) (omega (arith, no_zero))

    go : (b : Bool) → all_ascii_digits text ≡ b → counts_right (text ∷ []) n ≡ comes_to 0 text n
    go true d = rw (some, d) refl
    go false d = rw (some, d) refl

pub counts_none : (text : List ℕ) (n : ℕ) (empty : Bool) → empty ≡ eqb (length text) 0 → empty ≡ true → false ≡ counts_right (text ∷ []) n
unfolding count
counts_none text n empty is none =
    let same : text ≡ [] = nil_from_length text (eqb-true _ _ (sym is ∙ none)) in
    rw same refl

-- ---- pointers that aren't known

pub unknown_none : (kind : Kind) (b : Bool) → list_any (is_unknown_pointer kind) (zones_placed b []) ≡ false
unfolding zones_placed
unknown_none kind b = refl

pub unknown_here : (kind : Kind) (b : Bool) (z : ZoneData) (zs : List ZoneData) → is_unknown_pointer kind (record { open_before = b; zone = z }) ≡ true → list_any (is_unknown_pointer kind) (zones_placed b (z ∷ zs)) ≡ true
unfolding zones_placed
unknown_here kind b z zs e = rw e refl

pub unknown_skip : (kind : Kind) (b : Bool) (z : ZoneData) (zs : List ZoneData) → is_unknown_pointer kind (record { open_before = b; zone = z }) ≡ false
    → list_any (is_unknown_pointer kind) (zones_placed b (z ∷ zs)) ≡ list_any (is_unknown_pointer kind) (zones_placed (is_open_after b z) zs)
unfolding zones_placed
unknown_skip kind b z zs e = rw e refl

pub unknown_in : (kind : Kind) (group : List ZoneData) → kind_in group ≡ Some kind → has_unknown_pointer group ≡ list_any (is_unknown_pointer kind) (zones_placed false group)
unknown_in kind group e = rw e refl
