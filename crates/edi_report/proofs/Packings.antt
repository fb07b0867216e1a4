-- Numbers and sites, packed and unpacked.
use Rattle.std.proofs.Common.{◌≡◌, ℕ, suc, ◌+◌, ◌-◌, ◌/◌, ◌%◌, ◌^◌, ◌<◌, ◌≤◌, ◌⊎◌, inl, inr, List, [], ◌∷◌, ◌++◌, length, get_or, take, drop, refl, sym, ap, ◌∙◌, subst, append_assoc, length-drop, drop-cons, add-one, arith}
use Rattle.std.proofs.lemmas.Bool.{cases_lt}
use Rattle.std.proofs.lemmas.List.{take_all, drop_all, take-append-drop, append-nil}
use Rattle.edi_report.specs.inner.PackedSites.{IsPackingOf, site_in}
use Rattle.edi_report.specs.inner.Packing.{packed_number, ArePacked, IsPackedSite, last_of, start}
use Rattle.edi_report.specs.declared.packed.Packing.{Packing}
use Rattle.edi_report.specs.declared.site.Site.{Site}

-- ---- numbers

pub packed_small : (n : ℕ) → n < 255 → packed_number n ≡ n ∷ []
unfolding packed_number
packed_small n h =
    let none : n / 255 ≡ 0 = omega arith in
    let same : n % 255 ≡ n = omega arith in
    rw (none, same) refl

packed_more : (n : ℕ) → packed_number (n + 255) ≡ 255 ∷ packed_number n
unfolding packed_number
packed_more n =
    let times : (n + 255) / 255 ≡ suc (n / 255) = omega arith in
    let left : (n + 255) % 255 ≡ n % 255 = omega arith in
    rw (times, left) refl

packed_large : (n : ℕ) → 255 ≤ n → packed_number n ≡ 255 ∷ packed_number (n - 255)
packed_large n h =
    let same : n ≡ (n - 255) + 255 = omega arith in
    ap packed_number same ∙ packed_more (n - 255)

-- 255 is put behind the bytes
pub packed_pushed : (bytes : List ℕ) (n : ℕ) → 255 ≤ n → (bytes ++ 255 ∷ []) ++ packed_number (n - 255) ≡ bytes ++ packed_number n
packed_pushed bytes n h = append_assoc bytes (255 ∷ []) (packed_number (n - 255)) ∙ ap (λ xs. bytes ++ xs) (sym (packed_large n h))

-- a byte below 255 ends a number
packed_last : (n byte : ℕ) (behind rest : List ℕ) → byte ∷ behind ≡ packed_number n ++ rest → byte < 255 → (byte ≡ n) × (behind ≡ rest)
packed_last n byte behind rest is small = go (cases_lt n 255)
  where
    go : (n < 255) ⊎ (255 ≤ n) → (byte ≡ n) × (behind ≡ rest)
    go (inl less) = let e = is ∙ ap (λ xs. xs ++ rest) (packed_small n less) in (cc, cc)
    go (inr more) =
        let e = is ∙ ap (λ xs. xs ++ rest) (packed_large n more) in
        let first : byte ≡ 255 = cc in
        absurd (omega arith)

-- a larger one is a part of a number
packed_next : (n byte : ℕ) (behind rest : List ℕ) → byte ∷ behind ≡ packed_number n ++ rest → 255 ≤ byte → (byte ≡ 255) × (255 ≤ n) × (behind ≡ packed_number (n - 255) ++ rest)
packed_next n byte behind rest is large = go (cases_lt n 255)
  where
    go : (n < 255) ⊎ (255 ≤ n) → (byte ≡ 255) × (255 ≤ n) × (behind ≡ packed_number (n - 255) ++ rest)
    go (inl less) =
        let e = is ∙ ap (λ xs. xs ++ rest) (packed_small n less) in
        let first : byte ≡ n = cc in
        absurd (omega arith)
    go (inr more) = let e = is ∙ ap (λ xs. xs ++ rest) (packed_large n more) in (cc, more, cc)

-- a number takes a byte at least
packed_some : (n : ℕ) (rest : List ℕ) → [] ≡ packed_number n ++ rest → ⊥
packed_some n rest is = go (cases_lt n 255)
  where
    go : (n < 255) ⊎ (255 ≤ n) → ⊥
    go (inl less) = let e = is ∙ ap (λ xs. xs ++ rest) (packed_small n less) in cc
    go (inr more) = let e = is ∙ ap (λ xs. xs ++ rest) (packed_large n more) in cc

-- the byte at this place, where part of a number is left to be read
module _ (bytes : List ℕ) (i left : ℕ) (rest : List ℕ) (within : i < length bytes) (is : drop i bytes ≡ packed_number left ++ rest) where
  cut : get_or bytes i 0 ∷ drop (i + 1) bytes ≡ packed_number left ++ rest
  cut = ap (λ k. get_or bytes i 0 ∷ drop k bytes) (add-one i) ∙ (sym (drop-cons bytes i 0 within) ∙ is)

  pub read_last : get_or bytes i 0 < 255 → (get_or bytes i 0 ≡ left) × (take (length bytes - (i + 1)) (drop (i + 1) bytes) ≡ rest)
  read_last small =
      let last = packed_last left (get_or bytes i 0) (drop (i + 1) bytes) rest cut small in
      (last.0, take_all (length bytes - (i + 1)) (drop (i + 1) bytes) (omega (arith, length-drop (i + 1) bytes)) ∙ last.1)

  pub read_next : 255 ≤ get_or bytes i 0 → (get_or bytes i 0 ≡ 255) × (255 ≤ left) × (drop (i + 1) bytes ≡ packed_number (left - 255) ++ rest)
  read_next = packed_next left (get_or bytes i 0) (drop (i + 1) bytes) rest cut

-- the bytes do not end within a number
pub read_none : (bytes : List ℕ) (i left : ℕ) (rest : List ℕ) → length bytes ≤ i → drop i bytes ≡ packed_number left ++ rest → ⊥
read_none bytes i left rest none is = packed_some left rest (sym (drop_all i bytes none) ∙ is)

-- ---- packing

line_reached : (before line : ℕ) → before < 2 ^ 64 → line < 2 ^ 64 → line ≡ (before + (line + (2 ^ 64 - before)) % 2 ^ 64) % 2 ^ 64
line_reached before line h k = omega arith

pub same_site : (site : Site) (line : ℕ) (rid : List ℕ) → line ≡ site.line → rid ≡ site.rid → let s : Site = record { line = line; rid = rid } in s ≡ site
same_site site line rid e f = ap (λ (l : ℕ). let s : Site = record { line = l; rid = rid } in s) e ∙ ap (λ (r : List ℕ). let s : Site = record { line = site.line; rid = r } in s) f

-- the bytes of a site behind the last one
module _ (last : Site) (line : ℕ) (rid : List ℕ) (kept : ℕ) (new : List ℕ) (cut : new ≡ drop kept rid) (before_fits : last.line < 2 ^ 64) (line_fits : line < 2 ^ 64) (short : length rid < 2 ^ 64)
    (within : kept ≤ length rid) (shared : take kept last.rid ≡ take kept rid) where
  abbrev pub next : Site
  next = record { line = line; rid = rid }

  abbrev pub ahead : ℕ
  ahead = (line + (2 ^ 64 - last.line)) % 2 ^ 64

  abbrev pub step : List ℕ
  step = packed_number ahead ++ (packed_number kept ++ (packed_number (length new) ++ (new ++ [])))

  pub rid_made : take kept last.rid ++ new ≡ rid
  rid_made = ap (λ xs. xs ++ new) shared ∙ (ap (λ xs. take kept rid ++ xs) cut ∙ take-append-drop kept rid)

  pub is_step : IsPackedSite last next step []
  is_step = record {
    ahead = ahead;
    kept = kept;
    new = new;
    is_ahead = omega arith;
    is_kept = omega arith;
    is_new = omega (arith, ap length cut, length-drop kept rid);
    line = line_reached last.line line before_fits line_fits;
    rid = sym rid_made;
    bytes_are = refl;
  }

  pub step_put : (bytes : List ℕ) → (((bytes ++ packed_number ahead) ++ packed_number kept) ++ packed_number (length new)) ++ new ≡ bytes ++ step
  step_put bytes = simp (append_assoc, append-nil) refl

-- more bytes come behind those of a site
more_behind : (before site : Site) (bytes rest more : List ℕ) → IsPackedSite before site bytes rest → IsPackedSite before site (bytes ++ more) (rest ++ more)
more_behind before site bytes rest more is = record {
  ahead = is.ahead;
  kept = is.kept;
  new = is.new;
  is_ahead = is.is_ahead;
  is_kept = is.is_kept;
  is_new = is.is_new;
  line = is.line;
  rid = is.rid;
  bytes_are = ap (λ (xs : List ℕ). xs ++ more) is.bytes_are ∙ simp append_assoc refl;
}

packed_push : (before : Site) (sites : List Site) (bytes : List ℕ) (site : Site) (more : List ℕ) → ArePacked before sites bytes → IsPackedSite (last_of before sites) site more []
    → ArePacked before (sites ++ site ∷ []) (bytes ++ more)
packed_push before [] bytes site more none is = ([], subst (λ (xs : List ℕ). IsPackedSite before site (xs ++ more) []) (sym none) is, refl)
packed_push before (first ∷ sites) bytes site more are is = (are.0 ++ more, more_behind before first bytes are.0 more are.1, packed_push first sites are.0 site more are.2 is)

last_pushed : (before : Site) (sites : List Site) (site : Site) → last_of before (sites ++ site ∷ []) ≡ site
last_pushed before [] site = refl
last_pushed before (first ∷ sites) site = last_pushed first sites site

pub packing_pushed : (packed after : Packing) (sites : List Site) (site : Site) (step : List ℕ) → IsPackingOf packed sites → IsPackedSite (site_in packed.last) site step []
    → after.bytes.items ≡ packed.bytes.items ++ step → site_in after.last ≡ site → IsPackingOf after (sites ++ site ∷ [])
packing_pushed packed after sites site step is more bytes last = record {
  sites_are = subst (ArePacked start (sites ++ site ∷ [])) (sym bytes)
      (packed_push start sites packed.bytes.items site step is.sites_are (subst (λ (before : Site). IsPackedSite before site step []) is.last_is more));
  last_is = last ∙ sym (last_pushed start sites site);
}

-- ---- unpacking

-- no bytes are those of no sites
pub none_left : (last : Site) (left : List Site) (bytes : List ℕ) → ArePacked last left bytes → length bytes ≡ 0 → left ≡ []
none_left last [] bytes are none = refl
none_left last (site ∷ left) [] are none = absurd (packed_some are.1.ahead _ are.1.bytes_are)
none_left last (site ∷ left) (byte ∷ bytes) are none = absurd (omega (arith, none))

-- the next site is unpacked
pub site_unpacked : (last : Site) (left done sites : List Site) (bytes behind : List ℕ) (now : Site) → ArePacked last left bytes → 0 < length bytes → sites ≡ done ++ left
    → ((site : Site) (rest : List ℕ) → IsPackedSite last site bytes rest → (now ≡ site) × (behind ≡ rest))
    → (more : List Site) × (sites ≡ (done ++ now ∷ []) ++ more) × ArePacked now more behind
site_unpacked last [] done sites bytes behind now are some so_far gone = absurd (omega (arith, ap length are))
site_unpacked last (site ∷ left) done sites bytes behind now are some so_far gone =
    let there = gone site are.0 are.1 in (
      left,
      so_far ∙ (ap (λ (s : Site). done ++ s ∷ left) (sym there.0) ∙ sym (append_assoc done (now ∷ []) left)),
      subst (λ (s : Site). ArePacked s left behind) (sym there.0) (subst (ArePacked site left) (sym there.1) are.2),
    )
