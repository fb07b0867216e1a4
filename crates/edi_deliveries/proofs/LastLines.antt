-- What equal last lines say of deliveries.
use Rattle.std.proofs.Common.{◌≡◌, ◌≢◌, ◌⊎◌, ◌∙◌, ℕ, Bool, true, false, List, [], ◌∷◌, ap, arith, inl, inr, refl, subst, sym}
use Rattle.std.specs.Prelude.{IsPermutation}
use Rattle.std.specs.List.{AllByRecursion, AllZip}
use Rattle.std.specs.Str.{bytes_eq}
use Rattle.std.proofs.lemmas.Bool.{false≢true}
use Rattle.std.proofs.lemmas.List.Sorted.{IsPermutation-sym}
use Rattle.std.proofs.lemmas.Slice.Eq.{bytes_eq-Decides}
use Rattle.edi_line.proofs.EachElement.{each_in_any_order}
use Rattle.sha2.specs.Sha256.{sha256}
use Rattle.edi_compare.specs.Headline.{IsFormOf}
use Rattle.edi_manifest.specs.Laws.{LastLinesTellManifests, ManifestsTellLastLines}
use Rattle.edi_manifest.specs.ManifestText.{manifest_body}
use Rattle.edi_manifest.specs.declared.line.Digested.{Digested}
use Rattle.edi_manifest.specs.declared.line.Digested.TheVariants.{Schema, Sheet, Coordinates}
use Rattle.edi_manifest.specs.declared.line.ManifestLine.{ManifestLine}
use Rattle.edi_schema_meaning.specs.Laws.{OneAnswerOneText, OneTextOneAnswer}
use Rattle.edi_deliveries.specs.Digests.{Archived, HasDigest, of_bytes, of_schema, of_sheet}
use Rattle.edi_deliveries.specs.LastLines.{ArePartnerParts, IsLineOfPart, IsOfFiles, NamedPart, OneLastLineSameDeliveries, SameDeliveriesOneLastLine, SayTheSame, TwoTextsOneDigest, digested_part}
use Rattle.edi_deliveries.proofs.Zips.{zip_moved}

-- two texts are one or not
pub one_or_not : (c d : List ℕ) (b : Bool) → bytes_eq c d ≡ b → (c ≡ d) ⊎ (c ≢ d)
one_or_not c d true is = inl ((bytes_eq-Decides c d).0 is)
one_or_not c d false is = inr (λ e. absurd (false≢true (sym is ∙ (bytes_eq-Decides c d).1 e)))

abbrev number : Digested → ℕ
number Schema = 0
number Sheet = 1
number Coordinates = 2

-- a sheet has one canonical file
one_form : (s : _) (b c d : List ℕ) → IsFormOf s b c → IsFormOf s b d → c ≡ d
one_form s b c d h k = (k.only c h.canonical).0 h.same

module _ (one_text : OneTextOneAnswer) (one_answer : OneAnswerOneText) where
  -- parts with one digest say the same
  same_part : (p q : Archived) (x : List ℕ) → digested_part p ≡ digested_part q → IsOfFiles p → IsOfFiles q → HasDigest p x → HasDigest q x
      → SayTheSame p q ⊎ TwoTextsOneDigest
  same_part (of_schema s) (of_schema t) x kind f g h k = elim (one_or_not h.0 k.0 (bytes_eq h.0 k.0) refl) [
    | inl e ↦ inl (one_text s t f.0 g.0 (sym h.1 ∙ (e ∙ k.1)))
    | inr n ↦ inr (h.0, k.0, n, sym h.2 ∙ k.2)
  ]
  same_part (of_sheet s a) (of_sheet t b) x kind f g h k = elim (one_or_not h.0 k.0 (bytes_eq h.0 k.0) refl) [
    | inl e ↦ inl (h.0, h.1, subst (IsFormOf t b) (sym e) k.1)
    | inr n ↦ inr (h.0, k.0, n, sym h.2 ∙ k.2)
  ]
  same_part (of_bytes a) (of_bytes b) x kind f g h k = elim (one_or_not h.0 k.0 (bytes_eq h.0 k.0) refl) [
    | inl e ↦ inl (sym h.1 ∙ (e ∙ k.1))
    | inr n ↦ inr (h.0, k.0, n, sym h.2 ∙ k.2)
  ]
  same_part (of_schema s) (of_sheet t b) x kind f g h k = absurd (omega (arith, ap number kind))
  same_part (of_schema s) (of_bytes b) x kind f g h k = absurd (omega (arith, ap number kind))
  same_part (of_sheet s a) (of_schema t) x kind f g h k = absurd (omega (arith, ap number kind))
  same_part (of_sheet s a) (of_bytes b) x kind f g h k = absurd (omega (arith, ap number kind))
  same_part (of_bytes a) (of_schema t) x kind f g h k = absurd (omega (arith, ap number kind))
  same_part (of_bytes a) (of_sheet t b) x kind f g h k = absurd (omega (arith, ap number kind))

  -- parts that say the same have one digest
  one_digest : (p q : Archived) (x y : List ℕ) → SayTheSame p q → IsOfFiles p → IsOfFiles q → HasDigest p x → HasDigest q y → x ≡ y
  one_digest (of_schema s) (of_schema t) x y same f g h k =
      h.2 ∙ (ap sha256 (h.1 ∙ (one_answer s t f.0 g.0 f.1 same ∙ sym k.1)) ∙ sym k.2)
  one_digest (of_sheet s a) (of_sheet t b) x y same f g h k =
      h.2 ∙ (ap sha256 (one_form s a h.0 same.0 h.1 same.1 ∙ sym (one_form t b k.0 same.0 k.1 same.2)) ∙ sym k.2)
  one_digest (of_bytes a) (of_bytes b) x y same f g h k = h.2 ∙ (ap sha256 (h.1 ∙ (same ∙ sym k.1)) ∙ sym k.2)
  one_digest (of_schema s) (of_sheet t b) x y same f g h k = absurd same
  one_digest (of_schema s) (of_bytes b) x y same f g h k = absurd same
  one_digest (of_sheet s a) (of_schema t) x y same f g h k = absurd same
  one_digest (of_sheet s a) (of_bytes b) x y same f g h k = absurd same
  one_digest (of_bytes a) (of_schema t) x y same f g h k = absurd same
  one_digest (of_bytes a) (of_sheet t b) x y same f g h k = absurd same

  -- and their digests are of the same
  one_kind : (p q : Archived) → SayTheSame p q → digested_part p ≡ digested_part q
  one_kind (of_schema s) (of_schema t) same = refl
  one_kind (of_sheet s a) (of_sheet t b) same = refl
  one_kind (of_bytes a) (of_bytes b) same = refl
  one_kind (of_schema s) (of_sheet t b) same = absurd same
  one_kind (of_schema s) (of_bytes b) same = absurd same
  one_kind (of_sheet s a) (of_schema t) same = absurd same
  one_kind (of_sheet s a) (of_bytes b) same = absurd same
  one_kind (of_bytes a) (of_schema t) same = absurd same
  one_kind (of_bytes a) (of_sheet t b) same = absurd same

  abbrev AllOfFiles : List NamedPart → Type 0
  AllOfFiles ps = AllByRecursion (λ (p : NamedPart). IsOfFiles p.part) ps

  -- the parts of one line are partners
  partners : (l : ManifestLine) (p q : NamedPart) → IsLineOfPart l p → IsLineOfPart l q → IsOfFiles p.part → IsOfFiles q.part → ArePartnerParts p q ⊎ TwoTextsOneDigest
  partners l p q h k f g = elim (same_part p.part q.part l.digest (sym h.digested ∙ k.digested) f g h.digest k.digest) [
    | inl same ↦ inl (sym h.name ∙ k.name, same)
    | inr two ↦ inr two
  ]

  all_partners : (lines : List ManifestLine) (ps qs : List NamedPart) → AllZip IsLineOfPart lines ps → AllZip IsLineOfPart lines qs → AllOfFiles ps → AllOfFiles qs
      → AllZip ArePartnerParts ps qs ⊎ TwoTextsOneDigest
  all_partners [] [] [] h k f g = inl tt
  all_partners (l ∷ ls) (p ∷ ps) (q ∷ qs) h k f g = elim (partners l p q h.0 k.0 f.0 g.0) [
    | inl one ↦ elim (all_partners ls ps qs h.1 k.1 f.1 g.1) [
      | inl rest ↦ inl (one, rest)
      | inr two ↦ inr two
    ]
    | inr two ↦ inr two
  ]
  all_partners [] (p ∷ ps) qs h k f g = absurd h
  all_partners [] [] (q ∷ qs) h k f g = absurd k
  all_partners (l ∷ ls) [] qs h k f g = absurd h
  all_partners (l ∷ ls) (p ∷ ps) [] h k f g = absurd k

  abbrev line_of : List ℕ → Digested → List ℕ → ManifestLine
  line_of n d x = record { name = n; digested = d; digest = x }

  -- partners have one line
  one_line : (l m : ManifestLine) (p q : NamedPart) → IsLineOfPart l p → IsLineOfPart m q → ArePartnerParts p q → IsOfFiles p.part → IsOfFiles q.part → l ≡ m
  one_line l m p q h k same f g =
      let name : l.name ≡ m.name = h.name ∙ (same.0 ∙ sym k.name) in
      let kind : l.digested ≡ m.digested = h.digested ∙ (one_kind p.part q.part same.1 ∙ sym k.digested) in
      let digest : l.digest ≡ m.digest = one_digest p.part q.part l.digest m.digest same.1 f g h.digest k.digest in
      ap (λ n. line_of n l.digested l.digest) name ∙ (ap (λ d. line_of m.name d l.digest) kind ∙ ap (λ x. line_of m.name m.digested x) digest)

  one_list : (lines others : List ManifestLine) (ps qs : List NamedPart) → AllZip IsLineOfPart lines ps → AllZip (λ (q : NamedPart) (m : ManifestLine). IsLineOfPart m q) qs others → AllZip ArePartnerParts ps qs
      → AllOfFiles ps → AllOfFiles qs → lines ≡ others
  one_list [] [] [] [] h k same f g = refl
  one_list (l ∷ ls) (m ∷ ms) (p ∷ ps) (q ∷ qs) h k same f g =
      ap (λ x. x ∷ ls) (one_line l m p q h.0 k.0 same.0 f.0 g.0) ∙ ap (λ xs. m ∷ xs) (one_list ls ms ps qs h.1 k.1 same.1 f.1 g.1)
  one_list [] ms (p ∷ ps) qs h k same f g = absurd h
  one_list (l ∷ ls) ms [] qs h k same f g = absurd h
  one_list ls ms [] (q ∷ qs) h k same f g = absurd same
  one_list ls ms (p ∷ ps) [] h k same f g = absurd same
  one_list ls [] ps (q ∷ qs) h k same f g = absurd k
  one_list ls (m ∷ ms) ps [] h k same f g = absurd k

  turned : (lines : List ManifestLine) (ps : List NamedPart) → AllZip IsLineOfPart lines ps → AllZip (λ (p : NamedPart) (l : ManifestLine). IsLineOfPart l p) ps lines
  turned [] [] h = tt
  turned (l ∷ ls) (p ∷ ps) h = (h.0, turned ls ps h.1)
  turned [] (p ∷ ps) h = absurd h
  turned (l ∷ ls) [] h = absurd h

  pub one_last_line : ManifestsTellLastLines → SameDeliveriesOneLastLine
  one_last_line tell lines others ps qs a b same =
      let moved = zip_moved (λ (q : NamedPart) (m : ManifestLine). IsLineOfPart m q) qs same.0 others same.1 (turned others qs b.lines_of) in
      let files = each_in_any_order (λ (p : NamedPart). IsOfFiles p.part) qs same.0 same.1 b.of_files in
      let one = one_list lines moved.0 ps same.0 a.lines_of moved.2 same.2 a.of_files files in
      tell lines others (IsPermutation-sym others lines (subst (IsPermutation others) (sym one) moved.1))

  pub same_deliveries : LastLinesTellManifests → OneLastLineSameDeliveries
  same_deliveries told lines others ps qs a b equal = elim (told lines others a.are b.are equal) [
    | inl same ↦
        let moved = zip_moved IsLineOfPart others lines qs (IsPermutation-sym lines others same) b.lines_of in
        let files = each_in_any_order (λ (p : NamedPart). IsOfFiles p.part) qs moved.0 moved.1 b.of_files in
        elim (all_partners lines ps moved.0 a.lines_of moved.2 a.of_files files) [
          | inl are ↦ inl (moved.0, moved.1, are)
          | inr two ↦ inr two
        ]
    | inr two ↦ inr (manifest_body lines, manifest_body others, two.0, two.1)
  ]
