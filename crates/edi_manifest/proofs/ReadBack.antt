-- Reading back what was written.
use Rattle.std.proofs.Common.{◌≡◌, ◌≢◌, ℕ, suc, ◌+◌, ◌*◌, ◌-◌, ◌<◌, ◌≤◌, true, false, eqb, List, [], ◌∷◌, ◌++◌, length, map, get_or, take, drop, Option, Some, None, MatchOption, IfSome, Result, Ok, Err, position, codes, refl, sym, ap, ◌∙◌, subst, arith}
use Rattle.std.specs.List.{AllByRecursion, concat, position_or_len}
use Rattle.std.proofs.lemmas.Bool.{eqb-true, eqb-false}
use Rattle.std.proofs.lemmas.Option.{same_Some, none-some}
use Rattle.std.proofs.lemmas.List.{append_assoc, append-nil, take_all, take-append-drop, length-append, length-take-le, get_or-take, map-append}
use Rattle.std.proofs.lemmas.List.Elements.{recursion_from_All, All-from_get_or}
use Rattle.std.proofs.lemmas.List.Sums.{fails_before_first, passes_at_first}
use Rattle.std.proofs.lemmas.List.Sorted.{IsPermutation-sym}
use Rattle.std.proofs.Math.Seq.{drop-cons}
use Rattle.std.specs.Result.{result_ok}
use Rattle.hex.specs.Hex.{decode_sized, encode_lower, lower_digits, IsBytes}
use Rattle.hex.specs.declared.error.FromHexError.{FromHexError}
use Rattle.hex.proofs.HexLemmas.{decode_of-ok, decode_sized-ok, decode_sized-twice, length-encode_with}
use Rattle.sha2.specs.Sha256.{sha256}
use Rattle.sha2.proofs.Facts256.{length-sha256}
use Rattle.edi_line.proofs.Numbers.{position_at_Some, position_at_None}
use Rattle.edi_record.specs.Orders.{bytes_cmp}
use Rattle.edi_schema.specs.Sorted.{sort_by}
use Rattle.edi_schema.proofs.SortedLists.{IsPermutation-sort_by, NeverFalls-sort_by, sort_by-in_order}
use Rattle.edi_delivery.specs.NameParts.{is_file_name}
use Rattle.edi_manifest.specs.ManifestText.{IsManifestLine, digested_text, manifest_line, manifest_lines, manifest_head, manifest_body, last_line, manifest_text}
use Rattle.edi_manifest.specs.LineReading.{ReadsLines, ReadsUpTo}
use Rattle.edi_manifest.specs.inner.Reading.{FindsManifestLine, FindsManifestLines, HasNoByte}
use Rattle.edi_manifest.specs.declared.line.Digested.{Digested}
use Rattle.edi_manifest.specs.declared.line.ManifestLine.{ManifestLine}
use Rattle.edi_manifest.proofs.ByteOrder.{bytes_total, bytes_exact}
use Rattle.edi_manifest.proofs.LineTexts.{name_lacks, content_of_line, content_lacks, line_is, cut_same}
use Rattle.edi_manifest.proofs.ReadingOn.{kept_up_to}
use Rattle.edi_manifest.proofs.SameLines.{push_same, moved_all}

-- ---- the first such byte

lacks_before : (byte : ℕ) (bytes : List ℕ) (n : ℕ) → n ≤ length bytes → n ≤ position_or_len (λ c. eqb c byte) bytes → HasNoByte byte (take n bytes)
lacks_before byte bytes n within before =
    recursion_from_All (λ c. c ≢ byte) (take n bytes) (All-from_get_or (λ c. c ≢ byte) (take n bytes) 0 (λ i below e.
    let long : length (take n bytes) ≡ n = length-take-le n bytes within in
    let here : i < n = omega arith in
    let same : get_or (take n bytes) i 0 ≡ get_or bytes i 0 = get_or-take n bytes i 0 here in
    eqb-false _ _ (fails_before_first (λ c. eqb c byte) bytes i 0 (omega arith)) (sym same ∙ e)))

pub none_lacks : (byte : ℕ) (bytes : List ℕ) → position (λ c. eqb c byte) bytes ≡ None → HasNoByte byte bytes
none_lacks byte bytes e =
    let past = position_at_None (λ c. eqb c byte) bytes e in
    subst (HasNoByte byte) (take_all (length bytes) bytes (omega arith)) (lacks_before byte bytes (length bytes) (omega arith) past)

pub cut_found : (byte : ℕ) (bytes front rest : List ℕ) (place : ℕ) → position (λ c. eqb c byte) bytes ≡ Some place → front ≡ take place bytes → rest ≡ drop place bytes
    → (bytes ≡ front ++ byte ∷ take (length rest - 1) (drop 1 rest)) × HasNoByte byte front
cut_found byte bytes front rest place e is_front is_rest =
    let found = position_at_Some (λ c. eqb c byte) bytes place e in
    let at : get_or bytes place 0 ≡ byte = eqb-true _ _ (subst (λ n. eqb (get_or bytes n 0) byte ≡ true) found.0 (passes_at_first (λ c. eqb c byte) bytes 0 (omega arith))) in
    let cons : drop place bytes ≡ byte ∷ drop (suc place) bytes = drop-cons bytes place 0 found.1 ∙ ap (λ c. c ∷ drop (suc place) bytes) at in
    let behind : take (length rest - 1) (drop 1 rest) ≡ drop (suc place) bytes =
    ap (λ r. take (length r - 1) (drop 1 r)) (is_rest ∙ cons) ∙ take_all (length (byte ∷ drop (suc place) bytes) - 1) (drop (suc place) bytes) (omega arith) in (
      sym (take-append-drop place bytes) ∙ (ap (λ t. take place bytes ++ t) (cons ∙ ap (λ t. byte ∷ t) (sym behind)) ∙ ap (λ t. t ++ byte ∷ take (length rest - 1) (drop 1 rest)) (sym is_front)),
      subst (HasNoByte byte) (sym is_front) (lacks_before byte bytes place (omega (arith, found.1)) (omega (arith, found.0))),
    )

pub no_cut : (byte : ℕ) (a b : List ℕ) → HasNoByte byte (a ++ byte ∷ b) → ⊥
no_cut byte [] b h = h.0 refl
no_cut byte (x ∷ a) b h = no_cut byte a b h.1

-- ---- one line

module _ (line : ManifestLine) (h : IsManifestLine line) (content : List ℕ) (e : content ++ 10 ∷ [] ≡ manifest_line line) where
  pub content_is : content ≡ line.name ++ 32 ∷ (digested_text line.digested ++ encode_lower line.digest)
  content_is = push_same content (content_of_line line) 10 10 (e ∙ line_is line)

  pub has_space : HasNoByte 32 content → ⊥
  has_space lacks = no_cut 32 line.name (digested_text line.digested ++ encode_lower line.digest) (subst (HasNoByte 32) content_is lacks)

  pub parts_are : (name behind : List ℕ) → content ≡ name ++ 32 ∷ behind → HasNoByte 32 name → (name ≡ line.name) × (behind ≡ digested_text line.digested ++ encode_lower line.digest)
  parts_are name behind cut lacks = cut_same 32 name line.name behind (digested_text line.digested ++ encode_lower line.digest) lacks (name_lacks 32 refl line.name h.name) (sym cut ∙ content_is)

-- ---- the text without its first line and its last

pub last_long : (body : List ℕ) → length (last_line body) ≡ 72
last_long body =
    let digits = length-encode_with lower_digits (sha256 body) in
    let all = length-append (codes "digest ") (encode_lower (sha256 body) ++ 10 ∷ []) in
    let ended = length-append (encode_lower (sha256 body)) (10 ∷ []) in
    few (length (last_line body)) (length (encode_lower (sha256 body) ++ 10 ∷ [])) (length (encode_lower (sha256 body))) (length (sha256 body)) all ended digits (length-sha256 body)
  where
    few : (all ended digits bytes : ℕ) → all ≡ 7 + ended → ended ≡ digits + 1 → digits ≡ 2 * bytes → bytes ≡ 32 → all ≡ 72
    few all ended digits bytes a b c d = omega arith

pub behind_head : (lines : List ManifestLine) (text behind : List ℕ) → manifest_text lines ≡ text → behind ≡ drop 18 text → behind ≡ concat (manifest_lines lines) ++ last_line (manifest_body lines)
behind_head lines text behind e is = is ∙ ap (drop 18) (sym e)

pub body_long : (lines : List ManifestLine) (behind : List ℕ) → behind ≡ concat (manifest_lines lines) ++ last_line (manifest_body lines) → length behind ≡ length (concat (manifest_lines lines)) + 72
body_long lines behind is = ap length is ∙ (length-append (concat (manifest_lines lines)) (last_line (manifest_body lines)) ∙ ap (λ n. length (concat (manifest_lines lines)) + n) (last_long (manifest_body lines)))

pub body_is : (lines : List ManifestLine) (behind : List ℕ) → behind ≡ concat (manifest_lines lines) ++ last_line (manifest_body lines) → take (length behind - 72) behind ≡ concat (manifest_lines lines)
body_is lines behind is =
    let long = body_long lines behind is in
    let count : length behind - 72 ≡ length (concat (manifest_lines lines)) = omega (arith, long) in
    ap (λ n. take n behind) count ∙ (ap (take (length (concat (manifest_lines lines)))) is ∙ take_front (concat (manifest_lines lines)) (last_line (manifest_body lines)))
  where
    take_front : (xs ys : List ℕ) → take (length xs) (xs ++ ys) ≡ xs
    take_front [] ys = refl
    take_front (x ∷ xs) ys = ap (λ t. x ∷ t) (take_front xs ys)

-- ---- the lines

-- these were read, and the bytes of those behind them are left
pub record ReadUpTo (texts : List (List ℕ)) (found : List ManifestLine) (rest : List ℕ) : Type 0 where
  pub todo : List (List ℕ)
  pub cut : texts ≡ map manifest_line found ++ todo
  pub left : rest ≡ concat todo

pub none_yet : (texts : List (List ℕ)) (body : List ℕ) → concat texts ≡ body → ReadUpTo texts [] body
none_yet texts body e = record { todo = texts; cut = refl; left = sym e }

-- the text of a line
abbrev pub IsOfLine : List ℕ → Type 0
IsOfLine text = (line : ManifestLine) × IsManifestLine line × (manifest_line line ≡ text)

map_lines : (lines : List ManifestLine) → AllByRecursion IsManifestLine lines → AllByRecursion IsOfLine (map manifest_line lines)
map_lines [] h = tt
map_lines (l ∷ ls) h = ((l, h.0, refl), map_lines ls h.1)

pub sorted_lines : (lines : List ManifestLine) → AllByRecursion IsManifestLine lines → AllByRecursion IsOfLine (manifest_lines lines)
sorted_lines lines h =
    moved_all IsOfLine (map manifest_line lines) (manifest_lines lines)
    (IsPermutation-sym (manifest_lines lines) (map manifest_line lines) (IsPermutation-sort_by bytes_cmp bytes_total (map manifest_line lines))) (map_lines lines h)

behind_all : (P : List ℕ → Type 0) (xs : List (List ℕ)) (y : List ℕ) (ys : List (List ℕ)) → AllByRecursion P (xs ++ y ∷ ys) → P y
behind_all P [] y ys h = h.0
behind_all P (x ∷ xs) y ys h = behind_all P xs y ys h.1

module _ (texts : List (List ℕ)) (all : AllByRecursion IsOfLine texts) (found : List ManifestLine) (rest : List ℕ) (r : ReadUpTo texts found rest) where
  -- the next line, which comes first in what is left
  abbrev Next : Type 0
  Next = (line : ManifestLine) × (more : List (List ℕ)) × IsManifestLine line × (texts ≡ map manifest_line found ++ manifest_line line ∷ more) × (rest ≡ content_of_line line ++ 10 ∷ concat more)

  next : (t : List ℕ) (ts : List (List ℕ)) → r.todo ≡ t ∷ ts → Next
  next t ts e =
      let cut : texts ≡ map manifest_line found ++ t ∷ ts = r.cut ∙ ap (λ x. map manifest_line found ++ x) e in
      let of = behind_all IsOfLine (map manifest_line found) t ts (subst (AllByRecursion IsOfLine) cut all) in (
        of.0,
        ts,
        of.1,
        cut ∙ ap (λ x. map manifest_line found ++ x ∷ ts) (sym of.2),
        r.left ∙ (ap concat e ∙ (ap (λ x. x ++ concat ts) (sym of.2 ∙ line_is of.0) ∙ append_assoc (content_of_line of.0) (10 ∷ []) (concat ts))),
      )

  pub all_read : HasNoByte 10 rest → map manifest_line found ≡ texts
  all_read lacks = go r.todo refl
    where
      go : (todo : List (List ℕ)) → r.todo ≡ todo → map manifest_line found ≡ texts
      go [] e = sym (r.cut ∙ (ap (λ x. map manifest_line found ++ x) e ∙ append-nil (map manifest_line found)))
      go (t ∷ ts) e = let n = next t ts e in absurd (no_cut 10 (content_of_line n.0) (concat n.1) (subst (HasNoByte 10) n.4 lacks))

  -- the line in front
  pub record FindsNext (content behind : List ℕ) : Type 0 where
    pub line : ManifestLine
    pub is : IsManifestLine line
    pub content_of : content ++ 10 ∷ [] ≡ manifest_line line
    pub more : (new : List ManifestLine) → new ≡ found ++ line ∷ [] → ReadUpTo texts new behind

  pub finds_next : (content behind : List ℕ) → rest ≡ content ++ 10 ∷ behind → HasNoByte 10 content → FindsNext content behind
  finds_next content behind cut lacks = go r.todo refl
    where
      go : (todo : List (List ℕ)) → r.todo ≡ todo → FindsNext content behind
      go [] e = absurd (nothing content (sym cut ∙ (r.left ∙ ap concat e)))
        where
          nothing : (xs : List ℕ) → xs ++ 10 ∷ behind ≡ [] → ⊥
          nothing [] same = cc
          nothing (x ∷ xs) same = cc
      go (t ∷ ts) e =
          let n = next t ts e in
          let same = cut_same 10 content (content_of_line n.0) behind (concat n.1) lacks (content_lacks n.0 n.2) (sym cut ∙ n.4) in
          record {
            line = n.0;
            is = n.2;
            content_of = ap (λ x. x ++ 10 ∷ []) same.0 ∙ sym (line_is n.0);
            more = λ new put. record {
              todo = n.1;
              cut = n.3 ∙ (sym (append_assoc (map manifest_line found) (manifest_line n.0 ∷ []) n.1) ∙ ap (λ x. x ++ n.1) (sym (map-append manifest_line found (n.0 ∷ [])) ∙ ap (map manifest_line) (sym put)));
              left = same.1;
            };
          }

-- what is read line by line, where each line is found, is the lines
module _ (Reads : List ℕ → Option ManifestLine → Type 0) (finds : (content : List ℕ) (found : Option ManifestLine) → Reads content found → FindsManifestLine content found) where
  up_to : (texts : List (List ℕ)) → AllByRecursion IsOfLine texts → (body : List ℕ) → concat texts ≡ body → (found : List ManifestLine) (rest : List ℕ)
      → ReadsUpTo Reads body found rest → ReadUpTo texts found rest
  up_to texts all body e found rest = kept_up_to Reads (ReadUpTo texts) step [] body found rest (none_yet texts body e)
    where
      step : (xs : List ManifestLine) (content behind : List ℕ) (line : ManifestLine) → HasNoByte 10 content → Reads content (Some line) → ReadUpTo texts xs (content ++ 10 ∷ behind)
          → ReadUpTo texts (xs ++ line ∷ []) behind
      step xs content behind line lacks reads r =
          let n = finds_next texts all xs (content ++ 10 ∷ behind) r content behind refl lacks in
          let same : line ≡ n.line = same_Some _ _ (finds content (Some line) reads n.line n.is n.content_of) in
          n.more (xs ++ line ∷ []) (ap (λ l. xs ++ l ∷ []) same)

  found_lines : (body : List ℕ) (found : Option (List ManifestLine)) → ReadsLines Reads body found → FindsManifestLines body found
  found_lines body (Some found) h lines are e =
      let all = sorted_lines lines are in
      let r = h.read in
      all_read (manifest_lines lines) all found r.0 (up_to (manifest_lines lines) all body e found r.0 r.1) r.2
  found_lines body None h lines are e =
      let all = sorted_lines lines are in
      let r = h.read in
      let rest = r.1 ++ 10 ∷ r.2 in
      let n = finds_next (manifest_lines lines) all r.0 rest (up_to (manifest_lines lines) all body e r.0 rest r.3) r.1 r.2 refl r.4 in
      absurd (none-some n.line (finds r.1 None r.5 n.line n.is n.content_of))

pub lines_read : (Reads : List ℕ → Option ManifestLine → Type 0) (body : List ℕ) (found : Option (List ManifestLine)) → ReadsLines Reads body found
    → ((content : List ℕ) (found : Option ManifestLine) → Reads content found → FindsManifestLine content found) → FindsManifestLines body found
lines_read Reads body found h finds = found_lines Reads finds body found h

-- ---- and written again

pub written_again : (found lines : List ManifestLine) → map manifest_line found ≡ manifest_lines lines → manifest_text found ≡ manifest_text lines
written_again found lines e =
    let sorted : manifest_lines found ≡ manifest_lines lines =
    ap (sort_by bytes_cmp) e ∙ sort_by-in_order bytes_cmp bytes_total bytes_exact (manifest_lines lines) (NeverFalls-sort_by bytes_cmp bytes_total (map manifest_line lines)) in
    ap (λ ts. (manifest_head ++ concat ts) ++ last_line (manifest_head ++ concat ts)) sorted

pub line_made : (line : ManifestLine) (name : List ℕ) (digested : Digested) (digest : List ℕ) → name ≡ line.name → digested ≡ line.digested → digest ≡ line.digest
    → ◌≡◌ {A = Option ManifestLine} (Some (record { name = name; digested = digested; digest = digest })) (Some line)
line_made line name digested digest a b c = λ j. Some (record { name = a j; digested = b j; digest = c j })

-- what `FileName::new` says where it gives none, and where it gives one
pub no_name : (found : Option (List ℕ)) (text : List ℕ) → found ≡ None → MatchOption found (is_file_name text ≡ false) (λ n. (n ≡ text) × (is_file_name text ≡ true)) → is_file_name text ≡ false
no_name found text e h = let P : Option (List ℕ) → Type 0 = λ o. MatchOption o (is_file_name text ≡ false) (λ n. (n ≡ text) × (is_file_name text ≡ true)) in subst P e h

pub a_name : (found : Option (List ℕ)) (text name : List ℕ) → found ≡ Some name → MatchOption found (is_file_name text ≡ false) (λ n. (n ≡ text) × (is_file_name text ≡ true)) → name ≡ text
a_name found text name e h = let P : Option (List ℕ) → Type 0 = λ o. MatchOption o (is_file_name text ≡ false) (λ n. (n ≡ text) × (is_file_name text ≡ true)) in (subst P e h).0

-- ---- what is read is a line

pub digest_is : (digits : List ℕ) (found : Result (List ℕ) FromHexError) → found ≡ decode_sized digits 32 → IfSome (result_ok found) (λ digest. (length digest ≡ 32) × IsBytes digest)
digest_is digits (Ok digest) e =
    let long = decode_sized-ok digits 32 digest (sym e) in
    let all = decode_of-ok digits digest (sym (decode_sized-twice digits 32 long) ∙ sym e) in
    (omega (arith, long, all.2), all.3)
digest_is digits (Err f) e = tt

pub is_a_name : (found : Option (List ℕ)) (text name : List ℕ) → found ≡ Some name → MatchOption found (is_file_name text ≡ false) (λ n. (n ≡ text) × (is_file_name text ≡ true)) → is_file_name name ≡ true
is_a_name found text name e h =
    let P : Option (List ℕ) → Type 0 = λ o. MatchOption o (is_file_name text ≡ false) (λ n. (n ≡ text) × (is_file_name text ≡ true)) in
    let both = subst P e h in
    ap is_file_name both.0 ∙ both.1

pub one_more_line : (xs : List ManifestLine) (x : ManifestLine) → AllByRecursion IsManifestLine xs → IsManifestLine x → AllByRecursion IsManifestLine (xs ++ x ∷ [])
one_more_line [] x h k = (k, tt)
one_more_line (y ∷ ys) x h k = (h.0, one_more_line ys x h.1 k)
