-- Reading back the text of a list.
use Rattle.std.proofs.Common.{◌≡◌, ◌≢◌, ◌∙◌, ◌+◌, ◌<◌, ◌≤◌, ℕ, Bool, true, false, List, [], ◌∷◌, ◌++◌, get_or, slice_index, length, take, drop, codes, length-append, append_assoc, append-nil, refl, sym, ap, subst, inl, inr, true≢false, bytes_eq, Option, Some, None, arith}
use Rattle.std.specs.List.{AllByRecursion}
use Rattle.std.proofs.lemmas.Option.{same_Some, none-some}
use Rattle.std.proofs.lemmas.Slice.Eq.{bytes_eq-Decides}
use Rattle.edi_answers.specs.Hashes.{escaped_byte, escaped_name}
use Rattle.edi_manifest.specs.LineReading.{ReadsLines, ReadsUpTo}
use Rattle.edi_manifest.specs.inner.Reading.{HasNoByte}
use Rattle.edi_manifest.proofs.LineTexts.{cut_same}
use Rattle.edi_manifest.proofs.ReadBack.{no_cut}
use Rattle.edi_manifest.proofs.ReadingOn.{kept_up_to}
use Rattle.edi_manifest.proofs.SameLines.{push_same}
use Rattle.edi_changes.specs.ListText.{IsListLine, list_line, list_text, schema_word}
use Rattle.edi_changes.specs.declared.list.ListLine.{ListLine}
use Rattle.edi_changes.specs.inner.Reading.{FindsListLine, FindsListLines, mark}
use Rattle.edi_changes.proofs.Lines.{IsShownAs, content_lacks, content_of, line_is, shown_as}

-- ---- the byte in front

-- what an escape with this letter shows
abbrev Shows : ℕ → ℕ → Type 0
Shows letter byte = (x : ℕ) (text : List ℕ) → IsShownAs x text → text ≡ 92 ∷ letter ∷ [] → byte ≡ x

second : (j k : ℕ) → 92 ∷ j ∷ [] ≡ 92 ∷ k ∷ [] → j ≡ k
second j k e = ap (λ t. get_or t 1 0) e

pub shows_feed : Shows 110 10
shows_feed x text (inl h) e = let n : 92 ≡ 110 = second 92 110 (sym h.1 ∙ e) in absurd (omega (arith, n))
shows_feed x text (inr (inl h)) e = sym h.0
shows_feed x text (inr (inr (inl h))) e = let n : 114 ≡ 110 = second 114 110 (sym h.1 ∙ e) in absurd (omega (arith, n))
shows_feed x text (inr (inr (inr h))) e = let n : 1 ≡ 2 = ap length (sym h.2 ∙ e) in absurd (omega (arith, n))

pub shows_return : Shows 114 13
shows_return x text (inl h) e = let n : 92 ≡ 114 = second 92 114 (sym h.1 ∙ e) in absurd (omega (arith, n))
shows_return x text (inr (inl h)) e = let n : 110 ≡ 114 = second 110 114 (sym h.1 ∙ e) in absurd (omega (arith, n))
shows_return x text (inr (inr (inl h))) e = sym h.0
shows_return x text (inr (inr (inr h))) e = let n : 1 ≡ 2 = ap length (sym h.2 ∙ e) in absurd (omega (arith, n))

pub shows_backslash : Shows 92 92
shows_backslash x text (inl h) e = sym h.0
shows_backslash x text (inr (inl h)) e = let n : 110 ≡ 92 = second 110 92 (sym h.1 ∙ e) in absurd (omega (arith, n))
shows_backslash x text (inr (inr (inl h))) e = let n : 114 ≡ 92 = second 114 92 (sym h.1 ∙ e) in absurd (omega (arith, n))
shows_backslash x text (inr (inr (inr h))) e = let n : 1 ≡ 2 = ap length (sym h.2 ∙ e) in absurd (omega (arith, n))

-- an escape in front
pub pair_found : (letter byte : ℕ) → Shows letter byte → (text behind : List ℕ) → bytes_eq (take 2 text) (92 ∷ letter ∷ []) ≡ true → behind ≡ drop 2 text
    → (x : ℕ) (rest : List ℕ) → text ≡ escaped_byte x ++ rest → (byte ≡ x) × (behind ≡ rest)
pair_found letter byte shows text behind front is x rest cut = go (escaped_byte x) (shown_as x) cut
  where
    two : take 2 text ≡ 92 ∷ letter ∷ []
    two = (bytes_eq-Decides (take 2 text) (92 ∷ letter ∷ [])).0 front

    pair : (shown : List ℕ) → IsShownAs x shown → (j : ℕ) → shown ≡ 92 ∷ j ∷ [] → text ≡ shown ++ rest → (byte ≡ x) × (behind ≡ rest)
    pair shown as_ j same e =
        let whole : text ≡ 92 ∷ j ∷ rest = e ∙ ap (λ t. t ++ rest) same in
        let letters : 92 ∷ j ∷ [] ≡ 92 ∷ letter ∷ [] = sym (ap (take 2) whole) ∙ two in
        (shows x shown as_ (same ∙ letters), is ∙ ap (drop 2) whole)

    go : (shown : List ℕ) → IsShownAs x shown → text ≡ shown ++ rest → (byte ≡ x) × (behind ≡ rest)
    go shown (inl h) e = pair shown (inl h) 92 h.1 e
    go shown (inr (inl h)) e = pair shown (inr (inl h)) 110 h.1 e
    go shown (inr (inr (inl h))) e = pair shown (inr (inr (inl h))) 114 h.1 e
    go shown (inr (inr (inr h))) e =
        let whole : text ≡ x ∷ rest = e ∙ ap (λ t. t ++ rest) h.2 in
        let first : x ≡ 92 = ap (λ t. get_or t 0 0) (sym (ap (take 2) whole) ∙ two) in
        absurd (h.0 first)

-- another byte in front
pub one_found : (text : List ℕ) (first : ℕ) (behind : List ℕ) → text ≡ first ∷ behind → bytes_eq (take 2 text) (92 ∷ 110 ∷ []) ≡ false
    → bytes_eq (take 2 text) (92 ∷ 114 ∷ []) ≡ false → bytes_eq (take 2 text) (92 ∷ 92 ∷ []) ≡ false
    → (x : ℕ) (rest : List ℕ) → text ≡ escaped_byte x ++ rest → (first ≡ x) × (behind ≡ rest)
one_found text first behind whole no_feed no_return no_backslash x rest cut = go (escaped_byte x) (shown_as x) cut
  where
    not_pair : (shown : List ℕ) (j : ℕ) → shown ≡ 92 ∷ j ∷ [] → text ≡ shown ++ rest → bytes_eq (take 2 text) (92 ∷ j ∷ []) ≡ false → ⊥
    not_pair shown j same e none =
        let two : take 2 text ≡ 92 ∷ j ∷ [] = ap (take 2) (e ∙ ap (λ t. t ++ rest) same) in
        true≢false (sym ((bytes_eq-Decides (take 2 text) (92 ∷ j ∷ [])).1 two) ∙ none)

    go : (shown : List ℕ) → IsShownAs x shown → text ≡ shown ++ rest → (first ≡ x) × (behind ≡ rest)
    go shown (inl h) e = absurd (not_pair shown 92 h.1 e no_backslash)
    go shown (inr (inl h)) e = absurd (not_pair shown 110 h.1 e no_feed)
    go shown (inr (inr (inl h))) e = absurd (not_pair shown 114 h.1 e no_return)
    go shown (inr (inr (inr h))) e =
        let same : first ∷ behind ≡ x ∷ rest = sym whole ∙ (e ∙ ap (λ t. t ++ rest) h.2) in
        (ap (λ t. get_or t 0 0) same, ap (drop 1) same)

-- ---- a name that is shown with escapes

-- so much of the name was found, and the bytes of what is behind it are left
pub record NamedUpTo (name found rest : List ℕ) : Type 0 where
  pub todo : List ℕ
  pub cut : name ≡ found ++ todo
  pub left : rest ≡ escaped_name todo

pub none_named : (name text : List ℕ) → text ≡ escaped_name name → NamedUpTo name [] text
none_named name text is = record { todo = name; cut = refl; left = is }

pub shown_some : (x : ℕ) (text rest : List ℕ) → IsShownAs x text → text ++ rest ≡ [] → ⊥
shown_some x text rest (inl h) e = let n : [] ≡ 92 ∷ 92 ∷ rest = sym e ∙ ap (λ t. t ++ rest) h.1 in cc
shown_some x text rest (inr (inl h)) e = let n : [] ≡ 92 ∷ 110 ∷ rest = sym e ∙ ap (λ t. t ++ rest) h.1 in cc
shown_some x text rest (inr (inr (inl h))) e = let n : [] ≡ 92 ∷ 114 ∷ rest = sym e ∙ ap (λ t. t ++ rest) h.1 in cc
shown_some x text rest (inr (inr (inr h))) e = let n : [] ≡ x ∷ rest = sym e ∙ ap (λ t. t ++ rest) h.2 in cc

pub all_named : (name found rest : List ℕ) → NamedUpTo name found rest → rest ≡ [] → found ≡ name
all_named name found rest n none = go n.todo refl
  where
    go : (todo : List ℕ) → n.todo ≡ todo → found ≡ name
    go [] e = sym (n.cut ∙ (ap (λ t. found ++ t) e ∙ append-nil found))
    go (x ∷ xs) e = absurd (shown_some x (escaped_byte x) (escaped_name xs) (shown_as x) (sym (sym none ∙ (n.left ∙ ap escaped_name e))))

pub more_named : (name found rest : List ℕ) → NamedUpTo name found rest → (byte : ℕ) (behind : List ℕ) → length behind < length rest
    → ((x : ℕ) (more : List ℕ) → rest ≡ escaped_byte x ++ more → (byte ≡ x) × (behind ≡ more)) → (new : List ℕ) → new ≡ found ++ byte ∷ [] → NamedUpTo name new behind
more_named name found rest n byte behind shorter finds new put = go n.todo refl
  where
    go : (todo : List ℕ) → n.todo ≡ todo → NamedUpTo name new behind
    go [] e = let empty : length rest ≡ 0 = ap length (n.left ∙ ap escaped_name e) in absurd (omega (arith, empty, shorter))
    go (x ∷ xs) e =
        let found_x = finds x (escaped_name xs) (n.left ∙ ap escaped_name e) in
        record {
          todo = xs;
          cut = n.cut ∙ (ap (λ t. found ++ t) e ∙ (sym (append_assoc found (x ∷ []) xs) ∙ ap (λ t. t ++ xs) (ap (λ b. found ++ b ∷ []) (sym found_x.0) ∙ sym put)));
          left = found_x.1;
        }

-- ---- the lines

-- these were read, and the bytes of those behind them are left
pub record ReadUpTo (lines found : List ListLine) (rest : List ℕ) : Type 0 where
  pub todo : List ListLine
  pub cut : lines ≡ found ++ todo
  pub left : rest ≡ list_text todo

pub none_read : (lines : List ListLine) (text : List ℕ) → list_text lines ≡ text → ReadUpTo lines [] text
none_read lines text e = record { todo = lines; cut = refl; left = sym e }

pub line_behind : (line : ListLine) (lines : List ListLine) → list_text (line ∷ lines) ≡ content_of line ++ 10 ∷ list_text lines
line_behind line lines = ap (λ t. t ++ list_text lines) (line_is line) ∙ append_assoc (content_of line) (10 ∷ []) (list_text lines)

pub all_read : (lines found : List ListLine) (rest : List ℕ) → ReadUpTo lines found rest → HasNoByte 10 rest → found ≡ lines
all_read lines found rest r lacks = go r.todo refl
  where
    go : (todo : List ListLine) → r.todo ≡ todo → found ≡ lines
    go [] e = sym (r.cut ∙ (ap (λ l. found ++ l) e ∙ append-nil found))
    go (line ∷ more) e = absurd (no_cut 10 (content_of line) (list_text more) (subst (HasNoByte 10) (r.left ∙ (ap list_text e ∙ line_behind line more)) lacks))

behind_all : (P : ListLine → Type 0) (xs : List ListLine) (y : ListLine) (ys : List ListLine) → AllByRecursion P (xs ++ y ∷ ys) → P y
behind_all P [] y ys h = h.0
behind_all P (x ∷ xs) y ys h = behind_all P xs y ys h.1

-- the line in front
pub record FindsNext (lines found : List ListLine) (content behind : List ℕ) : Type 0 where
  pub line : ListLine
  pub is : IsListLine line
  pub content_is : content ++ 10 ∷ [] ≡ list_line line
  pub more : (new : List ListLine) → new ≡ found ++ line ∷ [] → ReadUpTo lines new behind

pub nothing : (xs ys : List ℕ) → xs ++ 10 ∷ ys ≡ [] → ⊥
nothing [] ys same = cc
nothing (x ∷ xs) ys same = cc

pub finds_next : (lines found : List ListLine) (rest : List ℕ) → AllByRecursion IsListLine lines → ReadUpTo lines found rest → (content behind : List ℕ)
    → rest ≡ content ++ 10 ∷ behind → HasNoByte 10 content → FindsNext lines found content behind
finds_next lines found rest all r content behind cut lacks = go r.todo refl
  where
    go : (todo : List ListLine) → r.todo ≡ todo → FindsNext lines found content behind
    go [] e = absurd (nothing content behind (sym cut ∙ (r.left ∙ ap list_text e)))
    go (line ∷ more) e =
        let whole : lines ≡ found ++ line ∷ more = r.cut ∙ ap (λ l. found ++ l) e in
        let same = cut_same 10 content (content_of line) behind (list_text more) lacks (content_lacks line) (sym cut ∙ (r.left ∙ (ap list_text e ∙ line_behind line more))) in
        record {
          line = line;
          is = behind_all IsListLine found line more (subst (AllByRecursion IsListLine) whole all);
          content_is = ap (λ t. t ++ 10 ∷ []) same.0 ∙ sym (line_is line);
          more = λ new put. record {
            todo = more;
            cut = whole ∙ (sym (append_assoc found (line ∷ []) more) ∙ ap (λ l. l ++ more) (sym put));
            left = same.1;
          };
        }

-- what is read line by line, where each line is found, is the lines
module _ (Reads : List ℕ → Option ListLine → Type 0) (finds : (content : List ℕ) (found : Option ListLine) → Reads content found → FindsListLine content found) where
  up_to : (lines : List ListLine) → AllByRecursion IsListLine lines → (text : List ℕ) → list_text lines ≡ text → (found : List ListLine) (rest : List ℕ)
      → ReadsUpTo Reads text found rest → ReadUpTo lines found rest
  up_to lines all text e found rest = kept_up_to Reads (ReadUpTo lines) step [] text found rest (none_read lines text e)
    where
      step : (xs : List ListLine) (content behind : List ℕ) (line : ListLine) → HasNoByte 10 content → Reads content (Some line) → ReadUpTo lines xs (content ++ 10 ∷ behind)
          → ReadUpTo lines (xs ++ line ∷ []) behind
      step xs content behind line lacks reads r =
          let n = finds_next lines xs (content ++ 10 ∷ behind) all r content behind refl lacks in
          let same : line ≡ n.line = same_Some _ _ (finds content (Some line) reads n.line n.is n.content_is) in
          n.more (xs ++ line ∷ []) (ap (λ l. xs ++ l ∷ []) same)

  found_lines : (text : List ℕ) (found : Option (List ListLine)) → ReadsLines Reads text found → FindsListLines text found
  found_lines text (Some found) h lines all e =
      let r = h.read in
      ap Some (all_read lines found r.0 (up_to lines all text e found r.0 r.1) r.2)
  found_lines text None h lines all e =
      let r = h.read in
      let rest = r.1 ++ 10 ∷ r.2 in
      let n = finds_next lines r.0 rest all (up_to lines all text e r.0 rest r.3) r.1 r.2 refl r.4 in
      absurd (none-some n.line (finds r.1 None r.5 n.line n.is n.content_is))

pub lines_read : (Reads : List ℕ → Option ListLine → Type 0) (text : List ℕ) (found : Option (List ListLine)) → ReadsLines Reads text found
    → ((content : List ℕ) (found : Option ListLine) → Reads content found → FindsListLine content found) → FindsListLines text found
lines_read Reads text found h finds = found_lines Reads finds text found h

-- ---- one line

pub content_is : (line : ListLine) (content : List ℕ) → content ++ 10 ∷ [] ≡ list_line line → content ≡ content_of line
content_is line content e = push_same content (content_of line) 10 10 (e ∙ line_is line)

pub line_made : (line : ListLine) (is_schema : Bool) (name digest : List ℕ) → is_schema ≡ line.is_schema → name ≡ line.name → digest ≡ line.digest
    → ◌≡◌ {A = Option ListLine} (Some (record { is_schema = is_schema; name = name; digest = digest })) (Some line)
line_made line is_schema name digest a b c = λ j. Some (record { is_schema = a j; name = b j; digest = c j })

-- ---- the words in front

seven : (rest : List ℕ) → bytes_eq (take 7 rest) (codes "schema ") ≡ true → slice_index rest 0 ≡ 115
seven [] e = absurd (true≢false (sym e))
seven (x ∷ xs) e = ap (λ t. get_or t 0 0) ((bytes_eq-Decides (take 7 (x ∷ xs)) (codes "schema ")).0 e)

pub word_found : (text behind : List ℕ) → bytes_eq (take 7 text) (codes "schema ") ≡ true → behind ≡ drop 7 text → (is_schema : Bool) (rest : List ℕ) → slice_index rest 0 ≢ 115
    → text ≡ schema_word is_schema ++ rest → (true ≡ is_schema) × (behind ≡ rest)
word_found text behind front is true rest apart cut = (refl, is ∙ ap (drop 7) cut)
word_found text behind front is false rest apart cut = absurd (apart (seven rest (subst (λ t. bytes_eq (take 7 t) (codes "schema ") ≡ true) cut front)))

pub no_word_found : (text : List ℕ) → bytes_eq (take 7 text) (codes "schema ") ≡ false → (is_schema : Bool) (rest : List ℕ) → text ≡ schema_word is_schema ++ rest
    → (false ≡ is_schema) × (text ≡ rest)
no_word_found text none true rest cut = absurd (true≢false (subst (λ t. bytes_eq (take 7 t) (codes "schema ") ≡ false) cut none))
no_word_found text none false rest cut = (refl, cut)

one : (rest : List ℕ) → bytes_eq (take 1 rest) (92 ∷ []) ≡ true → slice_index rest 0 ≡ 92
one [] e = absurd (true≢false (sym e))
one (x ∷ xs) e = ap (λ t. get_or t 0 0) ((bytes_eq-Decides (x ∷ []) (92 ∷ [])).0 e)

pub mark_found : (text behind : List ℕ) → bytes_eq (take 1 text) (92 ∷ []) ≡ true → behind ≡ drop 1 text → (marked : Bool) (rest : List ℕ) → slice_index rest 0 ≢ 92
    → text ≡ mark marked ++ rest → behind ≡ rest
mark_found text behind front is true rest apart cut = is ∙ ap (drop 1) cut
mark_found text behind front is false rest apart cut = absurd (apart (one rest (subst (λ t. bytes_eq (take 1 t) (92 ∷ []) ≡ true) cut front)))

pub no_mark_found : (text : List ℕ) → bytes_eq (take 1 text) (92 ∷ []) ≡ false → (marked : Bool) (rest : List ℕ) → text ≡ mark marked ++ rest → text ≡ rest
no_mark_found text none true rest cut = absurd (true≢false (subst (λ t. bytes_eq (take 1 t) (92 ∷ []) ≡ false) cut none))
no_mark_found text none false rest cut = cut

-- ---- digits, two spaces and a name

take_front : (xs ys : List ℕ) → take (length xs) (xs ++ ys) ≡ xs
take_front [] ys = refl
take_front (x ∷ xs) ys = ap (λ t. x ∷ t) (take_front xs ys)

drop_front : (xs ys : List ℕ) → drop (length xs) (xs ++ ys) ≡ ys
drop_front [] ys = refl
drop_front (x ∷ xs) ys = drop_front xs ys

pub long_enough : (text digits name : List ℕ) → length digits ≡ 64 → text ≡ digits ++ (codes "  " ++ name) → 66 ≤ length text
long_enough text digits name long cut =
    let whole : length text ≡ length digits + length (codes "  " ++ name) = ap length cut ∙ length-append digits (codes "  " ++ name) in
    let rest : length (codes "  " ++ name) ≡ length (codes "  ") + length name = length-append (codes "  ") name in
    sums (length text) (length digits) (length (codes "  " ++ name)) (length name) whole rest long
  where
    sums : (all front behind last : ℕ) → all ≡ front + behind → behind ≡ 2 + last → front ≡ 64 → 66 ≤ all
    sums all front behind last a b c = omega arith

pub digits_found : (text front behind rest digits name : List ℕ) → front ≡ take 64 text → behind ≡ drop 64 text → rest ≡ drop 2 behind → length digits ≡ 64
    → text ≡ digits ++ (codes "  " ++ name) → (front ≡ digits) × (rest ≡ name)
digits_found text front behind rest digits name is_front is_behind is_rest long cut = (
  is_front ∙ (ap (take 64) cut ∙ (ap (λ n. take n (digits ++ (codes "  " ++ name))) (sym long) ∙ take_front digits (codes "  " ++ name))),
  is_rest ∙ ap (drop 2) (is_behind ∙ (ap (drop 64) cut ∙ (ap (λ n. drop n (digits ++ (codes "  " ++ name))) (sym long) ∙ drop_front digits (codes "  " ++ name)))),
)
