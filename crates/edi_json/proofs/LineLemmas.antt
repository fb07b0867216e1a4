-- Lines that are appended, and what a reader finds in them.
use Rattle.std.proofs.Common.{◌≡◌, ◌∙◌, ℕ, ◌+◌, ◌-◌, ◌<◌, ◌≤◌, cond, ◌==◌, List, [], ◌∷◌, ◌++◌, Some, append_assoc, append-nil, arith, ap, ap₂, get_or, length, map, option_and_then, refl, subst, sym, take}
use Rattle.std.specs.List.{AllByRecursion, flat_map, slice_split}
use Rattle.std.specs.Str.Lines.{lines, lines_of_parts, strip_carriage_return}
use Rattle.std.proofs.lemmas.Grind.{flat_map-append}
use Rattle.std.proofs.lemmas.List.{map-append, take_more}
use Rattle.std.proofs.lemmas.List.Splits.{length-slice_split, slice_split_at}
use Rattle.json.specs.Json.{Json, document, if_last, max_depth, value}
use Rattle.json.specs.Lex.{tokens}
use Rattle.json.specs.Print.{print}
use Rattle.json.specs.Token.{Token}
use Rattle.json.specs.Tree.{depth, json_tokens}
use Rattle.json.proofs.Printed.Trees.{value-json_tokens}
use Rattle.edi_line.specs.Bytes.{line_feed}
use Rattle.edi_line.proofs.EachElement.{each_of_both}
use Rattle.edi_report.specs.Reports.{Report}
use Rattle.edi_json.specs.Listed.{Listed}
use Rattle.edi_json.specs.Texts.{ReadsAs, json_line, json_text}
use Rattle.edi_json.specs.Values.{listed_value, listed_values}
use Rattle.edi_json.specs.inner.Lines.{HasLines, IsValueInOneLine, IsPlainText}
use Rattle.edi_json.proofs.PlainTexts.{IsPlainToken, no_feed, no_return, plain_print}

-- what is appended one after the other
pub two_more : {X : Type 0} (old mid new first second : List X) → mid ≡ old ++ first → new ≡ mid ++ second → new ≡ old ++ (first ++ second)
two_more old mid new first second h k = k ∙ (ap (λ xs. xs ++ second) h ∙ append_assoc old first second)

-- ---- a line

read_back : (j : Json) → tokens (print (json_tokens j)) ≡ json_tokens j → depth j ≤ max_depth → document (print (json_tokens j)) ≡ Some j
read_back j same shallow =
    ap (option_and_then (λ p. if_last p.0 p.1))
    (ap (value max_depth) (same ∙ sym (append-nil (json_tokens j))) ∙ value-json_tokens j max_depth [] shallow)

-- a line more, of a value with no deep objects and with numbers that are printed
pub one_line : (j : Json) → depth j ≤ max_depth → AllByRecursion IsPlainToken (json_tokens j)
    → (old before new : List ℕ) (written : List Token) → before ≡ old → written ≡ json_tokens j → tokens (print written) ≡ written
    → new ≡ before ++ print written ++ line_feed ∷ [] → HasLines old new (j ∷ [])
one_line j shallow plain old before new written same is read text = record {
  text = text ∙ (ap₂ (λ xs ts. xs ++ print ts ++ line_feed ∷ []) same is
      ∙ (append_assoc old (print (json_tokens j)) (line_feed ∷ []) ∙ ap (λ xs. old ++ xs) (sym (append-nil (json_line j)))));
  lines = (
    record {
      read = read_back j (subst (λ ts. tokens (print ts) ≡ ts) is read) shallow;
      plain = plain_print (json_tokens j) plain;
    },
    tt,
  );
}

-- ---- lines

pub no_lines : (old : List ℕ) → HasLines old old []
no_lines old = record { text = sym (append-nil old); lines = tt }

pub more_lines : (old mid new : List ℕ) (first second : List Json) → HasLines old mid first → HasLines mid new second → HasLines old new (first ++ second)
more_lines old mid new first second h k = record {
  text = k.text ∙ (ap (λ xs. xs ++ json_text second) h.text ∙ (append_assoc old (json_text first) (json_text second)
      ∙ ap (λ xs. old ++ xs) (sym (flat_map-append json_line first second))));
  lines = each_of_both IsValueInOneLine first second h.lines k.lines;
}

-- the same of lists of records
pub more_listed : (r : Report) (old mid new : List ℕ) (first second : List Listed) → HasLines old mid (listed_values r first) → HasLines mid new (listed_values r second)
    → HasLines old new (listed_values r (first ++ second))
more_listed r old mid new first second h k =
    subst (HasLines old new) (sym (map-append (listed_value r) first second)) (more_lines old mid new (listed_values r first) (listed_values r second) h k)

flat_one : {X Y : Type 0} (f : X → List Y) (x : X) → flat_map f (x ∷ []) ≡ f x
flat_one f x = append-nil (f x)

-- those of one place more
pub listed_more : (r : Report) (f : ℕ → List Listed) (places : List ℕ) (k : ℕ) (old mid new : List ℕ) → k < length places
    → HasLines old mid (listed_values r (flat_map f (take k places))) → HasLines mid new (listed_values r (f (get_or places k 0)))
    → HasLines old new (listed_values r (flat_map f (take (k + 1) places)))
listed_more r f places k old mid new less h more =
    let x = get_or places k 0 in
    let split = ap (flat_map f) (take_more places k 0 less) ∙ (flat_map-append f (take k places) (x ∷ []) ∙ ap (λ ys. flat_map f (take k places) ++ ys) (flat_one f x)) in
    subst (λ (ls : List Listed). HasLines old new (listed_values r ls)) (sym split) (more_listed r old mid new (flat_map f (take k places)) (f x) h more)

-- ---- what a reader finds

stripped : (line : List ℕ) → IsPlainText line → strip_carriage_return line ≡ line
stripped line plain = ap (λ b. cond b (take (length line - 1) line) line) (no_return line plain (length line - 1))

one_part_more : (line : List ℕ) (parts : List (List ℕ)) → 0 < length parts → lines_of_parts (line ∷ parts) ≡ strip_carriage_return line ∷ lines_of_parts parts
one_part_more line [] h = absurd (omega (arith, h))
one_part_more line (part ∷ parts) h = refl

one_line_more : (line behind : List ℕ) → IsPlainText line → lines ((line ++ 10 ∷ []) ++ behind) ≡ line ∷ lines behind
one_line_more line behind plain =
    let split = slice_split (λ b. b == 10) behind in
    let cut = ap (slice_split (λ b. b == 10)) (append_assoc line (10 ∷ []) behind) ∙ slice_split_at (λ b. b == 10) line 10 behind (λ k d h. no_feed line plain k d h) refl in
    ap lines_of_parts cut ∙ (one_part_more line split (omega (arith, length-slice_split (λ b. b == 10) behind)) ∙ ap (λ l. l ∷ lines_of_parts split) (stripped line plain))

pub all_read : (values : List Json) → AllByRecursion IsValueInOneLine values → ReadsAs (json_text values) values
all_read [] h = refl
all_read (j ∷ values) h =
    ap (map document) (one_line_more (print (json_tokens j)) (json_text values) h.0.plain)
    ∙ ap₂ (λ x xs. x ∷ xs) h.0.read (all_read values h.1)
