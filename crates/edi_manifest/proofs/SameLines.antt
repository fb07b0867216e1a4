-- Texts, and the lines that they are of.
use Rattle.std.proofs.Common.{◌≡◌, ℕ, zero, suc, ◌+◌, ◌<◌, inl, List, [], ◌∷◌, ◌++◌, length, map, get_or, take, IsPermutation, codes, set, refl, sym, ap, ◌∙◌, subst, arith}
use Rattle.std.specs.List.{AllByRecursion, concat, swap}
use Rattle.std.specs.List.Sorted.{apply_swaps, SwapsInRange, IsSorted}
use Rattle.std.proofs.lemmas.List.{append_assoc, append-nil, length-map, take_more}
use Rattle.std.proofs.lemmas.List.Elements.{recursion_from_All, All-from_recursion}
use Rattle.std.proofs.lemmas.List.Folds.{concat-append}
use Rattle.std.proofs.lemmas.List.Sorted.{IsPermutation-map, IsPermutation-sym, IsPermutation-trans, All-permutation}
use Rattle.edi_line.specs.Lines.{IsEnded, AreLines, IsLinesOf}
use Rattle.edi_line.specs.inner.Lines.{lines_in}
use Rattle.edi_line.proofs.Cut.{lines_unique}
use Rattle.edi_record.specs.Orders.{bytes_cmp}
use Rattle.edi_schema.specs.Sorted.{sort_by}
use Rattle.edi_schema.proofs.SortedLists.{counts_from_permutation, IsPermutation-sort_by, sort_by-same, sorted_is}
use Rattle.edi_manifest.specs.ManifestText.{IsManifestLine, manifest_line, manifest_lines, manifest_head, manifest_body, last_line, manifest_text}
use Rattle.edi_manifest.specs.declared.line.ManifestLine.{ManifestLine}
use Rattle.edi_manifest.proofs.ByteOrder.{bytes_total, bytes_exact}
use Rattle.edi_manifest.proofs.LineTexts.{line_same, line_ended, last_ended}

-- ---- the sorted lines

pub lines_sorted : (lines : List ManifestLine) (texts sorted : List (List ℕ)) → texts ≡ map manifest_line lines → IsPermutation texts sorted → IsSorted bytes_cmp sorted → sorted ≡ manifest_lines lines
lines_sorted lines texts sorted are moved up = sorted_is bytes_cmp bytes_total bytes_exact texts sorted moved up ∙ ap (sort_by bytes_cmp) are

pub concat_more : (texts : List (List ℕ)) (i : ℕ) (d : List ℕ) → i < length texts → concat (take (i + 1) texts) ≡ concat (take i texts) ++ get_or texts i d
concat_more texts i d below = ap concat (take_more texts i d below) ∙ (concat-append (take i texts) (get_or texts i d ∷ []) ∙ ap (λ t. concat (take i texts) ++ t) (append-nil (get_or texts i d)))

-- ---- the lines of a text

all_ended : (texts : List (List ℕ)) → AllByRecursion IsEnded texts → AreLines texts
all_ended [] h = tt
all_ended (t ∷ []) h = inl h.0
all_ended (t ∷ u ∷ ts) h = (h.0, all_ended (u ∷ ts) h.1)

map_ended : (lines : List ManifestLine) → AllByRecursion IsManifestLine lines → AllByRecursion IsEnded (map manifest_line lines)
map_ended [] h = tt
map_ended (l ∷ ls) h = (line_ended l h.0, map_ended ls h.1)

pub moved_all : (P : List ℕ → Type 0) (xs ys : List (List ℕ)) → IsPermutation xs ys → AllByRecursion P xs → AllByRecursion P ys
moved_all P xs ys moved h = recursion_from_All P ys (All-permutation P xs ys moved (All-from_recursion P xs h))

all_push : (P : List ℕ → Type 0) (xs : List (List ℕ)) (x : List ℕ) → AllByRecursion P xs → P x → AllByRecursion P (xs ++ x ∷ [])
all_push P [] x h k = (k, tt)
all_push P (y ∷ ys) x h k = (h.0, all_push P ys x h.1 k)

sorted_ended : (lines : List ManifestLine) → AllByRecursion IsManifestLine lines → AllByRecursion IsEnded (manifest_lines lines)
sorted_ended lines h =
    moved_all IsEnded (map manifest_line lines) (manifest_lines lines)
    (IsPermutation-sym (manifest_lines lines) (map manifest_line lines) (IsPermutation-sort_by bytes_cmp bytes_total (map manifest_line lines))) (map_ended lines h)

head_ended : IsEnded manifest_head
head_ended = record { bytes = codes "edicad manifest 1"; no_feed = search arith; ended = refl }

-- the head, the lines and the last line
abbrev all_lines : List ManifestLine → List (List ℕ)
all_lines lines = manifest_head ∷ (manifest_lines lines ++ last_line (manifest_body lines) ∷ [])

text_lines : (lines : List ManifestLine) → AllByRecursion IsManifestLine lines → IsLinesOf (manifest_text lines) (all_lines lines)
text_lines lines h = record {
  joined = ap (λ t. manifest_head ++ t) (concat-append (manifest_lines lines) (last_line (manifest_body lines) ∷ []) ∙ ap (λ t. concat (manifest_lines lines) ++ t) (append-nil (last_line (manifest_body lines))))
      ∙ sym (append_assoc manifest_head (concat (manifest_lines lines)) (last_line (manifest_body lines)));
  each = all_ended (all_lines lines) (head_ended, all_push IsEnded (manifest_lines lines) (last_line (manifest_body lines)) (sorted_ended lines h) (last_ended (manifest_body lines)));
}

pub push_same : {X : Type 0} (xs ys : List X) (x y : X) → xs ++ x ∷ [] ≡ ys ++ y ∷ [] → xs ≡ ys
push_same [] [] x y e = refl
push_same [] (z ∷ []) x y e = absurd cc
push_same [] (z ∷ w ∷ ys) x y e = absurd cc
push_same (z ∷ []) [] x y e = absurd cc
push_same (z ∷ w ∷ xs) [] x y e = absurd cc
push_same (z ∷ xs) (w ∷ ys) x y e =
    let head : z ≡ w = cc in
    let tail : xs ++ x ∷ [] ≡ ys ++ y ∷ [] = cc in
    ap (λ t. t ∷ xs) head ∙ ap (λ t. w ∷ t) (push_same xs ys x y tail)

tail_same : (x y : List ℕ) (xs ys : List (List ℕ)) → x ∷ xs ≡ y ∷ ys → xs ≡ ys
tail_same x y xs ys e = cc

sorted_same : (ls ms : List ManifestLine) → AllByRecursion IsManifestLine ls → AllByRecursion IsManifestLine ms → manifest_text ls ≡ manifest_text ms → manifest_lines ls ≡ manifest_lines ms
sorted_same ls ms h k e =
    let whole : all_lines ls ≡ all_lines ms = lines_unique (manifest_text ls) (all_lines ls) (text_lines ls h) ∙ (ap lines_in e ∙ sym (lines_unique (manifest_text ms) (all_lines ms) (text_lines ms k))) in
    push_same (manifest_lines ls) (manifest_lines ms) (last_line (manifest_body ls)) (last_line (manifest_body ms)) (tail_same manifest_head manifest_head _ _ whole)

-- ---- lists of lines

map_same : (ls ms : List ManifestLine) → AllByRecursion IsManifestLine ls → AllByRecursion IsManifestLine ms → map manifest_line ls ≡ map manifest_line ms → ls ≡ ms
map_same [] [] h k e = refl
map_same [] (m ∷ ms) h k e = absurd cc
map_same (l ∷ ls) [] h k e = absurd cc
map_same (l ∷ ls) (m ∷ ms) h k e =
    let head : manifest_line l ≡ manifest_line m = cc in
    let tail : map manifest_line ls ≡ map manifest_line ms = cc in
    ap (λ t. t ∷ ls) (line_same l m h.0 k.0 head) ∙ ap (λ t. m ∷ t) (map_same ls ms h.1 k.1 tail)

-- ---- the same lines in another order

get_map : {X Y : Type 0} (f : X → Y) (xs : List X) (k : ℕ) (d : X) → get_or (map f xs) k (f d) ≡ f (get_or xs k d)
get_map f [] k d = refl
get_map f (x ∷ xs) zero d = refl
get_map f (x ∷ xs) (suc k) d = get_map f xs k d

set_map : {X Y : Type 0} (f : X → Y) (xs : List X) (k : ℕ) (v : X) → set (map f xs) k (f v) ≡ map f (set xs k v)
set_map f [] k v = refl
set_map f (x ∷ xs) zero v = refl
set_map f (x ∷ xs) (suc k) v = ap (λ t. f x ∷ t) (set_map f xs k v)

swap_map : {X Y : Type 0} (f : X → Y) (xs : List X) (i j : ℕ) → swap (map f xs) i j ≡ map f (swap xs i j)
swap_map f [] i j = refl
swap_map f (d ∷ ys) i j =
    ap (λ v. set (set (f d ∷ map f ys) i v) j (get_or (f d ∷ map f ys) i (f d))) (get_map f (d ∷ ys) j d)
    ∙ (ap (λ v. set (set (f d ∷ map f ys) i (f (get_or (d ∷ ys) j d))) j v) (get_map f (d ∷ ys) i d)
    ∙ (ap (λ t. set t j (f (get_or (d ∷ ys) i d))) (set_map f (d ∷ ys) i (get_or (d ∷ ys) j d))
    ∙ set_map f (set (d ∷ ys) i (get_or (d ∷ ys) j d)) j (get_or (d ∷ ys) i d)))

swaps_map : {X Y : Type 0} (f : X → Y) (xs : List X) (moves : List (ℕ × ℕ)) → apply_swaps (map f xs) moves ≡ map f (apply_swaps xs moves)
swaps_map f xs [] = refl
swaps_map f xs (p ∷ ps) = ap (λ t. swap t p.0 p.1) (swaps_map f xs ps) ∙ swap_map f (apply_swaps xs ps) p.0 p.1

moved_back : (ls ms : List ManifestLine) → AllByRecursion IsManifestLine ls → AllByRecursion IsManifestLine ms → IsPermutation (map manifest_line ls) (map manifest_line ms) → IsPermutation ls ms
moved_back ls ms h k moved =
    let there : IsPermutation ls (apply_swaps ls moved.moves) = record { moves = moved.moves; below = subst (λ n. SwapsInRange n moved.moves) (length-map ls manifest_line) moved.below; is = refl } in
    let kept : AllByRecursion IsManifestLine (apply_swaps ls moved.moves) = recursion_from_All IsManifestLine _ (All-permutation IsManifestLine ls _ there (All-from_recursion IsManifestLine ls h)) in
    let same : ms ≡ apply_swaps ls moved.moves = map_same ms (apply_swaps ls moved.moves) k kept (moved.is ∙ swaps_map manifest_line ls moved.moves) in
    subst (IsPermutation ls) (sym same) there

pub same_body : (ls ms : List ManifestLine) → IsPermutation ls ms → manifest_body ls ≡ manifest_body ms
same_body ls ms moved =
    ap (λ ts. manifest_head ++ concat ts) (sort_by-same bytes_cmp bytes_total bytes_exact (map manifest_line ls) (map manifest_line ms)
    (counts_from_permutation (map manifest_line ls) (map manifest_line ms) (IsPermutation-map manifest_line ls ms moved)))

pub same_text : (ls ms : List ManifestLine) → IsPermutation ls ms → manifest_text ls ≡ manifest_text ms
same_text ls ms moved = ap (λ body. body ++ last_line body) (same_body ls ms moved)

pub text_same : (ls ms : List ManifestLine) → AllByRecursion IsManifestLine ls → AllByRecursion IsManifestLine ms → manifest_text ls ≡ manifest_text ms → IsPermutation ls ms
text_same ls ms h k e =
    let sorted = sorted_same ls ms h k e in
    let one = IsPermutation-sym (manifest_lines ls) (map manifest_line ls) (IsPermutation-sort_by bytes_cmp bytes_total (map manifest_line ls)) in
    let other = IsPermutation-sort_by bytes_cmp bytes_total (map manifest_line ms) in
    moved_back ls ms h k (IsPermutation-trans (map manifest_line ls) (manifest_lines ls) (map manifest_line ms) one (subst (λ ts. IsPermutation ts (map manifest_line ms)) (sym sorted) other))

-- ---- the text as it is put together

pub body_more : (body new added : List ℕ) (texts : List (List ℕ)) (i : ℕ) (d : List ℕ) → i < length texts → body ≡ manifest_head ++ concat (take i texts) → added ≡ get_or texts i d → new ≡ body ++ added
    → new ≡ manifest_head ++ concat (take (i + 1) texts)
body_more body new added texts i d below so_far is put =
    put ∙ (ap (λ t. t ++ added) so_far ∙ (append_assoc manifest_head (concat (take i texts)) added
    ∙ ap (λ t. manifest_head ++ t) (ap (λ t. concat (take i texts) ++ t) is ∙ sym (concat_more texts i d below))))

pub text_made : (lines : List ManifestLine) (text lent last lent_last new : List ℕ) → text ≡ manifest_body lines → lent ≡ text → last ≡ last_line lent → lent_last ≡ last → new ≡ text ++ lent_last → new ≡ manifest_text lines
text_made lines text lent last lent_last new body same is same_last put =
    put ∙ (ap (λ t. text ++ t) (same_last ∙ (is ∙ ap last_line (same ∙ body))) ∙ ap (λ t. t ++ last_line (manifest_body lines)) body)
