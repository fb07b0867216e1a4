-- The part that a file is by its first line of a type.
use Rattle.std.proofs.Common.{◌≡◌, ◌∙◌, ◌<◌, ◌≤◌, ◌⊎◌, inl, inr, ◌++◌, ◌∷◌, ℕ, Bool, true, false, cond, List, [], Option, Some, None, MatchOption, length, take, drop, refl, sym, ap, subst, arith, codes, bytes_eq, nat_eq, if◌then◌else◌}
use Rattle.std.specs.List.{AllByRecursion, starts_with}
use Rattle.std.proofs.lemmas.Bool.{cases_lt, false_from_ne_true}
use Rattle.std.proofs.lemmas.List.{length-take-le, take-append-drop, take_at, take_all}
use Rattle.std.proofs.lemmas.Slice.Eq.{bytes_eq-Decides}
use Rattle.edi_line.proofs.Cut.{lines_exist, lines_unique}
use Rattle.edi_line.specs.inner.Lines.{lines_in}
use Rattle.edi_explain.specs.Hints.{IsPartAmong, IsPartIfAny, part_typed, type_head}
use Rattle.edi_explain.specs.declared.hints.DeliveryPart.{DeliveryPart}

-- the part that the first line of a type is of
abbrev pub part_in : List (List ℕ) → Option DeliveryPart
part_in [] = None
part_in (line ∷ lines) = if starts_with nat_eq line type_head then part_typed (take 3 (drop 8 line)) else part_in lines

-- only three bytes are a type
no_type : (value : List ℕ) → length value < 3 → part_typed value ≡ None
no_type value few =
    rw (
      other (codes "GTS") refl,
      other (codes "GTL") refl,
      other (codes "DEG") refl,
      other (codes "GSE") refl,
      other (codes "GEO") refl,
      other (codes "RPR") refl,
      other (codes "QUP") refl,
      other (codes "OBJ") refl,
      other (codes "PGE") refl,
      other (codes "REL") refl,
      other (codes "ATT") refl,
      other (codes "DID") refl,
      other (codes "DIA") refl,
      other (codes "DIR") refl,
      other (codes "PNO") refl,
      other (codes "PAR") refl,
      other (codes "PFE") refl,
      other (codes "FEA") refl,
      other (codes "LNK") refl,
    ) refl
  where
    other : (code : List ℕ) → length code ≡ 3 → bytes_eq value code ≡ false
    other code three = false_from_ne_true _ (λ e. omega (arith, few, three, ap length ((bytes_eq-Decides value code).0 e)))

three_typed : (value : List ℕ) (part : DeliveryPart) → part_typed (take 3 value) ≡ Some part → length (take 3 value) ≡ 3
three_typed value part e = go (cases_lt (length value) 3)
  where
    go : (length value < 3) ⊎ (3 ≤ length value) → length (take 3 value) ≡ 3
    go (inr enough) = length-take-le 3 value enough
    go (inl few) = let none : None ≡ Some part = sym (no_type (take 3 value) (subst (λ v. length v < 3) (sym (take_all 3 value (omega (arith, few)))) few)) ∙ e in absurd cc

begun : (line : List ℕ) → starts_with nat_eq line type_head ≡ true → line ≡ type_head ++ (take 3 (drop 8 line) ++ drop 3 (drop 8 line))
begun line e =
    sym (take-append-drop 8 line) ∙ (ap (λ xs. xs ++ drop 8 line) (sym ((bytes_eq-Decides type_head (take 8 line)).0 e))
    ∙ ap (λ xs. type_head ++ xs) (sym (take-append-drop 3 (drop 8 line))))

by_head : (line : List ℕ) (lines : List (List ℕ)) → starts_with nat_eq line type_head ≡ true → (found : Option DeliveryPart) → found ≡ part_typed (take 3 (drop 8 line))
    → MatchOption found ((part : DeliveryPart) → ¬ (IsPartAmong (line ∷ lines) part)) (IsPartAmong (line ∷ lines))
by_head line lines begins (Some part) e = record {
  before = [];
  value = take 3 (drop 8 line);
  rest = drop 3 (drop 8 line);
  after = lines;
  cut = ap (λ l. l ∷ lines) (begun line begins);
  first = tt;
  three = three_typed (drop 8 line) part (sym e);
  typed = sym e;
}
by_head line lines begins None e = λ part h. go part h.before h.value h.rest h.after h.cut h.first h.three h.typed
  where
    go : (part : DeliveryPart) (before : List (List ℕ)) (value rest : List ℕ) (after : List (List ℕ)) → line ∷ lines ≡ before ++ (type_head ++ (value ++ rest)) ∷ after
        → AllByRecursion (λ l. starts_with nat_eq l type_head ≡ false) before → length value ≡ 3 → part_typed value ≡ Some part → ⊥
    go part [] value rest after cut first three typed =
        let here : line ≡ type_head ++ (value ++ rest) = cc in
        let none : None ≡ Some part = e ∙ (ap (λ l. part_typed (take 3 (drop 8 l))) here ∙ (ap part_typed (take_at value rest 3 three) ∙ typed)) in
        cc
    go part (other ∷ before) value rest after cut first three typed =
        let here : line ≡ other = cc in
        let no : true ≡ false = sym begins ∙ (ap (λ l. starts_with nat_eq l type_head) here ∙ first.0) in
        cc

later : (line : List ℕ) (lines : List (List ℕ)) → starts_with nat_eq line type_head ≡ false → (found : Option DeliveryPart)
    → MatchOption found ((part : DeliveryPart) → ¬ (IsPartAmong lines part)) (IsPartAmong lines)
    → MatchOption found ((part : DeliveryPart) → ¬ (IsPartAmong (line ∷ lines) part)) (IsPartAmong (line ∷ lines))
later line lines begins (Some part) h = record {
  before = line ∷ h.before;
  value = h.value;
  rest = h.rest;
  after = h.after;
  cut = ap (λ ls. line ∷ ls) h.cut;
  first = (begins, h.first);
  three = h.three;
  typed = h.typed;
}
later line lines begins None none = λ part h. go part h.before h.value h.rest h.after h.cut h.first h.three h.typed
  where
    go : (part : DeliveryPart) (before : List (List ℕ)) (value rest : List ℕ) (after : List (List ℕ)) → line ∷ lines ≡ before ++ (type_head ++ (value ++ rest)) ∷ after
        → AllByRecursion (λ l. starts_with nat_eq l type_head ≡ false) before → length value ≡ 3 → part_typed value ≡ Some part → ⊥
    go part [] value rest after cut first three typed =
        let here : line ≡ type_head ++ (value ++ rest) = cc in
        let yes : false ≡ true = sym begins ∙ ap (λ l. starts_with nat_eq l type_head) here in
        cc
    go part (other ∷ before) value rest after cut first three typed =
        let more : lines ≡ before ++ (type_head ++ (value ++ rest)) ∷ after = cc in
        none part (record { before = before; value = value; rest = rest; after = after; cut = more; first = first.1; three = three; typed = typed })

among : (lines : List (List ℕ)) → MatchOption (part_in lines) ((part : DeliveryPart) → ¬ (IsPartAmong lines part)) (IsPartAmong lines)
among [] = λ part h. go (type_head ++ (h.value ++ h.rest)) h.after h.before h.cut
  where
    go : (x : List ℕ) (after before : List (List ℕ)) → [] ≡ before ++ x ∷ after → ⊥
    go x after [] e = cc
    go x after (l ∷ before) e = cc
among (line ∷ lines) = go (starts_with nat_eq line type_head) refl (among lines)
  where
    go : (b : Bool) → starts_with nat_eq line type_head ≡ b → MatchOption (part_in lines) ((part : DeliveryPart) → ¬ (IsPartAmong lines part)) (IsPartAmong lines)
        → MatchOption (cond b (part_typed (take 3 (drop 8 line))) (part_in lines)) ((part : DeliveryPart) → ¬ (IsPartAmong (line ∷ lines) part)) (IsPartAmong (line ∷ lines))
    go true e rest = by_head line lines e (part_typed (take 3 (drop 8 line))) refl
    go false e rest = later line lines e (part_in lines) rest

pub head_found : (line : List ℕ) (lines : List (List ℕ)) → starts_with nat_eq line type_head ≡ true → part_in (line ∷ lines) ≡ part_typed (take 3 (drop 8 line))
head_found line lines e = ap (λ b. cond b (part_typed (take 3 (drop 8 line))) (part_in lines)) e

-- the part that reading line by line finds is the one that the file is, if it is any
pub part_found : (bytes : List ℕ) (found : Option DeliveryPart) → found ≡ part_in (lines_in bytes) → IsPartIfAny bytes found
part_found bytes found e = go found (subst (λ (o : Option DeliveryPart). MatchOption o ((part : DeliveryPart) → ¬ (IsPartAmong (lines_in bytes) part)) (IsPartAmong (lines_in bytes))) (sym e) (among (lines_in bytes)))
  where
    go : (o : Option DeliveryPart) → MatchOption o ((part : DeliveryPart) → ¬ (IsPartAmong (lines_in bytes) part)) (IsPartAmong (lines_in bytes)) → IsPartIfAny bytes o
    go (Some part) h = (lines_in bytes, lines_exist bytes, h)
    go None none = λ part h. none part (subst (λ ls. IsPartAmong ls part) (lines_unique bytes h.0 h.1) h.2)
