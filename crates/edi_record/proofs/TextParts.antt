-- Texts in parts.
use Rattle.std.proofs.Common.{◌≡◌, ℕ, ◌+◌, ◌<◌, ◌⊎◌, ◌↔◌, Bool, true, false, cond, eqb, inl, inr, List, [], ◌∷◌, ◌++◌, length, take, drop, Option, Some, None, is_some, option_map, MatchOption, position, All, ℤ, refl, sym, ap, ◌∙◌, subst, arith}
use Rattle.std.specs.List.{AllByRecursion, onto_first, join_with_byte, AllZip}
use Rattle.std.proofs.lemmas.Bool.{ne_eqb, eqb-true}
use Rattle.std.proofs.lemmas.List.Elements.{All-from_recursion}
use Rattle.std.proofs.lemmas.List.{append_assoc, nil_from_length}
use Rattle.std.proofs.lemmas.List.Splits.{slice_split_at, slice_split_none, slice_split_first, join_with_byte-slice_split, length-slice_split}
use Rattle.edi_line.specs.Number.{IsNumberText}
use Rattle.edi_line.specs.inner.Number.{number}
use Rattle.std.proofs.lemmas.List.Sums.{fails_before_first}
use Rattle.edi_line.proofs.Numbers.{position_at_Some, position_at_None}
use Rattle.edi_line.proofs.NumberRead.{number_is, number_lacks, number_says, same_number}
use Rattle.edi_record.specs.Texts.{shown, is_semicolon, PointerText, IsPointer, coordinates, IsPosition}
use Rattle.edi_record.specs.inner.Texts.{parts, pointer_of, pointer, flat_place, high_place, point_of, point_in, last_part, AreCut}
use Rattle.edi_record.specs.declared.record.Point.{Point}
use Rattle.edi_record.specs.declared.pointer.Pointer.{Pointer}

abbrev Lacks : List ℕ → Type 0
Lacks part = AllByRecursion (λ c. eqb c 59 ≡ false) part

onto_lacks : (x : ℕ) (ps : List (List ℕ)) → eqb x 59 ≡ false → AllByRecursion Lacks ps → AllByRecursion Lacks (onto_first x ps)
onto_lacks x [] e h = ((e, tt), tt)
onto_lacks x (p ∷ ps) e h = ((e, h.0), h.1)

pub parts_lack : (text : List ℕ) → AllByRecursion Lacks (parts text)
parts_lack [] = (tt, tt)
parts_lack (x ∷ xs) = go (eqb x 59) refl (parts_lack xs)
  where
    go : (b : Bool) → eqb x 59 ≡ b → AllByRecursion Lacks (parts xs) → AllByRecursion Lacks (cond b ([] ∷ parts xs) (onto_first x (parts xs)))
    go true e h = (tt, h)
    go false e h = onto_lacks x (parts xs) e h

pub all_lack : (part : List ℕ) → Lacks part → All (λ c. eqb c 59 ≡ false) part
all_lack part h = All-from_recursion (λ c. eqb c 59 ≡ false) part h

joined_again : (text : List ℕ) (ps : List (List ℕ)) → parts text ≡ ps → text ≡ join_with_byte 59 ps
joined_again text ps e = sym (join_with_byte-slice_split 59 text) ∙ ap (join_with_byte 59) e

-- ---- pointers

pointer_here : (text : List ℕ) (p : PointerText) → pointer text ≡ Some p → IsPointer text p
unfolding pointer
pointer_here text p e = go (parts text) refl e (parts_lack text)
  where
    go : (ps : List (List ℕ)) → parts text ≡ ps → pointer_of ps ≡ Some p → AllByRecursion Lacks ps → IsPointer text p
    go (a ∷ b ∷ c ∷ d ∷ []) q e h =
        let same : (let x : PointerText = record { lot = a; subset = b; rty = c; rid = d } in x) ≡ p = cc in
        subst (IsPointer text) same (record {
          is = joined_again text (a ∷ b ∷ c ∷ d ∷ []) q;
          lot_part = all_lack a h.0;
          subset_part = all_lack b h.1.0;
          rty_part = all_lack c h.1.1.0;
          rid_part = all_lack d h.1.1.1.0;
        })
    go [] q e h = absurd cc
    go (a ∷ []) q e h = absurd cc
    go (a ∷ b ∷ []) q e h = absurd cc
    go (a ∷ b ∷ c ∷ []) q e h = absurd cc
    go (a ∷ b ∷ c ∷ d ∷ x ∷ more) q e h = absurd cc

pointer_parts : (text : List ℕ) (p : PointerText) → IsPointer text p → parts text ≡ p.lot ∷ p.subset ∷ p.rty ∷ p.rid ∷ []
pointer_parts text p h =
    ap parts h.is
    ∙ slice_split_at is_semicolon p.lot 59 _ h.lot_part refl
    ∙ ap (λ t. p.lot ∷ t) (slice_split_at is_semicolon p.subset 59 _ h.subset_part refl
    ∙ ap (λ t. p.subset ∷ t) (slice_split_at is_semicolon p.rty 59 _ h.rty_part refl
    ∙ ap (λ t. p.rty ∷ t) (slice_split_none is_semicolon p.rid h.rid_part)))

pointer_read : (text : List ℕ) (p : PointerText) → IsPointer text p → pointer text ≡ Some p
unfolding pointer
pointer_read text p h = ap pointer_of (pointer_parts text p h)

pub pointer_is : (text : List ℕ) (p : PointerText) → pointer text ≡ Some p ↔ IsPointer text p
pointer_is text p = (pointer_here text p, pointer_read text p)

-- ---- places

abbrev pub Says : List (List ℕ) → Point → Type 0
Says numbers p = AllZip IsNumberText numbers (coordinates p)

flat_here : (x y : List ℕ) (p : Point) → flat_place (number x) (number y) ≡ Some p → Says (x ∷ y ∷ []) p
flat_here x y p e = go (number x) refl (number y) refl e
  where
    go : (a : Option ℤ) → number x ≡ a → (b : Option ℤ) → number y ≡ b → flat_place a b ≡ Some p → Says (x ∷ y ∷ []) p
    go (Some m) q (Some n) r e =
        let same : (let c : Point = record { x = m; y = n; z = None } in c) ≡ p = cc in
        subst (Says (x ∷ y ∷ [])) same ((number_is x m).0 q, ((number_is y n).0 r, tt))
    go (Some m) q None r e = absurd cc
    go None q (Some n) r e = absurd cc
    go None q None r e = absurd cc

high_here : (x y z : List ℕ) (p : Point) → high_place (number x) (number y) (number z) ≡ Some p → Says (x ∷ y ∷ z ∷ []) p
high_here x y z p e = go (number x) refl (number y) refl (number z) refl e
  where
    go : (a : Option ℤ) → number x ≡ a → (b : Option ℤ) → number y ≡ b → (c : Option ℤ) → number z ≡ c → high_place a b c ≡ Some p → Says (x ∷ y ∷ z ∷ []) p
    go (Some m) q (Some n) r (Some o) s e =
        let same : (let d : Point = record { x = m; y = n; z = Some o } in d) ≡ p = cc in
        subst (Says (x ∷ y ∷ z ∷ [])) same ((number_is x m).0 q, ((number_is y n).0 r, ((number_is z o).0 s, tt)))
    go (Some m) q (Some n) r None s e = absurd cc
    go (Some m) q None r c s e = absurd cc
    go None q b r c s e = absurd cc

-- the text is these parts with a semicolon behind them
closed_again : (text a b : List ℕ) → text ≡ a ++ 59 ∷ (b ++ 59 ∷ []) → text ≡ (a ++ 59 ∷ b) ++ 59 ∷ []
closed_again text a b e = e ∙ sym (append_assoc a (59 ∷ b) (59 ∷ []))

closed_again_3 : (text a b c : List ℕ) → text ≡ a ++ 59 ∷ (b ++ 59 ∷ (c ++ 59 ∷ [])) → text ≡ (a ++ 59 ∷ (b ++ 59 ∷ c)) ++ 59 ∷ []
closed_again_3 text a b c e = e ∙ simp append_assoc

place_here : (text : List ℕ) (p : Point) → point_in text ≡ Some p → IsPosition text p
unfolding point_in
place_here text p e = go (parts text) refl e
  where
    go : (ps : List (List ℕ)) → parts text ≡ ps → point_of ps ≡ Some p → IsPosition text p
    go (x ∷ y ∷ []) q e = record { numbers = x ∷ y ∷ []; is = inl (joined_again text (x ∷ y ∷ []) q); say = flat_here x y p e }
    go (x ∷ y ∷ [] ∷ []) q e = record { numbers = x ∷ y ∷ []; is = inr (closed_again text x y (joined_again text (x ∷ y ∷ [] ∷ []) q)); say = flat_here x y p e }
    go (x ∷ y ∷ (c ∷ z) ∷ []) q e = record { numbers = x ∷ y ∷ (c ∷ z) ∷ []; is = inl (joined_again text (x ∷ y ∷ (c ∷ z) ∷ []) q); say = high_here x y (c ∷ z) p e }
    go (x ∷ y ∷ [] ∷ [] ∷ []) q e = record { numbers = x ∷ y ∷ [] ∷ []; is = inr (closed_again_3 text x y [] (joined_again text (x ∷ y ∷ [] ∷ [] ∷ []) q)); say = high_here x y [] p e }
    go (x ∷ y ∷ (c ∷ z) ∷ [] ∷ []) q e = record { numbers = x ∷ y ∷ (c ∷ z) ∷ []; is = inr (closed_again_3 text x y (c ∷ z) (joined_again text (x ∷ y ∷ (c ∷ z) ∷ [] ∷ []) q)); say = high_here x y (c ∷ z) p e }
    go [] q e = absurd cc
    go (x ∷ []) q e = absurd cc
    go (x ∷ y ∷ [] ∷ (d ∷ w) ∷ []) q e = absurd cc
    go (x ∷ y ∷ (c ∷ z) ∷ (d ∷ w) ∷ []) q e = absurd cc
    go (x ∷ y ∷ [] ∷ [] ∷ v ∷ more) q e = absurd cc
    go (x ∷ y ∷ [] ∷ (d ∷ w) ∷ v ∷ more) q e = absurd cc
    go (x ∷ y ∷ (c ∷ z) ∷ [] ∷ v ∷ more) q e = absurd cc
    go (x ∷ y ∷ (c ∷ z) ∷ (d ∷ w) ∷ v ∷ more) q e = absurd cc

-- a number holds no semicolon
no_semicolon : (x : List ℕ) (m : ℤ) → IsNumberText x m → All (λ c. eqb c 59 ≡ false) x
no_semicolon x m h = number_lacks 59 (λ c low high. ne_eqb c 59 (λ e. omega arith)) refl refl refl x m h

-- parts that hold no semicolon are found again
joined_parts : (a : List ℕ) (ns : List (List ℕ)) → AllByRecursion (λ n. All (λ c. eqb c 59 ≡ false) n) (a ∷ ns) → parts (join_with_byte 59 (a ∷ ns)) ≡ a ∷ ns
joined_parts a [] h = slice_split_none is_semicolon a h.0
joined_parts a (b ∷ ns) h = slice_split_at is_semicolon a 59 (join_with_byte 59 (b ∷ ns)) h.0 refl ∙ ap (λ t. a ∷ t) (joined_parts b ns h.1)

closed_parts : (a : List ℕ) (ns : List (List ℕ)) → AllByRecursion (λ n. All (λ c. eqb c 59 ≡ false) n) (a ∷ ns) → parts (join_with_byte 59 (a ∷ ns) ++ 59 ∷ []) ≡ (a ∷ ns) ++ [] ∷ []
closed_parts a [] h = slice_split_at is_semicolon a 59 [] h.0 refl
closed_parts a (b ∷ ns) h =
    ap parts (append_assoc a (59 ∷ join_with_byte 59 (b ∷ ns)) (59 ∷ []))
    ∙ slice_split_at is_semicolon a 59 (join_with_byte 59 (b ∷ ns) ++ 59 ∷ []) h.0 refl ∙ ap (λ t. a ∷ t) (closed_parts b ns h.1)

all_lack_numbers : (ns : List (List ℕ)) (ms : List ℤ) → AllZip IsNumberText ns ms → AllByRecursion (λ n. All (λ c. eqb c 59 ≡ false) n) ns
all_lack_numbers [] [] h = tt
all_lack_numbers [] (m ∷ ms) h = absurd h
all_lack_numbers (n ∷ ns) [] h = absurd h
all_lack_numbers (n ∷ ns) (m ∷ ms) h = (no_semicolon n m h.0, all_lack_numbers ns ms h.1)

some_parts_of : (text : List ℕ) (a : List ℕ) (ns : List (List ℕ)) → (text ≡ join_with_byte 59 (a ∷ ns)) ⊎ (text ≡ join_with_byte 59 (a ∷ ns) ++ 59 ∷ []) → AllByRecursion (λ n. All (λ c. eqb c 59 ≡ false) n) (a ∷ ns)
    → (parts text ≡ a ∷ ns) ⊎ (parts text ≡ (a ∷ ns) ++ [] ∷ [])
some_parts_of text a ns (inl e) h = inl (ap parts e ∙ joined_parts a ns h)
some_parts_of text a ns (inr e) h = inr (ap parts e ∙ closed_parts a ns h)

empty_is_none : number [] ≡ None
unfolding number
empty_is_none = refl

abbrev place_made : ℤ → ℤ → Option ℤ → Point
place_made x y z = record { x = x; y = y; z = z }

flat_read : (a b : List ℕ) (x y : ℤ) → IsNumberText a x → IsNumberText b y → flat_place (number a) (number b) ≡ Some (place_made x y None)
flat_read a b x y h k = rw ((number_is a x).1 h, (number_is b y).1 k) refl

high_read : (a b c : List ℕ) (x y z : ℤ) → IsNumberText a x → IsNumberText b y → IsNumberText c z → high_place (number a) (number b) (number c) ≡ Some (place_made x y (Some z))
high_read a b c x y z h k l = rw ((number_is a x).1 h, (number_is b y).1 k, (number_is c z).1 l) refl

third_open : (a b c : List ℕ) (z : ℤ) → IsNumberText c z → point_of (a ∷ b ∷ c ∷ []) ≡ high_place (number a) (number b) (number c)
third_open a b [] z h = let none : ◌≡◌ {A = Option ℤ} None (Some z) = sym empty_is_none ∙ (number_is [] z).1 h in absurd (cc)
third_open a b (d ∷ c) z h = refl

pub third_closed : (a b c : List ℕ) → point_of (a ∷ b ∷ c ∷ [] ∷ []) ≡ high_place (number a) (number b) (number c)
third_closed a b [] = refl
third_closed a b (d ∷ c) = refl

read_from : (text : List ℕ) (ns : List (List ℕ)) (x y : ℤ) (z : Option ℤ) → (text ≡ join_with_byte 59 ns) ⊎ (text ≡ join_with_byte 59 ns ++ 59 ∷ []) → Says ns (place_made x y z) → point_of (parts text) ≡ Some (place_made x y z)
read_from text (a ∷ b ∷ []) x y None is h = go (some_parts_of text a (b ∷ []) is (all_lack_numbers (a ∷ b ∷ []) (x ∷ y ∷ []) h))
  where
    go : (parts text ≡ a ∷ b ∷ []) ⊎ (parts text ≡ a ∷ b ∷ [] ∷ []) → point_of (parts text) ≡ Some (place_made x y None)
    go (inl e) = ap point_of e ∙ flat_read a b x y h.0 h.1.0
    go (inr e) = ap point_of e ∙ flat_read a b x y h.0 h.1.0
read_from text (a ∷ b ∷ c ∷ []) x y (Some z) is h = go (some_parts_of text a (b ∷ c ∷ []) is (all_lack_numbers (a ∷ b ∷ c ∷ []) (x ∷ y ∷ z ∷ []) h))
  where
    go : (parts text ≡ a ∷ b ∷ c ∷ []) ⊎ (parts text ≡ a ∷ b ∷ c ∷ [] ∷ []) → point_of (parts text) ≡ Some (place_made x y (Some z))
    go (inl e) = ap point_of e ∙ third_open a b c z h.1.1.0 ∙ high_read a b c x y z h.0 h.1.0 h.1.1.0
    go (inr e) = ap point_of e ∙ third_closed a b c ∙ high_read a b c x y z h.0 h.1.0 h.1.1.0
read_from text [] x y z is h = absurd h
read_from text (a ∷ []) x y z is h = absurd h.1
read_from text (a ∷ b ∷ []) x y (Some z) is h = absurd h.1.1
read_from text (a ∷ b ∷ c ∷ ns) x y None is h = absurd h.1.1
read_from text (a ∷ b ∷ c ∷ d ∷ ns) x y (Some z) is h = absurd h.1.1.1

place_read : (text : List ℕ) (p : Point) → IsPosition text p → point_in text ≡ Some p
unfolding point_in
place_read text p h = read_from text h.numbers p.x p.y p.z h.is h.say

pub place_is : (text : List ℕ) (p : Point) → point_in text ≡ Some p ↔ IsPosition text p
place_is text p = (place_here text p, place_read text p)

-- ---- the first cut

pub cut_at : (text : List ℕ) (at : ℕ) → position (λ c. eqb c 59) text ≡ Some at → parts text ≡ take at text ∷ parts (drop (at + 1) text)
cut_at text at e =
    let found = position_at_Some (λ c. eqb c 59) text at e in
    slice_split_first is_semicolon text 0 (omega (arith, found.0, found.1))
    ∙ ap (λ n. take n text ∷ parts (drop (n + 1) text)) found.0

pub cut_none : (text : List ℕ) → position (λ c. eqb c 59) text ≡ None → parts text ≡ text ∷ []
cut_none text e =
    let past = position_at_None (λ c. eqb c 59) text e in
    slice_split_none is_semicolon text (λ k d below. fails_before_first (λ c. eqb c 59) text k d (omega (arith, past, below)))

-- ---- a pointer, cut by cut

abbrev pointer_made : List ℕ → List ℕ → List ℕ → List ℕ → PointerText
pointer_made a b c d = record { lot = a; subset = b; rty = c; rid = d }

some_parts : (text : List ℕ) → 0 < length (parts text)
some_parts text = omega (arith, length-slice_split is_semicolon text)

pub no_cut : (text : List ℕ) → AreCut text None → None ≡ pointer text
unfolding pointer
no_cut text e = rw e refl

pub one_cut : (text a r : List ℕ) → AreCut text (Some (a, r)) → AreCut r None → None ≡ pointer text
unfolding pointer
one_cut text a r e f = rw (e, f) refl

pub two_cuts : (text a r b s : List ℕ) → AreCut text (Some (a, r)) → AreCut r (Some (b, s)) → AreCut s None → None ≡ pointer text
unfolding pointer
two_cuts text a r b s e f g = rw (e, f, g) refl

pub three_cuts : (text a r b s c d : List ℕ) → AreCut text (Some (a, r)) → AreCut r (Some (b, s)) → AreCut s (Some (c, d)) → AreCut d None → Some (pointer_made a b c d) ≡ pointer text
unfolding pointer
three_cuts text a r b s c d e f g h = rw (e, f, g, h) refl

five_parts : (a b c x : List ℕ) (ps : List (List ℕ)) → 0 < length ps → None ≡ pointer_of (a ∷ b ∷ c ∷ x ∷ ps)
five_parts a b c x [] some = absurd (omega arith)
five_parts a b c x (p ∷ ps) some = refl

pub four_cuts : (text a r b s c d x y : List ℕ) → AreCut text (Some (a, r)) → AreCut r (Some (b, s)) → AreCut s (Some (c, d)) → AreCut d (Some (x, y)) → None ≡ pointer text
unfolding pointer
four_cuts text a r b s c d x y e f g h = rw (e, f, g, h) (five_parts a b c x (parts y) (some_parts y))

pub cut_again : {X : Type 0} (f : X → List ℕ × List ℕ) (o : Option X) (test : Bool) (text a r b s c d : List ℕ) → test ≡ is_some o → test ≡ true
    → AreCut text (Some (a, r)) → AreCut r (Some (b, s)) → AreCut s (Some (c, d)) → AreCut d (option_map f o) → None ≡ pointer text
cut_again f (Some x) test text a r b s c d t met e g h k = four_cuts text a r b s c d (f x).0 (f x).1 e g h k
cut_again f None test text a r b s c d t met e g h k = let n : false ≡ true = sym t ∙ met in absurd (cc)

pub cut_last : {X : Type 0} (f : X → List ℕ × List ℕ) (o : Option X) (test : Bool) (text a r b s c d : List ℕ) → test ≡ is_some o → test ≡ false
    → AreCut text (Some (a, r)) → AreCut r (Some (b, s)) → AreCut s (Some (c, d)) → AreCut d (option_map f o) → Some (pointer_made a b c d) ≡ pointer text
cut_last f None test text a r b s c d t not_yet e g h k = three_cuts text a r b s c d e g h k
cut_last f (Some x) test text a r b s c d t not_yet e g h k = let n : true ≡ false = sym t ∙ not_yet in absurd (cc)

-- ---- a place, cut by cut

none_left : (t : List ℕ) → parts t ≡ [] → ⊥
none_left t e = let n = some_parts t in absurd (omega (arith, n, ap length e))

pub more_left : (text p q : List ℕ) → AreCut text (Some (p, q)) → (q ≡ [] → ⊥) → None ≡ last_part (parts text)
more_left text p q e some = rw e (go (parts q) refl)
  where
    go : (ps : List (List ℕ)) → parts q ≡ ps → None ≡ last_part (p ∷ ps)
    go [] f = absurd (none_left q f)
    go ([] ∷ []) f = absurd (some (joined_again q ([] ∷ []) f))
    go ((c ∷ cs) ∷ []) f = refl
    go ([] ∷ r ∷ rs) f = refl
    go ((c ∷ cs) ∷ r ∷ rs) f = refl

pub no_coordinates : (text : List ℕ) → AreCut text None → None ≡ point_in text
unfolding point_in
no_coordinates text e = rw e refl

pub two_open : (text x r : List ℕ) → AreCut text (Some (x, r)) → AreCut r None → flat_place (number x) (number r) ≡ point_in text
unfolding point_in
two_open text x r e f = rw (e, f) refl

pub two_closed : (text x r y t : List ℕ) → AreCut text (Some (x, r)) → AreCut r (Some (y, t)) → t ≡ [] → flat_place (number x) (number y) ≡ point_in text
unfolding point_in
two_closed text x r y t e f g = rw (e, f, g) refl

pub three_open : (text x r y t z : List ℕ) → AreCut text (Some (x, r)) → AreCut r (Some (y, t)) → (t ≡ [] → ⊥) → Some z ≡ last_part (parts t) → high_place (number x) (number y) (number z) ≡ point_in text
unfolding point_in
three_open text x r y t z e f some l = rw (e, f) (go (parts t) refl l)
  where
    go : (ps : List (List ℕ)) → parts t ≡ ps → Some z ≡ last_part ps → high_place (number x) (number y) (number z) ≡ point_of (x ∷ y ∷ ps)
    go [] g l = absurd (none_left t g)
    go ([] ∷ []) g l = absurd (some (joined_again t ([] ∷ []) g))
    go ((c ∷ cs) ∷ []) g l = let same : z ≡ c ∷ cs = cc in rw same refl
    go (w ∷ [] ∷ []) g l = let same : z ≡ w = cc in rw same (sym (third_closed x y w))
    go (w ∷ (c ∷ cs) ∷ []) g l = absurd cc
    go (w ∷ [] ∷ v ∷ vs) g l = absurd cc
    go (w ∷ (c ∷ cs) ∷ v ∷ vs) g l = absurd cc

pub no_third : (text x r y t : List ℕ) → AreCut text (Some (x, r)) → AreCut r (Some (y, t)) → (t ≡ [] → ⊥) → None ≡ last_part (parts t) → None ≡ point_in text
unfolding point_in
no_third text x r y t e f some l = rw (e, f) (go (parts t) refl l)
  where
    go : (ps : List (List ℕ)) → parts t ≡ ps → None ≡ last_part ps → None ≡ point_of (x ∷ y ∷ ps)
    go [] g l = absurd (none_left t g)
    go ([] ∷ []) g l = absurd cc
    go ((c ∷ cs) ∷ []) g l = absurd cc
    go ([] ∷ [] ∷ []) g l = absurd cc
    go ((d ∷ ds) ∷ [] ∷ []) g l = absurd cc
    go ([] ∷ (c ∷ cs) ∷ []) g l = refl
    go ((d ∷ ds) ∷ (c ∷ cs) ∷ []) g l = refl
    go ([] ∷ [] ∷ v ∷ vs) g l = refl
    go ((d ∷ ds) ∷ [] ∷ v ∷ vs) g l = refl
    go ([] ∷ (c ∷ cs) ∷ v ∷ vs) g l = refl
    go ((d ∷ ds) ∷ (c ∷ cs) ∷ v ∷ vs) g l = refl

pub not_empty : (t : List ℕ) (e : Bool) → e ≡ eqb (length t) 0 → e ≡ false → t ≡ [] → ⊥
not_empty t e is full empty = let f : true ≡ false = sym (is ∙ ap (λ s. eqb (length s) 0) empty) ∙ full in absurd (cc)

pub is_nil : (t : List ℕ) (e : Bool) → e ≡ eqb (length t) 0 → e ≡ true → t ≡ []
is_nil t e is empty = nil_from_length t (eqb-true _ _ (sym is ∙ empty))

-- ---- what is found

pub pointer_one : (text : List ℕ) (p q : PointerText) → IsPointer text p → IsPointer text q → p ≡ q
pointer_one text p q h k = let e : Some p ≡ Some q = sym ((pointer_is text p).1 h) ∙ (pointer_is text q).1 k in cc

pub place_one : (text : List ℕ) (p q : Point) → IsPosition text p → IsPosition text q → p ≡ q
place_one text p q h k = let e : Some p ≡ Some q = sym ((place_is text p).1 h) ∙ (place_is text q).1 k in cc

pub no_pointer : (text : List ℕ) → None ≡ pointer text → (p : PointerText) → ¬ (IsPointer text p)
no_pointer text e p h = let f : ◌≡◌ {A = Option PointerText} None (Some p) = e ∙ (pointer_is text p).1 h in absurd cc

pub some_pointer : (text : List ℕ) (p : PointerText) → Some p ≡ pointer text → IsPointer text p
some_pointer text p e = (pointer_is text p).0 (sym e)

-- what a call of `read` found, as the function has it
pub pointer_found : (text : List ℕ) (r : Option Pointer) → MatchOption r ((p : PointerText) → ¬ (IsPointer text p)) (λ p. IsPointer text (shown p)) → option_map shown r ≡ pointer text
pointer_found text (Some p) h = sym ((pointer_is text (shown p)).1 h)
pointer_found text None h = go (pointer text) refl
  where
    go : (o : Option PointerText) → pointer text ≡ o → None ≡ o
    go None e = refl
    go (Some p) e = absurd (h p ((pointer_is text p).0 e))

pub number_found : (text : List ℕ) (r : Option ℤ) → MatchOption r ((m : ℤ) → ¬ (IsNumberText text m)) (λ m. IsNumberText text m) → r ≡ number text
number_found text r h = same_number text r (number text) h (number_says text)
