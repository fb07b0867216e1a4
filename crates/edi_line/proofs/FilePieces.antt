-- A file in pieces, each of which ends with a line feed.
use Rattle.std.proofs.Common.{◌≡◌, ℕ, eqb, Some, ◌+◌, ◌-◌, ◌^◌, ◌<◌, List, [], ◌∷◌, ◌++◌, length, length-append, get_or, Fits, w8, take, drop, flat_map, refl, sym, ap, ◌∙◌, subst, arith}
use Rattle.std.proofs.Math.Facts.{Fits-lt-pow}
use Rattle.std.proofs.Math.Seq.{take-add}
use Rattle.std.proofs.lemmas.Grind.{flat_map-append}
use Rattle.std.proofs.lemmas.List.{append-nil, append_assoc}
use Rattle.std.proofs.lemmas.List.Elements.{All-append, All-from_get_or}
use Rattle.std.specs.Global.{Vec}
use Rattle.std.specs.List.{AllByRecursion, position}
use Rattle.edi_line.specs.Bytes.{IsBytes}
use Rattle.edi_line.specs.Lines.{HasNoFeed, IsEnded}
use Rattle.edi_line.specs.inner.FilePieces.{EndsInFeed, EachEnded, AreKept, pieces_joined}
use Rattle.edi_line.specs.inner.Lines.{lines_in}
use Rattle.edi_line.specs.inner.Zones.{readings_of}
use Rattle.edi_line.proofs.Cut.{ended_at_feed}
use Rattle.edi_line.proofs.Ends.{all_ended, cut_exists, readings_append}

-- ---- where a piece ends

pub ends_behind : (front line : List ℕ) → IsEnded line → EndsInFeed (front ++ line)
ends_behind front line e = record { front = front ++ e.bytes; ended = ap (λ l. front ++ l) e.ended ∙ sym (append_assoc front e.bytes (10 ∷ [])) }

pub ends_longer : (front bytes : List ℕ) → EndsInFeed bytes → EndsInFeed (front ++ bytes)
ends_longer front bytes e = record { front = front ++ e.front; ended = ap (λ l. front ++ l) e.ended ∙ sym (append_assoc front e.front (10 ∷ [])) }

pub ends_at : (bytes behind : List ℕ) (start feed : ℕ) → behind ≡ drop start bytes → position (λ c. eqb c 10) behind ≡ Some feed → EndsInFeed (take (start + feed + 1) bytes)
ends_at bytes behind start feed back e =
    let count : start + feed + 1 ≡ start + (feed + 1) = omega arith in
    let joined : take (start + feed + 1) bytes ≡ take start bytes ++ take (feed + 1) behind =
    ap (λ n. take n bytes) count ∙ take-add start (feed + 1) bytes ∙ ap (λ l. take start bytes ++ take (feed + 1) l) (sym back) in
    subst EndsInFeed (sym joined) (ends_behind (take start bytes) (take (feed + 1) behind) (ended_at_feed behind feed e))

has_feed : (front : List ℕ) → HasNoFeed (front ++ 10 ∷ []) → ⊥
has_feed [] none = none.0 refl
has_feed (x ∷ xs) none = has_feed xs none.1

none_behind : (ended rest front : List ℕ) → ended ++ rest ≡ front ++ 10 ∷ [] → HasNoFeed rest → rest ≡ []
none_behind ended [] front e none = refl
none_behind [] (r ∷ rest) front e none = absurd (has_feed front (subst HasNoFeed e none))
none_behind (x ∷ ended) (r ∷ rest) [] e none = absurd (omega (arith, ap length e, length-append ended (r ∷ rest)))
none_behind (x ∷ ended) (r ∷ rest) (f ∷ front) e none = let tail : ended ++ r ∷ rest ≡ front ++ 10 ∷ [] = cc in none_behind ended (r ∷ rest) front tail none

-- the lines of a piece and of what is behind it
pub piece_readings : (piece rest : List ℕ) → EndsInFeed piece → readings_of (piece ++ rest) ≡ readings_of piece ++ readings_of rest
piece_readings piece rest e =
    let c = cut_exists piece in
    let none : c.rest ≡ [] = none_behind c.ended c.rest e.front (sym c.cut.joined ∙ e.ended) c.cut.no_feed in
    let whole : c.ended ≡ piece = sym (append-nil c.ended) ∙ ap (λ l. c.ended ++ l) (sym none) ∙ sym c.cut.joined in
    readings_append piece rest (subst (λ l. AllByRecursion IsEnded (lines_in l)) whole (all_ended c.cut))

pub next_readings : (piece : Vec ℕ) (pieces : List (Vec ℕ)) (last : List ℕ) → EachEnded (piece ∷ pieces) → readings_of (pieces_joined (piece ∷ pieces) last) ≡ readings_of piece.items ++ readings_of (pieces_joined pieces last)
next_readings piece pieces last each =
    ap readings_of (append_assoc piece.items (flat_map (λ v. v.items) pieces) last) ∙ piece_readings piece.items (pieces_joined pieces last) each.0

-- ---- bytes more

pub bytes_fit : (bytes : List ℕ) → ((i : ℕ) → Fits w8 (get_or bytes i 0)) → IsBytes bytes
bytes_fit bytes fits = All-from_get_or (λ c. c < 256) bytes 0 (λ i below. Fits-lt-pow (fits i))

kept_by : (ended ended_now : List (Vec ℕ)) (last last_now bytes : List ℕ) (len : ℕ) → AreKept ended last len → IsBytes bytes → len + length bytes < 2 ^ 64 - 1
    → EachEnded ended_now → pieces_joined ended_now last_now ≡ pieces_joined ended last ++ bytes → AreKept ended_now last_now (len + length bytes)
kept_by ended ended_now last last_now bytes len kept are room each joined = record {
  each_ended = each;
  are_bytes = subst IsBytes (sym joined) (All-append (λ c. c < 256) (pieces_joined ended last) bytes kept.are_bytes are);
  counted = omega (arith, kept.counted, ap length joined, length-append (pieces_joined ended last) bytes);
  short = room;
}

-- behind the last piece
pub joined_behind : (ended : List (Vec ℕ)) (last last_now bytes : List ℕ) → last_now ≡ last ++ bytes → pieces_joined ended last_now ≡ pieces_joined ended last ++ bytes
joined_behind ended last last_now bytes e = ap (pieces_joined ended) e ∙ sym (append_assoc (flat_map (λ v. v.items) ended) last bytes)

pub kept_behind : (ended : List (Vec ℕ)) (last last_now bytes : List ℕ) (len : ℕ) → AreKept ended last len → IsBytes bytes → len + length bytes < 2 ^ 64 - 1
    → last_now ≡ last ++ bytes → AreKept ended last_now (len + length bytes)
kept_behind ended last last_now bytes len kept are room e = kept_by ended ended last last_now bytes len kept are room kept.each_ended (joined_behind ended last last_now bytes e)

-- a piece more
pub joined_cut : (ended ended_now : List (Vec ℕ)) (last last_now bytes front : List ℕ) (piece : Vec ℕ) → bytes ≡ front ++ last_now → piece.items ≡ last ++ front → ended_now ≡ ended ++ piece ∷ []
    → pieces_joined ended_now last_now ≡ pieces_joined ended last ++ bytes
joined_cut ended ended_now last last_now bytes front piece cut is more =
    let all = flat_map (λ v. v.items) ended in
    ap (λ ps. pieces_joined ps last_now) more
    ∙ ap (λ l. l ++ last_now) (flat_map-append (λ v. v.items) ended (piece ∷ []) ∙ ap (λ l. all ++ l) (append-nil piece.items ∙ is))
    ∙ append_assoc all (last ++ front) last_now
    ∙ ap (λ l. all ++ l) (append_assoc last front last_now ∙ ap (λ l. last ++ l) (sym cut))
    ∙ sym (append_assoc all last bytes)

each_more : (pieces : List (Vec ℕ)) (piece : Vec ℕ) → EachEnded pieces → EndsInFeed piece.items → EachEnded (pieces ++ piece ∷ [])
each_more [] piece each e = (e, tt)
each_more (p ∷ pieces) piece each e = (each.0, each_more pieces piece each.1 e)

pub kept_cut : (ended ended_now : List (Vec ℕ)) (last last_now bytes front : List ℕ) (piece : Vec ℕ) (len : ℕ) → AreKept ended last len → IsBytes bytes → len + length bytes < 2 ^ 64 - 1
    → bytes ≡ front ++ last_now → EndsInFeed front → piece.items ≡ last ++ front → ended_now ≡ ended ++ piece ∷ [] → AreKept ended_now last_now (len + length bytes)
kept_cut ended ended_now last last_now bytes front piece len kept are room cut ends is more =
    kept_by ended ended_now last last_now bytes len kept are room
    (subst EachEnded (sym more) (each_more ended piece kept.each_ended (subst EndsInFeed (sym is) (ends_longer last front ends))))
    (joined_cut ended ended_now last last_now bytes front piece cut is more)
