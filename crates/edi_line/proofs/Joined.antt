-- Files that come in pieces.
use Rattle.std.proofs.Common.{◌≡◌, ℕ, ◌+◌, ◌<◌, ◌≤◌, List, [], ◌∷◌, ◌++◌, length, take, drop, get_or, sym, ap, ◌∙◌, subst, Bor}
use Rattle.std.proofs.lemmas.List.{append-nil, take_all, take_more, take-append-drop}
use Rattle.std.proofs.lemmas.List.Folds.{length-flat_map-take}
use Rattle.std.proofs.lemmas.Grind.{flat_map-append}
use Rattle.edi_line.specs.Feeding.{FeedState, HoldsFault, StandsFor, joined}
use Rattle.edi_line.specs.LineRules.{BreaksLineRule}
use Rattle.edi_line.specs.Refusal.{IsLeastBroken, IfBroken}
use Rattle.edi_line.specs.declared.fault.LineFault.{LineFault}
use Rattle.edi_line.proofs.Feeds.{if_broken, fault_still, fault_of_all}

abbrev Pieces : Type 0
Pieces = List (Bor (List ℕ))

abbrev pub no_piece : Bor (List ℕ)
no_piece = record { ref_ptr = (0, 0); now = [] }

abbrev pub piece_at : Pieces → ℕ → List ℕ
piece_at pieces i = (get_or pieces i no_piece).now

pub joined_more : (pieces : Pieces) (i : ℕ) → i < length pieces → joined (take i pieces) ++ piece_at pieces i ≡ joined (take (i + 1) pieces)
joined_more pieces i below =
    sym (ap joined (take_more pieces i no_piece below) ∙ flat_map-append (λ p. p.now) (take i pieces) (get_or pieces i no_piece ∷ []) ∙ ap (λ x. joined (take i pieces) ++ x) (append-nil (piece_at pieces i)))

joined_rest : (pieces : Pieces) (i : ℕ) → joined (take i pieces) ++ joined (drop i pieces) ≡ joined pieces
joined_rest pieces i = sym (flat_map-append (λ p. p.now) (take i pieces) (drop i pieces)) ∙ ap joined (take-append-drop i pieces)

pub joined_room : (pieces : Pieces) (i : ℕ) → i < length pieces → length (joined (take i pieces)) + length (piece_at pieces i) ≤ length (joined pieces)
joined_room pieces i below = length-flat_map-take (λ p. p.now) pieces i no_piece below

-- a fault of the pieces so far is one of all of them
pub piece_refused : (pieces : Pieces) (i : ℕ) (e : LineFault) → i < length pieces → IfBroken (HoldsFault (joined (take i pieces) ++ piece_at pieces i)) e
    → IfBroken (IsLeastBroken (BreaksLineRule (joined pieces))) e
piece_refused pieces i e below h =
    let front = joined (take i pieces) ++ piece_at pieces i in
    let rest = joined (drop (i + 1) pieces) in
    let all : front ++ rest ≡ joined pieces = ap (λ x. x ++ rest) (joined_more pieces i below) ∙ joined_rest pieces (i + 1) in
    if_broken (HoldsFault front) (IsLeastBroken (BreaksLineRule (joined pieces)))
    (λ rule place f. subst (λ b. IsLeastBroken (BreaksLineRule b) rule place) all (fault_of_all (front ++ rest) rule place (fault_still front rest rule place f)))
    e h

-- when all pieces have come
pub stands_whole : (pieces : Pieces) (i : ℕ) (f : FeedState) → length pieces ≤ i → StandsFor (joined (take i pieces)) f → StandsFor (joined pieces) f
stands_whole pieces i f past h = subst (λ ps. StandsFor (joined ps) f) (take_all i pieces past) h
