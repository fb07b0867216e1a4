-- What two writes in a row did, and the answers that are no refusal.
use Rattle.std.proofs.Common.{◌≡◌, ℕ, ◌+◌, ◌-◌, ◌<◌, ◌≤◌, ◌||◌, ◌∙◌, Bool, true, false, List, [], ◌∷◌, length, take, drop, ◌++◌, refl, sym, subst, arith, append_assoc}
use Rattle.std.specs.Prelude.{Option, None, Some, Result, Ok, Err, MatchResult, IfOk, IsErrAnd}
use Rattle.std.specs.Io.KnownBytes.{Appends, Consumes}
use Rattle.std.proofs.Math.Seq.{take-add}
use Rattle.std.proofs.Math.Bool.{or-false}
use Rattle.std.proofs.lemmas.List.{drop-drop, take-append-drop}
use Rattle.std.proofs.lemmas.Grind.{common_steps}
use Rattle.edi_line.specs.Device.{is_refusal, Reads}
use Rattle.edi_line.specs.Script.{left_at, start_at}

-- the first bytes and then the next ones are more of the first bytes
pub Appends-take : (a b c : Option (List ℕ)) (bytes : List ℕ) (done count : ℕ)
    → Appends a b (take done bytes) → Appends b c (take count (drop done bytes))
    → Appends a c (take (done + count) bytes)
Appends-take None b c bytes done count p q = tt
Appends-take (Some xs) None c bytes done count p q = absurd p
Appends-take (Some xs) (Some ys) None bytes done count p q = absurd q
Appends-take (Some xs) (Some ys) (Some zs) bytes done count p q =
    rw (q, p, take-add done count bytes) (append_assoc xs (take done bytes) (take count (drop done bytes)))

-- what two calls took is what was taken
pub Consumes-append : (a b c : Option (List ℕ)) (xs ys : List ℕ) → Consumes a b xs → Consumes b c ys → Consumes a c (xs ++ ys)
Consumes-append None b c xs ys p q = tt
Consumes-append (Some all) None c xs ys p q = absurd p
Consumes-append (Some all) (Some more) None xs ys p q = absurd q
Consumes-append (Some all) (Some more) (Some rest) xs ys p q = rw (p, q) (sym (append_assoc xs ys rest))

-- an answer above 0 leaves the flag as it was
pub or-is_refusal : (b : Bool) (count : ℕ) (bytes : List ℕ) → 0 < count → (b || is_refusal (Some count) bytes) ≡ b
or-is_refusal b count bytes h = grind (arith, or-false)

-- taking the bytes from where a script's read begins is a read of what it tells
pub Reads-left_at : (bytes buffer : List ℕ) (endless : Bool) (at start count : ℕ) → start ≡ start_at bytes endless at
    → start ≤ length bytes → count ≤ length bytes - start → (count ≡ 0 → 0 < length buffer → length bytes ≡ start)
    → take count buffer ≡ take count (drop start bytes)
    → Reads (left_at bytes endless at) (left_at bytes endless (start + count)) (Some count) buffer
Reads-left_at bytes buffer false at start count s within c end copied =
    let same : start ≡ at = s in
    let parts = take-append-drop count (drop start bytes) in
    let after = drop-drop count start bytes in
    let all : drop at bytes ≡ take count buffer ++ drop (start + count) bytes =
    rw (← same, copied, ← after) (sym parts) in
    (all, λ zero room. let finish : length bytes ≡ start = end zero room in grind (arith, common_steps))
Reads-left_at [] buffer true at start count s within c end copied = (grind (arith, common_steps), λ _ _. refl)
Reads-left_at (x ∷ xs) buffer true at start count s within c end copied = (tt, λ _ _. tt)

-- a value that came through `map_err`
pub mapped_value : {A E D : Type 0} (from : Result A E) (to : Result A D) (Q : E → D → Type 0) (x : A) (P : A → Type 0) → MatchResult from (λ y. to ≡ Ok y) (λ e. IsErrAnd to (Q e)) → to ≡ Ok x → IfOk from P → P x
mapped_value (Ok y) to Q x P same is h = let e : Ok y ≡ Ok x = sym same ∙ is in let at : y ≡ x = cc in subst P at h
mapped_value (Err e) to Q x P same is h = absurd (subst (λ r. IsErrAnd r (Q e)) is same)
