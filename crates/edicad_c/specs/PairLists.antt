-- The pairs of a pairing, as C has them.
use Rattle.std.specs.Prelude.{◌≡◌, ◌⊎◌, ℕ, zero, suc, List, [], ◌∷◌, ◌++◌, length, slice_index, Option, None}
use Rattle.std.specs.Prelude.{if◌then◌else◌}
use Rattle.edi_schema.specs.Classes.{Classes}
use Rattle.edi_rank.specs.Labelling.{turned_at}
use Rattle.edi_compare.specs.Rules.{IsAccepted}
use Rattle.edi_compare.specs.Verdicts.{IsVerdict}
use Rattle.edi_compare.specs.declared.pairing.Pairing.{Pairing}
use Rattle.edi_compare.specs.declared.pairing.Verdict.{Verdict}
use Rattle.edi_compare.specs.declared.pairing.Verdict.TheVariants.{Same, Different}
use Rattle.edicad_c.specs.declared.answer.Answer.{Answer}
use Rattle.edicad_c.specs.declared.content.Content.{Content}
use Rattle.edicad_c.specs.declared.pair.Pair.{Pair}
use Rattle.edicad_c.specs.Answers.{differs_at, done, no_memory}
use Rattle.edicad_c.specs.Comparisons.{RefusesPair}
use Rattle.edicad_c.specs.Held.{HoldsPairs}

-- the pair of the record at a place
abbrev pub pair_of : Pairing → ℕ → Pair
pair_of pairing place =
    record { second = slice_index pairing.to place; reversed = if turned_at pairing.turned place then 1 else 0 }

-- the pairs of the first so many records, and of all, in the order of the first sheet
abbrev pub first_pairs : Pairing → ℕ → List Pair
first_pairs pairing zero = []
first_pairs pairing (suc count) = first_pairs pairing count ++ pair_of pairing count ∷ []

abbrev pub pairs_of : Pairing → List Pair
pairs_of pairing = first_pairs pairing (length pairing.to)

-- the pairs of a pairing; or none, since memory ran out
abbrev pub IsPairsHeld : Pairing → Option Content → Answer → Type 0
IsPairsHeld pairing held answer =
    (HoldsPairs held (pairs_of pairing) × (answer ≡ done)) ⊎ ((held ≡ None) × (answer ≡ no_memory))

-- the pairs of the verdict's pairing; or an empty handle, and the line at which the canonical files differ
abbrev pub IsVerdictGiven : Verdict → Option Content → Answer → Type 0
IsVerdictGiven (Same pairing) held answer = IsPairsHeld pairing held answer
IsVerdictGiven (Different line) held answer = (held ≡ None) × (answer ≡ differs_at line)

-- Both sheets are accepted, and the handle holds the pairs of a pairing that carries the first plan onto the second, or
-- no pairing does; or the answer is the refusal, and the handle is empty.
abbrev pub IsPairsGiven : Classes → List ℕ → List ℕ → Option Content → Answer → Type 0
IsPairsGiven s a b held answer =
    ((verdict : Verdict) × IsAccepted s a × IsAccepted s b × IsVerdict s a b verdict
    × IsVerdictGiven verdict held answer)
    ⊎ ((held ≡ None) × RefusesPair s a b answer)
