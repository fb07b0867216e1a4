use Rattle.std.proofs.Common.{◌≡◌, ℕ, zero, suc, ◌<◌, length, slice_index, refl, arith, lit≤}
use Rattle.edi_pairing.specs.Known.{known_pairing, names_of_a, names_of_b}
use Rattle.edi_pairing.specs.Names.{name_at}
use Rattle.edi_pairing.specs.PairingText.{line_of}
use Rattle.edi_pairing.proofs.known.known_pairing_is_written.Goals as goal

within : (k : ℕ) → k < 2 → slice_index known_pairing.to k < length names_of_b
within zero less = lit≤ tt
within (suc zero) less = lit≤ tt
within (suc (suc k)) less = absurd (omega (arith, less))

typed : (k : ℕ) → k < 2 → (name_at names_of_b (slice_index known_pairing.to k)).kind ≡ (name_at names_of_a k).kind
typed zero less = refl
typed (suc zero) less = refl
typed (suc (suc k)) less = absurd (omega (arith, less))

pub returns-clause-pairing : goal.returns-clause-pairing
returns-clause-pairing c = record { all_paired = refl; all_directed = refl; pairs = record { within = within; typed = typed } }

pub returns-clause-text : goal.returns-clause-text
unfolding line_of
returns-clause-text c = refl
