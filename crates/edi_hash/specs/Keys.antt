-- The key of a hash: a digest of the names that it is for.
use Rattle.std.specs.Prelude.{ℕ, List, [], ◌∷◌, length, ◌++◌, flat_map, nat_lt, if◌then◌else◌}
use Rattle.std.specs.Hash.DefaultHasher as sip
use Rattle.std.specs.Int.{w64, to_le_bytes}
use Rattle.std.specs.declared.hash.DefaultHasher.{DefaultHasher}
use Rattle.sha2.specs.Hashers.{Holds512}
use Rattle.sha2.specs.Sha512.{sha512}
use Rattle.edi_hash.specs.declared.KeyNames.{KeyNames}

-- a length: one byte, or from 255 on the byte 255 and eight more
abbrev pub length_mark : ℕ → List ℕ
length_mark n = if nat_lt n 255 then n ∷ [] else (255 ∷ to_le_bytes w64 n)

-- a part of a name behind its length, so that other parts never make the same message
abbrev pub measured : List ℕ → List ℕ
measured part = length_mark (length part) ++ part

-- the message that the parts of all names make
abbrev pub message : List (List ℕ) → List ℕ
message parts = flat_map measured parts

-- these parts of names were added
abbrev pub Holds : KeyNames → List (List ℕ) → Type 0
Holds names parts = Holds512 names.digest (message parts)

-- SipHash-1-3 that has taken the SHA-512 digest of these parts, and no name yet
abbrev pub keyed_by : List (List ℕ) → DefaultHasher
keyed_by parts = sip.write sip.initial (sha512 (message parts))
