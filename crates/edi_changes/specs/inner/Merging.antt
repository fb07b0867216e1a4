-- Two lists in order, gone over together.
use Rattle.std.specs.Prelude.{◌≡◌, ◌⊎◌, ℕ, suc, false, List, [], ◌∷◌, if◌then◌else◌}
use Rattle.std.specs.List.{AllByRecursion}
use Rattle.std.specs.Ordering.{is_gt, ordering_then}
use Rattle.std.specs.Str.{bytes_eq}
use Rattle.std.specs.declared.cmp.Ordering.{Ordering}
use Rattle.edi_record.specs.Orders.{bytes_cmp}
use Rattle.edi_changes.specs.declared.entry.Entry.{Entry}

-- entries go by subject, and then by digest
abbrev pub entry_cmp : Entry → Entry → Ordering
entry_cmp a b = ordering_then (bytes_cmp a.subject b.subject) (bytes_cmp a.digest b.digest)

abbrev pub digest_in : Entry → List ℕ
digest_in e = e.digest

-- no subject of a list is less than this one
abbrev pub AllFrom : List ℕ → List Entry → Type 0
AllFrom s entries = AllByRecursion (λ (e : Entry). is_gt (bytes_cmp s e.subject) ≡ false) entries

-- the first entry of a list is of a subject
abbrev pub IsLedBy : List ℕ → List Entry → Type 0
IsLedBy s [] = ⊥
IsLedBy s (e ∷ es) = e.subject ≡ s

-- the least subject of two lists
abbrev pub IsLeastSubject : List ℕ → List Entry → List Entry → Type 0
IsLeastSubject s before after = AllFrom s before × AllFrom s after × (IsLedBy s before ⊎ IsLedBy s after)

-- how many entries in front are of a subject
abbrev pub run_length : List ℕ → List Entry → ℕ
run_length s [] = 0
run_length s (e ∷ es) = if bytes_eq e.subject s then suc (run_length s es) else 0
