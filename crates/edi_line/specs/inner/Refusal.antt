-- Rules by their numbers, and which of the broken ones a call names.
use Rattle.std.specs.Prelude.{ℕ, List, [], ◌∷◌, Option, Some, None, if◌then◌else◌}
use Rattle.edi_line.specs.Refusal.{Test}

-- the first of those that are broken
abbrev pub first_broken : List Test → Option ℕ
first_broken [] = None
first_broken (t ∷ ts) = if t.is_broken then Some t.rule else first_broken ts
