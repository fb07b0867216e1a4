-- Texts that are positions, as whoever asks is told.
use Rattle.std.proofs.Common.{◌≡◌, ◌∙◌, ℕ, Bool, true, false, List, Option, Some, None, is_some, sym}
use Rattle.std.specs.Bool.{MatchBool}
use Rattle.edi_record.specs.Texts.{IsPosition}
use Rattle.edi_record.specs.declared.record.Point.{Point}
use Rattle.edi_record.specs.inner.Texts.{point_in}
use Rattle.edi_record.proofs.TextParts.{place_is}

pub position_told : (text : List ℕ) (r : Option Point) (t : Bool) → t ≡ is_some r → r ≡ point_in text
    → MatchBool t ((p : Point) × IsPosition text p) ((p : Point) → ¬ (IsPosition text p))
position_told text None true e h = absurd cc
position_told text None false e h = λ p k. let f : ◌≡◌ {A = Option Point} None (Some p) = h ∙ (place_is text p).1 k in cc
position_told text (Some p) true e h = (p, (place_is text p).0 (sym h))
position_told text (Some p) false e h = absurd cc
