-- Which way an arc runs that became another one.
use Rattle.std.specs.Prelude.{◌≡◌, ◌≢◌, ℕ, ◌+◌, ◌<◌, ◌≤◌, ◌↔◌, Bool, true, List, length, reverse, slice_index_or}
use Rattle.edi_record.specs.declared.record.Point.{Point}
use Rattle.edi_topo.specs.Directions.{is_forward}

-- the first n points of both are the same, and no more
pub record SharesFirst (a b : List Point) (n : ℕ) : Type 0 where
  pub here : n ≤ length a
  pub there : n ≤ length b
  pub same : (k : ℕ) (d : Point) → k < n → slice_index_or a k d ≡ slice_index_or b k d
  pub no_more : (d : Point) → n < length a → n < length b → slice_index_or a n d ≢ slice_index_or b n d

-- how many points two lists share from both ends on
abbrev pub SharesEnds : List Point → List Point → ℕ → Type 0
SharesEnds a b n =
    (first last : ℕ) × SharesFirst a b first × SharesFirst (reverse a) (reverse b) last × (n ≡ first + last)

-- The points of an arc run the other way than those of the one that it became: backwards it shares more of them with
-- that one, from both ends on. Where it shares as many, each runs as its direction says.
pub record RunsBackwards (a b : List Point) (turned : Bool) : Type 0 where
  pub ahead : ℕ
  pub back : ℕ
  pub shares_ahead : SharesEnds a b ahead
  pub shares_back : SharesEnds a (reverse b) back
  pub more : ahead ≢ back → (turned ≡ true) ↔ (ahead < back)
  pub as_many : ahead ≡ back → (turned ≡ true) ↔ (is_forward a ≢ is_forward b)
