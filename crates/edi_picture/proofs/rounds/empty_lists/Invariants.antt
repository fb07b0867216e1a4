use Rattle.std.proofs.Common.{◌≡◌, ℕ, [], length, get_or, map}
use Rattle.std.specs.Global.{Vec}
use Rattle.edi_picture.proofs.rounds.empty_lists.Given as goal

abbrev pub invariant-loop : goal.invariant-loop
invariant-loop l = record {
  long : length l.lists.items ≡ l.counter;
  each : (k : ℕ) → get_or (map (λ (v : Vec ℕ). v.items) l.lists.items) k [] ≡ [];
}
