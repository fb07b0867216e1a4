use Rattle.std.proofs.Common.{◌≡◌, ◌==◌, true, take}
use Rattle.std.specs.List.{list_any}
use Rattle.std.specs.Option.{MatchOption}
use Rattle.edi_plan.specs.Plans.{IsPlace, record_at, is_object}
use Rattle.edi_rank.specs.Pieces.{object_count}
use Rattle.edi_rank.proofs.object_layer.only_object.Given as goal

abbrev pub invariant-loop-end : goal.invariant-loop-end
invariant-loop-end l = record {
  counted : l.count ≡ object_count l.plan (take l.end-index l.ends);
  seen : MatchOption l.found (l.count ≡ 0) (λ k. IsPlace l.plan k × (is_object (record_at l.plan k).kind ≡ true) × (list_any (λ e. e.target == k) (take l.end-index l.ends) ≡ true));
}
