use Rattle.std.proofs.Common.{lt-ltb, ltb-true}
use Rattle.edi_diff.proofs.directions.runs_backwards.Goals as goal

pub returns-else-ahead-back : goal.returns-else-ahead-back
returns-else-ahead-back c = record {
  ahead = c.shared_ends-ahead.result;
  back = c.shared_ends-back.result;
  shares_ahead = c.shared_ends-ahead.ensures;
  shares_back = c.shared_ends-back.ensures;
  more = λ apart. (λ turned. ltb-true _ _ turned, λ less. lt-ltb _ _ less);
  as_many = λ e. absurd (c.if-ahead-back.false e);
}
