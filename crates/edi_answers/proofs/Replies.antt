-- One reply behind another.
use Rattle.std.proofs.Common.{◌≡◌, ℕ, Bool, List, Option, IsTrue}
use Rattle.std.specs.Prelude.{max}
use Rattle.edi_answers.specs.Replies.{OneThenOther, Reply}
use Rattle.edi_answers.proofs.Answering.{over}

-- one reply behind another
pub behind : (First Rest : Reply) (o p q e f r : Option (List ℕ)) (pf qf ff rf : Bool) (a b s : ℕ) → First (over o p pf) (over e f ff) a
    → Rest (over p q qf) (over f r rf) b → (IsTrue pf → IsTrue qf) → (IsTrue ff → IsTrue rf) → s ≡ max a b → OneThenOther First Rest (over o q qf) (over e r rf) s
behind First Rest o p q e f r pf qf ff rf a b s one other so se is = record {
  between_out = p;
  between_err = f;
  out_failed = pf;
  err_failed = ff;
  out_stays = so;
  err_stays = se;
  first = a;
  rest = b;
  one = one;
  other = other;
  greater = is;
}
