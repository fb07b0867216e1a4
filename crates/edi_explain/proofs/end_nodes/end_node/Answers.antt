use Rattle.std.proofs.Common.{arith}
use Rattle.edi_explain.proofs.end_nodes.end_node.Goals as goal

pub returns-in-401 : goal.returns-in-401
returns-in-401 c s b states =
    let is = c.in-401.is in
    record {
      initial = λ e. (c.args.plan.now, states, c.side_of.ensures);
      final = λ e. absurd (omega (arith, e, is));
      others = λ no more. absurd (no is);
    }

pub returns-in-402 : goal.returns-in-402
returns-in-402 c s b states =
    let is = c.in-402.is in
    record {
      initial = λ e. absurd (omega (arith, e, is));
      final = λ e. (c.args.plan.now, states, c.side_of-in-402.ensures);
      others = λ no more. absurd (more is);
    }
