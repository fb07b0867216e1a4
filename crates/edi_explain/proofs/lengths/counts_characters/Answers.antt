use Rattle.std.proofs.Common.{◌≡◌, sym, arith}
use Rattle.edi_explain.proofs.Counted.{counted_here, counts_here, no_line, refused_more}
use Rattle.edi_explain.proofs.lengths.counts_characters.Goals as goal

pub is_miscounted-requires : goal.is_miscounted-requires
is_miscounted-requires c = refused_more c.args.bytes.now c.args.rule c.args.at c.requires (omega (arith, c.if-rule-ne103.false)) c.in-Some.content.now (sym c.in-Some.ensures)

pub returns-in-Some : goal.returns-in-Some
returns-in-Some c =
    let is : c.args.rule ≡ 103 = omega (arith, c.if-rule-ne103.false) in (
      λ t. (is, counts_here c.args.bytes.now c.args.rule c.args.at c.requires is c.in-Some.content.now (sym c.in-Some.ensures) (c.is_miscounted.ensures.0 t)),
      λ h. c.is_miscounted.ensures.1 (counted_here c.args.bytes.now c.args.at c.in-Some.content.now (sym c.in-Some.ensures) h.1),
    )

pub returns-in-None : goal.returns-in-None
returns-in-None c = (λ t. absurd cc, λ h. absurd (no_line c.args.bytes.now c.args.at (sym c.in-None.ensures) h.1))
