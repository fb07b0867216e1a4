use Rattle.std.proofs.Common.{inl, rules}
use Rattle.edi_explain.proofs.zone_lines.line_of_row.Goals as goal

pub returns : goal.returns
returns c =
    let said = c.in_ok-push_line.ensures in
    inl (_, c.in-Some.count, said.0, c.in-Some.ensures, said.1, search rules)
