use Rattle.std.proofs.Common.{subst}
use Rattle.edi_line.specs.FileBytes.{file_bytes}
use Rattle.edi_compare.proofs.Headline.{plan_under}
use Rattle.edi_compare.specs.PlanOfFile.{IsPlanOfFile}
use Rattle.edi_report.specs.declared.sheet.LocatedSheet.{LocatedSheet}
use Rattle.edi_drawing.proofs.Together.{drawn_by}
use Rattle.edi_drawing.proofs.drawing.draw_difference_from.Goals as goal

pub picture_of_both-requires-clause-first_agrees : goal.picture_of_both-requires-clause-first_agrees
picture_of_both-requires-clause-first_agrees c =
    let s = c.args.schema.now in
    let a = file_bytes c.args.a in
    let are = c.in_ok-found.ensures.findings in
    (plan_under s a c.in_ok-found.found.first.accepted c.keeps.ensures c.in_ok-found.ensures.first
    (subst (λ (x : LocatedSheet). IsPlanOfFile s a x.accepted) are.by_first are.differs.is_first.plan)).agrees

pub picture_of_both-requires-clause-second_agrees : goal.picture_of_both-requires-clause-second_agrees
picture_of_both-requires-clause-second_agrees c =
    let s = c.args.schema.now in
    let b = file_bytes c.args.b in
    let are = c.in_ok-found.ensures.findings in
    (plan_under s b c.in_ok-found.found.second.accepted c.keeps.ensures c.in_ok-found.ensures.second
    (subst (λ (x : LocatedSheet). IsPlanOfFile s b x.accepted) are.by_second are.differs.is_second.plan)).agrees

pub returns-in-Ok-clause-drawn : goal.returns-in-Ok-clause-drawn
returns-in-Ok-clause-drawn c =
    drawn_by c.args.schema.now c.args.names.now (file_bytes c.args.a) (file_bytes c.args.b) c.args.form c.in_ok-found.found c.in-Ok.picture c.in_ok-found.ensures.findings c.in-Ok.ensures
