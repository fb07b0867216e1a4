use Rattle.std.proofs.Common.{◌≡◌, ◌∙◌, ◌++◌, [], ap, rules}
use Rattle.std.proofs.lemmas.Result.{IfOk-equal}
use Rattle.edi_record.specs.Texts.{point_text}
use Rattle.edi_write.specs.declared.heads.TheConstants.{COORDINATES}
use Rattle.edi_write.specs.inner.Heads.{line_begun}
use Rattle.edi_write.proofs.Points.{point_written}
use Rattle.edi_write.proofs.parts.write_point.Goals as goal

pub returns : goal.returns
returns c =
    let out = c.args.page.now.file.items in
    let file = c.push_point.new.text.items in
    let text = point_text c.args.point in
    let begun = c.in_ok-extend_from_slice.ensures.items ∙ ap (λ l. out ++ l) c.point_line.ensures in
    let filled : file ≡ (out ++ line_begun COORDINATES []) ++ text =
    c.in_ok-push_point.ensures.text ∙ ap (λ f. f ++ text) begun in
    let whole = point_written out file c.args.point filled c.in_ok-push_point.ensures.short in
    search (whole, rules, IfOk-equal)
