use Rattle.std.proofs.Common.{◌∙◌, ◌++◌, ap}
use Rattle.edi_record.specs.Shapes.{kind_code}
use Rattle.edi_pairing.proofs.LineLemmas.{name_cut}
use Rattle.edi_pairing.proofs.lines.behind_name.Goals as goal

pub returns : goal.returns
returns c =
    name_cut c.args.text.now (kind_code c.args.name.now.kind) c.args.name.now.rid c.in_ok-text.text.now c.in_ok-text-2.text.now c.in_ok-text-3.text.now c.behind-4.result
    (c.in_ok-text.ensures ∙ ap (λ code. code ++ c.in_ok-text.text.now) c.code.ensures) c.in_ok-text-2.ensures (c.in_ok-text-3.ensures ∙ ap (λ rid. rid ++ c.in_ok-text-3.text.now) c.as_slice.ensures) c.behind-4.ensures
