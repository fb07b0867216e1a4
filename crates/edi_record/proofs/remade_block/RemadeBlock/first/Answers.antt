use Rattle.std.proofs.Common.{◌∙◌, length, sym, ap, arith}
use Rattle.edi_record.specs.inner.PartLists.{held}
use Rattle.edi_record.proofs.Remade.{none_left}
use Rattle.edi_record.proofs.remade_block.RemadeBlock.first.Goals as goal

pub returns-else-place-len : goal.returns-else-place-len
returns-else-place-len g c =
    let b = c.self.inside in
    ap (λ v. v.left) (sym c.self.view_is)
    ∙ none_left b.old_heads.items (held b.old_lists) (length b.heads.items)
    (omega (arith, c.if-place-len.false, c.len-place.ensures, c.len.ensures, b.heads.ok.0, b.old_heads.ok.0))
