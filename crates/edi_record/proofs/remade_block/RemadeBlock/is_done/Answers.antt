use Rattle.std.proofs.Common.{◌≡◌, ◌∙◌, IsTrue, nat_eq, length, sym, ap, arith, eq-eqb}
use Rattle.std.proofs.lemmas.Bool.Decides.{nat_tests}
use Rattle.edi_record.specs.inner.PartLists.{held}
use Rattle.edi_record.proofs.Remade.{none_left, all_made}
use Rattle.edi_record.proofs.remade_block.RemadeBlock.is_done.Goals as goal

pub returns : goal.returns
returns g c =
    let b = c.self.inside in
    let made : c.len.result ≡ length b.heads.items = omega (arith, c.len.ensures, b.heads.ok.0) in
    let all : c.len-2.result ≡ length b.old_heads.items = omega (arith, c.len-2.ensures, b.old_heads.ok.0) in
    let left = ap (λ v. v.left) c.self.view_is in (
      λ (is : IsTrue (nat_eq c.len.result c.len-2.result)).
          let same : c.len.result ≡ c.len-2.result = grind (arith, nat_tests) in
          sym left
          ∙ none_left b.old_heads.items (held b.old_lists) (length b.heads.items) (omega (arith, same, made, all)),
      λ none. eq-eqb c.len.result c.len-2.result
          (made
          ∙ (all_made b.old_heads.items (held b.old_lists) (length b.heads.items) c.self.invariant.within (left ∙ none)
          ∙ sym all)),
    )
