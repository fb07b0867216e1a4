use Rattle.std.proofs.Common.{◌∙◌, ℕ, Option, subst, sym}
use Rattle.std.specs.Global.{Vec}
use Rattle.edi_explain.specs.AstrayZones.{AreApart}
use Rattle.edi_explain.specs.inner.Elsewhere.{EndsAre}
use Rattle.edi_explain.proofs.LinkEnds.{begun, stayed_by}
use Rattle.edi_explain.proofs.elsewhere.LinkEnds.take_end.Goals as goal

pub returns-in-None-clause-ends : goal.returns-in-None-clause-ends
returns-in-None-clause-ends c = λ ends h.
    begun c.args.text.now ends c.in_ok-from_slice-in-None.field-0 c.args.self.now.stray c.in_ok-from_slice-in-None.ensures.items
    (subst (λ (o : Option (Vec ℕ)). EndsAre ends o c.args.self.now.stray) c.in-None.is h)

pub returns-else-are_apart-clause-ends : goal.returns-else-are_apart-clause-ends
returns-else-are_apart-clause-ends c = λ ends h.
    stayed_by c.args.text.now ends c.in-Some.home c.args.self.now.home c.args.self.now.stray c.in-Some.is (sym c.is_some.ensures ∙ c.if-is_some.false)
    (λ x. let t = c.are_apart.ensures.1 (subst (AreApart c.args.text.now) (sym c.deref.ensures.value) x) in let f = c.if-are_apart.false in cc) h
