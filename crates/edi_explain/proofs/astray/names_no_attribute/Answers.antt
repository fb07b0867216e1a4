use Rattle.std.proofs.Common.{refl}
use Rattle.std.proofs.lemmas.Result.{IfOk-weaker}
use Rattle.edi_record.specs.Texts.{shown}
use Rattle.edi_explain.proofs.Straying.{no_attribute_class, no_attribute_type}
use Rattle.edi_explain.proofs.astray.names_no_attribute.Goals as goal

pub returns-then-differ : goal.returns-then-differ
returns-then-differ c = (
  λ t. no_attribute_type c.args.schema.now c.args.text.now (shown c.in-Some.pointer) c.in-Some.ensures (c.differ.ensures.0 c.if-differ.true),
  λ h. refl,
)

pub returns : goal.returns
returns c =
    IfOk-weaker c.has_no_class.result _ _ (λ t e.
    no_attribute_class c.args.schema.now c.args.text.now (shown c.in-Some.pointer) c.in-Some.ensures
    (λ n. let d = c.differ.ensures.1 n in let f = c.if-differ.false in cc) t e) c.has_no_class.ensures
