use Rattle.std.proofs.Common.{◌-◌, ℕ, List, None, refl, arith}
use Rattle.edi_compare.specs.declared.fault.Fault.{Fault}
use Rattle.edi_compare.specs.declared.fault.Fault.TheVariants.{Memory, Line, Entry}
use Rattle.edi_schema.specs.Classes.{Classes}
use Rattle.edi_explain.specs.Found.{IsEarlierOf, IsEndNodeOf}
use Rattle.edi_explain.specs.inner.Found.{SpeaksOfNone}
use Rattle.edi_explain.proofs.Earlier.{no_end_node, nothing_earlier}
use Rattle.edi_explain.proofs.examined.found_alone.Goals as goal

alone : (s : Classes) (b : List ℕ) (f : Fault) → SpeaksOfNone f → IsEarlierOf s b f None × IsEndNodeOf s b f None
alone s b (Memory e) h = (refl, refl)
alone s b (Line rule at) h = (refl, refl)
alone s b (Entry rule at) h = (nothing_earlier s b rule (at - 1) h, no_end_node s b rule (at - 1) (λ e. omega (arith, e, h)) (λ e. omega (arith, e, h)))

pub returns : goal.returns
returns c = λ s b refusal none. let other = alone s b c.args.fault none in (refusal, other.0, other.1, tt)
