use Rattle.std.proofs.Common.{◌≡◌, ◌∙◌, ap, refl, Option, Some, None, is_some, option_map}
use Rattle.clap.specs.Words.{found_of}
use Rattle.clap.proofs.WalkLemmas.{first_value-rows}
use Rattle.edi_words.proofs.words.is_given.Goals as goal

is_some_map : {X Y : Type 0} (f : X → Y) (o : Option X) → is_some o ≡ is_some (option_map f o)
is_some_map f None = refl
is_some_map f (Some x) = refl

pub returns : goal.returns
returns c =
    c.is_some.ensures ∙ (is_some_map (λ s. s.now) c.get_str.result
    ∙ ap is_some (c.get_str.ensures ∙ first_value-rows (found_of c.args.given.now) c.args.name.now))
