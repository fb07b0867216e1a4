-- A plain argument or command is not global.
use Rattle.std.proofs.Common.{◌≡◌, ◌∙◌, ◌&&◌, Bool, true, false, not, is_some, refl, ap, ap₂, Result, Ok, Err}
use Rattle.std.specs.Prelude.{IfOk, IsOkAnd}
use Rattle.std.proofs.lemmas.Bool.{false≢true, not-true}
use Rattle.clap.specs.Walk.{is_empty}
use Rattle.clap.specs.Words.{AddsArg, AddsSubcommand, App, Rule, app_of, rule_of, with_rule, with_subcommand}
use Rattle.clap.specs.declared.builder.Arg.{Arg}
use Rattle.clap.specs.declared.builder.Command.{Command}
use Rattle.clap.specs.declared.builder.Command.TheViews.{out-Command}

left : (a b : Bool) → (a && b) ≡ true → a ≡ true
left true b e = refl
left false b e = e

right : (a b : Bool) → (a && b) ≡ true → b ≡ true
right true b e = e
right false b e = absurd (false≢true e)

pub arg_local : (a : Arg) → (rule_of a).is_simple ≡ true → a.global ≡ false
arg_local a e =
    not-true a.global (right (not a.last) _ (right (not a.require_equals) _ (right (not a.allow_negative_numbers) _ (right (not a.allow_hyphen_values) _
    (right (not (is_some a.terminator)) _ (right (not (is_some a.val_delim)) _ (right (is_empty a.groups.items) _
    (right (is_empty a.default_vals_ifs.items) _ (right (is_empty a.overrides.items) _ e)))))))))

pub command_local : (c : Command) → (app_of c).top.is_plain ≡ true → (out-Command c).has_globals ≡ false
command_local c e = not-true (out-Command c).has_globals (left _ _ (right _ _ (right _ _ e)))

-- a subcommand that was made is added to a command that was made
pub subcommand_added : {E : Type 0} (old added new : Result Command E) (a sub : App) → sub.top.is_plain ≡ true → IfOk old (λ c. app_of c ≡ a)
    → IfOk added (λ s. app_of s ≡ sub) → IfOk new (λ n. IsOkAnd old (λ c. IsOkAnd added (λ s. AddsSubcommand c s n)))
    → IfOk new (λ n. app_of n ≡ with_subcommand a sub.top)
subcommand_added (Ok c) (Ok s) (Ok n) a sub plain from is adds =
    adds.shape (command_local s (ap (λ (t : App). t.top.is_plain) is ∙ plain)) ∙ ap₂ with_subcommand from (ap (λ (t : App). t.top) is)
subcommand_added (Err e) added (Ok n) a sub plain from is adds = absurd adds
subcommand_added (Ok c) (Err e) (Ok n) a sub plain from is adds = absurd adds
subcommand_added old added (Err e) a sub plain from is adds = tt

-- an argument is added to a command
pub with_rule_added : (old new : Command) (arg : Arg) (a : App) (rule : Rule) → rule.is_simple ≡ true → app_of old ≡ a → rule_of arg ≡ rule → AddsArg old arg new
    → app_of new ≡ with_rule a rule
with_rule_added old new arg a rule plain from is adds = adds.shape (arg_local arg (ap (λ (r : Rule). r.is_simple) is ∙ plain)) ∙ ap₂ with_rule from is

-- the same, if there was memory
pub rule_added : {E : Type 0} (old : Command) (new : Result Command E) (arg : Arg) (a : App) (rule : Rule) → rule.is_simple ≡ true → app_of old ≡ a → rule_of arg ≡ rule
    → IfOk new (AddsArg old arg) → IfOk new (λ n. app_of n ≡ with_rule a rule)
rule_added old (Ok n) arg a rule plain from is adds = with_rule_added old n arg a rule plain from is adds
rule_added old (Err e) arg a rule plain from is adds = tt
