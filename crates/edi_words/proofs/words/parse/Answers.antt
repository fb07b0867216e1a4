use Rattle.std.proofs.Common.{◌≡◌, true, [], Result, Ok, Err, IfErr, OnOk, map, string_bytes, subst, ap, ◌∙◌}
use Rattle.std.proofs.lemmas.Result.{IfOk-weaker}
use Rattle.clap.specs.Words.{App, FailsBy, HasKind, Kinds, fault_of, is_simple, is_simple_and_free, subcommand_of}
use Rattle.clap.specs.declared.error.Error.{Error}
use Rattle.edi_words.specs.Requests.{edicad}
use Rattle.edi_words.proofs.words.parse.Goals as goal

taken : {T : Type 0} (kinds : Kinds) (r : Result T Error) → FailsBy kinds r → OnOk r (kinds ≡ [])
taken kinds (Ok v) h = h
taken kinds (Err e) h = tt

refused : {T : Type 0} (kinds : Kinds) (r : Result T Error) → FailsBy kinds r → IfErr r (HasKind kinds)
refused kinds (Ok v) h = tt
refused kinds (Err e) h = h

free : (a : App) → a ≡ edicad → is_simple_and_free a ≡ true
free a e = ap is_simple_and_free e

plain : (a : App) → a ≡ edicad → is_simple a ≡ true
plain a e = ap is_simple e

pub returns-clause-taken : goal.returns-clause-taken
returns-clause-taken c =
    let words = map string_bytes c.args.words.now in
    let r = c.try_get_matches_from.result in
    taken (fault_of edicad words) r (subst (λ a. FailsBy (fault_of a words) r) c.in_ok-command.ensures (c.try_get_matches_from.ensures.kinds (free _ c.in_ok-command.ensures)))

pub returns-clause-met : goal.returns-clause-met
returns-clause-met c =
    let words = map string_bytes c.args.words.now in
    IfOk-weaker c.try_get_matches_from.result _ _
    (λ m has. (has (plain _ c.in_ok-command.ensures)).1 ∙ ap (λ a. subcommand_of a words) c.in_ok-command.ensures)
    c.try_get_matches_from.ensures.matches

pub returns-clause-refused : goal.returns-clause-refused
returns-clause-refused c =
    let words = map string_bytes c.args.words.now in
    let r = c.try_get_matches_from.result in
    refused (fault_of edicad words) r (subst (λ a. FailsBy (fault_of a words) r) c.in_ok-command.ensures (c.try_get_matches_from.ensures.kinds (free _ c.in_ok-command.ensures)))
