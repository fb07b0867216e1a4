use Rattle.std.proofs.Common.{◌∙◌, ◌+◌, ◌-◌, List, ℕ, length, take, drop, ap, ap₂, sym}
use Rattle.std.proofs.lemmas.List.{take_rest}
use Rattle.std.proofs.lemmas.Slice.Eq.{bytes_eq-Decides}
use Rattle.edi_compare.specs.inner.Differing.{differ_from}
use Rattle.edi_compare.proofs.Differing.{answered_behind, none_behind}
use Rattle.edi_compare.proofs.difference.first_difference.Goals as goal

pub returns-then-eq : goal.returns-then-eq
returns-then-eq c =
    let a = c.args.first.now in
    none_behind a c.args.rest.now c.args.front c.requires (sym (take_rest a c.args.front) ∙ (bytes_eq-Decides _ c.args.rest.now).0 (sym c.eq.ensures ∙ c.if-eq.true))

pub returns : goal.returns
returns c =
    let a = c.args.first.now in
    let b = c.args.rest.now in
    let front = c.args.front in
    let more = c.equal_front-more.result in
    let all = take_rest a front in
    let ahead = take (length a - front) (drop front a) in
    answered_behind a b front c.requires more c.difference_behind.result
    (ap (take more) (sym all) ∙ c.equal_front-more.ensures.equal)
    (c.difference_behind.ensures
    ∙ (ap₂ (λ (x y : List ℕ). differ_from (1 + c.newlines_in-line.result) x y) (take_rest ahead more ∙ ap (drop more) all) (take_rest b more)
    ∙ ap (λ n. differ_from (1 + n) (drop more (drop front a)) (drop more b)) c.newlines_in-line.ensures))
