use Rattle.std.proofs.Common.{◌∙◌, ◌≡◌, ◌-◌, Bool, ap, drop, length, not, rules, take, tests}
use Rattle.std.proofs.lemmas.Iterator.{YieldsList-from_slice}
use Rattle.std.proofs.lemmas.Iterator.Search.{position_from_yields_List}
use Rattle.std.proofs.lemmas.List.{drop_min, take_rest}
use Rattle.edi_matching.specs.declared.ranked.Member.{Member}
use Rattle.edi_matching.proofs.RunsAdded.{found_none, found_some}
use Rattle.edi_matching.proofs.added.run_with.Goals as goal

pub returns-in-Some : goal.returns-in-Some
returns-in-Some g c =
    let pairs = c.args.pairs.now in
    let other : g.row.K.Denot × Member → Bool = λ x. not (g.K.PartialEq.eq x.0 c.args.key.now) in
    let rest = take (length pairs - c.min.result) (drop c.min.result pairs) in
    let rest_is : rest ≡ drop c.args.from pairs = take_rest pairs c.min.result ∙ (ap (λ n. drop n pairs) c.min.ensures ∙ drop_min c.args.from pairs) in
    let found = position_from_yields_List other _ _ c.position.result c.position.ensures.ran (YieldsList-from_slice rest c.iter.ensures.rest) (λ x b q k. search (rules, tests)) in
    found_some other rest (drop c.args.from pairs) c.position.result c.in-Some.end rest_is found c.in-Some.is

pub returns-in-None : goal.returns-in-None
returns-in-None g c =
    let pairs = c.args.pairs.now in
    let other : g.row.K.Denot × Member → Bool = λ x. not (g.K.PartialEq.eq x.0 c.args.key.now) in
    let rest = take (length pairs - c.min.result) (drop c.min.result pairs) in
    let rest_is : rest ≡ drop c.args.from pairs = take_rest pairs c.min.result ∙ (ap (λ n. drop n pairs) c.min.ensures ∙ drop_min c.args.from pairs) in
    let found = position_from_yields_List other _ _ c.position.result c.position.ensures.ran (YieldsList-from_slice rest c.iter.ensures.rest) (λ x b q k. search (rules, tests)) in
    found_none other rest (drop c.args.from pairs) c.position.result rest_is found c.in-None.is
