use Rattle.std.proofs.Common.{◌≡◌, ◌∙◌, ◌++◌, ◌∷◌, [], length-set, get_or, drop, arith, ap, sym}
use Rattle.std.proofs.lemmas.List.{append-nil, get_or_read}
use Rattle.std.proofs.lemmas.List.Elements.{recursion_from_All}
use Rattle.edi_plan.specs.Plans.{IsPlace}
use Rattle.edi_rank.specs.inner.Pieces.{pieces_from, piece_places}
use Rattle.edi_rank.proofs.PieceLists.{drop_past, empties, passed_on, put_on}
use Rattle.edi_rank.proofs.object_layer.links_by_object.Goals as goal
use Rattle.edi_rank.proofs.object_layer.links_by_object.Goals.{in-Some+in_ok-push, in_default}

pub loop-place-init : goal.loop-place-init
loop-place-init c = record {
  long = c.in_ok-links.ensures.length ∙ c.len.ensures;
  so_far = λ k h is. ap (λ ys. ys ++ piece_places c.args.plan.now k) (empties c.in_ok-links.links.items (recursion_from_All _ c.in_ok-links.links.items c.in_ok-links.ensures.empty) k);
}

pub loop-place-preserved : goal.loop-place-preserved
loop-place-preserved c =
    let p = c.args.plan.now in
    let loop = c.loop-place in
    let there : IsPlace c.args.plan.now c.loop-place.place = omega (arith, c.loop-place-test.true, c.len-place-end.ensures) in
    let lists = loop.links.items in
    elim c.match-owner.branch [
      | in-Some+in_ok-push w ↦ rw w.links-is (record {
        long = length-set loop.links.items w.in-Some.object w.push.new.self ∙ loop.invariant.long;
        so_far = λ k h is. put_on p loop.place there lists loop.invariant.so_far w.in-Some.object w.push.new.self
            (omega (arith, w.in-Some.ensures.there, loop.invariant.long))
            (w.in_ok-push.ensures ∙ ap (λ ys. ys ++ loop.place ∷ []) (get_or_read loop.links.items w.in-Some.object w.index_mut.result.now (omega (arith, w.in-Some.ensures.there, loop.invariant.long)) w.index_mut.ensures.value []))
            (λ k is. w.in-Some.ensures.owner k is) k h is;
      })
      | in_default w ↦ rw w.links-is (record {
        long = loop.invariant.long;
        so_far = passed_on p loop.place there lists loop.invariant.so_far (λ k is. w.in_default.ensures.owner k is);
      })
    ]

pub returns-clause-links : goal.returns-clause-links
returns-clause-links c k h is =
    let none : drop c.loop-place.place c.args.plan.now.list ≡ [] = drop_past c.args.plan.now.list c.loop-place.place (omega (arith, c.loop-place-test.false, c.len-place-end.ensures)) in
    sym (append-nil (get_or c.loop-place.links.items k []))
    ∙ (ap (λ rs. get_or c.loop-place.links.items k [] ++ pieces_from c.args.plan.now k c.loop-place.place rs) (sym none) ∙ c.loop-place.invariant.so_far k h is)
