use Rattle.std.proofs.Common.{◌∙◌, ◌≡◌, ℕ, Bool, List, Option, get_or, rules, subst, sym}
use Rattle.edi_rank.specs.Labelling.{turned_at}
use Rattle.edi_matching.specs.inner.Additions.{AddsPairs, AreAlikeBeside}
use Rattle.edi_matching.proofs.KeysAdded.{matched_so, sides_added}
use Rattle.edi_matching.proofs.added.add_faces.Goals.{in-Some+in_ok-add_sides, in_default}
use Rattle.edi_matching.proofs.added.add_faces.Goals as goal

pub loop-arc-preserved : goal.loop-arc-preserved
loop-arc-preserved c =
    let p = c.args.first.plan.now in
    let q = c.args.other.now in
    let turned = c.args.turned.now in
    let start = c.args.to.now in
    let free = c.args.taken.now in
    let to = c.loop-arc.to in
    let taken = c.loop-arc.taken in
    let arc : ℕ = get_or c.order-arc-items.result.now c.loop-arc.arc-index 0 in
    elim c.match-target_of.branch [
      | in-Some+in_ok-add_sides w ↦
          let is : w.unwrap_or-is_turned.result ≡ turned_at turned arc = search rules in
          subst (λ (ts : List (Option ℕ)). AddsPairs (AreAlikeBeside p q (matched_so p q turned ts)) start free ts c.match-target_of.taken) (sym w.to-is)
          (subst (λ (bs : List Bool). AddsPairs (AreAlikeBeside p q (matched_so p q turned w.add_sides.new.to)) start free w.add_sides.new.to bs) (sym w.taken-is)
          (sides_added p q turned start free to taken w.add_sides.new.to w.add_sides.new.taken arc w.in-Some.target w.unwrap_or-is_turned.result is (sym c.target_of.ensures ∙ w.in-Some.is) c.loop-arc.invariant
          w.in_ok-add_sides.ensures))
      | in_default w ↦
          subst (λ (ts : List (Option ℕ)). AddsPairs (AreAlikeBeside p q (matched_so p q turned ts)) start free ts c.match-target_of.taken) (sym w.to-is)
          (subst (λ (bs : List Bool). AddsPairs (AreAlikeBeside p q (matched_so p q turned to)) start free to bs) (sym w.taken-is) c.loop-arc.invariant)
    ]
