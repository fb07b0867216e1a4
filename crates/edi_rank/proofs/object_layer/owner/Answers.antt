use Rattle.std.proofs.Common.{◌≡◌, ◌≢◌, ◌∙◌, ◌==◌, sym, subst, true}
use Rattle.std.specs.List.{list_any}
use Rattle.std.specs.Option.{MatchOption}
use Rattle.edi_plan.specs.Plans.{IsPlace, record_at, is_object}
use Rattle.edi_rank.specs.Pieces.{object_count}
use Rattle.edi_rank.proofs.Owners.{owner_is}
use Rattle.edi_rank.proofs.object_layer.owner.Goals as goal

pub returns-in-Lnk-clause-owner : goal.returns-in-Lnk-clause-owner
returns-in-Lnk-clause-owner c =
    let p = c.args.plan.now in
    owner_is p (record_at p c.args.place) c.only_object.result (sym c.kind.ensures ∙ c.in-Lnk.is)
    (subst (λ ends. MatchOption c.only_object.result (object_count p ends ≢ 1) (λ k. (object_count p ends ≡ 1) × IsPlace p k × (is_object (record_at p k).kind ≡ true) × (list_any (λ e. e.target == k) ends ≡ true)))
    c.ends.ensures c.only_object.ensures)
