use Rattle.std.proofs.Common.{◌∙◌, [], subst, ap, length, get_or}
use Rattle.edi_record.specs.Orders.{points_cmp}
use Rattle.edi_record.specs.declared.record.Kind.TheVariants.{Par, Pfe}
use Rattle.edi_plan.specs.Places.{places_of}
use Rattle.edi_plan.proofs.Orders.{points_total}
use Rattle.edi_topo.specs.Ranking.{IsTie, IsRanking}
use Rattle.edi_topo.specs.declared.fault.TieFault.TheVariants.{Tie}
use Rattle.edi_rank.specs.Keys.{face_key_cmp}
use Rattle.edi_topo.specs.Arcs.{forward_keys}
use Rattle.edi_rank.specs.Layers.{face_keys, no_side}
use Rattle.edi_rank.specs.contracts.keys.FaceKeyOrd.TheImpl.{ghosts as faces}
use Rattle.edi_rank.proofs.FacesApart.{no_face_ties}
use Rattle.edi_rank.proofs.KeyOrders.{face_order}
use Rattle.edi_rank.proofs.Rankings.{ranks_each, ranking_by, tie_by}
use Rattle.edi_rank.proofs.labels.face_ranks.Goals as goal

pub returns-in-Ok : goal.returns-in-Ok
returns-in-Ok c =
    ranking_by faces.cmp face_key_cmp face_order (λ m. get_or (face_keys c.args.sound.now c.args.arcs.now) m no_side) (length (places_of Pfe c.args.sound.now)) c.in-Ok.ranks
    (subst (λ keys. IsRanking faces.cmp (λ m. get_or keys m no_side) (length (places_of Pfe c.args.sound.now)) c.in-Ok.ranks) c.in_ok-layer.ensures
    (subst (λ n. IsRanking faces.cmp (λ m. get_or c.in_ok-layer.layer m no_side) n c.in-Ok.ranks) (ap length c.in_ok-layer.ensures ∙ Rattle.std.proofs.lemmas.List.length-map (places_of Pfe c.args.sound.now) _) c.in-Ok.ensures.numbers))

pub unreachable-requires : goal.unreachable-requires
unreachable-requires c =
    no_face_ties c.args.sound.now c.plan-plan.ensures.whole c.plan-plan.ensures.joined c.args.arcs.now
    (ranks_each points_cmp points_total (λ m. get_or (forward_keys c.args.sound.now) m []) (length (places_of Par c.args.sound.now)) c.args.arcs.now c.requires.ranking) c.requires.ranking.all c.plan-plan.ensures.sound c.in-Err-Tie.field-0-0
    (tie_by faces.cmp face_key_cmp face_order (λ m. get_or (face_keys c.args.sound.now c.args.arcs.now) m no_side) (length (places_of Pfe c.args.sound.now)) c.in-Err-Tie.field-0-0
    (subst (λ keys. IsTie faces.cmp (λ m. get_or keys m no_side) (length (places_of Pfe c.args.sound.now)) (Tie c.in-Err-Tie.field-0-0)) c.in_ok-layer.ensures
    (subst (λ n. IsTie faces.cmp (λ m. get_or c.in_ok-layer.layer m no_side) n (Tie c.in-Err-Tie.field-0-0)) (ap length c.in_ok-layer.ensures ∙ Rattle.std.proofs.lemmas.List.length-map (places_of Pfe c.args.sound.now) _)
    (subst (λ f. IsTie faces.cmp (λ m. get_or c.in_ok-layer.layer m no_side) (length c.in_ok-layer.layer) f) c.in-Err-Tie.field-0-is c.in-Err-Tie.ensures.tie)))).0
