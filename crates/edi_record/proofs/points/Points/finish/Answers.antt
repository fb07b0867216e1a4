use Rattle.std.proofs.Common.{◌∙◌, refl, sym, ap, arith}
use Rattle.edi_record.specs.Shapes.{may_have_points}
use Rattle.edi_record.specs.inner.Stored.{kept_points}
use Rattle.edi_record.proofs.PointsStored.{points_sound, points_bad, points_not_right}
use Rattle.edi_record.proofs.points.Points.finish.Goals as goal
use Rattle.edi_record.proofs.points.Points.finish.Goals.{then-self-via-then-self, then-self-via-else-self+then-not-may_have_points}

pub returns-then-self-clause-breach : goal.returns-then-self-clause-breach
returns-then-self-clause-breach c = λ group k h. (
  refl,
  let has = sym c.has_points.ensures ∙ c.if-not-has_points.false in
      elim c.then-self.branch [
        | then-self-via-then-self w ↦ points_bad (kept_points c.args.self c.args.list.now.items) c.args.kind group w.if-self.true k has (h has)
        | then-self-via-else-self+then-not-may_have_points w ↦
            points_not_right (kept_points c.args.self c.args.list.now.items) c.args.kind group w.if-self.false
            (ap (may_have_points c.args.kind) (omega (arith, w.len.ensures, c.args.list.now.ok.0)) ∙ sym w.may_have_points.ensures ∙ w.if-not-may_have_points.true) k has (h has)
      ],
)

pub returns-clause-sound : goal.returns-clause-sound
returns-clause-sound c = λ group k h.
    let has = sym c.has_points.ensures ∙ c.if-not-has_points.false in
    points_sound (kept_points c.args.self c.args.list.now.items) c.args.kind group c.if-self.false
    (ap (may_have_points c.args.kind) (omega (arith, c.len.ensures, c.args.list.now.ok.0)) ∙ sym c.may_have_points.ensures ∙ c.if-not-may_have_points.false) k has (h has)
