use Rattle.std.proofs.Common.{◌∙◌, ◌∷◌, [], None, get_or}
use Rattle.edi_plan.proofs.FindingLemmas.{entries_long, entry_at, noted_more}
use Rattle.edi_plan.proofs.link_findings.note_arcs.Goals as goal

pub note_arc-requires : goal.note_arc-requires
note_arc-requires c =
    entries_long c.args.sides.now c.loop-target.sides (get_or c.args.targets.now c.loop-target.target-index None ∷ []) c.loop-target.invariant.long
    (entry_at c.args.sides.now c.args.targets.now c.loop-target.target-index None c.requires c.loop-target-test.true)

pub loop-target-preserved : goal.loop-target-preserved
loop-target-preserved c = record {
  long = c.note_arc.ensures.long ∙ c.loop-target.invariant.long;
  each = λ a o plain.
      c.note_arc.ensures.each a o plain
      ∙ noted_more c.args.sides.now c.loop-target.sides c.args.targets.now c.args.role c.loop-target.target-index a o None c.loop-target-test.true (c.loop-target.invariant.each a o plain);
}
