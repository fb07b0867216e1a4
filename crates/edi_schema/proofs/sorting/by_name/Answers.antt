use Rattle.std.proofs.Common.{◌∙◌}
use Rattle.indexmap.proofs.CallerLemmas.{insert_entry-new}
use Rattle.edi_schema.proofs.InOrder.{not_yet, entry_more}
use Rattle.edi_schema.proofs.sorting.by_name.Goals as goal

pub loop-draft-preserved : goal.loop-draft-preserved
loop-draft-preserved c =
    let absent = not_yet c.args.drafts.now c.loop-draft.draft-index _ c.loop-draft.classes.entries c.in_ok-name.field-0 c.requires c.loop-draft-test.true c.loop-draft.invariant c.in_ok-name.ensures in
    entry_more c.args.drafts.now c.loop-draft.draft-index _ c.loop-draft.classes.entries c.insert.new.self.entries c.in_ok-name.field-0 c.loop-draft-test.true c.loop-draft.invariant c.in_ok-name.ensures
    (c.in_ok-insert.ensures.entries ∙ insert_entry-new _ c.loop-draft.classes c.in_ok-name.field-0 _ absent)
