use Rattle.std.proofs.Common.{refl, sym}
use Rattle.edi_schema.proofs.Lacking.{lacking_found}
use Rattle.edi_schema.proofs.draft.drafts.Goals as goal

pub returns-in-None-clause-lacking : goal.returns-in-None-clause-lacking
returns-in-None-clause-lacking c =
    (refl, refl, lacking_found _ c.args.records.now c.loop-place.place _ _ c.loop-place-test.true c.loop-place.invariant (sym c.in-None.ensures))
