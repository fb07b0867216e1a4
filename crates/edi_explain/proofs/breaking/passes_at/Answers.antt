use Rattle.edi_explain.proofs.Passing.{passes_there, there_passes}
use Rattle.edi_explain.proofs.breaking.passes_at.Goals as goal

pub returns : goal.returns
returns c =
    let zones = c.args.group.now in
    let z = c.index-group-place.result in (
      λ t. passes_there zones c.args.place z c.args.test c.requires.within c.index-group-place.is (c.passes.ensures.0 t),
      λ h. c.passes.ensures.1 (there_passes zones c.args.place z c.args.test c.requires.within c.index-group-place.is h),
    )
