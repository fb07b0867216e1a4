use Rattle.edi_profiles.proofs.Later.{breaks_three, breaks_two, canonical_by_three, canonical_by_two}
use Rattle.edi_profiles.proofs.laws.flat_sheets_agree.Goals as goal

pub returns : goal.returns
returns c = record {
  breaks = λ s b rule at flat. (breaks_three s b flat rule at, breaks_two s b flat rule at);
  canonical = λ s c flat. (canonical_by_three s c, canonical_by_two s c flat);
}
