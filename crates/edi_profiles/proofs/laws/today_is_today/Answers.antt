use Rattle.edi_profiles.proofs.Today.{breaks_now, breaks_then, canonical_now, canonical_then}
use Rattle.edi_profiles.proofs.laws.today_is_today.Goals as goal

pub returns : goal.returns
returns c = record {
  breaks = λ s b rule at. (breaks_now s b rule at, breaks_then s b rule at);
  canonical = λ s c. (canonical_now s c, canonical_then s c);
}
