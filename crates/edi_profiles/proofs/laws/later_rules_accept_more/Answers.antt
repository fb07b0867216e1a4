use Rattle.edi_profiles.proofs.Later.{accepted_by_three, accepted_today, canonical_by_three, canonical_today}
use Rattle.edi_profiles.proofs.laws.later_rules_accept_more.Goals as goal

pub returns : goal.returns
returns c = record { second = accepted_by_three; third = accepted_today; second_canonical = canonical_by_three; third_canonical = canonical_today }
