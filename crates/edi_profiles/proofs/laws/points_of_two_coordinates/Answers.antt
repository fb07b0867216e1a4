use Rattle.edi_profiles.proofs.Points.{flat_order, flat_text}
use Rattle.edi_profiles.proofs.laws.points_of_two_coordinates.Goals as goal

pub returns : goal.returns
returns c = record { order = flat_order; text = flat_text }
