use Rattle.edi_profiles.proofs.Later.{form_by_three, stays}
use Rattle.edi_profiles.proofs.laws.stored_files_stay.Goals as goal

pub returns : goal.returns
returns c = record { of_two = λ s b c d form now. stays s b c d (form_by_three s b c form) now; of_three = stays }
