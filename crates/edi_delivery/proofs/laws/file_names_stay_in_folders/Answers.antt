use Rattle.edi_delivery.proofs.InFolder.{in_folder}
use Rattle.edi_delivery.proofs.laws.file_names_stay_in_folders.Goals as goal

pub returns : goal.returns
returns c = in_folder
