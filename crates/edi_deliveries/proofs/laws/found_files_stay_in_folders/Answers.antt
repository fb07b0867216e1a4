use Rattle.edi_deliveries.proofs.InFolder.{path_in_folder}
use Rattle.edi_deliveries.proofs.laws.found_files_stay_in_folders.Goals as goal

pub returns : goal.returns
returns c = path_in_folder
