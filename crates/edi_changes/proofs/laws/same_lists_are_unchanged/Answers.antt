use Rattle.edi_changes.proofs.Sameness.{moved_is_same, nothing_changed, same_status, status_same}
use Rattle.edi_changes.proofs.laws.same_lists_are_unchanged.Goals as goal

pub returns : goal.returns
returns c = λ before after changes are. (λ none. nothing_changed before after changes are (status_same changes none), λ moved. same_status changes (moved_is_same before after changes are moved))
