use Rattle.std.proofs.Common.{map}
use Rattle.std.proofs.lemmas.List.Sorted.{IsPermutation-map}
use Rattle.edi_deliveries.specs.Checks.{named_entry}
use Rattle.edi_deliveries.proofs.Held.{one_text_of_entries}
use Rattle.edi_deliveries.proofs.laws.held_manifests_are_one.Goals as goal

pub returns : goal.returns
returns c = λ known lines changes h k are. (
  λ none. one_text_of_entries known lines ((c.same_lists_are_unchanged.ensures (map named_entry known) (map named_entry lines) changes are).0 none),
  λ same. (c.same_lists_are_unchanged.ensures (map named_entry known) (map named_entry lines) changes are).1
      (IsPermutation-map named_entry known lines ((c.manifests_are_one.ensures known lines h k).0 same)),
)
