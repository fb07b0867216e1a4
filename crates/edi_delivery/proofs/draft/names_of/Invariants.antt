use Rattle.std.proofs.Common.{◌≡◌, false, map, take}
use Rattle.std.specs.List.{list_any}
use Rattle.edi_delivery.specs.inner.LotTests.{is_unsafe}
use Rattle.edi_delivery.proofs.draft.names_of.Given as goal

abbrev pub invariant-loop-text : goal.invariant-loop-text
invariant-loop-text l = record {
  names : l.names.items ≡ map (λ t. t.now) (take l.text-index l.texts);
  safe : list_any is_unsafe (map (λ t. t.now) (take l.text-index l.texts)) ≡ false;
}
