use Rattle.std.proofs.Common.{◌≡◌, ◌++◌, take}
use Rattle.std.specs.List.{flat_map}
use Rattle.edi_objects.specs.Accounts.{second_bare_link}
use Rattle.edi_objects.proofs.account.ObjectReporter.push_second_bare_links.Given as goal

abbrev pub invariant-loop-place : goal.invariant-loop-place
invariant-loop-place l = l.text.items ≡ l.initial.text.items ++ flat_map (second_bare_link l.self.naming l.self.report) (take l.place-index l.place-items)
