use Rattle.std.proofs.Common.{◌≡◌, ◌++◌, map, take}
use Rattle.std.specs.List.{flat_map}
use Rattle.edi_objects.specs.Objects.{second_link}
use Rattle.edi_objects.proofs.account.ObjectReporter.push_second_links.Given as goal

abbrev pub invariant-loop-link : goal.invariant-loop-link
invariant-loop-link l = l.lines.items ≡ l.initial.lines.items ++ flat_map (second_link l.self.naming l.self.report l.place) (map (λ named. named.1) (take l.link-index l.link-items))
