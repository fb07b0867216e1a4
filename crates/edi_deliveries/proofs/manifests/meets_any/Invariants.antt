use Rattle.std.proofs.Common.{drop, map, string_bytes}
use Rattle.std.specs.List.{AllByRecursion}
use Rattle.edi_answers.specs.SheetRuns.{IsApart}
use Rattle.edi_deliveries.proofs.manifests.meets_any.Given as goal

abbrev pub invariant-loop-path : goal.invariant-loop-path
invariant-loop-path g l =
    AllByRecursion (IsApart (g.F.Folder.is_one l.folder) l.file) (map string_bytes (drop l.path-index l.paths))
    → AllByRecursion (IsApart (g.F.Folder.is_one l.folder) l.file) (map string_bytes l.paths)
