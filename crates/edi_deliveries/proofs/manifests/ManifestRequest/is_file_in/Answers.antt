use Rattle.std.proofs.Common.{◌∙◌, ℕ, List, ap, map, string_bytes, subst}
use Rattle.std.specs.Bool.{MatchBool}
use Rattle.std.specs.List.{AllByRecursion}
use Rattle.std.specs.Prelude.{Any}
use Rattle.edi_answers.specs.SheetRuns.{IsApart, Meets}
use Rattle.edi_deliveries.proofs.manifests.ManifestRequest.is_file_in.Goals as goal

pub returns : goal.returns
returns g c =
    let is_one = g.F.Folder.is_one c.args.folder.now in
    subst (λ (paths : List (List ℕ)). MatchBool c.meets_any.result (Any (Meets is_one c.args.self.now.file.now) paths) (AllByRecursion (IsApart is_one c.args.self.now.file.now) paths))
    (ap (map string_bytes) c.deref.ensures.value ∙ c.in_ok-paths.ensures) c.meets_any.ensures
