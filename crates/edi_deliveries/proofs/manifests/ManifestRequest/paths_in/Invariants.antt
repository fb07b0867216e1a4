use Rattle.std.proofs.Common.{◌≡◌, ◌∷◌, ◌++◌, map, string_bytes, take}
use Rattle.std.specs.Path.{path_buf_bytes}
use Rattle.edi_deliveries.proofs.manifests.ManifestRequest.paths_in.Given as goal

abbrev pub invariant-loop-name : goal.invariant-loop-name
invariant-loop-name l =
    map string_bytes l.paths.items
    ≡ string_bytes l.self.opened.now.thf ∷ map (λ name. path_buf_bytes l.self.opened.now.before ++ name.now) (take l.name-index l.name-items)
