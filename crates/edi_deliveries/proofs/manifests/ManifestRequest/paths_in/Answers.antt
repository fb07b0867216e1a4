use Rattle.std.proofs.Common.{◌≡◌, ◌∙◌, ◌∷◌, ◌++◌, ℕ, List, Bor, ap, arith, map, string_bytes, take}
use Rattle.std.proofs.lemmas.List.{take_all}
use Rattle.std.specs.Path.{path_buf_bytes}
use Rattle.edi_deliveries.specs.Deliveries.{found_names}
use Rattle.edi_deliveries.proofs.Meeting.{map_of}
use Rattle.edi_deliveries.proofs.manifests.ManifestRequest.paths_in.Goals as goal

pub returns : goal.returns
returns c =
    let items = c.deref-name-items.result.now in
    let before = path_buf_bytes c.args.self.now.opened.now.before in
    let all : take c.loop-name.name-index items ≡ items = take_all c.loop-name.name-index items (omega arith) in
    let found = ap (map (λ (y : Bor (List ℕ)). y.now)) c.deref-name-items.ensures.value ∙ (c.in_ok-found.ensures
    ∙ (ap (λ lots. found_names c.args.self.now.names.now lots) c.lots.ensures ∙ ap (λ (names : List (List ℕ)). found_names names c.args.self.now.opened.now.delivery) c.requires)) in
    c.loop-name.invariant
    ∙ ap (λ (l : List (List ℕ)). string_bytes c.args.self.now.opened.now.thf ∷ l) (ap (map (λ (y : Bor (List ℕ)). before ++ y.now)) all
    ∙ (map_of (λ (y : Bor (List ℕ)). y.now) before items ∙ ap (map (λ (name : List ℕ). before ++ name)) found))
