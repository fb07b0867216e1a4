use Rattle.std.proofs.Common.{◌≡◌, ◌∙◌, ◌&&◌, ◌++◌, ℕ, List, Bor, ap, codes, filter, flat_map, map, not, string_bytes}
use Rattle.std.proofs.lemmas.Result.{IfOk-weaker}
use Rattle.edi_deliveries.specs.Deliveries.{found_names, has_extension, is_unnamed, unnamed_line}
use Rattle.edi_deliveries.proofs.Among.{filter_same}
use Rattle.edi_deliveries.proofs.said.unnamed_lines.Goals as goal

pub returns : goal.returns
returns c =
    let found = found_names c.args.names.now c.args.lots.now in
    let in_table = map (λ (other : Bor (List ℕ)). other.now) c.in_ok-found.found.keys in
    let lines = λ (kept : List (List ℕ)). flat_map (λ name. unnamed_line (c.args.before.now ++ name)) kept in
    let same : (name : List ℕ) → is_unnamed in_table name ≡ is_unnamed found name =
    λ name. ap (λ is. has_extension (codes "VEC") name && not is) (c.in_ok-found.ensures name) in
    IfOk-weaker c.lines_on_unnamed.result _ _ (λ made is.
    is ∙ (ap lines (filter_same (is_unnamed in_table) (is_unnamed found) same (map string_bytes c.all.result.now))
    ∙ ap (λ all. lines (filter (is_unnamed found) all)) c.all.ensures)) c.lines_on_unnamed.ensures
