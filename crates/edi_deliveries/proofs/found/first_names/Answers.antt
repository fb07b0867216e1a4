use Rattle.std.proofs.Common.{◌≡◌, ◌∙◌, ◌+◌, ◌++◌, ◌∷◌, [], get_or, is_some, map, string_bytes, take, sym, ap, subst}
use Rattle.std.specs.Str.{str_to_ascii_lowercase}
use Rattle.edi_deliveries.specs.inner.Paths.{FindsFirst}
use Rattle.edi_deliveries.proofs.Lines.{map_push}
use Rattle.edi_deliveries.proofs.NameTables.{name_added, name_kept, none_copied, some_copied}
use Rattle.edi_deliveries.proofs.Steps.{take_at}
use Rattle.edi_deliveries.proofs.found.first_names.Goals as goal
use Rattle.edi_deliveries.proofs.found.first_names.Goals.{then-is_none+in_ok-insert, else-is_none}

pub loop-name-preserved : goal.loop-name-preserved
loop-name-preserved c =
    let names = c.args.names.now in
    let xs = map string_bytes (take c.loop-name.name-index names) in
    let x = string_bytes c.name-item.result in
    let lower = c.in_ok-lower.lower in
    let is : lower ≡ str_to_ascii_lowercase x = c.in_ok-lower.ensures ∙ ap str_to_ascii_lowercase c.as_bytes.ensures.value in
    let more : map string_bytes (take (c.loop-name.name-index + 1) names) ≡ xs ++ x ∷ [] =
    ap (map string_bytes) (take_at names c.loop-name.name-index c.name-item.result c.loop-name-test.true)
    ∙ (map_push string_bytes (take c.loop-name.name-index names) (get_or names c.loop-name.name-index c.name-item.result) ∙ ap (λ name. xs ++ string_bytes name ∷ []) (sym c.name-item.is)) in
    subst (λ l. FindsFirst l c.if-is_none.first) (sym more) (elim c.if-is_none.branch [
      | then-is_none+in_ok-insert w ↦
          subst (FindsFirst (xs ++ x ∷ [])) (sym w.first-is)
          (name_added xs x lower is c.loop-name.first c.loop-name.invariant w.insert.new.self w.as_str.result w.as_str.ensures.value
          (sym c.get.ensures.value ∙ none_copied c.get.result c.is_none.result c.is_none.ensures w.if-is_none.true) w.in_ok-insert.ensures.updates)
      | else-is_none w ↦
          subst (FindsFirst (xs ++ x ∷ [])) (sym w.first-is)
          (name_kept xs x lower is c.loop-name.first c.loop-name.invariant
          (sym (ap is_some c.get.ensures.value) ∙ some_copied c.get.result c.is_none.result c.is_none.ensures w.if-is_none.false))
    ])
