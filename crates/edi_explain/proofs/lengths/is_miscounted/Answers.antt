use Rattle.std.proofs.Common.{◌≡◌, ◌+◌, ◌*◌, ◌-◌, length, take, drop, sym, ap₂, subst, arith}
use Rattle.std.proofs.lemmas.List.{length-drop, take_all}
use Rattle.edi_explain.proofs.Miscounted.{characters_stated, miscounted, stated_in}
use Rattle.edi_explain.specs.inner.Lengths.{HasCharacters}
use Rattle.edi_explain.proofs.lengths.is_miscounted.Goals as goal

pub returns : goal.returns
returns c =
    let content = c.args.content.now in
    let back : take (length content - 8) (drop 8 content) ≡ drop 8 content = take_all (length content - 8) (drop 8 content) (omega (arith, length-drop 8 content)) in
    let stated : c.from.result * 10 + c.from-2.result ≡ stated_in content = ap₂ (λ m n. m * 10 + n) c.from.ensures c.from-2.ensures in (
      λ t. miscounted content c.requires (subst (HasCharacters (drop 8 content)) stated
          (subst (λ b. HasCharacters b (c.from.result * 10 + c.from-2.result)) back (c.has_characters.ensures.0 t))),
      λ h. c.has_characters.ensures.1 (subst (λ b. HasCharacters b (c.from.result * 10 + c.from-2.result)) (sym back)
          (subst (HasCharacters (drop 8 content)) (sym stated) (characters_stated content h))),
    )
