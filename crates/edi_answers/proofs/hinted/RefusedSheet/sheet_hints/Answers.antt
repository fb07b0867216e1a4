use Rattle.std.proofs.Common.{◌∙◌, ◌++◌, ℕ, List, ap, subst}
use Rattle.edi_explain.specs.RefusalHints.{AreRefusalHints}
use Rattle.edi_answers.proofs.hinted.RefusedSheet.sheet_hints.Goals as goal

pub returns : goal.returns
returns g c =
    let own = c.in_ok-lines.lines.items in (
      own,
      c.in_ok-elsewhere.elsewhere.items,
      subst (λ (n : List ℕ). AreRefusalHints n c.args.bytes.now own) c.as_bytes-name.ensures.value c.in_ok-lines.ensures,
      c.in_ok-elsewhere.ensures,
      c.in_ok-extend_from_slice.ensures.items ∙ ap (λ (l : List ℕ). own ++ l) c.deref.ensures.value,
    )
