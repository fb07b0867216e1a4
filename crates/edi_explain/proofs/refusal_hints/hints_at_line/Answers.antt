use Rattle.std.proofs.Common.{◌∙◌, ◌++◌, List, ℕ, ap}
use Rattle.edi_explain.specs.Cuts.{cut_hint}
use Rattle.edi_explain.specs.Lengths.{length_hint}
use Rattle.edi_explain.proofs.refusal_hints.hints_at_line.Goals as goal

pub returns : goal.returns
returns c =
    let name = c.args.file.now.name.now in
    let counts = c.counts_characters-counts.result in
    let cut = c.shows_cut-cut.result in (
      counts,
      cut,
      c.counts_characters-counts.ensures,
      c.shows_cut-cut.ensures,
      c.in_ok-push_cut_hint.ensures ∙ ap (λ (l : List ℕ). l ++ cut_hint name cut)
          (c.in_ok-push_length_hint.ensures ∙ ap (λ (l : List ℕ). l ++ length_hint name counts) c.new-lines.ensures.items),
    )
