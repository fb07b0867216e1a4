use Rattle.std.proofs.Common.{ℕ, ◌<◌, option_map}
use Rattle.edi_line.specs.ZoneData.{entries}
use Rattle.edi_explain.specs.AstrayZones.{IsAstrayAt}
use Rattle.edi_explain.proofs.astray.first_astray.Given as goal

abbrev pub invariant-loop-place : goal.invariant-loop-place
invariant-loop-place l = (k : ℕ) → k < l.place → ¬ (IsAstrayAt l.fn.schema (option_map (λ e. e.now) l.fn.end) l.fn.rule (entries l.fn.group) k)
