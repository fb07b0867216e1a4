use Rattle.std.proofs.Common.{◌≡◌, ◌∙◌, ◌<◌, ◌≤◌, ℕ, zero, suc, Bool, false, List, Option, Some, None, option_map, is_some, sym, ap, ap₂, subst, arith}
use Rattle.std.specs.Prelude.{◌↔◌, IfSome, IsTrue, unwrap_or}
use Rattle.std.proofs.lemmas.Bool.{false≢true}
use Rattle.clap.specs.Words.{Row, Text, found_of, rows_of}
use Rattle.clap.proofs.WalkLemmas.{first_value-rows}
use Rattle.edi_schema.specs.Roles.{KindCodes}
use Rattle.edi_words.specs.Requests.{AreBadKinds, AreKindsOf, Means, standard_count}
use Rattle.edi_words.specs.inner.Requests.{IsOwn}
use Rattle.edi_words.proofs.words.request_of.Goals as goal

-- a pair of which both parts are known
pair_of : {B X Y : Type 0} (both : B → X × Y) (o : Option B) (x : X) (y : Y) → Some x ≡ option_map (λ b. (both b).0) o
    → Some y ≡ option_map (λ (p : X × Y). p.1) (option_map both o) → option_map both o ≡ Some (x, y)
pair_of both None x y e r = absurd (false≢true (sym (ap is_some e)))
pair_of both (Some b) x y e r = ap₂ (λ s t. Some (s, t)) (sym (ap (λ o. unwrap_or o x) e)) (sym (ap (λ o. unwrap_or o y) r))

-- what is not more than one is at most one
at_most_one : (b : Bool) (n : ℕ) → IsTrue b ↔ (1 < n) → b ≡ false → n ≤ 1
at_most_one b zero h e = omega arith
at_most_one b (suc zero) h e = omega arith
at_most_one b (suc (suc n)) h e = absurd (false≢true (sym e ∙ h.1 (omega arith)))

pub returns-in-Err-clause-means : goal.returns-in-Err-clause-means
returns-in-Err-clause-means g c =
    let text_is = c.get_str.ensures ∙ first_value-rows (found_of c.in-Some.given.now) _ in
    let bad = subst (λ t. ((k : KindCodes) → ¬ (AreKindsOf t k)) × AreBadKinds t c.in-Err.bad) text_is c.in-Err.ensures in
    (c.in-Some.name.now, rows_of (found_of c.in-Some.given.now), pair_of _ _ _ _ c.in-Some.ensures.name c.in-Some.ensures.rows, bad)

pub returns-then-reads_input_twice-clause-means : goal.returns-then-reads_input_twice-clause-means
returns-then-reads_input_twice-clause-means g c = (
  c.in-Some.name.now,
  rows_of (found_of c.in-Some.given.now),
  pair_of _ _ _ _ c.in-Some.ensures.name c.in-Some.ensures.rows,
  c.reads_input_twice.ensures.0 c.if-reads_input_twice.true,
)

pub returns-clause-means : goal.returns-clause-means
returns-clause-means g c =
    let text_is = c.get_str.ensures ∙ first_value-rows (found_of c.in-Some.given.now) _ in
    let met = pair_of _ _ _ _ c.in-Some.ensures.name c.in-Some.ensures.rows in
    subst (λ m. Means m c.request_of_subcommand.result) (sym met)
    (c.request_of_subcommand.ensures (subst IsOwn met c.requires) (subst (λ t. AreKindsOf t c.in-Ok.kinds) text_is c.in-Ok.ensures))

pub returns-clause-once : goal.returns-clause-once
returns-clause-once g c = λ _.
    subst (λ (m : Option (Text × List Row)). IfSome m (λ p. standard_count p.1 ≤ 1)) (sym (pair_of _ _ _ _ c.in-Some.ensures.name c.in-Some.ensures.rows))
    (at_most_one _ _ c.reads_input_twice.ensures c.if-reads_input_twice.false)
