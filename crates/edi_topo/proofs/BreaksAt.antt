-- Which rules of topology the record at a place breaks, by its type.
use Rattle.std.proofs.Common.{◌≡◌, ◌≢◌, ◌↔◌, ℕ, suc, ◌+◌, ◌<◌, ◌⊎◌, inl, inr, Bool, true, false, true≢false, not, List, reverse, length, refl, sym, ap, ◌∙◌, subst, arith, add-one}
use Rattle.edi_record.specs.declared.record.Point.{Point}
use Rattle.edi_record.specs.declared.record.Kind.{Kind}
use Rattle.edi_record.specs.declared.record.Kind.TheVariants.{Pno, Par, Pfe}
use Rattle.edi_schema.specs.declared.role.Role.TheVariants.{Left, Right}
use Rattle.edi_plan.specs.Plans.{PlanData, IsPlace, record_at, kind_rank}
use Rattle.edi_plan.specs.Sides.{Side}
use Rattle.edi_topo.specs.inner.Arcs.{RepeatsAnEarlierArc}
use Rattle.edi_topo.specs.inner.Faces.{IsFacedBelow}
use Rattle.edi_topo.specs.inner.Nodes.{RepeatsAnEarlier}
use Rattle.edi_topo.specs.TopologyRules.{BreaksTopologyRule, StartsElsewhere, EndsElsewhere}
use Rattle.edi_topo.specs.TopologyRules.BreaksTopologyRule.{starts_elsewhere, ends_elsewhere, repeats_node, equals_reverse, repeats_arc, bounds_nothing}
use Rattle.edi_topo.proofs.AtPlaces.{breaks_of_node, breaks_of_face, breaks_of_other, BreaksOfArc, breaks_of_arc}
use Rattle.edi_topo.proofs.AtPlaces.BreaksOfArc.{starts, ends, reverses, repeats}

module _ (p : PlanData) (k : ℕ) where
  -- the record at this place from 0 breaks the rule
  abbrev Breaks : ℕ → Type 0
  Breaks rule = BreaksTopologyRule p rule (k + 1)

  at_next : (rule : ℕ) → BreaksTopologyRule p rule (suc k) → Breaks rule
  at_next rule = subst (BreaksTopologyRule p rule) (sym (add-one k))

  here_from : (rule : ℕ) → Breaks rule → BreaksTopologyRule p rule (suc k)
  here_from rule = subst (BreaksTopologyRule p rule) (add-one k)

  never : (rule : ℕ) → ¬ (Breaks rule) → (false ≡ true) ↔ Breaks rule
  never rule none = (λ t. absurd (true≢false (sym t)), λ b. absurd (none b))

  -- nodes

  pub node_repeats : (record_at p k).kind ≡ Pno → (rule : ℕ) → rule ≡ 403 → (found : Bool) → (found ≡ true) ↔ RepeatsAnEarlier p k → (found ≡ true) ↔ Breaks rule
  node_repeats is rule e found h = (
    λ t. let d = h.0 t in at_next rule (repeats_node e (d.0, k, refl, d.1, d.2)),
    λ b. h.1 (breaks_of_node p k is rule (here_from rule b)).1,
  )

  pub node_breaks_no_other : (record_at p k).kind ≡ Pno → (rule : ℕ) → rule ≢ 403 → (false ≡ true) ↔ Breaks rule
  node_breaks_no_other is rule other = never rule (λ b. other (breaks_of_node p k is rule (here_from rule b)).0)

  -- arcs

  pub arc_starts : (record_at p k).kind ≡ Par → (rule : ℕ) → rule ≡ 401 → (found : Bool) → (found ≡ true) ↔ StartsElsewhere p (suc k) → (found ≡ true) ↔ Breaks rule
  arc_starts is rule e found h = (λ t. at_next rule (starts_elsewhere e (h.0 t)), λ b. h.1 (go (breaks_of_arc p k is rule (here_from rule b))))
    where
      go : BreaksOfArc p k rule → StartsElsewhere p (suc k)
      go (starts f s) = s
      go (ends f s) = absurd (omega (arith, e, f))
      go (reverses f s) = absurd (omega (arith, e, f))
      go (repeats f s) = absurd (omega (arith, e, f))

  pub arc_ends : (record_at p k).kind ≡ Par → (rule : ℕ) → rule ≡ 402 → (found : Bool) → (found ≡ true) ↔ EndsElsewhere p (suc k) → (found ≡ true) ↔ Breaks rule
  arc_ends is rule e found h = (λ t. at_next rule (ends_elsewhere e (h.0 t)), λ b. h.1 (go (breaks_of_arc p k is rule (here_from rule b))))
    where
      go : BreaksOfArc p k rule → EndsElsewhere p (suc k)
      go (starts f s) = absurd (omega (arith, e, f))
      go (ends f s) = s
      go (reverses f s) = absurd (omega (arith, e, f))
      go (repeats f s) = absurd (omega (arith, e, f))

  pub arc_reverses : IsPlace p k → (record_at p k).kind ≡ Par → (rule : ℕ) → rule ≡ 404 → (points : List Point) → points ≡ (record_at p k).points → (found : Bool) → (found ≡ true) ↔ (points ≡ reverse points) → (found ≡ true) ↔ Breaks rule
  arc_reverses there is rule e points read found h = (
    λ t. at_next rule (equals_reverse e (k, points, refl, (there, is, sym read), h.0 t)),
    λ b. h.1 (go (breaks_of_arc p k is rule (here_from rule b))),
  )
    where
      go : BreaksOfArc p k rule → points ≡ reverse points
      go (starts f s) = absurd (omega (arith, e, f))
      go (ends f s) = absurd (omega (arith, e, f))
      go (reverses f s) = read ∙ (s ∙ sym (ap reverse read))
      go (repeats f s) = absurd (omega (arith, e, f))

  pub arc_repeats : (record_at p k).kind ≡ Par → (rule : ℕ) → rule ≡ 405 → (found : Bool) → (found ≡ true) ↔ RepeatsAnEarlierArc p k → (found ≡ true) ↔ Breaks rule
  arc_repeats is rule e found h = (
    λ t. let d = h.0 t in at_next rule (repeats_arc e (d.0, k, d.1, d.2, refl, d.3, d.4, d.5, d.6)),
    λ b. h.1 (go (breaks_of_arc p k is rule (here_from rule b))),
  )
    where
      go : BreaksOfArc p k rule → RepeatsAnEarlierArc p k
      go (starts f s) = absurd (omega (arith, e, f))
      go (ends f s) = absurd (omega (arith, e, f))
      go (reverses f s) = absurd (omega (arith, e, f))
      go (repeats f s) = s

  pub arc_breaks_no_other : (record_at p k).kind ≡ Par → (rule : ℕ) → rule ≢ 401 → rule ≢ 402 → rule ≢ 404 → rule ≢ 405 → (false ≡ true) ↔ Breaks rule
  arc_breaks_no_other is rule no_start no_end no_reverse no_repeat = never rule (λ b. go (breaks_of_arc p k is rule (here_from rule b)))
    where
      go : BreaksOfArc p k rule → ⊥
      go (starts e s) = no_start e
      go (ends e s) = no_end e
      go (reverses e s) = no_reverse e
      go (repeats e s) = no_repeat e

  -- faces

  pub face_bounds_nothing : IsPlace p k → (record_at p k).kind ≡ Pfe → (rule : ℕ) → rule ≡ 406 → (found : Bool) → (found ≡ true) ↔ IsFacedBelow p (length p.list) k → (not found ≡ true) ↔ Breaks rule
  face_bounds_nothing there is rule e true h =
      let on = h.0 refl in
      never rule (λ b. (breaks_of_face p k is rule (here_from rule b)).1 on.0 on.2)
  face_bounds_nothing there is rule e false h = (λ _. at_next rule (bounds_nothing e (k, (record_at p k).points, refl, (there, is, refl), alone)), λ _. refl)
    where
      arc_there : (a : ℕ) → Side p a Left k ⊎ Side p a Right k → a < length p.list
      arc_there a (inl s) = s.arc_there
      arc_there a (inr s) = s.arc_there

      alone : (a : ℕ) → ¬ (Side p a Left k ⊎ Side p a Right k)
      alone a s = true≢false (sym (h.1 (a, arc_there a s, s)))

  pub face_breaks_no_other : (record_at p k).kind ≡ Pfe → (rule : ℕ) → rule ≢ 406 → (false ≡ true) ↔ Breaks rule
  face_breaks_no_other is rule other = never rule (λ b. other (breaks_of_face p k is rule (here_from rule b)).0)

  -- objects and links

  pub others_break_none : (kind : Kind) → 2 < kind_rank kind → (record_at p k).kind ≡ kind → (rule : ℕ) → (false ≡ true) ↔ Breaks rule
  others_break_none kind high is rule = never rule (λ b. breaks_of_other p k kind high is rule (here_from rule b))
