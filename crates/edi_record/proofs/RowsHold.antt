-- Known files against the definitions.
use Rattle.std.proofs.Common.{◌≡◌, ℕ, Option, Some, None, List, [], ◌∷◌, ◌++◌, map, codes, refl, sym, ap, ◌∙◌, subst, inr, length, arith}
use Rattle.edi_line.specs.ZoneData.{ZoneData}
use Rattle.edi_line.specs.LineRules.{IsZonesOf}
use Rattle.edi_line.specs.Refusal.{IsUnbroken, IsLeastBroken, BreaksTest}
use Rattle.edi_line.specs.inner.Refusal.{first_broken}
use Rattle.edi_line.specs.Zones.{groups_of}
use Rattle.edi_line.specs.inner.Number.{number, whole_number, fraction_number}
use Rattle.edi_line.specs.inner.Spelling.{reading_of, has_head}
use Rattle.edi_line.proofs.ZonesFound.{zones_of}
use Rattle.edi_line.proofs.FirstBroken.{none_broken, first_is_least}
use Rattle.edi_line.proofs.KnownFiles.{zones_as}
use Rattle.edi_record.specs.RecordRules.{BreaksRecordRule}
use Rattle.edi_record.specs.Records.{States}
use Rattle.edi_record.specs.Rows.{line, one_node, the_node, node_group}
use Rattle.edi_record.specs.inner.RecordRules.{record_tests, FailsTest}
use Rattle.edi_record.specs.inner.Records.{ReadsAsRecord, set_after, value_after, attributes, sns_after, ends, zones_placed}
use Rattle.edi_record.specs.inner.Texts.{pointer, point_in, count}
use Rattle.edi_record.proofs.RulesSaid.{records_unbroken, record_least}
use Rattle.edi_record.proofs.StatesSaid.{states_said}

pub node_zones : groups_of (zones_of (one_node [])) ≡ node_group ∷ []
unfolding reading_of has_head
node_zones = refl

pub node_stated : ReadsAsRecord node_group the_node
unfolding number whole_number fraction_number pointer point_in set_after value_after attributes sns_after ends zones_placed
node_stated = record { type = refl; rid = refl; scp = refl; points = refl; ends = refl; attributes = refl; extras = refl }

pub node_said : States node_group the_node
node_said = states_said node_group the_node node_stated

-- the least rule that each record breaks
abbrev pub rules_of : List ℕ → List (Option ℕ)
rules_of bytes = map (λ group. first_broken (record_tests group)) (groups_of (zones_of bytes))

pub node_unbroken : rules_of (one_node []) ≡ None ∷ []
unfolding reading_of has_head number whole_number fraction_number pointer point_in count zones_placed
node_unbroken = refl

wrong_count_rule : rules_of (one_node (line (codes "ATCSN01:1") [])) ≡ Some 205 ∷ []
unfolding reading_of has_head number whole_number fraction_number pointer point_in count zones_placed
wrong_count_rule = refl

unknown_pointer_rule : rules_of (one_node (line (codes "REFCP22:EDAB01;SeT1;PNO;Noeud_") [])) ≡ Some 208 ∷ []
unfolding reading_of has_head number whole_number fraction_number pointer point_in count zones_placed
unknown_pointer_rule = refl

empty_pointer_rule : rules_of (one_node (line (codes "REFCP00:") [])) ≡ None ∷ []
unfolding reading_of has_head number whole_number fraction_number pointer point_in count zones_placed
empty_pointer_rule = refl

-- ---- a file of one record

in_one : (g group : List ZoneData) (before after : List (List ZoneData)) → g ∷ [] ≡ before ++ group ∷ after → (before ≡ []) × (group ≡ g)
in_one g group [] after e = (refl, (let h : g ≡ group = cc in sym h))
in_one g group (b ∷ []) after e = absurd cc
in_one g group (b ∷ c ∷ before) after e = absurd cc

one_unbroken : (zones : List ZoneData) (g : List ZoneData) → groups_of zones ≡ g ∷ [] → first_broken (record_tests g) ≡ None → IsUnbroken (FailsTest zones)
one_unbroken zones g one none rule place h = none_broken (record_tests g) none rule (subst (λ x. BreaksTest (record_tests x) rule) (in_one g h.group h.before h.after (sym one ∙ h.cut)).1 h.breaks)

one_least : (zones : List ZoneData) (g : List ZoneData) (rule : ℕ) → groups_of zones ≡ g ∷ [] → first_broken (record_tests g) ≡ Some rule → IsLeastBroken (FailsTest zones) rule 1
one_least zones g rule one e =
    let found = first_is_least (record_tests g) rule refl e in
    record {
      is = record { before = []; group = g; after = []; cut = one; place_is = refl; breaks = found.breaks };
      least = λ r p h.
          let here = in_one g h.group h.before h.after (sym one ∙ h.cut) in
          inr (omega (arith, h.place_is, ap length here.0), found.least r (subst (λ x. BreaksTest (record_tests x) r) here.1 h.breaks));
    }

abbrev least_rules : List ZoneData → List (Option ℕ)
least_rules zones = map (λ group. first_broken (record_tests group)) (groups_of zones)

unbroken_by : (zones : List ZoneData) → least_rules zones ≡ None ∷ [] → IsUnbroken (BreaksRecordRule zones)
unbroken_by zones e = records_unbroken zones (go (groups_of zones) refl e)
  where
    go : (gs : List (List ZoneData)) → groups_of zones ≡ gs → map (λ group. first_broken (record_tests group)) gs ≡ None ∷ [] → IsUnbroken (FailsTest zones)
    go [] q e = absurd cc
    go (g ∷ []) q e = one_unbroken zones g q cc
    go (g ∷ h ∷ gs) q e = absurd cc

least_by : (zones : List ZoneData) (rule : ℕ) → least_rules zones ≡ Some rule ∷ [] → IsLeastBroken (BreaksRecordRule zones) rule 1
least_by zones rule e = record_least zones rule 1 (go (groups_of zones) refl e)
  where
    go : (gs : List (List ZoneData)) → groups_of zones ≡ gs → map (λ group. first_broken (record_tests group)) gs ≡ Some rule ∷ [] → IsLeastBroken (FailsTest zones) rule 1
    go [] q e = absurd cc
    go (g ∷ []) q e = one_least zones g rule q cc
    go (g ∷ h ∷ gs) q e = absurd cc

abbrev Read : List ℕ → Type 0
Read bytes = IsZonesOf bytes (zones_of bytes)

node_read : Read (one_node [])
unfolding reading_of has_head
node_read = zones_as (one_node []) _ refl refl

wrong_count_read : Read (one_node (line (codes "ATCSN01:1") []))
unfolding reading_of has_head
wrong_count_read = zones_as (one_node (line (codes "ATCSN01:1") [])) _ refl refl

unknown_pointer_read : Read (one_node (line (codes "REFCP22:EDAB01;SeT1;PNO;Noeud_") []))
unfolding reading_of has_head
unknown_pointer_read = zones_as (one_node (line (codes "REFCP22:EDAB01;SeT1;PNO;Noeud_") [])) _ refl refl

empty_pointer_read : Read (one_node (line (codes "REFCP00:") []))
unfolding reading_of has_head
empty_pointer_read = zones_as (one_node (line (codes "REFCP00:") [])) _ refl refl

pub node_file : (zones : List ZoneData) × IsZonesOf (one_node []) zones × (groups_of zones ≡ node_group ∷ []) × IsUnbroken (BreaksRecordRule zones)
node_file = (zones_of (one_node []), node_read, node_zones, unbroken_by (zones_of (one_node [])) node_unbroken)

pub wrong_count : (zones : List ZoneData) × IsZonesOf (one_node (line (codes "ATCSN01:1") [])) zones × IsLeastBroken (BreaksRecordRule zones) 205 1
wrong_count = (zones_of (one_node (line (codes "ATCSN01:1") [])), wrong_count_read, least_by _ 205 wrong_count_rule)

pub unknown_pointer : (zones : List ZoneData) × IsZonesOf (one_node (line (codes "REFCP22:EDAB01;SeT1;PNO;Noeud_") [])) zones × IsLeastBroken (BreaksRecordRule zones) 208 1
unknown_pointer = (zones_of (one_node (line (codes "REFCP22:EDAB01;SeT1;PNO;Noeud_") [])), unknown_pointer_read, least_by _ 208 unknown_pointer_rule)

pub empty_pointer : (zones : List ZoneData) × IsZonesOf (one_node (line (codes "REFCP00:") [])) zones × IsUnbroken (BreaksRecordRule zones)
empty_pointer = (zones_of (one_node (line (codes "REFCP00:") [])), empty_pointer_read, unbroken_by _ empty_pointer_rule)
