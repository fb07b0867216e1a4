-- What a reader holds that has gone through some lines.
use Rattle.std.specs.Prelude.{◌≡◌, ℕ, ◌+◌, ◌==◌, ◌&&◌, ◌||◌, not, List, [], ◌∷◌, ◌++◌, length, Option, Some, None, option_map, option_to_list, Ok, Err, if◌then◌else◌}
use Rattle.edi_line.specs.Bytes.{most_records}
use Rattle.edi_line.specs.ZoneData.{ZoneData}
use Rattle.edi_line.specs.Spelling.{Spelling, Reading}
use Rattle.edi_line.specs.inner.Zones.{Part, part_of, parts_after, with_more, entry_of}
use Rattle.edi_line.specs.inner.Kinds.{kind_of, is_bom, is_cse, is_rty, is_eom, is_other_kind, is_next, is_zone_kind, is_start_kind}
use Rattle.edi_line.specs.inner.Zones.Part.{Blank, Continues, IsRemark, Begins}
use Rattle.edi_line.specs.LineRules.{BreaksAt}
use Rattle.edi_line.specs.Refusal.{Test, test}
use Rattle.edi_line.specs.inner.Refusal.{first_broken}
use Rattle.edi_line.specs.declared.order.ZoneKind.{ZoneKind}
use Rattle.edi_line.specs.declared.order.Order.{Order}
use Rattle.edi_line.specs.declared.reading.Reader.{Reader}
use Rattle.edi_line.specs.Feeding.{seen_in, Zoned}
use Rattle.edi_line.specs.inner.ZoneLists.{zoned_list}

-- ---- the rule that a line breaks

-- the tests of a line of this kind, where these have come
abbrev pub kind_tests : Order → ZoneKind → List Test
kind_tests seen kind =
    test 104 (is_next kind && not seen.started)
    ∷ test 105 (is_zone_kind kind && (not (is_bom kind) && not seen.begun))
    ∷ test 107 (is_zone_kind kind && seen.eom)
    ∷ test 108 ((is_bom kind && seen.bom) || (is_cse kind && (seen.cse || seen.rty)))
    ∷ test 109 (is_other_kind kind && not seen.rty)
    ∷ test 110 (is_rty kind && (seen.records == most_records))
    ∷ []

abbrev pub rule_of_kind : Order → ZoneKind → Option ℕ
rule_of_kind seen kind = first_broken (kind_tests seen kind)

abbrev pub rule_of : Order → Reading → Option ℕ
rule_of seen (Ok (Some s)) = rule_of_kind seen (kind_of s.code)
rule_of seen (Ok None) = None
rule_of seen (Err rule) = Some rule

abbrev pub noted_kind : Order → ZoneKind → Order
noted_kind seen kind = record {
  started = seen.started || is_start_kind kind;
  begun = seen.begun || is_zone_kind kind;
  bom = seen.bom || is_bom kind;
  cse = seen.cse || is_cse kind;
  rty = seen.rty || is_rty kind;
  eom = seen.eom || is_eom kind;
  records = seen.records + (if is_rty kind then 1 else 0);
}

abbrev pub noted : Order → Reading → Order
noted seen (Ok (Some s)) = noted_kind seen (kind_of s.code)
noted seen (Ok None) = seen
noted seen (Err rule) = seen

-- ---- the zones so far

abbrev pub no_zones : Zoned
no_zones = record { done = []; open_zone = None }

abbrev pub closed : Zoned → List ZoneData
closed z = z.done ++ option_to_list z.open_zone

abbrev pub zoned_step : Part → Zoned → Zoned
zoned_step Blank z = z
zoned_step (Continues value) z = record { done = z.done; open_zone = option_map (with_more value) z.open_zone }
zoned_step IsRemark z = record { done = closed z; open_zone = None }
zoned_step (Begins zone) z = record { done = closed z; open_zone = Some zone }

-- the zones after these parts
abbrev pub zoned_after : Zoned → List Part → Zoned
zoned_after z [] = z
zoned_after z (part ∷ parts) = zoned_after (zoned_step part z) parts

-- the zone that a line with this number begins is opened
abbrev pub opened : ℕ → Option Spelling → Zoned → Zoned
opened line None z = z
opened line (Some s) z = record { done = z.done; open_zone = Some (entry_of line s) }

abbrev pub zoned : Reader → Zoned
zoned r = zoned_list r.zones

-- ---- the reader

-- one line more was taken
pub record TakesNextLine (old : Reader) (line : Reading) (new : Reader) : Type 0 where
  pub no_rule : rule_of old.order line ≡ None
  pub counted : new.line ≡ old.line + 1
  pub order : new.order ≡ noted old.order line
  pub zones : zoned new ≡ zoned_step (part_of (old.line + 1) line) (zoned old)

-- one line more was taken, but for the zone that begins there
pub record Steps (old : Reader) (line : Reading) (begun : Option Spelling) (new : Reader) : Type 0 where
  pub no_rule : rule_of old.order line ≡ None
  pub counted : new.line ≡ old.line + 1
  pub order : new.order ≡ noted old.order line
  pub zones : opened (old.line + 1) begun (zoned new) ≡ zoned_step (part_of (old.line + 1) line) (zoned old)

-- the rule that the next line breaks, and its place
abbrev pub BreaksAtNext : Reader → Reading → ℕ → ℕ → Type 0
BreaksAtNext r line rule place = (place ≡ r.line + 1) × (rule_of r.order line ≡ Some rule)

-- the reader holds what these lines say, which break no rule
pub record Stands (done : List Reading) (r : Reader) : Type 0 where
  pub counted : r.line ≡ length done
  pub order : r.order ≡ seen_in done
  pub zones : zoned r ≡ zoned_after no_zones (parts_after 0 done)
  pub sound : (rule place : ℕ) → ¬ (BreaksAt done rule place)
