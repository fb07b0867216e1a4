-- What a group of zones states, zone by zone: what reading finds.
use Rattle.std.specs.Prelude.{◌≡◌, ℕ, Bool, true, false, not, ◌&&◌, ◌||◌, List, [], ◌∷◌, map, filter, if◌then◌else◌, codes, Option, Some, None, option_map, unwrap_or}
use Rattle.edi_line.specs.ZoneData.{ZoneData, has_code}
use Rattle.edi_line.specs.inner.Number.{number}
use Rattle.edi_record.specs.inner.Texts.{pointer, class_of, point_in}
use Rattle.edi_record.specs.Shapes.{kind_code}
use Rattle.edi_record.specs.declared.record.Kind.{Kind}
use Rattle.edi_record.specs.declared.record.Record.{Record}
use Rattle.edi_record.specs.declared.record.Attribute.{Attribute}
use Rattle.edi_record.specs.declared.record.Extra.{Extra}
use Rattle.edi_record.specs.declared.record.Value.{Value}
use Rattle.edi_record.specs.declared.record.Value.TheVariants.{Number, Bytes}
use Rattle.edi_record.specs.LinkEnds.{EndData}
use Rattle.edi_record.specs.Records.{has_points, is_link, values, opens, closes, points_at, is_known, may_be_number}

-- the one of a list, where there is just one
abbrev pub only : {X : Type 0} → List X → Option X
only [] = None
only (x ∷ []) = Some x
only (x ∷ y ∷ xs) = None

-- the first character set before the attribute's end
unfoldable pub set_after : List ZoneData → Option (List ℕ)
set_after [] = None
set_after (z ∷ zs) =
    if opens z || closes z then None else (if has_code (codes "TEX") z then Some z.value else set_after zs)

-- the first value before the next attribute
unfoldable pub value_after : List ZoneData → List ℕ
value_after [] = []
value_after (z ∷ zs) = if opens z then [] else (if closes z then z.value else value_after zs)

abbrev pub attribute : List ℕ → Option (List ℕ) → List ℕ → Option Attribute
attribute class tex atv = option_map (λ name. record { atp = name; tex = tex; atv = atv }) (class_of class)

unfoldable pub attributes : List ZoneData → List (Option Attribute)
attributes [] = []
attributes (z ∷ zs) =
    if opens z then attribute z.value (set_after zs) (value_after zs) ∷ attributes zs else attributes zs

-- the SNS before the next end
unfoldable pub sns_after : List ZoneData → Option (List ℕ)
sns_after [] = None
sns_after (z ∷ zs) = if points_at z then None else (if has_code (codes "SNS") z then Some z.value else sns_after zs)

abbrev pub end_with_sense : List ℕ → Option (List ℕ) → Option EndData
end_with_sense text sns =
    option_map (λ p. record { lot = p.lot; subset = p.subset; target = record { rty = p.rty; rid = p.rid }; sns = sns })
    (pointer text)

unfoldable pub ends : List ZoneData → List (Option EndData)
ends [] = []
ends (z ∷ zs) = if points_at z then end_with_sense z.value (sns_after zs) ∷ ends zs else ends zs

-- each zone, and whether an attribute is open before it
pub record Placed : Type 0 where
  pub open_before : Bool
  pub zone : ZoneData

abbrev pub is_open_after : Bool → ZoneData → Bool
is_open_after before z = if opens z then true else (if closes z then false else before)

unfoldable pub zones_placed : Bool → List ZoneData → List Placed
zones_placed before [] = []
zones_placed before (z ∷ zs) = (record { open_before = before; zone = z }) ∷ zones_placed (is_open_after before z) zs

abbrev pub is_extra : Kind → Placed → Bool
is_extra rty p = not ((has_code (codes "TEX") p.zone && p.open_before) || is_known rty p.zone.code)

abbrev pub value_of : Bool → List ℕ → Value
value_of may text = if may then unwrap_or (option_map Number (number text)) (Bytes text) else Bytes text

abbrev pub extra : ZoneData → Extra
extra z =
    record { code = z.code; nature = z.nature; format = z.format; value = value_of (may_be_number z.format) z.value }

abbrev pub extras : Kind → List ZoneData → List Extra
extras rty group = map (λ p. extra p.zone) (filter (is_extra rty) (zones_placed false group))

-- reading finds this record in a group of zones
pub record ReadsAsRecord (group : List ZoneData) (r : Record) : Type 0 where
  pub type : values (codes "RTY") group ≡ kind_code r.kind ∷ []
  pub rid : values (codes "RID") group ≡ r.rid ∷ []
  pub scp : map class_of (values (codes "SCP") group) ≡ Some r.scp ∷ []
  pub points : (if has_points r.kind then map point_in (values (codes "COR") group) else []) ≡ map Some r.points
  pub ends : (if is_link r.kind then ends group else []) ≡ map Some r.ends
  pub attributes : attributes group ≡ map Some r.attributes
  pub extras : extras r.kind group ≡ r.extras
