-- What is stored of a record's zones that have come, while others are left.
use Rattle.std.specs.Prelude.{◌≡◌, ℕ, ◌+◌, ◌^◌, ◌<◌, ◌≤◌, ◌==◌, Bool, true, false, not, ◌&&◌, ◌||◌, nat_le, is_some, is_none, List, [], ◌∷◌, ◌++◌, map, filter, length, if◌then◌else◌, Option, Some, None, IfSome, option_map, codes, bytes_eq}
use Rattle.std.specs.List.{list_any, before_first}
use Rattle.std.specs.declared.alloc.Global.{Global}
use Rattle.std.specs.declared.sync.Arc.{Arc}
use Rattle.edi_line.specs.ZoneData.{ZoneData, has_code}
use Rattle.edi_line.specs.inner.ZoneLists.{done_of, open_of}
use Rattle.edi_record.specs.inner.Texts.{point_in, class_of}
use Rattle.edi_record.specs.Records.{values, has_points, is_link, opens, closes, points_at}
use Rattle.edi_record.specs.inner.Records.{set_after, value_after, attributes, sns_after, ends, Placed, zones_placed, is_open_after, is_extra, extra, extras}
use Rattle.edi_record.specs.inner.RecordRules.{is_arc_kind, count_until, counts_right, repeats_code, has_bad_attribute, is_unknown_pointer}
use Rattle.edi_record.specs.declared.record.Kind.{Kind}
use Rattle.edi_record.specs.declared.record.Kind.TheVariants.{Pno, Par, Pfe, Fea, Lnk}
use Rattle.edi_record.specs.declared.record.Attribute.{Attribute}
use Rattle.edi_record.specs.LinkEnds.{EndData}
use Rattle.edi_record.specs.declared.record.Extra.{Extra}
use Rattle.edi_record.specs.declared.role.ZoneRole.{ZoneRole}
use Rattle.edi_record.specs.declared.role.ZoneRole.TheVariants.{Identifier, Class, AttributeCount, AttributeClass, AttributeSet, AttributeValue, BodyCount, Position, EndPointer, EndSense, Skipped, Unknown}
use Rattle.edi_record.specs.declared.name.Name.{Name}
use Rattle.edi_record.specs.declared.only.Only.{Only}
use Rattle.edi_record.specs.declared.only.Only.TheVariants.{Absent, One, Repeated}
use Rattle.edi_record.specs.declared.attributes.Attributes.{Attributes}
use Rattle.edi_record.specs.declared.points.Points.{Points}
use Rattle.edi_record.specs.declared.ends.Ends.{Ends}
use Rattle.edi_record.specs.declared.extras.Extras.{Extras}
use Rattle.edi_record.specs.declared.draft.Draft.{Draft}
use Rattle.edi_record.specs.declared.record.Point.{Point as PointMade}
use Rattle.edi_record.specs.declared.record_parts.RecordParts.{RecordParts}

-- the role of a code that isn't known in every record
abbrev pub body_role_in : Kind → List ℕ → ZoneRole
body_role_in Pno code = if bytes_eq code (codes "COR") then Position else Unknown
body_role_in Par code =
    if bytes_eq code (codes "COR") then Position else (if bytes_eq code (codes "PTC") then BodyCount else Unknown)
body_role_in Pfe code = Unknown
body_role_in Fea code = Unknown
body_role_in Lnk code =
    if bytes_eq code (codes "FTC") then BodyCount
    else (if bytes_eq code (codes "FTP") then EndPointer else
    (if bytes_eq code (codes "SNS") then EndSense else Unknown))

-- what a zone with a code is to a record
abbrev pub role_in : Kind → List ℕ → ZoneRole
role_in kind code =
    if bytes_eq code (codes "RID") then Identifier
    else (if bytes_eq code (codes "SCP") then Class
    else (if bytes_eq code (codes "ATC") then AttributeCount
    else (if bytes_eq code (codes "ATP") then AttributeClass
    else (if bytes_eq code (codes "TEX") then AttributeSet
    else (if bytes_eq code (codes "ATV") then AttributeValue
    else (if bytes_eq code (codes "RTY") then Skipped
    else (if bytes_eq code (codes "QAC") then Skipped
    else (if bytes_eq code (codes "QAP") then Skipped
    else body_role_in kind code))))))))

-- what is stored when one more has come
abbrev pub with_next : {T : Type 0} → Only T → T → Only T
with_next Absent next = One next
with_next (One before) next = Repeated
with_next Repeated next = Repeated

-- what the one says, if there is one
abbrev pub the_one : {T : Type 0} → Only T → Option T
the_one Absent = None
the_one (One said) = Some said
the_one Repeated = None

-- a name that records share
abbrev pub SharedName : Type 0
SharedName = Arc Name Global

-- with those left these are all the texts, and where one has come it says what is stored; or there are two or more
abbrev pub AreStored : {T : Type 0} → (List ℕ → T → Type 0) → Only T → List (List ℕ) → List (List ℕ) → Type 0
AreStored Says Absent left all = all ≡ left
AreStored Says (One said) left all = (text : List ℕ) × Says text said × (all ≡ text ∷ left)
AreStored Says Repeated left all = 2 ≤ length all

-- the text itself is stored
abbrev pub AreTexts : Only (List ℕ) → List (List ℕ) → List (List ℕ) → Type 0
AreTexts = AreStored (λ text said. text ≡ said)

-- this number was read
abbrev pub is_number : Option ℕ → ℕ → Bool
is_number None n = false
is_number (Some m) n = m == n

-- the number is stored that the text counts, or none where it counts none that there can be of zones
abbrev pub AreCounts : Only (Option ℕ) → List (List ℕ) → List (List ℕ) → Type 0
AreCounts = AreStored (λ text number. (n : ℕ) → n < 2 ^ 64 → is_number number n ≡ counts_right (text ∷ []) n)

-- the class is stored that the text names, or none where it is no pointer
abbrev pub AreClassTexts : Only (Option SharedName) → List (List ℕ) → List (List ℕ) → Type 0
AreClassTexts = AreStored (λ text class. class_of text ≡ option_map (λ name. name.value) class)

-- a zone with this code and value goes from those that are left to those that have come
abbrev pub Takes : {Part : Type 0} → (Part → List ZoneData → List ZoneData → Type 0) → List ℕ → List ℕ → Part → Part → Type 0
Takes Keeps code value old new =
    (z : ZoneData) (left group : List ZoneData) → has_code code z ≡ true → z.value ≡ value → Keeps old (z ∷ left) group
    → Keeps new left group

-- the attributes that are done, beside the one that is open
pub record KeptAttributes : Type 0 where
  pub done : List Attribute
  pub opened : Option Attribute
  pub is_broken : Bool

abbrev pub kept_attributes : Attributes → List Attribute → KeptAttributes
kept_attributes a list =
    record { done = done_of a.is_open list; opened = open_of a.is_open list; is_broken = a.is_broken }

pub record KeptPoints : Type 0 where
  pub list : List PointMade
  pub is_broken : Bool

abbrev pub kept_points : Points → List PointMade → KeptPoints
kept_points p list = record { list = list; is_broken = p.is_broken }

-- the ends that are done, beside the one that is open
pub record KeptEnds : Type 0 where
  pub done : List EndData
  pub opened : Option EndData
  pub is_broken : Bool

abbrev pub kept_ends : Ends → List EndData → KeptEnds
kept_ends e list = record { done = done_of true list; opened = open_of true list; is_broken = e.is_broken }

pub record KeptExtras : Type 0 where
  pub list : List Extra
  pub is_broken : Bool

abbrev pub kept_extras : Extras → List Extra → KeptExtras
kept_extras e list = record { list = list; is_broken = e.is_broken }

-- all that is stored of a record
pub record KeptRecord : Type 0 where
  pub kind : Kind
  pub identifier : Only (List ℕ)
  pub class : Only (Option SharedName)
  pub attribute_count : Only (Option ℕ)
  pub body_count : Only (Option ℕ)
  pub counted : ℕ
  pub attributes : KeptAttributes
  pub points : KeptPoints
  pub ends : KeptEnds
  pub extras : KeptExtras

-- what is stored in a draft and in the lists beside it
abbrev pub kept : Draft → RecordParts → KeptRecord
kept d p = record {
  kind = d.kind;
  identifier = d.identifier;
  class = d.class;
  attribute_count = d.attribute_count;
  body_count = d.body_count;
  counted = d.counted;
  attributes = kept_attributes d.attributes p.attributes.items;
  points = kept_points d.points p.points.items;
  ends = kept_ends d.ends p.ends.items;
  extras = kept_extras d.extras p.extras.items;
}

-- a value where no attribute is open
abbrev pub is_stray : Placed → Bool
is_stray p = closes p.zone && not p.open_before

-- the character set that has come, or else the first of those that are left
abbrev pub set_with : Option (List ℕ) → List ZoneData → Option (List ℕ)
set_with (Some text) left = Some text
set_with None left = set_after left

-- the attribute with its character set and this value
abbrev pub attribute_of : Attribute → Option (List ℕ) → List ℕ → Attribute
attribute_of opened set value = record { atp = opened.atp; tex = set; atv = value }

-- the attributes that the zones which are left make with the open one
abbrev pub attributes_with : Option Attribute → List ZoneData → List (Option Attribute)
attributes_with None left = attributes left
attributes_with (Some opened) left =
    Some (attribute_of opened (set_with opened.tex left) (value_after left)) ∷ attributes left

-- the open attribute, closed with a value
abbrev pub closed_with : List ℕ → Option Attribute → List Attribute
closed_with value None = []
closed_with value (Some opened) = attribute_of opened opened.tex value ∷ []

-- among the zones that are left is a second character set, of the open attribute or of a later one
abbrev pub repeats_with : Option Attribute → List ZoneData → Bool
repeats_with None left = repeats_code opens (λ z. opens z || closes z) (codes "TEX") left
repeats_with (Some opened) left =
    nat_le (if is_some opened.tex then 1 else 2) (count_until (λ z. opens z || closes z) (codes "TEX") left)
    || repeats_code opens (λ z. opens z || closes z) (codes "TEX") left

-- of a group's attributes so much is stored, where these zones are left
pub record StoresAttributes (a : KeptAttributes) (left group : List ZoneData) : Type 0 where
  pub broken : a.is_broken ≡ true → has_bad_attribute group ≡ true
  pub made : a.is_broken ≡ false → attributes group ≡ map Some a.done ++ attributes_with a.opened left
  pub stray : a.is_broken ≡ false
      → list_any is_stray (zones_placed false group) ≡ list_any is_stray (zones_placed (is_some a.opened) left)
  pub repeated : a.is_broken ≡ false → repeats_with None group ≡ repeats_with a.opened left
  pub valueless : IfSome a.opened (λ opened. opened.atv ≡ [])

-- where the rule isn't broken then, it wasn't before, and an attribute is open then or none is
abbrev pub LeavesOpen : Bool → KeptAttributes → KeptAttributes → Type 0
LeavesOpen is_open old new = new.is_broken ≡ false → (old.is_broken ≡ false) × (is_some new.opened ≡ is_open)

-- of a group's points so much is stored, where these zones are left
pub record StoresPoints (p : KeptPoints) (left group : List ZoneData) : Type 0 where
  pub broken : p.is_broken ≡ true → list_any is_none (map point_in (values (codes "COR") group)) ≡ true
  pub made : p.is_broken ≡ false
      → map point_in (values (codes "COR") group) ≡ map Some p.list ++ map point_in (values (codes "COR") left)

-- an SNS comes before any end
abbrev pub has_stray : List ZoneData → Bool
has_stray group = list_any (has_code (codes "SNS")) (before_first points_at group)

-- the SNS that has come, or else the first of those that are left
abbrev pub sns_with : Option (List ℕ) → List ZoneData → Option (List ℕ)
sns_with (Some text) left = Some text
sns_with None left = sns_after left

-- the end with its SNS
abbrev pub end_with : EndData → Option (List ℕ) → EndData
end_with opened sns = record { lot = opened.lot; subset = opened.subset; target = opened.target; sns = sns }

-- the ends that the zones which are left make with the open one
abbrev pub ends_with : Option EndData → List ZoneData → List (Option EndData)
ends_with None left = ends left
ends_with (Some opened) left = Some (end_with opened (sns_with opened.sns left)) ∷ ends left

-- among the zones that are left is an SNS before any end, or a second one, of the open end or of a later one
abbrev pub bad_sns_with : Option EndData → List ZoneData → Bool
bad_sns_with None left = has_stray left || repeats_code points_at points_at (codes "SNS") left
bad_sns_with (Some opened) left =
    nat_le (if is_some opened.sns then 1 else 2) (count_until points_at (codes "SNS") left)
    || repeats_code points_at points_at (codes "SNS") left

-- of a group's ends so much is stored, where these zones are left
pub record StoresEnds (e : KeptEnds) (left group : List ZoneData) : Type 0 where
  pub broken : e.is_broken ≡ true → (list_any is_none (ends group) || bad_sns_with None group) ≡ true
  pub made : e.is_broken ≡ false → ends group ≡ map Some e.done ++ ends_with e.opened left
  pub sns : e.is_broken ≡ false → bad_sns_with None group ≡ bad_sns_with e.opened left

-- the extras among zones before which an attribute is open or none is
abbrev pub extras_after : Kind → Bool → List ZoneData → List Extra
extras_after kind is_open zs = map (λ (p : Placed). extra p.zone) (filter (is_extra kind) (zones_placed is_open zs))

-- of a group's extras so much is stored, where these zones are left, and an attribute is open or none is
pub record StoresExtras (kind : Kind) (is_open : Bool) (e : KeptExtras) (left group : List ZoneData) : Type 0 where
  pub broken : e.is_broken ≡ true → list_any (is_unknown_pointer kind) (zones_placed false group) ≡ true
  pub made : e.is_broken ≡ false → extras kind group ≡ e.list ++ extras_after kind is_open left
  pub unknown : e.is_broken ≡ false → list_any (is_unknown_pointer kind) (zones_placed false group)
      ≡ list_any (is_unknown_pointer kind) (zones_placed is_open left)

-- an extra goes from the zones that are left to those that have come
abbrev pub TakesExtra : ZoneData → KeptExtras → KeptExtras → Type 0
TakesExtra z old new =
    (kind : Kind) (is_open : Bool) (left group : List ZoneData)
    → is_extra kind (record { open_before = is_open; zone = z }) ≡ true
    → StoresExtras kind is_open old (z ∷ left) group → StoresExtras kind (is_open_after is_open z) new left group

-- of a group so much is stored, where these zones are left
pub record StoresRecord (d : KeptRecord) (left group : List ZoneData) : Type 0 where
  pub identifier : AreTexts d.identifier (values (codes "RID") left) (values (codes "RID") group)
  pub class : AreClassTexts d.class (values (codes "SCP") left) (values (codes "SCP") group)
  pub attribute_count : AreCounts d.attribute_count (values (codes "ATC") left) (values (codes "ATC") group)
  pub point_count : is_arc_kind d.kind ≡ true
      → AreCounts d.body_count (values (codes "PTC") left) (values (codes "PTC") group)
  pub end_count : is_link d.kind ≡ true
      → AreCounts d.body_count (values (codes "FTC") left) (values (codes "FTC") group)
  pub counted_points : has_points d.kind ≡ true
      → length (values (codes "COR") group) ≡ d.counted + length (values (codes "COR") left)
  pub counted_ends : is_link d.kind ≡ true
      → length (values (codes "FTP") group) ≡ d.counted + length (values (codes "FTP") left)
  pub attributes : StoresAttributes d.attributes left group
  pub points : has_points d.kind ≡ true → StoresPoints d.points left group
  pub ends : is_link d.kind ≡ true → StoresEnds d.ends left group
  pub extras : d.attributes.is_broken ≡ false → StoresExtras d.kind (is_some d.attributes.opened) d.extras left group
