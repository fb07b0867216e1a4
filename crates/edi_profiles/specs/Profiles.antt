-- The rules of sheets, by what has changed over time: which texts are positions, when a node repeats an earlier one,
-- and how nodes go in a canonical file. Three such profiles: points of two coordinates; points of two or three; and the
-- rules of today, in which nodes that differ in class, attributes or extra zones may share a position.
use Rattle.std.specs.Prelude.{◌≡◌, ◌≢◌, ◌⊎◌, ℕ, suc, ◌+◌, ◌<◌, ◌≤◌, true, false, List, [], ◌∷◌, ◌++◌, length, map, None, Any, codes, if◌then◌else◌}
use Rattle.std.specs.List.{AllZip}
use Rattle.std.specs.Ordering.{is_gt}
use Rattle.std.specs.Option.{option_cmp}
use Rattle.std.specs.declared.cmp.Ordering.{Ordering}
use Rattle.std.specs.declared.cmp.Ordering.TheVariants.{Less}
use Rattle.edi_line.specs.Bytes.{IsBytes}
use Rattle.edi_line.specs.ZoneData.{ZoneData}
use Rattle.edi_line.specs.LineRules.{IsZonesOf, BreaksLineRule}
use Rattle.edi_line.specs.Refusal.{IsUnbroken}
use Rattle.edi_line.specs.Zones.{groups_of}
use Rattle.edi_record.specs.Orders.{point_cmp, points_cmp}
use Rattle.edi_record.specs.RecordRules.{BreaksRecordRule, IsOfKind}
use Rattle.edi_record.specs.Records.{StatesSheet, has_points, values, SheetData}
use Rattle.edi_record.specs.Texts.{IsPosition}
use Rattle.edi_record.specs.declared.record.Kind.{Kind}
use Rattle.edi_record.specs.declared.record.Kind.TheVariants.{Pno, Par, Pfe, Fea, Lnk}
use Rattle.edi_record.specs.declared.record.Point.{Point}
use Rattle.edi_record.specs.declared.record.Record.{Record}
use Rattle.edi_schema.specs.Classes.{Classes}
use Rattle.edi_schema.specs.Sorted.{NeverFalls}
use Rattle.edi_plan.specs.Orders.{attribute_cmp}
use Rattle.edi_plan.specs.PlanOf.{IsPlanOf}
use Rattle.edi_plan.specs.Plans.{PlanData, IsPlace, record_at, others_of, kind_rank}
use Rattle.edi_plan.specs.ReferenceRules.{BreaksReferenceRule}
use Rattle.edi_plan.specs.declared.record.PlanRecord.{PlanRecord}
use Rattle.edi_topo.specs.NodeKeys.{node_key, node_key_cmp}
use Rattle.edi_topo.specs.TopologyRules.{AreEqualNodes, BreaksTopologyRule}
use Rattle.edi_rank.specs.EqualObjects.{BreaksObjectRule}
use Rattle.edi_rank.specs.InOrder.{Both}
use Rattle.edi_rank.specs.Keys.{end_cmp, face_key_cmp, least_side, link_key, link_key_cmp, numbered, object_key, object_key_cmp}
use Rattle.edi_rank.specs.Turned.{is_forward}
use Rattle.edi_write.specs.Layout.{layout}
use Rattle.edi_compare.specs.Rules.{LinesHold}

-- which text is the position of which point; which node repeats an earlier one; and how nodes go in a canonical file
pub record Profile : Type 1 where
  pub position : List ℕ → Point → Type 0
  pub repeats : PlanData → ℕ → ℕ → Type 0
  pub node_cmp : PlanRecord → PlanRecord → Ordering

-- ---- the three profiles

-- a position of two coordinates
abbrev pub IsFlatPosition : List ℕ → Point → Type 0
IsFlatPosition text p = IsPosition text p × (p.z ≡ None)

-- two nodes at one position
pub record ShareAPosition (p : PlanData) (m n : ℕ) : Type 0 where
  pub first : IsPlace p m
  pub second : IsPlace p n
  pub first_node : (record_at p m).kind ≡ Pno
  pub second_node : (record_at p n).kind ≡ Pno
  pub points : (record_at p m).points ≡ (record_at p n).points

-- nodes go by their positions alone
abbrev pub position_cmp : PlanRecord → PlanRecord → Ordering
position_cmp a b = point_cmp (node_key a).point (node_key b).point

-- points have two coordinates, and no two nodes share a position
abbrev pub two_coordinates : Profile
two_coordinates = record { position = IsFlatPosition; repeats = ShareAPosition; node_cmp = position_cmp }

-- points have two coordinates or three, and no two nodes share a position
abbrev pub three_coordinates : Profile
three_coordinates = record { position = IsPosition; repeats = ShareAPosition; node_cmp = position_cmp }

-- the rules of today
abbrev pub today : Profile
today =
    record { position = IsPosition; repeats = AreEqualNodes; node_cmp = λ a b. node_key_cmp (node_key a) (node_key b) }

-- ---- the rules by a profile

module _ (P : Profile) where
  -- a COR of a node or an arc is no position of the profile
  abbrev pub LacksPosition : List ZoneData → Type 0
  LacksPosition group =
      (kind : Kind) × IsOfKind group kind × (has_points kind ≡ true)
      × Any (λ text. (p : Point) → ¬ (P.position text p)) (values (codes "COR") group)

  -- 206 by the profile, of the record of this number
  abbrev pub LacksPositionAt : List ZoneData → ℕ → Type 0
  LacksPositionAt zones at = (before : List (List ZoneData)) × (group : List ZoneData) × (after : List (List ZoneData))
      × (groups_of zones ≡ before ++ group ∷ after) × (at ≡ length before + 1) × LacksPosition group

  -- the rules of records: those of today, and 206 by the profile
  abbrev pub BreaksRecords : List ZoneData → ℕ → ℕ → Type 0
  BreaksRecords zones rule at = BreaksRecordRule zones rule at ⊎ ((rule ≡ 206) × LacksPositionAt zones at)

  -- the points of the record are at positions of the profile
  abbrev pub HasPositions : List ZoneData → Record → Type 0
  HasPositions group r = AllZip P.position (if has_points r.kind then values (codes "COR") group else []) r.points

  -- the sheet that a file states, and its plan
  abbrev pub IsSheetBy : List ℕ → SheetData → Type 0
  IsSheetBy b sheet =
      (zones : List ZoneData) × IsZonesOf b zones × StatesSheet zones sheet
      × AllZip HasPositions (groups_of zones) sheet.list

  abbrev pub IsPlanBy : Classes → List ℕ → PlanData → Type 0
  IsPlanBy s b p = (sheet : SheetData) × IsSheetBy b sheet × IsPlanOf s sheet p

  -- 403 by the profile: the node repeats an earlier one
  abbrev pub RepeatsAt : PlanData → ℕ → Type 0
  RepeatsAt p at = (m n : ℕ) × (at ≡ suc n) × (m < n) × P.repeats p m n

  -- the rules of topology: those of today, with 403 by the profile
  abbrev pub BreaksTopology : PlanData → ℕ → ℕ → Type 0
  BreaksTopology p rule at = ((rule ≢ 403) × BreaksTopologyRule p rule at) ⊎ ((rule ≡ 403) × RepeatsAt p at)

  -- no rule is broken up to a phase
  abbrev pub RecordsHoldBy : Classes → List ℕ → Type 0
  RecordsHoldBy s b = LinesHold s b × ((zones : List ZoneData) → IsZonesOf b zones → IsUnbroken (BreaksRecords zones))

  abbrev pub ReferencesHoldBy : Classes → List ℕ → Type 0
  ReferencesHoldBy s b =
      RecordsHoldBy s b × ((sheet : SheetData) → IsSheetBy b sheet → IsUnbroken (BreaksReferenceRule s sheet.list))

  abbrev pub TopologyHoldsBy : Classes → List ℕ → Type 0
  TopologyHoldsBy s b = ReferencesHoldBy s b × ((p : PlanData) → IsPlanBy s b p → IsUnbroken (BreaksTopology p))

  -- a file breaks a rule at a place, phase by phase
  pub data BreaksBy (s : Classes) (b : List ℕ) (rule at : ℕ) : Type 0 where
    of_lines : BreaksLineRule b rule at → BreaksBy s b rule at
    of_records : (zones : List ZoneData) → LinesHold s b → IsZonesOf b zones → BreaksRecords zones rule at
        → BreaksBy s b rule at
    of_references : (sheet : SheetData) → RecordsHoldBy s b → IsSheetBy b sheet
        → BreaksReferenceRule s sheet.list rule at → BreaksBy s b rule at
    of_topology : (p : PlanData) → ReferencesHoldBy s b → IsPlanBy s b p → BreaksTopology p rule at
        → BreaksBy s b rule at
    of_objects : (p : PlanData) → TopologyHoldsBy s b → IsPlanBy s b p → BreaksObjectRule p rule at
        → BreaksBy s b rule at

  -- nothing is broken
  abbrev pub IsAcceptedBy : Classes → List ℕ → Type 0
  IsAcceptedBy s b = IsUnbroken (BreaksBy s b)

  -- the order of a canonical sheet, with nodes as the profile has them
  pub record IsInOrderBy (p : PlanData) : Type 0 where
    pub by_type : (i k : ℕ) → i < k → IsPlace p k → kind_rank (record_at p i).kind ≤ kind_rank (record_at p k).kind
    pub nodes : (i k : ℕ) → Both p suc Pno i k → P.node_cmp (record_at p i) (record_at p k) ≡ Less
    pub arcs : (i k : ℕ) → Both p suc Par i k → points_cmp (record_at p i).points (record_at p k).points ≡ Less
    pub faces : (i k : ℕ) → Both p suc Pfe i k
        → option_cmp face_key_cmp (least_side p suc i) (least_side p suc k) ≡ Less
    pub objects : (i k : ℕ) → Both p suc Fea i k → object_key_cmp (object_key p suc i) (object_key p suc k) ≡ Less
    pub links : (i k : ℕ) → Both p suc Lnk i k
        → is_gt (link_key_cmp (link_key p suc (record_at p i)) (link_key p suc (record_at p k))) ≡ false
    pub forward : (i : ℕ) → IsPlace p i → (record_at p i).kind ≡ Par → is_forward (record_at p i).points ≡ true
    pub attributes : (i : ℕ) → IsPlace p i → NeverFalls attribute_cmp (record_at p i).attributes
    pub others : (i : ℕ) → IsPlace p i → NeverFalls end_cmp (map (numbered p suc) (others_of (record_at p i)))

  -- a canonical sheet: accepted, and the layout of its own plan, whose records stand in order
  pub record IsCanonicalBy (s : Classes) (c : List ℕ) : Type 0 where
    pub plan : PlanData
    pub bytes : IsBytes c
    pub accepted : IsAcceptedBy s c
    pub states : IsPlanBy s c plan
    pub laid_out : c ≡ layout s plan
    pub in_order : IsInOrderBy plan

  -- the canonical file of a sheet
  pub record IsFormBy (s : Classes) (b c : List ℕ) : Type 0 where
    pub plan : PlanData
    pub accepted : IsAcceptedBy s b
    pub states : IsPlanBy s b plan
    pub canonical : IsCanonicalBy s c
    pub same : Rattle.edi_rank.specs.Same.Same s plan canonical.plan
