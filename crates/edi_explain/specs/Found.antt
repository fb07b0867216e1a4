-- A refusal with the earlier record and the node that its rule speaks of.
use Rattle.std.specs.Prelude.{◌≡◌, ◌-◌, ℕ, List, Option, None, IfSome}
use Rattle.edi_line.specs.ZoneData.{entries}
use Rattle.edi_line.specs.LineRules.{IsZonesOf}
use Rattle.edi_schema.specs.Classes.{Classes}
use Rattle.edi_compare.specs.Refused.{IsRefusal}
use Rattle.edi_compare.specs.declared.fault.Fault.{Fault}
use Rattle.edi_compare.specs.declared.fault.Fault.TheVariants.{Memory, Line, Entry}
use Rattle.edi_explain.specs.EndNodes.{IsEndNodeIfAny}
use Rattle.edi_explain.specs.Refusals.{IsEarlierIfAny}
use Rattle.edi_explain.specs.declared.examined.Found.{Found}

-- the earlier record that the rule of a fault speaks of, by its place from 0; a fault that is at no record has none
abbrev pub IsEarlierOf : Classes → List ℕ → Fault → Option ℕ → Type 0
IsEarlierOf s b (Memory e) earlier = earlier ≡ None
IsEarlierOf s b (Line rule at) earlier = earlier ≡ None
IsEarlierOf s b (Entry rule at) earlier = IsEarlierIfAny s b rule (at - 1) earlier

-- the node that the rule of a fault speaks of beside an arc; a fault that is at no record has none
abbrev pub IsEndNodeOf : Classes → List ℕ → Fault → Option ℕ → Type 0
IsEndNodeOf s b (Memory e) node = node ≡ None
IsEndNodeOf s b (Line rule at) node = node ≡ None
IsEndNodeOf s b (Entry rule at) node = IsEndNodeIfAny s b rule (at - 1) node

-- the refusal of the sheet b, the earlier record and the node that its rule speaks of, and the zones of the file, if they
-- were read
abbrev pub IsFound : Classes → List ℕ → Found → Type 0
IsFound s b found = IsRefusal s b found.fault × IsEarlierOf s b found.fault found.earlier
    × IsEndNodeOf s b found.fault found.node × IfSome found.zones (λ zones. IsZonesOf b (entries zones.items))
