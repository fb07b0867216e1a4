-- Which of the broken rules of one record a private call names.
use Rattle.std.specs.Prelude.{◌≡◌, ℕ, ⊤, Bool, true, List, Some}
use Rattle.edi_line.specs.ZoneData.{ZoneData}
use Rattle.edi_line.specs.inner.Refusal.{first_broken}
use Rattle.edi_record.specs.inner.RecordRules.{record_tests}
use Rattle.edi_record.specs.declared.fault.GroupFault.{GroupFault}
use Rattle.edi_record.specs.declared.fault.GroupFault.TheVariants.{Memory as GroupMemory, Broken as GroupBroken}
use Rattle.edi_record.specs.declared.fault.RecordFault.{RecordFault}
use Rattle.edi_record.specs.declared.fault.RecordFault.TheVariants.{Memory, Broken}

-- a fault of one record other than lack of memory names this rule, which is broken
abbrev pub IsBreachOf : ℕ → Bool → GroupFault → Type 0
IsBreachOf rule is_broken (GroupMemory e) = ⊤
IsBreachOf rule is_broken (GroupBroken r) = (r ≡ rule) × (is_broken ≡ true)

-- a fault of one record other than lack of memory names the least rule that its zones break
abbrev pub IsGroupRefusal : List ZoneData → GroupFault → Type 0
IsGroupRefusal group (GroupMemory e) = ⊤
IsGroupRefusal group (GroupBroken rule) = first_broken (record_tests group) ≡ Some rule

-- the fault of the record at a place
abbrev pub fault_at : ℕ → GroupFault → RecordFault
fault_at at (GroupMemory e) = Memory e
fault_at at (GroupBroken rule) = Broken rule at
