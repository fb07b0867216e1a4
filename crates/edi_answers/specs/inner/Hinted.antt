-- Faults of files that are read once more.
use Rattle.edi_compare.specs.declared.fault.RunFault.{RunFault}
use Rattle.edi_compare.specs.declared.fault.RunFault.TheVariants.{Memory, Read, TooLong, Schema, First, Second, Write}

-- a fault other than lack of memory
abbrev pub IsOther : RunFault → Type 0
IsOther (Memory e) = ⊥
IsOther (Read input) = Unit {0}
IsOther (TooLong input) = Unit {0}
IsOther (Schema f) = Unit {0}
IsOther (First f) = Unit {0}
IsOther (Second f) = Unit {0}
IsOther (Write w) = Unit {0}
