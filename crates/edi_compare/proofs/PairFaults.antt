-- The refusal of sheets under a schema is the fault of a run over the schema's files and the sheets.
use Rattle.std.proofs.Common.{ℕ, List}
use Rattle.edi_schema.specs.Classes.{Classes}
use Rattle.edi_schema.specs.Roles.{KindCodes}
use Rattle.edi_schema.specs.SchemaRefusal.{IsGoodSchema}
use Rattle.edi_compare.specs.Faults.{of_first, of_pair}
use Rattle.edi_compare.specs.Refused.{IsPairRefusal, IsRefusal}
use Rattle.edi_compare.specs.inner.Runs.{PairFault, OneSheetFault}
use Rattle.edi_compare.specs.inner.Under.{UnderSchema}
use Rattle.edi_compare.specs.declared.fault.Fault.{Fault}
use Rattle.edi_compare.specs.declared.fault.Fault.TheVariants.{Memory, Line, Entry}
use Rattle.edi_compare.specs.declared.fault.CompareFault.{CompareFault}
use Rattle.edi_compare.specs.declared.fault.CompareFault.TheVariants as pair

pub pair_fault : (kinds : KindCodes) (scd dic a b : List ℕ) (s : Classes) (f : CompareFault) → IsGoodSchema scd dic kinds s
    → IsPairRefusal s a b f → PairFault kinds scd dic a b (of_pair f)
pair_fault kinds scd dic a b s (pair.Memory e) good h = tt
pair_fault kinds scd dic a b s (pair.First f) good h = (s, good, h.0, h.1)
pair_fault kinds scd dic a b s (pair.Second f) good h = (s, good, h.0, h.1, h.2)

-- the same of one sheet
pub sheet_fault : (kinds : KindCodes) (scd dic b : List ℕ) (s : Classes) (f : Fault) → IsGoodSchema scd dic kinds s
    → IsRefusal s b f → OneSheetFault kinds scd dic b (of_pair (of_first f))
sheet_fault kinds scd dic b s (Memory e) good h = tt
sheet_fault kinds scd dic b s (Line rule at) good h = (s, good, tt, h)
sheet_fault kinds scd dic b s (Entry rule at) good h = (s, good, tt, h)

-- the same where the schema stands
pub under_fault : (s : Classes) (b : List ℕ) (f : Fault) → IsRefusal s b f → UnderSchema s b (of_pair (of_first f))
under_fault s b (Memory e) h = tt
under_fault s b (Line rule at) h = (tt, h)
under_fault s b (Entry rule at) h = (tt, h)
