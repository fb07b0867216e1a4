-- A number that two plans share if they are the same.
use Rattle.std.specs.Prelude.{◌≡◌, ℕ, ◌%◌, ◌^◌, List, [], ◌∷◌, Option, Some, None, fold, if◌then◌else◌}
use Rattle.std.specs.List.{sum_by}
use Rattle.std.specs.Hash as fed
use Rattle.std.specs.Hash.{HashWrites}
use Rattle.std.specs.Hash.FoldHasher as folding
use Rattle.edi_line.specs.contracts.num.NumHash.TheImpl.{ghosts as numbers}
use Rattle.edi_record.specs.contracts.record.PointHash.TheImpl.{ghosts as points}
use Rattle.edi_record.specs.declared.record.Extra.{Extra}
use Rattle.edi_record.specs.declared.record.Point.{Point}
use Rattle.edi_record.specs.declared.record.Value.{Value}
use Rattle.edi_record.specs.declared.record.Value.TheVariants.{Number, Bytes}
use Rattle.edi_schema.specs.Roles.{is_plain}
use Rattle.edi_schema.specs.contracts.class.ClassRefHash.TheImpl.{ghosts as classes}
use Rattle.edi_plan.specs.Plans.{PlanData}
use Rattle.edi_plan.specs.declared.record.PlanAttribute.{PlanAttribute}
use Rattle.edi_plan.specs.declared.record.PlanRecord.{PlanRecord}
use Rattle.edi_matching.specs.contracts.checksum.SummaryHash.TheImpl.{ghosts as summaries}
use Rattle.edi_matching.specs.declared.checksum.Summary.{Summary}

-- the hash of what these writes feed it
abbrev pub hash_of : HashWrites → ℕ
hash_of writes = folding.finish (fold folding.write folding.initial writes)

-- the sum of some checksums, in 64 bits
abbrev pub sum_of : {X : Type 0} → (X → ℕ) → List X → ℕ
sum_of f xs = sum_by f xs % 2 ^ 64

abbrev pub value_input : Value → HashWrites
value_input (Number n) = numbers.hash_input n
value_input (Bytes b) = b ∷ []

abbrev pub point_checksum : Point → ℕ
point_checksum p = hash_of (points.hash_input p)

abbrev pub attribute_checksum : PlanAttribute → ℕ
attribute_checksum a =
    folding.finish (fold folding.write (fold folding.write (fold folding.write folding.initial
    (classes.hash_input a.atp)) (fed.option (fed.slice fed.u8) a.tex)) (value_input a.value))

abbrev pub extra_checksum : Extra → ℕ
extra_checksum e = folding.finish (fold folding.write (folding.write folding.initial e.code) (value_input e.value))

-- the class, if no reversal can exchange it
abbrev pub fixed_class : PlanRecord → Option ℕ
fixed_class r = if is_plain r.role then Some r.class else None

-- what a record holds but for its ends, whatever the order of its parts and the direction of its points
abbrev pub summary_of : PlanRecord → Summary
summary_of r = record {
  kind = r.kind;
  class = fixed_class r;
  points = sum_of point_checksum r.points;
  attributes = sum_of attribute_checksum r.attributes;
  extras = sum_of extra_checksum r.extras;
}

abbrev pub record_checksum : PlanRecord → ℕ
record_checksum r = hash_of (summaries.hash_input (summary_of r))

abbrev pub plan_checksum : PlanData → ℕ
plan_checksum p = sum_of record_checksum p.list

-- two plans have one character set and one checksum
pub record HaveOneChecksum (p q : PlanData) : Type 0 where
  pub cse : q.cse ≡ p.cse
  pub checksum : plan_checksum q ≡ plan_checksum p
