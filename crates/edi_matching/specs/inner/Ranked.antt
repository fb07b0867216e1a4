-- The records of a plan by their numbers, and a number that all presentations of a plan share.
use Rattle.std.specs.Prelude.{ℕ, ◌++◌, Bool, true, false, List, [], ◌∷◌, Option, Some, None, flat_map, fold, if◌then◌else◌, length, nat_lt}
use Rattle.std.specs.Hash as fed
use Rattle.std.specs.Hash.{HashWrites}
use Rattle.std.specs.Hash.FoldHasher as folding
use Rattle.edi_record.specs.declared.record.Kind.TheVariants.{Pno, Par, Pfe, Fea, Lnk}
use Rattle.edi_record.specs.contracts.record.KindHash.TheImpl.{ghosts as kinds}
use Rattle.edi_schema.specs.Roles.{exchanged}
use Rattle.edi_schema.specs.declared.role.Role.{Role}
use Rattle.edi_schema.specs.declared.role.Role.TheVariants.{Initial, Final, Left, Right, Plain}
use Rattle.edi_plan.specs.Plans.{PlanData, record_at}
use Rattle.edi_plan.specs.declared.record.PlanEnd.{PlanEnd}
use Rattle.edi_plan.specs.declared.record.PlanRecord.{PlanRecord}
use Rattle.edi_rank.specs.Labelling.{Labelling, number_of, order_of, turned_at}
use Rattle.edi_rank.specs.Same.{has_turned_arc}
use Rattle.edi_matching.specs.declared.ranked.Member.{Member}
use Rattle.edi_matching.specs.inner.Checksums.{hash_of, record_checksum, sum_of}

-- a record by its number, and where it stands
abbrev pub member_at : Labelling → ℕ → Member
member_at l place = record { number = number_of l place; place = place }

-- the sides of an arc that runs backwards or not, that on the left of its forward direction first
abbrev pub forward_sides : Bool → List Role
forward_sides true = Right ∷ Left ∷ []
forward_sides false = Left ∷ Right ∷ []

-- which kind a link is of after the reversals
abbrev pub role_after_reversals : Labelling → PlanRecord → Role
role_after_reversals l r = if has_turned_arc (turned_at l.turned) r then exchanged r.role else r.role

-- 0 for none of the four kinds, and a number for each of them
abbrev pub role_number : Role → ℕ
role_number Initial = 1
role_number Final = 2
role_number Left = 3
role_number Right = 4
role_number Plain = 0

-- what is hashed of the type of the record at a place, if there is one
abbrev pub type_input : PlanData → ℕ → HashWrites
type_input p place = if nat_lt place (length p.list) then kinds.hash_input (record_at p place).kind else []

-- what is hashed of a text, if there is one
abbrev pub text_input : Option (List ℕ) → HashWrites
text_input None = []
text_input (Some text) = text ∷ []

-- the hash of an end: of the number and the type of what it names, and of its SNS
abbrev pub end_checksum : PlanData → Labelling → PlanEnd → ℕ
end_checksum p l e =
    folding.finish (fold folding.write (fold folding.write (fold folding.write folding.initial
    (fed.u32 (number_of l e.target))) (type_input p e.target)) (text_input e.sns))

-- what is hashed of the ends of a record: the origin, and the others in any order
abbrev pub ends_input : PlanData → Labelling → List PlanEnd → HashWrites
ends_input p l [] = []
ends_input p l (origin ∷ others) = fed.u64 (end_checksum p l origin) ++ fed.u64 (sum_of (end_checksum p l) others)

-- what is hashed of the record at a place: what it holds, which kind of link it is after the reversals, and its ends
abbrev pub record_input : PlanData → Labelling → ℕ → HashWrites
record_input p l place =
    fed.u64 (record_checksum (record_at p place))
    ++ (fed.u8 (role_number (role_after_reversals l (record_at p place))) ++ ends_input p l (record_at p place).ends)

-- the same, if there is a record
abbrev pub input_if_any : PlanData → Labelling → ℕ → HashWrites
input_if_any p l place = if nat_lt place (length p.list) then record_input p l place else []

-- what is hashed of the records at these places
abbrev pub records_input : PlanData → Labelling → List ℕ → HashWrites
records_input p l places = flat_map (input_if_any p l) places

-- the hash of all records, type by type and by their numbers
abbrev pub fingerprint_of : PlanData → Labelling → ℕ
fingerprint_of p l = hash_of (flat_map (λ kind. records_input p l (order_of l kind)) (Pno ∷ Par ∷ Pfe ∷ Fea ∷ Lnk ∷ []))
