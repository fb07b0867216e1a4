-- The classes of the four kinds of links in the file of a schema, and which of them break rule 604.
use Rattle.std.specs.Prelude.{◌≡◌, ◌⊎◌, ◌-◌, ◌<◌, ℕ, true, false, List, [], Option, Some, None}
use Rattle.std.specs.List.{list_any}
use Rattle.std.proofs.Common.{Bor}
use Rattle.edi_line.specs.ZoneData.{ZoneData}
use Rattle.edi_record.specs.Texts.{is_semicolon}
use Rattle.edi_schema.specs.Roles.{KindCodes, exchanged, role_rank}
use Rattle.edi_schema.specs.SchemaRules.{HasRole}
use Rattle.edi_schema.specs.declared.by_role.ByRole.{ByRole}
use Rattle.edi_schema.specs.declared.role.Role.{Role}
use Rattle.edi_plan.specs.EarlierLinks.{IsLeast}
use Rattle.edi_explain.specs.declared.kind_causes.KindsCase.{KindsCase}
use Rattle.edi_explain.specs.declared.kind_causes.KindsCase.TheVariants.{Two, Alone, Barred}
use Rattle.edi_explain.specs.declared.kind_causes.KindsCause.{KindsCause}

-- the codes of the kinds, as they are given
abbrev pub codes_of : ByRole (Bor (List ℕ)) → KindCodes
codes_of given =
    record {
      initial = given.initial.now;
      final_node = given.final_node.now;
      left = given.left.now;
      right = given.right.now;
    }

-- the order of the cases
abbrev pub case_rank : KindsCase → ℕ
case_rank Two = 0
case_rank Alone = 1
case_rank Barred = 2

-- a case and a kind come before those of a cause: cases go first, then kinds
abbrev pub IsBefore : KindsCase → Role → KindsCause → Type 0
IsBefore case role cause =
    (case_rank case < case_rank cause.case) ⊎ ((case ≡ cause.case) × (role_rank role < role_rank cause.role))

-- over the records of the file, which have numbers from 1, and the codes of the kinds
module _ (groups : List (List ZoneData)) (kinds : KindCodes) where
  -- the record of this number states a class of a kind
  abbrev pub IsClassOf : Role → ℕ → Type 0
  IsClassOf role n = HasRole groups [] kinds n role

  -- and it comes behind the record of another number
  abbrev pub IsClassBehind : Role → ℕ → ℕ → Type 0
  IsClassBehind role behind n = (behind < n) × IsClassOf role n

  -- A kind breaks the rule: it has two classes; or it has one, and its partner none; or no pointer can name one, for
  -- its type, and one can name its partner's.
  abbrev pub IsWrong : KindsCase → Role → Type 0
  IsWrong Two role = (m n : ℕ) × (m < n) × IsClassOf role m × IsClassOf role n
  IsWrong Alone role = (n : ℕ) × IsClassOf role n × ((m : ℕ) → ¬ (IsClassOf (exchanged role) m))
  IsWrong Barred role = (n m : ℕ) × (has : IsClassOf role n) × (other : IsClassOf (exchanged role) m)
      × (list_any is_semicolon has.1.rty ≡ true) × (list_any is_semicolon other.1.rty ≡ false)

  -- the record that is named, and the place from 0 of an earlier one: the second class and the first, or the only one
  abbrev pub AreClasses : KindsCase → Role → ℕ → Option ℕ → Type 0
  AreClasses Two role n earlier =
      (first : ℕ) × IsLeast (IsClassBehind role 0) first × IsLeast (IsClassBehind role first) n
      × (earlier ≡ Some (first - 1))
  AreClasses Alone role n earlier = IsLeast (IsClassBehind role 0) n × (earlier ≡ None)
  AreClasses Barred role n earlier = IsLeast (IsClassBehind role 0) n × (earlier ≡ None)

  -- The first case and the first kind of it that break the rule, and the classes.
  pub record IsKindsCause (cause : KindsCause) : Type 0 where
    pub wrong : IsWrong cause.case cause.role
    pub first : (case : KindsCase) (role : Role) → IsBefore case role cause → ¬ (IsWrong case role)
    pub classes : AreClasses cause.case cause.role cause.number cause.earlier
