-- Single records of the file of classes, and their kinds.
use Rattle.std.specs.Prelude.{◌≡◌, ◌≢◌, ◌-◌, ◌<◌, ℕ, true, List, Some, codes, slice_get}
use Rattle.std.specs.List.{list_any}
use Rattle.edi_line.specs.ZoneData.{ZoneData}
use Rattle.edi_record.specs.Records.{values, first}
use Rattle.edi_record.specs.Texts.{is_semicolon}
use Rattle.edi_record.specs.declared.name.Name.{Name}
use Rattle.edi_schema.specs.Roles.{KindCodes, role_by, role_rank}
use Rattle.edi_schema.specs.SchemaOf.{IsNamed}
use Rattle.edi_schema.specs.declared.role.Role.{Role}
use Rattle.edi_schema.specs.declared.role.Role.TheVariants.{Plain}
use Rattle.edi_explain.specs.KindClasses.{AreClasses, IsWrong}
use Rattle.edi_explain.specs.declared.kind_causes.KindsCase.{KindsCase}
use Rattle.edi_explain.specs.declared.kind_causes.KindsCause.{KindsCause}

-- the zones of a record state a class of a kind
abbrev pub StatesClassOf : KindCodes → List ZoneData → Role → Type 0
StatesClassOf kinds group role =
    (name : Name) × IsNamed group name × (role_by kinds (first (values (codes "KND") group)) name.rid ≡ role)
    × (role ≢ Plain)

-- the type of the record with a number, from 1, holds a semicolon
abbrev pub HoldsSemicolon : List (List ZoneData) → ℕ → Type 0
HoldsSemicolon groups n =
    (group : List ZoneData) × (rty : List ℕ) × (slice_get groups (n - 1) ≡ Some group)
    × (first (values (codes "RTY") group) ≡ Some rty)
    × (list_any is_semicolon rty ≡ true)

-- over the records of the file and the codes
module _ (groups : List (List ZoneData)) (kinds : KindCodes) where
  -- the kind breaks the rule in this case, and the cause says so
  pub record IsCauseOf (case : KindsCase) (role : Role) (cause : KindsCause) : Type 0 where
    pub case_is : cause.case ≡ case
    pub role_is : cause.role ≡ role
    pub wrong : IsWrong groups kinds case role
    pub classes : AreClasses groups kinds case role cause.number cause.earlier

  -- it is the first kind that does
  pub record IsFirstOfCase (case : KindsCase) (cause : KindsCause) : Type 0 where
    pub role : Role
    pub is : IsCauseOf case role cause
    pub first : (r : Role) → role_rank r < role_rank role → ¬ (IsWrong groups kinds case r)
