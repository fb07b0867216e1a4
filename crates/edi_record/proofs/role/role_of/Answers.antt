use Rattle.std.proofs.Common.{rules}
use Rattle.edi_record.proofs.role.role_of.Goals as goal
use Rattle.edi_record.proofs.role.role_of.Goals.{in_default-via-in-82+in-73+in_default, in_default-via-in-82+in-84+in_default, in_default-via-in-82+in_default, in_default-via-in-83+in-67+in_default, in_default-via-in-83+in_default, in_default-via-in-65+in-84+in_default, in_default-via-in-65+in_default, in_default-via-in-84+in-69+in_default, in_default-via-in-84+in_default, in_default-via-in-81+in-65+in_default, in_default-via-in-81+in_default, in_default-via-in_default}

pub returns-in_default : goal.returns-in_default
returns-in_default c = elim c.in_default.branch [
  | in_default-via-in-82+in-73+in_default w ↦ search rules
  | in_default-via-in-82+in-84+in_default w ↦ search rules
  | in_default-via-in-82+in_default w ↦ search rules
  | in_default-via-in-83+in-67+in_default w ↦ search rules
  | in_default-via-in-83+in_default w ↦ search rules
  | in_default-via-in-65+in-84+in_default w ↦ search rules
  | in_default-via-in-65+in_default w ↦ search rules
  | in_default-via-in-84+in-69+in_default w ↦ search rules
  | in_default-via-in-84+in_default w ↦ search rules
  | in_default-via-in-81+in-65+in_default w ↦ search rules
  | in_default-via-in-81+in_default w ↦ search rules
  | in_default-via-in_default w ↦ search rules
]
