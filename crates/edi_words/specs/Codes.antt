-- The codes of the kinds, as they are given.
use Rattle.std.specs.Prelude.{ℕ, List}
use Rattle.std.proofs.Common.{Bor}
use Rattle.edi_schema.specs.Roles.{KindCodes}
use Rattle.edi_schema.specs.declared.by_role.ByRole.{ByRole}

-- the codes of four texts
abbrev pub codes_given : ByRole (Bor (List ℕ)) → KindCodes
codes_given given =
    record {
      initial = given.initial.now;
      final_node = given.final_node.now;
      left = given.left.now;
      right = given.right.now;
    }
