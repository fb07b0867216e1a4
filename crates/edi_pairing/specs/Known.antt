-- A known pairing, of two sheets with a node and an arc each.
use Rattle.std.specs.Prelude.{true, false, List, [], ◌∷◌, codes}
use Rattle.edi_record.specs.declared.record.Kind.TheVariants.{Pno, Par}
use Rattle.edi_compare.specs.declared.pairing.Pairing.{Pairing}
use Rattle.edi_pairing.specs.declared.names.RecordName.{RecordName}

-- the names of A and of B, which has the arc first
abbrev pub names_of_a : List RecordName
names_of_a = record { kind = Pno; rid = codes "n1" } ∷ record { kind = Par; rid = codes "a1" } ∷ []

abbrev pub names_of_b : List RecordName
names_of_b = record { kind = Par; rid = codes "c2" } ∷ record { kind = Pno; rid = codes "m2" } ∷ []

-- the node goes to the node, and the arc, reversed, to the arc
abbrev pub known_pairing : Pairing
known_pairing = record { to = 1 ∷ 0 ∷ []; turned = false ∷ true ∷ [] }
