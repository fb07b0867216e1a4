-- What holds of each sheet.
use Rattle.std.specs.Prelude.{ℕ, Bool, ◌&&◌, nat_eq, nat_le, List, [], length, codes, slice_index_or}
use Rattle.edi_record.specs.declared.record.Record.{Record}
use Rattle.edi_record.specs.declared.record.Kind.{Kind}
use Rattle.edi_record.specs.declared.record.Kind.TheVariants.{Pno, Par, Pfe, Fea, Lnk}

-- the type of a record, as its zone spells it
abbrev pub kind_code : Kind → List ℕ
kind_code Pno = codes "PNO"
kind_code Par = codes "PAR"
kind_code Pfe = codes "PFE"
kind_code Fea = codes "FEA"
kind_code Lnk = codes "LNK"

-- nodes before arcs before faces before objects before links
abbrev pub kind_rank : Kind → ℕ
kind_rank Pno = 0
kind_rank Par = 1
kind_rank Pfe = 2
kind_rank Fea = 3
kind_rank Lnk = 4

-- one point per node, two or more per arc, none elsewhere
abbrev pub may_have_points : Kind → ℕ → Bool
may_have_points Pno n = nat_eq n 1
may_have_points Par n = nat_le 2 n
may_have_points Pfe n = nat_eq n 0
may_have_points Fea n = nat_eq n 0
may_have_points Lnk n = nat_eq n 0

-- two ends or more per link, none elsewhere
abbrev pub may_have_ends : Kind → ℕ → Bool
may_have_ends Pno n = nat_eq n 0
may_have_ends Par n = nat_eq n 0
may_have_ends Pfe n = nat_eq n 0
may_have_ends Fea n = nat_eq n 0
may_have_ends Lnk n = nat_le 2 n

-- a record has the points and the ends of its type
abbrev pub is_in_shape : Record → Bool
is_in_shape r = may_have_points r.kind (length r.points) && may_have_ends r.kind (length r.ends)

-- the record at a place, from 0, or an empty one where there is none
abbrev pub stated_at : List Record → ℕ → Record
stated_at list k =
    slice_index_or list k (record {
      kind = Pno;
      rid = [];
      scp = record { rty = []; rid = [] };
      points = [];
      ends = [];
      attributes = [];
      extras = [];
    })
