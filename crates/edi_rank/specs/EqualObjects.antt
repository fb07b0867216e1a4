-- Objects that nothing but their identifiers tells apart.
use Rattle.std.specs.Prelude.{◌≡◌, ℕ, suc, ◌-◌, ◌<◌, ◌==◌, if◌then◌else◌, List, map, Option, Some, None, option_map, IsPermutation}
use Rattle.std.specs.List.{AllZip, filter_map}
use Rattle.edi_record.specs.declared.fault.RecordFault.{RecordFault}
use Rattle.edi_record.specs.declared.fault.RecordFault.TheVariants.{Memory, Broken}
use Rattle.edi_record.specs.declared.record.Extra.{Extra}
use Rattle.edi_record.specs.declared.record.Kind.TheVariants.{Fea}
use Rattle.edi_plan.specs.EarlierLinks.{IsLeastIfAny}
use Rattle.edi_plan.specs.Plans.{PlanData, IsPlace, record_at, origin_of, others_of}
use Rattle.edi_plan.specs.declared.record.PlanRecord.{PlanRecord}
use Rattle.edi_plan.specs.declared.record.PlanAttribute.{PlanAttribute}
use Rattle.edi_plan.specs.declared.record.PlanEnd.{PlanEnd}
use Rattle.edi_rank.specs.Keys.{is_piece}

-- an end as a piece has it: no target where it is the object itself
pub record EndMark : Type 0 where
  pub target : Option ℕ
  pub sns : Option (List ℕ)

-- an end as a piece of the object has it
abbrev pub end_mark : ℕ → PlanEnd → EndMark
end_mark object e = record { target = if e.target == object then None else Some e.target; sns = e.sns }

-- a link of which the object is the only end that is an object, as that object has it
pub record Piece : Type 0 where
  pub class : ℕ
  pub origin : Option EndMark
  pub others : List EndMark
  pub attributes : List PlanAttribute
  pub extras : List Extra

-- a link as a piece of the object
abbrev pub piece : ℕ → PlanRecord → Piece
piece object r =
    record {
      class = r.class;
      origin = option_map (end_mark object) (origin_of r);
      others = map (end_mark object) (others_of r);
      attributes = r.attributes;
      extras = r.extras;
    }

-- the pieces of an object
abbrev pub pieces : PlanData → ℕ → List Piece
pieces p object = filter_map (λ r. if is_piece p object r then Some (piece object r) else None) p.list

-- two pieces are one, whatever the order of their other ends and of their attributes
pub record SamePiece (a b : Piece) : Type 0 where
  pub class : a.class ≡ b.class
  pub origin : a.origin ≡ b.origin
  pub others : IsPermutation a.others b.others
  pub attributes : IsPermutation a.attributes b.attributes
  pub extras : a.extras ≡ b.extras

-- the elements of one list are those of the other by R, in some order
abbrev pub SameUpTo : {X : Type 0} → (X → X → Type 0) → List X → List X → Type 0
SameUpTo {X} R xs ys = (zs : List X) × IsPermutation ys zs × AllZip R xs zs

-- two objects are equal
pub record AreEqualObjects (p : PlanData) (m n : ℕ) : Type 0 where
  pub first : IsPlace p m
  pub second : IsPlace p n
  pub first_object : (record_at p m).kind ≡ Fea
  pub second_object : (record_at p n).kind ≡ Fea
  pub class : (record_at p m).class ≡ (record_at p n).class
  pub attributes : IsPermutation (record_at p m).attributes (record_at p n).attributes
  pub extras : (record_at p m).extras ≡ (record_at p n).extras
  pub pieces : SameUpTo SamePiece (pieces p m) (pieces p n)

-- 501: an object equal to an earlier one, at a place from 1
pub data BreaksObjectRule (p : PlanData) (rule at : ℕ) : Type 0 where
  repeats_object : {m n : ℕ} → rule ≡ 501 → at ≡ suc n → m < n → AreEqualObjects p m n → BreaksObjectRule p rule at

-- an earlier object equal to the one at this place, from 0
abbrev pub IsEqualObject : PlanData → ℕ → ℕ → Type 0
IsEqualObject p place m = (m < place) × AreEqualObjects p m place

-- the first object equal to that of a fault by 501; lack of memory speaks of none
abbrev pub IsEqualObjectIfAny : PlanData → RecordFault → Option ℕ → Type 0
IsEqualObjectIfAny p (Memory e) earlier = earlier ≡ None
IsEqualObjectIfAny p (Broken rule at) earlier = IsLeastIfAny (IsEqualObject p (at - 1)) earlier
