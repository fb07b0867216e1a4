-- The numbers of records, and which arcs are turned.
use Rattle.std.specs.Prelude.{◌≡◌, ℕ, ◌+◌, ◌-◌, ◌<◌, ◌≤◌, Bool, false, List, length, slice_get, slice_index, slice_index_or, Some}
use Rattle.edi_record.specs.declared.record.Kind.{Kind}
use Rattle.edi_record.specs.declared.record.Kind.TheVariants.{Pno, Par, Pfe, Fea, Lnk}
use Rattle.edi_schema.specs.Classes.{Classes, partner_of}
use Rattle.edi_plan.specs.Plans.{PlanData, IsPlace, record_at}
use Rattle.edi_rank.specs.Turned.{is_backward, turned_plan}
use Rattle.edi_rank.specs.InOrder.{AllRise}
use Rattle.edi_rank.specs.EndOrder.{OthersInOrder}

-- the number of each record, whether each is turned, the positions of its other ends in their order, and the places of
-- each type by number
pub record Labelling : Type 0 where
  pub numbers : List ℕ
  pub turned : List Bool
  pub others : List (List ℕ)
  pub nodes : List ℕ
  pub arcs : List ℕ
  pub faces : List ℕ
  pub objects : List ℕ
  pub links : List ℕ

abbrev pub order_of : Labelling → Kind → List ℕ
order_of l Pno = l.nodes
order_of l Par = l.arcs
order_of l Pfe = l.faces
order_of l Fea = l.objects
order_of l Lnk = l.links

abbrev pub number_of : Labelling → ℕ → ℕ
number_of l place = slice_index l.numbers place

-- the record at a place is turned
abbrev pub turned_at : List Bool → ℕ → Bool
turned_at turned place = slice_index_or turned place false

-- the plan with its arcs turned by the labels
abbrev pub turned_by : Classes → Labelling → PlanData → PlanData
turned_by s l p = turned_plan (partner_of s) (turned_at l.turned) p

-- The labels of a plan: the arcs that aren't forward are turned; the numbers of each type are 1 to their count, each
-- once, and then the records rise; and the other ends of each link are put in their order.
pub record AreLabels (s : Classes) (p : PlanData) (l : Labelling) : Type 0 where
  pub all_numbered : length l.numbers ≡ length p.list
  pub all_directed : length l.turned ≡ length p.list
  pub all_ordered : length l.others ≡ length p.list
  pub turned : (k : ℕ) → IsPlace p k → turned_at l.turned k ≡ is_backward p k
  pub from_one : (k : ℕ) → IsPlace p k → 1 ≤ number_of l k
  pub to_count : (k : ℕ) → IsPlace p k → slice_get (order_of l (record_at p k).kind) (number_of l k - 1) ≡ Some k
  pub orders : (kind : Kind) (i k : ℕ) → slice_get (order_of l kind) i ≡ Some k
      → IsPlace p k × ((record_at p k).kind ≡ kind) × (number_of l k ≡ i + 1)
  pub rise : AllRise (turned_by s l p) (number_of l)
  pub others : (k : ℕ) → IsPlace p k → OthersInOrder p (number_of l) l.others k

-- the numbers of members: from 1 to their count, no two equal
pub record NumbersEach (numbers : List ℕ) : Type 0 where
  pub from_one : (m : ℕ) → m < length numbers → 1 ≤ slice_index numbers m
  pub to_count : (m : ℕ) → m < length numbers → slice_index numbers m ≤ length numbers
  pub apart : (m n : ℕ) → m < length numbers → n < length numbers → slice_index numbers m ≡ slice_index numbers n
      → m ≡ n
