-- The keys of links with their places, as they are sorted.
use Rattle.std.specs.Prelude.{◌≡◌, ◌&&◌, ◌-◌, ℕ, Bool, true, false, if◌then◌else◌, nat_lt, List, [], ◌∷◌, None, ⊤}
use Rattle.std.specs.Cmp.{IsTotalOrder, on_total, then_total, nat_cmp_total}
use Rattle.std.specs.Ordering.{ordering_then, nat_cmp}
use Rattle.std.specs.declared.cmp.Ordering.{Ordering}
use Rattle.std.specs.declared.cmp.Ordering.TheVariants.{Less, Equal}
use Rattle.edi_record.specs.declared.record.Kind.{Kind}
use Rattle.edi_record.specs.declared.record.Kind.TheVariants.{Pno, Par, Pfe, Fea, Lnk}
use Rattle.edi_rank.specs.contracts.keys.LinkKeyOrd.TheImpl.{ghosts as links}
use Rattle.edi_rank.specs.contracts.keys.LinkKeyOrd.TheImpl.Laws.{total-law}
use Rattle.edi_rank.specs.declared.keys.LinkKey.{LinkKey}
use Rattle.edi_rank.specs.declared.keys.NumberedEnd.{NumberedEnd}
use Rattle.edi_rank.specs.declared.placed_link.LinkParts.{LinkParts}
use Rattle.edi_rank.specs.declared.placed_link.LinkParts.TheVariants.{Pair, Whole}
use Rattle.edi_rank.specs.declared.placed_link.PlainEnd.{PlainEnd}
use Rattle.edi_rank.specs.declared.placed_link.PlainPair.{PlainPair}

-- the least packed end of a type
abbrev pub least_packed : Kind → ℕ
least_packed Pno = 0
least_packed Par = 16777216
least_packed Pfe = 33554432
least_packed Fea = 50331648
least_packed Lnk = 67108864

-- the type of a packed end
abbrev pub packed_kind : ℕ → Kind
packed_kind n = if nat_lt n 16777216 then Pno
    else (if nat_lt n 33554432 then Par
    else (if nat_lt n 50331648 then Pfe
    else (if nat_lt n 67108864 then Fea
    else Lnk)))

-- an end without SNS
abbrev pub unpacked_end : PlainEnd → NumberedEnd
unpacked_end e = record { kind = packed_kind e.packed; number = e.packed - least_packed (packed_kind e.packed); sns = None }

-- the key of a link of two ends without SNS, and nothing else
abbrev pub pair_key : ℕ → PlainPair → LinkKey
pair_key class pair =
    record { class = class; ends = unpacked_end pair.origin ∷ unpacked_end pair.other ∷ []; attributes = []; extras = [] }

-- the key that these parts make with a class
abbrev pub key_in : ℕ → LinkParts → LinkKey
key_in class (Pair pair) = pair_key class pair
key_in class (Whole whole) = whole.value.key

abbrev pub is_empty : {X : Type 0} → List X → Bool
is_empty [] = true
is_empty (x ∷ xs) = false

-- a key has neither attributes nor extra zones
abbrev pub has_neither : LinkKey → Bool
has_neither key = is_empty key.attributes && is_empty key.extras

-- how what has no attributes and no extra zones goes with what is bare or not
abbrev pub rest_cmp : Bool → Ordering
rest_cmp true = Equal
rest_cmp false = Less

-- a whole key is bare exactly if it has neither attributes nor extra zones
abbrev pub IsBareIfSaid : LinkParts → Type 0
IsBareIfSaid (Pair pair) = ⊤
IsBareIfSaid (Whole whole) = whole.value.is_bare ≡ has_neither whole.value.key

-- the key that these parts make with a class is of this class
abbrev pub IsOfClass : ℕ → LinkParts → Type 0
IsOfClass class parts = (key_in class parts).class ≡ class

-- keys with places go by key, and then by place
abbrev pub placed_cmp : LinkKey × ℕ → LinkKey × ℕ → Ordering
placed_cmp a b = ordering_then (links.cmp a.0 b.0) (nat_cmp a.1 b.1)

pub placed_total : IsTotalOrder placed_cmp
placed_total =
    then_total (on_total (λ (a : LinkKey × ℕ). a.0) total-law) (on_total (λ (a : LinkKey × ℕ). a.1) nat_cmp_total)
