-- Which values of zones are borrowed, line by line.
use Rattle.std.proofs.Common.{◌≡◌, ℕ, ◌+◌, true, false, ◌||◌, ◌∙◌, refl, sym, ap, subst, List, [], ◌∷◌, ◌++◌, length, take, drop, Option, Some, None, option_map, option_to_list, IfSome, IfOk, Result, Ok, Err, Vec, Global}
use Rattle.std.specs.List.{AllByRecursion}
use Rattle.std.specs.Cow.{IsOwnedSlice}
use Rattle.std.specs.declared.borrow.CowSlice.{CowSlice}
use Rattle.std.proofs.lemmas.List.{append-nil, append_assoc}
use Rattle.std.proofs.lemmas.List.Folds.{list_any-append}
use Rattle.edi_line.specs.LineKinds.{code_is, starts, bears}
use Rattle.edi_line.specs.inner.Kinds.{kind_of, is_start_kind, is_next}
use Rattle.edi_line.specs.Spelling.{Reading, AreReadings}
use Rattle.edi_line.specs.inner.Zones.{readings_of}
use Rattle.edi_line.proofs.KindsSaid.{next_same, starts_same}
use Rattle.edi_line.proofs.Passes.{Next as NextLine}
use Rattle.edi_line.proofs.Readings.{readings_are}
use Rattle.edi_line.specs.Zones.{IsContinued, IsBorrowedUnlessContinued}
use Rattle.edi_line.specs.ZoneData.{entry, entries}
use Rattle.edi_line.specs.inner.Held.{Stands}
use Rattle.edi_line.specs.declared.fault.LineFault.{LineFault}
use Rattle.edi_line.specs.inner.Borrowed.{IsOpenAt, BorrowsLines, IsClosed, IsLengthened, Leaves, LeavesAfter, begins_at}
use Rattle.edi_line.specs.declared.order.ZoneKind.{ZoneKind}
use Rattle.edi_line.specs.declared.order.ZoneKind.TheVariants.{Bom, Cse, Rty, Eom, Other, Next, Remark}
use Rattle.edi_line.specs.declared.reading.Reader.{Reader}
use Rattle.edi_line.specs.declared.zone.Zone.{Zone}
use Rattle.edi_line.specs.declared.zone_list.ZoneList.{ZoneList}
use Rattle.edi_line.specs.inner.ZoneLists.{done_in, open_in}
use Rattle.edi_line.proofs.EachElement.{each_weaker}

all_and_one : {X : Type 0} (P : X → Type 0) (xs : List X) (x : X) → AllByRecursion P xs → P x → AllByRecursion P (xs ++ x ∷ [])
all_and_one P [] x all one = (one, tt)
all_and_one P (y ∷ xs) x all one = (all.0, all_and_one P xs x all.1 one)

all_and_last : {X : Type 0} (P Q : X → Type 0) → ((x : X) → Q x → P x) → (xs : List X) (last : Option X) → AllByRecursion P xs → IfSome last Q → AllByRecursion P (xs ++ option_to_list last)
all_and_last P Q to xs None all one = subst (AllByRecursion P) (sym (append-nil xs)) all
all_and_last P Q to xs (Some x) all one = all_and_one P xs x all (to x one)

continued_more : (lines : List Reading) (line : Reading) (n : ℕ) → IsContinued lines n → IsContinued (lines ++ line ∷ []) n
continued_more lines line n c = record {
  front = c.front;
  head = c.head;
  between = c.between;
  next = c.next;
  rest = c.rest ++ line ∷ [];
  cut = ap (λ xs. xs ++ line ∷ []) c.cut ∙ append_assoc (c.front ++ c.head ∷ c.between) (c.next ∷ c.rest) (line ∷ []);
  numbered = c.numbered;
  nothing_else = c.nothing_else;
  continues = c.continues;
}

open_more : (lines : List Reading) (line : Reading) (n : ℕ) → bears starts line ≡ false → IsOpenAt lines n → IsOpenAt (lines ++ line ∷ []) n
open_more lines line n not_start o = record {
  front = o.front;
  head = o.head;
  between = o.between ++ line ∷ [];
  cut = ap (λ xs. xs ++ line ∷ []) o.cut ∙ append_assoc o.front (o.head ∷ o.between) (line ∷ []);
  numbered = o.numbered;
  nothing_else = list_any-append (bears starts) o.between (line ∷ []) ∙ (ap (λ b. b || (bears starts line || false)) o.nothing_else ∙ ap (λ b. b || false) not_start);
}

continued_by : (lines : List Reading) (line : Reading) (n : ℕ) → bears (code_is "NEX") line ≡ true → IsOpenAt lines n → IsContinued (lines ++ line ∷ []) n
continued_by lines line n next o = record {
  front = o.front;
  head = o.head;
  between = o.between;
  next = line;
  rest = [];
  cut = ap (λ xs. xs ++ line ∷ []) o.cut;
  numbered = o.numbered;
  nothing_else = o.nothing_else;
  continues = next;
}

open_here : (lines : List Reading) (line : Reading) → IsOpenAt (lines ++ line ∷ []) (length lines + 1)
open_here lines line = record { front = lines; head = line; between = []; cut = refl; numbered = refl; nothing_else = refl }

borrowed_more : (lines : List Reading) (line : Reading) (z : Zone) → IsBorrowedUnlessContinued lines z → IsBorrowedUnlessContinued (lines ++ line ∷ []) z
borrowed_more lines line z borrowed = λ owned. continued_more lines line z.line (borrowed owned)

all_borrowed_more : (lines : List Reading) (line : Reading) (zones : List Zone) → AllByRecursion (IsBorrowedUnlessContinued lines) zones → AllByRecursion (IsBorrowedUnlessContinued (lines ++ line ∷ [])) zones
all_borrowed_more lines line zones all = each_weaker (IsBorrowedUnlessContinued lines) (IsBorrowedUnlessContinued (lines ++ line ∷ [])) (borrowed_more lines line) zones all

pub closed_borrowed : (lines : List Reading) (r : Reader) → BorrowsLines lines r → AllByRecursion (IsBorrowedUnlessContinued lines) (done_in r.zones ++ option_to_list (open_in r.zones))
closed_borrowed lines r borrows = all_and_last (IsBorrowedUnlessContinued lines) (λ z. IsBorrowedUnlessContinued lines z × IsOpenAt lines z.line) (λ z both. both.0) (done_in r.zones) (open_in r.zones) borrows.done borrows.open_zone

-- a line that leaves the zones as they are
open_kept : (lines : List Reading) (line : Reading) (zone : Option Zone) → bears starts line ≡ false
    → IfSome zone (λ z. IsBorrowedUnlessContinued lines z × IsOpenAt lines z.line)
    → IfSome zone (λ z. IsBorrowedUnlessContinued (lines ++ line ∷ []) z × IsOpenAt (lines ++ line ∷ []) z.line)
open_kept lines line None not_start h = tt
open_kept lines line (Some z) not_start h = (borrowed_more lines line z h.0, open_more lines line z.line not_start h.1)

kept : (lines : List Reading) (line : Reading) (old new : Reader) → bears starts line ≡ false → BorrowsLines lines old → new.zones ≡ old.zones → BorrowsLines (lines ++ line ∷ []) new
kept lines line old new not_start borrows same = record {
  done = subst (λ (l : ZoneList). AllByRecursion (IsBorrowedUnlessContinued (lines ++ line ∷ [])) (done_in l)) (sym same) (all_borrowed_more lines line (done_in old.zones) borrows.done);
  open_zone = subst (λ (l : ZoneList). IfSome (open_in l) (λ z. IsBorrowedUnlessContinued (lines ++ line ∷ []) z × IsOpenAt (lines ++ line ∷ []) z.line)) (sym same)
      (open_kept lines line (open_in old.zones) not_start borrows.open_zone);
}

-- a line that continues the open zone
open_continued : (lines : List Reading) (line : Reading) (before after : Option Zone) → bears starts line ≡ false → bears (code_is "NEX") line ≡ true → begins_at after ≡ begins_at before
    → IfSome before (λ z. IsBorrowedUnlessContinued lines z × IsOpenAt lines z.line)
    → IfSome after (λ z. IsBorrowedUnlessContinued (lines ++ line ∷ []) z × IsOpenAt (lines ++ line ∷ []) z.line)
open_continued lines line before None not_start next same h = tt
open_continued lines line None (Some z) not_start next same h = cc
open_continued lines line (Some y) (Some z) not_start next same h =
    let at : z.line ≡ y.line = cc in
    let o : IsOpenAt lines z.line = subst (IsOpenAt lines) (sym at) h.1 in
    ((λ owned. continued_by lines line z.line next o), open_more lines line z.line not_start o)

continued : (lines : List Reading) (line : Reading) (old new : Reader) → bears starts line ≡ false → bears (code_is "NEX") line ≡ true → BorrowsLines lines old → IsLengthened old.zones new.zones → BorrowsLines (lines ++ line ∷ []) new
continued lines line old new not_start next borrows c = record {
  done = subst (AllByRecursion (IsBorrowedUnlessContinued (lines ++ line ∷ []))) (sym c.0) (all_borrowed_more lines line (done_in old.zones) borrows.done);
  open_zone = open_continued lines line (open_in old.zones) (open_in new.zones) not_start next c.1 borrows.open_zone;
}

-- a line that closes the open zone
closed : (lines : List Reading) (line : Reading) (old new : Reader) → BorrowsLines lines old → IsClosed old.zones new.zones → BorrowsLines (lines ++ line ∷ []) new
closed lines line old new borrows c = record {
  done = subst (AllByRecursion (IsBorrowedUnlessContinued (lines ++ line ∷ []))) (sym c.0) (all_borrowed_more lines line (done_in old.zones ++ option_to_list (open_in old.zones)) (closed_borrowed lines old borrows));
  open_zone = subst (λ (o : Option Zone). IfSome o (λ z. IsBorrowedUnlessContinued (lines ++ line ∷ []) z × IsOpenAt (lines ++ line ∷ []) z.line)) (sym c.1) tt;
}

by_kind : (lines : List Reading) (line : Reading) (kind : ZoneKind) (old new : Reader) → bears starts line ≡ is_start_kind kind → bears (code_is "NEX") line ≡ is_next kind → BorrowsLines lines old → Leaves kind old new → BorrowsLines (lines ++ line ∷ []) new
by_kind lines line Next old new s n borrows leaves = continued lines line old new s n borrows leaves
by_kind lines line Remark old new s n borrows leaves = closed lines line old new borrows leaves
by_kind lines line Bom old new s n borrows leaves = closed lines line old new borrows leaves
by_kind lines line Cse old new s n borrows leaves = closed lines line old new borrows leaves
by_kind lines line Rty old new s n borrows leaves = closed lines line old new borrows leaves
by_kind lines line Eom old new s n borrows leaves = closed lines line old new borrows leaves
by_kind lines line Other old new s n borrows leaves = closed lines line old new borrows leaves

pub borrows_after : (lines : List Reading) (line : Reading) (old new : Reader) → BorrowsLines lines old → LeavesAfter line old new → BorrowsLines (lines ++ line ∷ []) new
borrows_after lines (Ok (Some s)) old new borrows leaves = by_kind lines (Ok (Some s)) (kind_of s.code) old new (starts_same s.code) (next_same s.code) borrows leaves
borrows_after lines (Ok None) old new borrows leaves = kept lines (Ok None) old new refl borrows leaves
borrows_after lines (Err rule) old new borrows leaves = kept lines (Err rule) old new refl borrows leaves

-- a zone that begins with a borrowed value
pub borrows_begun : (lines : List Reading) (line : Reading) (old new : Reader) → BorrowsLines (lines ++ line ∷ []) old → done_in new.zones ≡ done_in old.zones
    → IfSome (open_in new.zones) (λ z. (z.line ≡ length lines + 1) × ¬ (IsOwnedSlice z.value)) → BorrowsLines (lines ++ line ∷ []) new
borrows_begun lines line old new borrows zones same = record {
  done = subst (AllByRecursion (IsBorrowedUnlessContinued (lines ++ line ∷ []))) (sym zones) borrows.done;
  open_zone = begun (open_in new.zones) same;
}
  where
    begun : (o : Option Zone) → IfSome o (λ z. (z.line ≡ length lines + 1) × ¬ (IsOwnedSlice z.value))
        → IfSome o (λ z. IsBorrowedUnlessContinued (lines ++ line ∷ []) z × IsOpenAt (lines ++ line ∷ []) z.line)
    begun None h = tt
    begun (Some z) h = ((λ owned. absurd (h.1 owned)), subst (IsOpenAt (lines ++ line ∷ [])) (sym h.0) (open_here lines line))

borrowed_none : (lines : List Reading) (zones : List Zone) → entries zones ≡ [] → AllByRecursion (IsBorrowedUnlessContinued lines) zones
borrowed_none lines [] e = tt
borrowed_none lines (z ∷ zs) e = cc

open_none : (lines : List Reading) (o : Option Zone) → option_map entry o ≡ None → IfSome o (λ z. IsBorrowedUnlessContinued lines z × IsOpenAt lines z.line)
open_none lines None e = tt
open_none lines (Some z) e = cc

borrows_none : (r : Reader) → Stands [] r → BorrowsLines [] r
borrows_none r s = record {
  done = borrowed_none [] (done_in r.zones) (ap (λ z. z.done) s.zones);
  open_zone = open_none [] (open_in r.zones) (ap (λ z. z.open_zone) s.zones);
}

-- a line that is taken, where the zone that it begins is borrowed
pub borrows_taken : (lines : List Reading) (line : Reading) (old middle new : Reader) → length lines ≡ old.line → BorrowsLines lines old → LeavesAfter line old middle → done_in new.zones ≡ done_in middle.zones
    → IfSome (open_in new.zones) (λ z. (z.line ≡ old.line + 1) × ¬ (IsOwnedSlice z.value)) → BorrowsLines (lines ++ line ∷ []) new
borrows_taken lines line old middle new counted borrows leaves zones begun =
    borrows_begun lines line middle new (borrows_after lines line old middle borrows leaves) zones
    (subst (λ n. IfSome (open_in new.zones) (λ z. (z.line ≡ n + 1) × ¬ (IsOwnedSlice z.value))) (sym counted) begun)

-- all lines have come
pub borrowed_at_end : (lines : List Reading) (r : Reader) (zones : Result (Vec Zone Global) LineFault) → BorrowsLines lines r → IfOk zones (λ zs. zs.items ≡ done_in r.zones ++ option_to_list (open_in r.zones))
    → IfOk zones (λ zs. AllByRecursion (IsBorrowedUnlessContinued lines) zs.items)
borrowed_at_end lines r (Ok zs) borrows e = subst (AllByRecursion (IsBorrowedUnlessContinued lines)) (sym e) (closed_borrowed lines r borrows)
borrowed_at_end lines r (Err f) borrows e = tt

pub begun_borrowed : (zone : Option Zone) (from to : ℕ) (value : CowSlice ℕ Global) → from ≡ to → ¬ (IsOwnedSlice value) → IfSome zone (λ z. (z.line ≡ from) × (z.value ≡ value))
    → IfSome zone (λ z. (z.line ≡ to) × ¬ (IsOwnedSlice z.value))
begun_borrowed None from to value same borrowed h = tt
begun_borrowed (Some z) from to value same borrowed h = (h.0 ∙ same, λ owned. borrowed (subst (λ (v : CowSlice ℕ Global). IsOwnedSlice v) h.1 owned))

-- a step of the reading
pub borrows_next : (lines : List Reading) (n m : ℕ) (line : Reading) (after : List Reading) (r : Reader) → NextLine lines n line after → m ≡ n + 1 → BorrowsLines (take n lines ++ line ∷ []) r → BorrowsLines (take m lines) r
borrows_next lines n m line after r next counted borrows = subst (λ k. BorrowsLines (take k lines) r) (sym counted) (subst (λ taken. BorrowsLines taken r) (sym next.more) borrows)

-- what the file's reading gives
pub borrowed_read : (bytes : List ℕ) (r : Reader) (zones : Result (Vec Zone Global) LineFault) → take r.line (readings_of bytes) ≡ readings_of bytes → BorrowsLines (take r.line (readings_of bytes)) r
    → IfOk zones (λ zs. zs.items ≡ done_in r.zones ++ option_to_list (open_in r.zones))
    → IfOk zones (λ zs. (readings : List Reading) → AreReadings bytes readings → AllByRecursion (IsBorrowedUnlessContinued readings) zs.items)
borrowed_read bytes r (Err f) whole borrows e = tt
borrowed_read bytes r (Ok zs) whole borrows e = λ readings say.
    subst (λ lines. AllByRecursion (IsBorrowedUnlessContinued lines) zs.items) (sym (readings_are bytes readings say))
    (borrowed_at_end (readings_of bytes) r (Ok zs) (subst (λ lines. BorrowsLines lines r) whole borrows) e)

-- before the first line
pub record IsReady (lines : List Reading) (r : Reader) : Type 0 where
  pub stands : Stands (take r.line lines) r
  pub borrows : BorrowsLines (take r.line lines) r
  pub left : drop r.line lines ≡ lines

pub ready : (lines : List Reading) (r : Reader) → Stands [] r → IsReady lines r
ready lines r s = record {
  stands = subst (λ n. Stands (take n lines) r) (sym s.counted) s;
  borrows = subst (λ n. BorrowsLines (take n lines) r) (sym s.counted) (borrows_none r s);
  left = ap (λ n. drop n lines) s.counted;
}
