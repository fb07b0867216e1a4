-- What a reader that comes over lines in pieces says of all of them.
use Rattle.std.proofs.Common.{◌≡◌, ℕ, ◌+◌, ◌<◌, ◌≤◌, ◌⊎◌, Some, None, List, [], ◌∷◌, ◌++◌, length, refl, sym, ap, ◌∙◌, subst, inl, inr, ⊎_elim, arith, length-append, Option, Result, Ok, Err, OnOk, IfErr, IsErr}
use Rattle.std.proofs.lemmas.List.{append-nil, append_assoc}
use Rattle.edi_line.specs.Spelling.{Reading}
use Rattle.edi_line.specs.inner.Spelling.{reading_of}
use Rattle.edi_line.specs.Lines.{HasNoFeed, IsEnded, content_of}
use Rattle.edi_line.specs.inner.Zones.{readings_of, parts_after}
use Rattle.edi_line.specs.LineRules.{BreaksAt, LacksEnd, BreaksIn, BreaksLineRule}
use Rattle.edi_line.specs.Refusal.{IsLeastBroken, IfBroken}
use Rattle.edi_line.specs.inner.Held.{no_zones, zoned_after, rule_of, zoned, TakesNextLine, BreaksAtNext, Stands}
use Rattle.edi_line.specs.Feeding.{HoldsZones, EndedPart, seen_in, Refused, FeedState, HoldsAll, HoldsFault, StandsBy, StandsFor, fault_seen}
use Rattle.edi_line.specs.inner.Feeding.{TakesAll, TakesFront, RefusesOne, RefusesIn}
use Rattle.edi_line.specs.declared.fault.LineFault.{LineFault}
use Rattle.edi_line.specs.declared.fault.LineFault.TheVariants as fault
use Rattle.edi_line.specs.declared.reading.Reader.{Reader}
use Rattle.edi_line.proofs.HeldZones.{zones_held, held_zones}
use Rattle.edi_line.proofs.Readings.{readings_exist, readings_are, least_said}
use Rattle.edi_line.proofs.Rules.{stands_more, refused_here}
use Rattle.edi_line.proofs.Ends.{all_ended, readings_append, readings_first, readings_last, readings_few, cut_on, cut_before, cut_none, cut_exists}

-- ---- answers

pub if_broken : (P Q : ℕ → ℕ → Type 0) → ((rule place : ℕ) → P rule place → Q rule place) → (e : LineFault) → IfBroken P e → IfBroken Q e
if_broken P Q f (fault.Memory e) h = tt
if_broken P Q f (fault.Broken rule place) h = f rule place h

pub if_err : {A : Type 0} (P Q : ℕ → ℕ → Type 0) (r : Result A LineFault) → ((rule place : ℕ) → P rule place → Q rule place) → IfErr r (IfBroken P) → IfErr r (IfBroken Q)
if_err P Q (Ok a) f h = tt
if_err P Q (Err e) f h = if_broken P Q f e h

-- ---- the least of the lines in front is the least of all

-- a place in a list that goes on
abbrev IsIn : List Reading → List Reading → Reading → Type 0
IsIn lines before line = ((rest : List Reading) × (lines ≡ before ++ line ∷ rest)) ⊎ (length lines ≤ length before)

within : (lines more before : List Reading) (line : Reading) (after : List Reading) → lines ++ more ≡ before ++ line ∷ after → IsIn lines before line
within [] more before x after e = inr (omega arith)
within (y ∷ ys) more [] x after e = inl (ys, (let h : y ≡ x = cc in ap (λ z. z ∷ ys) h))
within (y ∷ ys) more (b ∷ before) x after e =
    let head : y ≡ b = cc in
    let tail : ys ++ more ≡ before ++ x ∷ after = cc in
    longer (within ys more before x after tail) head
  where
    longer : IsIn ys before x → y ≡ b → IsIn (y ∷ ys) (b ∷ before) x
    longer (inl (rest, p)) head = inl (rest, ap (λ l. y ∷ l) p ∙ ap (λ c. c ∷ (before ++ x ∷ rest)) head)
    longer (inr p) head = inr (omega (arith, p))

place_within : (lines : List Reading) (rule place : ℕ) → BreaksAt lines rule place → place ≤ length lines
place_within lines rule place b = omega (arith, b.place_is, ap length b.cut, length-append b.before (b.line ∷ b.after))

abbrev IsNoLess : ℕ → ℕ → ℕ → ℕ → Type 0
IsNoLess rule place r p = (place < p) ⊎ ((place ≡ p) × (rule ≤ r))

front_least : (lines more : List Reading) (rule place : ℕ) → IsLeastBroken (BreaksAt lines) rule place → (r p : ℕ) → BreaksAt (lines ++ more) r p → IsNoLess rule place r p
front_least lines more rule place h r p b = at (within lines more b.before b.line b.after b.cut)
  where
    at : IsIn lines b.before b.line → IsNoLess rule place r p
    at (inl (rest, e)) = h.least r p (record { before = b.before; line = b.line; after = rest; cut = e; place_is = b.place_is; breaks = b.breaks })
    at (inr past) = inl (omega (arith, past, b.place_is, place_within lines rule place h.is))

breaks_still : (lines more : List Reading) (rule place : ℕ) → BreaksAt lines rule place → BreaksAt (lines ++ more) rule place
breaks_still lines more rule place b = record {
  before = b.before;
  line = b.line;
  after = b.after ++ more;
  cut = ap (λ l. l ++ more) b.cut ∙ append_assoc b.before (b.line ∷ b.after) more;
  place_is = b.place_is;
  breaks = b.breaks;
}

pub least_still : (lines more : List Reading) (rule place : ℕ) → IsLeastBroken (BreaksAt lines) rule place → IsLeastBroken (BreaksAt (lines ++ more)) rule place
least_still lines more rule place h = record { is = breaks_still lines more rule place h.is; least = front_least lines more rule place h }

pub least_of_all : (lines more : List Reading) (rule place : ℕ) → IsLeastBroken (BreaksAt lines) rule place → IsLeastBroken (BreaksIn (lines ++ more)) rule place
least_of_all lines more rule place h = record {
  is = inl (breaks_still lines more rule place h.is);
  least = λ r p b. ⊎_elim (front_least lines more rule place h r p) (missed r p) b;
}
  where
    missed : (r p : ℕ) → LacksEnd (lines ++ more) r p → IsNoLess rule place r p
    missed r p l = inl (omega (arith, l.1, length-append lines more, place_within lines rule place h.is))

-- a rule that is broken at a line isn't 106
least_at : (lines done : List Reading) (line : Reading) (rest : List Reading) (rule place : ℕ) → lines ≡ done ++ line ∷ rest → place ≡ length done + 1 → IsLeastBroken (BreaksIn lines) rule place → IsLeastBroken (BreaksAt lines) rule place
least_at lines done line rest rule place cut place_is h = record { is = at h.is; least = λ r p b. h.least r p (inl b) }
  where
    at : BreaksIn lines rule place → BreaksAt lines rule place
    at (inl b) = b
    at (inr l) = absurd (omega (arith, l.1, place_is, ap length cut, length-append done (line ∷ rest)))

-- ---- a reader goes through lines

pub stands_all : (done : List Reading) (old new : Reader) (lines : List Reading) → Stands done old → TakesAll old lines new → Stands (done ++ lines) new
stands_all done old new [] s t = subst (λ d. Stands d new) (sym (append-nil done)) (subst (Stands done) t s)
stands_all done old new (line ∷ lines) s t =
    subst (λ d. Stands d new) (append_assoc done (line ∷ []) lines) (stands_all (done ++ line ∷ []) t.0 new lines (stands_more done line old t.0 s t.1) t.2)

-- the first line that it refuses
pub refused_all : (done : List Reading) (old : Reader) (lines : List Reading) (rule place : ℕ) → Stands done old → RefusesOne old lines rule place → IsLeastBroken (BreaksAt (done ++ lines)) rule place
refused_all done old lines rule place s one =
    let past = done ++ one.before in
    let mid = stands_all done old one.mid one.before s one.takes in
    let cut : done ++ lines ≡ past ++ one.line ∷ one.after = ap (λ l. done ++ l) one.cut ∙ sym (append_assoc done one.before (one.line ∷ one.after)) in
    let place_is : place ≡ length past + 1 = omega (arith, one.refuses.0, mid.counted) in
    least_at (done ++ lines) past one.line one.after rule place cut place_is
    (refused_here (done ++ lines) past one.line one.after rule place cut mid.sound place_is (ap (λ o. rule_of o one.line) (sym mid.order) ∙ one.refuses.1))

-- ---- pieces

-- no line has ended
pub front_none : (r : Reader) (bytes : List ℕ) → HasNoFeed bytes → TakesFront r bytes bytes r
front_none r bytes none = record { ended = []; cut = cut_none bytes none; takes = refl }

-- a line that was taken, and then others
pub front_more : (old mid new : Reader) (line after rest : List ℕ) → IsEnded line → TakesNextLine old (reading_of (content_of line)) mid → TakesFront mid after rest new → TakesFront old (line ++ after) rest new
front_more old mid new line after rest e t f = record {
  ended = line ++ f.ended;
  cut = cut_before line after f.ended rest e f.cut;
  takes = subst (λ ls. TakesAll old ls new) (sym (readings_first line f.ended e)) (let all : TakesAll old (reading_of (content_of line) ∷ readings_of f.ended) new = (mid, t, f.takes) in all);
}

-- a line that is refused
pub refuses_first : (old : Reader) (line after : List ℕ) (rule place : ℕ) → IsEnded line → BreaksAtNext old (reading_of (content_of line)) rule place → RefusesIn old (line ++ after) rule place
refuses_first old line after rule place e h =
    let c = cut_exists after in
    record {
      ended = line ++ c.ended;
      rest = c.rest;
      cut = cut_before line after c.ended c.rest e c.cut;
      one = record { before = []; line = reading_of (content_of line); after = readings_of c.ended; cut = readings_first line c.ended e; mid = old; takes = refl; refuses = h };
    }

-- a line that was taken, and one behind it that is refused
pub refuses_more : (old mid : Reader) (line after : List ℕ) (rule place : ℕ) → IsEnded line → TakesNextLine old (reading_of (content_of line)) mid → RefusesIn mid after rule place → RefusesIn old (line ++ after) rule place
refuses_more old mid line after rule place e t h = record {
  ended = line ++ h.ended;
  rest = h.rest;
  cut = cut_before line after h.ended h.rest e h.cut;
  one = record {
    before = reading_of (content_of line) ∷ h.one.before;
    line = h.one.line;
    after = h.one.after;
    cut = readings_first line h.ended e ∙ ap (λ ls. reading_of (content_of line) ∷ ls) h.one.cut;
    mid = h.one.mid;
    takes = (mid, t, h.one.takes);
    refuses = h.one.refuses;
  };
}

-- the bytes that are left when all have come
pub takes_last : (old new : Reader) (line : List ℕ) → HasNoFeed line → 0 < length line → TakesNextLine old (reading_of (content_of line)) new → TakesAll old (readings_of line) new
takes_last old new line none some t = subst (λ ls. TakesAll old ls new) (sym (readings_last line none some)) (let all : TakesAll old (reading_of (content_of line) ∷ []) new = (new, t, refl) in all)

pub refuses_last : (old : Reader) (line : List ℕ) (rule place : ℕ) → HasNoFeed line → 0 < length line → BreaksAtNext old (reading_of (content_of line)) rule place → RefusesOne old (readings_of line) rule place
refuses_last old line rule place none some h = record { before = []; line = reading_of (content_of line); after = []; cut = readings_last line none some; mid = old; takes = refl; refuses = h }

-- ---- what the feed stands for

pub holds_room : (bytes : List ℕ) (f : FeedState) → HoldsAll bytes f → f.line ≤ length bytes
holds_room bytes f h = omega (arith, h.line, ap length (readings_are h.ended h.readings h.say), readings_few h.ended, ap length h.cut.joined, length-append h.ended f.pending)

-- the first fault of the lines that have ended, as reading finds them
first_read : (bytes : List ℕ) (rule place : ℕ) (h : HoldsFault bytes rule place) → IsLeastBroken (BreaksAt (readings_of h.ended)) rule place
first_read bytes rule place h = subst (λ ls. IsLeastBroken (BreaksAt ls) rule place) (readings_are h.ended h.readings h.say) h.first

pub fault_still : (bytes piece : List ℕ) (rule place : ℕ) → HoldsFault bytes rule place → HoldsFault (bytes ++ piece) rule place
fault_still bytes piece rule place h =
    let c = cut_exists (h.pending ++ piece) in
    record {
      ended = h.ended ++ c.ended;
      pending = c.rest;
      cut = cut_on bytes h.ended h.pending piece c.ended c.rest h.cut c.cut;
      readings = readings_of (h.ended ++ c.ended);
      say = readings_exist (h.ended ++ c.ended);
      first = subst (λ ls. IsLeastBroken (BreaksAt ls) rule place) (sym (readings_append h.ended c.ended (all_ended h.cut))) (least_still (readings_of h.ended) (readings_of c.ended) rule place (first_read bytes rule place h));
    }

pub fault_of_all : (bytes : List ℕ) (rule place : ℕ) → HoldsFault bytes rule place → IsLeastBroken (BreaksLineRule bytes) rule place
fault_of_all bytes rule place h =
    least_said bytes rule place
    (subst (λ ls. IsLeastBroken (BreaksIn ls) rule place) (sym (ap readings_of h.cut.joined ∙ readings_append h.ended h.pending (all_ended h.cut)))
    (least_of_all (readings_of h.ended) (readings_of h.pending) rule place (first_read bytes rule place h)))

pub refused_of_all : (bytes : List ℕ) (f : FeedState) (e : LineFault) → StandsBy bytes f (Some (fault_seen e)) → IfBroken (IsLeastBroken (BreaksLineRule bytes)) e
refused_of_all bytes f (fault.Memory e) h = tt
refused_of_all bytes f (fault.Broken rule place) h = fault_of_all bytes rule place h

pub refused_still : (bytes piece : List ℕ) (f : FeedState) (e : LineFault) → StandsBy bytes f (Some (fault_seen e)) → IfBroken (HoldsFault (bytes ++ piece)) e
refused_still bytes piece f (fault.Memory e) h = tt
refused_still bytes piece f (fault.Broken rule place) h = fault_still bytes piece rule place h

-- a feed that isn't refused
pub held_by : (bytes : List ℕ) (f g : FeedState) → f ≡ g → f.refused ≡ None → StandsFor bytes g → HoldsAll bytes f
held_by bytes f g same none h = subst (StandsBy bytes f) none (subst (StandsFor bytes) (sym same) h)

pub stands_by : (bytes : List ℕ) (f : FeedState) → f.refused ≡ None → HoldsAll bytes f → StandsFor bytes f
stands_by bytes f none h = subst (StandsBy bytes f) (sym none) h

-- the feed has this reader
abbrev pub IsOf : FeedState → Reader → Type 0
IsOf f r = (f.line ≡ r.line) × (f.order ≡ r.order) × (f.zones ≡ zoned r)

-- a feed of no bytes
pub new_holds : (f : FeedState) (r : Reader) → IsOf f r → f.pending ≡ [] → Stands [] r → HoldsAll [] f
new_holds f r is none s = record {
  ended = [];
  cut = subst (EndedPart [] []) (sym none) (cut_none [] tt);
  readings = [];
  say = readings_exist [];
  clean = s.sound;
  line = is.0 ∙ s.counted;
  order = is.1 ∙ s.order;
  zones = subst (HoldsZones []) (sym (is.2 ∙ s.zones)) (held_zones []);
}

pub held_stands : (bytes : List ℕ) (f : FeedState) (r : Reader) → IsOf f r → (h : HoldsAll bytes f) → Stands (readings_of h.ended) r
held_stands bytes f r is h =
    let same = readings_are h.ended h.readings h.say in
    record {
      counted = sym is.0 ∙ h.line ∙ ap length same;
      order = sym is.1 ∙ h.order ∙ ap seen_in same;
      zones = sym is.2 ∙ zones_held h.readings f.zones h.zones ∙ ap (λ lines. zoned_after no_zones (parts_after 0 lines)) same;
      sound = λ rule place b. h.clean rule place (subst (λ lines. BreaksAt lines rule place) (sym same) b);
    }

pub piece_taken : (bytes piece : List ℕ) (f g : FeedState) (old new : Reader) → IsOf f old → IsOf g new → HoldsAll bytes f → TakesFront old (f.pending ++ piece) g.pending new → HoldsAll (bytes ++ piece) g
piece_taken bytes piece f g old new from to h t =
    let lines : readings_of (h.ended ++ t.ended) ≡ readings_of h.ended ++ readings_of t.ended = readings_append h.ended t.ended (all_ended h.cut) in
    let s = subst (λ ls. Stands ls new) (sym lines) (stands_all (readings_of h.ended) old new (readings_of t.ended) (held_stands bytes f old from h) t.takes) in
    record {
      ended = h.ended ++ t.ended;
      cut = cut_on bytes h.ended f.pending piece t.ended g.pending h.cut t.cut;
      readings = readings_of (h.ended ++ t.ended);
      say = readings_exist (h.ended ++ t.ended);
      clean = s.sound;
      line = to.0 ∙ s.counted;
      order = to.1 ∙ s.order;
      zones = subst (HoldsZones (readings_of (h.ended ++ t.ended))) (sym (to.2 ∙ s.zones)) (held_zones (readings_of (h.ended ++ t.ended)));
    }

pub piece_refused : (bytes piece : List ℕ) (f : FeedState) (old : Reader) (rule place : ℕ) → IsOf f old → HoldsAll bytes f → RefusesIn old (f.pending ++ piece) rule place → HoldsFault (bytes ++ piece) rule place
piece_refused bytes piece f old rule place from h t = record {
  ended = h.ended ++ t.ended;
  pending = t.rest;
  cut = cut_on bytes h.ended f.pending piece t.ended t.rest h.cut t.cut;
  readings = readings_of (h.ended ++ t.ended);
  say = readings_exist (h.ended ++ t.ended);
  first = subst (λ ls. IsLeastBroken (BreaksAt ls) rule place) (sym (readings_append h.ended t.ended (all_ended h.cut)))
      (refused_all (readings_of h.ended) old (readings_of t.ended) rule place (held_stands bytes f old from h) t.one);
}

-- ---- the end

all_readings : (bytes : List ℕ) (f : FeedState) (h : HoldsAll bytes f) → readings_of h.ended ++ readings_of f.pending ≡ readings_of bytes
all_readings bytes f h = sym (ap readings_of h.cut.joined ∙ readings_append h.ended f.pending (all_ended h.cut))

end_stands : (bytes : List ℕ) (f : FeedState) (old new : Reader) → IsOf f old → HoldsAll bytes f → TakesAll old (readings_of f.pending) new → Stands (readings_of bytes) new
end_stands bytes f old new is h t = subst (λ ls. Stands ls new) (all_readings bytes f h) (stands_all (readings_of h.ended) old new (readings_of f.pending) (held_stands bytes f old is h) t)

pub end_least : (bytes : List ℕ) (f : FeedState) (old : Reader) (rule place : ℕ) → IsOf f old → HoldsAll bytes f → RefusesOne old (readings_of f.pending) rule place → IsLeastBroken (BreaksLineRule bytes) rule place
end_least bytes f old rule place is h one =
    let lines = readings_of h.ended ++ readings_of f.pending in
    let first = refused_all (readings_of h.ended) old (readings_of f.pending) rule place (held_stands bytes f old is h) one in
    least_said bytes rule place (subst (λ ls. IsLeastBroken (BreaksIn ls) rule place) (append-nil lines ∙ all_readings bytes f h) (least_of_all lines [] rule place first))

-- the same, where the last bytes and the feed are given by others that they are
pub end_by : (bytes last : List ℕ) (f g : FeedState) (old new : Reader) → IsOf f old → f ≡ g → f.refused ≡ None → last ≡ f.pending → TakesAll old (readings_of last) new → StandsFor bytes g → Stands (readings_of bytes) new
end_by bytes last f g old new is same none whole t h =
    end_stands bytes f old new is (held_by bytes f g same none h) (subst (λ x. TakesAll old (readings_of x) new) whole t)

pub end_room : (bytes : List ℕ) (r : Reader) → Stands (readings_of bytes) r → r.line ≤ length bytes
end_room bytes r s = omega (arith, s.counted, readings_few bytes)

-- ---- callers

-- the feed stands for these bytes, unless it is refused
abbrev pub StandsUnless : List ℕ → FeedState → Type 0
StandsUnless bytes f = f.refused ≡ None → StandsFor bytes f

fed_on : {A : Type 0} (bytes : List ℕ) (f : FeedState) (r : Result A LineFault) → OnOk r (StandsFor bytes f) → IfErr r (λ e. f.refused ≡ Some (fault_seen e)) → StandsUnless bytes f
fed_on bytes f (Ok a) t s none = t
fed_on bytes f (Err e) t s none = let no : Some (fault_seen e) ≡ None = sym s ∙ none in absurd (cc)

-- a call of `feed`
pub fed_more : {A : Type 0} (bytes piece : List ℕ) (old new : FeedState) (r : Result A LineFault) → StandsUnless bytes old
    → ((b : List ℕ) → StandsFor b old → OnOk r (StandsFor (b ++ piece) new))
    → IfErr r (λ e. new.refused ≡ Some (fault_seen e))
    → ((q : Refused) → old.refused ≡ Some q → (new ≡ old) × IsErr r)
    → StandsUnless (bytes ++ piece) new
fed_more bytes piece old new r held takes says stays = by old.refused refl
  where
    by : (o : Option Refused) → old.refused ≡ o → StandsUnless (bytes ++ piece) new
    by None e = fed_on (bytes ++ piece) new r (takes bytes (held e)) says
    by (Some q) e = λ none. (let no : Some q ≡ None = sym e ∙ sym (ap (λ f. f.refused) (stays q e).0) ∙ none in absurd (cc))
