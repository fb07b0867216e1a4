-- One text begins with one line of a record alone.
use Rattle.std.proofs.Common.{◌≡◌, ◌≢◌, ℕ, zero, suc, ◌+◌, ◌<◌, ◌≤◌, Bool, true, false, List, [], ◌∷◌, ◌++◌, append_assoc, length, take, drop, get_or, codes, Option, Some, None, MatchOption, refl, sym, ap, ◌∙◌, arith, Bor}
use Rattle.std.specs.List.{list_any}
use Rattle.std.proofs.lemmas.List.{append_cancel_left, drop_more, get_or_at, take-append-drop}
use Rattle.std.proofs.lemmas.Bool.{or_parts, false_from_ne_true}
use Rattle.edi_line.specs.Bytes.{semicolon, line_feed}
use Rattle.edi_pairing.specs.Names.{AreNames, is_mark, name_at}
use Rattle.edi_pairing.specs.PairingText.{front_of, line_end, line_of}
use Rattle.edi_pairing.specs.inner.Places.{IsPlaceIfAny}
use Rattle.edi_pairing.specs.inner.Reading.{BeginsWith, IsCutAtMark}
use Rattle.edi_pairing.specs.declared.names.RecordName.{RecordName}

-- ---- fronts without a mark

true_false : true ≡ false → ⊥
true_false h = cc

same_head : (c d : ℕ) (x y : List ℕ) → c ∷ x ≡ d ∷ y → c ≡ d
same_head c d x y h = cc

same_tail : (c d : ℕ) (x y : List ℕ) → c ∷ x ≡ d ∷ y → x ≡ y
same_tail c d x y h = cc

pub plain_apart : (p q x y : List ℕ) (c d : ℕ) → list_any is_mark p ≡ false → list_any is_mark q ≡ false → is_mark c ≡ true → is_mark d ≡ true → p ++ c ∷ x ≡ q ++ d ∷ y → (p ≡ q) × (c ∷ x ≡ d ∷ y)
plain_apart [] [] x y c d hp hq hc hd e = (refl, e)
plain_apart [] (b ∷ q) x y c d hp hq hc hd e =
    absurd (true_false (sym hc ∙ (ap is_mark (same_head c b x (q ++ d ∷ y) e) ∙ (or_parts (is_mark b) (list_any is_mark q) hq).0)))
plain_apart (a ∷ p) [] x y c d hp hq hc hd e =
    absurd (true_false (sym hd ∙ (ap is_mark (sym (same_head a d (p ++ c ∷ x) y e)) ∙ (or_parts (is_mark a) (list_any is_mark p) hp).0)))
plain_apart (a ∷ p) (b ∷ q) x y c d hp hq hc hd e =
    let more = plain_apart p q x y c d (or_parts (is_mark a) (list_any is_mark p) hp).1 (or_parts (is_mark b) (list_any is_mark q) hq).1 hc hd (same_tail a b (p ++ c ∷ x) (q ++ d ∷ y) e) in
    (λ i. same_head a b (p ++ c ∷ x) (q ++ d ∷ y) e i ∷ more.0 i, more.1)

-- the first bytes hold no mark
pub front_plain : (text : List ℕ) (at : ℕ) → at ≤ length text → ((k : ℕ) → k < at → is_mark (get_or text k 0) ≡ false) → list_any is_mark (take at text) ≡ false
front_plain text zero within none = refl
front_plain [] (suc at) within none = refl
front_plain (c ∷ text) (suc at) within none =
    let here : is_mark c ≡ false = none 0 (omega arith) in
    let more = front_plain text at (omega arith) (λ k h. none (suc k) (omega arith)) in
    rw here more

pub cut_at_mark : (text front end : List ℕ) (at : ℕ) → at < length text → is_mark (get_or text at 0) ≡ true → ((k : ℕ) → 0 ≤ k → k < at → ¬ (is_mark (get_or text k 0) ≡ true)) → front ≡ take at text → end ≡ drop at text
    → IsCutAtMark text front end
cut_at_mark text front end at within is before f e = record {
  joined = sym (take-append-drop at text) ∙ (λ i. sym f i ++ sym e i);
  plain = ap (list_any is_mark) f ∙ front_plain text at (omega arith) (λ k h. false_from_ne_true _ (before k (omega arith) h));
  mark = get_or text at 0;
  rest = drop (at + 1) text;
  begins = e ∙ drop_more text at 0 within;
  is = is;
}

pub no_mark : (text front rest : List ℕ) (c : ℕ) → ((k : ℕ) → 0 ≤ k → k < length text → ¬ (is_mark (get_or text k 0) ≡ true)) → is_mark c ≡ true → text ≡ front ++ c ∷ rest → ⊥
no_mark text front rest c none is e =
    let long : length text ≡ length front + suc (length rest) = ap length e ∙ Rattle.std.proofs.Common.length-append front (c ∷ rest) in
    let there : get_or text (length front) 0 ≡ c = ap (λ t. get_or t (length front) 0) e ∙ get_or_at front c rest 0 (length front) refl in
    none (length front) (omega arith) (omega (arith, long)) (ap is_mark there ∙ is)

-- ---- the parts of a line

pub name_joined : (code rid rest : List ℕ) → (code ++ semicolon ∷ (rid ++ semicolon ∷ [])) ++ rest ≡ code ++ semicolon ∷ (rid ++ semicolon ∷ rest)
name_joined code rid rest = append_assoc code (semicolon ∷ (rid ++ semicolon ∷ [])) rest ∙ ap (λ r. code ++ semicolon ∷ r) (append_assoc rid (semicolon ∷ []) rest)

pub name_cut : (text code rid t1 t2 t3 : List ℕ) (r : Option (Bor (List ℕ))) → text ≡ code ++ t1 → t1 ≡ semicolon ∷ t2 → t2 ≡ rid ++ t3
    → MatchOption r ((rest : List ℕ) → t3 ≢ semicolon ∷ rest) (λ x. t3 ≡ semicolon ∷ x.now)
    → MatchOption r ((rest : List ℕ) → text ≢ (code ++ semicolon ∷ (rid ++ semicolon ∷ [])) ++ rest) (λ x. text ≡ (code ++ semicolon ∷ (rid ++ semicolon ∷ [])) ++ x.now)
name_cut text code rid t1 t2 t3 None e1 e2 e3 h = λ rest e.
    let all : code ++ semicolon ∷ (rid ++ t3) ≡ code ++ semicolon ∷ (rid ++ semicolon ∷ rest) = ap (λ t. code ++ semicolon ∷ t) (sym e3) ∙ (ap (λ t. code ++ t) (sym e2) ∙ (sym e1 ∙ (e ∙ name_joined code rid rest))) in
    let one = append_cancel_left code (semicolon ∷ (rid ++ t3)) (semicolon ∷ (rid ++ semicolon ∷ rest)) all in
    let two = append_cancel_left rid t3 (semicolon ∷ rest) (same_tail semicolon semicolon (rid ++ t3) (rid ++ semicolon ∷ rest) one) in
    h rest two
name_cut text code rid t1 t2 t3 (Some x) e1 e2 e3 h =
    e1 ∙ (ap (λ t. code ++ t) e2 ∙ (ap (λ t. code ++ semicolon ∷ t) e3 ∙ (ap (λ t. code ++ semicolon ∷ (rid ++ t)) h ∙ sym (name_joined code rid x.now))))

-- a line and what comes behind it
pub line_joined : (name : RecordName) (other behind : List ℕ) (turned : Bool) → line_of name other turned ++ behind ≡ front_of name ++ (other ++ (line_end turned ++ behind))
unfolding line_of
line_joined name other behind turned = append_assoc (front_of name) (other ++ line_end turned) behind ∙ ap (λ r. front_of name ++ r) (append_assoc other (line_end turned) behind)

-- the end of a line begins with a mark
end_mark : Bool → ℕ
end_mark true = semicolon
end_mark false = line_feed

end_rest : Bool → List ℕ
end_rest true = codes "reversed" ++ line_feed ∷ []
end_rest false = []

end_begins : (turned : Bool) → line_end turned ≡ end_mark turned ∷ end_rest turned
unfolding end_mark end_rest
end_begins true = refl
end_begins false = refl

end_is : (turned : Bool) → is_mark (end_mark turned) ≡ true
unfolding end_mark
end_is true = refl
end_is false = refl

pub end_apart : (u v : Bool) (x y : List ℕ) → line_end u ++ x ≡ line_end v ++ y → (u ≡ v) × (x ≡ y)
end_apart true true x y e = (refl, append_cancel_left (line_end true) x y e)
end_apart false false x y e = (refl, append_cancel_left (line_end false) x y e)
end_apart true false x y e = absurd (apart (same_head semicolon line_feed (codes "reversed" ++ line_feed ∷ x) y e))
  where
    apart : semicolon ≡ line_feed → ⊥
    apart h = omega (arith, h)
end_apart false true x y e = absurd (apart (same_head line_feed semicolon x (codes "reversed" ++ line_feed ∷ y) e))
  where
    apart : line_feed ≡ semicolon → ⊥
    apart h = omega (arith, h)

-- ---- lines

module _ (b : List RecordName) (name : RecordName) where
  -- what stands in a text that begins with a line of the name, behind its front
  line_behind : (text rest : List ℕ) (to : ℕ) (turned : Bool) (behind : List ℕ) → text ≡ front_of name ++ rest → BeginsWith b name text to turned behind
      → rest ≡ (name_at b to).rid ++ end_mark turned ∷ (end_rest turned ++ behind)
  line_behind text rest to turned behind e h =
      append_cancel_left (front_of name) rest ((name_at b to).rid ++ end_mark turned ∷ (end_rest turned ++ behind))
      (sym e ∙ (h.cut ∙ (line_joined name (name_at b to).rid behind turned ∙ ap (λ t. front_of name ++ ((name_at b to).rid ++ (t ++ behind))) (end_begins turned))))

  pub no_front : (text : List ℕ) → ((rest : List ℕ) → text ≢ front_of name ++ rest) → (to : ℕ) (turned : Bool) (behind : List ℕ) → ¬ (BeginsWith b name text to turned behind)
  no_front text none to turned behind h = none _ (h.cut ∙ line_joined name (name_at b to).rid behind turned)

  pub no_cut : (text rest : List ℕ) → text ≡ front_of name ++ rest → ((front : List ℕ) (c : ℕ) (end : List ℕ) → is_mark c ≡ true → rest ≢ front ++ c ∷ end)
      → (to : ℕ) (turned : Bool) (behind : List ℕ) → ¬ (BeginsWith b name text to turned behind)
  no_cut text rest e none to turned behind h = none (name_at b to).rid (end_mark turned) (end_rest turned ++ behind) (end_is turned) (line_behind text rest to turned behind e h)

  pub line_read : (text rest front end behind : List ℕ) (to : ℕ) (turned : Bool) → text ≡ front_of name ++ rest → IsCutAtMark rest front end → to < length b → name_at b to ≡ record { kind = name.kind; rid = front }
      → end ≡ line_end turned ++ behind → BeginsWith b name text to turned behind
  line_read text rest front end behind to turned e cut within is tail = record {
    within = within;
    typed = ap (λ (n : RecordName). n.kind) is;
    cut = e ∙ (ap (λ t. front_of name ++ t) (cut.joined ∙ (λ i. sym (ap (λ (n : RecordName). n.rid) is) i ++ tail i)) ∙ sym (line_joined name (name_at b to).rid behind turned));
  }

  module _ (names : AreNames b) where
    -- the identifier is cut off as it stands
    line_cut : (text rest front end : List ℕ) (to : ℕ) (turned : Bool) (behind : List ℕ) → text ≡ front_of name ++ rest → IsCutAtMark rest front end → BeginsWith b name text to turned behind
        → (front ≡ (name_at b to).rid) × (end ≡ line_end turned ++ behind)
    line_cut text rest front end to turned behind e cut h =
        let parts = plain_apart front (name_at b to).rid cut.rest (end_rest turned ++ behind) cut.mark (end_mark turned) cut.plain (names.plain to h.within) cut.is (end_is turned)
        (ap (λ t. front ++ t) (sym cut.begins) ∙ (sym cut.joined ∙ line_behind text rest to turned behind e h)) in
        (parts.0, cut.begins ∙ (parts.1 ∙ ap (λ t. t ++ behind) (sym (end_begins turned))))

    pub no_position : (text rest front end : List ℕ) → text ≡ front_of name ++ rest → IsCutAtMark rest front end → IsPlaceIfAny b (record { kind = name.kind; rid = front }) None
        → (to : ℕ) (turned : Bool) (behind : List ℕ) → ¬ (BeginsWith b name text to turned behind)
    no_position text rest front end e cut none to turned behind h =
        let parts = line_cut text rest front end to turned behind e cut h in
        none to h.within (λ i. record { kind = h.typed i; rid = sym parts.0 i })

    pub no_end : (text rest front end : List ℕ) → text ≡ front_of name ++ rest → IsCutAtMark rest front end → ((turned : Bool) (behind : List ℕ) → end ≢ line_end turned ++ behind)
        → (to : ℕ) (turned : Bool) (behind : List ℕ) → ¬ (BeginsWith b name text to turned behind)
    no_end text rest front end e cut none to turned behind h = none turned behind (line_cut text rest front end to turned behind e cut h).1

    -- one text begins with one line of the name
    pub line_apart : (text : List ℕ) (s t : ℕ) (u v : Bool) (x y : List ℕ) → BeginsWith b name text s u x → BeginsWith b name text t v y → (s ≡ t) × (u ≡ v) × (x ≡ y)
    line_apart text s t u v x y g h =
        let all = append_cancel_left (front_of name) ((name_at b s).rid ++ (line_end u ++ x)) ((name_at b t).rid ++ (line_end v ++ y))
        (sym (line_joined name (name_at b s).rid x u) ∙ (sym g.cut ∙ (h.cut ∙ line_joined name (name_at b t).rid y v))) in
        let parts = plain_apart (name_at b s).rid (name_at b t).rid (end_rest u ++ x) (end_rest v ++ y) (end_mark u) (end_mark v) (names.plain s g.within) (names.plain t h.within) (end_is u) (end_is v)
        (ap (λ e. (name_at b s).rid ++ (e ++ x)) (sym (end_begins u)) ∙ (all ∙ ap (λ e. (name_at b t).rid ++ (e ++ y)) (end_begins v))) in
        let kind = g.typed ∙ sym h.typed in
        let ends = end_apart u v x y (ap (λ e. e ++ x) (end_begins u) ∙ (parts.1 ∙ ap (λ e. e ++ y) (sym (end_begins v)))) in
        (names.distinct s t g.within h.within (λ i. record { kind = kind i; rid = parts.0 i }), ends.0, ends.1)
