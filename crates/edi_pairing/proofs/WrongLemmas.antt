-- The first reason why a line is wrong.
use Rattle.std.proofs.Common.{◌≡◌, ◌≢◌, ℕ, zero, suc, ◌+◌, ◌-◌, ◌<◌, ◌≤◌, ◌⊎◌, inl, inr, Bool, true, false, List, [], ◌∷◌, ◌++◌, append_assoc, eqb-true, length, length-append, take, drop, get_or, refl, sym, ap, ◌∙◌, subst, arith, Option, Some, None}
use Rattle.std.specs.Prelude.{slice_index_or}
use Rattle.std.specs.List.{list_any}
use Rattle.std.proofs.lemmas.Bool.{cases_lt, false_from_ne_true, or_right}
use Rattle.std.proofs.lemmas.List.{drop_more, get_or_append_left, get_or_at, get_or-take, length-take-le, take-append-drop}
use Rattle.std.proofs.lemmas.List.Folds.{list_any-append, list_any_at}
use Rattle.std.proofs.lemmas.Option.{same_Some}
use Rattle.edi_line.specs.Bytes.{semicolon, line_feed}
use Rattle.edi_record.proofs.Parts.{code_named}
use Rattle.edi_record.specs.Shapes.{kind_code}
use Rattle.edi_record.specs.declared.record.Kind.{Kind}
use Rattle.edi_record.specs.declared.record.Kind.TheVariants.{Pno, Par, Pfe, Fea, Lnk}
use Rattle.edi_record.specs.inner.RecordRules.{kind_named}
use Rattle.edi_record.proofs.KindCodes.{kind_again}
use Rattle.edi_pairing.specs.Laws.{WrongLinesHaveOneReason}
use Rattle.edi_pairing.specs.Names.{AreNames, is_mark, name_at}
use Rattle.edi_pairing.specs.PairingText.{Begins, Pairs, line_end, line_of}
use Rattle.edi_pairing.specs.WrongLines.{EndsInReturn, HasIdentifier, HasName, IsFirstReason, IsLineOf, SaysOfLine, is_line_feed, reason_order}
use Rattle.edi_pairing.specs.inner.Reading.{BeginsWith, IsCutAtMark}
use Rattle.edi_pairing.specs.inner.Wrong.{IsNoPair, IsUnreadLine, BeginsWithLine}
use Rattle.edi_pairing.specs.declared.fault.WrongLine.{WrongLine}
use Rattle.edi_pairing.specs.declared.fault.WrongLine.TheVariants.{Missing, Extra, Unended, CarriageReturn, Head, Form, OtherRecord, SecondSheet, NoRecord, NoPartner, OtherType}
use Rattle.edi_pairing.specs.declared.names.RecordName.{RecordName}
use Rattle.edi_pairing.proofs.LineLemmas.{line_joined, name_joined, plain_apart}
use Rattle.edi_pairing.proofs.TextLemmas.{lines_apart}

true_false : true ≡ false → ⊥
true_false h = cc

-- ---- line feeds

none_any : (p : ℕ → Bool) (xs : List ℕ) → ((k : ℕ) → k < length xs → ¬ (p (get_or xs k 0) ≡ true)) → list_any p xs ≡ false
none_any p [] none = refl
none_any p (x ∷ xs) none =
    let here : p x ≡ false = false_from_ne_true (p x) (none 0 (omega arith)) in
    let more = none_any p xs (λ k h. none (suc k) (omega arith)) in
    rw here more

pub no_line_feed : (text : List ℕ) → ((k : ℕ) → 0 ≤ k → k < length text → ¬ (is_line_feed (get_or text k 0) ≡ true)) → list_any is_line_feed text ≡ false
no_line_feed text none = none_any is_line_feed text (λ k l. none k (omega arith) l)

module _ (text : List ℕ) (at : ℕ) (within : at < length text) (is : is_line_feed (get_or text at 0) ≡ true) (before : (k : ℕ) → 0 ≤ k → k < at → ¬ (is_line_feed (get_or text k 0) ≡ true)) where
  pub is_ended : list_any is_line_feed text ≡ true
  is_ended = list_any_at is_line_feed text at 0 within is

  pub ends_in_return : 0 < at → get_or text (at - 1) 0 ≡ 13 → EndsInReturn text
  ends_in_return some cr =
      let one : at - 1 + 1 ≡ at = omega arith in
      let front_long : length (take (at - 1) text) ≡ at - 1 = length-take-le (at - 1) text (omega arith) in
      record {
        line = take (at - 1) text;
        rest = drop (at + 1) text;
        one_line = none_any is_line_feed (take (at - 1) text)
            (λ k l e. before k (omega arith) (omega (arith, l, front_long)) (ap is_line_feed (sym (get_or-take (at - 1) text k 0 (omega (arith, l, front_long)))) ∙ e));
        cut = sym (take-append-drop (at - 1) text) ∙ ap (λ t. take (at - 1) text ++ t)
            (drop_more text (at - 1) 0 (omega arith) ∙ (λ i. cr i ∷ (ap (λ n. drop n text) one ∙ (drop_more text at 0 within ∙ ap (λ c. c ∷ drop (at + 1) text) (eqb-true (get_or text at 0) 10 is))) i));
      }

  -- a line that ends in a carriage return has it before the first line feed
  pub return_before : EndsInReturn text → (0 < at) × (get_or text (at - 1) 0 ≡ 13)
  return_before h = (omega (arith, place), ap (λ t. get_or t (at - 1) 0) h.cut ∙ get_or_at h.line 13 (10 ∷ h.rest) 0 (at - 1) (omega (arith, place)))
    where
      there : get_or text (length h.line + 1) 0 ≡ 10
      there =
          ap (λ t. get_or t (length h.line + 1) 0) (h.cut ∙ sym (append_assoc h.line (13 ∷ []) (10 ∷ h.rest)))
          ∙ get_or_at (h.line ++ 13 ∷ []) 10 h.rest 0 (length h.line + 1) (length-append h.line (13 ∷ []))

      not_in : at < length h.line → ⊥
      not_in l = true_false (sym (list_any_at is_line_feed h.line at 0 l (ap is_line_feed (sym (ap (λ t. get_or t at 0) h.cut ∙ get_or_append_left h.line (13 ∷ 10 ∷ h.rest) 0 at l)) ∙ is)) ∙ h.one_line)

      not_at : at ≡ length h.line → ⊥
      not_at e =
          let ten : get_or text at 0 ≡ 10 = eqb-true (get_or text at 0) 10 is in
          let thirteen : get_or text at 0 ≡ 13 = ap (λ t. get_or t at 0) h.cut ∙ get_or_at h.line 13 (10 ∷ h.rest) 0 at (sym e) in
          omega (arith, ten, thirteen)

      place : at ≡ length h.line + 1
      place = go (cases_lt at (length h.line + 1)) (cases_lt (length h.line + 1) at) (cases_lt at (length h.line))
        where
          go : (at < length h.line + 1) ⊎ (length h.line + 1 ≤ at) → (length h.line + 1 < at) ⊎ (at ≤ length h.line + 1) → (at < length h.line) ⊎ (length h.line ≤ at) → at ≡ length h.line + 1
          go (inr past) (inr most) m = omega arith
          go s (inl more) m = absurd (before (length h.line + 1) (omega arith) more (ap is_line_feed there))
          go (inl less) t (inl in_line) = absurd (not_in in_line)
          go (inl less) t (inr out) = absurd (not_at (omega arith))

returned_ended : (text : List ℕ) → EndsInReturn text → list_any is_line_feed text ≡ true
returned_ended text h = ap (list_any is_line_feed) h.cut ∙ (list_any-append is_line_feed h.line (13 ∷ 10 ∷ h.rest) ∙ or_right (list_any is_line_feed h.line) (list_any is_line_feed (13 ∷ 10 ∷ h.rest)) refl)

ended_some : (text : List ℕ) → list_any is_line_feed text ≡ true → text ≢ []
ended_some text e none = true_false (sym e ∙ ap (list_any is_line_feed) none)

-- ---- the parts of a line in form

code_plain : (kind : Kind) → list_any is_mark (kind_code kind) ≡ false
code_plain Pno = refl
code_plain Par = refl
code_plain Pfe = refl
code_plain Fea = refl
code_plain Lnk = refl

some_none : {X : Type 0} (x : X) → ◌≡◌ {A = Option X} (Some x) None → ⊥
some_none x e = cc

same_tail : (c d : ℕ) (x y : List ℕ) → c ∷ x ≡ d ∷ y → x ≡ y
same_tail c d x y h = cc

-- fields that a semicolon ends
field_apart : (p q x y : List ℕ) → list_any is_mark p ≡ false → list_any is_mark q ≡ false → p ++ semicolon ∷ x ≡ q ++ semicolon ∷ y → (p ≡ q) × (x ≡ y)
field_apart p q x y hp hq e = let parts = plain_apart p q x y semicolon semicolon hp hq refl refl e in (parts.0, same_tail semicolon semicolon x y parts.1)

pub no_field : (text front end : List ℕ) → IsCutAtMark text front end → ((rest : List ℕ) → end ≢ semicolon ∷ rest) → (field rest : List ℕ) → list_any is_mark field ≡ false → text ≢ field ++ semicolon ∷ rest
no_field text front end cut none field rest plain e =
    let parts = plain_apart front field cut.rest rest cut.mark semicolon cut.plain plain cut.is refl (ap (λ t. front ++ t) (sym cut.begins) ∙ (sym cut.joined ∙ e)) in
    none rest (cut.begins ∙ parts.1)

end_parts : (turned : Bool) (rest : List ℕ) → (c : ℕ) × (more : List ℕ) × (line_end turned ++ rest ≡ c ∷ more) × (is_mark c ≡ true)
end_parts true rest = (semicolon, _, refl, refl)
end_parts false rest = (line_feed, _, refl, refl)

pub no_mark_last : (text : List ℕ) → ((front : List ℕ) (c : ℕ) (rest : List ℕ) → is_mark c ≡ true → text ≢ front ++ c ∷ rest) → (field : List ℕ) (turned : Bool) (rest : List ℕ) → text ≢ field ++ (line_end turned ++ rest)
no_mark_last text none field turned rest e = let parts = end_parts turned rest in none field parts.0 parts.1 parts.3 (e ∙ ap (λ t. field ++ t) parts.2)

pub no_end_last : (text front end : List ℕ) → IsCutAtMark text front end → ((turned : Bool) (rest : List ℕ) → end ≢ line_end turned ++ rest) → (field : List ℕ) (turned : Bool) (rest : List ℕ) → list_any is_mark field ≡ false
    → text ≢ field ++ (line_end turned ++ rest)
no_end_last text front end cut none field turned rest plain e =
    let parts = end_parts turned rest in
    let same = plain_apart front field cut.rest parts.1 cut.mark parts.0 cut.plain plain cut.is parts.3 (ap (λ t. front ++ t) (sym cut.begins) ∙ (sym cut.joined ∙ (e ∙ ap (λ t. field ++ t) parts.2))) in
    none turned rest (cut.begins ∙ (same.1 ∙ sym parts.2))

-- a line in form, field by field
in_fields : (text : List ℕ) (name : RecordName) (other : List ℕ) (h : IsLineOf text name other) → text ≡ kind_code name.kind ++ semicolon ∷ (name.rid ++ semicolon ∷ (other ++ (line_end h.turned ++ h.rest)))
in_fields text name other h = h.cut ∙ (line_joined name other h.rest h.turned ∙ name_joined (kind_code name.kind) name.rid (other ++ (line_end h.turned ++ h.rest)))

pub no_code : (text : List ℕ) → ((field rest : List ℕ) → list_any is_mark field ≡ false → text ≢ field ++ semicolon ∷ rest) → (name : RecordName) (other : List ℕ) → ¬ (IsLineOf text name other)
no_code text none name other h = none (kind_code name.kind) _ (code_plain name.kind) (in_fields text name other h)

module _ (text code rest : List ℕ) (plain : list_any is_mark code ≡ false) (cut : text ≡ code ++ semicolon ∷ rest) where
  behind_code : (name : RecordName) (other : List ℕ) (h : IsLineOf text name other) → (code ≡ kind_code name.kind) × (rest ≡ name.rid ++ semicolon ∷ (other ++ (line_end h.turned ++ h.rest)))
  behind_code name other h = field_apart code (kind_code name.kind) rest (name.rid ++ semicolon ∷ (other ++ (line_end h.turned ++ h.rest))) plain (code_plain name.kind) (sym cut ∙ in_fields text name other h)

  pub no_kind : None ≡ kind_named code → (name : RecordName) (other : List ℕ) → ¬ (IsLineOf text name other)
  no_kind none name other h = some_none name.kind (sym (none ∙ (ap kind_named (behind_code name other h).0 ∙ kind_again name.kind)))

  pub no_identifier : ((field more : List ℕ) → list_any is_mark field ≡ false → rest ≢ field ++ semicolon ∷ more) → (name : RecordName) (other : List ℕ) → ¬ (IsLineOf text name other)
  no_identifier none name other h = none name.rid _ h.plain (behind_code name other h).1

  module _ (rid last : List ℕ) (plain_rid : list_any is_mark rid ≡ false) (cut_rid : rest ≡ rid ++ semicolon ∷ last) where
    behind_rid : (name : RecordName) (other : List ℕ) (h : IsLineOf text name other) → (rid ≡ name.rid) × (last ≡ other ++ (line_end h.turned ++ h.rest))
    behind_rid name other h = field_apart rid name.rid last (other ++ (line_end h.turned ++ h.rest)) plain_rid h.plain (sym cut_rid ∙ (behind_code name other h).1)

    pub no_other : ((field : List ℕ) (turned : Bool) (more : List ℕ) → list_any is_mark field ≡ false → last ≢ field ++ (line_end turned ++ more)) → (name : RecordName) (other : List ℕ) → ¬ (IsLineOf text name other)
    no_other none name other h = none other h.turned h.rest h.plain_other (behind_rid name other h).1

    pub in_form : (kind : Kind) → Some kind ≡ kind_named code → (other : List ℕ) (turned : Bool) (more : List ℕ) → list_any is_mark other ≡ false → last ≡ other ++ (line_end turned ++ more)
        → IsLineOf text (record { kind = kind; rid = rid }) other
    in_form kind known other turned more plain_other cut_other = record {
      turned = turned;
      rest = more;
      plain = plain_rid;
      plain_other = plain_other;
      cut =
          let code_is : code ≡ kind_code kind = code_named code kind (sym known) in
          cut ∙ ((λ i. code_is i ++ semicolon ∷ (cut_rid ∙ ap (λ t. rid ++ semicolon ∷ t) cut_other) i)
          ∙ (sym (name_joined (kind_code kind) rid (other ++ (line_end turned ++ more))) ∙ sym (line_joined (record { kind = kind; rid = rid }) other more turned)));
    }

-- a line in form is of one name, and has one second identifier
line_of_one : (text : List ℕ) (m n : RecordName) (x y : List ℕ) → IsLineOf text m x → IsLineOf text n y → (m ≡ n) × (x ≡ y)
line_of_one text m n x y g h =
    let codes = field_apart (kind_code m.kind) (kind_code n.kind) _ _ (code_plain m.kind) (code_plain n.kind) (sym (in_fields text m x g) ∙ in_fields text n y h) in
    let rids = field_apart m.rid n.rid _ _ g.plain h.plain codes.1 in
    let kind : m.kind ≡ n.kind = same_Some m.kind n.kind (sym (kind_again m.kind) ∙ (ap kind_named codes.0 ∙ kind_again n.kind)) in
    let ends = end_parts g.turned g.rest in
    let ends' = end_parts h.turned h.rest in
    let last = plain_apart x y ends.1 ends'.1 ends.0 ends'.0 g.plain_other h.plain_other ends.3 ends'.3 (ap (λ t. x ++ t) (sym ends.2) ∙ (rids.1 ∙ ap (λ t. y ++ t) ends'.2)) in
    (λ i. record { kind = kind i; rid = rids.0 i }, last.0)

-- ---- the order of the reasons

reason_at : ℕ → WrongLine
reason_at n = slice_index_or (Missing ∷ Extra ∷ Unended ∷ CarriageReturn ∷ Head ∷ Form ∷ OtherRecord ∷ SecondSheet ∷ NoRecord ∷ NoPartner ∷ OtherType ∷ []) n Missing

reason_back : (w : WrongLine) → reason_at (reason_order w) ≡ w
unfolding reason_at
reason_back Missing = refl
reason_back Extra = refl
reason_back Unended = refl
reason_back CarriageReturn = refl
reason_back Head = refl
reason_back Form = refl
reason_back OtherRecord = refl
reason_back SecondSheet = refl
reason_back NoRecord = refl
reason_back NoPartner = refl
reason_back OtherType = refl

pub one_order : (v w : WrongLine) → reason_order v ≡ reason_order w → v ≡ w
one_order v w e = sym (reason_back v) ∙ (ap reason_at e ∙ reason_back w)

one_more : (P : WrongLine → Type 0) (v : WrongLine) → ((w : WrongLine) → reason_order w < reason_order v → P w) → P v → (w : WrongLine) → reason_order w < suc (reason_order v) → P w
one_more P v below here w l = go (cases_lt (reason_order w) (reason_order v))
  where
    go : (reason_order w < reason_order v) ⊎ (reason_order v ≤ reason_order w) → P w
    go (inl less) = below w less
    go (inr past) = subst P (one_order v w (omega arith)) here

-- ---- the first reason

module _ (a b : List RecordName) (line : ℕ) (next : RecordName) (text : List ℕ) where
  none : (w : WrongLine) → reason_order w < 0 → ¬ (SaysOfLine a b line next text w)
  none w l = absurd (omega arith)

  pub extra_first : text ≢ [] → length a + 1 < line → IsFirstReason a b line next text Extra
  extra_first some more = record { so = more; first = one_more (λ w. ¬ (SaysOfLine a b line next text w)) Missing none some }

  module _ (few : line ≤ length a + 1) where
    before_ended : text ≢ [] → (w : WrongLine) → reason_order w < 2 → ¬ (SaysOfLine a b line next text w)
    before_ended some = one_more (λ w. ¬ (SaysOfLine a b line next text w)) Extra (one_more (λ w. ¬ (SaysOfLine a b line next text w)) Missing none some) (λ more. omega (arith, few, more))

    before_return : list_any is_line_feed text ≡ true → (w : WrongLine) → reason_order w < 3 → ¬ (SaysOfLine a b line next text w)
    before_return ended = one_more (λ w. ¬ (SaysOfLine a b line next text w)) Unended (before_ended (ended_some text ended)) (λ e. true_false (sym ended ∙ e))

    pub unread_first : (why : WrongLine) → IsUnreadLine text why → IsFirstReason a b line next text why
    unread_first Missing h = record { so = h; first = none }
    unread_first Unended h = record { so = h.1; first = before_ended h.0 }
    unread_first CarriageReturn h = record { so = h; first = before_return (returned_ended text h) }
    unread_first Extra h = absurd h
    unread_first Head h = absurd h
    unread_first Form h = absurd h
    unread_first OtherRecord h = absurd h
    unread_first SecondSheet h = absurd h
    unread_first NoRecord h = absurd h
    unread_first NoPartner h = absurd h
    unread_first OtherType h = absurd h

    module _ (whole : BeginsWithLine text) where
      before_head : (w : WrongLine) → reason_order w < 4 → ¬ (SaysOfLine a b line next text w)
      before_head = one_more (λ w. ¬ (SaysOfLine a b line next text w)) CarriageReturn (before_return whole.ended) whole.plain

      pub head_first : line ≡ 1 → IsFirstReason a b line next text Head
      head_first one = record { so = one; first = before_head }

      module _ (later : line ≢ 1) where
        before_form : (w : WrongLine) → reason_order w < 5 → ¬ (SaysOfLine a b line next text w)
        before_form = one_more (λ w. ¬ (SaysOfLine a b line next text w)) Head before_head later

        pub form_first : ((name : RecordName) (other : List ℕ) → ¬ (IsLineOf text name other)) → IsFirstReason a b line next text Form
        form_first h = record { so = h; first = before_form }

        module _ (name : RecordName) (other : List ℕ) (is : IsLineOf text name other) (there : HasName a next) (unpaired : (to : ℕ) (turned : Bool) (rest : List ℕ) → ¬ (BeginsWith b next text to turned rest)) where
          before_other : (w : WrongLine) → reason_order w < 6 → ¬ (SaysOfLine a b line next text w)
          before_other = one_more (λ w. ¬ (SaysOfLine a b line next text w)) Form before_form (λ h. h name other is)

          before_second : (HasName a name → next ≡ name) → (w : WrongLine) → reason_order w < 7 → ¬ (SaysOfLine a b line next text w)
          before_second own = one_more (λ w. ¬ (SaysOfLine a b line next text w)) OtherRecord before_other
              (λ s. let one = line_of_one text name s.0 other s.1 is s.2 in s.3 (sym one.0 ∙ sym (own (subst (HasName a) (sym one.0) s.4))))

          before_neither : (HasName a name → next ≡ name) → (HasName b name → HasName a name) → (w : WrongLine) → reason_order w < 8 → ¬ (SaysOfLine a b line next text w)
          before_neither own of_both = one_more (λ w. ¬ (SaysOfLine a b line next text w)) SecondSheet (before_second own)
              (λ s. let one = line_of_one text name s.0 other s.1 is s.2 in s.3 (subst (HasName a) one.0 (of_both (subst (HasName b) (sym one.0) s.4))))

          before_partner : next ≡ name → (w : WrongLine) → reason_order w < 9 → ¬ (SaysOfLine a b line next text w)
          before_partner e = one_more (λ w. ¬ (SaysOfLine a b line next text w)) NoRecord (before_neither (λ _. e) (λ _. subst (HasName a) e there))
              (λ s. let one = line_of_one text name s.0 other s.1 is s.2 in s.3 (subst (HasName a) (e ∙ one.0) there))

          before_type : next ≡ name → HasIdentifier b other → (w : WrongLine) → reason_order w < 10 → ¬ (SaysOfLine a b line next text w)
          before_type e known = one_more (λ w. ¬ (SaysOfLine a b line next text w)) NoPartner (before_partner e)
              (λ s. let one = line_of_one text name next other s.0 is s.1 in s.2 (subst (HasIdentifier b) one.1 known))

          no_such : next ≡ name → ¬ (HasName b (record { kind = next.kind; rid = other }))
          no_such e h =
              let here = subst (λ n. IsLineOf text n other) (sym e) is in
              unpaired h.0 here.turned here.rest (record {
                within = h.1;
                typed = ap (λ (n : RecordName). n.kind) h.2;
                cut = here.cut ∙ ap (λ x. line_of next x here.turned ++ here.rest) (sym (ap (λ (n : RecordName). n.rid) h.2));
              })

          pub pair_first : (why : WrongLine) → IsNoPair a b next name other why → IsFirstReason a b line next text why
          pair_first OtherRecord h = record { so = (name, other, is, (λ e. h.0 (sym e)), h.1); first = before_other }
          pair_first SecondSheet h = record { so = (name, other, is, h.1, h.2); first = before_second (λ own. absurd (h.1 own)) }
          pair_first NoRecord h = record { so = (name, other, is, h.1, h.2); first = before_neither (λ own. absurd (h.1 own)) (λ own. absurd (h.2 own)) }
          pair_first NoPartner h = record { so = (other, subst (λ n. IsLineOf text n other) (sym h.0) is, h.1); first = before_partner h.0 }
          pair_first OtherType h = record { so = (other, subst (λ n. IsLineOf text n other) (sym h.0) is, h.1, no_such h.0); first = before_type h.0 h.1 }
          pair_first Missing h = absurd h
          pair_first Extra h = absurd h
          pair_first Unended h = absurd h
          pair_first CarriageReturn h = absurd h
          pair_first Head h = absurd h
          pair_first Form h = absurd h

-- the reason by other spellings of the names
pub reason_here : (list a others b : List RecordName) (line place : ℕ) (text : List ℕ) (why : WrongLine) → list ≡ a → others ≡ b → IsFirstReason list others line (name_at list place) text why
    → IsFirstReason a b line (name_at a place) text why
reason_here list a others b line place text why e f h =
    subst (λ l. IsFirstReason l b line (name_at l place) text why) e (subst (λ o. IsFirstReason list o line (name_at list place) text why) f h)

-- ---- one reason

module _ (a b : List RecordName) (line : ℕ) (next : RecordName) (text : List ℕ) where
  pub one_reason : (v w : WrongLine) → IsFirstReason a b line next text v → IsFirstReason a b line next text w → v ≡ w
  one_reason v w g h = go (cases_lt (reason_order v) (reason_order w)) (cases_lt (reason_order w) (reason_order v))
    where
      go : (reason_order v < reason_order w) ⊎ (reason_order w ≤ reason_order v) → (reason_order w < reason_order v) ⊎ (reason_order v ≤ reason_order w) → v ≡ w
      go (inl less) other = absurd (h.first v less g.so)
      go (inr past) (inl more) = absurd (g.first w more h.so)
      go (inr past) (inr most) = one_order v w (omega arith)

-- what stands behind the first lines of a file is one text
behind_one : (a b : List RecordName) (file : List ℕ) (lines : ℕ) → AreNames b → (g h : Begins a b file lines) → g.behind ≡ h.behind
behind_one a b file zero names g h = sym g.cut ∙ h.cut
behind_one a b file (suc n) names g h =
    (lines_apart a b names g.pairing h.pairing n (pairs_of g) (pairs_of h) g.behind h.behind (sym g.cut ∙ h.cut)).1
  where
    pairs_of : (k : Begins a b file (suc n)) → Pairs a b k.pairing n
    pairs_of k = let e : suc n - 1 ≡ n = omega arith in subst (Pairs a b k.pairing) e k.pairs

pub reasons_are_one : WrongLinesHaveOneReason
reasons_are_one a b file line why other names g h =
    one_reason a b line (name_at a (line - 2)) g.wrong.before.behind why other g.reason
    (subst (λ text. IsFirstReason a b line (name_at a (line - 2)) text other) (behind_one a b file (line - 1) names h.wrong.before g.wrong.before) h.reason)
