-- Two schemas that answer alike have one text.
use Rattle.std.proofs.Common.{◌≡◌, ◌≢◌, ◌⊎◌, inl, inr, ℕ, ◌<◌, Bool, true, false, true≢false, Option, Some, None, option_map, unwrap_or, slice_get, codes, refl, sym, ap, ◌∙◌, Ordering, Less, Equal, Greater}
use Rattle.std.specs.List.{list_any}
use Rattle.std.specs.Ordering.{is_eq, ordering_reverse}
use Rattle.std.proofs.lemmas.List.Elements.{recursion_from_All}
use Rattle.std.proofs.lemmas.Option.{none-some, same_Some}
use Rattle.edi_line.specs.Bytes.{IsBytes}
use Rattle.edi_record.specs.Texts.{HasNoSemicolon, is_semicolon}
use Rattle.edi_record.specs.declared.name.Name.{Name}
use Rattle.edi_schema.proofs.Names.{same_name, ties_name}
use Rattle.edi_schema.proofs.Ordered.{name_total}
use Rattle.edi_schema.proofs.Paired.{itself, one_place, one_role, paired, role_there, there}
use Rattle.edi_schema.proofs.Pointable.{partner_named}
use Rattle.edi_schema.proofs.ReadNames.{whole_text}
use Rattle.edi_schema.specs.Classes.{Classes, IsSchema, class_named, has_role, name_cmp, partner_of, role_named, role_of}
use Rattle.edi_schema.specs.Roles.{exchanged, is_plain, same_role}
use Rattle.edi_schema.specs.declared.class.Class.{Class}
use Rattle.edi_schema.specs.declared.role.Role.{Role}
use Rattle.edi_schema.specs.declared.role.Role.TheVariants.{Initial, Final, Left, Right, Plain}
use Rattle.edi_schema.proofs.RoleTests.{still_plain}
use Rattle.edi_plan.proofs.Built.{role_at_place}
use Rattle.edi_compare.proofs.PrintedBytes.{NameBytes}
use Rattle.edi_compare.proofs.SchemaBytes.{names_read}
use Rattle.edi_schema_text.proofs.Named.{no_semicolon}
use Rattle.edi_schema_text.proofs.Stated.{in_named}
use Rattle.edi_schema_text.proofs.Tell.{meaning_one, text_made}
use Rattle.edi_schema_text.specs.SchemaText.{AgreeOn, MeanSame}
use Rattle.edi_schema_meaning.proofs.Alike.{one_answer}
use Rattle.edi_schema_meaning.proofs.GoodSchemas.{good_schema}
use Rattle.edi_schema_meaning.proofs.Agreeing.{kinds, numbers, one_side}
use Rattle.edi_schema_meaning.proofs.Lettered.{same_letter}
use Rattle.edi_schema_meaning.proofs.OwnForm.{name_there}
use Rattle.edi_schema_meaning.proofs.Probing.{IsPlainName}
use Rattle.edi_schema_meaning.proofs.Sided.{sides_told}
use Rattle.edi_schema_meaning.proofs.Told.{all_named, place_some, plain_name}
use Rattle.edi_schema_meaning.specs.Answers.{AnswerAlike}
use Rattle.edi_schema_meaning.specs.Laws.{HasByteNames, OneAnswerOneText, TextsDecideAnswers}

-- ---- names and kinds

-- a name with a kind has a class
class_of : (s : Classes) (n : Name) (role : Role) → role_named s n ≡ Some role → (c : Class) × (class_named s n ≡ Some c)
class_of s n role h = go (class_named s n) refl
  where
    go : (o : Option Class) → class_named s n ≡ o → (c : Class) × (class_named s n ≡ Some c)
    go None e = absurd (none-some role (sym (ap (option_map (λ c. c.role)) e) ∙ h))
    go (Some c) e = (c, e)

name_bytes : (s : Classes) → HasByteNames s → (n : Name) (role : Role) → role_named s n ≡ Some role → NameBytes n
name_bytes s bytes n role h =
    let class = class_of s n role h in
    let both = all_named (λ m. IsBytes m.rty × IsBytes m.rid) s bytes n class.0 class.1 in
    record { rty = recursion_from_All (λ c. c < 256) n.rty both.0; rid = recursion_from_All (λ c. c < 256) n.rid both.1 }

-- what stands at the place of a name
entry_of : (s : Classes) (n : Name) (role : Role) → role_named s n ≡ Some role → is_plain role ≡ false → (k : ℕ) × (e : Name × Class) × (slice_get s k ≡ Some e) × (e.0 ≡ n) × (e.1.role ≡ role) × (role_of s k ≡ role)
entry_of s n role h kind =
    let place = place_some s n role h in
    let is : role_of s place.0 ≡ role = sym (role_at_place s n place.0 role place.1 h) in
    let entry = there s place.0 (ap is_plain is ∙ kind) in
    let name : entry.0.0 ≡ n = same_Some entry.0.0 n (sym (Rattle.std.proofs.lemmas.Option.slice_get-map (λ e. e.0) s place.0 ∙ ap (option_map (λ e. e.0)) entry.1) ∙ name_there s n place.0 place.1) in
    (place.0, entry.0, entry.1, name, sym (role_there s place.0 entry.0 entry.1) ∙ is, is)

-- a kind has one name
one_name : (s : Classes) → IsSchema s → (m n : Name) (role : Role) → is_plain role ≡ false → role_named s m ≡ Some role → role_named s n ≡ Some role → m ≡ n
one_name s keeps m n role kind hm hn =
    let x = entry_of s m role hm kind in
    let y = entry_of s n role hn kind in
    let place : x.0 ≡ y.0 =
    one_place (has_role role) s x.0 y.0 x.1 y.1 (keeps.one role kind) x.2 y.2 (ap (same_role role) x.4 ∙ itself role) (ap (same_role role) y.4 ∙ itself role) in
    let entry : x.1 ≡ y.1 = same_Some x.1 y.1 (sym x.2 ∙ (ap (slice_get s) place ∙ y.2)) in
    sym x.3 ∙ (ap (λ (e : Name × Class). e.0) entry ∙ y.3)

-- the name of the partner
partner_name : (s : Classes) → IsSchema s → (n : Name) (role : Role) → HasNoSemicolon n.rty → is_plain role ≡ false → role_named s n ≡ Some role → (m : Name) × HasNoSemicolon m.rty × (role_named s m ≡ Some (exchanged role))
partner_name s keeps n role whole kind h =
    let x = entry_of s n role h kind in
    let real : is_plain (role_of s x.0) ≡ false = ap is_plain x.5 ∙ kind in
    let plain : list_any is_semicolon x.1.0.rty ≡ false = ap (λ (m : Name). list_any is_semicolon m.rty) x.3 ∙ no_semicolon n.rty whole in
    let f = partner_named s keeps x.0 x.1 real x.2 plain in
    let role_is : f.0.1.role ≡ exchanged role = sym (role_there s (partner_of s x.0) f.0 f.1) ∙ ((paired s keeps).exchanges x.0 real ∙ ap exchanged x.5) in
    (f.0.0, whole_text f.0.0.rty f.2, ap (option_map (λ c. c.role)) (in_named s keeps.in_order f.0 (partner_of s x.0, f.1)) ∙ ap Some role_is)

-- ---- sides

-- the kinds are the same, but for left and right
sides_or_same : (a b : Role) → one_side a ≡ one_side b → (a ≢ b) → ((a ≡ Left) × (b ≡ Right)) ⊎ ((a ≡ Right) × (b ≡ Left))
sides_or_same Left Right h other = inl (refl, refl)
sides_or_same Right Left h other = inr (refl, refl)
sides_or_same Initial Initial h other = absurd (other refl)
sides_or_same Final Final h other = absurd (other refl)
sides_or_same Left Left h other = absurd (other refl)
sides_or_same Right Right h other = absurd (other refl)
sides_or_same Plain Plain h other = absurd (other refl)
sides_or_same Initial Final h other = absurd cc
sides_or_same Initial Left h other = absurd cc
sides_or_same Initial Right h other = absurd cc
sides_or_same Initial Plain h other = absurd cc
sides_or_same Final Initial h other = absurd cc
sides_or_same Final Left h other = absurd cc
sides_or_same Final Right h other = absurd cc
sides_or_same Final Plain h other = absurd cc
sides_or_same Left Initial h other = absurd cc
sides_or_same Left Final h other = absurd cc
sides_or_same Left Plain h other = absurd cc
sides_or_same Right Initial h other = absurd cc
sides_or_same Right Final h other = absurd cc
sides_or_same Right Plain h other = absurd cc
sides_or_same Plain Initial h other = absurd cc
sides_or_same Plain Final h other = absurd cc
sides_or_same Plain Left h other = absurd cc
sides_or_same Plain Right h other = absurd cc

-- of two sides a kind is the one or the other
left_kind : (b : Role) → one_side Right ≡ one_side b → (b ≡ Left) ⊎ (b ≡ Right)
left_kind Left h = inl refl
left_kind Right h = inr refl
left_kind Initial h = absurd cc
left_kind Final h = absurd cc
left_kind Plain h = absurd cc

right_kind : (b : Role) → one_side Left ≡ one_side b → (b ≡ Right) ⊎ (b ≡ Left)
right_kind Right h = inl refl
right_kind Left h = inr refl
right_kind Initial h = absurd cc
right_kind Final h = absurd cc
right_kind Plain h = absurd cc

left_right : Left ≡ Right → ⊥
left_right h = cc

module _ (s t : Classes) (hs : IsSchema s) (ht : IsSchema t) (bytes : HasByteNames s) (alike : AnswerAlike s t) where
  -- two names that exchange their sides
  exchange : (x y : Name) → HasNoSemicolon x.rty → HasNoSemicolon y.rty → role_named s x ≡ Some Left → role_named s y ≡ Some Right → role_named t x ≡ Some Right → role_named t y ≡ Some Left → ⊥
  exchange x y wx wy sx sy tx ty = go (name_cmp x y) refl
    where
      px : IsPlainName x
      px = plain_name s hs x wx Left sx

      py : IsPlainName y
      py = plain_name s hs y wy Right sy

      go : (o : Ordering) → name_cmp x y ≡ o → ⊥
      go Less h = sides_told s t hs ht (λ b c. (alike.form b c).0) x y px py (name_bytes s bytes x Left sx) (name_bytes s bytes y Right sy) h sx sy tx ty
      go Greater h =
          let less : name_cmp y x ≡ Less = name_total.antisymm y x ∙ ap ordering_reverse h in
          sides_told t s ht hs (λ b c. (alike.form b c).1) y x py px (name_bytes s bytes y Right sy) (name_bytes s bytes x Left sx) less ty tx sy sx
      go Equal h =
          let same : x ≡ y = same_name x y (sym (ties_name x y) ∙ ap is_eq h) in
          left_right (same_Some Left Right (sym sx ∙ (ap (role_named s) same ∙ sy)))

  -- the partner of a name that has exchanged its side has too
  partner_there : (n : Name) (a : Role) → HasNoSemicolon n.rty → is_plain a ≡ false → a ≢ exchanged a → ((b : Role) → one_side (exchanged a) ≡ one_side b → (b ≡ a) ⊎ (b ≡ exchanged a)) → role_named s n ≡ Some a → role_named t n ≡ Some (exchanged a)
      → (m : Name) × HasNoSemicolon m.rty × (role_named s m ≡ Some (exchanged a)) × (role_named t m ≡ Some a)
  partner_there n a whole kind apart choice hs_n ht_n =
      let m = partner_name s hs n a whole kind hs_n in
      let plain = plain_name s hs m.0 m.1 (exchanged a) m.2 in
      (m.0, m.1, m.2, go m.0 m.2 (kinds s t alike m.0 plain (Some (exchanged a)) (role_named t m.0) m.2 refl) (role_named t m.0) refl)
    where
      -- were it of the same kind as n, the two were one
      taken : (m : Name) → role_named s m ≡ Some (exchanged a) → role_named t m ≡ Some (exchanged a) → ⊥
      taken m hm h =
          let real : is_plain (exchanged a) ≡ false = still_plain a ∙ kind in
          let same : n ≡ m = one_name t ht n m (exchanged a) real ht_n h in
          apart (same_Some a (exchanged a) (sym hs_n ∙ (ap (role_named s) same ∙ hm)))

      pick : (m : Name) → role_named s m ≡ Some (exchanged a) → (b : Role) → role_named t m ≡ Some b → (b ≡ a) ⊎ (b ≡ exchanged a) → role_named t m ≡ Some a
      pick m hm b e (inl is) = e ∙ ap Some is
      pick m hm b e (inr is) = absurd (taken m hm (e ∙ ap Some is))

      go : (m : Name) → role_named s m ≡ Some (exchanged a) → option_map one_side (Some (exchanged a)) ≡ option_map one_side (role_named t m) → (o : Option Role) → role_named t m ≡ o → role_named t m ≡ Some a
      go m hm sides None e = absurd (none-some (one_side (exchanged a)) (sym (sides ∙ ap (option_map one_side) e)))
      go m hm sides (Some b) e = pick m hm b e (choice b (same_Some (one_side (exchanged a)) (one_side b) (sides ∙ ap (option_map one_side) e)))

  -- no name has exchanged its side
  one_kind : (n : Name) → HasNoSemicolon n.rty → (a b : Role) → role_named s n ≡ Some a → role_named t n ≡ Some b → one_side a ≡ one_side b → same_role a b ≡ true
  one_kind n whole a b ha hb sides = go (same_role a b) refl
    where
      left : role_named s n ≡ Some Left → role_named t n ≡ Some Right → ⊥
      left hl hr =
          let m = partner_there n Left whole refl left_right left_kind hl hr in
          exchange n m.0 whole m.1 hl m.2 hr m.3

      right : role_named s n ≡ Some Right → role_named t n ≡ Some Left → ⊥
      right hr hl =
          let m = partner_there n Right whole refl (λ e. left_right (sym e)) right_kind hr hl in
          exchange m.0 n m.1 whole m.2 hr m.3 hl

      other : same_role a b ≡ false → ((a ≡ Left) × (b ≡ Right)) ⊎ ((a ≡ Right) × (b ≡ Left)) → ⊥
      other e (inl x) = left (ha ∙ ap Some x.0) (hb ∙ ap Some x.1)
      other e (inr x) = right (ha ∙ ap Some x.0) (hb ∙ ap Some x.1)

      go : (c : Bool) → same_role a b ≡ c → same_role a b ≡ true
      go true e = e
      go false e = absurd (other e (sides_or_same a b sides (λ same. true≢false (sym (itself b) ∙ (ap (λ r. same_role r b) (sym same) ∙ e)))))

  kind_same : (n : Name) → HasNoSemicolon n.rty → (o p : Option Role) → role_named s n ≡ o → role_named t n ≡ p → option_map one_side o ≡ option_map one_side p → o ≡ p
  kind_same n whole None None ho hp sides = refl
  kind_same n whole None (Some b) ho hp sides = absurd (none-some (one_side b) sides)
  kind_same n whole (Some a) None ho hp sides = absurd (none-some (one_side a) (sym sides))
  kind_same n whole (Some a) (Some b) ho hp sides = ap Some (one_role a b (one_kind n whole a b ho hp (same_Some (one_side a) (one_side b) sides)))

  letter_same : (n : Name) (plain : IsPlainName n) → n.rty ≡ codes "ATT" → (o p : Option Class) → class_named s n ≡ o → class_named t n ≡ p → option_map (λ c. c.role) o ≡ option_map (λ c. c.role) p → option_map (λ c. c.letter) o ≡ option_map (λ c. c.letter) p
  letter_same n plain att None None ho hp kind = refl
  letter_same n plain att None (Some d) ho hp kind = absurd (none-some d.role kind)
  letter_same n plain att (Some c) None ho hp kind = absurd (none-some c.role (sym kind))
  letter_same n plain att (Some c) (Some d) ho hp kind =
      let hc : role_named s n ≡ Some c.role = ap (option_map (λ x. x.role)) ho in
      let hd : role_named t n ≡ Some d.role = ap (option_map (λ x. x.role)) hp in
      let letter = same_letter s t hs ht alike n plain (name_bytes s bytes n c.role hc) att c.role d.role hc hd in
      ap Some (sym (ap (λ o. unwrap_or (option_map (λ x. x.letter) o) 65) ho) ∙ (letter ∙ ap (λ o. unwrap_or (option_map (λ x. x.letter) o) 65) hp))

  agree : (n : Name) → HasNoSemicolon n.rty → IsPlainName n → AgreeOn s t n
  agree n whole plain =
      let kind : role_named s n ≡ role_named t n = kind_same n whole (role_named s n) (role_named t n) refl refl (kinds s t alike n plain (role_named s n) (role_named t n) refl refl) in
      record {
        kind = kind;
        letter = λ att. letter_same n plain att (class_named s n) (class_named t n) refl refl kind;
        numbers = λ att. numbers s t alike n plain att (class_named s n) (class_named t n) refl refl;
      }

  pub mean_same : MeanSame s t
  mean_same n whole = go (class_named s n) (class_named t n) refl refl
    where
      go : (o p : Option Class) → class_named s n ≡ o → class_named t n ≡ p → AgreeOn s t n
      go None None ho hp = record {
        kind = ap (option_map (λ c. c.role)) (ho ∙ sym hp);
        letter = λ att. ap (option_map (λ c. c.letter)) (ho ∙ sym hp);
        numbers = λ att. ap (option_map (λ c. c.is_number)) (ho ∙ sym hp);
      }
      go (Some c) p ho hp = agree n whole (plain_name s hs n whole c.role (ap (option_map (λ x. x.role)) ho))
      go None (Some d) ho hp = agree n whole (plain_name t ht n whole d.role (ap (option_map (λ x. x.role)) hp))

pub one_text : OneAnswerOneText
one_text s t hs ht bytes alike = text_made s t (meaning_one s t hs ht (mean_same s t hs ht bytes alike))

pub texts_decide : TextsDecideAnswers
texts_decide scd dic scd' dic' kinds kinds' s t bytes first second =
    let hs = good_schema scd dic kinds s first in
    let ht = good_schema scd' dic' kinds' t second in
    (one_answer s t hs ht, one_text s t hs ht (names_read kinds scd dic s bytes first))
