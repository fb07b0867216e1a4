-- What two schemas that answer alike have in common.
use Rattle.std.proofs.Common.{◌≡◌, ◌↔◌, Bool, true, false, Option, Some, None, option_map, codes, refl, sym, ap, ◌∙◌}
use Rattle.std.proofs.lemmas.Option.{none-some}
use Rattle.edi_record.specs.declared.name.Name.{Name}
use Rattle.edi_record.specs.declared.record.Kind.TheVariants.{Pfe}
use Rattle.edi_schema.specs.Classes.{Classes, class_named, is_number_named, role_named}
use Rattle.edi_schema.specs.Roles.{is_plain}
use Rattle.edi_schema.specs.declared.class.Class.{Class}
use Rattle.edi_schema.specs.declared.role.Role.{Role}
use Rattle.edi_schema.specs.declared.role.Role.TheVariants.{Initial, Final, Left, Right, Plain}
use Rattle.edi_plan.specs.Joined.{beside}
use Rattle.edi_schema_meaning.proofs.Apart.{join_not_refused, join_refused, loop_not_refused, loop_refused, node_accepted, node_not_refused, node_refused, start_not_refused, start_refused}
use Rattle.edi_schema_meaning.proofs.Numbers.{value_not_refused, value_refused}
use Rattle.edi_schema_meaning.proofs.Probing.{IsPlainName}
use Rattle.edi_schema_meaning.specs.Answers.{AnswerAlike}
use Rattle.edi_schema_meaning.specs.Laws.{ProbesAreAnswered}
use Rattle.edi_schema_meaning.specs.Probes.{join_records, loop_records, node_records, probe, start_records, value_records}
use Rattle.edi_compare.specs.Refused.{IsRefusal}
use Rattle.edi_compare.specs.declared.fault.Fault.TheVariants.{Entry}

-- a name with numbers or none has a class of some kind
role_there : (s : Classes) (n : Name) (b : Bool) → is_number_named s n ≡ Some b → (role : Role) × (role_named s n ≡ Some role)
role_there s n b h = go (class_named s n) refl
  where
    go : (o : Option Class) → class_named s n ≡ o → (role : Role) × (role_named s n ≡ Some role)
    go None e = absurd (none-some b (sym (ap (option_map (λ c. c.is_number)) e) ∙ h))
    go (Some c) e = (c.role, ap (option_map (λ c. c.role)) e)

faces_kind : (role : Role) → beside role ≡ Pfe → is_plain role ≡ false
faces_kind Initial h = refl
faces_kind Final h = refl
faces_kind Left h = refl
faces_kind Right h = refl
faces_kind Plain h = absurd cc

-- left for right
abbrev pub one_side : Role → Role
one_side Initial = Initial
one_side Final = Final
one_side Left = Left
one_side Right = Left
one_side Plain = Plain

pub probes : ProbesAreAnswered
probes s n printable =
    let plain : IsPlainName n = record { name = printable.0; line = printable.1 } in
    record {
      known = λ role h. node_accepted n plain s role h;
      unknown = λ h. node_refused n plain s h;
      of_a_kind = λ role h kind. loop_refused n plain s role h kind;
      of_no_kind = λ h refused. loop_not_refused n plain s h refused;
      of_faces = λ role h faces. join_refused n plain s role h (faces_kind role faces) faces;
      of_nodes = λ role h nodes refused. join_not_refused n plain s role h nodes refused;
      of_ends = λ h. start_refused n plain s h;
      of_starts = λ h refused. start_not_refused n plain s h refused;
      of_numbers = λ att h. value_refused n plain att s (role_there s n true h).0 (role_there s n true h).1 h;
      of_bytes = λ att h refused. value_not_refused n plain att s (role_there s n false h).0 (role_there s n false h).1 h refused;
    }

module _ (s t : Classes) (alike : AnswerAlike s t) (n : Name) (plain : IsPlainName n) where
  at_node : IsRefusal s (probe (node_records n)) (Entry 302 1) ↔ IsRefusal t (probe (node_records n)) (Entry 302 1)
  at_node = alike.refused (probe (node_records n)) (Entry 302 1)

  at_loop : IsRefusal s (probe (loop_records n)) (Entry 306 1) ↔ IsRefusal t (probe (loop_records n)) (Entry 306 1)
  at_loop = alike.refused (probe (loop_records n)) (Entry 306 1)

  at_join : IsRefusal s (probe (join_records n)) (Entry 306 1) ↔ IsRefusal t (probe (join_records n)) (Entry 306 1)
  at_join = alike.refused (probe (join_records n)) (Entry 306 1)

  at_start : IsRefusal s (probe (start_records n)) (Entry 402 1) ↔ IsRefusal t (probe (start_records n)) (Entry 402 1)
  at_start = alike.refused (probe (start_records n)) (Entry 402 1)

  at_values : IsRefusal s (probe (value_records n)) (Entry 403 2) ↔ IsRefusal t (probe (value_records n)) (Entry 403 2)
  at_values = alike.refused (probe (value_records n)) (Entry 403 2)

  -- a kind against another, but for the sides
  told : (a b : Role) → role_named s n ≡ Some a → role_named t n ≡ Some b → one_side a ≡ one_side b
  told Plain Plain ha hb = refl
  told Plain Initial ha hb = absurd (loop_not_refused n plain s ha (at_loop.1 (loop_refused n plain t Initial hb refl)))
  told Plain Final ha hb = absurd (loop_not_refused n plain s ha (at_loop.1 (loop_refused n plain t Final hb refl)))
  told Plain Left ha hb = absurd (loop_not_refused n plain s ha (at_loop.1 (loop_refused n plain t Left hb refl)))
  told Plain Right ha hb = absurd (loop_not_refused n plain s ha (at_loop.1 (loop_refused n plain t Right hb refl)))
  told Initial Plain ha hb = absurd (loop_not_refused n plain t hb (at_loop.0 (loop_refused n plain s Initial ha refl)))
  told Final Plain ha hb = absurd (loop_not_refused n plain t hb (at_loop.0 (loop_refused n plain s Final ha refl)))
  told Left Plain ha hb = absurd (loop_not_refused n plain t hb (at_loop.0 (loop_refused n plain s Left ha refl)))
  told Right Plain ha hb = absurd (loop_not_refused n plain t hb (at_loop.0 (loop_refused n plain s Right ha refl)))
  told Initial Left ha hb = absurd (join_not_refused n plain s Initial ha refl (at_join.1 (join_refused n plain t Left hb refl refl)))
  told Initial Right ha hb = absurd (join_not_refused n plain s Initial ha refl (at_join.1 (join_refused n plain t Right hb refl refl)))
  told Final Left ha hb = absurd (join_not_refused n plain s Final ha refl (at_join.1 (join_refused n plain t Left hb refl refl)))
  told Final Right ha hb = absurd (join_not_refused n plain s Final ha refl (at_join.1 (join_refused n plain t Right hb refl refl)))
  told Left Initial ha hb = absurd (join_not_refused n plain t Initial hb refl (at_join.0 (join_refused n plain s Left ha refl refl)))
  told Left Final ha hb = absurd (join_not_refused n plain t Final hb refl (at_join.0 (join_refused n plain s Left ha refl refl)))
  told Right Initial ha hb = absurd (join_not_refused n plain t Initial hb refl (at_join.0 (join_refused n plain s Right ha refl refl)))
  told Right Final ha hb = absurd (join_not_refused n plain t Final hb refl (at_join.0 (join_refused n plain s Right ha refl refl)))
  told Initial Final ha hb = absurd (start_not_refused n plain s ha (at_start.1 (start_refused n plain t hb)))
  told Final Initial ha hb = absurd (start_not_refused n plain t hb (at_start.0 (start_refused n plain s ha)))
  told Initial Initial ha hb = refl
  told Final Final ha hb = refl
  told Left Left ha hb = refl
  told Left Right ha hb = refl
  told Right Left ha hb = refl
  told Right Right ha hb = refl

  pub kinds : (o p : Option Role) → role_named s n ≡ o → role_named t n ≡ p → option_map one_side o ≡ option_map one_side p
  kinds None None ho hp = refl
  kinds None (Some b) ho hp = absurd (node_not_refused n plain t b hp (at_node.0 (node_refused n plain s ho)))
  kinds (Some a) None ho hp = absurd (node_not_refused n plain s a ho (at_node.1 (node_refused n plain t hp)))
  kinds (Some a) (Some b) ho hp = ap Some (told a b ho hp)

  values : n.rty ≡ codes "ATT" → (b c : Bool) → is_number_named s n ≡ Some b → is_number_named t n ≡ Some c → b ≡ c
  values att true true hb hc = refl
  values att false false hb hc = refl
  values att true false hb hc =
      absurd (value_not_refused n plain att t (role_there t n false hc).0 (role_there t n false hc).1 hc (at_values.0 (value_refused n plain att s (role_there s n true hb).0 (role_there s n true hb).1 hb)))
  values att false true hb hc =
      absurd (value_not_refused n plain att s (role_there s n false hb).0 (role_there s n false hb).1 hb (at_values.1 (value_refused n plain att t (role_there t n true hc).0 (role_there t n true hc).1 hc)))

  pub numbers : n.rty ≡ codes "ATT" → (o p : Option Class) → class_named s n ≡ o → class_named t n ≡ p → option_map (λ c. c.is_number) o ≡ option_map (λ c. c.is_number) p
  numbers att None None ho hp = refl
  numbers att None (Some d) ho hp = absurd (none-some (one_side d.role) (kinds None (Some d.role) (ap (option_map (λ c. c.role)) ho) (ap (option_map (λ c. c.role)) hp)))
  numbers att (Some c) None ho hp = absurd (none-some (one_side c.role) (sym (kinds (Some c.role) None (ap (option_map (λ c. c.role)) ho) (ap (option_map (λ c. c.role)) hp))))
  numbers att (Some c) (Some d) ho hp = ap Some (values att c.is_number d.is_number (ap (option_map (λ c. c.is_number)) ho) (ap (option_map (λ c. c.is_number)) hp))
