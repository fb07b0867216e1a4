use Rattle.std.proofs.Common.{◌≡◌, ◌++◌, List, ℕ, true, false, option_map, sym, ap, subst, ◌∙◌}
use Rattle.std.proofs.lemmas.List.{append-nil}
use Rattle.std.specs.Result.{OnOk}
use Rattle.edi_schema.specs.Classes.{class_at, class_name_at, role_of}
use Rattle.edi_schema_text.specs.SchemaText.{is_nameable, line_of_class}
use Rattle.edi_schema_text.proofs.Lines.{name_is, no_line, own_line, said_is}
use Rattle.edi_schema_text.proofs.text.put_class.Goals as goal

pub returns-then-not-is_nameable : goal.returns-then-not-is_nameable
returns-then-not-is_nameable c = λ entry h.
    let s = c.args.schema.now in
    let name = name_is s c.args.place entry c.name-name.result.now h (c.name-name.ensures ∙ ap (class_name_at s) c.class_at-class.ensures) in
    let none : is_nameable entry ≡ false = sym (ap (λ n. is_nameable (n, entry.1)) name) ∙ (sym (c.is_nameable.ensures entry.1) ∙ c.if-not-is_nameable.true) in
    sym (append-nil c.args.text.now.items) ∙ ap (λ t. c.args.text.now.items ++ t) (sym (no_line entry none))

pub returns : goal.returns
returns c = λ entry h.
    let s = c.args.schema.now in
    let at = c.class_at-class.ensures in
    let said =
    said_is s c.args.place entry c.name-name.result.now c.role.result c.letter.result c.is_number.result h
    (c.name-name.ensures ∙ ap (class_name_at s) at) (c.role.ensures ∙ ap (role_of s) at)
    (c.letter.ensures ∙ ap (λ k. option_map (λ d. d.letter) (class_at s k)) at) (c.is_number.ensures ∙ ap (λ k. option_map (λ d. d.is_number) (class_at s k)) at) in
    let name = name_is s c.args.place entry c.name-name.result.now h (c.name-name.ensures ∙ ap (class_name_at s) at) in
    let named : is_nameable entry ≡ true = sym (ap (λ n. is_nameable (n, entry.1)) name) ∙ (sym (c.is_nameable.ensures entry.1) ∙ c.if-not-is_nameable.false) in
    let P : List ℕ → Type 0 = λ l. OnOk c.put_line.result (c.put_line.new.text.items ≡ c.args.text.now.items ++ l) in
    subst P (ap line_of_class said ∙ sym (own_line entry named)) c.put_line.ensures
