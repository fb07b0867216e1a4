use Rattle.std.proofs.Common.{◌≡◌, ◌≢◌, ◌∙◌, List, ℕ, Option, true, sym, ap, rules}
use Rattle.std.proofs.lemmas.Option.{same_Some}
use Rattle.edi_schema.specs.Roles.{role_by}
use Rattle.edi_schema.specs.declared.role.Role.TheVariants.{Plain}
use Rattle.edi_explain.specs.KindClasses.{codes_of}
use Rattle.edi_explain.proofs.kind_classes.states_class.Goals as goal

pub returns-then-ne : goal.returns-then-ne
returns-then-ne c =
    let kinds = codes_of c.args.codes.now in
    let rid = c.in-Some-first_value.identifier.now in
    let role : c.role_of.result ≡ role_by kinds _ rid = c.role_of.ensures ∙ ap (λ (k : Option (List ℕ)). role_by kinds k rid) c.first_value-then-ne.ensures in (
      λ t. let t' : c.eq.result ≡ true = t in let e : c.role_of.result ≡ c.args.role = search rules in
          let proper : c.args.role ≢ Plain = search rules in
          (record { rty = c.in-Some.field-0.now; rid = rid }, record { rty = sym c.in-Some.ensures; rid = sym c.in-Some-first_value.ensures }, sym role ∙ e, proper),
      λ h. let same : rid ≡ h.0.rid = same_Some _ _ (c.in-Some-first_value.ensures ∙ h.1.rid) in
          let e : c.role_of.result ≡ c.args.role = role ∙ (ap (role_by kinds _) same ∙ h.2) in search rules,
    )
