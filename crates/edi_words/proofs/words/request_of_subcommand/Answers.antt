use Rattle.std.proofs.Common.{◌≡◌, codes, Some, sym, ap, subst, inl, inr}
use Rattle.clap.specs.Words.{found_of, rows_of}
use Rattle.edi_words.specs.Requests.{Means}
use Rattle.edi_words.proofs.words.request_of_subcommand.Goals as goal

pub returns-in-check : goal.returns-in-check
returns-in-check g c = λ own give. (rows_of (found_of c.args.given.now), ap (λ name. Some (name, rows_of (found_of c.args.given.now))) c.in-check.is, give, c.sheet_files.ensures, c.flag.ensures)

pub returns-in-canon : goal.returns-in-canon
returns-in-canon g c = λ own give. (rows_of (found_of c.args.given.now), ap (λ name. Some (name, rows_of (found_of c.args.given.now))) c.in-canon.is, give, c.sheet_files-in-canon.ensures, c.path.ensures)

pub returns-in-compare : goal.returns-in-compare
returns-in-compare g c = λ own give. subst (λ name. Means (Some (name, rows_of (found_of c.args.given.now))) c.compare_request.result) (sym c.in-compare.is) (c.compare_request.ensures give)

pub returns-in-verify : goal.returns-in-verify
returns-in-verify g c = λ own give. (rows_of (found_of c.args.given.now), ap (λ name. Some (name, rows_of (found_of c.args.given.now))) c.in-verify.is, give, c.pair_files.ensures, c.path-in-verify.ensures, c.flag-in-verify.ensures)

pub returns-in-diff : goal.returns-in-diff
returns-in-diff g c = λ own give. subst (λ name. Means (Some (name, rows_of (found_of c.args.given.now))) c.diff_request.result) (sym c.in-diff.is) (c.diff_request.ensures give)

pub returns-in-draw : goal.returns-in-draw
returns-in-draw g c = λ own give. (rows_of (found_of c.args.given.now), ap (λ name. Some (name, rows_of (found_of c.args.given.now))) c.in-draw.is, give, c.sheet_files-in-draw.ensures, c.path-in-draw.ensures)

pub returns-in-hash : goal.returns-in-hash
returns-in-hash g c = λ own give. subst (λ name. Means (Some (name, rows_of (found_of c.args.given.now))) c.hash_request.result) (sym c.in-hash.is) (c.hash_request.ensures give)

pub returns-in-delivery : goal.returns-in-delivery
returns-in-delivery g c = λ own give. subst (λ name. Means (Some (name, rows_of (found_of c.args.given.now))) c.delivery_request.result) (sym c.in-delivery.is) (c.delivery_request.ensures give)

pub returns-in-changed : goal.returns-in-changed
returns-in-changed g c = λ own give. (rows_of (found_of c.args.given.now), ap (λ name. Some (name, rows_of (found_of c.args.given.now))) c.in-changed.is, c.path-in-changed.ensures, c.path-in-changed-2.ensures)

pub returns-in_default : goal.returns-in_default
returns-in_default g c = λ own give.
    let name_is : c.args.name.now ≡ codes "explain" = elim own [
      | inl e ↦ absurd (c.in_default.not-check e)
      | inr (inl e) ↦ absurd (c.in_default.not-canon e)
      | inr (inr (inl e)) ↦ absurd (c.in_default.not-compare e)
      | inr (inr (inr (inl e))) ↦ absurd (c.in_default.not-hash e)
      | inr (inr (inr (inr (inl e)))) ↦ e
      | inr (inr (inr (inr (inr (inl e))))) ↦ absurd (c.in_default.not-verify e)
      | inr (inr (inr (inr (inr (inr (inl e)))))) ↦ absurd (c.in_default.not-diff e)
      | inr (inr (inr (inr (inr (inr (inr (inl e))))))) ↦ absurd (c.in_default.not-draw e)
      | inr (inr (inr (inr (inr (inr (inr (inr (inl e)))))))) ↦ absurd (c.in_default.not-delivery e)
      | inr (inr (inr (inr (inr (inr (inr (inr (inr e)))))))) ↦ absurd (c.in_default.not-changed e)
    ] in
    subst (λ name. Means (Some (name, rows_of (found_of c.args.given.now))) c.explain_request.result) (sym name_is) (c.explain_request.ensures give)
