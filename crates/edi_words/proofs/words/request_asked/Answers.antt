use Rattle.std.proofs.Common.{◌∙◌, refl, sym, subst, map, string_bytes, inl, inr, ap}
use Rattle.clap.specs.Words.{kind_of, subcommand_of}
use Rattle.edi_words.specs.Requests.{Means, ReadsInputOnce, edicad, status_of_kind}
use Rattle.edi_words.specs.inner.Requests.{IsOwn}
use Rattle.edi_words.proofs.Subcommands.{met_is_own}
use Rattle.edi_words.proofs.words.request_asked.Goals as goal

pub request_of-requires : goal.request_of-requires
request_of-requires g c =
    let words = map string_bytes c.args.words.now in
    subst IsOwn (sym c.in-Ok.ensures.met) (met_is_own words (subcommand_of edicad words) c.in-Ok.ensures.taken refl)

pub returns-in-Ok : goal.returns-in-Ok
returns-in-Ok g c =
    inl (
      c.in-Ok.ensures.taken,
      subst (λ met. Means met c.request_of.result) c.in-Ok.ensures.met c.request_of.ensures.means,
      subst (λ met. ReadsInputOnce met c.request_of.result) c.in-Ok.ensures.met c.request_of.ensures.once,
    )

pub returns-in-Err : goal.returns-in-Err
returns-in-Err g c = inr (elim c.in-Err.ensures.refused [
  | inl memory ↦ inl (c.say_error.ensures ∙ ap status_of_kind memory)
  | inr among ↦ inr (kind_of c.in-Err.error, among, c.say_error.ensures)
])
