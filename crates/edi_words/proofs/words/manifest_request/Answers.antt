use Rattle.std.proofs.Common.{◌∙◌, ◌||◌, ap, ap₂, codes, inl, is_some, refl, sym}
use Rattle.std.proofs.lemmas.Bool.{false≢true}
use Rattle.clap.specs.Words.{found_of, rows_of}
use Rattle.clap.proofs.WalkLemmas.{first_value-rows}
use Rattle.edi_words.proofs.words.manifest_request.Goals as goal

pub returns-in-Some-None : goal.returns-in-Some-None
returns-in-Some-None c = λ give. (
  rows_of (found_of c.args.given.now),
  refl,
  give,
  c.in-Some.ensures,
  sym (c.in-Some-None.ensures ∙ first_value-rows (found_of c.args.given.now) _),
  ap is_some (sym (c.in-Some-None.ensures' ∙ first_value-rows (found_of c.args.given.now) _)),
)

pub returns-in-None-Some : goal.returns-in-None-Some
returns-in-None-Some c = λ give. (
  rows_of (found_of c.args.given.now),
  refl,
  give,
  c.in-Some.ensures,
  sym (c.in-None-Some.ensures' ∙ first_value-rows (found_of c.args.given.now) _),
  ap is_some (sym (c.in-None-Some.ensures ∙ first_value-rows (found_of c.args.given.now) _)),
)

pub returns-in-Some-Some : goal.returns-in-Some-Some
returns-in-Some-Some c = λ give. (
  codes "delivery",
  rows_of (found_of c.args.given.now),
  refl,
  (
    refl,
    inl (
      ap is_some (sym (c.in-Some-Some.ensures ∙ first_value-rows (found_of c.args.given.now) _)),
      ap is_some (sym (c.in-Some-Some.ensures' ∙ first_value-rows (found_of c.args.given.now) _)),
    ),
  ),
)

pub returns-in-None-None : goal.returns-in-None-None
returns-in-None-None c = λ give.
    absurd (false≢true (sym (ap₂ ◌||◌ (ap is_some (sym (c.in-None-None.ensures ∙ first_value-rows (found_of c.args.given.now) _)))
    (ap is_some (sym (c.in-None-None.ensures' ∙ first_value-rows (found_of c.args.given.now) _)))) ∙ c.requires))
