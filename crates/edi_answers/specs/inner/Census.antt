-- What the answer to one sheet of a census leaves.
use Rattle.std.specs.Prelude.{◌≡◌, ◌++◌, ℕ, List, ◌∷◌, IsTrue, take}
use Rattle.std.specs.List.{AllZip}
use Rattle.edi_line.specs.declared.broken.BrokenRule.{BrokenRule}
use Rattle.edi_schema.specs.Classes.{Classes}
use Rattle.edi_files.specs.Reasons.{Why}
use Rattle.edi_answers.specs.Census.{IsShare, Share, TellsAllOf, shared_err, shared_out, shared_rules, worst_share}
use Rattle.edi_answers.specs.Effects.{Inputs, Stream}
use Rattle.edi_answers.specs.Statuses.{Prints, Warns}
use Rattle.edi_answers.specs.declared.form.AnswerForm.{AnswerForm}

-- the streams got what a sheet adds, and this is its status and these are its rules
pub record AddsShare (inputs : Inputs) (why : Why) (s : Classes) (form : AnswerForm) (path : List ℕ)
    (out err : Stream) (status : ℕ) (rules : List ℕ) : Type 0 where
  pub share : Share
  pub is : IsShare inputs why s form path share
  pub prints : Prints out share.out
  pub warns : Warns err share.err
  pub status_is : share.status ≡ status
  pub rules_are : share.rules ≡ rules

-- the streams got what the sheets of these paths add, and this is the greatest status and these are their rules
pub record AddShares (inputs : Inputs) (why : Why) (s : Classes) (form : AnswerForm) (paths : List (List ℕ))
    (out err : Stream) (status : ℕ) (rules : List ℕ) : Type 0 where
  pub shares : List Share
  pub are : AllZip (IsShare inputs why s form) paths shares
  pub prints : Prints out (shared_out shares)
  pub warns : Warns err (shared_err shares)
  pub status_is : worst_share shares ≡ status
  pub rules_are : shared_rules shares ≡ rules

-- the output failed in the lines of the sheet of a path, of which so many bytes went out
pub record StopsInSheet (inputs : Inputs) (s : Classes) (form : AnswerForm) (path : List ℕ) (out : Stream)
    : Type 0 where
  pub broken : List BrokenRule
  pub text : List ℕ
  pub count : ℕ
  pub tells : TellsAllOf inputs s form path broken text
  pub failed : IsTrue out.failed
  pub prints : Prints out (take count text)

-- the output failed in the lines of one of the sheets of these paths, behind what those before it add; the errors have
-- got what these add
pub record StopsInOne (inputs : Inputs) (why : Why) (s : Classes) (form : AnswerForm) (paths : List (List ℕ))
    (out err : Stream) : Type 0 where
  pub done : List (List ℕ)
  pub more : List (List ℕ)
  pub path : List ℕ
  pub shares : List Share
  pub broken : List BrokenRule
  pub text : List ℕ
  pub count : ℕ
  pub paths_are : paths ≡ done ++ path ∷ more
  pub are : AllZip (IsShare inputs why s form) done shares
  pub tells : TellsAllOf inputs s form path broken text
  pub failed : IsTrue out.failed
  pub prints : Prints out (shared_out shares ++ take count text)
  pub warns : Warns err (shared_err shares)
