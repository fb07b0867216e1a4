-- Known texts of what explains a refusal.
use Rattle.std.specs.Prelude.{◌≡◌, ℕ, List, Some, None, codes}
use Rattle.edi_explain.specs.Explained.{rule_page}
use Rattle.edi_explain.specs.declared.refused.RefusalSites.{RefusalSites}
use Rattle.edi_explain.specs.declared.text.RuleText.{RuleText}

-- a text with these five parts
pub record HasParts (text : RuleText) (rule : ℕ) (sentence reason cause remedy : List ℕ) : Type 0 where
  pub rule_is : text.rule ≡ rule
  pub sentence_is : text.sentence.now ≡ sentence
  pub reason_is : text.reason.now ≡ reason
  pub cause_is : text.cause.now ≡ cause
  pub remedy_is : text.remedy.now ≡ remedy

-- the page on a known rule
abbrev pub KnownPage : Type 0
KnownPage =
    (text : RuleText)
    → HasParts text 106 (codes "there is no EOM") (codes "A file has an end.") (codes "It was cut.")
    (codes "Export it again.")
    → rule_page text
    ≡ codes "106: there is no EOM\nWhy: A file has an end.\nUsual cause: It was cut.\nWhat to do: Export it again.\n"

-- a node that begins in line 12, and an earlier one that begins in line 3 and has no identifier
abbrev pub known_sites : RefusalSites
known_sites = record {
  here = Some (record { line = 12; rty = codes "PNO"; rid = Some (codes "N2") });
  earlier = Some (record { line = 3; rty = codes "PNO"; rid = None });
}
