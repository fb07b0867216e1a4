-- What two sheets are found to have in common, and what differs.
use Rattle.std.specs.Prelude.{◌≡◌, ◌↔◌, IsTrue}
use Rattle.edi_schema.specs.Classes.{Classes}
use Rattle.edi_rank.specs.Same.{Same}
use Rattle.edi_matching.specs.Differences.{IsTotalIfSame, MatchesFaces, MatchesLinks, MatchesPartners}
use Rattle.edi_matching.specs.Matchings.{MatchingHolds}
use Rattle.edi_report.specs.declared.sheet.LocatedSheet.{LocatedSheet}
use Rattle.edi_diff.specs.Differences.{IsDifferenceText}
use Rattle.edi_diff.specs.declared.differing.ComparedSheets.{ComparedSheets}
use Rattle.edi_diff.specs.declared.form.TextForm.{TextForm}

-- the matching of two sheets, what became of the records that it leaves out, and the text and the answer by these
pub record AreCompared (s : Classes) (first second : LocatedSheet) (form : TextForm)
    (compared : ComparedSheets) : Type 0 where
  pub holds : MatchingHolds s first.accepted second.accepted compared.unchanged
  pub total : IsTotalIfSame s first.accepted second.accepted compared.unchanged
  pub partners : MatchesPartners first.accepted second.accepted compared.unchanged
  pub faces : MatchesFaces s first.accepted second.accepted compared.unchanged
  pub links : MatchesLinks s first.accepted second.accepted compared.unchanged
  pub is_text : IsDifferenceText s first second compared.unchanged form compared.difference.text.items
  pub by_became : is_text.became ≡ compared.became
  pub same : IsTrue compared.difference.same ↔ Same s first.accepted second.accepted
