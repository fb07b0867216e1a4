-- What is answered of what differs between two sheets.
use Rattle.std.specs.Prelude.{◌≡◌, ◌↔◌, ℕ, List, IsTrue}
use Rattle.edi_schema.specs.Classes.{Classes}
use Rattle.edi_rank.specs.Same.{Same}
use Rattle.edi_matching.specs.Differences.{IsTotalIfSame, MatchesFaces, MatchesLinks, MatchesPartners}
use Rattle.edi_matching.specs.Matchings.{MatchingHolds}
use Rattle.edi_matching.specs.declared.matching.Matching.{Matching}
use Rattle.edi_report.specs.Located.{IsLocated}
use Rattle.edi_report.specs.Reports.{Report}
use Rattle.edi_report.specs.declared.parts.DifferingParts.{DifferingParts}
use Rattle.edi_report.specs.declared.sheet.LocatedSheet.{LocatedSheet}
use Rattle.edi_diff.specs.Changes.{AreChanges, ArePartsOfEach}
use Rattle.edi_diff.specs.declared.differing.Difference.{Difference}
use Rattle.edi_diff.specs.declared.differing.Findings.{Findings}
use Rattle.edi_diff.specs.declared.form.TextForm.{TextForm}
use Rattle.edi_diff.specs.Forms.{IsReadByForm, text_of_form}

-- two sheets by their matchings, and the parts in which records that became others differ
abbrev pub report_by : LocatedSheet → LocatedSheet → Matching → Matching → List DifferingParts → Report
report_by first second unchanged became parts =
    record { first = first; second = second; unchanged = unchanged.to; became = became.to; parts = parts }

-- The text of what differs in a form, by a matching of the records that are the same: of the other records some became
-- others, and the text names the parts in which these differ. Where it is JSON, a reader finds in it the values of this
-- form.
pub record IsDifferenceText (s : Classes) (first second : LocatedSheet) (unchanged : Matching) (form : TextForm)
    (text : List ℕ) : Type 0 where
  pub became : Matching
  pub parts : List DifferingParts
  pub changes : AreChanges first.accepted second.accepted unchanged became
  pub are_parts : ArePartsOfEach s first.accepted second.accepted unchanged became parts
  pub is_text : text ≡ text_of_form s form (report_by first second unchanged became parts)
  pub is_read : IsReadByForm form (report_by first second unchanged became parts) text

-- What differs between two files: the text, by a matching that holds between their plans, that leaves nothing out, of
-- one character set, exactly if these are the same, and leaves out no node and no arc that has a partner, no face
-- together with that on the same side of a matched arc, and no link, each together with one that it is carried onto;
-- and whether the plans are the same.
pub record IsDifference (s : Classes) (a b : List ℕ) (form : TextForm) (difference : Difference) : Type 0 where
  pub first : LocatedSheet
  pub second : LocatedSheet
  pub is_first : IsLocated s a first
  pub is_second : IsLocated s b second
  pub unchanged : Matching
  pub holds : MatchingHolds s first.accepted second.accepted unchanged
  pub total : IsTotalIfSame s first.accepted second.accepted unchanged
  pub partners : MatchesPartners first.accepted second.accepted unchanged
  pub faces : MatchesFaces s first.accepted second.accepted unchanged
  pub links : MatchesLinks s first.accepted second.accepted unchanged
  pub is_text : IsDifferenceText s first second unchanged form difference.text.items
  pub same : IsTrue difference.same ↔ Same s first.accepted second.accepted

-- what differs between two files, with the sheets, the matching and the changes that its text is made from
pub record AreFindings (s : Classes) (a b : List ℕ) (form : TextForm) (found : Findings) : Type 0 where
  pub differs : IsDifference s a b form found.difference
  pub by_first : differs.first ≡ found.first
  pub by_second : differs.second ≡ found.second
  pub by_unchanged : differs.unchanged ≡ found.unchanged
  pub by_became : differs.is_text.became ≡ found.became
