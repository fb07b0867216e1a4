-- The lines of all that a sheet breaks.
use Rattle.std.specs.Prelude.{◌≡◌, ◌⊎◌, ◌<◌, ◌≤◌, ℕ, List, [], Option, MatchOption, flat_map}
use Rattle.std.specs.List.{AllZip}
use Rattle.edi_line.specs.ZoneData.{ZoneData}
use Rattle.edi_line.specs.LineRules.{IsZonesOf}
use Rattle.edi_explain.specs.Lines.{line_line, record_line, sentence_of}
use Rattle.edi_explain.specs.Sites.{IsSiteIfAny}
use Rattle.edi_explain.specs.Texts.{IsRuleText}
use Rattle.edi_explain.specs.declared.site.RecordSite.{RecordSite}
use Rattle.edi_explain.specs.declared.text.RuleText.{RuleText}
use Rattle.edi_line.specs.declared.broken.BrokenRule.{BrokenRule}

-- the line of the file's line with the sentence of the rule of lines that it breaks
abbrev pub IsLineOfLine : List ℕ → BrokenRule → List ℕ → Type 0
IsLineOfLine name it line =
    (text : Option RuleText) × IsRuleText it.rule text × (line ≡ line_line name it.at (sentence_of text) it.rule)

-- the line of the record of the file b with the sentence of the rule that it breaks; nothing if there is no such record
abbrev pub IsLineOfRecord : List ℕ → List ℕ → BrokenRule → List ℕ → Type 0
IsLineOfRecord b name it line =
    (zones : List ZoneData) × (site : Option RecordSite) × IsZonesOf b zones × IsSiteIfAny zones it.at site
    × MatchOption site (line ≡ []) (λ there. (text : Option RuleText) × IsRuleText it.rule text
    × (line ≡ record_line name there (sentence_of text) it.rule))

-- the line of a rule that the file b, which has this name, breaks at a place
abbrev pub IsBrokenLine : List ℕ → List ℕ → BrokenRule → List ℕ → Type 0
IsBrokenLine b name it line =
    ((it.rule < 200) × IsLineOfLine name it line) ⊎ ((200 ≤ it.rule) × IsLineOfRecord b name it line)

-- the lines of all these, in order
abbrev pub ListsBroken : List ℕ → List ℕ → List BrokenRule → List ℕ → Type 0
ListsBroken b name broken text =
    (lines : List (List ℕ)) × AllZip (IsBrokenLine b name) broken lines × (text ≡ flat_map (λ line. line) lines)
