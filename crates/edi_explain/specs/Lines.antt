-- The lines that say where something is refused and why.
use Rattle.std.specs.Prelude.{◌++◌, ◌==◌, ℕ, List, [], ◌∷◌, Option, Some, None, codes, decimal, if◌then◌else◌}
use Rattle.edi_line.specs.Bytes.{line_feed}
use Rattle.edi_explain.specs.declared.refused.RefusalSites.{RefusalSites}
use Rattle.edi_explain.specs.declared.site.RecordSite.{RecordSite}
use Rattle.edi_explain.specs.declared.text.RuleText.{RuleText}
use Rattle.edi_shown.specs.Shown.{shown_bytes}

-- FILE:LINE:, and a space
abbrev pub position_text : List ℕ → ℕ → List ℕ
position_text name line = shown_bytes name ++ codes ":" ++ decimal line ++ codes ": "

-- [RULE] behind a space, and the end of the line
abbrev pub rule_mark : ℕ → List ℕ
rule_mark rule = codes " [" ++ decimal rule ++ codes "]" ++ line_feed ∷ []

-- FILE:LINE: sentence [RULE]
abbrev pub line_line : List ℕ → ℕ → List ℕ → ℕ → List ℕ
line_line name line sentence rule = position_text name line ++ sentence ++ rule_mark rule

-- the line that bars another, where there is one
abbrev pub barring_text : List ℕ → Option ℕ → ℕ → List ℕ
barring_text name (Some line) rule = line_line name line (codes "the earlier line") rule
barring_text name None rule = []

-- the line of a broken line, and that of the earlier one
abbrev pub lines_of_line : List ℕ → ℕ → Option ℕ → List ℕ → ℕ → List ℕ
lines_of_line name line earlier sentence rule = line_line name line sentence rule ++ barring_text name earlier rule

-- an identifier behind a space, where there is one
abbrev pub identifier_text : Option (List ℕ) → List ℕ
identifier_text (Some rid) = codes " " ++ shown_bytes rid
identifier_text None = []

-- FILE:LINE: TYPE IDENTIFIER: sentence [RULE]
abbrev pub record_line : List ℕ → RecordSite → List ℕ → ℕ → List ℕ
record_line name site sentence rule =
    position_text name site.line ++ shown_bytes site.rty ++ identifier_text site.rid ++ codes ": " ++ sentence
    ++ rule_mark rule

-- that line of a record, where there is one
abbrev pub line_of_site : List ℕ → Option RecordSite → List ℕ → ℕ → List ℕ
line_of_site name (Some site) sentence rule = record_line name site sentence rule
line_of_site name None sentence rule = []

-- the sentence of a rule
abbrev pub sentence_of : Option RuleText → List ℕ
sentence_of (Some text) = text.sentence.now
sentence_of None = []

-- what is said of the earlier record that a rule speaks of
abbrev pub earlier_sentence : ℕ → List ℕ
earlier_sentence rule =
    if rule == 304 then codes "the first link with an end"
    else if rule == 307 then codes "the earlier link"
    else if rule == 403 then codes "the earlier node"
    else if rule == 405 then codes "the earlier arc"
    else if rule == 501 then codes "the earlier object"
    else if rule == 604 then codes "the earlier class"
    else codes "the earlier record"

-- the line of a refused record, and that of the earlier one
abbrev pub lines_of_sites : List ℕ → RefusalSites → List ℕ → ℕ → List ℕ
lines_of_sites name sites sentence rule =
    line_of_site name sites.here sentence rule ++ line_of_site name sites.earlier (earlier_sentence rule) rule
