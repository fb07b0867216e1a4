-- What is said of arguments that make no sense.
use Rattle.std.specs.Prelude.{ℕ, Bool, true, false, List, ◌++◌, codes}
use Rattle.edi_files.specs.Reasons.{ended}
use Rattle.edi_shown.specs.Shown.{shown_bytes}
use Rattle.edi_words.specs.Requests.{misuse_text}
use Rattle.edi_words.specs.declared.words.BadKinds.{BadKinds as BadCodes}
use Rattle.edi_words.specs.declared.words.KindsFault.{KindsFault}
use Rattle.edi_words.specs.declared.words.KindsFault.TheVariants.{Count, Empty, Twice}
use Rattle.edi_words.specs.declared.words.Misuse.{Misuse}
use Rattle.edi_words.specs.declared.words.Misuse.TheVariants.{BadKinds, TwoStandard, NoSheet, SeveralSheets, NothingHashed, ListAndMore, StandardPairing, StandardPicture, NotOneManifest}

-- what is wrong with codes, in words
abbrev pub kinds_fault_words : KindsFault → List ℕ
kinds_fault_words Count = codes "takes four codes parted by commas"
kinds_fault_words Empty = codes "a code is empty"
kinds_fault_words (Twice code) = shown_bytes code.now ++ codes " is there twice"

-- the line for codes that are bad, and then that of what was given
abbrev pub bad_kinds_lines : BadCodes → List ℕ
bad_kinds_lines bad =
    ended (misuse_text (BadKinds bad))
    ++ ended (codes "edicad: --kinds " ++ shown_bytes bad.given.now ++ codes ": " ++ kinds_fault_words bad.fault)

-- what is said of arguments that make no sense
abbrev pub misuse_lines : Misuse → List ℕ
misuse_lines (BadKinds bad) = bad_kinds_lines bad
misuse_lines TwoStandard = ended (misuse_text TwoStandard)
misuse_lines NoSheet = ended (misuse_text NoSheet)
misuse_lines SeveralSheets = ended (misuse_text SeveralSheets)
misuse_lines NothingHashed = ended (misuse_text NothingHashed)
misuse_lines ListAndMore = ended (misuse_text ListAndMore)
misuse_lines StandardPairing = ended (misuse_text StandardPairing)
misuse_lines StandardPicture = ended (misuse_text StandardPicture)
misuse_lines NotOneManifest = ended (misuse_text NotOneManifest)

-- whether that shows what was given, which takes memory
abbrev pub shows_words : Misuse → Bool
shows_words (BadKinds bad) = true
shows_words TwoStandard = false
shows_words NoSheet = false
shows_words SeveralSheets = false
shows_words NothingHashed = false
shows_words ListAndMore = false
shows_words StandardPairing = false
shows_words StandardPicture = false
shows_words NotOneManifest = false

-- what is said of words that are not all UTF-8
abbrev pub not_text_lines : List ℕ
not_text_lines =
    ended (codes "error: the words are not all UTF-8")
    ++ ended (codes "edicad: name such a file by a link whose name is, or read it by - from standard input")
