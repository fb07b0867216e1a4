-- Why a path can't be read or written.
use Rattle.std.specs.Prelude.{◌++◌, ℕ, List, [], ◌∷◌, Option, Some, None, codes}
use Rattle.edi_line.specs.Bytes.{line_feed}
use Rattle.edi_files.specs.declared.reason.Reason.{Reason}
use Rattle.edi_files.specs.declared.reason.Reason.TheVariants.{NoFile, NoFolder, IsFolder, NotPermitted, ReadOnly, NoSpace, NoQuota, TooLarge, IsStandard, IsInput}

-- with a line feed
abbrev pub ended : List ℕ → List ℕ
ended words = words ++ line_feed ∷ []

-- the words of a reason
abbrev pub reason_text : Reason → List ℕ
reason_text NoFile = codes "no such file"
reason_text NoFolder = codes "no such folder"
reason_text IsFolder = codes "is a folder"
reason_text NotPermitted = codes "not permitted"
reason_text ReadOnly = codes "read-only file system"
reason_text NoSpace = codes "no space left"
reason_text NoQuota = codes "no quota left"
reason_text TooLarge = codes "file too large"
reason_text IsStandard = codes "is standard output or standard error"
reason_text IsInput = codes "is one of the inputs"

-- the line that says why, by the name of the path, where a reason is known
abbrev pub reason_line : List ℕ → Option Reason → List ℕ
reason_line name None = []
reason_line name (Some reason) = ended (codes "edicad: " ++ name ++ codes ": " ++ reason_text reason)

-- what a folder may give as the reason of a path
abbrev pub Why : Type 1
Why = List ℕ → Option Reason → Type 0
