-- The inputs of a run over two sheets.
use Rattle.std.specs.Prelude.{◌≡◌, ◌≤◌, ℕ, List, Option, IfSome, length}
use Rattle.edi_compare.specs.Runs.{MatchFault, most_bytes}
use Rattle.edi_compare.specs.declared.fault.RunFault.{RunFault}
use Rattle.edi_line.specs.FileBytes.{file_bytes}
use Rattle.edi_line.specs.declared.file.FileBytes.{FileBytes}
use Rattle.edi_line.specs.declared.device.ByteIn as byte_in
use Rattle.edi_schema.specs.Classes.{Classes}
use Rattle.edi_schema.specs.Roles.{KindCodes}
use Rattle.edi_schema.specs.SchemaRefusal.{IsGoodSchema}
use Rattle.edi_words.specs.declared.words.PairFiles.{PairFiles}
use Rattle.edi_answers.specs.Effects.{Inputs}
use Rattle.edi_answers.specs.SheetRuns.{Gives, HasFailedAt, HoldsTooMuch, IsDeviceOf}

-- the bytes are the contents of the file of a path, if these are known; then they are no more than a run reads
abbrev pub IsReadAt : Inputs → List ℕ → List ℕ → Type 0
IsReadAt inputs path bytes =
    (contents : Option (List ℕ)) × Gives inputs path contents × IfSome contents (λ t. bytes ≡ t)
    × IfSome contents (λ t. length t ≤ most_bytes)

-- the reader was opened for a path
abbrev pub IsOpenedAt : {R : Type 0} → Inputs → byte_in.Ghosts R → List ℕ → R → Type 0
IsOpenedAt inputs r path reader = Gives inputs path (r.contents reader) × IsDeviceOf inputs path (r.device reader)

-- four readers were opened for the four files
abbrev pub ArePairReaders : {R : Type 0} → Inputs → byte_in.Ghosts R → PairFiles → R → R → R → R → Type 0
ArePairReaders inputs r files scd dic first second =
    IsOpenedAt inputs r files.scd.now scd × IsOpenedAt inputs r files.dic.now dic
    × IsOpenedAt inputs r files.first.now first × IsOpenedAt inputs r files.second.now second

-- the file of classes was read, and the readers were opened for the other three
abbrev pub ArePairInputs : {R : Type 0} → Inputs → byte_in.Ghosts R → PairFiles → List ℕ → R → R → R → Type 0
ArePairInputs inputs r files classes dic first second =
    IsReadAt inputs files.scd.now classes × IsOpenedAt inputs r files.dic.now dic
    × IsOpenedAt inputs r files.first.now first × IsOpenedAt inputs r files.second.now second

-- all four were read
abbrev pub ArePairBytes : Inputs → PairFiles → List ℕ → List ℕ → List ℕ → List ℕ → Type 0
ArePairBytes inputs files scd dic first second =
    IsReadAt inputs files.scd.now scd × IsReadAt inputs files.dic.now dic
    × IsReadAt inputs files.first.now first × IsReadAt inputs files.second.now second

-- the schema is that of the two files and the codes, and the sheets are the other two
abbrev pub IsLoadedPair : KindCodes → Classes × FileBytes × FileBytes → List ℕ → List ℕ → List ℕ → List ℕ → Type 0
IsLoadedPair kinds pair scd dic a b =
    IsGoodSchema scd dic kinds pair.0 × (file_bytes pair.1 ≡ a) × (file_bytes pair.2 ≡ b)

-- the input of this number and path wasn't read: it failed or is too long, or memory ran out
abbrev pub IsUnreadAt : Inputs → List ℕ → ℕ → RunFault → Type 0
IsUnreadAt inputs path input e = MatchFault e
    (λ n. (n ≡ input) × HasFailedAt inputs path) (λ n. (n ≡ input) × HoldsTooMuch inputs path)
    (λ _. ⊥) (λ _. ⊥) (λ _. ⊥) (λ _. ⊥)

-- one of the first inputs, up to this number, wasn't read
abbrev pub AreUnread : Inputs → (ℕ → List ℕ) → ℕ → RunFault → Type 0
AreUnread inputs path_at most e = MatchFault e
    (λ n. (1 ≤ n) × (n ≤ most) × HasFailedAt inputs (path_at n))
    (λ n. (1 ≤ n) × (n ≤ most) × HoldsTooMuch inputs (path_at n))
    (λ _. ⊥) (λ _. ⊥) (λ _. ⊥) (λ _. ⊥)
