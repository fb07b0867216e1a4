-- What a run over the files of a folder answers.
use Rattle.std.specs.Prelude.{◌≡◌, ◌≢◌, ◌⊎◌, ◌≤◌, ◌==◌, ℕ, Bool, true, false, List, Option, IfSome, if◌then◌else◌}
use Rattle.std.specs.Bool.{MatchBool}
use Rattle.edi_schema.specs.Roles.{KindCodes}
use Rattle.edi_compare.specs.Bundle.{OfParts}
use Rattle.edi_compare.specs.declared.fault.RunFault.{RunFault}
use Rattle.edi_compare.specs.declared.fault.RunFault.TheVariants.{Read, Write}
use Rattle.edi_compare.specs.Runs.{BeforeWriting, IsTooLong, MatchFault, OfFour, OfThree, RefusesSchema, RefusesSecond, RefusesSheet, IfFourKnown, IfThreeKnown}
use Rattle.edi_pairing.specs.UnderFiles.{IfFiveKnown}
use Rattle.edi_words.specs.Requests.{is_standard_path, usual_kinds}
use Rattle.edi_words.specs.declared.words.PairFiles.{PairFiles}
use Rattle.edi_words.specs.declared.words.SheetFiles.{SheetFiles}
use Rattle.edi_answers.specs.Effects.{Effects, Inputs}

-- the input of a path is there, and this may be known to be its contents
abbrev pub Gives : Inputs → List ℕ → Option (List ℕ) → Type 0
Gives inputs path contents = MatchBool (is_standard_path path) (inputs.standard contents) (inputs.holds path contents)

-- the device of this number is the input of a path
abbrev pub IsDeviceOf : Inputs → List ℕ → ℕ → Type 0
IsDeviceOf inputs path device = MatchBool (is_standard_path path) (inputs.is_input device) (inputs.opens path device)

-- the input of a path was opened, and has failed
abbrev pub HasFailedAt : Inputs → List ℕ → Type 0
HasFailedAt inputs path = (device : ℕ) × IsDeviceOf inputs path device × inputs.failed device

-- the input of a path is there
abbrev pub IsThere : Inputs → List ℕ → Type 0
IsThere inputs path = (contents : Option (List ℕ)) × Gives inputs path contents

-- the input of a path is a file that can't be opened
abbrev pub IsMissing : Inputs → List ℕ → Type 0
IsMissing inputs path = (is_standard_path path ≡ false) × inputs.closed path

-- a fact of what the three files hold, where it is known
abbrev pub OfFiles : Inputs → SheetFiles → (List ℕ → List ℕ → List ℕ → Type 0) → Type 0
OfFiles inputs files P =
    (s d v : Option (List ℕ)) × Gives inputs files.scd.now s × Gives inputs files.dic.now d
    × Gives inputs files.vec.now v × IfThreeKnown s d v P

-- all three were opened
abbrev pub AreThere : Inputs → SheetFiles → Type 0
AreThere inputs files = IsThere inputs files.scd.now × IsThere inputs files.dic.now × IsThere inputs files.vec.now

-- the first that is missing
abbrev pub FirstMissing : Inputs → SheetFiles → ℕ → Type 0
FirstMissing inputs files n = OfThree n (IsThere inputs files.scd.now) (IsThere inputs files.dic.now)
    (IsMissing inputs files.scd.now) (IsMissing inputs files.dic.now) (IsMissing inputs files.vec.now)

-- the path of an input
abbrev pub path_at : SheetFiles → ℕ → List ℕ
path_at files n = if n == 1 then files.scd.now else if n == 2 then files.dic.now else files.vec.now

-- an input holds more bytes than a run reads
abbrev pub HoldsTooMuch : Inputs → List ℕ → Type 0
HoldsTooMuch inputs path = (contents : Option (List ℕ)) × Gives inputs path contents × IsTooLong contents

-- Why a run over the files has no answer. One of the three is missing; or all were opened, and this one failed or is
-- too long, the schema or the sheet is refused, or so many bytes went out before the writer failed.
abbrev pub FileFault : Inputs → KindCodes → SheetFiles → (ℕ → Type 0) → RunFault → Type 0
FileFault inputs kinds files W e =
    ((n : ℕ) × FirstMissing inputs files n × (e ≡ Read n))
    ⊎ (AreThere inputs files × MatchFault e
    (λ n. (1 ≤ n) × (n ≤ 3) × HasFailedAt inputs (path_at files n))
    (λ n. (1 ≤ n) × (n ≤ 3) × HoldsTooMuch inputs (path_at files n))
    (λ f. OfFiles inputs files (λ s d v. RefusesSchema kinds s d f))
    (λ f. OfFiles inputs files (λ s d v. RefusesSheet kinds s d v f))
    (λ _. ⊥) W)

-- Why a run over the bundle on standard input, which may hold these contents, has no answer: it failed or is too long,
-- the schema or the sheet is refused, or so many bytes went out before the writer failed.
abbrev pub StandardFault : Inputs → Option (List ℕ) → (ℕ → Type 0) → RunFault → Type 0
StandardFault inputs contents W e = MatchFault e
    (λ n. (n ≡ 1) × ((device : ℕ) × inputs.is_input device × inputs.failed device))
    (λ n. (n ≡ 1) × IsTooLong contents)
    (λ f. IfSome contents (λ b. OfParts b (λ s d v. RefusesSchema usual_kinds s d f)))
    (λ f. IfSome contents (λ b. OfParts b (λ s d v. RefusesSheet usual_kinds s d v f)))
    (λ _. ⊥) W

-- a path is that of an input, or leads to its file
abbrev pub Meets : (List ℕ → List ℕ → Bool → Type 0) → List ℕ → List ℕ → Type 0
Meets is_one out path = (is_standard_path path ≡ false) × ((path ≡ out) ⊎ is_one path out true)

abbrev pub IsApart : (List ℕ → List ℕ → Bool → Type 0) → List ℕ → List ℕ → Type 0
IsApart is_one out path = (is_standard_path path ≡ true) ⊎ ((path ≢ out) × is_one path out false)

-- a fact of what the four files of two sheets hold, where it is known
abbrev pub OfPair : Inputs → PairFiles → (List ℕ → List ℕ → List ℕ → List ℕ → Type 0) → Type 0
OfPair inputs files P =
    (s d a b : Option (List ℕ)) × Gives inputs files.scd.now s × Gives inputs files.dic.now d
    × Gives inputs files.first.now a
    × Gives inputs files.second.now b × IfFourKnown s d a b P

-- all four were opened
abbrev pub AreFourThere : Inputs → PairFiles → Type 0
AreFourThere inputs files =
    IsThere inputs files.scd.now × IsThere inputs files.dic.now × IsThere inputs files.first.now
    × IsThere inputs files.second.now

-- the first of the four that is missing
abbrev pub FirstOfFourMissing : Inputs → PairFiles → ℕ → Type 0
FirstOfFourMissing inputs files n =
    OfFour n (IsThere inputs files.scd.now) (IsThere inputs files.dic.now) (IsThere inputs files.first.now)
    (IsMissing inputs files.scd.now) (IsMissing inputs files.dic.now) (IsMissing inputs files.first.now)
    (IsMissing inputs files.second.now)

-- the path of an input
abbrev pub pair_path_at : PairFiles → ℕ → List ℕ
pair_path_at files n =
    if n == 1 then files.scd.now
    else if n == 2 then files.dic.now
    else if n == 3 then files.first.now else files.second.now

-- A fact for each reason why a run over two sheets that were opened has no answer: this input failed or is too long,
-- the schema is refused, the first sheet is, or the second where the first is accepted, or so many bytes went out
-- before the writer failed.
abbrev pub MatchPairFault : Inputs → KindCodes → PairFiles → (ℕ → Type 0) → (ℕ → Type 0) → (ℕ → Type 0) → RunFault
    → Type 0
MatchPairFault inputs kinds files R T W e = MatchFault e R T
    (λ f. OfPair inputs files (λ s d a b. RefusesSchema kinds s d f))
    (λ f. OfPair inputs files (λ s d a b. RefusesSheet kinds s d a f))
    (λ f. OfPair inputs files (λ s d a b. RefusesSecond kinds s d a b f))
    W

-- Why a run over the files of two sheets has no answer. One of the four is missing; or all were opened.
abbrev pub PairFileFault : Inputs → KindCodes → PairFiles → (ℕ → Type 0) → RunFault → Type 0
PairFileFault inputs kinds files W e =
    ((n : ℕ) × FirstOfFourMissing inputs files n × (e ≡ Read n))
    ⊎ (AreFourThere inputs files × MatchPairFault inputs kinds files
    (λ n. (1 ≤ n) × (n ≤ 4) × HasFailedAt inputs (pair_path_at files n))
    (λ n. (1 ≤ n) × (n ≤ 4) × HoldsTooMuch inputs (pair_path_at files n))
    W e)

-- ---- what is made of two sheets, put at a path

-- what is made of the two sheets, as IsMade says, of which this holds
abbrev pub OfMadePair : Inputs → (List ℕ → List ℕ → List ℕ → List ℕ → List ℕ → Type 0) → PairFiles → (List ℕ → Type 0)
    → Type 0
OfMadePair inputs IsMade files P = OfPair inputs files (λ s d a b. (bytes : List ℕ) × IsMade s d a b bytes × P bytes)

-- FILE is one of the inputs, and none of them
abbrev pub IsPairInput : (List ℕ → List ℕ → Bool → Type 0) → PairFiles → List ℕ → Type 0
IsPairInput is_one files out =
    Meets is_one out files.scd.now
    ⊎ (Meets is_one out files.dic.now ⊎ (Meets is_one out files.first.now ⊎ Meets is_one out files.second.now))

abbrev pub IsNoPairInput : (List ℕ → List ℕ → Bool → Type 0) → PairFiles → List ℕ → Type 0
IsNoPairInput is_one files out =
    IsApart is_one out files.scd.now × IsApart is_one out files.dic.now × IsApart is_one out files.first.now
    × IsApart is_one out files.second.now

-- What is made of the two sheets, as IsMade says, is at FILE, which is no input.
abbrev pub IsPairPut : Effects → (List ℕ → List ℕ → List ℕ → List ℕ → List ℕ → Type 0) → PairFiles → List ℕ → Type 0
IsPairPut run IsMade files out = IsNoPairInput run.is_one files out × OfMadePair run.inputs IsMade files (run.Puts out)

-- Why it is not: FILE is an input, and nothing was opened; or the run has no answer. Nothing in the folder has changed,
-- unless the fault came while writing to FILE.
abbrev pub PutPairFault : Effects → (List ℕ → List ℕ → List ℕ → List ℕ → List ℕ → Type 0) → KindCodes → PairFiles
    → List ℕ → RunFault → Type 0
PutPairFault run IsMade kinds files out e =
    (IsPairInput run.is_one files out × (e ≡ Write (record { count = 0 })) × run.untouched)
    ⊎ (IsNoPairInput run.is_one files out
    × PairFileFault run.inputs kinds files (λ count. OfMadePair run.inputs IsMade files (run.Stops out count)) e
    × BeforeWriting e run.untouched)

-- at each moment FILE has the file that it had, or the whole of what is made of the two sheets
abbrev pub IsPairReplaced : Effects → (List ℕ → List ℕ → List ℕ → List ℕ → List ℕ → Type 0) → PairFiles → List ℕ
    → Type 0
IsPairReplaced run IsMade files out =
    run.Replaces out (λ bytes. OfPair run.inputs files (λ s d a b. IsMade s d a b bytes))

-- ---- the file of a pairing, checked

-- a fact of what the four files of two sheets and that of a pairing hold, where it is known
abbrev pub OfFive : Inputs → PairFiles → List ℕ → (List ℕ → List ℕ → List ℕ → List ℕ → List ℕ → Type 0) → Type 0
OfFive inputs files pairing P =
    (s d a b f : Option (List ℕ)) × Gives inputs files.scd.now s × Gives inputs files.dic.now d
    × Gives inputs files.first.now a
    × Gives inputs files.second.now b × Gives inputs pairing f × IfFiveKnown s d a b f P

-- all five were opened
abbrev pub AreFiveThere : Inputs → PairFiles → List ℕ → Type 0
AreFiveThere inputs files pairing = AreFourThere inputs files × IsThere inputs pairing

-- the first of the five that is missing
abbrev pub FirstOfFiveMissing : Inputs → PairFiles → List ℕ → ℕ → Type 0
FirstOfFiveMissing inputs files pairing n =
    FirstOfFourMissing inputs files n ⊎ ((n ≡ 5) × AreFourThere inputs files × IsMissing inputs pairing)

-- the path of an input
abbrev pub verify_path_at : PairFiles → List ℕ → ℕ → List ℕ
verify_path_at files pairing n = if n == 5 then pairing else pair_path_at files n

-- Why the check of a pairing's file has no answer, but for a file that states no pairing. One of the five is missing;
-- or all were opened.
abbrev pub VerifyFileFault : Inputs → KindCodes → PairFiles → List ℕ → RunFault → Type 0
VerifyFileFault inputs kinds files pairing e =
    ((n : ℕ) × FirstOfFiveMissing inputs files pairing n × (e ≡ Read n))
    ⊎ (AreFiveThere inputs files pairing × MatchPairFault inputs kinds files
    (λ n. (1 ≤ n) × (n ≤ 5) × HasFailedAt inputs (verify_path_at files pairing n))
    (λ n. (1 ≤ n) × (n ≤ 5) × HoldsTooMuch inputs (verify_path_at files pairing n))
    (λ _. ⊥) e)
