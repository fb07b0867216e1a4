-- What is made of sheets: canonical files and pictures.
use Rattle.std.specs.Prelude.{◌≡◌, ◌⊎◌, ℕ, Bool, List}
use Rattle.edi_schema.specs.Roles.{KindCodes}
use Rattle.edi_compare.specs.declared.fault.RunFault.{RunFault}
use Rattle.edi_compare.specs.declared.fault.RunFault.TheVariants.{Write}
use Rattle.edi_compare.specs.Runs.{BeforeWriting, IsCanonOf}
use Rattle.edi_diff.specs.declared.differing.Difference.{Difference}
use Rattle.edi_drawing.specs.Drawn.{TwoFileNames}
use Rattle.edi_drawing.specs.UnderFiles.{IsDrawnDifferenceUnder, IsPictureUnder}
use Rattle.edi_drawing.specs.declared.drawn.DrawnDifference.{DrawnDifference}
use Rattle.edi_words.specs.declared.words.PairFiles.{PairFiles}
use Rattle.edi_words.specs.declared.words.SheetFiles.{SheetFiles}
use Rattle.edi_files.specs.declared.product.Product.{Product}
use Rattle.edi_files.specs.declared.product.Product.TheVariants.{Canonical, Picture}
use Rattle.edi_answers.specs.Effects.{Effects, Inputs}
use Rattle.edi_answers.specs.SheetRuns.{FileFault, IsApart, Meets, OfFiles}
use Rattle.edi_diff.specs.declared.form.TextForm.{TextForm}

-- the bytes are what is made of a sheet of this name: its canonical file, or its picture
abbrev pub IsMadeOf : Product → KindCodes → List ℕ → List ℕ → List ℕ → List ℕ → List ℕ → Type 0
IsMadeOf Canonical kinds name s d v bytes = IsCanonOf kinds s d v bytes
IsMadeOf Picture kinds name s d v bytes = IsPictureUnder kinds name s d v bytes

-- what is made of the sheet, of which this holds
abbrev pub OfMade : Inputs → Product → KindCodes → SheetFiles → (List ℕ → Type 0) → Type 0
OfMade inputs product kinds files P =
    OfFiles inputs files (λ s d v. (bytes : List ℕ) × IsMadeOf product kinds files.vec.now s d v bytes × P bytes)

-- OUT is one of the inputs, and none of them
abbrev pub IsInput : (List ℕ → List ℕ → Bool → Type 0) → SheetFiles → List ℕ → Type 0
IsInput is_one files out =
    Meets is_one out files.scd.now ⊎ (Meets is_one out files.dic.now ⊎ Meets is_one out files.vec.now)

abbrev pub IsNoInput : (List ℕ → List ℕ → Bool → Type 0) → SheetFiles → List ℕ → Type 0
IsNoInput is_one files out =
    IsApart is_one out files.scd.now × IsApart is_one out files.dic.now × IsApart is_one out files.vec.now

-- What is made of the sheet is at OUT, which is no input.
abbrev pub IsPut : Effects → Product → KindCodes → SheetFiles → List ℕ → Type 0
IsPut run product kinds files out =
    IsNoInput run.is_one files out × OfMade run.inputs product kinds files (run.Puts out)

-- Why it is not: OUT is an input, and nothing was opened; or the run has no answer. Nothing in the folder has changed,
-- unless the fault came while writing to OUT.
abbrev pub PutFault : Effects → Product → KindCodes → SheetFiles → List ℕ → RunFault → Type 0
PutFault run product kinds files out e =
    (IsInput run.is_one files out × (e ≡ Write (record { count = 0 })) × run.untouched)
    ⊎ (IsNoInput run.is_one files out
    × FileFault run.inputs kinds files (λ count. OfMade run.inputs product kinds files (run.Stops out count)) e
    × BeforeWriting e run.untouched)

-- at each moment OUT has the file that it had, or the whole of what is made of the sheet
abbrev pub IsReplaced : Effects → Product → KindCodes → SheetFiles → List ℕ → Type 0
IsReplaced run product kinds files out =
    run.Replaces out (λ bytes. OfFiles run.inputs files (λ s d v. IsMadeOf product kinds files.vec.now s d v bytes))

-- the names of the files of two sheets, as they were given
abbrev pub names_of_pair : PairFiles → TwoFileNames
names_of_pair files = record { first = files.first.now; second = files.second.now }

-- this differs between the two sheets of these names, and the bytes are a picture that shows it
abbrev pub ShowsDifference : KindCodes → TwoFileNames → TextForm → Difference → List ℕ → List ℕ → List ℕ → List ℕ
    → List ℕ → Type 0
ShowsDifference kinds names form difference s d a b bytes =
    (drawn : DrawnDifference) × IsDrawnDifferenceUnder kinds names s d a b form drawn × (drawn.difference ≡ difference)
    × (drawn.picture.items ≡ bytes)

-- the bytes are a picture that shows what differs between the two sheets
abbrev pub IsPictureOfPair : KindCodes → TwoFileNames → TextForm → List ℕ → List ℕ → List ℕ → List ℕ → List ℕ → Type 0
IsPictureOfPair kinds names form s d a b bytes =
    (difference : Difference) × ShowsDifference kinds names form difference s d a b bytes
