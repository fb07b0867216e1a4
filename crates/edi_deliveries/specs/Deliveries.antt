-- What is answered of deliveries: of the lots that THF files state, and of the files that lie beside them.
use Rattle.std.specs.Prelude.{◌≡◌, ◌⊎◌, ◌≤◌, ◌++◌, ◌&&◌, ℕ, Bool, false, true, not, List, [], ◌∷◌, Option, Some, None, codes, filter, find, flat_map, is_none, length, map, option_map, option_to_list, take, unwrap_or}
use Rattle.std.proofs.Common.{Bor}
use Rattle.std.specs.Fmt.{decimal}
use Rattle.std.specs.List.{list_any}
use Rattle.std.specs.Option.{option_map_or}
use Rattle.std.specs.Path.{path_extension, path_parent, with_separator}
use Rattle.std.specs.Str.{bytes_eq}
use Rattle.edi_schema.specs.Roles.{KindCodes}
use Rattle.edi_line.specs.declared.fault.LineFault.TheVariants as line
use Rattle.edi_record.specs.declared.fault.RecordFault.TheVariants as record_fault
use Rattle.edi_delivery.specs.NameParts.{file_name, is_same_name}
use Rattle.edi_delivery.specs.Lots.{files_of}
use Rattle.edi_delivery.specs.DeliveryRefusal.{IsDeliveryOf, IsDeliveryRefusal}
use Rattle.edi_delivery.specs.declared.fault.DeliveryFault.{DeliveryFault}
use Rattle.edi_delivery.specs.declared.fault.DeliveryFault.TheVariants.{Line, Record}
use Rattle.edi_delivery.specs.declared.file_name.Extension.TheVariants.{Scd, Dic, Vec}
use Rattle.edi_delivery.specs.declared.lot.Lot.{Lot}
use Rattle.edi_compare.specs.declared.fault.RunFault.{RunFault}
use Rattle.edi_compare.specs.declared.fault.RunFault.TheVariants.{Read}
use Rattle.edi_files.specs.Reasons.{reason_line}
use Rattle.edi_files.specs.declared.listing.Listing as listing
use Rattle.edi_files.specs.declared.reason.Reason.TheVariants.{NoFile}
use Rattle.edi_words.specs.Requests.{is_standard_path}
use Rattle.edi_words.specs.declared.words.ManyFiles.{ManyFiles}
use Rattle.edi_answers.specs.declared.form.AnswerForm.TheVariants.{Words}
use Rattle.edi_answers.specs.Effects.{Effects, Inputs, Stream}
use Rattle.edi_answers.specs.Hashes.{IsHashStatus, TellsFault, escaped_name, named_line}
pub use Rattle.edi_answers.specs.Replies.{AddsNothing, EachInTurn, ErrorsSay, OneThenOther, Reply, SaysLines}
use Rattle.edi_answers.specs.Statuses.{LacksMemory, OnlyLacksMemory, Prints}
use Rattle.edi_answers.specs.WholeInputs.{WholeInputFault, OfWholeInput}

-- ---- folders

-- what is known of folders
pub record Listings : Type 1 where
  -- these may be the names of what lies in the folder of a path
  pub lists : List ℕ → List (List ℕ) → Type 0
  -- the path leads to no folder that can be listed
  pub unlisted : List ℕ → Type 0

abbrev pub listings : {F : Type 0} → listing.Ghosts F → F → Listings
listings g folder = record { lists = g.lists folder; unlisted = g.unlisted folder }

-- a name has this extension, in upper or lower case
abbrev pub has_extension : List ℕ → List ℕ → Bool
has_extension extension name = option_map_or (is_same_name extension) (path_extension name) false

-- the path of the folder in which a file lies, and nothing where its path names none
abbrev pub parent_of : List ℕ → List ℕ
parent_of path = unwrap_or (path_parent path) []

-- what is listed for it: the current folder where it is nothing
abbrev pub listed_path : List ℕ → List ℕ
listed_path [] = codes "."
listed_path (c ∷ cs) = c ∷ cs

-- the name of a file as it lies among these names: of those that are the same in upper and lower case the first
abbrev pub found_name : List (List ℕ) → List ℕ → Option (List ℕ)
found_name names file = find (is_same_name file) names

-- ---- the files of lots, by the names in their folder and by what stands before these in paths

-- the lines on a file that is missing, as of any that can't be read
abbrev pub missing_line : List ℕ → List ℕ
missing_line path = named_line path (codes "cannot read") ++ reason_line (escaped_name path) (Some NoFile)

-- the line on a file that no lot names
abbrev pub unnamed_line : List ℕ → List ℕ
unnamed_line path = named_line path (codes "not named in the THF file")

-- the path of a file that is there
abbrev pub found_path : List ℕ → List (List ℕ) → List ℕ → Option (List ℕ)
found_path before names file = option_map (λ name. before ++ name) (found_name names file)

-- the lines on the files of a lot that are missing
abbrev pub missing_lines : List ℕ → List (List ℕ) → Lot → List ℕ
missing_lines before names lot =
    flat_map (λ file. missing_line (before ++ file)) (filter (λ file. is_none (found_name names file)) (files_of lot))

-- the classes and the dictionary of a lot, and those of its VEC files that are there
pub record AreLotFiles (before : List ℕ) (names : List (List ℕ)) (lot : Lot) (files : ManyFiles) : Type 0 where
  pub scd : found_path before names (file_name lot.name Scd lot.scd) ≡ Some files.scd.now
  pub dic : found_path before names (file_name lot.name Dic lot.dic) ≡ Some files.dic.now
  pub sheets : map (λ p. p.now) files.sheets.items
      ≡ flat_map (λ own. option_to_list (found_path before names (file_name lot.name Vec own))) lot.vecs

-- the classes or the dictionary of a lot are missing
abbrev pub LacksSchema : List (List ℕ) → Lot → Type 0
LacksSchema names lot =
    (found_name names (file_name lot.name Scd lot.scd) ≡ None)
    ⊎ (found_name names (file_name lot.name Dic lot.dic) ≡ None)

-- the names of all the files of lots, as they lie there
abbrev pub found_names : List (List ℕ) → List Lot → List (List ℕ)
found_names names lots = flat_map (λ lot. flat_map (λ file. option_to_list (found_name names file)) (files_of lot)) lots

-- a VEC file that is there, and that no lot names
abbrev pub is_unnamed : List (List ℕ) → List ℕ → Bool
is_unnamed found name = has_extension (codes "VEC") name && not (list_any (bytes_eq name) found)

-- the lines on these
abbrev pub unnamed_lines : List ℕ → List (List ℕ) → List Lot → List ℕ
unnamed_lines before names lots =
    flat_map (λ name. unnamed_line (before ++ name)) (filter (is_unnamed (found_names names lots)) names)

-- 4 where there are lines on missing files
abbrev pub status_of_missing : List ℕ → ℕ
status_of_missing [] = 0
status_of_missing (c ∷ cs) = 4

-- ---- THF files

-- the words of a refused THF file
abbrev pub refusal_words : DeliveryFault → List ℕ
refusal_words (Line (line.Memory e)) = codes "out of memory"
refusal_words (Line (line.Broken rule at)) = codes "refused thf " ++ decimal rule ++ codes " line " ++ decimal at
refusal_words (Record (record_fault.Memory e)) = codes "out of memory"
refusal_words (Record (record_fault.Broken rule at)) =
    codes "refused thf " ++ decimal rule ++ codes " record " ++ decimal at

abbrev pub status_of_refusal : DeliveryFault → ℕ
status_of_refusal (Line (line.Memory e)) = 5
status_of_refusal (Line (line.Broken rule at)) = 2
status_of_refusal (Record (record_fault.Memory e)) = 5
status_of_refusal (Record (record_fault.Broken rule at)) = 2

-- the THF files among names
abbrev pub thf_names : List (List ℕ) → List (List ℕ)
thf_names names = filter (has_extension (codes "THF")) names

-- what is wrong with a folder that hasn't just one
abbrev pub LacksOneThf : List (List ℕ) → List ℕ → Type 0
LacksOneThf names words =
    ((thf_names names ≡ []) × (words ≡ codes "no THF file"))
    ⊎ ((2 ≤ length (thf_names names)) × (words ≡ codes "more than one THF file"))

-- a path is no folder that can be listed, or stands for standard input
abbrev pub IsNoFolder : Listings → List ℕ → Type 0
IsNoFolder listings path = (is_standard_path path ≡ true) ⊎ listings.unlisted path

-- ---- the delivery of a path

-- a delivery that was opened
pub record Opened : Type 0 where
  -- the path of its THF file
  pub thf : List ℕ
  pub lots : List Lot
  -- the names in the folder of that file, and what stands before these in paths
  pub names : List (List ℕ)
  pub before : List ℕ

-- a path leads to this THF file: it is the path of no folder, and then the file's own, or the file is the only one
-- there
abbrev pub LeadsToThf : Listings → List ℕ → List ℕ → Type 0
LeadsToThf listings path thf =
    (IsNoFolder listings path × (thf ≡ path))
    ⊎ ((names : List (List ℕ)) × (name : List ℕ) × listings.lists path names × (thf_names names ≡ name ∷ [])
    × (thf ≡ with_separator path ++ name))

-- a THF file states the lots of a delivery, and its folder has these names
pub record IsOpened (inputs : Inputs) (listings : Listings) (d : Opened) : Type 0 where
  pub lots : OfWholeInput inputs d.thf (λ b. IsDeliveryOf b d.lots)
  pub names : listings.lists (listed_path (parent_of d.thf)) d.names
  pub before : d.before ≡ with_separator (parent_of d.thf)

-- a path leads to this delivery
abbrev pub Opens : Inputs → Listings → List ℕ → Opened → Type 0
Opens inputs listings path d = LeadsToThf listings path d.thf × IsOpened inputs listings d

-- Why a THF file opens no delivery, as the errors say, and the status: it is refused, or can't be read; or the folder
-- of its lots can't be listed; or memory ran out.
abbrev pub OpensNoLots : Effects → Listings → List ℕ → Stream → ℕ → Type 0
OpensNoLots run listings thf err s =
    ((f : DeliveryFault) × OfWholeInput run.inputs thf (λ b. IsDeliveryRefusal b f)
    × ErrorsSay (named_line thf (refusal_words f)) (status_of_refusal f) err s)
    ⊎ (((e : RunFault) × WholeInputFault run.inputs thf e × TellsFault run.why err e thf s)
    ⊎ (((lots : List Lot) × OfWholeInput run.inputs thf (λ b. IsDeliveryOf b lots)
    × listings.unlisted (listed_path (parent_of thf))
    × TellsFault run.why err (Read 1) (listed_path (parent_of thf)) s)
    ⊎ ((s ≡ 5) × LacksMemory err)))

-- Why a path leads to no delivery, as the errors say, and the status: its folder has no THF file or several, or the THF
-- file opens none; or memory ran out.
abbrev pub OpensNone : Effects → Listings → List ℕ → Stream → ℕ → Type 0
OpensNone run listings path err s =
    ((names : List (List ℕ)) × (words : List ℕ) × listings.lists path names × LacksOneThf names words
    × ErrorsSay (named_line path words) 4 err s)
    ⊎ (((thf : List ℕ) × LeadsToThf listings path thf × OpensNoLots run listings thf err s)
    ⊎ ((s ≡ 5) × LacksMemory err))

-- ---- what is replied

-- in how many VEC files of a lot a record is looked for at which a link of another points: few, so that a lot takes
-- time as it has files
abbrev pub most_siblings : ℕ
most_siblings = 64

abbrev pub siblings_of : ManyFiles → List (List ℕ)
siblings_of files = map (λ p. p.now) (take most_siblings files.sheets.items)

module _ (run : Effects) (kinds : KindCodes) where
  -- to the VEC files of a lot that are there, as by `hash`, with the first of them as siblings; nothing where its
  -- classes or its dictionary are missing
  abbrev pub IsLotHashed : List ℕ → List (List ℕ) → Lot → Reply
  IsLotHashed before names lot out err s =
      ((files : ManyFiles) × AreLotFiles before names lot files
      × IsHashStatus run out err kinds files Words false (siblings_of files) s)
      ⊎ ((LacksSchema names lot × AddsNothing out err s) ⊎ (OnlyLacksMemory out err × (s ≡ 5)))

  -- to a lot: the errors name the files that are missing, and the rest is answered
  abbrev pub IsLotAnswered : List ℕ → List (List ℕ) → Lot → Reply
  IsLotAnswered before names lot =
      OneThenOther (SaysLines (missing_lines before names lot) (status_of_missing (missing_lines before names lot)))
      (IsLotHashed before names lot)

  -- to the lots of a delivery: to each in its order, and then the errors name the VEC files that no lot names
  abbrev pub AreLotsAnswered : List ℕ → List (List ℕ) → List Lot → Reply
  AreLotsAnswered before names lots =
      OneThenOther (EachInTurn (IsLotAnswered before names) lots) (SaysLines (unnamed_lines before names lots) 0)

module _ (run : Effects) (listings : Listings) (kinds : KindCodes) where
  -- to a path: to the lots of the delivery that it leads to; or it leads to none, which the errors say
  abbrev pub IsPathAnswered : List ℕ → Reply
  IsPathAnswered path out err s =
      ((d : Opened) × Opens run.inputs listings path d × AreLotsAnswered run kinds d.before d.names d.lots out err s)
      ⊎ (OpensNone run listings path err s × Prints out [])

  -- to paths, each in its order
  abbrev pub IsDeliveryStatus : List (Bor (List ℕ)) → Reply
  IsDeliveryStatus paths = EachInTurn (λ path. IsPathAnswered path.now) paths
