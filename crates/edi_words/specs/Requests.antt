-- What the words of the command line ask for.
use Rattle.std.specs.Prelude.{◌≡◌, ◌≢◌, ◌⊎◌, ◌<◌, ◌≤◌, ◌+◌, ◌==◌, ◌||◌, ◌&&◌, ℕ, Bool, true, false, if◌then◌else◌, List, [], ◌∷◌, Option, Some, None, codes, is_some, length, map, option_map, unwrap_or, IfSome}
use Rattle.std.specs.List.{list_any, slice_split}
use Rattle.std.specs.Str.{bytes_eq}
use Rattle.std.proofs.Common.{Bor}
use Rattle.clap.specs.Lexer.{usize_max}
use Rattle.clap.specs.Words.{App, IsAmong, Row, Rule, Text, all_of, fault_of, first_of, new_app, new_rule, one_of, subcommand_of, with_rule, with_subcommand}
use Rattle.clap.specs.declared.builder.action.ArgAction.TheVariants.{SetTrue}
use Rattle.clap.specs.declared.error.kind.ErrorKind.{ErrorKind}
use Rattle.clap.specs.declared.error.kind.ErrorKind.TheVariants.{OutOfMemory, DisplayHelp, DisplayVersion}
use Rattle.edi_schema.specs.Roles.{KindCodes, AreKindCodes}
use Rattle.edi_words.specs.declared.words.Request.{Request}
use Rattle.edi_words.specs.declared.words.Request.TheVariants.{Bundle, Sheet, Pair, Many, Delivery, Manifest, CheckManifest, Explain, Rules, Changed, Misused, Answered}
use Rattle.edi_words.specs.declared.words.Request.TheVariants as asks
use Rattle.edi_words.specs.declared.words.SheetRequest.TheVariants.{Check, Canon, Draw}
use Rattle.edi_words.specs.declared.words.ManyRequest.TheVariants.{Hash, CheckList, ExplainAll}
use Rattle.edi_words.specs.declared.words.PairRequest.TheVariants.{Compare, Verify, Diff}
use Rattle.edi_words.specs.declared.words.Misuse.{Misuse}
use Rattle.edi_words.specs.declared.words.Misuse.TheVariants.{BadKinds, TwoStandard, NoSheet, SeveralSheets, NothingHashed, ListAndMore, StandardPairing, StandardPicture, NotOneManifest}
use Rattle.edi_words.specs.declared.words.BadKinds.{BadKinds as BadCodes}
use Rattle.edi_words.specs.declared.words.KindsFault.{KindsFault}
use Rattle.edi_words.specs.declared.words.KindsFault.TheVariants.{Count, Empty, Twice}
use Rattle.edi_words.specs.declared.words.ManyFiles.{ManyFiles}
use Rattle.edi_words.specs.declared.words.PairFiles.{PairFiles}
use Rattle.edi_words.specs.declared.words.SheetFiles.{SheetFiles}

-- an option, which has one value
abbrev pub option_rule : Text → Rule
option_rule id = record (new_rule id) { long = Some id; value_names = 1 }

-- a flag, which has none
abbrev pub flag_rule : Text → Rule
flag_rule id = record (new_rule id) { long = Some id; action = Some SetTrue }

-- a file that has to be named
abbrev pub file_rule : Text → Rule
file_rule id = record (new_rule id) { required = true }

-- files of which at least one has to be named
abbrev pub files_rule : Text → Rule
files_rule id = record (file_rule id) { range = Some (record { start_inclusive = 1; end_inclusive = usize_max }) }

-- files, as many as are named
abbrev pub optional_files_rule : Text → Rule
optional_files_rule id =
    record (new_rule id) { range = Some (record { start_inclusive = 1; end_inclusive = usize_max }) }

-- a subcommand over the files of a schema
abbrev pub schema_command : Text → App
schema_command name =
    with_rule (with_rule (with_rule (new_app name) (option_rule (codes "kinds"))) (file_rule (codes "SCD")))
    (file_rule (codes "DIC"))

-- a subcommand over a sheet and the file that something goes to
abbrev pub output_command : Text → App
output_command name = with_rule (with_rule (schema_command name) (file_rule (codes "VEC"))) (file_rule (codes "OUT"))

-- the subcommands: over a sheet, over a sheet and where its canonical file goes, over two sheets, over many
abbrev pub check_command : App
check_command =
    with_rule (with_rule (schema_command (codes "check")) (file_rule (codes "VEC"))) (flag_rule (codes "json"))

abbrev pub canon_command : App
canon_command = output_command (codes "canon")

abbrev pub compare_command : App
compare_command =
    with_rule (with_rule (with_rule (with_rule (schema_command (codes "compare")) (file_rule (codes "A")))
    (file_rule (codes "B"))) (option_rule (codes "pairing"))) (flag_rule (codes "json"))

abbrev pub hash_command : App
hash_command =
    with_rule (with_rule (with_rule (with_rule (schema_command (codes "hash")) (optional_files_rule (codes "VEC")))
    (flag_rule (codes "schema"))) (option_rule (codes "check"))) (flag_rule (codes "json"))

-- a rule's number, or the first file of a schema, or neither
abbrev pub subject_rule : Rule
subject_rule = record (new_rule (codes "SCD")) { value_names = 1 }

-- the subcommand that lists the rules, or explains a rule or sheets
abbrev pub explain_command : App
explain_command =
    with_rule (with_rule (with_rule (with_rule (with_rule (with_rule (new_app (codes "explain"))
    (option_rule (codes "kinds"))) subject_rule) (new_rule (codes "DIC"))) (optional_files_rule (codes "VEC")))
    (flag_rule (codes "all"))) (flag_rule (codes "json"))

-- the subcommand over two sheets and a pairing's file
abbrev pub verify_command : App
verify_command =
    with_rule (with_rule (with_rule (with_rule (schema_command (codes "verify")) (file_rule (codes "A")))
    (file_rule (codes "B"))) (file_rule (codes "FILE"))) (flag_rule (codes "json"))

-- the subcommand that reports what differs between two sheets
abbrev pub diff_command : App
diff_command =
    with_rule (with_rule (with_rule (with_rule (with_rule (with_rule (with_rule (schema_command (codes "diff"))
    (file_rule (codes "A"))) (file_rule (codes "B"))) (flag_rule (codes "brief"))) (flag_rule (codes "records")))
    (flag_rule (codes "json"))) (option_rule (codes "name-by"))) (option_rule (codes "picture"))

-- the subcommand over a sheet and where its picture goes
abbrev pub draw_command : App
draw_command = output_command (codes "draw")

-- the subcommand over deliveries
abbrev pub delivery_command : App
delivery_command =
    with_rule (with_rule (with_rule (with_rule (new_app (codes "delivery")) (option_rule (codes "kinds")))
    (files_rule (codes "PATH"))) (option_rule (codes "manifest"))) (option_rule (codes "check"))

-- the subcommand over two lists of digests
abbrev pub changed_command : App
changed_command =
    with_rule (with_rule (new_app (codes "changed")) (file_rule (codes "BEFORE"))) (file_rule (codes "AFTER"))

-- a command that says its version
abbrev pub versioned : App → App
versioned a = record a { top = record a.top { has_version = true } }

abbrev pub edicad : App
edicad =
    with_subcommand (with_subcommand (with_subcommand (with_subcommand (with_subcommand
    (with_subcommand (with_subcommand (with_subcommand (with_subcommand (with_subcommand
    (versioned (new_app (codes "edicad")))
    check_command.top) canon_command.top) compare_command.top) hash_command.top) explain_command.top)
    verify_command.top) diff_command.top) draw_command.top) delivery_command.top) changed_command.top

-- IND, FND, LPO and RPO
abbrev pub usual_kinds : KindCodes
usual_kinds = record { initial = codes "IND"; final_node = codes "FND"; left = codes "LPO"; right = codes "RPO" }

-- the byte that parts the codes, `,`
abbrev pub comma : ℕ
comma = 44

-- the codes in a text, which commas part
abbrev pub codes_in : List ℕ → List (List ℕ)
codes_in text = slice_split (λ x. x == comma) text

-- the four codes, parted by commas
abbrev pub AreKindsIn : List ℕ → KindCodes → Type 0
AreKindsIn text k =
    (codes_in text ≡ k.initial ∷ k.final_node ∷ k.left ∷ k.right ∷ []) × AreKindCodes k

-- the codes of the option, and the usual ones where it isn't given
abbrev pub AreKindsOf : Option (List ℕ) → KindCodes → Type 0
AreKindsOf (Some text) k = AreKindsIn text k
AreKindsOf None k = k ≡ usual_kinds

-- the first value of an argument, or no text
abbrev pub value_at : Text → List Row → List ℕ
value_at id rows = unwrap_or (first_of id rows) []

-- the values of an argument
abbrev pub values_at : Text → List Row → List (List ℕ)
values_at id rows = unwrap_or (all_of id rows) []

-- the value of a flag with this text, which is true where it is given, and false where it isn't
abbrev pub IsFlag : Option Text → Bool → Type 0
IsFlag text value =
    (text ≡ None → value ≡ false) × (text ≡ Some (codes "true") → value ≡ true)
    × (text ≡ Some (codes "false") → value ≡ false)

-- the arguments give these codes
abbrev pub GiveKinds : List Row → KindCodes → Type 0
GiveKinds rows k = AreKindsOf (first_of (codes "kinds") rows) k

-- the arguments name the files of a sheet
pub record AreSheetFiles (rows : List Row) (files : SheetFiles) : Type 0 where
  pub scd : files.scd.now ≡ value_at (codes "SCD") rows
  pub dic : files.dic.now ≡ value_at (codes "DIC") rows
  pub vec : files.vec.now ≡ value_at (codes "VEC") rows

-- the arguments name the files of two sheets
pub record ArePairFiles (rows : List Row) (files : PairFiles) : Type 0 where
  pub scd : files.scd.now ≡ value_at (codes "SCD") rows
  pub dic : files.dic.now ≡ value_at (codes "DIC") rows
  pub first : files.first.now ≡ value_at (codes "A") rows
  pub second : files.second.now ≡ value_at (codes "B") rows

-- the arguments name the files of a schema and of sheets
pub record AreManyFiles (rows : List Row) (files : ManyFiles) : Type 0 where
  pub scd : files.scd.now ≡ value_at (codes "SCD") rows
  pub dic : files.dic.now ≡ value_at (codes "DIC") rows
  pub sheets : map (λ p. p.now) files.sheets.items ≡ values_at (codes "VEC") rows

-- the first code that is there once more behind it
abbrev pub first_twice : List (List ℕ) → Option (List ℕ)
first_twice [] = None
first_twice (code ∷ codes) = if list_any (bytes_eq code) codes then Some code else first_twice codes

-- What is wrong with codes: they are not four; they are four, and one is empty; they are four and none is empty, and
-- this is the first that is there twice.
abbrev pub IsKindsFault : List (List ℕ) → KindsFault → Type 0
IsKindsFault given Count = length given ≢ 4
IsKindsFault given Empty = (length given ≡ 4) × (list_any (λ code. length code == 0) given ≡ true)
IsKindsFault given (Twice code) =
    (length given ≡ 4) × (list_any (λ code. length code == 0) given ≡ false) × (first_twice given ≡ Some code.now)

-- this is given as the codes, and that is wrong with it
abbrev pub AreBadKinds : Option (List ℕ) → BadCodes → Type 0
AreBadKinds text bad = (text ≡ Some bad.given.now) × IsKindsFault (codes_in bad.given.now) bad.fault

-- the arguments name no good codes
abbrev pub HasBadKinds : List Row → Type 0
HasBadKinds rows = (k : KindCodes) → ¬ GiveKinds rows k

-- whether a path stands for a standard stream
abbrev pub is_standard_path : List ℕ → Bool
is_standard_path path = bytes_eq path (codes "-")

-- how many of the paths stand for standard input
abbrev pub standard_in : List (List ℕ) → ℕ
standard_in [] = 0
standard_in (path ∷ paths) = (if is_standard_path path then 1 else 0) + standard_in paths

-- how many of the inputs are standard input
abbrev pub standard_at : Text → List Row → ℕ
standard_at id rows = standard_in (values_at id rows)

abbrev pub standard_count : List Row → ℕ
standard_count rows =
    standard_at (codes "SCD") rows + standard_at (codes "DIC") rows + standard_at (codes "VEC") rows
    + standard_at (codes "A") rows + standard_at (codes "B") rows
    + standard_at (codes "FILE") rows + standard_at (codes "PATH") rows
    + standard_at (codes "BEFORE") rows + standard_at (codes "AFTER") rows + standard_at (codes "check") rows

-- an argument is given
abbrev pub is_given : Text → List Row → Bool
is_given id rows = is_some (first_of id rows)

-- the file of an option is standard output
abbrev pub is_option_standard : Text → List Row → Bool
is_option_standard id rows = is_standard_path (value_at id rows)

-- the arguments of `hash` ask for digests: of the schema, or of a sheet
abbrev pub AsksForDigests : List Row → Type 0
AsksForDigests rows = (with_schema : Bool) × IsFlag (one_of (codes "schema") rows) with_schema
    × ((with_schema || is_given (codes "VEC") rows) ≡ true)

-- The arguments of a subcommand make no sense: the codes are no codes, standard input is to be read twice, explain is
-- given two files of three, or no sheet of which all is to be said, or several and not all is to be said, hash is given
-- no sheet and no list and isn't asked for the digest of the schema, or it has a list and one of these or is asked for
-- JSON, the pairing of a comparison or the picture of a difference is to go to standard output, or delivery is to make
-- and to check a manifest, or is to do one of these for several paths.
abbrev pub IsMisuse : Text → List Row → Misuse → Type 0
IsMisuse name rows (BadKinds bad) = HasBadKinds rows × AreBadKinds (first_of (codes "kinds") rows) bad
IsMisuse name rows TwoStandard = 1 < standard_count rows
IsMisuse name rows NoSheet = (name ≡ codes "explain")
    × (((is_given (codes "DIC") rows ≡ true) × (is_given (codes "VEC") rows ≡ false))
    ⊎ (IsFlag (one_of (codes "all") rows) true
    × ((is_given (codes "DIC") rows && is_given (codes "VEC") rows) ≡ false)))
IsMisuse name rows SeveralSheets = (name ≡ codes "explain") × IsFlag (one_of (codes "all") rows) false
    × (length (values_at (codes "VEC") rows) ≢ 1) × (is_given (codes "VEC") rows ≡ true)
IsMisuse name rows NothingHashed =
    (name ≡ codes "hash") × IsFlag (one_of (codes "schema") rows) false × (is_given (codes "VEC") rows ≡ false)
    × (is_given (codes "check") rows ≡ false)
IsMisuse name rows ListAndMore =
    (name ≡ codes "hash") × (is_given (codes "check") rows ≡ true)
    × (IsFlag (one_of (codes "json") rows) true ⊎ AsksForDigests rows)
IsMisuse name rows StandardPairing = (name ≡ codes "compare") × (is_option_standard (codes "pairing") rows ≡ true)
IsMisuse name rows StandardPicture = (name ≡ codes "diff") × (is_option_standard (codes "picture") rows ≡ true)
IsMisuse name rows NotOneManifest = (name ≡ codes "delivery")
    × (((is_given (codes "manifest") rows ≡ true) × (is_given (codes "check") rows ≡ true))
    ⊎ (((is_given (codes "manifest") rows || is_given (codes "check") rows) ≡ true)
    × (length (values_at (codes "PATH") rows) ≢ 1)))

-- what is said of it
abbrev pub misuse_text : Misuse → List ℕ
misuse_text (BadKinds bad) = codes "bad kinds"
misuse_text TwoStandard = codes "only one input can be -"
misuse_text NoSheet = codes "explain takes RULE, or SCD, DIC and VEC"
misuse_text SeveralSheets = codes "explain takes one VEC, or several with --all"
misuse_text NothingHashed = codes "hash takes SCD, DIC and a VEC, or --schema"
misuse_text ListAndMore = codes "hash --check LIST takes SCD and DIC alone"
misuse_text StandardPairing = codes "--pairing takes a file, and not -"
misuse_text StandardPicture = codes "--picture takes a file, and not -"
misuse_text NotOneManifest = codes "delivery takes one PATH with --manifest or --check, and not both"

-- the file that an option names, if it is given, and which isn't standard output
abbrev pub IsOptionFile : Text → List Row → Option (Bor (List ℕ)) → Type 0
IsOptionFile id rows file =
    (option_map (λ (p : Bor (List ℕ)). p.now) file ≡ first_of id rows) × (is_option_standard id rows ≡ false)

-- what the subcommand and its arguments ask for, or lack of memory for the paths of `hash`, `delivery` or `explain`,
-- whose status is 5
abbrev pub Means : Option (Text × List Row) → Request → Type 0
Means met Bundle = met ≡ None
Means met (Sheet kinds files (Check json)) =
    (rows : List Row) × (met ≡ Some (codes "check", rows)) × GiveKinds rows kinds × AreSheetFiles rows files
    × IsFlag (one_of (codes "json") rows) json
Means met (Sheet kinds files (Canon out)) =
    (rows : List Row) × (met ≡ Some (codes "canon", rows)) × GiveKinds rows kinds × AreSheetFiles rows files
    × (out.now ≡ value_at (codes "OUT") rows)
Means met (Pair kinds files (Compare pairing json)) =
    (rows : List Row) × (met ≡ Some (codes "compare", rows)) × GiveKinds rows kinds × ArePairFiles rows files
    × IsOptionFile (codes "pairing") rows pairing × IsFlag (one_of (codes "json") rows) json
Means met (Many kinds files (Hash with_schema json)) =
    (rows : List Row) × (met ≡ Some (codes "hash", rows)) × GiveKinds rows kinds × AreManyFiles rows files
    × IsFlag (one_of (codes "schema") rows) with_schema × ((with_schema || is_given (codes "VEC") rows) ≡ true)
    × (is_given (codes "check") rows ≡ false) × IsFlag (one_of (codes "json") rows) json
Means met (Many kinds files (CheckList list)) =
    (rows : List Row) × (met ≡ Some (codes "hash", rows)) × GiveKinds rows kinds × AreManyFiles rows files
    × (first_of (codes "check") rows ≡ Some list.now) × IsFlag (one_of (codes "schema") rows) false
    × (is_given (codes "VEC") rows ≡ false) × IsFlag (one_of (codes "json") rows) false
Means met (Delivery kinds paths) = (rows : List Row) × (met ≡ Some (codes "delivery", rows)) × GiveKinds rows kinds
    × (map (λ p. p.now) paths.items ≡ values_at (codes "PATH") rows)
    × (is_given (codes "manifest") rows ≡ false) × (is_given (codes "check") rows ≡ false)
Means met (Manifest kinds path file) = (rows : List Row) × (met ≡ Some (codes "delivery", rows)) × GiveKinds rows kinds
    × (values_at (codes "PATH") rows ≡ path.now ∷ []) × (first_of (codes "manifest") rows ≡ Some file.now)
    × (is_given (codes "check") rows ≡ false)
Means met (CheckManifest kinds path manifest) =
    (rows : List Row) × (met ≡ Some (codes "delivery", rows)) × GiveKinds rows kinds
    × (values_at (codes "PATH") rows ≡ path.now ∷ []) × (first_of (codes "check") rows ≡ Some manifest.now)
    × (is_given (codes "manifest") rows ≡ false)
Means met (Explain kinds files json) =
    (rows : List Row) × (met ≡ Some (codes "explain", rows)) × GiveKinds rows kinds × AreSheetFiles rows files
    × (is_given (codes "DIC") rows ≡ true) × (length (values_at (codes "VEC") rows) ≡ 1)
    × IsFlag (one_of (codes "all") rows) false × IsFlag (one_of (codes "json") rows) json
Means met (Many kinds files (ExplainAll json)) =
    (rows : List Row) × (met ≡ Some (codes "explain", rows)) × GiveKinds rows kinds × AreManyFiles rows files
    × (is_given (codes "DIC") rows ≡ true) × (is_given (codes "VEC") rows ≡ true)
    × IsFlag (one_of (codes "all") rows) true × IsFlag (one_of (codes "json") rows) json
Means met (asks.Rule word json) =
    (rows : List Row) × (met ≡ Some (codes "explain", rows)) × (word.now ≡ value_at (codes "SCD") rows)
    × (is_given (codes "SCD") rows ≡ true) × (is_given (codes "DIC") rows ≡ false)
    × IsFlag (one_of (codes "all") rows) false × IsFlag (one_of (codes "json") rows) json
Means met (Rules json) =
    (rows : List Row) × (met ≡ Some (codes "explain", rows)) × (is_given (codes "SCD") rows ≡ false)
    × IsFlag (one_of (codes "all") rows) false × IsFlag (one_of (codes "json") rows) json
Means met (Pair kinds files (Verify pairing json)) =
    (rows : List Row) × (met ≡ Some (codes "verify", rows)) × GiveKinds rows kinds × ArePairFiles rows files
    × (pairing.now ≡ value_at (codes "FILE") rows) × IsFlag (one_of (codes "json") rows) json
Means met (Pair kinds files (Diff brief records json named_by picture)) =
    (rows : List Row) × (met ≡ Some (codes "diff", rows)) × GiveKinds rows kinds × ArePairFiles rows files
    × IsFlag (one_of (codes "brief") rows) brief × IsFlag (one_of (codes "records") rows) records
    × IsFlag (one_of (codes "json") rows) json
    × (option_map (λ (text : Bor (List ℕ)). text.now) named_by ≡ first_of (codes "name-by") rows)
    × IsOptionFile (codes "picture") rows picture
Means met (Sheet kinds files (Draw out)) =
    (rows : List Row) × (met ≡ Some (codes "draw", rows)) × GiveKinds rows kinds × AreSheetFiles rows files
    × (out.now ≡ value_at (codes "OUT") rows)
Means met (Changed before after) =
    (rows : List Row) × (met ≡ Some (codes "changed", rows)) × (before.now ≡ value_at (codes "BEFORE") rows)
    × (after.now ≡ value_at (codes "AFTER") rows)
Means met (Misused misuse) = (name : Text) × (rows : List Row) × (met ≡ Some (name, rows)) × IsMisuse name rows misuse
Means met (Answered status) =
    (rows : List Row) × ((met ≡ Some (codes "hash", rows)) ⊎ ((met ≡ Some (codes "delivery", rows))
    ⊎ (met ≡ Some (codes "explain", rows)))) × (status ≡ 5)

-- whether arguments in good form make no sense
abbrev pub is_misused : Request → Bool
is_misused (Misused misuse) = true
is_misused _ = false

-- at most one of the inputs is standard input, if the words can be meant
abbrev pub ReadsInputOnce : Option (Text × List Row) → Request → Type 0
ReadsInputOnce met request = is_misused request ≡ false → IfSome met (λ p. standard_count p.1 ≤ 1)

-- 5 without memory, 0 where help was asked for, and else 3
abbrev pub status_of_kind : ErrorKind → ℕ
status_of_kind OutOfMemory = 5
status_of_kind DisplayHelp = 0
status_of_kind DisplayVersion = 0
status_of_kind _ = 3

-- the status of words that are not taken: memory ran out, or they have a fault of this status
abbrev pub IsRefused : List Text → Request → Type 0
IsRefused words (Answered status) =
    (status ≡ 5) ⊎ ((k : ErrorKind) × IsAmong k (fault_of edicad words) × (status ≡ status_of_kind k))
IsRefused words _ = ⊥

-- what the words ask for: they have no fault, mean it and read standard input once at most, or they are refused
abbrev pub IsAsked : List Text → Request → Type 0
IsAsked words request =
    ((fault_of edicad words ≡ []) × Means (subcommand_of edicad words) request
    × ReadsInputOnce (subcommand_of edicad words) request) ⊎ IsRefused words request
