-- What each request is answered by.
use Rattle.std.specs.Prelude.{◌≡◌, ◌⊎◌, ℕ, List, [], IsTrue, MatchOption}
use Rattle.std.specs.Bool.{MatchBool}
use Rattle.edi_changes.specs.Checks.{IsHeldStatus}
use Rattle.edi_changes.specs.Statuses.{IsChangedStatus}
use Rattle.edi_deliveries.specs.Checks.{IsCheckStatus}
use Rattle.edi_deliveries.specs.Deliveries.{IsDeliveryStatus, Listings}
use Rattle.edi_deliveries.specs.Manifests.{IsManifestStatus}
use Rattle.edi_answers.specs.Census.{IsCensusStatus}
use Rattle.edi_answers.specs.Explains.{IsExplainStatus, IsRuleListStatus, IsRuleStatus}
use Rattle.edi_answers.specs.Hashes.{IsHashStatus}
use Rattle.edi_files.specs.declared.product.Product.{Product}
use Rattle.edi_files.specs.declared.product.Product.TheVariants.{Canonical, Picture}
use Rattle.edi_words.specs.Requests.{IsAsked, is_standard_path}
use Rattle.edi_words.specs.declared.words.Misuse.{Misuse}
use Rattle.edi_answers.specs.Effects.{Effects, Stream}
use Rattle.edi_answers.specs.Misuses.{misuse_lines, not_text_lines, shows_words}
use Rattle.edi_answers.specs.Notes.{InTurn, IsNoteOf, WritesNoteIfAny}
use Rattle.edi_answers.specs.Statuses.{IsBundleStatus, IsCompareStatus, IsFileStatus, IsPairingStatus, IsVerifyStatus, Complains, LacksMemory, Prints, Warns}
use Rattle.edicad.specs.Forms.{answer_form_asked, form_asked}
use Rattle.edicad.specs.Statuses.{IsDiffStatus, IsPictureStatus, IsPutStatus, IsSendStatus}
use Rattle.edi_schema.specs.Roles.{KindCodes}
use Rattle.edi_words.specs.declared.words.ManyFiles.{ManyFiles}
use Rattle.edi_words.specs.declared.words.ManyRequest.{ManyRequest}
use Rattle.edi_words.specs.declared.words.ManyRequest.TheVariants.{Hash, CheckList, ExplainAll}
use Rattle.edi_words.specs.declared.words.PairFiles.{PairFiles}
use Rattle.edi_words.specs.declared.words.PairRequest.{PairRequest}
use Rattle.edi_words.specs.declared.words.PairRequest.TheVariants.{Compare, Verify, Diff}
use Rattle.edi_words.specs.declared.words.SheetFiles.{SheetFiles}
use Rattle.edi_words.specs.declared.words.SheetRequest.{SheetRequest}
use Rattle.edi_words.specs.declared.words.SheetRequest.TheVariants.{Check, Canon, Draw}
use Rattle.edi_words.specs.declared.words.Request.{Request}
use Rattle.edi_words.specs.declared.words.Request.TheVariants.{Bundle, Sheet, Pair, Many, Delivery, Manifest, CheckManifest, Explain, Rule, Rules, Changed, Misused, Answered}

-- The status of what is made of a sheet, which is sent to the output or put at a path.
abbrev pub IsMadeStatus : Effects → Stream → Stream → Product → KindCodes → SheetFiles → List ℕ → ℕ → Type 0
IsMadeStatus run out err product kinds files path s =
    MatchBool (is_standard_path path) (run.untouched × IsSendStatus run out err product kinds files s)
    (IsPutStatus run out err product kinds files path s)

-- The status of arguments that make no sense: 3, and the stream of errors says why; or 5, where there was no memory to
-- show what was given.
abbrev pub IsMisusedStatus : Stream → Stream → Misuse → ℕ → Type 0
IsMisusedStatus out err misuse s =
    ((s ≡ 3) × Complains out err (misuse_lines misuse))
    ⊎ ((s ≡ 5) × IsTrue (shows_words misuse) × Prints out [] × LacksMemory err)

-- The status of what was asked of one sheet. Where no OUT is named, nothing in the folder has changed.
abbrev pub IsSheetReplied : Effects → Stream → Stream → KindCodes → SheetFiles → SheetRequest → ℕ → Type 0
IsSheetReplied run out err kinds files (Check json) s =
    run.untouched × IsFileStatus run out err kinds files (answer_form_asked json) s
IsSheetReplied run out err kinds files (Canon path) s = IsMadeStatus run out err Canonical kinds files path.now s
IsSheetReplied run out err kinds files (Draw path) s = IsMadeStatus run out err Picture kinds files path.now s

-- the status of what was asked of many sheets
abbrev pub IsManyReplied : Effects → Stream → Stream → KindCodes → ManyFiles → ManyRequest → ℕ → Type 0
IsManyReplied run out err kinds files (Hash with_schema json) s =
    IsHashStatus run out err kinds files (answer_form_asked json) with_schema [] s
IsManyReplied run out err kinds files (CheckList list) s = IsHeldStatus run out err kinds files list.now s
IsManyReplied run out err kinds files (ExplainAll json) s =
    IsCensusStatus run out err kinds files (answer_form_asked json) s

-- The status of what was asked of two sheets. Where no FILE is named to which something goes, nothing in the folder has
-- changed.
abbrev pub IsPairReplied : Effects → Stream → Stream → KindCodes → PairFiles → PairRequest → ℕ → Type 0
IsPairReplied run out err kinds files (Compare pairing json) s =
    MatchOption pairing (run.untouched × IsCompareStatus run out err kinds files (answer_form_asked json) s)
    (λ path. IsPairingStatus run out err kinds files (answer_form_asked json) path.now s)
IsPairReplied run out err kinds files (Verify pairing json) s =
    run.untouched × IsVerifyStatus run out err kinds files (answer_form_asked json) pairing.now s
IsPairReplied run out err kinds files (Diff brief records json named_by picture) s =
    MatchOption picture
    (run.untouched × IsDiffStatus run out err kinds files (form_asked brief records json named_by) s)
    (λ path. IsPictureStatus run out err kinds files (form_asked brief records json named_by) path.now s)

-- The status of what was asked for but for the note on kinds, over what was found in the folder and left there, and
-- what the two streams have before and after. Where no OUT or FILE is named, nothing in the folder has changed.
abbrev pub IsReplied : Effects → Listings → Stream → Stream → Request → ℕ → Type 0
IsReplied run listings out err Bundle s = run.untouched × IsBundleStatus run out err s
IsReplied run listings out err (Sheet kinds files what) s = IsSheetReplied run out err kinds files what s
IsReplied run listings out err (Pair kinds files what) s = IsPairReplied run out err kinds files what s
IsReplied run listings out err (Many kinds files what) s =
    run.untouched × IsManyReplied run out err kinds files what s
IsReplied run listings out err (Delivery kinds paths) s =
    run.untouched × IsDeliveryStatus run listings kinds paths.items out err s
IsReplied run listings out err (Manifest kinds path file) s =
    IsManifestStatus run listings kinds path.now file.now out err s
IsReplied run listings out err (CheckManifest kinds path manifest) s = run.untouched
    × IsCheckStatus run listings kinds manifest.now path.now out err s
IsReplied run listings out err (Explain kinds files json) s =
    run.untouched × IsExplainStatus run out err kinds files (answer_form_asked json) s
IsReplied run listings out err (Rule word json) s =
    run.untouched × IsRuleStatus out err (answer_form_asked json) word.now s
IsReplied run listings out err (Rules json) s =
    run.untouched × IsRuleListStatus out err (answer_form_asked json) s
IsReplied run listings out err (Changed before after) s =
    run.untouched × IsChangedStatus run out err before.now after.now s
IsReplied run listings out err (Misused misuse) s = run.untouched × IsMisusedStatus out err misuse s
IsReplied run listings out err (Answered status) s = run.untouched × (s ≡ status) × Prints out [] × Prints err []

-- The status of what was asked for: it was replied, and then the stream of errors got the note on the kinds that no
-- class has, if there is one.
abbrev pub IsAnswered : Effects → Listings → Stream → Stream → Request → ℕ → Type 0
IsAnswered run listings out err request s = (note : List ℕ) × IsNoteOf run.inputs request s note
    × InTurn err (λ e. IsReplied run listings out e request s) (λ e. WritesNoteIfAny e note)

-- the words could not be had: not all are UTF-8, or memory ran out
abbrev pub IsUnread : Effects → Stream → Stream → ℕ → Type 0
IsUnread run out err s = run.untouched × Prints out []
    × (((s ≡ 3) × Warns err not_text_lines) ⊎ ((s ≡ 5) × LacksMemory err))

-- the words ask for something, and this is its answer
abbrev pub AnswersWords : Effects → Listings → Stream → Stream → List (List ℕ) → ℕ → Type 0
AnswersWords run listings out err words s =
    (request : Request) × IsAsked words request × IsAnswered run listings out err request s
