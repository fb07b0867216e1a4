-- The note that a command hands on, with its status.
use Rattle.std.proofs.Common.{◌≡◌, ℕ, List, [], inl, inr, ◌∙◌}
use Rattle.edi_schema.specs.Roles.{KindCodes}
use Rattle.edi_words.specs.declared.words.Request.{Request}
use Rattle.edi_words.specs.declared.words.Request.TheVariants.{Bundle, Sheet, Pair, Many, Delivery, Manifest, CheckManifest, Explain, Rule, Rules, Changed, Misused, Answered}
use Rattle.edi_answers.specs.Effects.{Inputs}
use Rattle.edi_answers.specs.Notes.{HasNoteOf, IsNoteOf, IsNotedAs}
use Rattle.edicad.specs.inner.Notes.{LeavesNoteOf}

-- a place that was empty has the note, or is empty
noted : (inputs : Inputs) (kinds : KindCodes) (path old new : List ℕ) (s : ℕ) → old ≡ [] → HasNoteOf inputs kinds path s old new → IsNotedAs inputs kinds path s new
noted inputs kinds path old new s none (inl given) = inl given
noted inputs kinds path old new s none (inr h) = inr (h.0, h.1 ∙ none)

pub note_left : (inputs : Inputs) (request : Request) (s : ℕ) (old new : List ℕ) → old ≡ [] → LeavesNoteOf inputs request s old new → IsNoteOf inputs request s new
note_left inputs Bundle s old new none h = h ∙ none
note_left inputs (Sheet kinds files what) s old new none h = noted inputs kinds files.scd.now old new s none h
note_left inputs (Pair kinds files what) s old new none h = noted inputs kinds files.scd.now old new s none h
note_left inputs (Many kinds files what) s old new none h = h ∙ none
note_left inputs (Delivery kinds paths) s old new none h = h ∙ none
note_left inputs (Manifest kinds path file) s old new none h = h ∙ none
note_left inputs (CheckManifest kinds path manifest) s old new none h = h ∙ none
note_left inputs (Explain kinds files json) s old new none h = h ∙ none
note_left inputs (Rule word json) s old new none h = h ∙ none
note_left inputs (Rules json) s old new none h = h ∙ none
note_left inputs (Changed before after) s old new none h = h ∙ none
note_left inputs (Misused misuse) s old new none h = h ∙ none
note_left inputs (Answered given) s old new none h = h ∙ none
