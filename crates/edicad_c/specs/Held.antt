-- What handles hold.
use Rattle.std.specs.Prelude.{◌≡◌, ◌⊎◌, ℕ, List, [], Option, Some, None, option_map}
use Rattle.std.specs.Global.{Box}
use Rattle.edi_schema.specs.Classes.{Classes}
use Rattle.edicad_c.specs.declared.answer.Answer.{Answer}
use Rattle.edicad_c.specs.declared.content.Content.{Content}
use Rattle.edicad_c.specs.declared.content.Content.TheVariants.{Schema, Bytes, Pairs}
use Rattle.edicad_c.specs.declared.given.Given.{Given}
use Rattle.edicad_c.specs.declared.pair.Pair.{Pair}
use Rattle.edicad_c.specs.Answers.{no_memory, wrong_call}

abbrev pub schema_of : Content → Option Classes
schema_of (Schema s) = Some s
schema_of (Bytes v) = None
schema_of (Pairs v) = None

abbrev pub bytes_of : Content → List ℕ
bytes_of (Schema s) = []
bytes_of (Bytes v) = v.items
bytes_of (Pairs v) = []

abbrev pub pair_list_of : Content → List Pair
pair_list_of (Schema s) = []
pair_list_of (Bytes v) = []
pair_list_of (Pairs v) = v.items

-- the bytes that a handle holds, or its pairs; of one that holds none, no bytes and no pairs
abbrev pub held_bytes : Option Content → List ℕ
held_bytes None = []
held_bytes (Some content) = bytes_of content

abbrev pub held_pairs : Option Content → List Pair
held_pairs None = []
held_pairs (Some content) = pair_list_of content

-- the handle holds this schema
abbrev pub HoldsSchema : Option Content → Classes → Type 0
HoldsSchema held s = held ≡ Some (Schema s)

-- the handle holds these bytes, or these pairs
abbrev pub HoldsBytes : Option Content → List ℕ → Type 0
HoldsBytes (Some (Bytes v)) bytes = v.items ≡ bytes
HoldsBytes (Some (Schema s)) bytes = ⊥
HoldsBytes (Some (Pairs v)) bytes = ⊥
HoldsBytes None bytes = ⊥

abbrev pub HoldsPairs : Option Content → List Pair → Type 0
HoldsPairs (Some (Pairs v)) pairs = v.items ≡ pairs
HoldsPairs (Some (Schema s)) pairs = ⊥
HoldsPairs (Some (Bytes v)) pairs = ⊥
HoldsPairs None pairs = ⊥

-- a fact of the schema that the handle holds, or another where it holds none
abbrev pub MatchSchema : Option Content → (Classes → Type 0) → Type 0 → Type 0
MatchSchema (Some (Schema s)) P Q = P s
MatchSchema (Some (Bytes v)) P Q = Q
MatchSchema (Some (Pairs v)) P Q = Q
MatchSchema None P Q = Q

-- the call was wrong, and the handle for what it gives is empty
abbrev pub IsWrongCall : Option Content → Answer → Type 0
IsWrongCall held answer = (held ≡ None) × (answer ≡ wrong_call)

-- the bytes with this answer; or none, since memory ran out
abbrev pub IsGiven : Answer → List ℕ → Option Content → Answer → Type 0
IsGiven answer bytes held given = (HoldsBytes held bytes × (given ≡ answer)) ⊎ ((held ≡ None) × (given ≡ no_memory))

-- what is in a box, if there is one
abbrev pub in_box : Option (Box Content) → Option Content
in_box boxed = option_map (λ content. content.value) boxed

-- the handle for what is given holds the content of something that is given of the schema that the other holds, and the
-- answer is its own; or the call was wrong
pub record IsGivenUnder (Gives : Classes → Given → Type 0) (held out : Option Content) (answer : Answer) : Type 0 where
  pub under : MatchSchema held
      (λ s. (given : Given) × Gives s given × (out ≡ in_box given.content) × (answer ≡ given.answer))
      (IsWrongCall out answer)

-- the answer is one on the schema that the handle holds; or the call was wrong
pub record IsAnsweredUnder (Gives : Classes → Answer → Type 0) (held : Option Content) (answer : Answer) : Type 0 where
  pub under : MatchSchema held (λ s. Gives s answer) (answer ≡ wrong_call)
