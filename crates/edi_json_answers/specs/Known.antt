-- Known texts.
use Rattle.std.specs.Prelude.{ℕ, List, ◌++◌, codes}

-- the line of an answer that goes on so
abbrev pub answer_line : List ℕ → List ℕ
answer_line told = codes "{\"version\":1,\"what\":\"answer\",\"answer\":" ++ told ++ codes "}\n"

-- the line of a refusal that goes on so
abbrev pub refusal_line : List ℕ → List ℕ
refusal_line told = answer_line (codes "\"refused\",\"file\":" ++ told)

-- what the line of a digest begins with
abbrev pub digest_start : List ℕ
digest_start = codes "{\"version\":1,\"what\":\"digest\",\"of\":"

-- the line of the refusal of a sheet that goes on so
abbrev pub sheet_refusal_line : List ℕ → List ℕ
sheet_refusal_line told =
    codes "{\"version\":1,\"what\":\"refusal\",\"name\":\"bad.vec\"," ++ told ++ codes "}\n"

-- the line of words that goes on so
abbrev pub words_line : List ℕ → List ℕ
words_line told = codes "{\"version\":1,\"what\":\"words\",\"words\":" ++ told ++ codes "}\n"

-- the line of a rule that a sheet breaks, that goes on so
abbrev pub broken_line : List ℕ → List ℕ
broken_line told = codes "{\"version\":1,\"what\":\"broken\",\"name\":" ++ told ++ codes "}\n"
