-- What a line is by its code.
use Prim.Native.String.{String}
use Rattle.std.specs.Prelude.{ℕ, Bool, false, ◌&&◌, ◌||◌, not, List, Some, Ok, bytes_eq, codes}
use Rattle.std.specs.List.{list_any}
use Rattle.edi_line.specs.Spelling.{Reading}

-- the code is this one
abbrev pub code_is : String → List ℕ → Bool
code_is name code = bytes_eq code (codes name)

-- NEX, which goes on with the value of the zone before it, and REM, a remark, are no zones
abbrev pub is_zone : List ℕ → Bool
is_zone code = not (code_is "NEX" code || code_is "REM" code)

-- a line that NEX may go on with
abbrev pub starts : List ℕ → Bool
starts code = not (code_is "NEX" code)

-- a code that a group may hold behind its RTY: none of those of the file's begin, character set, records and end
abbrev pub is_inner : List ℕ → Bool
is_inner code = not (code_is "BOM" code || (code_is "CSE" code || (code_is "RTY" code || code_is "EOM" code)))

-- none of the named codes
abbrev pub is_other : List ℕ → Bool
is_other code = is_zone code && is_inner code

-- the line has a code that passes the test
abbrev pub bears : (List ℕ → Bool) → Reading → Bool
bears test (Ok (Some s)) = test s.code
bears test _ = false

-- some of the lines does
abbrev pub some_bears : (List ℕ → Bool) → List Reading → Bool
some_bears test lines = list_any (bears test) lines
