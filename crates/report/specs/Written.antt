-- What a writer leaves in a slice, and what it answers.
use Rattle.std.specs.Prelude.{ℕ, cond, List, ◌++◌, length, drop, Some, None, Option, nat_le}

-- bytes in the front of a slice; the rest of it stays
abbrev pub written : List ℕ → List ℕ → List ℕ
written bytes out = bytes ++ drop (length bytes) out

-- how many bytes are written, if there is room for them
abbrev pub room : List ℕ → List ℕ → Option ℕ
room bytes out = cond (nat_le (length bytes) (length out)) (Some (length bytes)) None

-- bytes in the front of a slice, if there is room for them; nothing is written otherwise
abbrev pub written_if : List ℕ → List ℕ → List ℕ
written_if bytes out = cond (nat_le (length bytes) (length out)) (written bytes out) out
