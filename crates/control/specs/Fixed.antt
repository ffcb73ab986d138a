-- The fixed law: the same command at every state, in one region.
use Rattle.std.specs.Prelude.{ℕ, Bool, ◌&&◌, List, [], ◌∷◌, map, length, replicate, ℤ, pos, negsuc, neg_ℤ}
use Rattle.arith.specs.Bounds.{all_within}
use Rattle.control.specs.declared.lines.Line.{Line}
use Rattle.control.specs.Meaning.{Row}
use Rattle.control.specs.Limits.{sizes_ok, setting_limit}
use Rattle.control.specs.Lines.{line, stacked}

-- u ≤ L and −u ≤ −L
abbrev pub fixed_lines : ℤ → List Line
fixed_lines u = line (pos 0) (pos 1) u ∷ line (pos 0) (negsuc 0) (neg_ℤ u) ∷ []

abbrev pub fixed_rows : ℕ → List ℤ → List Row
fixed_rows n us = stacked (λ _. replicate n (pos 0)) (length us) 0 (map fixed_lines us)

abbrev pub fixed_partition : ℕ → List ℤ → List (List Row)
fixed_partition n us = fixed_rows n us ∷ []

-- the laws that can be made
abbrev pub fixed_ok : ℕ → List ℤ → Bool
fixed_ok n us = sizes_ok n (length us) && all_within setting_limit us
