-- The faces of a case, as rows over the state.
use Rattle.std.specs.Prelude.{◌≡◌, ℕ, suc, List, [], ◌∷◌, ◌++◌, map, length, replicate, ℤ, pos, negsuc, neg_ℤ, slice_set}
use Rattle.std.specs.List.{AllByRecursion}
use Rattle.control.specs.Cover.{Holds}
use Rattle.control.specs.Meaning.{Row}
use Rattle.case.specs.Values.{CaseValues, state_count}
use Rattle.case.specs.declared.values.StateEquation.{StateEquation}
use Rattle.case.specs.declared.values.ExtraFace.{ExtraFace}

-- a list of so many places with one number at one of them, counted from 0, and 0 elsewhere
abbrev pub unit : ℕ → ℕ → ℤ → List ℤ
unit width i z = slice_set (replicate width (pos 0)) i z

-- x_i ≤ high and −x_i ≤ −low, for state i and those after it
abbrev pub box_faces : ℕ → ℕ → List StateEquation → List Row
box_faces n i [] = []
box_faces n i (s ∷ ss) =
    record { coefficients = unit n i (pos 1); right = s.high } ∷ record { coefficients = unit n i (negsuc 0); right = neg_ℤ s.low }
    ∷ box_faces n (suc i) ss

abbrev pub extra_face : ExtraFace → Row
extra_face f = record { coefficients = f.coefficients; right = f.right }

-- all faces in their order: two for each state, then the extra ones
abbrev pub faces : CaseValues → List Row
faces k = box_faces (state_count k) 0 k.equations ++ map extra_face k.extra

-- a state is inside when it has a value for each state and every face holds
pub record Inside (k : CaseValues) (x : List ℤ) : Type 0 where
  pub long : length x ≡ state_count k
  pub holds : AllByRecursion (Holds x) (faces k)
