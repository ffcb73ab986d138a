-- The values of a case: what the loop, its pushes and its faces are, with lists of just the entries that there are.
use Rattle.std.specs.Prelude.{ℕ, List, map, length, take, ℤ}
use Rattle.case.specs.declared.values.StateEquation.{StateEquation}
use Rattle.case.specs.declared.values.PushBounds.{PushBounds}
use Rattle.case.specs.declared.values.ExtraFace.{ExtraFace}
use Rattle.case.specs.declared.values.Case.{Case}

-- the number of states is that of the equations, and likewise for pushes and extra faces
pub record CaseValues : Type 0 where
  pub inputs : ℕ
  pub divisor : ℤ
  pub equations : List StateEquation
  pub bounds : List PushBounds
  pub extra : List ExtraFace

abbrev pub state_count : CaseValues → ℕ
state_count k = length k.equations

abbrev pub push_count : CaseValues → ℕ
push_count k = length k.bounds

-- an equation with n, m and p entries in its rows
abbrev pub equation_of : ℕ → ℕ → ℕ → StateEquation → StateEquation
equation_of n m p s = record {
  low = s.low;
  high = s.high;
  leeway = s.leeway;
  constant = s.constant;
  a = take n s.a;
  b = take m s.b;
  e = take p s.e;
}

abbrev pub extra_of : ℕ → ExtraFace → ExtraFace
extra_of n f = record { coefficients = take n f.coefficients; right = f.right }

-- the values that a case stores
abbrev pub values_of : Case → CaseValues
values_of c = record {
  inputs = c.inputs;
  divisor = c.divisor;
  equations = map (equation_of c.states c.inputs c.pushes) (take c.states c.equations);
  bounds = take c.pushes c.bounds;
  extra = map (extra_of c.states) (take c.extras c.extra);
}
