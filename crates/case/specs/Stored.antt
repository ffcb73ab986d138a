-- What a case text means, and what it stores in the caller's place.
use Rattle.std.specs.Prelude.{◌≡◌, ℕ, ◌+◌, ◌*◌, ◌<◌, List, [], ◌∷◌, map, length, take, drop, ℤ, pos, Ok, Err, Result, slice_index_or}
use Rattle.std.specs.Borrow.{Bor}
use Rattle.control.specs.Limits.{most_states, most_inputs}
pub use Rattle.text.specs.Blocks.{filled, zero_row}
use Rattle.text.specs.Blocks.{rows_held}
use Rattle.text.specs.Blocks as blocks
use Rattle.text.specs.Lines.{bind}
use Rattle.case.specs.Limits.{most_pushes, most_extras}
use Rattle.case.specs.Texts.{CaseText, CaseSizes}
use Rattle.case.specs.Values.{CaseValues, state_count, push_count, values_of}
use Rattle.case.specs.declared.faults.CaseFault.{CaseFault}
use Rattle.case.specs.declared.rows.CaseRows.{CaseRows}
use Rattle.case.specs.declared.sizes.Sizes.{Sizes}
use Rattle.case.specs.declared.values.StateEquation.{StateEquation}
use Rattle.case.specs.declared.values.PushBounds.{PushBounds}
use Rattle.case.specs.declared.values.ExtraFace.{ExtraFace}
use Rattle.case.specs.declared.values.Case.{Case}

-- The values that a case text writes.

-- a state, by its own line and its line of dynamics
abbrev pub equation_from : ℕ → ℕ → ℕ → List ℤ → List ℤ → StateEquation
equation_from n m p s d = record {
  low = slice_index_or s 0 (pos 0);
  high = slice_index_or s 1 (pos 0);
  leeway = slice_index_or s 2 (pos 0);
  constant = slice_index_or s 3 (pos 0);
  a = take n d;
  b = take m (drop n d);
  e = take p (drop (n + m) d);
}

abbrev pub equations_from : ℕ → ℕ → ℕ → List (List ℤ) → List (List ℤ) → List StateEquation
equations_from n m p [] ds = []
equations_from n m p (s ∷ ss) [] = []
equations_from n m p (s ∷ ss) (d ∷ ds) = equation_from n m p s d ∷ equations_from n m p ss ds

abbrev pub bounds_from : List ℤ → PushBounds
bounds_from row = record { low = slice_index_or row 0 (pos 0); high = slice_index_or row 1 (pos 0) }

abbrev pub extra_from : ℕ → List ℤ → ExtraFace
extra_from n row = record { coefficients = take n row; right = slice_index_or row n (pos 0) }

abbrev pub case_values : CaseText → CaseValues
case_values t = record {
  inputs = t.inputs;
  divisor = t.divisor;
  equations = equations_from (length t.states) t.inputs (length t.pushes) t.states t.dynamics;
  bounds = map bounds_from t.pushes;
  extra = map (extra_from (length t.states)) t.extras;
}

-- What is stored.

-- rows with zeros up to their places
abbrev pub padded_equation : StateEquation → StateEquation
padded_equation s = record {
  low = s.low;
  high = s.high;
  leeway = s.leeway;
  constant = s.constant;
  a = filled most_states (pos 0) s.a;
  b = filled most_inputs (pos 0) s.b;
  e = filled most_pushes (pos 0) s.e;
}

abbrev pub padded_extra : ExtraFace → ExtraFace
padded_extra f = record { coefficients = filled most_states (pos 0) f.coefficients; right = f.right }

-- what stands in the place of a lacking state, push or extra face
abbrev pub no_equation : StateEquation
no_equation = padded_equation (record { low = pos 0; high = pos 0; leeway = pos 0; constant = pos 0; a = []; b = []; e = [] })

abbrev pub no_bounds : PushBounds
no_bounds = record { low = pos 0; high = pos 0 }

abbrev pub no_extra : ExtraFace
no_extra = padded_extra (record { coefficients = []; right = pos 0 })

-- all that a case holds
pub record Stored : Type 0 where
  pub states : ℕ
  pub inputs : ℕ
  pub pushes : ℕ
  pub extras : ℕ
  pub divisor : ℤ
  pub equations : List StateEquation
  pub bounds : List PushBounds
  pub extra : List ExtraFace
  pub proofs : List ℕ
  pub line : ℕ

abbrev pub stored : Case → Stored
stored c = record {
  states = c.states;
  inputs = c.inputs;
  pushes = c.pushes;
  extras = c.extras;
  divisor = c.divisor;
  equations = c.equations;
  bounds = c.bounds;
  extra = c.extra;
  proofs = c.proofs.now;
  line = c.line;
}

abbrev pub line_after : ℕ → ℕ → ℕ → ℕ
line_after n p e = 8 + 2 * n + p + e

-- values, with the proof part of the text behind them
abbrev pub stored_values : CaseValues → List ℕ → Stored
stored_values k proofs = record {
  states = state_count k;
  inputs = k.inputs;
  pushes = push_count k;
  extras = length k.extra;
  divisor = k.divisor;
  equations = filled most_states no_equation (map padded_equation k.equations);
  bounds = filled most_pushes no_bounds k.bounds;
  extra = filled most_extras no_extra (map padded_extra k.extra);
  proofs = proofs;
  line = line_after (state_count k) (push_count k) (length k.extra);
}

-- one state, one input and nothing else
abbrev pub blank : Stored
blank = record {
  states = 1;
  inputs = 1;
  pushes = 0;
  extras = 0;
  divisor = pos 1;
  equations = filled most_states no_equation [];
  bounds = filled most_pushes no_bounds [];
  extra = filled most_extras no_extra [];
  proofs = [];
  line = 0;
}

-- the answer, and the place: a refusal leaves it
abbrev pub answer_of : Result (CaseText × List ℕ) CaseFault → Result (Unit {0}) CaseFault
answer_of r = bind r (λ _. Ok tt)

abbrev pub stored_after : Stored → Result (CaseText × List ℕ) CaseFault → Stored
stored_after old (Ok p) = stored_values (case_values p.0) p.1
stored_after old (Err e) = old

-- a case that is read has the values that its text writes
abbrev pub CaseMeant : Result (CaseText × List ℕ) CaseFault → Case → Type 0
CaseMeant (Ok p) c = values_of c ≡ case_values p.0
CaseMeant (Err e) c = Unit {0}

-- Rows as they are held while the text is read.

-- no section has more lines than that of the extra faces
abbrev pub held_rows : List (List ℤ) → List (List ℤ)
held_rows rows = blocks.held_rows most_extras rows

abbrev pub rows_stored : Result (List (List ℤ) × List ℕ) CaseFault → Result (List (List ℤ) × List ℕ) CaseFault
rows_stored r = rows_held most_extras r

abbrev pub rows_from : CaseText → CaseRows
rows_from t = record { states = held_rows t.states; pushes = held_rows t.pushes; dynamics = held_rows t.dynamics; extras = held_rows t.extras }

abbrev pub body_stored : Result (CaseText × List ℕ) CaseFault → Result (CaseRows × List ℕ) CaseFault
body_stored (Ok p) = Ok (rows_from p.0, p.1)
body_stored (Err e) = Err e

-- what is made for each of the first places is what a list has there
abbrev pub Makes : {X : Type 0} → (ℕ → X → Type 0) → ℕ → X → List X → Type 0
Makes {X} gives count blank ys = (i : ℕ) (y : X) → i < count → gives i y → y ≡ slice_index_or ys i blank

-- sizes, as the code holds them
abbrev pub sizes_seen : Sizes → CaseSizes
sizes_seen k = record { states = k.states; inputs = k.inputs; pushes = k.pushes; extras = k.extras; divisor = k.divisor }

abbrev pub sizes_told : Result (Sizes × Bor (List ℕ)) CaseFault → Result (CaseSizes × List ℕ) CaseFault
sizes_told (Ok p) = Ok (sizes_seen p.0, p.1.now)
sizes_told (Err e) = Err e
