-- What a case stores keeps its limits.
use Rattle.std.proofs.Common.{◌≡◌, ℕ, zero, suc, ◌<◌, ◌≤◌, true, List, [], ◌∷◌, map, length, get_or, take, ℤ, pos, ap, ◌∙◌, arith}
use Rattle.std.specs.List.{AllByRecursion}
use Rattle.std.proofs.ByRecursion.{All-take}
use Rattle.std.proofs.lemmas.List.{length-take-le, get_or-map, get_or-take}
use Rattle.std.proofs.lemmas.Bool.{and_parts}
use Rattle.arith.specs.Bounds.{Within}
use Rattle.arith.specs.Products.{most_terms}
use Rattle.control.specs.Limits.{most_states}
use Rattle.case.specs.Limits.{entry_limit, equation_ok, extra_ok, all_equations_ok, all_extras_ok}
use Rattle.case.specs.declared.values.Case.{Case}
use Rattle.case.specs.declared.values.StateEquation.{StateEquation}
use Rattle.case.specs.declared.values.ExtraFace.{ExtraFace}
use Rattle.case.proofs.Stored.{RowOk, extras_enough}
use Rattle.motion.specs.Moves.{no_equation}

-- what stands past the last extra face
abbrev pub no_extra : ExtraFace
no_extra = record { coefficients = []; right = pos 0 }

-- the first n entries of a row
pub record Front (n : ℕ) (row : List ℤ) : Type 0 where
  pub long : length (take n row) ≡ n
  pub few : length (take n row) ≤ most_terms
  pub small : AllByRecursion (Within entry_limit) (take n row)

pub front : (n width : ℕ) (row : List ℤ) → n ≤ width → width ≤ most_states → RowOk width row → Front n row
front n width row le few ok =
    let l : n ≤ length row = omega (arith, ok.long) in
    let long = length-take-le n row l in
    record { long = long; few = omega arith; small = All-take (Within entry_limit) n row ok.small }

pub extra_ok_at : (fs : List ExtraFace) (k : ℕ) → k < length fs → all_extras_ok fs ≡ true → extra_ok (get_or fs k no_extra) ≡ true
extra_ok_at [] k lt e = absurd (omega arith)
extra_ok_at (f ∷ fs) zero lt e = (and_parts (extra_ok f) (all_extras_ok fs) e).0
extra_ok_at (f ∷ fs) (suc k) lt e = extra_ok_at fs k (omega arith) (and_parts (extra_ok f) (all_extras_ok fs) e).1

pub equation_ok_at : (ss : List StateEquation) (k : ℕ) → k < length ss → all_equations_ok ss ≡ true → equation_ok (get_or ss k no_equation) ≡ true
equation_ok_at [] k lt e = absurd (omega arith)
equation_ok_at (s ∷ ss) zero lt e = (and_parts (equation_ok s) (all_equations_ok ss) e).0
equation_ok_at (s ∷ ss) (suc k) lt e = equation_ok_at ss k (omega arith) (and_parts (equation_ok s) (all_equations_ok ss) e).1

-- the first n stored elements, each as f reads it
pub held_at : {X Y : Type 0} (f : X → Y) (n : ℕ) (xs : List X) (i : ℕ) (d : X) (e : Y) → i < n → n ≤ length xs → get_or (map f (take n xs)) i e ≡ f (get_or xs i d)
held_at f n xs i d e lt le =
    let h : i < length (take n xs) = omega (arith, length-take-le n xs le) in
    get_or-map f (take n xs) i d e h ∙ ap f (get_or-take n xs i d lt)

-- an extra face in use keeps its limits
pub extra_in_use_ok : (k : Case) (i : ℕ) → i < length (take k.extras k.extra) → extra_ok (get_or (take k.extras k.extra) i no_extra) ≡ true
extra_in_use_ok k i below =
    let lt : i < k.extras = omega (arith, length-take-le k.extras k.extra (extras_enough k)) in
    ap extra_ok (get_or-take k.extras k.extra i no_extra lt) ∙ extra_ok_at k.extra i (omega (arith, extras_enough k)) k.limits.2
