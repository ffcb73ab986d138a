-- The numbers of regions and faces.
use Rattle.std.proofs.Common.{◌≡◌, ℕ, ◌-◌, ◌≤◌, true, ltb, List, length, arith}
use Rattle.std.proofs.lemmas.Bool.{and_from, lt-ltb}
use Rattle.control.specs.Answers.{present}

pub present_from : {X : Type 0} (xs : List X) (i : ℕ) → 1 ≤ i → i ≤ length xs → present xs i ≡ true
present_from xs i low high = and_from (ltb 0 i) (ltb (i - 1) (length xs)) (lt-ltb 0 i low) (lt-ltb (i - 1) (length xs) (omega arith))
