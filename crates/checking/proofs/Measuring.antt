-- What the test of a proof part says, and when it passes.
use Rattle.std.proofs.Common.{◌≡◌, ℕ, ◌≤◌, true, List, length, arith}
use Rattle.std.proofs.lemmas.Bool.Decides.{nat_tests}
use Rattle.text.specs.Lines.{text_limit}
use Rattle.checking.specs.Checking.{most_first_line, is_measured}

pub measured_to : (line : ℕ) (proofs : List ℕ) → is_measured line proofs ≡ true → (line ≤ most_first_line) × (length proofs ≤ text_limit)
measured_to line proofs e = (grind (arith, nat_tests), grind (arith, nat_tests))

pub measured_from : (line : ℕ) (proofs : List ℕ) → line ≤ most_first_line → length proofs ≤ text_limit → is_measured line proofs ≡ true
measured_from line proofs h i = grind (arith, nat_tests)
