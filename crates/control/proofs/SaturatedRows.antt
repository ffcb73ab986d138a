-- The rows of a saturated law, one by one.
use Rattle.std.proofs.Common.{◌≡◌, ℕ, ◌+◌, ◌-◌, ◌<◌, ◌≤◌, true, false, ◌&&◌, ◌⊎◌, List, [], ◌++◌, length, get_or, ℤ, ap, subst, inl, inr, arith}
use Rattle.std.specs.List.{AllByRecursion}
use Rattle.std.proofs.lemmas.Bool.{and_right, and_from}
use Rattle.arith.specs.Bounds.{all_within}
use Rattle.arith.proofs.Bounds.{all_from_test}
use Rattle.control.specs.declared.saturated.Saturated.{Saturated}
use Rattle.control.specs.Meaning.{Meaning}
use Rattle.control.specs.Held.{inputs_of, partition_of, rows_of, command_of}
use Rattle.control.specs.Limits.{state_limit}
use Rattle.control.specs.Cover.{Holds}
use Rattle.control.specs.Answers.{no_row, present, region_of, row_of}
use Rattle.control.specs.Saturated.{index_of, digits_at}
use Rattle.control.proofs.SaturatedKnown.{ok_of}
use Rattle.control.proofs.Outcomes.{there, absent}
use Rattle.control.specs.Lawful.SaturatedLaws.{saturated_meaning, partition_long, partition_at, region_holds}

abbrev pub means : Saturated → Meaning
means s = saturated_meaning s.states.count (length (inputs_of s.inputs)) (inputs_of s.inputs)

-- the rows that there are
pub region_is : (s : Saturated) (k : ℕ) → 1 ≤ k → k ≤ length (partition_of s) → region_of (means s) k ≡ rows_of s (k - 1)
region_is s k low high = let is = inputs_of s.inputs in partition_at s.states.count is (k - 1) (omega (arith, partition_long s.states.count is))

pub such_row : (s : Saturated) (k j : ℕ) → 1 ≤ k → k ≤ length (partition_of s) → 1 ≤ j → j ≤ length (rows_of s (k - 1)) → (present (partition_of s) k && present (region_of (means s) k) j) ≡ true
such_row s k j low high l h =
    let e = ap length (region_is s k low high) in
    and_from (present (partition_of s) k) _ (there (partition_of s) k low high) (there (region_of (means s) k) j l (omega arith))

pub no_such_row : (s : Saturated) (k j : ℕ) → 1 ≤ k → k ≤ length (partition_of s) → (j < 1) ⊎ (length (rows_of s (k - 1)) < j) → (present (partition_of s) k && present (region_of (means s) k) j) ≡ false
no_such_row s k j low high out =
    let e = ap length (region_is s k low high) in
    and_right (present (partition_of s) k) _ (absent (region_of (means s) k) j (elim out [ inl h ↦ inl h | inr h ↦ inr (omega arith) ]))

pub that_row : (s : Saturated) (k j : ℕ) → 1 ≤ k → k ≤ length (partition_of s) → row_of (means s) k j ≡ get_or (rows_of s (k - 1)) (j - 1) no_row
that_row s k j low high = ap (λ rows. get_or rows (j - 1) no_row) (region_is s k low high)

-- all rows of the region at a state hold
pub region_holds_at : (s : Saturated) (x : List ℤ) (r : ℕ) → length x ≡ s.states.count → all_within state_limit x ≡ true → r ≡ index_of (digits_at s.states.count (inputs_of s.inputs) x) → AllByRecursion (Holds (x ++ command_of s x)) (get_or (partition_of s) (1 + r - 1) [])
region_holds_at s x r e f g =
    let is = inputs_of s.inputs in
    let i : index_of (digits_at s.states.count is x) ≡ 1 + r - 1 = omega arith in
    subst (λ t. AllByRecursion (Holds (x ++ command_of s x)) (get_or (partition_of s) t [])) i
    (region_holds s.states.count (length is) is (ok_of s) x (record { long = e; small = all_from_test state_limit x f }))
