-- The sections behind the sizes, one after another.
use Rattle.std.proofs.Common.{◌≡◌, ℕ, zero, suc, ◌-◌, ◌≤◌, List, take, drop, ℤ, pos, ◌≤ℤ◌, Ok, Result, refl, arith, w64, to_z, of_z}
use Rattle.std.proofs.lemmas.Int.{ints, to_z-of_z}
use Rattle.arith.proofs.Bounds.{sfits_within}
use Rattle.text.specs.Lines.{bind, names_line}
use Rattle.case.specs.Fields.{extra_limits}
use Rattle.case.specs.Limits.{divisor_limit}
use Rattle.case.specs.Texts.{CaseText, CaseSizes, as_case, proof_names, push_section, dynamics_section, extra_section, proofs_line}
use Rattle.case.specs.declared.faults.CaseFault.{CaseFault}

-- Limits as the code holds them.

-- the limits of an extra face are the last of those at four states
pub extra_last : (n : ℕ) → n ≤ 4 → take (5 - (4 - n)) (drop (4 - n) (extra_limits 4)) ≡ extra_limits n
extra_last zero h = refl
extra_last (suc zero) h = refl
extra_last (suc (suc zero)) h = refl
extra_last (suc (suc (suc zero))) h = refl
extra_last (suc (suc (suc (suc zero)))) h = refl
extra_last (suc (suc (suc (suc (suc n))))) h = absurd (omega arith)

pub divisor_back : (z : ℤ) → (pos 1 ≤ℤ z) × (z ≤ℤ pos divisor_limit) → to_z w64 (of_z w64 z) ≡ z
divisor_back z h = to_z-of_z w64 z (sfits_within divisor_limit z (omega arith) (omega (arith, ints), omega (arith, ints)))

-- The sections behind the sizes.

module _ (k : CaseSizes) where
  abbrev pub after_extras : List (List ℤ) → List (List ℤ) → List (List ℤ) → List (List ℤ) → List ℕ → Result (CaseText × List ℕ) CaseFault
  after_extras a b c d text =
      bind (as_case (names_line (proofs_line k) proof_names text)) (λ rest.
      Ok (record { inputs = k.inputs; divisor = k.divisor; states = a; pushes = b; dynamics = c; extras = d }, rest))

  abbrev pub after_dynamics : List (List ℤ) → List (List ℤ) → List (List ℤ) → List ℕ → Result (CaseText × List ℕ) CaseFault
  after_dynamics a b c text = bind (extra_section k text) (λ d. after_extras a b c d.0 d.1)

  abbrev pub after_pushes : List (List ℤ) → List (List ℤ) → List ℕ → Result (CaseText × List ℕ) CaseFault
  after_pushes a b text = bind (dynamics_section k text) (λ c. after_dynamics a b c.0 c.1)

  abbrev pub after_states : List (List ℤ) → List ℕ → Result (CaseText × List ℕ) CaseFault
  after_states a text = bind (push_section k text) (λ b. after_pushes a b.0 b.1)
