-- What the test of a proof answers, case by case.
use Rattle.std.proofs.Common.{◌≡◌, ℕ, ◌+◌, ◌*◌, ◌≤◌, true, false, cond, ◌&&◌, eqb, List, length, ℤ, Err, Result, sym, ◌∙◌, arith}
use Rattle.std.proofs.lemmas.Bool.{and_from, and_right, cond-true, cond-false, eq-eqb, ne_eqb}
use Rattle.control.specs.Answers.{present}
use Rattle.control.specs.Meaning.{Meaning}
use Rattle.case.specs.declared.values.Case.{Case}
use Rattle.case.specs.Faces.{faces}
use Rattle.case.specs.Values.{CaseValues, values_of}
use Rattle.case.proofs.Faces.{faces_count}
use Rattle.case.proofs.Stored.{states_are, extras_are}
use Rattle.system.specs.Answers.{fits, system_of}
use Rattle.certificate.specs.declared.fault.ProofFault.{ProofFault}
use Rattle.certificate.specs.declared.fault.ProofFault.TheVariants.{Missing, Length, Range}
use Rattle.certificate.specs.Tests.{in_limit, all_in_limit, equations_of, face_of, proof_answer}
use Rattle.certificate.proofs.Tested.{decides_present, decides_false}

-- the numbers of faces as the code has them
pub face_there : (c : Case) (face : ℕ) → 1 ≤ face → face ≤ 2 * c.states + c.extras → present (faces (values_of c)) face ≡ true
face_there c face low high = (decides_present (faces (values_of c)) face).1 (low, omega (arith, faces_count (values_of c), states_are c, extras_are c))

pub face_missing : (c : Case) (face : ℕ) → (1 ≤ face → face ≤ 2 * c.states + c.extras → ⊥) → present (faces (values_of c)) face ≡ false
face_missing c face out =
    decides_false (present (faces (values_of c)) face) (decides_present (faces (values_of c)) face)
    (λ h. out h.0 (omega (arith, h.1, faces_count (values_of c), states_are c, extras_are c)))

-- a region of a controller of the sizes of the case
module _ (k : CaseValues) (m : Meaning) (region face : ℕ) (scale : ℤ) (ms : List ℤ) (agree : fits k m ≡ true) (region_there : present m.regions region ≡ true) where
  pub answer_missing : present (faces k) face ≡ false → Err Missing ≡ proof_answer k m region face scale ms
  answer_missing e =
      sym (cond-true (fits k m) _ _ agree ∙ cond-false (present m.regions region && present (faces k) face) _ _ (and_right (present m.regions region) (present (faces k) face) e))

  module _ (there : present (faces k) face ≡ true) where
    both : (present m.regions region && present (faces k) face) ≡ true
    both = and_from (present m.regions region) (present (faces k) face) region_there there

    pub answer_length : (length ms ≡ length (system_of k m region) → ⊥) → Err Length ≡ proof_answer k m region face scale ms
    answer_length ne =
        sym (cond-true (fits k m) _ _ agree ∙ cond-true (present m.regions region && present (faces k) face) _ _ both
        ∙ cond-false (eqb (length ms) (length (system_of k m region))) _ _ (ne_eqb _ _ ne))

    module _ (long : length ms ≡ length (system_of k m region)) where
      reached : cond (in_limit scale && all_in_limit ms) (equations_of k (system_of k m region) (face_of k face) scale ms) (Err Range) ≡ proof_answer k m region face scale ms
      reached =
          sym (cond-true (fits k m) _ _ agree ∙ cond-true (present m.regions region && present (faces k) face) _ _ both
          ∙ cond-true (eqb (length ms) (length (system_of k m region))) _ _ (eq-eqb _ _ long))

      pub answer_range : (in_limit scale && all_in_limit ms) ≡ false → Err Range ≡ proof_answer k m region face scale ms
      answer_range e = sym (cond-false (in_limit scale && all_in_limit ms) _ _ e) ∙ reached

      pub answer_tested : (in_limit scale && all_in_limit ms) ≡ true → (r : Result (Unit {0}) ProofFault) → r ≡ equations_of k (system_of k m region) (face_of k face) scale ms → r ≡ proof_answer k m region face scale ms
      answer_tested e r is = is ∙ sym (cond-true (in_limit scale && all_in_limit ms) _ _ e) ∙ reached
