-- A proof whose region, face and numbers are known to be good is judged by its equations.
use Rattle.std.proofs.Common.{◌≡◌, ℕ, ◌+◌, ◌-◌, true, ◌&&◌, eqb, List, [], ◌∷◌, length, get_or, take, drop, ℤ, pos, Result, ap, ◌∙◌, arith}
use Rattle.std.proofs.lemmas.List.{take_all}
use Rattle.std.proofs.lemmas.Bool.{and_from, cond-true, eq-eqb}
use Rattle.control.specs.Answers.{present}
use Rattle.control.specs.Meaning.{Meaning}
use Rattle.case.specs.Faces.{faces}
use Rattle.case.specs.Values.{CaseValues}
use Rattle.system.specs.Answers.{fits, system_of}
use Rattle.certificate.specs.Tests.{in_limit, all_in_limit, face_of, equations_of, proof_answer}
use Rattle.certificate.specs.declared.fault.ProofFault.{ProofFault}
use Rattle.checking.specs.Checking.{proof_line, proved_at, equations_at}

answered : (k : CaseValues) (m : Meaning) (region face : ℕ) (scale : ℤ) (ms : List ℤ) → fits k m ≡ true → present m.regions region ≡ true → present (faces k) face ≡ true
    → length ms ≡ length (system_of k m region) → (in_limit scale && all_in_limit ms) ≡ true → proof_answer k m region face scale ms ≡ equations_of k (system_of k m region) (face_of k face) scale ms
answered k m region face scale ms sizes r f long limits =
    cond-true (fits k m) _ _ sizes ∙ cond-true (present m.regions region && present (faces k) face) _ _ (and_from (present m.regions region) (present (faces k) face) r f)
    ∙ cond-true (eqb (length ms) (length (system_of k m region))) _ _ (eq-eqb _ _ long) ∙ cond-true (in_limit scale && all_in_limit ms) _ _ limits

-- the scale stands first
pub equations_answered : (k : CaseValues) (m : Meaning) (region face line : ℕ) (numbers : List ℤ) (scale : ℤ) (r : Result (Unit {0}) ProofFault) → scale ≡ get_or numbers 0 (pos 0) → fits k m ≡ true → present m.regions region ≡ true → present (faces k) face ≡ true
    → length numbers ≡ 1 + length (system_of k m region) → all_in_limit numbers ≡ true → r ≡ proof_answer k m region face scale (take (length numbers - 1) (drop 1 numbers))
    → proved_at line region face r ≡ equations_at k m line (proof_line region face numbers)
equations_answered k m region face line [] scale r first sizes there over long limits e = absurd (omega arith)
equations_answered k m region face line (z ∷ zs) scale r first sizes there over long limits e =
    let n : length (z ∷ zs) - 1 ≡ length zs = omega arith in
    let whole : take (length (z ∷ zs) - 1) zs ≡ zs = ap (λ i. take i zs) n ∙ take_all (length zs) zs (omega arith) in
    ap (proved_at line region face) (e ∙ ap (λ s. proof_answer k m region face s (take (length (z ∷ zs) - 1) zs)) first ∙ ap (proof_answer k m region face z) whole ∙ answered k m region face z zs sizes there over (omega arith) limits)
