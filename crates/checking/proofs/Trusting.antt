-- A case that check accepts is invariant.
use Rattle.std.proofs.Common.{◌≡◌, ℕ, suc, ◌-◌, Bool, true, false, ◌&&◌, ◌||◌, eqb, List, [], ◌∷◌, get_or, Ok, refl, subst, arith}
use Rattle.std.specs.List.{AllByRecursion}
use Rattle.std.proofs.lemmas.Bool.{false≢true, eqb-true, and_parts}
use Rattle.control.specs.Answers.{no_row}
use Rattle.control.specs.Cover.{Cover}
use Rattle.control.specs.Limits.{Limits}
use Rattle.control.specs.Meaning.{Meaning}
use Rattle.case.specs.Faces.{faces}
use Rattle.case.specs.Values.{CaseValues, values_of}
use Rattle.case.specs.declared.values.Case.{Case}
use Rattle.certificate.specs.Certificates.{Proves, region_system, Certified, Invariant}
use Rattle.certificate.proofs.Soundness.{case_shaped, sound}
use Rattle.checking.specs.Checking.{ProofLine, names, check_of}
use Rattle.checking.specs.Forms.{Certificate, CheckForm}
use Rattle.checking.proofs.Exact.{Standing, check_form}

-- the line that names a pair
pub named_line : (P : ProofLine → Type 0) (ls : List ProofLine) (region face : ℕ) → names ls region face ≡ true → AllByRecursion P ls
    → (l : ProofLine) × (l.region ≡ region) × (l.face ≡ face) × P l
named_line P [] region face e h = absurd (false≢true e)
named_line P (l ∷ ls) region face e h = by_test (eqb l.region region && eqb l.face face) refl (λ d. named_line P ls region face d h.1) e
  where
    by_test : (t : Bool) → (eqb l.region region && eqb l.face face) ≡ t
        → (names ls region face ≡ true → (x : ProofLine) × (x.region ≡ region) × (x.face ≡ face) × P x)
        → (t || names ls region face) ≡ true → (x : ProofLine) × (x.region ≡ region) × (x.face ≡ face) × P x
    by_test true t more d = let p = and_parts _ _ t in (l, eqb-true _ _ p.0, eqb-true _ _ p.1, h.0)
    by_test false t more d = more d

-- the lines of a certificate hold a proof for every region and face
pub certificate_certified : (k : CaseValues) (m : Meaning) (ls : List ProofLine) → Certificate k m ls → Certified k m
certificate_certified k m ls c r f lr lf =
    let n = named_line (Standing k m) ls (suc r) (suc f)
    (c.every (suc r) (suc f) (omega arith) (omega arith) (omega arith) (omega arith)) c.each in
    let l = n.0 in
    let er : l.region - 1 ≡ r = omega (arith, n.1) in
    let ef : l.face - 1 ≡ f = omega (arith, n.2) in (
      l.scale,
      (
        l.multipliers,
        subst (λ x. Proves k (region_system k m x) (get_or (faces k) f no_row) l.scale l.multipliers) er
            (subst (λ x. Proves k (region_system k m (l.region - 1)) (get_or (faces k) x no_row) l.scale l.multipliers) ef n.3.proves),
      ),
    )

-- an accepted case is invariant
pub accepted_invariant : (c : Case) (m : Meaning) → Limits m → Cover m
    → (line : ℕ) (proofs : List ℕ) → check_of (values_of c) m line proofs ≡ Ok tt → Invariant (values_of c) m
unfolding CheckForm
accepted_invariant c m limits cover line proofs e =
    let k = values_of c in
    let t = (check_form k m line proofs).0 e in
    let cert = t.2 in
    sound k m (case_shaped c) limits cover cert.states_same cert.inputs_same (certificate_certified k m t.0 cert)
