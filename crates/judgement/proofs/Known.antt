-- What is known once a law text is read, and once a case text is read.
use Rattle.std.proofs.Common.{◌≡◌, ℕ, ◌+◌, ◌*◌, List, length, Ok, Err, Result, sym, ap, ◌∙◌, arith}
use Rattle.text.specs.Lines.{bind}
use Rattle.control.specs.Meaning.{Meaning}
use Rattle.case.specs.Faces.{faces}
use Rattle.case.specs.Stored.{Stored, case_values, stored, stored_after, CaseMeant}
use Rattle.case.specs.Stored as case
use Rattle.case.specs.Texts.{CaseText, case_of}
use Rattle.case.specs.Values.{values_of}
use Rattle.case.specs.declared.faults.CaseFault.{CaseFault}
use Rattle.case.specs.declared.values.Case.{Case}
use Rattle.case.proofs.Faces.{faces_count}
use Rattle.checking.specs.Checking.{check_of}
use Rattle.checking.specs.declared.faults.CheckFault.{CheckFault}
use Rattle.checking.specs.declared.faults.CheckFault.TheVariants.{Law as OfLaw, Case as OfCase}
use Rattle.laws.specs.Controllers.{law_meaning, controller_of}
use Rattle.laws.specs.declared.faults.LawFault.{LawFault}
use Rattle.laws.proofs.Making.{controller_read, controller_refused}
use Rattle.judgement.specs.Judging.{of_law, of_case, first_line, proofs_judged, case_judged, judged}
use Rattle.judgement.specs.declared.Accepted.{Accepted}

-- what is answered to a law text that is refused, and to one that is read
pub law_refused : (text : List ℕ) (f : LawFault) → Err f ≡ controller_of text → judged text ≡ Err (OfLaw f)
unfolding judged
law_refused text f e = ap (λ r. bind (of_law r) (λ p. case_judged (law_meaning p.0) p.1)) (controller_refused text f e)

pub law_read : (text : List ℕ) (m : Meaning) (rest : List ℕ) (r : Result Accepted CheckFault) → Ok (m, rest) ≡ controller_of text → r ≡ case_judged m rest → r ≡ judged text
unfolding judged
law_read text m rest r e g =
    let k = controller_read text m rest e in
    g ∙ ap (λ t. case_judged t rest) k.2 ∙ sym (ap (λ x. bind (of_law x) (λ p. case_judged (law_meaning p.0) p.1)) k.1)

-- A case text.

pub record CaseKnown (r : Result (CaseText × List ℕ) CaseFault) (c : Case) : Type 0 where
  pub values : CaseText
  pub was : r ≡ Ok (values, c.proofs.now)
  pub values_are : values_of c ≡ case_values values
  pub line_is : c.line ≡ first_line (case_values values)
  pub faces_are : 2 * c.states + c.extras ≡ length (faces (case_values values))

pub case_known : (r : Result (CaseText × List ℕ) CaseFault) (old : Stored) (c : Case) → Ok tt ≡ case.answer_of r → stored c ≡ stored_after old r → CaseMeant r c → CaseKnown r c
case_known (Ok p) old c e s v = record {
  values = p.0;
  was = ap (λ (t : Stored). Ok (p.0, t.proofs)) (sym s);
  values_are = v;
  line_is = ap (λ (t : Stored). t.line) s;
  faces_are = ap (λ (t : Stored). 2 * t.states + t.extras) s ∙ sym (faces_count (case_values p.0));
}
case_known (Err d) old c e s v = grind arith

case_fault : (r : Result (CaseText × List ℕ) CaseFault) (f : CaseFault) → Err f ≡ case.answer_of r → r ≡ Err f
case_fault (Ok p) f e = grind arith
case_fault (Err d) f e = let k : f ≡ d = cc in ap Err (sym k)

-- what is answered to a case text that is refused, and to one that is read
pub case_refused : (m : Meaning) (text : List ℕ) (f : CaseFault) → Err f ≡ case.answer_of (case_of text) → case_judged m text ≡ Err (OfCase f)
case_refused m text f e = ap (λ r. bind (of_case r) (λ p. proofs_judged m (case_values p.0) p.1)) (case_fault (case_of text) f e)

-- the counts, as the code has them
abbrev pub told_counts : Meaning → Case → Accepted
told_counts m c = record { regions = length m.regions; faces = 2 * c.states + c.extras }

-- by what check answers
pub case_checked : (m : Meaning) (text : List ℕ) (c : Case) (r : Result (Unit {0}) CheckFault) → CaseKnown (case_of text) c → r ≡ check_of (values_of c) m c.line c.proofs.now
    → case_judged m text ≡ bind r (λ _. Ok (told_counts m c))
case_checked m text c r k e =
    let v = case_values k.values in
    let proofs = c.proofs.now in
    ap (λ x. bind (of_case x) (λ p. proofs_judged m (case_values p.0) p.1)) k.was
    ∙ ap (λ x. bind {Y = Accepted} {E = CheckFault} (check_of v m (first_line v) proofs) (λ _. Ok (record { regions = length m.regions; faces = x }))) (sym k.faces_are)
    ∙ ap (λ x. bind {E = CheckFault} (check_of v m x proofs) (λ _. Ok (told_counts m c))) (sym k.line_is)
    ∙ ap (λ x. bind {E = CheckFault} (check_of x m c.line proofs) (λ _. Ok (told_counts m c))) (sym k.values_are)
    ∙ ap (λ x. bind x (λ _. Ok (told_counts m c))) (sym e)
