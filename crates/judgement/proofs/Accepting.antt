-- A text is accepted exactly when it renders a law, a case and a certificate for the two.
use Rattle.std.proofs.Common.{◌≡◌, ℕ, ◌≤◌, List, length, Ok, Err, Result, refl, ap, ◌∙◌, subst, arith}
use Rattle.text.specs.Lines.{bind, text_limit}
use Rattle.text.specs.Render.{line_before}
use Rattle.text.proofs.Forming.{bind_ok}
use Rattle.case.specs.Forms.{case_before, CaseForm}
use Rattle.case.specs.Stored.{case_values}
use Rattle.case.specs.Texts.{CaseText, case_of}
use Rattle.case.specs.Values.{CaseValues}
use Rattle.case.specs.declared.faults.CaseFault.{CaseFault}
use Rattle.case.proofs.Rendering.{case_form}
use Rattle.control.specs.Meaning.{Meaning}
use Rattle.laws.specs.Controllers.{law_meaning}
use Rattle.laws.specs.Forms.{rows_before, head_text, law_before, LawForm}
use Rattle.laws.specs.Laws.{LawText, law_of, law_names, row_names}
use Rattle.laws.specs.declared.faults.LawFault.{LawFault}
use Rattle.laws.proofs.Rendering.{law_form}
use Rattle.checking.specs.Checking.{check_of}
use Rattle.checking.specs.Forms.{proofs_text, CheckForm}
use Rattle.checking.proofs.Exact.{check_form}
use Rattle.judgement.specs.Forms.{Renders, Acceptable, AcceptedForm}
use Rattle.judgement.specs.Judging.{of_law, of_case, first_line, counts, proofs_judged, case_judged, judged}
use Rattle.judgement.specs.declared.Accepted.{Accepted}
use Rattle.judgement.proofs.Longer.{line_longer, rows_longer}
use Rattle.judgement.proofs.Measured.{measured}

-- Answers.

of_law_ok : {X : Type 0} (r : Result X LawFault) (x : X) → of_law r ≡ Ok x → r ≡ Ok x
of_law_ok (Ok y) x e = let k : y ≡ x = cc in ap Ok k
of_law_ok (Err f) x e = grind arith

of_case_ok : {X : Type 0} (r : Result X CaseFault) (x : X) → of_case r ≡ Ok x → r ≡ Ok x
of_case_ok (Ok y) x e = let k : y ≡ x = cc in ap Ok k
of_case_ok (Err f) x e = grind arith

-- what is answered once law and case are read
pub judged_read : (text : List ℕ) (law : LawText) (rest : List ℕ) (case : CaseText) (proofs : List ℕ) → law_of text ≡ Ok (law, rest) → case_of rest ≡ Ok (case, proofs)
    → judged text ≡ proofs_judged (law_meaning law) (case_values case) proofs
unfolding judged
judged_read text law rest case proofs l k =
    ap (λ r. bind (of_law r) (λ p. case_judged (law_meaning p.0) p.1)) l
    ∙ ap (λ r. bind (of_case r) (λ p. proofs_judged (law_meaning law) (case_values p.0) p.1)) k

-- law and case of a text that is accepted, and that check accepts its proof part
pub record Judged (text : List ℕ) : Type 0 where
  pub law : LawText
  pub rest : List ℕ
  pub case : CaseText
  pub proofs : List ℕ
  pub law_is : law_of text ≡ Ok (law, rest)
  pub case_is : case_of rest ≡ Ok (case, proofs)
  pub checked : check_of (case_values case) (law_meaning law) (first_line (case_values case)) proofs ≡ Ok tt

pub checked_by : (m : Meaning) (k : CaseValues) (proofs : List ℕ) (a : Accepted) → proofs_judged m k proofs ≡ Ok a → check_of k m (first_line k) proofs ≡ Ok tt
checked_by m k proofs a e = (bind_ok (check_of k m (first_line k) proofs) (λ _. Ok (counts m k)) a e).1

judged_parts : (text : List ℕ) (a : Accepted) → judged text ≡ Ok a → Judged text
unfolding judged
judged_parts text a e =
    let l = bind_ok (of_law (law_of text)) (λ p. case_judged (law_meaning p.0) p.1) a e in
    let m = law_meaning l.0.0 in
    let k = bind_ok (of_case (case_of l.0.1)) (λ p. proofs_judged m (case_values p.0) p.1) a l.2 in
    record {
      law = l.0.0;
      rest = l.0.1;
      case = k.0.0;
      proofs = k.0.1;
      law_is = of_law_ok (law_of text) l.0 l.1;
      case_is = of_case_ok (case_of l.0.1) k.0 k.1;
      checked = checked_by m (case_values k.0.0) k.0.1 a k.2;
    }

-- Renderings.

law_longer : (law : LawText) (rest : List ℕ) → length rest ≤ length (law_before law rest)
law_longer law rest =
    let rows = rows_before law.rows rest in
    let third = line_before (row_names law.kind) rows in
    omega (arith, line_longer law_names (line_before (head_text law) third), line_longer (head_text law) third, line_longer (row_names law.kind) rows, rows_longer law.rows rest)

-- what a text renders is read
pub renders_law : (text : List ℕ) (law : LawText) (case : CaseText) (proofs : List ℕ) → Renders text law case proofs → law_of text ≡ Ok (law, case_before case proofs)
unfolding LawForm
renders_law text law case proofs r = (law_form text law (case_before case proofs)).1 (r.bytes, r.law_kept, r.small)

-- its case text is not too long either
case_small : (text : List ℕ) (law : LawText) (case : CaseText) (proofs : List ℕ) → Renders text law case proofs → length (case_before case proofs) ≤ text_limit
case_small text law case proofs r = omega (arith, law_longer law (case_before case proofs), ap length r.bytes, r.small)

pub renders_case : (text : List ℕ) (law : LawText) (case : CaseText) (proofs : List ℕ) → Renders text law case proofs → case_of (case_before case proofs) ≡ Ok (case, proofs)
unfolding CaseForm
renders_case text law case proofs r =
    let rest = case_before case proofs in
    (case_form rest case proofs).1 (refl, r.case_kept, case_small text law case proofs r)

judged_renders : (text : List ℕ) (j : Judged text) → Renders text j.law j.case j.proofs
unfolding LawForm CaseForm
judged_renders text j =
    let l = (law_form text j.law j.rest).0 j.law_is in
    let k = (case_form j.rest j.case j.proofs).0 j.case_is in
    record { bytes = l.0 ∙ ap (law_before j.law) k.0; law_kept = l.1; case_kept = k.1; small = l.2 }

-- The form, from that of check.

judged_acceptable : (text : List ℕ) → Judged text → Acceptable text
unfolding CheckForm
judged_acceptable text j =
    let c = (check_form (case_values j.case) (law_meaning j.law) (first_line (case_values j.case)) j.proofs).0 j.checked in
    record {
      law = j.law;
      case = j.case;
      lines = c.0;
      renders = subst (Renders text j.law j.case) c.1 (judged_renders text j);
      certificate = c.2;
    }

acceptable_judged : (text : List ℕ) (s : Acceptable text) → judged text ≡ Ok (counts (law_meaning s.law) (case_values s.case))
unfolding CheckForm
acceptable_judged text s =
    let proofs = proofs_text s.lines in
    let part = measured s.case proofs s.renders.case_kept (case_small text s.law s.case proofs s.renders) in
    let c = (check_form (case_values s.case) (law_meaning s.law) (first_line (case_values s.case)) proofs).1 (s.lines, refl, s.certificate, part.0, part.1) in
    judged_read text s.law (case_before s.case proofs) s.case proofs
    (renders_law text s.law s.case proofs s.renders) (renders_case text s.law s.case proofs s.renders)
    ∙ ap (λ r. bind r (λ _. Ok (counts (law_meaning s.law) (case_values s.case)))) c

pub accepted_form : (text : List ℕ) → AcceptedForm text
unfolding AcceptedForm
accepted_form text = (
  (λ e. judged_acceptable text (judged_parts text e.0 e.1)),
  (λ s. (counts (law_meaning s.law) (case_values s.case), acceptable_judged text s)),
)
