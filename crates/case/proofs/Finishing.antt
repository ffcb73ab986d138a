-- A case text from its sizes and its body.
use Rattle.std.proofs.Common.{◌≡◌, ℕ, List, Ok, Err, Result, sym, ap, ◌∙◌, subst}
use Rattle.text.specs.Lines.{bind}
use Rattle.case.specs.Forms.{CaseKept, sizes_from}
use Rattle.case.specs.Stored.{CaseMeant, case_values, rows_from, body_stored}
use Rattle.case.specs.Texts.{CaseText, CaseSizes, sizes_section, body_of, case_of}
use Rattle.case.specs.Values.{values_of}
use Rattle.case.specs.declared.faults.CaseFault.{CaseFault}
use Rattle.case.specs.declared.rows.CaseRows.{CaseRows}
use Rattle.case.specs.declared.values.Case.{Case}
use Rattle.case.proofs.Exits.{body_ok, body_err}
use Rattle.case.proofs.Rendering.{parts_to}

-- the values that a text was read as
pub record Read (text : List ℕ) (k : CaseSizes) (rows : CaseRows) (proofs : List ℕ) : Type 0 where
  pub t : CaseText
  pub was : case_of text ≡ Ok (t, proofs)
  pub held : rows ≡ rows_from t
  pub kept : CaseKept t
  pub sizes : sizes_from t ≡ k

module _ (text : List ℕ) (k : CaseSizes) (rest : List ℕ) (sized : Ok (k, rest) ≡ sizes_section text) where
  bodied : body_of k rest ≡ case_of text
  bodied = ap (λ r. bind r (λ p. body_of p.0 p.1)) sized

  pub body_refused : (e : CaseFault) → Err e ≡ body_stored (body_of k rest) → case_of text ≡ Err e
  body_refused e h = sym bodied ∙ body_err (body_of k rest) e h

  pub body_taken : (rows : CaseRows) (proofs : List ℕ) → Ok (rows, proofs) ≡ body_stored (body_of k rest) → Read text k rows proofs
  body_taken rows proofs h =
      let b = body_ok (body_of k rest) rows proofs h in
      let p = parts_to text k rest b.0 proofs (sym sized) b.1 in
      record { t = b.0; was = sym bodied ∙ b.1; held = b.2; kept = p.0.kept; sizes = p.1 }

pub read_meant : (r : Result (CaseText × List ℕ) CaseFault) (t : CaseText) (proofs : List ℕ) (c : Case) → r ≡ Ok (t, proofs) → values_of c ≡ case_values t → CaseMeant r c
read_meant r t proofs c h v = subst (λ x. CaseMeant x c) (sym h) v
