-- When a text is accepted, and what that guarantees.
use Rattle.std.specs.Prelude.{◌≡◌, ℕ, ◌≤◌, List, length, Ok}
use Rattle.text.specs.Forms.{Iff}
use Rattle.text.specs.Lines.{text_limit}
use Rattle.case.specs.Forms.{case_before, CaseKept}
use Rattle.case.specs.Stored.{case_values}
use Rattle.case.specs.Texts.{CaseText}
use Rattle.certificate.specs.Certificates.{Invariant}
use Rattle.checking.specs.Checking.{ProofLine}
use Rattle.checking.specs.Forms.{proofs_text, Certificate}
use Rattle.laws.specs.Controllers.{law_meaning}
use Rattle.laws.specs.Forms.{law_before, LawKept}
use Rattle.laws.specs.Laws.{LawText}
use Rattle.judgement.specs.Judging.{judged}
use Rattle.judgement.specs.declared.Accepted.{Accepted}

-- a text is the rendering of a law, then of a case with this proof part; both keep their limits, and the text is not too long
pub record Renders (text : List ℕ) (law : LawText) (case : CaseText) (proofs : List ℕ) : Type 0 where
  pub bytes : text ≡ law_before law (case_before case proofs)
  pub law_kept : LawKept law
  pub case_kept : CaseKept case
  pub small : length text ≤ text_limit

-- a text renders a law, a case and a certificate for the two
pub record Acceptable (text : List ℕ) : Type 0 where
  pub law : LawText
  pub case : CaseText
  pub lines : List ProofLine
  pub renders : Renders text law case (proofs_text lines)
  pub certificate : Certificate (case_values case) (law_meaning law) lines

-- a text is accepted exactly when it renders a law, a case and a certificate for the two
unfoldable pub AcceptedForm : List ℕ → Type 0
AcceptedForm text = Iff ((a : Accepted) × (judged text ≡ Ok a)) (Acceptable text)

-- the set of the case that a text renders is invariant in the loop with the law that it renders
abbrev pub InvariantText : List ℕ → Type 0
InvariantText text = (law : LawText) (case : CaseText) (proofs : List ℕ) → Renders text law case proofs → Invariant (case_values case) (law_meaning law)

-- an accepted text has an invariant set
unfoldable pub AcceptedSound : List ℕ → Type 0
AcceptedSound text = (a : Accepted) → judged text ≡ Ok a → InvariantText text
