-- The set of the case that an accepted text renders is invariant in the loop with the law that it renders.
use Rattle.std.proofs.Common.{ℕ, List, sym, ◌∙◌}
use Rattle.case.specs.Forms.{case_before}
use Rattle.case.specs.Stored.{case_values}
use Rattle.case.specs.Texts.{CaseText}
use Rattle.certificate.specs.Certificates.{Invariant}
use Rattle.certificate.proofs.Soundness.{sound}
use Rattle.checking.specs.Checking.{ProofLine}
use Rattle.checking.specs.Forms.{Certificate, CheckForm}
use Rattle.checking.proofs.Exact.{check_form}
use Rattle.checking.proofs.Trusting.{certificate_certified}
use Rattle.laws.specs.Controllers.{law_meaning}
use Rattle.laws.specs.Laws.{LawText}
use Rattle.judgement.specs.Forms.{Renders, AcceptedSound}
use Rattle.judgement.specs.Judging.{first_line}
use Rattle.judgement.proofs.Accepting.{checked_by, judged_read, renders_law, renders_case}
use Rattle.judgement.proofs.Lawful.{read_limits, read_cover}
use Rattle.judgement.proofs.Shapes.{kept_shaped}

-- a certificate for a law and a case that a text renders
certificate_sound : (text : List ℕ) (law : LawText) (case : CaseText) (proofs : List ℕ) (ls : List ProofLine) → Renders text law case proofs
    → Certificate (case_values case) (law_meaning law) ls → Invariant (case_values case) (law_meaning law)
certificate_sound text law case proofs ls r c =
    let e = renders_law text law case proofs r in
    let rest = case_before case proofs in
    sound (case_values case) (law_meaning law) (kept_shaped case r.case_kept) (read_limits text law rest e) (read_cover text law rest e)
    c.states_same c.inputs_same (certificate_certified (case_values case) (law_meaning law) ls c)

pub accepted_sound : (text : List ℕ) → AcceptedSound text
unfolding AcceptedSound CheckForm
accepted_sound text a e law case proofs r =
    let k = case_values case in
    let m = law_meaning law in
    let read = judged_read text law (case_before case proofs) case proofs (renders_law text law case proofs r) (renders_case text law case proofs r) in
    let c = (check_form k m (first_line k) proofs).0 (checked_by m k proofs a (sym read ∙ e)) in
    certificate_sound text law case proofs c.0 r c.2
