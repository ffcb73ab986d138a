-- The judgement of a line, step by step.
use Rattle.std.proofs.Common.{◌≡◌, ℕ, Bool, true, false, List, length, ℤ, Some, Ok, Err, Option, Result, sym, ap, ◌∙◌, subst}
use Rattle.std.proofs.lemmas.Bool.{cond-true, cond-false}
use Rattle.text.specs.Lines.{bind, place, next_number, after_field}
use Rattle.control.specs.Meaning.{Meaning}
use Rattle.case.specs.Faces.{faces}
use Rattle.case.specs.Values.{CaseValues}
use Rattle.checking.specs.Checking.{ProofLine, pair, up_to, as_index, region_field, face_field, unnamed, number_fields, proof_line, equations_at, line_behind}
use Rattle.checking.specs.Marks.{LineTold}
use Rattle.checking.specs.declared.faults.CheckFault.{CheckFault}
use Rattle.checking.specs.declared.faults.CheckFault.TheVariants.{Repeated}

-- a fault that is told
pub fault_told : (judged : Result ProofLine CheckFault) (old new : List (List Bool)) (r : Result (Unit {0}) CheckFault) (e : CheckFault) → r ≡ Err e → Err e ≡ judged → LineTold judged old new r
fault_told judged old new r e told is = subst (LineTold judged old new) (sym told) (sym is)

module _ (k : CaseValues) (m : Meaning) (named : ℕ → ℕ → Bool) (line : ℕ) (bytes : List ℕ) where
  pub region_read : (n : ℕ) (o : Option (List ℕ)) (r : Result ℕ CheckFault) → r ≡ as_index (next_number (place line 1) (up_to n) o) → n ≡ length m.regions → o ≡ Some bytes → r ≡ region_field m line bytes
  region_read n o r h e f = h ∙ ap (λ i. as_index (next_number (place line 1) (up_to i) o)) e ∙ ap (λ t. as_index (next_number (place line 1) (up_to (length m.regions)) t)) f

  pub face_read : (n : ℕ) (o : Option (List ℕ)) (r : Result ℕ CheckFault) → r ≡ as_index (next_number (place line 2) (up_to n) o) → n ≡ length (faces k) → o ≡ after_field (Some bytes) → r ≡ face_field k line bytes
  face_read n o r h e f = h ∙ ap (λ i. as_index (next_number (place line 2) (up_to i) o)) e ∙ ap (λ t. as_index (next_number (place line 2) (up_to (length (faces k))) t)) f

  -- what is left to judge behind the numbers, the pair, the face and the region
  abbrev pub past_numbers : ℕ → ℕ → List ℤ → Result ProofLine CheckFault
  past_numbers region face zs = bind (equations_at k m line (proof_line region face zs)) (λ _. Ok (proof_line region face zs))

  abbrev pub past_pair : ℕ → ℕ → Result ProofLine CheckFault
  past_pair region face = bind (number_fields k m region line bytes) (past_numbers region face)

  abbrev pub past_face : ℕ → ℕ → Result ProofLine CheckFault
  past_face region face = bind (unnamed named line region face) (λ _. past_pair region face)

  abbrev pub past_region : ℕ → Result ProofLine CheckFault
  past_region region = bind (face_field k line bytes) (past_face region)

  pub region_goes : (region : ℕ) → Ok region ≡ region_field m line bytes → past_region region ≡ line_behind k m named line bytes
  region_goes region h = ap (λ r. bind r past_region) h

  pub face_stops : (region : ℕ) (e : CheckFault) → Err e ≡ face_field k line bytes → Err e ≡ past_region region
  face_stops region e h = ap (λ r. bind r (past_face region)) h

  pub face_goes : (region face : ℕ) → Ok face ≡ face_field k line bytes → past_face region face ≡ past_region region
  face_goes region face h = ap (λ r. bind r (past_face region)) h

  -- the region and the face as the code reads them, of so many
  pub pair_read : (n count region face : ℕ) (o left : Option (List ℕ)) → n ≡ length m.regions → count ≡ length (faces k) → o ≡ Some bytes → left ≡ after_field o
      → Ok region ≡ as_index (next_number (place line 1) (up_to n) o) → Ok face ≡ as_index (next_number (place line 2) (up_to count) left) → past_face region face ≡ line_behind k m named line bytes
  pair_read n count region face o left en ec eo el r f =
      face_goes region face (face_read count left (Ok face) f ec (el ∙ ap after_field eo)) ∙ region_goes region (region_read n o (Ok region) r en eo)

  pub pair_stops : (region face : ℕ) → named region face ≡ true → past_face region face ≡ Err (Repeated line (pair region face))
  pair_stops region face h = ap (λ r. bind r (λ _. past_pair region face)) (cond-true (named region face) (Err (Repeated line (pair region face))) (Ok tt) h)

  pub pair_goes : (region face : ℕ) → named region face ≡ false → past_face region face ≡ past_pair region face
  pair_goes region face h = ap (λ r. bind r (λ _. past_pair region face)) (cond-false (named region face) (Err (Repeated line (pair region face))) (Ok tt) h)

  pub numbers_stop : (region face : ℕ) (e : CheckFault) → Err e ≡ number_fields k m region line bytes → Err e ≡ past_pair region face
  numbers_stop region face e h = ap (λ r. bind r (past_numbers region face)) h

  pub numbers_go : (region face : ℕ) (zs : List ℤ) → number_fields k m region line bytes ≡ Ok zs → past_pair region face ≡ past_numbers region face zs
  numbers_go region face zs h = ap (λ r. bind r (past_numbers region face)) h

  pub proof_stops : (region face : ℕ) (zs : List ℤ) (e : CheckFault) → Err e ≡ equations_at k m line (proof_line region face zs) → Err e ≡ past_numbers region face zs
  proof_stops region face zs e h = ap (λ r. bind r (λ _. Ok (proof_line region face zs))) h

  pub proof_goes : (region face : ℕ) (zs : List ℤ) → Ok tt ≡ equations_at k m line (proof_line region face zs) → Ok (proof_line region face zs) ≡ past_numbers region face zs
  proof_goes region face zs h = ap (λ r. bind r (λ _. Ok (proof_line region face zs))) h
