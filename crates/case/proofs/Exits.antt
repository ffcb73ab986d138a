-- What an Err or an Ok came from.
use Rattle.std.proofs.Common.{◌≡◌, ℕ, List, ℤ, Ok, Err, Result, sym, refl, ap, ◌∙◌, arith}
use Rattle.text.specs.Lines.{bind}
use Rattle.text.proofs.Forming.{ok_same}
use Rattle.case.specs.Stored.{rows_stored, held_rows, body_stored, rows_from}
use Rattle.case.specs.Texts.{CaseText}
use Rattle.case.specs.declared.faults.CaseFault.{CaseFault}
use Rattle.case.specs.declared.rows.CaseRows.{CaseRows}

pub bind_at : {X Y E : Type 0} (r : Result X E) (k : X → Result Y E) (x : X) → r ≡ Ok x → bind r k ≡ k x
bind_at r k x e = ap (λ t. bind t k) e

-- a value and the rest of a text, where the value is held in another shape
abbrev shown : {X Y E : Type 0} → (X → Y) → Result (X × List ℕ) E → Result (Y × List ℕ) E
shown f r = bind r (λ p. Ok (f p.0, p.1))

shown_ok : {X Y E : Type 0} (f : X → Y) (r : Result (X × List ℕ) E) (y : Y) (rest : List ℕ) → Ok (y, rest) ≡ shown f r → (x : X) × (r ≡ Ok (x, rest)) × (y ≡ f x)
shown_ok f (Ok p) y rest h =
    let k = ok_same (y, rest) (f p.0, p.1) h in
    (p.0, ap (λ t. Ok (p.0, t)) (sym (ap (λ t. t.1) k)), ap (λ t. t.0) k)
shown_ok f (Err d) y rest h = grind arith

shown_err : {X Y E : Type 0} (f : X → Y) (r : Result (X × List ℕ) E) (e : E) → Err e ≡ shown f r → r ≡ Err e
shown_err f (Ok p) e h = grind arith
shown_err f (Err d) e h = let k : d ≡ e = cc in ap Err k

rows_is : (r : Result (List (List ℤ) × List ℕ) CaseFault) → rows_stored r ≡ shown held_rows r
rows_is (Ok p) = refl
rows_is (Err e) = refl

body_is : (r : Result (CaseText × List ℕ) CaseFault) → body_stored r ≡ shown rows_from r
body_is (Ok p) = refl
body_is (Err e) = refl

pub rows_ok : (r : Result (List (List ℤ) × List ℕ) CaseFault) (rows : List (List ℤ)) (rest : List ℕ) → Ok (rows, rest) ≡ rows_stored r
    → (zs : List (List ℤ)) × (r ≡ Ok (zs, rest)) × (rows ≡ held_rows zs)
rows_ok r rows rest h = shown_ok held_rows r rows rest (h ∙ rows_is r)

pub rows_err : (r : Result (List (List ℤ) × List ℕ) CaseFault) (e : CaseFault) → Err e ≡ rows_stored r → r ≡ Err e
rows_err r e h = shown_err held_rows r e (h ∙ rows_is r)

pub body_ok : (r : Result (CaseText × List ℕ) CaseFault) (rows : CaseRows) (rest : List ℕ) → Ok (rows, rest) ≡ body_stored r
    → (t : CaseText) × (r ≡ Ok (t, rest)) × (rows ≡ rows_from t)
body_ok r rows rest h = shown_ok rows_from r rows rest (h ∙ body_is r)

pub body_err : (r : Result (CaseText × List ℕ) CaseFault) (e : CaseFault) → Err e ≡ body_stored r → r ≡ Err e
body_err r e h = shown_err rows_from r e (h ∙ body_is r)
