-- The answers of the questions, case by case, for every meaning, and the sizes that constructors take.
use Rattle.std.proofs.Common.{◌≡◌, ℕ, ◌+◌, ◌-◌, ◌<◌, ◌≤◌, true, false, cond, ◌&&◌, eqb, ltb, leb, ◌⊎◌, List, length, ℤ, is_ok, Ok, Err, sym, ap, ◌∙◌, inl, inr, arith}
use Rattle.std.proofs.lemmas.Bool.{and_left, and_right, and_from, lt-ltb, le-ltb, le-leb}
use Rattle.control.specs.declared.fault.ControlFault.TheVariants.{Missing, Length}
use Rattle.control.specs.Meaning.{Meaning}
use Rattle.control.specs.Limits.{most_states, most_inputs, sizes_ok}
use Rattle.control.specs.Answers.{present, region_of, row_of, rows_answer, row_answer, row_fills}

-- the sizes that a constructor takes
pub sizes_pass : (n m : ℕ) → 1 ≤ n → n ≤ most_states → 1 ≤ m → m ≤ most_inputs → sizes_ok n m ≡ true
sizes_pass n m a b c d = and_from (leb 1 n && leb n most_states) _ (and_from (leb 1 n) _ (le-leb 1 n a) (le-leb n most_states b)) (and_from (leb 1 m) _ (le-leb 1 m c) (le-leb m most_inputs d))

-- whether place k of a list, counted from 1, is there
pub there : {X : Type 0} (xs : List X) (k : ℕ) → 1 ≤ k → k ≤ length xs → present xs k ≡ true
there xs k low high = and_from (ltb 0 k) (ltb (k - 1) (length xs)) (lt-ltb 0 k (omega arith)) (lt-ltb (k - 1) (length xs) (omega arith))

pub absent : {X : Type 0} (xs : List X) (k : ℕ) → (k < 1) ⊎ (length xs < k) → present xs k ≡ false
absent xs k out =
    elim out [ inl h ↦ and_left (ltb 0 k) _ (le-ltb 0 k (omega arith)) | inr h ↦ and_right (ltb 0 k) (ltb (k - 1) (length xs)) (le-ltb (k - 1) (length xs) (omega arith)) ]

pub rows_found : (m : Meaning) (k : ℕ) → present m.regions k ≡ true → Ok (length (region_of m k)) ≡ rows_answer m k
rows_found m k e = sym (ap (λ b. cond b (Ok (length (region_of m k))) (Err Missing)) e)

pub row_missing : (m : Meaning) (k j : ℕ) (list : List ℤ) → (present m.regions k && present (region_of m k) j) ≡ false → (Err Missing ≡ row_answer m k j list) × (list ≡ row_fills m k j list)
row_missing m k j list e =
    let a : row_answer m k j list ≡ Err Missing = ap (λ b. cond b (cond (eqb (length list) (m.states + m.inputs)) (Ok (row_of m k j).right) (Err Length)) (Err Missing)) e in
    (sym a, sym (ap (λ r. cond (is_ok r) (row_of m k j).coefficients list) a))

pub row_short : (m : Meaning) (k j : ℕ) (list : List ℤ) → (present m.regions k && present (region_of m k) j) ≡ true → eqb (length list) (m.states + m.inputs) ≡ false → (Err Length ≡ row_answer m k j list) × (list ≡ row_fills m k j list)
row_short m k j list e f =
    let a : row_answer m k j list ≡ Err Length =
    ap (λ b. cond b (cond (eqb (length list) (m.states + m.inputs)) (Ok (row_of m k j).right) (Err Length)) (Err Missing)) e
    ∙ ap (λ b. cond b (Ok (row_of m k j).right) (Err Length)) f in
    (sym a, sym (ap (λ r. cond (is_ok r) (row_of m k j).coefficients list) a))

pub row_found : (m : Meaning) (k j : ℕ) (list : List ℤ) → (present m.regions k && present (region_of m k) j) ≡ true → eqb (length list) (m.states + m.inputs) ≡ true → (Ok (row_of m k j).right ≡ row_answer m k j list) × ((row_of m k j).coefficients ≡ row_fills m k j list)
row_found m k j list e f =
    let a : row_answer m k j list ≡ Ok (row_of m k j).right =
    ap (λ b. cond b (cond (eqb (length list) (m.states + m.inputs)) (Ok (row_of m k j).right) (Err Length)) (Err Missing)) e
    ∙ ap (λ b. cond b (Ok (row_of m k j).right) (Err Length)) f in
    (sym a, sym (ap (λ r. cond (is_ok r) (row_of m k j).coefficients list) a))
