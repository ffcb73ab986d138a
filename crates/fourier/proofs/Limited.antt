-- One column with limits: what it leaves, and where it stops.
use Rattle.std.proofs.Common.{◌≡◌, ℕ, ◌≤◌, Bool, true, false, leb, List, ◌++◌, length, Ok, Err, Result, sym, refl, ap, ◌∙◌, subst, inl, inr, arith, length-append}
use Rattle.std.specs.List.{AllByRecursion}
use Rattle.std.proofs.ByRecursion.{All-append, all_kept_by}
use Rattle.std.proofs.lemmas.Bool.{leb-true, leb-false, le-leb, lt-leb, cond-true, cond-false}
use Rattle.fourier.specs.Cone.{column, Vector, is_zero, is_positive, is_negative, zeros, positives, negatives, new_rows, eliminated}
use Rattle.fourier.specs.Bounded.{Judges, and_then, all_judged, rows_after, bounded_column, ColumnStops}
use Rattle.fourier.proofs.Judging.{judged_same, judged_stops, refused_stops}
use Rattle.fourier.proofs.Lists.{all_by_two, all_paired, all_pairs, length_pairs}

-- what two rows have, a join of them that passes has
abbrev pub Passes : {X F : Type 0} → (X → Vector) → (ℕ → X → X → X) → (X → Result X F) → (X → Type 0) → Type 0
Passes {X} at join judged P = (c : ℕ) (p q : X) → P p → P q → is_positive (at p (column c)) ≡ true → is_negative (at q (column c)) ≡ true → judged (join c p q) ≡ Ok (join c p q) → P (join c p q)

-- the count of the rows after a column
pub length_eliminated : {X : Type 0} (at : X → Vector) (c : ℕ) (join : X → X → X) (rows : List X) → length (eliminated at c join rows) ≡ rows_after at c rows
length_eliminated at c join rows =
    omega (arith, length-append (zeros at c rows) (new_rows at c join rows), length_pairs join (positives at c rows) (negatives at c rows))

module _ {X F : Type 0} (at : X → Vector) (join : ℕ → X → X → X) (judged : X → Result X F) (most : ℕ) (crowd : F) where
  -- a column that is not crowded, by what comes of its new rows
  column_by : (c : ℕ) (rows : List X) (new : Result (List X) F) → leb (rows_after at c rows) most ≡ true → all_judged judged (new_rows at c (join c) rows) ≡ new → bounded_column at join judged most crowd c rows ≡ and_then new (λ new. Ok (zeros at c rows ++ new))
  column_by c rows new t e = cond-true (leb (rows_after at c rows) most) _ _ t ∙ ap (λ x. and_then x (λ new. Ok (zeros at c rows ++ new))) e

  column_crowded : (c : ℕ) (rows : List X) → leb (rows_after at c rows) most ≡ false → bounded_column at join judged most crowd c rows ≡ Err crowd
  column_crowded c rows t = cond-false (leb (rows_after at c rows) most) _ _ t

  -- a column that passes leaves the rows of the column without limits, and each new one has passed
  pub column_same : Judges judged → (c : ℕ) (rows next : List X) → bounded_column at join judged most crowd c rows ≡ Ok next → (next ≡ eliminated at c (join c) rows) × AllByRecursion (λ s. judged s ≡ Ok s) (new_rows at c (join c) rows)
  column_same j c rows next e = by_test (leb (rows_after at c rows) most) refl (all_judged judged (new_rows at c (join c) rows)) refl
    where
      by_test : (t : Bool) → leb (rows_after at c rows) most ≡ t → (new : Result (List X) F) → all_judged judged (new_rows at c (join c) rows) ≡ new → (next ≡ eliminated at c (join c) rows) × AllByRecursion (λ s. judged s ≡ Ok s) (new_rows at c (join c) rows)
      by_test true t (Ok new) m =
          let k = sym e ∙ column_by c rows (Ok new) t m in
          let front : next ≡ zeros at c rows ++ new = cc in
          let same = judged_same judged j (new_rows at c (join c) rows) new m in
          (front ∙ ap (λ xs. zeros at c rows ++ xs) same.0, same.1)
      by_test true t (Err f) m = let k = sym e ∙ column_by c rows (Err f) t m in absurd (grind arith)
      by_test false t new m = let k = sym e ∙ column_crowded c rows t in absurd (grind arith)

  -- what the rows have, and the joins of two rows that pass, the rows after the column have
  pub column_each : Judges judged → (P : X → Type 0) → Passes at join judged P → (c : ℕ) (rows next : List X) → AllByRecursion P rows → bounded_column at join judged most crowd c rows ≡ Ok next → AllByRecursion P next
  column_each j P passes c rows next each e =
      let s = column_same j c rows next e in
      let Passed : X → Type 0 = λ r. judged r ≡ Ok r in
      let new = all_paired (λ r. Passed r → P r) (join c) _ _ (all_pairs at c P (λ p q. Passed (join c p q) → P (join c p q)) rows (passes c) each) in
      subst (AllByRecursion P) (sym s.0)
      (All-append P (zeros at c rows) _ (all_kept_by (λ r. is_zero (at r (column c))) P rows each) (all_by_two Passed (λ r. Passed r → P r) P (λ r p f. f p) (new_rows at c (join c) rows) s.1 new))

  -- there are at most so many
  pub column_few : Judges judged → (c : ℕ) (rows next : List X) → bounded_column at join judged most crowd c rows ≡ Ok next → length next ≤ most
  column_few j c rows next e = by_test (leb (rows_after at c rows) most) refl
    where
      by_test : (t : Bool) → leb (rows_after at c rows) most ≡ t → length next ≤ most
      by_test true t = omega (arith, leb-true (rows_after at c rows) most t, ap length (column_same j c rows next e).0, length_eliminated at c (join c) rows)
      by_test false t = let k = sym e ∙ column_crowded c rows t in absurd (grind arith)

  -- a fault is that of a crowded column or of a refused row
  pub column_stops : Judges judged → (c : ℕ) (rows : List X) (f : F) → bounded_column at join judged most crowd c rows ≡ Err f → ColumnStops at join judged most crowd c rows f
  column_stops j c rows f e = by_test (leb (rows_after at c rows) most) refl (all_judged judged (new_rows at c (join c) rows)) refl
    where
      by_test : (t : Bool) → leb (rows_after at c rows) most ≡ t → (new : Result (List X) F) → all_judged judged (new_rows at c (join c) rows) ≡ new → ColumnStops at join judged most crowd c rows f
      by_test true t (Ok new) m = let k = sym e ∙ column_by c rows (Ok new) t m in absurd (grind arith)
      by_test true t (Err g) m =
          let k = sym e ∙ column_by c rows (Err g) t m in
          let same : all_judged judged (new_rows at c (join c) rows) ≡ Err f = cc in
          inr (leb-true (rows_after at c rows) most t, judged_stops judged j (new_rows at c (join c) rows) f same)
      by_test false t new m =
          let k = sym e ∙ column_crowded c rows t in
          let same : f ≡ crowd = cc in
          inl (leb-false (rows_after at c rows) most t, same)

  pub stops_column : (c : ℕ) (rows : List X) (f : F) → ColumnStops at join judged most crowd c rows f → bounded_column at join judged most crowd c rows ≡ Err f
  stops_column c rows f (inl h) = column_crowded c rows (lt-leb (rows_after at c rows) most h.0) ∙ ap Err (sym h.1)
  stops_column c rows f (inr h) =
      column_by c rows (Err f) (le-leb (rows_after at c rows) most h.0)
      (ap (all_judged judged) h.1.3 ∙ refused_stops judged h.1.0 h.1.1 h.1.2 f h.1.4 h.1.5)
