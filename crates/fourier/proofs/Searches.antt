-- The elimination without limits: no dead row means no refutation, and a row that is found is dead.
use Rattle.std.proofs.Common.{◌≡◌, ℕ, zero, suc, ◌≤◌, Bool, true, false, ◌⊎◌, List, [], ℤ, pos, ◌+ℤ◌, ◌*ℤ◌, neg_ℤ, Some, None, filter, Option, refl, ap, ◌∙◌, subst, inl, inr, ⊎_elim, arith}
use Rattle.std.specs.List.{AllByRecursion}
use Rattle.std.proofs.ByRecursion.{All-weaker, All-append, all_kept_by}
use Rattle.std.proofs.lemmas.Int.{ints}
use Rattle.arith.proofs.Ring.{ring}
use Rattle.fourier.specs.Cone.{column, Vector, Refutable, Slack, Narrow, Joins, is_zero, zeros, eliminated, Joined}
use Rattle.fourier.specs.Search.{first, or_else, searched, Sane}
use Rattle.fourier.proofs.Columns.{column_keeps, zeros_zero}
use Rattle.fourier.proofs.Drops.{drop_keeps, none_refutes}
use Rattle.fourier.proofs.Lists.{all_by_two, none_kept, all_paired, all_pairs, first_none, first_some}
use Rattle.fourier.proofs.Signs.{times_is_zero}

or_else_none : {X : Type 0} (a b : Option X) → or_else a b ≡ None → (a ≡ None) × (b ≡ None)
or_else_none None b e = (refl, e)
or_else_none (Some x) b e = absurd (grind arith)

or_else_some : {X : Type 0} (a b : Option X) (r : X) → or_else a b ≡ Some r → (a ≡ Some r) ⊎ (b ≡ Some r)
or_else_some None b r e = inr e
or_else_some (Some x) b r e = inl e

-- column c falls out of a joined row, and what was 0 in both stays 0
cross_same : (a b : ℤ) → a *ℤ b +ℤ neg_ℤ b *ℤ a ≡ pos 0
cross_same a b = simp ring (omega (arith, ints))

cross_zero : (a b x y : ℤ) → x ≡ pos 0 → y ≡ pos 0 → a *ℤ x +ℤ b *ℤ y ≡ pos 0
cross_zero a b x y e f = rw (e, f) (omega (arith, ints))

at_or_past : (c j : ℕ) → c ≤ j → (j ≡ c) ⊎ (suc c ≤ j)
at_or_past zero zero l = inl refl
at_or_past zero (suc j) l = inr (omega arith)
at_or_past (suc c) zero l = absurd (omega arith)
at_or_past (suc c) (suc j) l = elim (at_or_past c j (omega arith)) [ inl e ↦ inl (ap suc e) | inr m ↦ inr (omega arith) ]

-- one column fewer, for a row with 0 there and for a joined row
module _ {X : Type 0} (at : X → Vector) where
  narrow_zero : (c : ℕ) (r : X) → Narrow at (suc c) r → at r (column c) ≡ pos 0 → Narrow at c r
  narrow_zero c r h e j l = elim (at_or_past c j l) [ inl p ↦ rw p e | inr m ↦ h j m ]

  narrow_join : (c : ℕ) (p q r : X) → Joins c (at p) (at q) (at r) → Narrow at (suc c) p → Narrow at (suc c) q → Narrow at c r
  narrow_join c p q r h hp hq j l =
      times_is_zero h.0 (at r (column j)) h.1
      (h.2 (column j) ∙ elim (at_or_past c j l) [
        | inl e ↦ rw e (cross_same (at p (column c)) (at q (column c)))
        | inr m ↦ cross_zero (at p (column c)) (neg_ℤ (at q (column c))) (at q (column j)) (at p (column j)) (hq j m) (hp j m)
      ])

module _ {X : Type 0} (at : X → Vector) (dead live : X → Bool) (join : ℕ → X → X → X) (Good : X → Type 0) (sane : Sane at dead live join Good) where
  -- the rows of the next column are good, and the column is 0 in them
  good_next : (c : ℕ) (rows : List X) → AllByRecursion Good rows → AllByRecursion Good (eliminated at c (join c) rows)
  good_next c rows good =
      All-append Good (zeros at c rows) _ (all_kept_by (λ r. is_zero (at r (column c))) Good rows good)
      (all_paired Good (join c) _ _ (all_pairs at c Good (λ p q. Good (join c p q)) rows (sane.keeps c) good))

  narrow_next : (c : ℕ) (rows : List X) → AllByRecursion Good rows → AllByRecursion (Narrow at (suc c)) rows → AllByRecursion (Narrow at c) (eliminated at c (join c) rows)
  narrow_next c rows good narrow =
      let Both : X → Type 0 = λ r. Good r × Narrow at (suc c) r in
      let both : AllByRecursion Both rows = all_by_two Good (Narrow at (suc c)) Both (λ r g n. (g, n)) rows good narrow in
      All-append (Narrow at c) (zeros at c rows) _
      (all_by_two (Narrow at (suc c)) (λ r. at r (column c) ≡ pos 0) (Narrow at c) (narrow_zero at c) (zeros at c rows) (all_kept_by (λ r. is_zero (at r (column c))) (Narrow at (suc c)) rows narrow) (zeros_zero at c rows))
      (all_paired (Narrow at c) (join c) _ _
      (all_pairs at c Both (λ p q. Narrow at c (join c p q)) rows
      (λ p q a b plus minus. narrow_join at c p q (join c p q) (sane.joins c p q a.0 b.0 plus minus) a.1 b.1) both))

  -- a scan that finds no dead row loses no refutation
  scan_keeps : (rows : List X) → AllByRecursion Good rows → first dead rows ≡ None → Refutable at rows → Refutable at (filter live rows)
  scan_keeps rows good none =
      drop_keeps at live rows (all_by_two Good (λ r. dead r ≡ false) (λ r. live r ≡ false → Slack (at r)) sane.spared rows good (first_none dead rows none))

  -- no dead row: no combination of the rows refutes
  pub none_is_none : (n : ℕ) (rows : List X) → AllByRecursion Good rows → AllByRecursion (Narrow at n) rows → searched at dead live join n rows ≡ None → Refutable at rows → ⊥
  none_is_none zero rows good narrow e h =
      let empty : filter live rows ≡ [] = none_kept live rows (All-weaker (Narrow at 0) (λ r. live r ≡ false) (λ r z. sane.bare r (λ j. z j (omega arith))) rows narrow) in
      none_refutes at (subst (Refutable at) empty (scan_keeps rows good e h))
  none_is_none (suc c) rows good narrow e h =
      let left = filter live rows in
      let both = or_else_none (first dead rows) (searched at dead live join c (eliminated at c (join c) left)) e in
      let good' = all_kept_by live Good rows good in
      let narrow' = all_kept_by live (Narrow at (suc c)) rows narrow in
      let joins : Joined at c (join c) left = all_pairs at c Good (λ p q. Joins c (at p) (at q) (at (join c p q))) left (sane.joins c) good' in
      none_is_none c (eliminated at c (join c) left) (good_next c left good') (narrow_next c left good' narrow') both.1
      (column_keeps at c (join c) left joins (scan_keeps rows good both.0 h))

  -- a row that is found is good and dead
  pub found_is_dead : (n : ℕ) (rows : List X) (r : X) → AllByRecursion Good rows → searched at dead live join n rows ≡ Some r → Good r × (dead r ≡ true)
  found_is_dead zero rows r good e = first_some Good dead rows r good e
  found_is_dead (suc c) rows r good e =
      let left = filter live rows in
      ⊎_elim (first_some Good dead rows r good)
      (found_is_dead c (eliminated at c (join c) left) r (good_next c left (all_kept_by live Good rows good)))
      (or_else_some (first dead rows) (searched at dead live join c (eliminated at c (join c) left)) r e)
