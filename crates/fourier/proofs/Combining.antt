-- The combinations of rows are closed under sums and multiples, and a multiple that refutes shows that the rows can be refuted.
use Rattle.std.proofs.Common.{◌≡◌, ℕ, ◌+◌, ◌*◌, ◌<◌, List, [], ◌∷◌, ◌++◌, ℤ, pos, ◌+ℤ◌, ◌*ℤ◌, sym, refl, ap, ◌∙◌, inl, inr, arith}
use lib.IntN.{*ℤ-zero, zero-*ℤ, +ℤ_idr, +ℤ_idl}
use Rattle.std.specs.List.{AllByRecursion}
use Rattle.std.proofs.ByRecursion.{All-weaker}
use Rattle.std.proofs.lemmas.Int.{ints}
use Rattle.arith.proofs.Ring.{ring}
use Rattle.fourier.specs.Cone.{Place, scale, column, right, Vector, Cone, Refutes, Refutable}
use Rattle.fourier.proofs.Signs.{times_below, times_above, times_zero}

sum_step : (w x r a b : ℤ) → (w *ℤ r +ℤ a) +ℤ (x *ℤ r +ℤ b) ≡ (w +ℤ x) *ℤ r +ℤ (a +ℤ b)
sum_step w x r a b = simp ring

times_step : (n w r a : ℤ) → n *ℤ (w *ℤ r +ℤ a) ≡ (n *ℤ w) *ℤ r +ℤ n *ℤ a
times_step n w r a = simp ring

-- v times a number above 0 is a combination of the rows
abbrev pub Multiple : {X : Type 0} → (X → Vector) → List X → Vector → Type 0
Multiple at rows v = (t : ℕ) × (0 < t) × Cone at rows (λ i. pos t *ℤ v i)

-- a refuting vector times a number above 0 refutes
refutes_times : (t : ℕ) (v : Vector) → 0 < t → Refutes v → Refutes (λ i. pos t *ℤ v i)
refutes_times t v h r = (
  (λ j. times_zero t (v (column j)) (r.0 j)),
  elim r.1 [ inl b ↦ inl (times_below t (v right) h b) | inr e ↦ inr (times_zero t (v right) e.0, times_above t (v scale) h e.1) ],
)

module _ {X : Type 0} (at : X → Vector) where
  pub cone_same : (rows : List X) (v u : Vector) → ((i : Place) → u i ≡ v i) → Cone at rows v → Cone at rows u
  cone_same [] v u e h = λ i. e i ∙ h i
  cone_same (r ∷ rs) v u e h = (h.0, h.1, h.2, λ i. e i ∙ h.3 i)

  cone_zero : (rows : List X) → Cone at rows (λ i. pos 0)
  cone_zero [] = λ i. refl
  cone_zero (r ∷ rs) = (0, (λ i. pos 0), cone_zero rs, λ i. sym (+ℤ_idr (pos 0 *ℤ at r i) ∙ zero-*ℤ (at r i)))

  pub cone_sum : (rows : List X) (u v : Vector) → Cone at rows u → Cone at rows v → Cone at rows (λ i. u i +ℤ v i)
  cone_sum [] u v h k = λ i. ap (λ (x : ℤ). x +ℤ v i) (h i) ∙ +ℤ_idl (v i) ∙ k i
  cone_sum (r ∷ rs) u v h k = (
    h.0 + k.0,
    (λ i. h.1 i +ℤ k.1 i),
    cone_sum rs h.1 k.1 h.2 k.2,
    λ i. rw (h.3 i, k.3 i) (sum_step (pos h.0) (pos k.0) (at r i) (h.1 i) (k.1 i)),
  )

  pub cone_times : (rows : List X) (n : ℕ) (v : Vector) → Cone at rows v → Cone at rows (λ i. pos n *ℤ v i)
  cone_times [] n v h = λ i. ap (λ (x : ℤ). pos n *ℤ x) (h i) ∙ *ℤ-zero (pos n)
  cone_times (r ∷ rs) n v h = (
    n * h.0,
    (λ i. pos n *ℤ h.1 i),
    cone_times rs n h.1 h.2,
    λ i. rw (h.3 i) (times_step (pos n) (pos h.0) (at r i) (h.1 i)),
  )

  cone_more : (r : X) (rs : List X) (v : Vector) → Cone at rs v → Cone at (r ∷ rs) v
  cone_more r rs v h = (0, v, h, λ i. sym (ap (λ (x : ℤ). x +ℤ v i) (zero-*ℤ (at r i)) ∙ +ℤ_idl (v i)))

  pub cone_right : (xs ys : List X) (v : Vector) → Cone at ys v → Cone at (xs ++ ys) v
  cone_right [] ys v h = h
  cone_right (x ∷ xs) ys v h = cone_more x (xs ++ ys) v (cone_right xs ys v h)

  pub cone_left : (xs ys : List X) (v : Vector) → Cone at xs v → Cone at (xs ++ ys) v
  cone_left [] ys v h = cone_same ys (λ i. pos 0) v h (cone_zero ys)
  cone_left (x ∷ xs) ys v h = (h.0, h.1, cone_left xs ys h.1 h.2, h.3)

  -- where every row has 0, so has each combination
  pub cone_keeps_zero : (i : Place) (rows : List X) → AllByRecursion (λ r. at r i ≡ pos 0) rows → (v : Vector) → Cone at rows v → v i ≡ pos 0
  cone_keeps_zero i [] a v h = h i
  cone_keeps_zero i (r ∷ rs) a v h = h.3 i ∙ rw (a.0, cone_keeps_zero i rs a.1 h.1 h.2) (omega (arith, ints))

  -- a multiple that refutes
  pub multiple_refutes : (rows : List X) (v : Vector) → Multiple at rows v → Refutes v → Refutable at rows
  multiple_refutes rows v m r = ((λ i. pos m.0 *ℤ v i), m.2, refutes_times m.0 v m.1 r)

  -- each row is a combination of the rows
  pub cone_each : (rows : List X) → AllByRecursion (λ r. Cone at rows (at r)) rows
  cone_each [] = tt
  cone_each (r ∷ rs) = (
    (1, (λ i. pos 0), cone_zero rs, λ i. omega (arith, ints)),
    All-weaker (λ s. Cone at rs (at s)) (λ s. Cone at (r ∷ rs) (at s)) (λ s. cone_more r rs (at s)) rs (cone_each rs),
  )
