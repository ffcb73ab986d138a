-- One column: a combination in which it is 0 is, times a number above 0, one of the rows after it.
use Rattle.std.proofs.Common.{◌≡◌, ℕ, zero, suc, ◌+◌, ◌*◌, true, cond, List, [], ◌∷◌, ◌++◌, map, ℤ, pos, negsuc, ◌+ℤ◌, ◌*ℤ◌, neg_ℤ, refl, ap, ◌∙◌, arith}
use Rattle.std.specs.List.{AllByRecursion}
use Rattle.std.proofs.ByRecursion.{All-weaker, kept_by_passes}
use Rattle.std.proofs.lemmas.Int.{ints}
use Rattle.arith.proofs.Ring.{ring}
use Rattle.fourier.specs.Cone.{Place, column, Vector, Cone, Refutable, Joins, is_zero, is_positive, is_negative, zeros, positives, negatives, pairs, eliminated, Joined}
use Rattle.fourier.proofs.Combining.{Multiple, cone_same, cone_sum, cone_times, cone_left, cone_right, cone_keeps_zero, multiple_refutes}
use Rattle.fourier.proofs.Signs.{Above, zero_of, above_of, below_of}

-- v is a combination of the zero rows, plus one of the positive, plus one of the negative
abbrev Parts : {X : Type 0} → (X → Vector) → List X → List X → List X → Vector → Type 0
Parts at zs ps ns v = (k : Vector) × (p : Vector) × (n : Vector) × Cone at zs k × Cone at ps p × Cone at ns n × ((i : Place) → v i ≡ k i +ℤ (p i +ℤ n i))

-- p(c) × n - n(c) × p, in which column c is 0
abbrev Cross : ℕ → Vector → Vector → Vector
Cross c p n i = p (column c) *ℤ n i +ℤ neg_ℤ (n (column c)) *ℤ p i

-- f commutes with sums and multiples
abbrev Linear : (ℤ → ℤ) → Type 0
Linear f = (f (pos 0) ≡ pos 0) × ((w x y : ℤ) → f (w *ℤ x +ℤ y) ≡ w *ℤ f x +ℤ f y)

-- f of v at column c is a natural number, and v is 0 where that is 0
abbrev Sized : (ℤ → ℤ) → ℕ → Vector → Type 0
Sized f c v = (t : ℕ) × (f (v (column c)) ≡ pos t) × (t ≡ 0 → (i : Place) → v i ≡ pos 0)

neg_linear : Linear neg_ℤ
neg_linear = (refl, λ w x y. simp ring)

one_step : (pc pi m k r qc qi nc ni : ℤ) → k *ℤ r ≡ pc *ℤ qi +ℤ neg_ℤ qc *ℤ pi → pc *ℤ (m *ℤ qi +ℤ ni) +ℤ neg_ℤ (m *ℤ qc +ℤ nc) *ℤ pi ≡ (m *ℤ k) *ℤ r +ℤ (pc *ℤ ni +ℤ neg_ℤ nc *ℤ pi)
one_step pc pi m k r qc qi nc ni e = let f = ap (λ (x : ℤ). m *ℤ x) e in simp ring (omega (arith, ints, simp ring at f))

many_step : (l pc pi uc ui nc ni : ℤ) → (l *ℤ pc +ℤ uc) *ℤ ni +ℤ neg_ℤ nc *ℤ (l *ℤ pi +ℤ ui) ≡ l *ℤ (pc *ℤ ni +ℤ neg_ℤ nc *ℤ pi) +ℤ (uc *ℤ ni +ℤ neg_ℤ nc *ℤ ui)
many_step l pc pi uc ui nc ni = simp ring

vanish_step : (w r u : ℤ) → w ≡ pos 0 → u ≡ pos 0 → w *ℤ r +ℤ u ≡ pos 0
vanish_step w r u e f = rw (e, f) (omega (arith, ints))

column_step : (t pc nc k p n : ℤ) → pc ≡ t → neg_ℤ nc ≡ t → t *ℤ (k +ℤ (p +ℤ n)) ≡ t *ℤ k +ℤ (pc *ℤ n +ℤ neg_ℤ nc *ℤ p)
column_step t pc nc k p n e f = rw (e, f) (simp ring)

lone_step : (k p n : ℤ) → p ≡ pos 0 → n ≡ pos 0 → pos 1 *ℤ (k +ℤ (p +ℤ n)) ≡ k
lone_step k p n e f = rw (e, f) (omega (arith, ints))

same_size : (v k p n : ℤ) (s t : ℕ) → v ≡ k +ℤ (p +ℤ n) → v ≡ pos 0 → k ≡ pos 0 → p ≡ pos s → neg_ℤ n ≡ pos t → t ≡ s
same_size v k p n s t e vz kz ps nt = omega (arith, ints)

module _ {X : Type 0} (at : X → Vector) where
  -- one row more, which goes to the part that its sign z says
  parts_more : (z : ℤ) (r : X) (zs ps ns : List X) (v u : Vector) (w : ℕ) → ((i : Place) → v i ≡ pos w *ℤ at r i +ℤ u i) → Parts at zs ps ns u → Parts at (cond (is_zero z) (r ∷ zs) zs) (cond (is_positive z) (r ∷ ps) ps) (cond (is_negative z) (r ∷ ns) ns) v
  parts_more (pos zero) r zs ps ns v u w e h =
      ((λ i. pos w *ℤ at r i +ℤ h.0 i), h.1, h.2, (w, h.0, h.3, λ i. refl), h.4, h.5, λ i. e i ∙ rw (h.6 i) (simp ring))
  parts_more (pos (suc m)) r zs ps ns v u w e h =
      (h.0, (λ i. pos w *ℤ at r i +ℤ h.1 i), h.2, h.3, (w, h.1, h.4, λ i. refl), h.5, λ i. e i ∙ rw (h.6 i) (simp ring))
  parts_more (negsuc m) r zs ps ns v u w e h =
      (h.0, h.1, (λ i. pos w *ℤ at r i +ℤ h.2 i), h.3, h.4, (w, h.2, h.5, λ i. refl), λ i. e i ∙ rw (h.6 i) (simp ring))

  parts : (c : ℕ) (rows : List X) (v : Vector) → Cone at rows v → Parts at (zeros at c rows) (positives at c rows) (negatives at c rows) v
  parts c [] v h = ((λ i. pos 0), (λ i. pos 0), (λ i. pos 0), (λ i. refl), (λ i. refl), (λ i. refl), h)
  parts c (r ∷ rs) v h =
      parts_more (at r (column c)) r (zeros at c rs) (positives at c rs) (negatives at c rs) v h.1 h.0 h.3 (parts c rs h.1 h.2)

  -- a positive row crossed with a combination of the negative ones
  one : (c : ℕ) (join : X → X → X) (p : X) (qs : List X) (n : Vector) → AllByRecursion (λ q. Joins c (at p) (at q) (at (join p q))) qs → Cone at qs n → Cone at (map (join p) qs) (Cross c (at p) n)
  one c join p [] n a h = λ i. rw (h i, h (column c)) (omega (arith, ints))
  one c join p (q ∷ qs) n a h = (
    h.0 * a.0.0,
    Cross c (at p) h.1,
    one c join p qs h.1 a.1 h.2,
    λ i. rw (h.3 i, h.3 (column c)) (one_step (at p (column c)) (at p i) (pos h.0) (pos a.0.0) (at (join p q) i) (at q (column c)) (at q i) (h.1 (column c)) (h.1 i) (a.0.2 i)),
  )

  -- a combination of the positive rows crossed with one of the negative ones
  many : (c : ℕ) (join : X → X → X) (ps qs : List X) (p n : Vector) → AllByRecursion (λ p. AllByRecursion (λ q. Joins c (at p) (at q) (at (join p q))) qs) ps → Cone at ps p → Cone at qs n → Cone at (pairs join ps qs) (Cross c p n)
  many c join [] qs p n a h k = λ i. rw (h i, h (column c)) (omega (arith, ints))
  many c join (x ∷ ps) qs p n a h k =
      let here = map (join x) qs in
      let rest = pairs join ps qs in
      let times : Vector = λ i. pos h.0 *ℤ Cross c (at x) n i in
      let both =
      cone_sum at (here ++ rest) times (Cross c h.1 n)
      (cone_left at here rest times (cone_times at here h.0 (Cross c (at x) n) (one c join x qs n a.0 k)))
      (cone_right at here rest (Cross c h.1 n) (many c join ps qs h.1 n a.1 h.2 k)) in
      cone_same at (here ++ rest) (λ i. times i +ℤ Cross c h.1 n i) (Cross c p n)
      (λ i. rw (h.3 i, h.3 (column c)) (many_step (pos h.0) (at x (column c)) (at x i) (h.1 (column c)) (h.1 i) (n (column c)) (n i)))
      both

  -- of rows with f above 0 at column c
  sized : (c : ℕ) (f : ℤ → ℤ) → Linear f → (rs : List X) → AllByRecursion (λ r. Above (f (at r (column c)))) rs → (v : Vector) → Cone at rs v → Sized f c v
  sized c f lin [] a v h = (0, ap f (h (column c)) ∙ lin.0, λ e. h)
  sized c f lin (r ∷ rs) a v h =
      let s = sized c f lin rs a.1 h.1 h.2 in
      let e : f (v (column c)) ≡ pos (h.0 * suc a.0.0 + s.0) = ap f (h.3 (column c)) ∙ lin.1 (pos h.0) (at r (column c)) (h.1 (column c)) ∙ rw (a.0.1, s.1) in (
        h.0 * suc a.0.0 + s.0,
        e,
        λ z i. h.3 i ∙ vanish_step (pos h.0) (at r i) (h.1 i) (ap pos (omega arith)) (s.2 (omega arith) i),
      )

  -- what the rows of each sign have in the column
  positives_above : (c : ℕ) (rows : List X) → AllByRecursion (λ r. Above (at r (column c))) (positives at c rows)
  positives_above c rows = All-weaker (λ r. is_positive (at r (column c)) ≡ true) _ (λ r. above_of (at r (column c))) _ (kept_by_passes _ rows)

  negatives_below : (c : ℕ) (rows : List X) → AllByRecursion (λ r. Above (neg_ℤ (at r (column c)))) (negatives at c rows)
  negatives_below c rows = All-weaker (λ r. is_negative (at r (column c)) ≡ true) _ (λ r. below_of (at r (column c))) _ (kept_by_passes _ rows)

  pub zeros_zero : (c : ℕ) (rows : List X) → AllByRecursion (λ r. at r (column c) ≡ pos 0) (zeros at c rows)
  zeros_zero c rows = All-weaker (λ r. is_zero (at r (column c)) ≡ true) _ (λ r. zero_of (at r (column c))) _ (kept_by_passes _ rows)

  -- t is how much of column c the positive rows bring and the negative ones take
  multiple_at : (c : ℕ) (zs ls : List X) (v k p n : Vector) → Cone at zs k → Cone at ls (Cross c p n) → ((i : Place) → v i ≡ k i +ℤ (p i +ℤ n i))
      → (t : ℕ) → p (column c) ≡ pos t → neg_ℤ (n (column c)) ≡ pos t → (t ≡ 0 → (i : Place) → p i ≡ pos 0) → (t ≡ 0 → (i : Place) → n i ≡ pos 0) → Multiple at (zs ++ ls) v
  multiple_at c zs ls v k p n kz kl e zero pc nc pz nz =
      (1, omega arith, cone_left at zs ls (λ i. pos 1 *ℤ v i) (cone_same at zs k (λ i. pos 1 *ℤ v i) (λ i. rw (e i) (lone_step (k i) (p i) (n i) (pz refl i) (nz refl i))) kz))
  multiple_at c zs ls v k p n kz kl e (suc t) pc nc pz nz = (
    suc t,
    omega arith,
    cone_same at (zs ++ ls) (λ i. pos (suc t) *ℤ k i +ℤ Cross c p n i) (λ i. pos (suc t) *ℤ v i)
        (λ i. rw (e i) (column_step (pos (suc t)) (p (column c)) (n (column c)) (k i) (p i) (n i) pc nc))
        (cone_sum at (zs ++ ls) (λ i. pos (suc t) *ℤ k i) (Cross c p n)
        (cone_left at zs ls (λ i. pos (suc t) *ℤ k i) (cone_times at zs (suc t) k kz))
        (cone_right at zs ls (Cross c p n) kl)),
  )

  -- a combination with 0 in column c is, times a number above 0, one of the rows after the column
  column_multiple : (c : ℕ) (join : X → X → X) (rows : List X) → Joined at c join rows → (v : Vector) → Cone at rows v → v (column c) ≡ pos 0 → Multiple at (eliminated at c join rows) v
  column_multiple c join rows a v h z =
      let q = parts c rows v h in
      let zs = zeros at c rows in
      let ps = positives at c rows in
      let ns = negatives at c rows in
      let kc : q.0 (column c) ≡ pos 0 = cone_keeps_zero at (column c) zs (zeros_zero c rows) q.0 q.3 in
      let sp = sized c (λ x. x) (refl, λ w x y. refl) ps (positives_above c rows) q.1 q.4 in
      let sn = sized c neg_ℤ neg_linear ns (negatives_below c rows) q.2 q.5 in
      let same : sn.0 ≡ sp.0 = same_size (v (column c)) (q.0 (column c)) (q.1 (column c)) (q.2 (column c)) sp.0 sn.0 (q.6 (column c)) z kc sp.1 sn.1 in
      multiple_at c zs (pairs join ps ns) v q.0 q.1 q.2 q.3 (many c join ps ns q.1 q.2 a q.4 q.5) q.6
      sp.0 sp.1 (sn.1 ∙ ap pos same) sp.2 (λ t0. sn.2 (same ∙ t0))

  -- to eliminate a column loses no refutation
  pub column_keeps : (c : ℕ) (join : X → X → X) (rows : List X) → Joined at c join rows → Refutable at rows → Refutable at (eliminated at c join rows)
  column_keeps c join rows a h =
      multiple_refutes at (eliminated at c join rows) h.0 (column_multiple c join rows a h.0 h.1 (h.2.0 c)) h.2
