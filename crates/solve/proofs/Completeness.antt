-- A proof of the face is a combination of the start rows that refutes.
use Rattle.std.proofs.Common.{◌≡◌, ℕ, zero, suc, ◌⊎◌, List, [], ◌∷◌, ◌++◌, map, length, get_or, ℤ, pos, negsuc, ◌+ℤ◌, ◌*ℤ◌, neg_ℤ, nat_abs, ◌≤ℤ◌, ◌<ℤ◌, sym, refl, ap, ◌∙◌, inl, inr, arith}
use lib.IntN.{*ℤ-zero}
use Rattle.std.specs.List.{AllByRecursion}
use Rattle.std.proofs.lemmas.Int.{ints}
use Rattle.arith.specs.Products.{dot}
use Rattle.arith.proofs.Ring.{*ℤ_neg}
use Rattle.control.specs.Meaning.{Row as Inequality}
use Rattle.case.specs.System.{column_count}
use Rattle.case.specs.Values.{CaseValues}
use Rattle.certificate.specs.Certificates.{right_sum, face_over_next, Proves}
use Rattle.fourier.specs.Cone.{column, scale, right, Vector, Cone, Refutable}
use Rattle.elimination.specs.Rows.{at}
use Rattle.elimination.specs.declared.row.Row.{Row}
use Rattle.elimination.specs.Traced.{Source, source_at, source_right}
use Rattle.solve.specs.Solving.{system_row, system_rows, turned_face, start_rows}
use Rattle.solve.proofs.Places.{get_d_front, get_or_scaled, get_or_negated, source, column_at, right_at}
use Rattle.solve.proofs.Start.{Startable}

-- a number not below 0 is a natural one
natural : (z : ℤ) → pos 0 ≤ℤ z → z ≡ pos (nat_abs z)
natural (pos n) h = refl
natural (negsuc n) h = absurd (omega (arith, ints))

-- the combination of rows by multipliers, and of a last row by s: its columns, right side and scale
pub record Combined (rows : List Row) (sources : List Source) (last : Row) (ms : List ℤ) (s : ℤ) : Type 0 where
  pub sum : Vector
  pub cone : Cone at rows sum
  pub columns : (j : ℕ) → sum (column j) ≡ dot ms (map (source_at j) sources) +ℤ s *ℤ at last (column j)
  pub right : sum right ≡ dot ms (map source_right sources) +ℤ s *ℤ last.right
  pub scale : sum scale ≡ s *ℤ last.scale

last_step : (w : ℕ) (s f : ℤ) → s ≡ pos w → pos w *ℤ f +ℤ pos 0 ≡ pos 0 +ℤ s *ℤ f
last_step w s f e = rw e (omega (arith, ints))

last_scale : (w : ℕ) (s f : ℤ) → s ≡ pos w → pos w *ℤ f +ℤ pos 0 ≡ s *ℤ f
last_scale w s f e = rw e (omega (arith, ints))

more_step : (w : ℕ) (m r c d x u : ℤ) → m ≡ pos w → r ≡ c → u ≡ d +ℤ x → pos w *ℤ r +ℤ u ≡ (m *ℤ c +ℤ d) +ℤ x
more_step w m r c d x u em er eu = rw (em, er, eu) (omega (arith, ints))

more_scale : (w : ℕ) (u x : ℤ) → u ≡ x → pos w *ℤ pos 0 +ℤ u ≡ x
more_scale w u x e = omega (arith, ints, *ℤ-zero (pos w))

pub combined : (i : ℕ) (rs : List Inequality) (last : Row) (ms : List ℤ) (s : ℤ) → length ms ≡ length rs → AllByRecursion (λ m. pos 0 ≤ℤ m) ms → pos 0 ≤ℤ s → Combined (system_rows i rs ++ (last ∷ [])) (map source rs) last ms s
combined i [] last [] s e low ls =
    let w = natural s ls in
    record {
      sum = λ p. pos (nat_abs s) *ℤ at last p +ℤ pos 0;
      cone = (nat_abs s, (λ p. pos 0), (λ p. refl), λ p. refl);
      columns = λ j. last_step (nat_abs s) s (at last (column j)) w;
      right = last_step (nat_abs s) s last.right w;
      scale = last_scale (nat_abs s) s last.scale w;
    }
combined i [] last (m ∷ ms) s e low ls = absurd (omega arith)
combined i (r ∷ rs) last [] s e low ls = absurd (omega arith)
combined i (r ∷ rs) last (m ∷ ms) s e low ls =
    let w = natural m low.0 in
    let h = combined (suc i) rs last ms s (omega arith) low.1 ls in
    let row = system_row i r in
    record {
      sum = λ p. pos (nat_abs m) *ℤ at row p +ℤ h.sum p;
      cone = (nat_abs m, h.sum, h.cone, λ p. refl);
      columns = λ j. more_step (nat_abs m) m (at row (column j)) (get_or r.coefficients j (pos 0)) (dot ms (map (source_at j) (map source rs))) (s *ℤ at last (column j)) (h.sum (column j)) w (get_d_front r.coefficients _ j) (h.columns j);
      right = more_step (nat_abs m) m r.right r.right (dot ms (map source_right (map source rs))) (s *ℤ last.right) (h.sum right) w refl h.right;
      scale = more_scale (nat_abs m) (h.sum scale) (s *ℤ last.scale) h.scale;
    }

-- it refutes
cancels : (s f t d : ℤ) → t ≡ neg_ℤ f → d ≡ s *ℤ f → d +ℤ s *ℤ t ≡ pos 0
cancels s f t d et ed = omega (arith, ints, ed, ap (λ (z : ℤ). s *ℤ z) et, *ℤ_neg s f)

sides : (s b d v z : ℤ) → v ≡ d +ℤ s *ℤ neg_ℤ b → z ≡ s *ℤ pos 1 → pos 0 ≤ℤ s → d ≤ℤ (s *ℤ b) → (s ≡ pos 0 → d ≤ℤ negsuc 0) → (v <ℤ pos 0) ⊎ ((v ≡ pos 0) × (pos 0 <ℤ z))
sides (pos zero) b d v z ev ez ls h strict = inl (omega (arith, ints, strict refl, zero_times b))
  where
    zero_times : (x : ℤ) → pos 0 *ℤ neg_ℤ x ≡ pos 0
    zero_times x = omega (arith, ints)
sides (pos (suc n)) b d v z ev ez ls h strict = by_sign v (omega (arith, ints, *ℤ_neg (pos (suc n)) b))
  where
    by_sign : (u : ℤ) → (u ≤ℤ pos 0) → (u <ℤ pos 0) ⊎ ((u ≡ pos 0) × (pos 0 <ℤ z))
    by_sign (pos zero) l = inr (refl, omega (arith, ints))
    by_sign (pos (suc t)) l = absurd (omega (arith, ints))
    by_sign (negsuc t) l = inl (omega (arith, ints))
sides (negsuc n) b d v z ev ez ls h strict = absurd (omega (arith, ints))

pub proof_refutes : (k : CaseValues) (rows : List Inequality) (face : Inequality) → Startable k rows face → (s : ℤ) (ms : List ℤ) → Proves k rows face s ms → Refutable at (start_rows k rows face)
proof_refutes k rows face startable s ms proof =
    let last = turned_face k face in
    let h = combined 0 rows last ms s proof.long proof.each_low proof.scale_low in
    let f = face_over_next k face in
    let column_sum = λ (j : ℕ). sym (column_at (column_count k) ms rows j startable.each) ∙ ap (λ xs. get_or xs j (pos 0)) proof.columns ∙ get_or_scaled s f j in (
      h.sum,
      h.cone,
      (
        (λ j. h.columns j ∙ cancels s (get_or f j (pos 0)) (at last (column j)) (dot ms (map (source_at j) (map source rows))) (get_d_front (map neg_ℤ f) _ j ∙ get_or_negated f j) (column_sum j)),
        sides s face.right (right_sum ms rows) (h.sum right) (h.sum scale) (h.right ∙ ap (λ (z : ℤ). z +ℤ s *ℤ neg_ℤ face.right) (sym (right_at ms rows))) h.scale proof.scale_low proof.right proof.strict,
      ),
    )
