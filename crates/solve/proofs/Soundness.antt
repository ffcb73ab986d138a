-- A good row that refutes gives a proof of the face.
use Rattle.std.proofs.Common.{◌≡◌, ◌⊎◌, List, map, length, get_or, take, ℤ, pos, negsuc, ◌+ℤ◌, ◌*ℤ◌, neg_ℤ, ◌≤ℤ◌, ◌<ℤ◌, sym, ap, ◌∙◌, inl, inr, arith}
use lib.IntN.{zero-*ℤ}
use Rattle.std.proofs.ByRecursion.{All-take}
use Rattle.std.proofs.lemmas.List.{ext_get_or, length-map, length-take-le}
use Rattle.std.proofs.lemmas.Int.{ints}
use Rattle.arith.specs.Products.{dot}
use Rattle.arith.proofs.Ring.{*ℤ_neg}
use Rattle.control.specs.Meaning.{Row as Inequality}
use Rattle.case.specs.System.{column_count}
use Rattle.case.specs.Values.{CaseValues}
use Rattle.certificate.specs.Certificates.{scaled, column_sums, right_sum, face_over_next, Proves}
use Rattle.certificate.proofs.Turns.{column_sums_long}
use Rattle.fourier.specs.Cone.{Refutes}
use Rattle.elimination.specs.declared.row.Row.{Row}
use Rattle.elimination.specs.Rows.{at, coefficient}
use Rattle.elimination.specs.Traced.{Source, source_at, source_right}
use Rattle.solve.proofs.Places.{get_or_scaled, get_or_negated, dot_take, source, column_at, right_at}
use Rattle.solve.proofs.Start.{Startable, turned_source}
use Rattle.solve.proofs.Joining.{Good}

-- a column that is 0 gives the face's column
balances : (s f t d z : ℤ) → z ≡ d +ℤ s *ℤ t → z ≡ pos 0 → t ≡ neg_ℤ f → d ≡ s *ℤ f
balances s f t d z e ez et = omega (arith, ints, e, ez, ap (λ (x : ℤ). s *ℤ x) et, *ℤ_neg s f)

at_most : (s b d z : ℤ) → z ≡ d +ℤ s *ℤ neg_ℤ b → (z <ℤ pos 0) ⊎ ((z ≡ pos 0) × (pos 0 <ℤ s)) → d ≤ℤ (s *ℤ b)
at_most s b d z e (inl h) = omega (arith, ints, e, *ℤ_neg s b)
at_most s b d z e (inr h) = omega (arith, ints, e, h.0, *ℤ_neg s b)

below : (s b d z : ℤ) → z ≡ d +ℤ s *ℤ neg_ℤ b → (z <ℤ pos 0) ⊎ ((z ≡ pos 0) × (pos 0 <ℤ s)) → s ≡ pos 0 → d ≤ℤ negsuc 0
below s b d z e (inl h) es = omega (arith, ints, e, ap (λ (x : ℤ). x *ℤ neg_ℤ b) es, zero-*ℤ (neg_ℤ b))
below s b d z e (inr h) es = absurd (omega (arith, ints, h.1, es))

module _ (k : CaseValues) (rows : List Inequality) (face : Inequality) (startable : Startable k rows face) (r : Row) (good : Good (map source rows) (turned_source k face) (length rows) r) where
  abbrev used : List ℤ
  used = take (length rows) r.multipliers

  used_dot : (part : Source → ℤ) → dot used (map part (map source rows)) ≡ dot r.multipliers (map part (map source rows))
  used_dot part =
      let vs = map part (map source rows) in
      let e : length rows ≡ length vs = sym (length-map (map source rows) part ∙ length-map rows source) in
      ap (λ n. dot (take n r.multipliers) vs) e ∙ dot_take r.multipliers vs

  columns_same : Refutes (at r) → column_sums (column_count k) used rows ≡ scaled r.scale (face_over_next k face)
  columns_same h =
      let f = face_over_next k face in
      let long = column_sums_long (column_count k) used rows startable.each in
      ext_get_or (pos 0) (column_sums (column_count k) used rows) (scaled r.scale f) (long ∙ sym (length-map f (λ z. r.scale *ℤ z) ∙ startable.face_long))
      (λ j l. column_at (column_count k) used rows j startable.each ∙ used_dot (source_at j)
      ∙ balances r.scale (get_or f j (pos 0)) (get_or (map neg_ℤ f) j (pos 0)) (dot r.multipliers (map (source_at j) (map source rows))) (coefficient r j) (good.traced.columns j) (h.0 j) (get_or_negated f j)
      ∙ sym (get_or_scaled r.scale f j))

  right_is : r.right ≡ right_sum used rows +ℤ r.scale *ℤ neg_ℤ face.right
  right_is = good.traced.right ∙ ap (λ (z : ℤ). z +ℤ r.scale *ℤ neg_ℤ face.right) (sym (right_at used rows ∙ used_dot source_right))

  pub row_proves : Refutes (at r) → Proves k rows face r.scale used
  row_proves h = record {
    long = length-take-le (length rows) r.multipliers (omega (arith, startable.few, good.long));
    scale_low = good.scale_low;
    each_low = All-take (λ m. pos 0 ≤ℤ m) (length rows) r.multipliers good.multipliers_low;
    columns = columns_same h;
    right = at_most r.scale face.right (right_sum used rows) r.right right_is h.1;
    strict = below r.scale face.right (right_sum used rows) r.right right_is h.1;
  }
