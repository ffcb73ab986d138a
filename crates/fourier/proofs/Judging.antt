-- Rows judged in order: all pass as they are, or the first that is refused stops.
use Rattle.std.proofs.Common.{◌≡◌, ◌⊎◌, List, [], ◌∷◌, ◌++◌, Ok, Err, Result, sym, refl, ap, ◌∙◌, inl, inr, arith}
use Rattle.std.specs.List.{AllByRecursion}
use Rattle.fourier.specs.Bounded.{Judges, and_then, all_judged, FirstRefused}

module _ {X F : Type 0} (judged : X → Result X F) where
  -- by what comes of the first row
  first_passes : (r : X) (rs : List X) (more : Result (List X) F) → judged r ≡ Ok r → all_judged judged rs ≡ more → all_judged judged (r ∷ rs) ≡ and_then more (λ ss. Ok (r ∷ ss))
  first_passes r rs more e m = ap (λ x. and_then x (λ s. and_then (all_judged judged rs) (λ ss. Ok (s ∷ ss)))) e ∙ ap (λ x. and_then x (λ ss. Ok (r ∷ ss))) m

  first_stops : (r : X) (rs : List X) (f : F) → judged r ≡ Err f → all_judged judged (r ∷ rs) ≡ Err f
  first_stops r rs f e = ap (λ x. and_then x (λ s. and_then (all_judged judged rs) (λ ss. Ok (s ∷ ss)))) e

  -- rows that pass stay as they are
  pub judged_same : Judges judged → (rows new : List X) → all_judged judged rows ≡ Ok new → (new ≡ rows) × AllByRecursion (λ s. judged s ≡ Ok s) rows
  judged_same j [] new e = (grind arith, tt)
  judged_same j (r ∷ rs) new e = by_row (j r) (all_judged judged rs) refl (judged_same j rs)
    where
      by_row : (judged r ≡ Ok r) ⊎ ((f : F) × (judged r ≡ Err f)) → (more : Result (List X) F) → all_judged judged rs ≡ more
          → ((ss : List X) → all_judged judged rs ≡ Ok ss → (ss ≡ rs) × AllByRecursion (λ s. judged s ≡ Ok s) rs) → (new ≡ r ∷ rs) × AllByRecursion (λ s. judged s ≡ Ok s) (r ∷ rs)
      by_row (inl p) (Ok ss) m same =
          let k = sym e ∙ first_passes r rs (Ok ss) p m in
          let later = same ss m in
          (cc later.0, (p, later.1))
      by_row (inl p) (Err f) m same = let k = sym e ∙ first_passes r rs (Err f) p m in absurd (grind arith)
      by_row (inr p) more m same = let k = sym e ∙ first_stops r rs p.0 p.1 in absurd (grind arith)

  refused_later : (r : X) (rs : List X) (f : F) → judged r ≡ Ok r → FirstRefused judged rs f → FirstRefused judged (r ∷ rs) f
  refused_later r rs f e h = (r ∷ h.0, h.1, h.2, ap (λ xs. r ∷ xs) h.3, (e, h.4), h.5)

  -- a fault is that of the first refused row
  pub judged_stops : Judges judged → (rows : List X) (f : F) → all_judged judged rows ≡ Err f → FirstRefused judged rows f
  judged_stops j [] f e = absurd (grind arith)
  judged_stops j (r ∷ rs) f e = by_row (j r) (all_judged judged rs) refl (judged_stops j rs f)
    where
      by_row : (judged r ≡ Ok r) ⊎ ((f : F) × (judged r ≡ Err f)) → (more : Result (List X) F) → all_judged judged rs ≡ more → (all_judged judged rs ≡ Err f → FirstRefused judged rs f) → FirstRefused judged (r ∷ rs) f
      by_row (inl p) (Ok ss) m later = let k = sym e ∙ first_passes r rs (Ok ss) p m in absurd (grind arith)
      by_row (inl p) (Err g) m later =
          let k = sym e ∙ first_passes r rs (Err g) p m in
          let same : all_judged judged rs ≡ Err f = cc in
          refused_later r rs f p (later same)
      by_row (inr p) more m later =
          let k = sym e ∙ first_stops r rs p.0 p.1 in
          let same : judged r ≡ Err f = cc in
          ([], r, rs, refl, tt, same)

  pub refused_stops : (before : List X) (r : X) (after : List X) (f : F) → AllByRecursion (λ s. judged s ≡ Ok s) before → judged r ≡ Err f → all_judged judged (before ++ r ∷ after) ≡ Err f
  refused_stops [] r after f pass e = first_stops r after f e
  refused_stops (s ∷ before) r after f pass e = first_passes s (before ++ r ∷ after) (Err f) pass.0 (refused_stops before r after f pass.1 e)
