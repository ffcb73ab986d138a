-- The whole run with limits: what its answers say, and where it stops.
use Rattle.std.proofs.Common.{◌≡◌, ℕ, zero, suc, Bool, ◌⊎◌, List, Some, None, Ok, Err, filter, Option, Result, sym, refl, ap, ◌∙◌, subst, inl, inr, arith}
use Rattle.std.specs.List.{ContainsAt as Has, AllByRecursion}
use Rattle.std.proofs.ByRecursion.{All-weaker, all_kept_by, all_has_itself}
use Rattle.fourier.specs.Cone.{Vector, Refutes, Refutable, Narrow, eliminated}
use Rattle.fourier.specs.Search.{first, or_else, searched, Sane}
use Rattle.fourier.specs.Bounded.{Outcome, Found, Nothing, Stopped, Judges, scanned, gone_on, bounded_column, run, Reaches, Stops}
use Rattle.fourier.proofs.Limited.{Passes, column_same, column_each, column_stops, stops_column}
use Rattle.fourier.proofs.Lists.{first_some}
use Rattle.fourier.proofs.Searches.{none_is_none}
use Rattle.fourier.proofs.Sources.{found_refutes}

-- a run that is not stopped has the answer of the search
abbrev Matches : {X F : Type 0} → Outcome X F → Option X → Type 0
Matches (Found r) o = o ≡ Some r
Matches Nothing o = o ≡ None
Matches (Stopped f) o = Unit {0}

matches_scan : {X F : Type 0} (o : Option X) (a : Outcome X F) (b : Option X) → Matches a b → Matches (scanned o a) (or_else o b)
matches_scan (Some r) a b h = refl
matches_scan None a b h = h

matches_end : {X : Type 0} (F : Type 0) (o : Option X) → Matches {X = X} {F = F} (scanned o Nothing) o
matches_end F (Some r) = refl
matches_end F None = refl

module _ {X F : Type 0} (at : X → Vector) (dead live : X → Bool) (join : ℕ → X → X → X) (judged : X → Result X F) (most : ℕ) (crowd : F) where
  -- the run and the column with limits, and the search without
  abbrev ran : ℕ → List X → Outcome X F
  ran = run at dead live join judged most crowd

  abbrev one_column : ℕ → List X → Result (List X) F
  one_column = bounded_column at join judged most crowd

  abbrev found : ℕ → List X → Option X
  found = searched at dead live join

  -- a run by what its first scan and column give
  pub run_at_dead : (n : ℕ) (rows : List X) (r : X) → first dead rows ≡ Some r → ran n rows ≡ Found r
  run_at_dead zero rows r e = ap (λ o. scanned o Nothing) e
  run_at_dead (suc c) rows r e = ap (λ o. scanned o (gone_on (one_column c (filter live rows)) (ran c))) e

  pub run_at_end : (rows : List X) → first dead rows ≡ None → ran 0 rows ≡ Nothing
  run_at_end rows e = ap (λ o. scanned o Nothing) e

  pub run_at_column : (c : ℕ) (rows : List X) (x : Result (List X) F) → first dead rows ≡ None → one_column c (filter live rows) ≡ x → ran (suc c) rows ≡ gone_on x (ran c)
  run_at_column c rows x e m = ap (λ o. scanned o (gone_on (one_column c (filter live rows)) (ran c))) e ∙ ap (λ x. gone_on x (ran c)) m

  -- the answers are those of the search
  run_matches : Judges judged → (n : ℕ) (rows : List X) → Matches (ran n rows) (found n rows)
  run_matches j zero rows = matches_end F (first dead rows)
  run_matches j (suc c) rows =
      matches_scan (first dead rows) (gone_on (one_column c left) (ran c)) (found c (eliminated at c (join c) left)) (by_column (one_column c left) refl (run_matches j c))
    where
      left : List X
      left = filter live rows

      by_column : (x : Result (List X) F) → one_column c left ≡ x → ((next : List X) → Matches (ran c next) (found c next)) → Matches (gone_on x (ran c)) (found c (eliminated at c (join c) left))
      by_column (Ok next) e more = subst (λ rows. Matches (ran c next) (found c rows)) (column_same at join judged most crowd j c left next e).0 (more next)
      by_column (Err f) e more = tt

  pub run_found : Judges judged → (n : ℕ) (rows : List X) (r : X) → ran n rows ≡ Found r → found n rows ≡ Some r
  run_found j n rows r e = subst (λ o. Matches o (found n rows)) e (run_matches j n rows)

  pub run_nothing : Judges judged → (n : ℕ) (rows : List X) → ran n rows ≡ Nothing → found n rows ≡ None
  run_nothing j n rows e = subst (λ o. Matches o (found n rows)) e (run_matches j n rows)

  -- a run is stopped exactly where it reaches a column that stops
  pub run_stops : Judges judged → (n : ℕ) (start : List X) (f : F) → ran n start ≡ Stopped f → Stops at dead live join judged most crowd n start f
  run_stops j zero start f e = by_scan (first dead start) e
    where
      by_scan : (o : Option X) → ◌≡◌ {A = Outcome X F} (scanned o Nothing) (Stopped f) → Stops at dead live join judged most crowd zero start f
      by_scan (Some r) k = absurd (grind arith)
      by_scan None k = absurd (grind arith)
  run_stops j (suc n) start f e = by_scan (first dead start) refl (one_column n left) refl e (λ next. run_stops j n next f)
    where
      left : List X
      left = filter live start

      by_scan : (o : Option X) → first dead start ≡ o → (x : Result (List X) F) → one_column n left ≡ x → scanned o (gone_on x (ran n)) ≡ Stopped f
          → ((next : List X) → ran n next ≡ Stopped f → Stops at dead live join judged most crowd n next f) → Stops at dead live join judged most crowd (suc n) start f
      by_scan (Some r) o x m k more = absurd (grind arith)
      by_scan None o (Ok next) m k more = let s = more next k in (s.0, s.1, (o, inr (next, m, s.2)), s.3)
      by_scan None o (Err g) m k more =
          let same : one_column n left ≡ Err f = cc in
          (n, left, (o, inl (refl, refl)), column_stops at join judged most crowd j n left f same)

  reaches_stops : (n : ℕ) (start : List X) (c : ℕ) (rows : List X) (f : F) → Reaches at dead live join judged most crowd n start c rows → one_column c rows ≡ Err f → ran n start ≡ Stopped f
  reaches_stops zero start c rows f h e = absurd h
  reaches_stops (suc n) start c rows f h e = by_place h.1 (λ next. reaches_stops n next c rows f)
    where
      left : List X
      left = filter live start

      by_place : ((c ≡ n) × (rows ≡ left)) ⊎ ((next : List X) × (one_column n left ≡ Ok next) × Reaches at dead live join judged most crowd n next c rows)
          → ((next : List X) → Reaches at dead live join judged most crowd n next c rows → one_column c rows ≡ Err f → ran n next ≡ Stopped f) → ran (suc n) start ≡ Stopped f
      by_place (inl k) more =
          run_at_column n start (Err f) h.0 (subst (λ c. one_column c left ≡ Err f) k.0 (subst (λ rows. one_column c rows ≡ Err f) k.1 e))
      by_place (inr k) more = run_at_column n start (Ok k.0) h.0 k.1 ∙ more k.0 k.2 e

  pub stops_run : (n : ℕ) (start : List X) (f : F) → Stops at dead live join judged most crowd n start f → ran n start ≡ Stopped f
  stops_run n start f h = reaches_stops n start h.0 h.1 f h.2 (stops_column at join judged most crowd h.0 h.1 f h.3)

  -- what the start rows have, and the joins of two rows that pass, a row that is found has
  pub run_found_each : Judges judged → (P : X → Type 0) → Passes at join judged P → (n : ℕ) (rows : List X) (r : X) → AllByRecursion P rows → ran n rows ≡ Found r → P r
  run_found_each j P passes zero rows r each e = by_scan (first dead rows) refl
    where
      by_scan : (o : Option X) → first dead rows ≡ o → P r
      by_scan (Some s) o = let k = sym e ∙ run_at_dead 0 rows s o in let same : s ≡ r = cc in subst P same (first_some P dead rows s each o).0
      by_scan None o = let k = sym e ∙ run_at_end rows o in absurd (grind arith)
  run_found_each j P passes (suc c) rows r each e = by_scan (first dead rows) refl (one_column c left) refl (λ next. run_found_each j P passes c next r)
    where
      left : List X
      left = filter live rows

      by_scan : (o : Option X) → first dead rows ≡ o → (x : Result (List X) F) → one_column c left ≡ x → ((next : List X) → AllByRecursion P next → ran c next ≡ Found r → P r) → P r
      by_scan (Some s) o x m more = let k = sym e ∙ run_at_dead (suc c) rows s o in let same : s ≡ r = cc in subst P same (first_some P dead rows s each o).0
      by_scan None o (Ok next) m more =
          more next (column_each at join judged most crowd j P passes c left next (all_kept_by live P rows each) m) (sym (run_at_column c rows (Ok next) o m) ∙ e)
      by_scan None o (Err f) m more = let k = sym e ∙ run_at_column c rows (Err f) o m in absurd (grind arith)

  -- it is a start row, or has passed
  pub run_found_passed : Judges judged → (n : ℕ) (rows : List X) (r : X) → ran n rows ≡ Found r → Has rows r ⊎ (judged r ≡ Ok r)
  run_found_passed j n rows r e =
      run_found_each j (λ s. Has rows s ⊎ (judged s ≡ Ok s)) (λ c p q a b plus minus passed. inr passed) n rows r (All-weaker _ _ (λ s h. inl h) rows (all_has_itself rows)) e

  -- where judging leaves rows as they are, and tests and joins are sane
  module _ (j : Judges judged) (Good : X → Type 0) (sane : Sane at dead live join Good) (n : ℕ) (rows : List X) (good : AllByRecursion Good rows) where
    pub run_nothing_is_none : AllByRecursion (Narrow at n) rows → ran n rows ≡ Nothing → Refutable at rows → ⊥
    run_nothing_is_none narrow e = none_is_none at dead live join Good sane n rows good narrow (run_nothing j n rows e)

    pub run_found_refutes : (r : X) → ran n rows ≡ Found r → Refutes (at r) × Good r × Refutable at rows
    run_found_refutes r e = found_refutes at dead live join Good sane rows n r good (run_found j n rows r e)
