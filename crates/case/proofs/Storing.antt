-- What a case text stores, and the values of it.
use Rattle.std.proofs.Common.{◌≡◌, ℕ, suc, ◌+◌, ◌-◌, ◌≤◌, true, List, [], ◌∷◌, ◌++◌, map, length, get_or, take, drop, replicate, ℤ, pos, sym, refl, ap, ◌∙◌, arith}
use Rattle.std.specs.List.{AllByRecursion}
use Rattle.std.proofs.ByRecursion.{All-weaker}
use Rattle.std.proofs.lemmas.List.{length-append, length-replicate, length-drop, length-map, length-take-le, take_all, take-append-le, take-map, drop-append-le}
use Rattle.control.specs.Limits.{most_states, most_inputs}
use Rattle.text.specs.Lines.{padded, row_width}
use Rattle.text.proofs.Forming.{fit_length}
use Rattle.case.specs.Fields.{around, dynamics_limits, extra_limits}
use Rattle.case.specs.Forms.{RowKept, AnyRow, CaseKept, sizes_from}
use Rattle.case.specs.Limits.{most_pushes, most_extras, entry_limit, extra_limit, all_equations_ok, all_bounds_ok, all_extras_ok, all_wide}
use Rattle.text.specs.Blocks.{filled}
use Rattle.case.specs.Stored.{equation_from, equations_from, bounds_from, extra_from, case_values, padded_equation, padded_extra, no_equation, no_bounds, no_extra, Stored, line_after, stored_values, held_rows, rows_from}
use Rattle.case.specs.Texts.{CaseText, CaseSizes, proofs_line}
use Rattle.case.specs.Values.{CaseValues, equation_of, extra_of}
use Rattle.case.specs.declared.rows.CaseRows.{CaseRows}
use Rattle.case.specs.declared.values.ExtraFace.{ExtraFace}
use Rattle.case.specs.declared.values.PushBounds.{PushBounds}
use Rattle.case.specs.declared.values.StateEquation.{StateEquation}
use Rattle.case.proofs.Filling.{filled_length}
use Rattle.text.proofs.Padding.{padding}
use Rattle.case.proofs.Keeping.{equations_kept, wide_kept, bounds_kept, extras_kept}

-- Rows with zeros behind them.

part_padded : (f c : ℕ) (d : List ℤ) → f + c ≤ length d → take c (drop f (padded d)) ≡ take c (drop f d)
part_padded f c d h =
    let z = replicate (row_width - length d) (pos 0) in
    ap (take c) (drop-append-le f d z (omega arith)) ∙ take-append-le c (drop f d) z (omega (arith, length-drop f d))

equation_padded : (n m p : ℕ) (s d : List ℤ) → n + m + p ≤ length d → equation_from n m p (padded s) (padded d) ≡ equation_from n m p s d
equation_padded n m p s d h =
    let k = row_width - length s in
    let e0 = padding s k 0 in
    let e1 = padding s k 1 in
    let e2 = padding s k 2 in
    let e3 = padding s k 3 in
    let a = part_padded 0 n d (omega arith) in
    let b = part_padded n m d (omega arith) in
    let e = part_padded (n + m) p d (omega arith) in
    rw (e0, e1, e2, e3, a, b, e) refl

bounds_padded : (row : List ℤ) → bounds_from (padded row) ≡ bounds_from row
bounds_padded row =
    let k = row_width - length row in
    let a = padding row k 0 in
    let b = padding row k 1 in
    rw (a, b) refl

extra_padded : (n : ℕ) (row : List ℤ) → n ≤ length row → extra_from n (padded row) ≡ extra_from n row
extra_padded n row h =
    let a = part_padded 0 n row (omega arith) in
    let b = padding row (row_width - length row) n in
    rw (a, b) refl

-- What is built of the rows that are held.

front_rows : {Y : Type 0} (P : List ℤ → Type 0) (f : List ℤ → Y) → ((row : List ℤ) → P row → f (padded row) ≡ f row) → (rows xs : List (List ℤ)) → AllByRecursion P rows
    → take (length rows) (map f (map padded rows ++ xs)) ≡ map f rows
front_rows P f same [] xs k = refl
front_rows P f same (row ∷ rows) xs k = ap (λ y. y ∷ take (length rows) (map f (map padded rows ++ xs))) (same row k.0) ∙ ap (λ ys. f row ∷ ys) (front_rows P f same rows xs k.1)

front_equations : (n m p : ℕ) (ss ds xs ys : List (List ℤ)) → length ds ≡ length ss → AllByRecursion (λ d. n + m + p ≤ length d) ds
    → take (length ss) (map padded_equation (equations_from n m p (map padded ss ++ xs) (map padded ds ++ ys))) ≡ map padded_equation (equations_from n m p ss ds)
front_equations n m p [] [] xs ys l k = refl
front_equations n m p [] (d ∷ ds) xs ys l k = absurd (omega arith)
front_equations n m p (s ∷ ss) [] xs ys l k = absurd (omega arith)
front_equations n m p (s ∷ ss) (d ∷ ds) xs ys l k =
    ap (λ e. padded_equation e ∷ take (length ss) (map padded_equation (equations_from n m p (map padded ss ++ xs) (map padded ds ++ ys)))) (equation_padded n m p s d k.0)
    ∙ ap (λ t. padded_equation (equation_from n m p s d) ∷ t) (front_equations n m p ss ds xs ys (omega arith) k.1)

pub dynamics_long : (w : ℕ) (d : List ℤ) → RowKept (dynamics_limits w) AnyRow d → w ≤ length d
dynamics_long w d k = omega (arith, fit_length (dynamics_limits w) d k.0, length-replicate w (around entry_limit))

pub extra_long : (n : ℕ) (row : List ℤ) → RowKept (extra_limits n) AnyRow row → n ≤ length row
extra_long n row k =
    omega (arith, fit_length (extra_limits n) row k.0, length-append (replicate n (around entry_limit)) (around extra_limit ∷ []), length-replicate n (around entry_limit))

equations_length : (n m p : ℕ) (ss ds : List (List ℤ)) → length ds ≡ length ss → length (equations_from n m p ss ds) ≡ length ss
equations_length n m p [] ds l = refl
equations_length n m p (s ∷ ss) [] l = absurd (omega arith)
equations_length n m p (s ∷ ss) (d ∷ ds) l = ap suc (equations_length n m p ss ds (omega arith))

pub filled_front : {X : Type 0} (w k : ℕ) (x : X) (xs : List X) → length xs ≡ k → take k (filled w x xs) ≡ xs
filled_front w k x xs l = take-append-le k xs (replicate (w - length xs) x) (omega arith) ∙ take_all k xs (omega arith)

-- The entries that there are.

part_back : (w c f : ℕ) (d : List ℤ) → f + c ≤ length d → take c (filled w (pos 0) (take c (drop f d))) ≡ take c (drop f d)
part_back w c f d h = filled_front w c (pos 0) (take c (drop f d)) (length-take-le c (drop f d) (omega (arith, length-drop f d)))

equation_back : (n m p : ℕ) (s d : List ℤ) → n + m + p ≤ length d → equation_of n m p (padded_equation (equation_from n m p s d)) ≡ equation_from n m p s d
equation_back n m p s d h =
    let a = part_back most_states n 0 d (omega arith) in
    let b = part_back most_inputs m n d (omega arith) in
    let e = part_back most_pushes p (n + m) d (omega arith) in
    rw (a, b, e) refl

equations_back : (n m p : ℕ) (ss ds : List (List ℤ)) → AllByRecursion (λ d. n + m + p ≤ length d) ds
    → map (equation_of n m p) (map padded_equation (equations_from n m p ss ds)) ≡ equations_from n m p ss ds
equations_back n m p [] ds k = refl
equations_back n m p (s ∷ ss) [] k = refl
equations_back n m p (s ∷ ss) (d ∷ ds) k =
    ap (λ e. e ∷ map (equation_of n m p) (map padded_equation (equations_from n m p ss ds))) (equation_back n m p s d k.0)
    ∙ ap (λ t. equation_from n m p s d ∷ t) (equations_back n m p ss ds k.1)

extras_back : (n : ℕ) (rows : List (List ℤ)) → AllByRecursion (λ row. n ≤ length row) rows → map (extra_of n) (map padded_extra (map (extra_from n) rows)) ≡ map (extra_from n) rows
extras_back n [] k = refl
extras_back n (row ∷ rows) k =
    ap (λ c. record { coefficients = c; right = get_or row n (pos 0) } ∷ map (extra_of n) (map padded_extra (map (extra_from n) rows))) (part_back most_states n 0 row (omega (arith, k.0)))
    ∙ ap (λ t. extra_from n row ∷ t) (extras_back n rows k.1)

-- A case text that keeps the limits.

module _ (t : CaseText) (kept : CaseKept t) (k : CaseSizes) (sizes : sizes_from t ≡ k) where
  abbrev values : CaseValues
  values = case_values t

  dynamics_all : AllByRecursion (λ d. length t.states + t.inputs + length t.pushes ≤ length d) t.dynamics
  dynamics_all = All-weaker _ _ (dynamics_long (length t.states + t.inputs + length t.pushes)) t.dynamics kept.each_dynamics

  extras_all : AllByRecursion (λ row. length t.states ≤ length row) t.extras
  extras_all = All-weaker _ _ (extra_long (length t.states)) t.extras kept.each_extra

  pub count_is : length values.equations ≡ length t.states
  count_is = equations_length (length t.states) t.inputs (length t.pushes) t.states t.dynamics kept.long

  module _ (rows : CaseRows) (held : rows ≡ rows_from t) where
    pub equations_stored : filled most_states no_equation (take k.states (map padded_equation (equations_from k.states k.inputs k.pushes rows.states rows.dynamics)))
        ≡ filled most_states no_equation (map padded_equation values.equations)
    equations_stored =
        ap (λ r. filled most_states no_equation (take k.states (map padded_equation (equations_from k.states k.inputs k.pushes r.states r.dynamics)))) held
        ∙ ap (λ s. filled most_states no_equation (take s.states (map padded_equation (equations_from s.states s.inputs s.pushes (held_rows t.states) (held_rows t.dynamics))))) (sym sizes)
        ∙ ap (filled most_states no_equation)
        (front_equations (length t.states) t.inputs (length t.pushes) t.states t.dynamics _ _ kept.long dynamics_all)

    pub bounds_stored : filled most_pushes no_bounds (take k.pushes (map bounds_from rows.pushes)) ≡ filled most_pushes no_bounds values.bounds
    bounds_stored =
        ap (λ r. filled most_pushes no_bounds (take k.pushes (map bounds_from r.pushes))) held
        ∙ ap (λ s. filled most_pushes no_bounds (take s.pushes (map bounds_from (held_rows t.pushes)))) (sym sizes)
        ∙ ap (filled most_pushes no_bounds) (front_rows _ bounds_from (λ row h. bounds_padded row) t.pushes _ kept.each_push)

    pub extras_stored : filled most_extras no_extra (take k.extras (map padded_extra (map (extra_from k.states) rows.extras)))
        ≡ filled most_extras no_extra (map padded_extra values.extra)
    extras_stored =
        ap (λ r. filled most_extras no_extra (take k.extras (map padded_extra (map (extra_from k.states) r.extras)))) held
        ∙ ap (λ s. filled most_extras no_extra (take s.extras (map padded_extra (map (extra_from s.states) (held_rows t.extras))))) (sym sizes)
        ∙ ap (filled most_extras no_extra)
        (take-map padded_extra (length t.extras) (map (extra_from (length t.states)) (held_rows t.extras))
        ∙ ap (map padded_extra) (front_rows _ (extra_from (length t.states)) (extra_padded (length t.states)) t.extras _ extras_all))

  -- all that is stored, and the values of it
  module _ (D : ℤ) (eqs : List StateEquation) (bs : List PushBounds) (xs : List ExtraFace) (divisor_is : D ≡ k.divisor)
      (eqs_are : eqs ≡ filled most_states no_equation (map padded_equation values.equations)) (bs_are : bs ≡ filled most_pushes no_bounds values.bounds)
      (xs_are : xs ≡ filled most_extras no_extra (map padded_extra values.extra)) where
    pub all_stored : (proofs : List ℕ) (line : ℕ) → line ≡ proofs_line k + 1
        → ◌≡◌ {A = Stored} (record {
          states = k.states;
          inputs = k.inputs;
          pushes = k.pushes;
          extras = k.extras;
          divisor = D;
          equations = eqs;
          bounds = bs;
          extra = xs;
          proofs = proofs;
          line = line;
        }) (stored_values values proofs)
    all_stored proofs line l =
        let n : k.states ≡ length values.equations = ap (λ s. s.states) (sym sizes) ∙ sym count_is in
        let m : k.inputs ≡ t.inputs = ap (λ s. s.inputs) (sym sizes) in
        let p : k.pushes ≡ length values.bounds = ap (λ s. s.pushes) (sym sizes) ∙ sym (length-map t.pushes bounds_from) in
        let e : k.extras ≡ length values.extra = ap (λ s. s.extras) (sym sizes) ∙ sym (length-map t.extras (extra_from (length t.states))) in
        let d : D ≡ t.divisor = divisor_is ∙ ap (λ s. s.divisor) (sym sizes) in
        let i : line ≡ line_after (length values.equations) (length values.bounds) (length values.extra) = omega (arith, l, n, p, e) in
        rw (i, n, m, p, e, d, eqs_are, bs_are, xs_are) refl

    pub values_back : ◌≡◌ {A = CaseValues} (record {
      inputs = k.inputs;
      divisor = D;
      equations = map (equation_of k.states k.inputs k.pushes) (take k.states eqs);
      bounds = take k.pushes bs;
      extra = map (extra_of k.states) (take k.extras xs);
    }) values
    values_back =
        let n : k.states ≡ length t.states = ap (λ s. s.states) (sym sizes) in
        let m : k.inputs ≡ t.inputs = ap (λ s. s.inputs) (sym sizes) in
        let d : D ≡ t.divisor = divisor_is ∙ ap (λ s. s.divisor) (sym sizes) in
        let a : map (equation_of k.states k.inputs k.pushes) (take k.states eqs) ≡ values.equations =
        ap (λ x. map (equation_of k.states k.inputs k.pushes) (take k.states x)) eqs_are
        ∙ ap (map (equation_of k.states k.inputs k.pushes))
        (filled_front most_states k.states no_equation (map padded_equation values.equations) (length-map values.equations padded_equation ∙ count_is ∙ sym n))
        ∙ ap (λ s. map (equation_of s.states s.inputs s.pushes) (map padded_equation values.equations)) (sym sizes)
        ∙ equations_back (length t.states) t.inputs (length t.pushes) t.states t.dynamics dynamics_all in
        let b : take k.pushes bs ≡ values.bounds =
        ap (take k.pushes) bs_are ∙ filled_front most_pushes k.pushes no_bounds values.bounds (length-map t.pushes bounds_from ∙ ap (λ s. s.pushes) sizes) in
        let e : map (extra_of k.states) (take k.extras xs) ≡ values.extra =
        ap (λ x. map (extra_of k.states) (take k.extras x)) xs_are
        ∙ ap (map (extra_of k.states))
        (filled_front most_extras k.extras no_extra (map padded_extra values.extra)
        (length-map values.extra padded_extra ∙ length-map t.extras (extra_from (length t.states)) ∙ ap (λ s. s.extras) sizes))
        ∙ ap (λ s. map (extra_of s.states) (map padded_extra values.extra)) (sym sizes)
        ∙ extras_back (length t.states) t.extras extras_all in
        ap (λ x. record {
          inputs = k.inputs;
          divisor = D;
          equations = x;
          bounds = take k.pushes bs;
          extra = map (extra_of k.states) (take k.extras xs);
        }) a
        ∙ ap (λ x. record { inputs = k.inputs; divisor = D; equations = values.equations; bounds = x; extra = map (extra_of k.states) (take k.extras xs) }) b
        ∙ ap (λ x. record { inputs = k.inputs; divisor = D; equations = values.equations; bounds = values.bounds; extra = x }) e
        ∙ ap (λ x. record { inputs = x; divisor = D; equations = values.equations; bounds = values.bounds; extra = values.extra }) m
        ∙ ap (λ x. record { inputs = t.inputs; divisor = x; equations = values.equations; bounds = values.bounds; extra = values.extra }) d

    -- the facts that a case carries
    pub lengths_are : (length eqs ≡ most_states) × (length bs ≡ most_pushes) × (length xs ≡ most_extras)
    lengths_are =
        let h = kept.sizes in (
          ap length eqs_are ∙ filled_length most_states no_equation (map padded_equation values.equations)
              (omega (arith, length-map values.equations padded_equation, count_is, h.states_high)),
          ap length bs_are ∙ filled_length most_pushes no_bounds values.bounds (omega (arith, length-map t.pushes bounds_from, h.pushes_high)),
          ap length xs_are ∙ filled_length most_extras no_extra (map padded_extra values.extra)
              (omega (arith, length-map values.extra padded_extra, length-map t.extras (extra_from (length t.states)), h.extras_high)),
        )

    pub limits_are : (all_equations_ok eqs ≡ true) × (all_bounds_ok bs ≡ true) × (all_extras_ok xs ≡ true)
    limits_are =
        let h = kept.sizes in (
          ap all_equations_ok eqs_are
              ∙ equations_kept (length t.states) t.inputs (length t.pushes) h.states_high h.inputs_high h.pushes_high t.divisor
              (length t.states + t.inputs + length t.pushes) t.states t.dynamics kept.each_state kept.each_dynamics,
          ap all_bounds_ok bs_are ∙ bounds_kept t.pushes kept.each_push,
          ap all_extras_ok xs_are ∙ extras_kept (length t.states) t.extras h.states_high kept.each_extra,
        )

    pub wide_is : all_wide D (take k.states eqs) ≡ true
    wide_is =
        let h = kept.sizes in
        ap (λ x. all_wide x (take k.states eqs)) (divisor_is ∙ ap (λ s. s.divisor) (sym sizes))
        ∙ ap (λ x. all_wide t.divisor (take k.states x)) eqs_are
        ∙ ap (all_wide t.divisor)
        (filled_front most_states k.states no_equation (map padded_equation values.equations) (length-map values.equations padded_equation ∙ count_is ∙ ap (λ s. s.states) sizes))
        ∙ wide_kept (length t.states) t.inputs (length t.pushes) h.states_high h.inputs_high h.pushes_high t.divisor
        (length t.states + t.inputs + length t.pushes) t.states t.dynamics kept.each_state
