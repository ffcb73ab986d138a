-- What is read keeps the limits of a case.
use Rattle.std.proofs.Common.{◌≡◌, ℕ, zero, suc, ◌+◌, ◌-◌, ◌≤◌, Bool, true, ◌&&◌, eqb, List, [], ◌∷◌, ◌++◌, map, length, get_or, take, drop, replicate, ℤ, pos, ◌≤ℤ◌, refl, ◌∙◌, arith}
use lib.Signed.{le_z}
use Rattle.std.specs.List.{AllByRecursion}
use Rattle.std.proofs.ByRecursion.{All-append, All-take, All-drop}
use Rattle.std.proofs.lemmas.List.{length-take}
use Rattle.std.proofs.lemmas.Bool.{and_from, eq-eqb}
use Rattle.arith.proofs.Bounds.{test_from_within}
use Rattle.arith.specs.Bounds.{within, all_within}
use Rattle.control.specs.Limits.{most_states, most_inputs}
use Rattle.text.specs.Forms.{Fit}
use Rattle.text.specs.declared.number.Limit.{Limit}
use Rattle.case.specs.Fields.{around, state_limits, push_limits, dynamics_limits, extra_limits}
use Rattle.case.specs.Forms.{RowKept, InOrder, GoodState, AnyRow}
use Rattle.case.specs.Limits.{most_pushes, most_extras, bound_limit, entry_limit, constant_limit, extra_limit, leeway_limit, range_ok, row_ok, equation_ok, bounds_ok, extra_ok, all_equations_ok, all_bounds_ok, all_extras_ok, is_wide, all_wide}
use Rattle.text.specs.Blocks.{filled}
use Rattle.case.specs.Stored.{equation_from, equations_from, bounds_from, extra_from, padded_equation, padded_extra, no_equation, no_bounds, no_extra}
use Rattle.case.proofs.Filling.{filled_length}
use Rattle.text.proofs.Padding.{le_z_from}

-- Tests of each element of a list.

abbrev Passes : {X : Type 0} → (X → Bool) → X → Type 0
Passes ok x = ok x ≡ true

all_replicate : {X : Type 0} (P : X → Type 0) (k : ℕ) (x : X) → P x → AllByRecursion P (replicate k x)
all_replicate P zero x h = tt
all_replicate P (suc k) x h = (h, all_replicate P k x h)

all_filled : {X : Type 0} (P : X → Type 0) (w : ℕ) (x : X) (xs : List X) → P x → AllByRecursion P xs → AllByRecursion P (filled w x xs)
all_filled P w x xs h k = All-append P xs (replicate (w - length xs) x) k (all_replicate P (w - length xs) x h)

module _ {X : Type 0} (ok : X → Bool) (test : List X → Bool) (none : test [] ≡ true) (more : (x : X) (xs : List X) → test (x ∷ xs) ≡ (ok x && test xs)) where
  passes : (xs : List X) → AllByRecursion (Passes ok) xs → test xs ≡ true
  passes [] h = none
  passes (x ∷ xs) h = more x xs ∙ and_from (ok x) (test xs) h.0 (passes xs h.1)

-- Rows of entries.

abbrev Entries : List ℤ → Type 0
Entries zs = AllByRecursion (Passes (within entry_limit)) zs

row_kept : (w : ℕ) (zs : List ℤ) → length zs ≤ w → Entries zs → row_ok w (filled w (pos 0) zs) ≡ true
row_kept w zs h k =
    and_from (eqb (length (filled w (pos 0) zs)) w) (all_within entry_limit (filled w (pos 0) zs)) (eq-eqb _ _ (filled_length w (pos 0) zs h))
    (passes (within entry_limit) (all_within entry_limit) refl (λ x xs. refl) (filled w (pos 0) zs) (all_filled (Passes (within entry_limit)) w (pos 0) zs refl k))

-- the first c of some entries, from f on
part_kept : (w c f : ℕ) (zs : List ℤ) → c ≤ w → Entries zs → row_ok w (filled w (pos 0) (take c (drop f zs))) ≡ true
part_kept w c f zs h k =
    row_kept w (take c (drop f zs)) (omega (arith, length-take c (drop f zs))) (All-take (Passes (within entry_limit)) c (drop f zs) (All-drop (Passes (within entry_limit)) f zs k))

entries_front : (k : ℕ) (ls : List Limit) (zs : List ℤ) → Fit (replicate k (around entry_limit) ++ ls) zs → Entries (take k zs)
entries_front zero ls zs f = tt
entries_front (suc k) ls [] f = absurd f
entries_front (suc k) ls (z ∷ zs) f = (test_from_within entry_limit z f.0 f.1, entries_front k ls zs f.2)

entries_all : (k : ℕ) (zs : List ℤ) → Fit (replicate k (around entry_limit)) zs → Entries zs
entries_all k [] f = tt
entries_all zero (z ∷ zs) f = absurd f
entries_all (suc k) (z ∷ zs) f = (test_from_within entry_limit z f.0 f.1, entries_all k zs f.2)

last_kept : (k m : ℕ) (zs : List ℤ) → Fit (replicate k (around entry_limit) ++ around m ∷ []) zs → within m (get_or zs k (pos 0)) ≡ true
last_kept zero m [] f = absurd f
last_kept (suc k) m [] f = absurd f
last_kept zero m (z ∷ zs) f = test_from_within m z f.0 f.1
last_kept (suc k) m (z ∷ zs) f = last_kept k m zs f.2

-- States.

abbrev state_ok : List ℤ → Bool
state_ok s =
    range_ok (get_or s 0 (pos 0)) (get_or s 1 (pos 0))
    && ((le_z (pos 0) (get_or s 2 (pos 0)) && le_z (get_or s 2 (pos 0)) (pos leeway_limit)) && within constant_limit (get_or s 3 (pos 0)))

range_from : (low high : ℤ) → within bound_limit low ≡ true → within bound_limit high ≡ true → low ≤ℤ high → range_ok low high ≡ true
range_from low high l h o = and_from (within bound_limit low && within bound_limit high) (le_z low high) (and_from (within bound_limit low) (within bound_limit high) l h) (le_z_from low high o)

state_kept : (D : ℤ) (s : List ℤ) → RowKept state_limits (GoodState D) s → state_ok s ≡ true
state_kept D [] k = absurd k.0
state_kept D (l ∷ []) k = absurd k.0.2
state_kept D (l ∷ h ∷ []) k = absurd k.0.2.2
state_kept D (l ∷ h ∷ r ∷ []) k = absurd k.0.2.2.2
state_kept D (l ∷ h ∷ r ∷ c ∷ s) k =
    let f = k.0 in
    and_from (range_ok l h) ((le_z (pos 0) r && le_z r (pos leeway_limit)) && within constant_limit c)
    (range_from l h (test_from_within bound_limit l f.0 f.1) (test_from_within bound_limit h f.2.0 f.2.1) k.1.0)
    (and_from (le_z (pos 0) r && le_z r (pos leeway_limit)) (within constant_limit c)
    (and_from (le_z (pos 0) r) (le_z r (pos leeway_limit)) (le_z_from _ _ f.2.2.0) (le_z_from _ _ f.2.2.1))
    (test_from_within constant_limit c f.2.2.2.0 f.2.2.2.1))

module _ (n m p : ℕ) (n_high : n ≤ most_states) (m_high : m ≤ most_inputs) (p_high : p ≤ most_pushes) (D : ℤ) (w : ℕ) where
  equation_kept : (s d : List ℤ) → RowKept state_limits (GoodState D) s → RowKept (dynamics_limits w) AnyRow d → equation_ok (padded_equation (equation_from n m p s d)) ≡ true
  equation_kept s d ks kd =
      let e = entries_all w d kd.0 in
      and_from (state_ok s) _ (state_kept D s ks)
      (and_from (row_ok most_states (filled most_states (pos 0) (take n d))) _ (part_kept most_states n 0 d n_high e)
      (and_from (row_ok most_inputs (filled most_inputs (pos 0) (take m (drop n d)))) _ (part_kept most_inputs m n d m_high e) (part_kept most_pushes p (n + m) d p_high e)))

  each_equation : (ss ds : List (List ℤ)) → AllByRecursion (RowKept state_limits (GoodState D)) ss → AllByRecursion (RowKept (dynamics_limits w) AnyRow) ds
      → AllByRecursion (Passes equation_ok) (map padded_equation (equations_from n m p ss ds))
  each_equation [] ds ks kd = tt
  each_equation (s ∷ ss) [] ks kd = tt
  each_equation (s ∷ ss) (d ∷ ds) ks kd = (equation_kept s d ks.0 kd.0, each_equation ss ds ks.1 kd.1)

  each_wide : (ss ds : List (List ℤ)) → AllByRecursion (RowKept state_limits (GoodState D)) ss → AllByRecursion (Passes (is_wide D)) (map padded_equation (equations_from n m p ss ds))
  each_wide [] ds ks = tt
  each_wide (s ∷ ss) [] ks = tt
  each_wide (s ∷ ss) (d ∷ ds) ks = (le_z_from _ _ ks.0.1.1, each_wide ss ds ks.1)

  pub equations_kept : (ss ds : List (List ℤ)) → AllByRecursion (RowKept state_limits (GoodState D)) ss → AllByRecursion (RowKept (dynamics_limits w) AnyRow) ds
      → all_equations_ok (filled most_states no_equation (map padded_equation (equations_from n m p ss ds))) ≡ true
  equations_kept ss ds ks kd =
      passes equation_ok all_equations_ok refl (λ x xs. refl) _
      (all_filled (Passes equation_ok) most_states no_equation (map padded_equation (equations_from n m p ss ds)) refl (each_equation ss ds ks kd))

  pub wide_kept : (ss ds : List (List ℤ)) → AllByRecursion (RowKept state_limits (GoodState D)) ss → all_wide D (map padded_equation (equations_from n m p ss ds)) ≡ true
  wide_kept ss ds ks = passes (is_wide D) (all_wide D) refl (λ x xs. refl) _ (each_wide ss ds ks)

-- Pushes and extra faces.

push_kept : (row : List ℤ) → RowKept push_limits InOrder row → bounds_ok (bounds_from row) ≡ true
push_kept [] k = absurd k.0
push_kept (l ∷ []) k = absurd k.0.2
push_kept (l ∷ h ∷ row) k = range_from l h (test_from_within bound_limit l k.0.0 k.0.1) (test_from_within bound_limit h k.0.2.0 k.0.2.1) k.1

extra_kept : (n : ℕ) (row : List ℤ) → n ≤ most_states → RowKept (extra_limits n) AnyRow row → extra_ok (padded_extra (extra_from n row)) ≡ true
extra_kept n row h k =
    and_from (row_ok most_states (filled most_states (pos 0) (take n row))) (within extra_limit (get_or row n (pos 0)))
    (row_kept most_states (take n row) (omega (arith, length-take n row)) (entries_front n (around extra_limit ∷ []) row k.0)) (last_kept n extra_limit row k.0)

each_push : (rows : List (List ℤ)) → AllByRecursion (RowKept push_limits InOrder) rows → AllByRecursion (Passes bounds_ok) (map bounds_from rows)
each_push [] k = tt
each_push (row ∷ rows) k = (push_kept row k.0, each_push rows k.1)

each_extra : (n : ℕ) (rows : List (List ℤ)) → n ≤ most_states → AllByRecursion (RowKept (extra_limits n) AnyRow) rows → AllByRecursion (Passes extra_ok) (map padded_extra (map (extra_from n) rows))
each_extra n [] h k = tt
each_extra n (row ∷ rows) h k = (extra_kept n row h k.0, each_extra n rows h k.1)

pub bounds_kept : (rows : List (List ℤ)) → AllByRecursion (RowKept push_limits InOrder) rows → all_bounds_ok (filled most_pushes no_bounds (map bounds_from rows)) ≡ true
bounds_kept rows k =
    passes bounds_ok all_bounds_ok refl (λ x xs. refl) _ (all_filled (Passes bounds_ok) most_pushes no_bounds (map bounds_from rows) refl (each_push rows k))

pub extras_kept : (n : ℕ) (rows : List (List ℤ)) → n ≤ most_states → AllByRecursion (RowKept (extra_limits n) AnyRow) rows
    → all_extras_ok (filled most_extras no_extra (map padded_extra (map (extra_from n) rows))) ≡ true
extras_kept n rows h k =
    passes extra_ok all_extras_ok refl (λ x xs. refl) _
    (all_filled (Passes extra_ok) most_extras no_extra (map padded_extra (map (extra_from n) rows)) refl (each_extra n rows h k))
