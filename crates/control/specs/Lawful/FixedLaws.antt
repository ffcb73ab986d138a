-- The fixed law keeps the limits and covers.
use Rattle.std.proofs.Common.{◌≡◌, ℕ, ◌+◌, ◌<◌, ◌≤◌, true, List, [], ◌∷◌, ◌++◌, map, length, get_or, take, replicate, ℤ, pos, negsuc, neg_ℤ, sym, refl, ◌∙◌, arith}
use lib.IntN.{zero-*ℤ}
use Rattle.std.specs.List.{AllByRecursion}
use Rattle.std.proofs.ByRecursion.{All-append, All-take}
use Rattle.std.proofs.lemmas.List.{length-replicate, length-take-le}
use Rattle.std.proofs.lemmas.Int.{ints}
use Rattle.arith.specs.Bounds.{Within, all_within}
use Rattle.arith.specs.Products.{dot}
use Rattle.arith.proofs.Lists.{at_one_two}
use Rattle.arith.proofs.Bounds.{all_from_test, within_wider, zeros_within}
use Rattle.control.specs.declared.lines.Line.{Line}
use Rattle.control.specs.Meaning.{Meaning, meaning}
use Rattle.control.specs.Limits.{setting_limit, most_states, most_inputs, coefficient_limit, command_limit, Limits, RowLimits}
use Rattle.control.specs.Cover.{Holds, Cover}
use Rattle.control.specs.Lines.{line, row_from}
use Rattle.control.specs.PerInput.{items}
use Rattle.control.specs.declared.state.States.{States}
use Rattle.control.specs.declared.per_input.PerInput.{PerInput}
use Rattle.control.specs.Fixed.{fixed_lines, fixed_partition}
use Rattle.control.specs.Lawful.Few.{items_few}
use Rattle.control.specs.Lawful.Spread.{dot_spread, row_limits}

abbrev pub fixed_meaning : ℕ → ℕ → List ℤ → Meaning
fixed_meaning n m us = meaning n m (fixed_partition n us) (λ _. us)

-- what is known of a fixed law
pub record FixedOk (n m : ℕ) (us : List ℤ) : Type 0 where
  pub n_low : 1 ≤ n
  pub n_high : n ≤ most_states
  pub m_low : 1 ≤ m
  pub m_high : m ≤ most_inputs
  pub long : length us ≡ m
  pub small : AllByRecursion (Within setting_limit) us

-- what the limits of numbers give
pub ok_from : (n m : ℕ) (us : List ℤ) → (1 ≤ n) × (n ≤ most_states) × (1 ≤ m) × (m ≤ most_inputs) → length us ≡ 2 → all_within setting_limit us ≡ true → FixedOk n m (take m us)
ok_from n m us sizes two small =
    let le : m ≤ length us = omega arith in
    record {
      n_low = sizes.0;
      n_high = sizes.1;
      m_low = sizes.2;
      m_high = sizes.3;
      long = length-take-le m us le;
      small = All-take (Within setting_limit) m us (all_from_test setting_limit us small);
    }

-- what a fixed law knows of itself
pub ok_held : (n : States) (p : PerInput ℤ) → all_within setting_limit (items p) ≡ true → FixedOk n.count (length (items p)) (items p)
ok_held n p small =
    let few = items_few p in
    record {
      n_low = n.some;
      n_high = n.few;
      m_low = few.0;
      m_high = few.1;
      long = refl;
      small = all_from_test setting_limit (items p) small;
    }

lines_hold : (n m j : ℕ) (u : ℤ) (x us : List ℤ) → length x ≡ n → j < m → length us ≡ m → get_or us j (pos 0) ≡ u → AllByRecursion (Holds (x ++ us)) (map (row_from (replicate n (pos 0)) m j) (fixed_lines u))
lines_hold n m j u x us e lt f at =
    let d = λ (l : Line). dot_spread (replicate n (pos 0)) m j l x us (length-replicate n (pos 0) ∙ sym e) lt f in (
      omega (arith, ints, d (line (pos 0) (pos 1) u), zero-*ℤ (dot (replicate n (pos 0)) x), at),
      (
        omega (arith, ints, d (line (pos 0) (negsuc 0) (neg_ℤ u)), zero-*ℤ (dot (replicate n (pos 0)) x), at),
        tt,
      ),
    )

pub fixed_cover : (n m : ℕ) (us : List ℤ) → FixedOk n m us → Cover (fixed_meaning n m us)
fixed_cover n m us ok =
    at_one_two (λ k vs. Cover (fixed_meaning n k vs))
    (λ a x s. (0, omega arith, lines_hold n 1 0 a x (a ∷ []) s.long (omega arith) refl refl))
    (λ a b x s. (
      0,
      omega arith,
      All-append (Holds (x ++ (a ∷ b ∷ []))) (map (row_from (replicate n (pos 0)) 2 0) (fixed_lines a)) (map (row_from (replicate n (pos 0)) 2 1) (fixed_lines b))
          (lines_hold n 2 0 a x (a ∷ b ∷ []) s.long (omega arith) refl refl)
          (lines_hold n 2 1 b x (a ∷ b ∷ []) s.long (omega arith) refl refl),
    ))
    m us ok.long ok.m_low ok.m_high

lines_limits : (n m j : ℕ) (u : ℤ) → Within setting_limit u → AllByRecursion (RowLimits (n + m)) (map (row_from (replicate n (pos 0)) m j) (fixed_lines u))
lines_limits n m j u w =
    let each = λ (l : Line). row_limits (replicate n (pos 0)) n m j l (length-replicate n (pos 0)) (zeros_within coefficient_limit n) in (
      each (line (pos 0) (pos 1) u) (omega (arith, ints), omega (arith, ints)) (omega (arith, ints), omega (arith, ints)) (omega (arith, ints), omega (arith, ints)),
      (
        each (line (pos 0) (negsuc 0) (neg_ℤ u)) (omega (arith, ints), omega (arith, ints)) (omega (arith, ints), omega (arith, ints)) (omega (arith, ints), omega (arith, ints)),
        tt,
      ),
    )

limits_one : (n : ℕ) (a : ℤ) → 1 ≤ n → n ≤ most_states → Within setting_limit a → Limits (fixed_meaning n 1 (a ∷ []))
limits_one n a low high wa =
    record {
      states_low = low;
      states_high = high;
      inputs_low = omega arith;
      inputs_high = omega arith;
      regions_low = omega arith;
      regions_high = omega arith;
      each = (record { few = omega arith; each = lines_limits n 1 0 a wa }, tt);
      command_long = λ x s. refl;
      command_small = λ x s. (within_wider setting_limit command_limit (omega arith) a wa, tt);
    }

limits_two : (n : ℕ) (a b : ℤ) → 1 ≤ n → n ≤ most_states → Within setting_limit a → Within setting_limit b → Limits (fixed_meaning n 2 (a ∷ b ∷ []))
limits_two n a b low high wa wb =
    record {
      states_low = low;
      states_high = high;
      inputs_low = omega arith;
      inputs_high = omega arith;
      regions_low = omega arith;
      regions_high = omega arith;
      each = (
        record {
          few = omega arith;
          each = All-append (RowLimits (n + 2)) (map (row_from (replicate n (pos 0)) 2 0) (fixed_lines a)) (map (row_from (replicate n (pos 0)) 2 1) (fixed_lines b)) (lines_limits n 2 0 a wa) (lines_limits n 2 1 b wb);
        },
        tt,
      );
      command_long = λ x s. refl;
      command_small = λ x s. (within_wider setting_limit command_limit (omega arith) a wa, (within_wider setting_limit command_limit (omega arith) b wb, tt));
    }

pub fixed_limits : (n m : ℕ) (us : List ℤ) → FixedOk n m us → Limits (fixed_meaning n m us)
fixed_limits n m us ok =
    at_one_two (λ k vs. AllByRecursion (Within setting_limit) vs → Limits (fixed_meaning n k vs))
    (λ a w. limits_one n a ok.n_low ok.n_high w.0)
    (λ a b w. limits_two n a b ok.n_low ok.n_high w.0 w.1.0)
    m us ok.long ok.m_low ok.m_high ok.small
