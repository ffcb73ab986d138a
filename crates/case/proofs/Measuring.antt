-- The first section of a case text: its sizes.
use Rattle.std.proofs.Common.{◌≡◌, ℕ, ◌-◌, ◌≤◌, List, [], ◌∷◌, length, get_or, ℤ, pos, nat_abs, ◌≤ℤ◌, Ok, Err, Result, sym, refl, ap, ◌∙◌, arith, w64, to_z, of_z}
use Rattle.std.specs.List.{AllByRecursion}
use Rattle.std.proofs.lemmas.Int.{ints, to_z-of_z}
use Rattle.arith.proofs.Bounds.{sfits_within}
use Rattle.control.specs.Limits.{most_states, most_inputs}
use Rattle.text.specs.Forms.{Fit}
use Rattle.text.specs.Lines.{bind, size_of, padded, row_width}
use Rattle.text.specs.declared.faults.TextFault.{TextFault}
use Rattle.case.specs.Fields.{sizes_limits}
use Rattle.case.specs.Forms.{RowKept, SizesKept, AnyRow}
use Rattle.case.specs.Limits.{most_pushes, most_extras, divisor_limit}
use Rattle.case.specs.Stored.{rows_stored, held_rows}
use Rattle.case.specs.Texts.{CaseSizes, as_case, unjudged, sizes_names, section_of, size_at, sizes_of, sizes_section}
use Rattle.case.specs.declared.faults.CaseFault.{CaseFault}
use Rattle.case.specs.declared.faults.CaseFault.TheVariants.{Text}
use Rattle.case.proofs.Exits.{rows_ok, rows_err}
use Rattle.text.proofs.Padding.{padding, count_low, count_high, from_one}
use Rattle.case.proofs.Judging.{accepts_any}
use Rattle.case.proofs.Lines.{section_to}

-- the five numbers of the line, within their limits
pub record Five (row : List ℤ) : Type 0 where
  pub n_low : pos 1 ≤ℤ get_or row 0 (pos 0)
  pub n_high : get_or row 0 (pos 0) ≤ℤ pos most_states
  pub m_low : pos 1 ≤ℤ get_or row 1 (pos 0)
  pub m_high : get_or row 1 (pos 0) ≤ℤ pos most_inputs
  pub p_low : pos 0 ≤ℤ get_or row 2 (pos 0)
  pub p_high : get_or row 2 (pos 0) ≤ℤ pos most_pushes
  pub e_low : pos 0 ≤ℤ get_or row 3 (pos 0)
  pub e_high : get_or row 3 (pos 0) ≤ℤ pos most_extras
  pub d_low : pos 1 ≤ℤ get_or row 4 (pos 0)
  pub d_high : get_or row 4 (pos 0) ≤ℤ pos divisor_limit

pub five : (row : List ℤ) → Fit sizes_limits row → Five row
five [] f = absurd f
five (n ∷ []) f = absurd f.2
five (n ∷ m ∷ []) f = absurd f.2.2
five (n ∷ m ∷ p ∷ []) f = absurd f.2.2.2
five (n ∷ m ∷ p ∷ e ∷ []) f = absurd f.2.2.2.2
five (n ∷ m ∷ p ∷ e ∷ d ∷ row) f = record {
  n_low = f.0;
  n_high = f.1;
  m_low = f.2.0;
  m_high = f.2.1;
  p_low = f.2.2.0;
  p_high = f.2.2.1;
  e_low = f.2.2.2.0;
  e_high = f.2.2.2.1;
  d_low = f.2.2.2.2.0;
  d_high = f.2.2.2.2.1;
}

five_padded : (zs : List ℤ) → Five zs → Five (padded zs)
five_padded zs f =
    let k = row_width - length zs in
    let n = padding zs k 0 in
    let m = padding zs k 1 in
    let p = padding zs k 2 in
    let e = padding zs k 3 in
    let d = padding zs k 4 in
    record {
      n_low = rw n f.n_low;
      n_high = rw n f.n_high;
      m_low = rw m f.m_low;
      m_high = rw m f.m_high;
      p_low = rw p f.p_low;
      p_high = rw p f.p_high;
      e_low = rw e f.e_low;
      e_high = rw e f.e_high;
      d_low = rw d f.d_low;
      d_high = rw d f.d_high;
    }

sizes_padded : (zs : List ℤ) → sizes_of (padded zs) ≡ sizes_of zs
sizes_padded zs =
    let k = row_width - length zs in
    let n = padding zs k 0 in
    let m = padding zs k 1 in
    let p = padding zs k 2 in
    let e = padding zs k 3 in
    let d = padding zs k 4 in
    rw (n, m, p, e, d) refl

pub sizes_kept : (row : List ℤ) → Five row → SizesKept (sizes_of row)
sizes_kept row f = record {
  states_low = count_low _ f.n_low;
  states_high = count_high _ most_states (from_one _ f.n_low) f.n_high;
  inputs_low = count_low _ f.m_low;
  inputs_high = count_high _ most_inputs (from_one _ f.m_low) f.m_high;
  pushes_high = count_high _ most_pushes f.p_low f.p_high;
  extras_high = count_high _ most_extras f.e_low f.e_high;
  divisor_low = f.d_low;
  divisor_high = f.d_high;
}

-- The numbers as the code holds them.

read_back : (z : ℤ) (k : ℕ) → k ≤ divisor_limit → pos 0 ≤ℤ z → z ≤ℤ pos k → to_z w64 (of_z w64 z) ≡ z
read_back z k small l h = to_z-of_z w64 z (sfits_within divisor_limit z (omega arith) (omega (arith, ints), omega (arith, ints)))

pub sizes_shown : (row : List ℤ) (n m p e : ℕ) → Five row → n ≡ nat_abs (to_z w64 (of_z w64 (get_or row 0 (pos 0)))) → m ≡ nat_abs (to_z w64 (of_z w64 (get_or row 1 (pos 0))))
    → p ≡ nat_abs (to_z w64 (of_z w64 (get_or row 2 (pos 0)))) → e ≡ nat_abs (to_z w64 (of_z w64 (get_or row 3 (pos 0))))
    → ◌≡◌ {A = CaseSizes} (record { states = n; inputs = m; pushes = p; extras = e; divisor = to_z w64 (of_z w64 (get_or row 4 (pos 0))) }) (sizes_of row)
sizes_shown row n m p e f hn hm hp he =
    let a : n ≡ size_at row 0 = hn ∙ ap nat_abs (read_back _ most_states (omega arith) (from_one _ f.n_low) f.n_high) in
    let b : m ≡ size_at row 1 = hm ∙ ap nat_abs (read_back _ most_inputs (omega arith) (from_one _ f.m_low) f.m_high) in
    let c : p ≡ size_at row 2 = hp ∙ ap nat_abs (read_back _ most_pushes (omega arith) f.p_low f.p_high) in
    let d : e ≡ size_at row 3 = he ∙ ap nat_abs (read_back _ most_extras (omega arith) f.e_low f.e_high) in
    let g : to_z w64 (of_z w64 (get_or row 4 (pos 0))) ≡ get_or row 4 (pos 0) = read_back _ divisor_limit (omega arith) (from_one _ f.d_low) f.d_high in
    rw (a, b, c, d, g) refl

-- the only row of the section
pub only : (rows : List (List ℤ)) → AllByRecursion (RowKept sizes_limits AnyRow) rows → length rows ≡ 1 → (rows ≡ get_or rows 0 [] ∷ []) × Fit sizes_limits (get_or rows 0 [])
only [] k l = absurd (omega arith)
only (row ∷ []) k l = (refl, k.0.0)
only (row ∷ b ∷ rows) k l = absurd (omega arith)

module _ (text : List ℕ) where
  abbrev pub first_section : Result (List (List ℤ) × List ℕ) CaseFault
  first_section = section_of sizes_names sizes_limits unjudged 1 1 text

  abbrev pub after_section : List (List ℤ) × List ℕ → Result (CaseSizes × List ℕ) CaseFault
  after_section p = Ok (sizes_of (get_or p.0 0 []), p.1)

  pub size_refused : (e : TextFault) → Err e ≡ size_of text → Err (Text e) ≡ sizes_section text
  size_refused e h = ap (λ r. bind (as_case r) (λ _. bind first_section after_section)) h

  module _ (u : Unit {0}) (size : Ok u ≡ size_of text) where
    sized : bind first_section after_section ≡ sizes_section text
    sized = ap (λ r. bind (as_case r) (λ _. bind first_section after_section)) size

    pub section_refused : (e : CaseFault) → Err e ≡ rows_stored first_section → Err e ≡ sizes_section text
    section_refused e h = ap (λ r. bind r after_section) (sym (rows_err first_section e h)) ∙ sized

    pub sizes_read : (rows : List (List ℤ)) (rest : List ℕ) → Ok (rows, rest) ≡ rows_stored first_section
        → Five (get_or rows 0 []) × (Ok (sizes_of (get_or rows 0 []), rest) ≡ sizes_section text)
    sizes_read rows rest h =
        let p = rows_ok first_section rows rest h in
        let s = section_to accepts_any sizes_limits (omega arith) sizes_names 1 1 text p.0 rest p.1 in
        let o = only p.0 s.1 s.2 in
        let r : get_or rows 0 [] ≡ padded (get_or p.0 0 []) = ap (λ t. get_or t 0 []) (p.2 ∙ ap held_rows o.0) in (
          rw r (five_padded (get_or p.0 0 []) (five (get_or p.0 0 []) o.1)),
          ap (λ t. Ok (sizes_of t, rest)) r ∙ ap (λ t. Ok (t, rest)) (sizes_padded (get_or p.0 0 [])) ∙ ap (λ t. bind t after_section) (sym p.1) ∙ sized,
        )
