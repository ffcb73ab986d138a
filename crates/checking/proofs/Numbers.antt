-- The scale and the multipliers of a line.
use Rattle.std.proofs.Common.{◌≡◌, ℕ, zero, suc, ◌+◌, ◌-◌, ◌≤◌, true, List, [], ◌∷◌, length, take, replicate, ℤ, pos, Some, Ok, Err, Option, Result, sym, refl, ap, ◌∙◌, arith}
use lib.Signed.{le_z}
use Rattle.std.proofs.lemmas.List.{take_all, take-append-le, take-replicate, length-replicate}
use Rattle.std.proofs.lemmas.Int.{ints}
use Rattle.std.proofs.lemmas.Bool.{and_from}
use Rattle.text.specs.Forms.{Fit}
use Rattle.text.specs.Lines.{bind, after_field, numbers_of, wide_row_of, padded_to, long_row_width}
use Rattle.text.specs.declared.faults.TextFault.{TextFault}
use Rattle.text.specs.declared.number.Limit.{Limit}
use Rattle.text.proofs.Forming.{numbers_fit, fit_length}
use Rattle.control.specs.Meaning.{Meaning}
use Rattle.case.specs.Values.{CaseValues}
use Rattle.system.specs.Answers.{most_system_rows, system_of}
use Rattle.certificate.specs.Tests.{in_limit, all_in_limit}
use Rattle.checking.specs.Checking.{as_check, proof_limit, proof_limits, number_fields}
use Rattle.checking.specs.declared.faults.CheckFault.TheVariants.{Text}

-- as many limits as there are numbers
pub limits_are : (count : ℕ) → count ≤ long_row_width → take long_row_width (take (count - 0) (replicate long_row_width proof_limit)) ≡ replicate count proof_limit
limits_are count h =
    let z : count - 0 ≡ count = omega arith in
    ap (λ n. take long_row_width (take n (replicate long_row_width proof_limit))) z
    ∙ ap (take long_row_width) (take-replicate count long_row_width proof_limit h)
    ∙ take_all long_row_width (replicate count proof_limit) (omega (arith, length-replicate count proof_limit))

-- what a row came from
pub row_refused : (w : ℕ) (r : Result (List ℤ) TextFault) (e : TextFault) → Err e ≡ bind r (λ zs. Ok (padded_to w zs)) → Err (Text e) ≡ as_check r
row_refused w (Ok zs) e h = grind arith
row_refused w (Err d) e h = let k : e ≡ d = cc in ap (λ t. Err (Text t)) k

pub row_read : (w : ℕ) (r : Result (List ℤ) TextFault) (row : List ℤ) → Ok row ≡ bind r (λ zs. Ok (padded_to w zs)) → (zs : List ℤ) × (r ≡ Ok zs) × (row ≡ padded_to w zs)
row_read w (Ok zs) row h = let k : row ≡ padded_to w zs = cc in (zs, refl, k)
row_read w (Err d) row h = grind arith

-- the numbers that were read stand in front
pub front_is : (w count : ℕ) (zs row : List ℤ) → length zs ≡ count → row ≡ padded_to w zs → take (count - 0) row ≡ zs
front_is w count zs row long e =
    let z : count - 0 ≡ length zs = omega arith in
    ap (λ n. take n row) z ∙ ap (take (length zs)) e ∙ take-append-le (length zs) zs (replicate (w - length zs) (pos 0)) (omega arith) ∙ take_all (length zs) zs (omega arith)

pub fit_limits : (n : ℕ) (zs : List ℤ) → Fit (replicate n proof_limit) zs → all_in_limit zs ≡ true
fit_limits zero [] h = refl
fit_limits zero (z ∷ zs) h = absurd h
fit_limits (suc n) [] h = absurd h
fit_limits (suc n) (z ∷ zs) h =
    let a : le_z (pos 0) z ≡ true = grind (arith, ints) in
    let b : le_z z (pos 1000000) ≡ true = grind (arith, ints) in
    and_from (in_limit z) (all_in_limit zs) (and_from (le_z (pos 0) z) (le_z z (pos 1000000)) a b) (fit_limits n zs h.2)

-- the numbers of a line, as a long row gives them
pub record Got (k : CaseValues) (m : Meaning) (region line count : ℕ) (bytes : List ℕ) (row : List ℤ) : Type 0 where
  pub numbers : List ℤ
  pub were : number_fields k m region line bytes ≡ Ok numbers
  pub front : take (1 + count - 0) row ≡ numbers
  pub limits : all_in_limit numbers ≡ true

-- where the region's system has so many rows
module _ (k : CaseValues) (m : Meaning) (region line : ℕ) (bytes : List ℕ) (count : ℕ) (left : Option (List ℕ)) (rows : count ≡ length (system_of k m region)) (few : count ≤ most_system_rows) (behind : left ≡ after_field (after_field (Some bytes))) where
  abbrev limits : List Limit
  limits = take long_row_width (take (1 + count - 0) (replicate long_row_width proof_limit))

  row_is : wide_row_of long_row_width line 2 limits left ≡ bind (numbers_of line 3 (proof_limits k m region) (after_field (after_field (Some bytes)))) (λ zs. Ok (padded_to long_row_width zs))
  row_is =
      let same : limits ≡ proof_limits k m region = limits_are (1 + count) (omega arith) ∙ ap (λ n. replicate (1 + n) proof_limit) rows in
      ap (λ ls. wide_row_of long_row_width line 2 ls left) same ∙ ap (wide_row_of long_row_width line 2 (proof_limits k m region)) behind

  pub numbers_refused : (e : TextFault) → Err e ≡ wide_row_of long_row_width line 2 limits left → Err (Text e) ≡ number_fields k m region line bytes
  numbers_refused e h = row_refused long_row_width _ e (h ∙ row_is)

  pub numbers_got : (row : List ℤ) → Ok row ≡ wide_row_of long_row_width line 2 limits left → Got k m region line count bytes row
  numbers_got row h =
      let t = row_read long_row_width _ row (h ∙ row_is) in
      let fit = numbers_fit line 3 (proof_limits k m region) (after_field (after_field (Some bytes))) t.0 t.1 in
      let long : length t.0 ≡ 1 + count = fit_length (proof_limits k m region) t.0 fit ∙ length-replicate (1 + length (system_of k m region)) proof_limit ∙ ap (λ n. 1 + n) (sym rows) in
      record {
        numbers = t.0;
        were = ap as_check t.1;
        front = front_is long_row_width (1 + count) t.0 row long t.2;
        limits = fit_limits (1 + length (system_of k m region)) t.0 fit;
      }
