-- The elimination of a column: what its rows keep, and its answer.
use Rattle.std.proofs.Common.{◌≡◌, ℕ, ◌+◌, ◌*◌, Bool, true, false, cond, leb, List, [], ◌∷◌, ◌++◌, map, length, Ok, Err, sym, refl, ◌∙◌}
use Rattle.std.specs.List.{AllByRecursion}
use Rattle.std.proofs.ByRecursion.{all_kept_by, kept_by_passes, All-append}
use Rattle.std.proofs.lemmas.Bool.{and_parts}
use Rattle.std.proofs.lemmas.List.Folds.{list_all-append}
use Rattle.elimination.specs.declared.row.Row.{Row}
use Rattle.elimination.specs.declared.row.Stop.TheVariants.{Crowd, Number}
use Rattle.fourier.specs.Cone.{is_zero, is_positive, is_negative}
use Rattle.elimination.specs.Rows.{coefficient, joined_row, allowed, Proper, WhereOk}
use Rattle.elimination.specs.Traced.{Source, Traced}
use Rattle.elimination.specs.Columns.{most_rows, zeros, positives, negatives, pairs, all_allowed, extended, eliminated, StaysTraced}
use Rattle.elimination.proofs.Pairs.{joined_proper, joins_exactly}

-- what the rows keep
proper_map : (c : ℕ) (p : Row) (qs : List Row) → Proper p → is_positive (coefficient p c) ≡ true → AllByRecursion Proper qs → AllByRecursion (λ q. is_negative (coefficient q c) ≡ true) qs
    → all_allowed (map (joined_row c p) qs) ≡ true → AllByRecursion Proper (map (joined_row c p) qs)
proper_map c p [] hp pp hq qn e = tt
proper_map c p (q ∷ qs) hp pp hq qn e =
    let t = and_parts (allowed (joined_row c p q)) (all_allowed (map (joined_row c p) qs)) e in
    (joined_proper c p q (record { first = hp; second = hq.0; positive = pp; negative = qn.0 }) t.0, proper_map c p qs hp pp hq.1 qn.1 t.1)

proper_pairs : (c : ℕ) (ps qs : List Row) → AllByRecursion Proper ps → AllByRecursion (λ p. is_positive (coefficient p c) ≡ true) ps → AllByRecursion Proper qs → AllByRecursion (λ q. is_negative (coefficient q c) ≡ true) qs
    → all_allowed (pairs c ps qs) ≡ true → AllByRecursion Proper (pairs c ps qs)
proper_pairs c [] qs hp pp hq qn e = tt
proper_pairs c (p ∷ ps) qs hp pp hq qn e =
    let t = and_parts (all_allowed (map (joined_row c p) qs)) (all_allowed (pairs c ps qs)) (sym (list_all-append allowed (map (joined_row c p) qs) (pairs c ps qs)) ∙ e) in
    All-append Proper (map (joined_row c p) qs) (pairs c ps qs) (proper_map c p qs hp.0 pp.0 hq qn t.0) (proper_pairs c ps qs hp.1 pp.1 hq qn t.1)

traced_map : (system : List Source) (face : Source) (c : ℕ) (p : Row) (qs : List Row) → Proper p → is_positive (coefficient p c) ≡ true → AllByRecursion Proper qs → AllByRecursion (λ q. is_negative (coefficient q c) ≡ true) qs
    → Traced system face p → AllByRecursion (Traced system face) qs → AllByRecursion (Traced system face) (map (joined_row c p) qs)
traced_map system face c p [] hp pp hq qn tp tq = tt
traced_map system face c p (q ∷ qs) hp pp hq qn tp tq =
    ((joins_exactly c p q (record { first = hp; second = hq.0; positive = pp; negative = qn.0 }) system face tp tq.0).traced, traced_map system face c p qs hp pp hq.1 qn.1 tp tq.1)

traced_pairs : (system : List Source) (face : Source) (c : ℕ) (ps qs : List Row) → AllByRecursion Proper ps → AllByRecursion (λ p. is_positive (coefficient p c) ≡ true) ps → AllByRecursion Proper qs → AllByRecursion (λ q. is_negative (coefficient q c) ≡ true) qs
    → AllByRecursion (Traced system face) ps → AllByRecursion (Traced system face) qs → AllByRecursion (Traced system face) (pairs c ps qs)
traced_pairs system face c [] qs hp pp hq qn tp tq = tt
traced_pairs system face c (p ∷ ps) qs hp pp hq qn tp tq =
    All-append (Traced system face) (map (joined_row c p) qs) (pairs c ps qs) (traced_map system face c p qs hp.0 pp.0 hq qn tp.0 tq) (traced_pairs system face c ps qs hp.1 pp.1 hq qn tp.1 tq)

-- a fact of the rows with 0 and of the new rows is one of the answer
eliminated_all : (P : Row → Type 0) (c : ℕ) (rows : List Row) → AllByRecursion P (zeros c rows) → (all_allowed (pairs c (positives c rows) (negatives c rows)) ≡ true → AllByRecursion P (pairs c (positives c rows) (negatives c rows))) → WhereOk (AllByRecursion P) (eliminated c rows)
eliminated_all P c rows hz hp = by (leb (length (zeros c rows) + length (positives c rows) * length (negatives c rows)) most_rows)
  where
    new : (t : Bool) → all_allowed (pairs c (positives c rows) (negatives c rows)) ≡ t → WhereOk (AllByRecursion P) (cond t (Ok (zeros c rows ++ pairs c (positives c rows) (negatives c rows))) (Err Number))
    new true e = All-append P (zeros c rows) (pairs c (positives c rows) (negatives c rows)) hz (hp e)
    new false e = tt

    by : (t : Bool) → WhereOk (AllByRecursion P) (cond t (extended (zeros c rows) (pairs c (positives c rows) (negatives c rows))) (Err Crowd))
    by true = new (all_allowed (pairs c (positives c rows) (negatives c rows))) refl
    by false = tt

pub eliminated_proper : (c : ℕ) (rows : List Row) → AllByRecursion Proper rows → WhereOk (AllByRecursion Proper) (eliminated c rows)
eliminated_proper c rows h =
    eliminated_all Proper c rows (all_kept_by (λ r. is_zero (coefficient r c)) Proper rows h)
    (proper_pairs c (positives c rows) (negatives c rows) (all_kept_by (λ r. is_positive (coefficient r c)) Proper rows h) (kept_by_passes (λ r. is_positive (coefficient r c)) rows) (all_kept_by (λ r. is_negative (coefficient r c)) Proper rows h) (kept_by_passes (λ r. is_negative (coefficient r c)) rows))

pub eliminated_traced : (c : ℕ) (rows : List Row) → AllByRecursion Proper rows → StaysTraced c rows
eliminated_traced c rows h system face t =
    let T = Traced system face in
    eliminated_all T c rows (all_kept_by (λ r. is_zero (coefficient r c)) T rows t)
    (λ e. traced_pairs system face c (positives c rows) (negatives c rows) (all_kept_by (λ r. is_positive (coefficient r c)) Proper rows h) (kept_by_passes (λ r. is_positive (coefficient r c)) rows) (all_kept_by (λ r. is_negative (coefficient r c)) Proper rows h) (kept_by_passes (λ r. is_negative (coefficient r c)) rows)
    (all_kept_by (λ r. is_positive (coefficient r c)) T rows t) (all_kept_by (λ r. is_negative (coefficient r c)) T rows t))
