-- One column of the elimination with limits is the column that elimination's code makes.
use Rattle.std.proofs.Common.{◌≡◌, ℕ, ◌+◌, ◌*◌, Bool, true, false, cond, ◌&&◌, leb, List, [], ◌∷◌, ◌++◌, length, Ok, Err, Result, refl, ap, ◌∙◌}
use Rattle.fourier.specs.Bounded.{and_then, all_judged, bounded_column}
use Rattle.elimination.specs.declared.row.Row.{Row}
use Rattle.elimination.specs.declared.row.Stop.{Stop}
use Rattle.elimination.specs.declared.row.Stop.TheVariants.{Crowd, Number}
use Rattle.elimination.specs.Columns.{most_rows, zeros, positives, negatives, pairs, all_allowed, extended, eliminated}
use Rattle.elimination.specs.Rows.{at, joined_row, allowed, judged}

-- rows judged one by one are all allowed, or one is refused
judged_all : (rs : List Row) → all_judged judged rs ≡ cond (all_allowed rs) (Ok rs) (Err Number)
judged_all [] = refl
judged_all (r ∷ rs) = ap (λ (x : Result (List Row) Stop). and_then (judged r) (λ s. and_then x (λ ss. Ok (s ∷ ss)))) (judged_all rs) ∙ by_test (allowed r) (all_allowed rs)
  where
    by_test : (t u : Bool) → and_then (cond t (Ok r) (Err Number)) (λ s. and_then (cond u (Ok rs) (Err Number)) (λ ss. Ok (s ∷ ss))) ≡ cond (t && u) (Ok (r ∷ rs)) (Err Number)
    by_test true true = refl
    by_test true false = refl
    by_test false u = refl

extended_same : (zs new : List Row) → and_then (all_judged judged new) (λ new. Ok (zs ++ new)) ≡ extended zs new
extended_same zs new = ap (λ (x : Result (List Row) Stop). and_then x (λ new. Ok (zs ++ new))) (judged_all new) ∙ by_test (all_allowed new)
  where
    by_test : (t : Bool) → and_then (cond t (Ok new) (Err Number)) (λ new. Ok (zs ++ new)) ≡ cond t (Ok (zs ++ new)) (Err Number)
    by_test true = refl
    by_test false = refl

pub column_is : (c : ℕ) (rs : List Row) → bounded_column at joined_row judged most_rows Crowd c rs ≡ eliminated c rs
column_is c rs =
    ap (λ (x : Result (List Row) Stop). cond (leb (length (zeros c rs) + length (positives c rs) * length (negatives c rs)) most_rows) x (Err Crowd))
    (extended_same (zeros c rs) (pairs c (positives c rs) (negatives c rs)))
