-- Lists that are filled place by place, with a value for the places that they lack.
use Rattle.std.proofs.Common.{◌≡◌, ℕ, zero, suc, ◌+◌, ◌-◌, ◌<◌, ◌≤◌, List, [], ◌∷◌, map, length, get_or, take, set, replicate, ℤ, refl, ap, ◌∙◌, arith}
use native.Mathlib.Numerals.{unary_clauses}
use Rattle.std.proofs.lemmas.List.{length-append, length-replicate}
use Rattle.text.specs.Blocks.{filled}
use Rattle.case.specs.Stored.{equation_from, equations_from, padded_equation, no_equation}

-- one place more
filled_more : {X : Type 0} (w : ℕ) (x : X) (ys : List X) (i : ℕ) → i < w → set (filled w x (take i ys)) i (get_or ys i x) ≡ filled w x (take (suc i) ys)
filled_more zero x ys i l = absurd (omega arith)
filled_more (suc w) x [] zero l = simp unary_clauses refl
filled_more (suc w) x [] (suc i) l = simp unary_clauses (ap (λ t. x ∷ t) (set_replicate w i x))
  where
    set_replicate : {X : Type 0} (w i : ℕ) (x : X) → set (replicate w x) i x ≡ replicate w x
    set_replicate zero i x = refl
    set_replicate (suc w) zero x = refl
    set_replicate (suc w) (suc i) x = ap (λ t. x ∷ t) (set_replicate w i x)
filled_more (suc w) x (y ∷ ys) zero l = simp unary_clauses refl
filled_more (suc w) x (y ∷ ys) (suc i) l = simp unary_clauses (ap (λ t. y ∷ t) (filled_more w x ys i (omega arith)))

pub filled_step : {X : Type 0} (w : ℕ) (x y : X) (ys now : List X) (i : ℕ) → i < w → now ≡ filled w x (take i ys) → y ≡ get_or ys i x → set now i y ≡ filled w x (take (i + 1) ys)
filled_step w x y ys now i l e f =
    let n : suc i ≡ i + 1 = omega arith in
    ap (λ t. set t i y) e ∙ ap (set (filled w x (take i ys)) i) f ∙ filled_more w x ys i l ∙ ap (λ k. filled w x (take k ys)) n

pub filled_length : {X : Type 0} (w : ℕ) (x : X) (ys : List X) → length ys ≤ w → length (filled w x ys) ≡ w
filled_length w x ys h = length-append ys (replicate (w - length ys) x) ∙ ap (λ k. length ys + k) (length-replicate (w - length ys) x) ∙ omega arith

-- the equations of rows, one by one
pub equations_at : (n m p : ℕ) (ss ds : List (List ℤ)) (i : ℕ) → i < length ss → i < length ds
    → get_or (map padded_equation (equations_from n m p ss ds)) i no_equation ≡ padded_equation (equation_from n m p (get_or ss i []) (get_or ds i []))
equations_at n m p [] ds i h k = absurd (omega arith)
equations_at n m p (s ∷ ss) [] i h k = absurd (omega arith)
equations_at n m p (s ∷ ss) (d ∷ ds) zero h k = refl
equations_at n m p (s ∷ ss) (d ∷ ds) (suc i) h k = equations_at n m p ss ds i (omega arith) (omega arith)
