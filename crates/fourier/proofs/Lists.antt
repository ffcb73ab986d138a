-- Lists of rows: facts of each, of each pair, and what a scan finds.
use Rattle.std.proofs.Common.{◌≡◌, ℕ, ◌*◌, Bool, true, false, cond, List, [], ◌∷◌, map, length, Some, None, filter, refl, subst, suc-mul, arith, length-append}
use Rattle.std.specs.List.{AllByRecursion}
use Rattle.std.proofs.ByRecursion.{kept_by_passes, All-append, all_kept_by, All-map}
use Rattle.std.proofs.lemmas.List.{length-map}
use Rattle.fourier.specs.Cone.{column, Vector, is_positive, is_negative, positives, negatives, pairs}
use Rattle.fourier.specs.Search.{first}

-- two facts of each element together
pub all_by_two : {X : Type 0} (P Q R : X → Type 0) → ((x : X) → P x → Q x → R x) → (xs : List X) → AllByRecursion P xs → AllByRecursion Q xs → AllByRecursion R xs
all_by_two P Q R f [] p q = tt
all_by_two P Q R f (x ∷ xs) p q = (f x p.0 q.0, all_by_two P Q R f xs p.1 q.1)

pub none_kept : {X : Type 0} (test : X → Bool) (xs : List X) → AllByRecursion (λ x. test x ≡ false) xs → filter test xs ≡ []
none_kept test [] h = refl
none_kept test (x ∷ xs) h = rw h.0 (none_kept test xs h.1)

pub all_paired : {X : Type 0} (P : X → Type 0) (join : X → X → X) (ps qs : List X) → AllByRecursion (λ p. AllByRecursion (λ q. P (join p q)) qs) ps → AllByRecursion P (pairs join ps qs)
all_paired P join [] qs h = tt
all_paired P join (p ∷ ps) qs h = All-append P (map (join p) qs) (pairs join ps qs) (All-map P (join p) qs h.0) (all_paired P join ps qs h.1)

-- the answers of a scan
pub first_none : {X : Type 0} (test : X → Bool) (rows : List X) → first test rows ≡ None → AllByRecursion (λ r. test r ≡ false) rows
first_none test [] e = tt
first_none test (r ∷ rs) e = by_test (test r) refl (first_none test rs) e
  where
    by_test : (t : Bool) → test r ≡ t → (first test rs ≡ None → AllByRecursion (λ r. test r ≡ false) rs) → cond t (Some r) (first test rs) ≡ None → AllByRecursion (λ r. test r ≡ false) (r ∷ rs)
    by_test true t more k = absurd (grind arith)
    by_test false t more k = (t, more k)

pub first_some : {X : Type 0} (P : X → Type 0) (test : X → Bool) (rows : List X) (r : X) → AllByRecursion P rows → first test rows ≡ Some r → P r × (test r ≡ true)
first_some P test [] r p e = absurd (grind arith)
first_some P test (x ∷ xs) r p e = by_test (test x) refl (first_some P test xs r p.1) e
  where
    by_test : (t : Bool) → test x ≡ t → (first test xs ≡ Some r → P r × (test r ≡ true)) → cond t (Some x) (first test xs) ≡ Some r → P r × (test r ≡ true)
    by_test true t more k = let same : x ≡ r = cc in subst (λ y. P y × (test y ≡ true)) same (p.0, t)
    by_test false t more k = more k

pub length_pairs : {X : Type 0} (join : X → X → X) (ps qs : List X) → length (pairs join ps qs) ≡ length ps * length qs
length_pairs join [] qs = omega arith
length_pairs join (p ∷ ps) qs =
    omega (arith, length-append (map (join p) qs) (pairs join ps qs), length-map qs (join p), length_pairs join ps qs, suc-mul (length ps) (length qs))

-- what holds of each positive row with each negative one
pub all_pairs : {X : Type 0} (at : X → Vector) (c : ℕ) (P : X → Type 0) (R : X → X → Type 0) (rows : List X) → ((p q : X) → P p → P q → is_positive (at p (column c)) ≡ true → is_negative (at q (column c)) ≡ true → R p q) → AllByRecursion P rows → AllByRecursion (λ p. AllByRecursion (R p) (negatives at c rows)) (positives at c rows)
all_pairs {X} at c P R rows f h =
    let plus : X → Bool = λ r. is_positive (at r (column c)) in
    let minus : X → Bool = λ r. is_negative (at r (column c)) in
    all_by_two P (λ p. plus p ≡ true) (λ p. AllByRecursion (R p) (negatives at c rows))
    (λ p good sign. all_by_two P (λ q. minus q ≡ true) (R p) (λ q good' sign'. f p q good good' sign sign') (negatives at c rows) (all_kept_by minus P rows h) (kept_by_passes minus rows))
    (positives at c rows) (all_kept_by plus P rows h) (kept_by_passes plus rows)
