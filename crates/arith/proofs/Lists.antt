-- Lemmas on short lists and on facts of each element.
use Rattle.std.proofs.Common.{◌≡◌, ℕ, ◌≤◌, List, [], ◌∷◌, length, subst, arith}
use Rattle.std.specs.List.{AllByRecursion}

pub all_of : {X : Type 0} (P : X → Type 0) → ((x : X) → P x) → (xs : List X) → AllByRecursion P xs
all_of P f [] = tt
all_of P f (x ∷ xs) = (f x, all_of P f xs)

-- a fact of every list of one or two
pub at_one_two : {X : Type 0} (P : ℕ → List X → Type 0) → ((a : X) → P 1 (a ∷ [])) → ((a b : X) → P 2 (a ∷ b ∷ [])) → (m : ℕ) (us : List X) → length us ≡ m → 1 ≤ m → m ≤ 2 → P m us
at_one_two P one two m [] e l h = absurd (omega arith)
at_one_two P one two m (a ∷ []) e l h = subst (λ k. P k (a ∷ [])) e (one a)
at_one_two P one two m (a ∷ b ∷ []) e l h = subst (λ k. P k (a ∷ b ∷ [])) e (two a b)
at_one_two P one two m (a ∷ b ∷ c ∷ us) e l h = absurd (omega arith)
