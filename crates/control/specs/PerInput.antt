-- The values of one or two inputs, as a list.
use Rattle.std.specs.Prelude.{List, [], ◌∷◌}
use Rattle.control.specs.declared.per_input.PerInput.{PerInput}
use Rattle.control.specs.declared.per_input.PerInput.TheVariants.{One, Two}

abbrev pub items : {X : Type 0} → PerInput X → List X
items (One a) = a ∷ []
items (Two a b) = a ∷ b ∷ []

-- R of the two values for each input
abbrev pub EachOfEach : {X Y : Type 0} → (X → Y → Type 0) → PerInput X → PerInput Y → Type 0
EachOfEach R (One a) (One c) = R a c
EachOfEach R (One a) (Two c d) = ⊥
EachOfEach R (Two a b) (One c) = ⊥
EachOfEach R (Two a b) (Two c d) = R a c × R b d
