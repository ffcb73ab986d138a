-- The next state on whole numbers: what a state, a command and pushes aim at, and which values are permitted.
use Rattle.std.specs.Prelude.{List, [], ◌∷◌, ℤ, ◌+ℤ◌, ◌-ℤ◌, ◌*ℤ◌, neg_ℤ, ◌≤ℤ◌}
use Rattle.std.specs.Int.{int_div_euclid}
use Rattle.arith.specs.Products.{dot}
use Rattle.case.specs.Values.{CaseValues}
use Rattle.case.specs.declared.values.StateEquation.{StateEquation}
use Rattle.case.specs.declared.values.PushBounds.{PushBounds}

-- v of a state
abbrev pub aim : StateEquation → List ℤ → List ℤ → List ℤ → ℤ
aim s x u w = dot s.a x +ℤ dot s.b u +ℤ dot s.e w +ℤ s.constant

-- D × y − v lies from −r to r
abbrev pub Permits : ℤ → ℤ → ℤ → ℤ → Type 0
Permits D r v y = (neg_ℤ r ≤ℤ (D *ℤ y -ℤ v)) × ((D *ℤ y -ℤ v) ≤ℤ r)

-- the lowest permitted value, (v − r) / D rounded up, and the highest, (v + r) / D rounded down
abbrev pub lowest : ℤ → ℤ → ℤ → ℤ
lowest D r v = neg_ℤ (int_div_euclid (r -ℤ v) D)

abbrev pub highest : ℤ → ℤ → ℤ → ℤ
highest D r v = int_div_euclid (v +ℤ r) D

-- each value of y is a permitted next value of its state
abbrev pub AllPermitted : ℤ → List StateEquation → List ℤ → List ℤ → List ℤ → List ℤ → Type 0
AllPermitted D [] x u w [] = Unit {0}
AllPermitted D [] x u w (y ∷ ys) = ⊥
AllPermitted D (s ∷ ss) x u w [] = ⊥
AllPermitted D (s ∷ ss) x u w (y ∷ ys) = Permits D s.leeway (aim s x u w) y × AllPermitted D ss x u w ys

abbrev pub Permitted : CaseValues → List ℤ → List ℤ → List ℤ → List ℤ → Type 0
Permitted k x u w y = AllPermitted k.divisor k.equations x u w y

-- each push lies within its bounds
abbrev pub AllBounded : List PushBounds → List ℤ → Type 0
AllBounded [] [] = Unit {0}
AllBounded [] (w ∷ ws) = ⊥
AllBounded (b ∷ bs) [] = ⊥
AllBounded (b ∷ bs) (w ∷ ws) = (b.low ≤ℤ w) × (w ≤ℤ b.high) × AllBounded bs ws

abbrev pub Bounded : CaseValues → List ℤ → Type 0
Bounded k w = AllBounded k.bounds w
