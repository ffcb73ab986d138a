-- Euclid's algorithm: its step, and that it finds the greatest common divisor.
use Rattle.std.proofs.Common.{◌≡◌, ℕ, zero, suc, ◌+◌, ◌-◌, ◌*◌, ◌/◌, ◌%◌, ◌<◌, ◌≤◌, List, [], ◌∷◌, ℤ, nat_abs, refl, ap, ◌∙◌, arith}
use native.Mathlib.Nat.{mul-sub}
use Rattle.std.specs.List.{AllByRecursion}
use Rattle.std.proofs.lemmas.Nat.{mod_below, div-add-mod'}
use Rattle.elimination.specs.Divisors.{euclid, gcd, Divides, Greatest, divisor}

-- the turns that are not needed change nothing
fuel : (n m x y : ℕ) → y ≤ n → y ≤ m → euclid n x y ≡ euclid m x y
fuel zero zero x zero p q = refl
fuel zero (suc m) x zero p q = refl
fuel (suc n) zero x zero p q = refl
fuel (suc n) (suc m) x zero p q = refl
fuel zero m x (suc y) p q = absurd (omega arith)
fuel (suc n) zero x (suc y) p q = absurd (omega arith)
fuel (suc n) (suc m) x (suc y) p q =
    let h = mod_below x (suc y) (omega arith) in
    fuel n m (suc y) (x % suc y) (omega arith) (omega arith)

pub gcd_step : (x y : ℕ) → 0 < y → gcd y (x % y) ≡ gcd x y
gcd_step x zero h = absurd (omega arith)
gcd_step x (suc y) h =
    let l = mod_below x (suc y) h in
    fuel (x % suc y) y (suc y) (x % suc y) (omega arith) (omega arith)

-- it divides both numbers
divides_back : (d x y : ℕ) → Divides d y → Divides d (x % y) → Divides d x
divides_back d x y h k =
    let e = ap (λ (n : ℕ). x / y * n) h.1 in
    (x / y * h.0 + k.0, omega (arith, div-add-mod' x y, h.1, k.1, e))

euclid_divides : (n x y : ℕ) → y ≤ n → Divides (euclid n x y) x × Divides (euclid n x y) y
euclid_divides zero x zero p = ((1, omega arith), (0, omega arith))
euclid_divides (suc n) x zero p = ((1, omega arith), (0, omega arith))
euclid_divides zero x (suc y) p = absurd (omega arith)
euclid_divides (suc n) x (suc y) p =
    let l = mod_below x (suc y) (omega arith) in
    let h = euclid_divides n (suc y) (x % suc y) (omega arith) in
    (divides_back (euclid n (suc y) (x % suc y)) x (suc y) h.0 h.1, h.0)

pub gcd_divides : (x y : ℕ) → Divides (gcd x y) x × Divides (gcd x y) y
gcd_divides x y = euclid_divides y x y (omega arith)

-- what divides both numbers divides it
divides_rest : (e x y : ℕ) → Divides e x → Divides e y → Divides e (x % y)
divides_rest e x y h k =
    let a = ap (λ (n : ℕ). x / y * n) k.1 in
    (h.0 - x / y * k.0, omega (arith, div-add-mod' x y, h.1, k.1, a, mul-sub e h.0 (x / y * k.0)))

euclid_each : (n x y e : ℕ) → Divides e x → Divides e y → Divides e (euclid n x y)
euclid_each zero x zero e h k = h
euclid_each (suc n) x zero e h k = h
euclid_each zero x (suc y) e h k = h
euclid_each (suc n) x (suc y) e h k = euclid_each n (suc y) (x % suc y) e k (divides_rest e x (suc y) h k)

pub gcd_greatest : (x y : ℕ) → Greatest x y (gcd x y)
gcd_greatest x y = record { first = (gcd_divides x y).0; second = (gcd_divides x y).1; each = euclid_each y x y }

-- its size
euclid_limit : (n x y m : ℕ) → x ≤ m → y ≤ m → euclid n x y ≤ m
euclid_limit zero x zero m h k = h
euclid_limit (suc n) x zero m h k = h
euclid_limit zero x (suc y) m h k = h
euclid_limit (suc n) x (suc y) m h k = let l = mod_below x (suc y) (omega arith) in euclid_limit n (suc y) (x % suc y) m k (omega arith)

pub gcd_limit : (x y m : ℕ) → x ≤ m → y ≤ m → gcd x y ≤ m
gcd_limit x y m h k = euclid_limit y x y m h k

-- what divides a number above 0 is above 0
pub divides_above : (d n : ℕ) → Divides d n → 0 < n → 0 < d
divides_above zero n h l = absurd (omega (arith, h.1))
divides_above (suc d) n h l = omega arith

pub gcd_above : (x y : ℕ) → 0 < x → 0 < gcd x y
gcd_above x y h = divides_above (gcd x y) x (gcd_divides x y).0 h

-- the divisor of a list divides the first number and each of the list
divides_trans : (a b c : ℕ) → Divides a b → Divides b c → Divides a c
divides_trans a b c h k = (k.0 * h.0, k.1 ∙ ap (λ (n : ℕ). k.0 * n) h.1 ∙ omega arith)

pub divisor_divides : (g : ℕ) (zs : List ℤ) → Divides (divisor g zs) g × AllByRecursion (λ z. Divides (divisor g zs) (nat_abs z)) zs
divisor_divides g [] = ((1, omega arith), tt)
divisor_divides g (z ∷ zs) =
    let h = divisor_divides (gcd g (nat_abs z)) zs in
    let k = gcd_divides g (nat_abs z) in
    let d = divisor (gcd g (nat_abs z)) zs in
    (divides_trans d (gcd g (nat_abs z)) g h.0 k.0, (divides_trans d (gcd g (nat_abs z)) (nat_abs z) h.0 k.1, h.1))

pub divisor_limit : (m g : ℕ) (zs : List ℤ) → g ≤ m → AllByRecursion (λ z. nat_abs z ≤ m) zs → divisor g zs ≤ m
divisor_limit m g [] h k = h
divisor_limit m g (z ∷ zs) h k = divisor_limit m (gcd g (nat_abs z)) zs (gcd_limit g (nat_abs z) m h k.0) k.1
