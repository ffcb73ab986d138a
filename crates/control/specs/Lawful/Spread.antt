-- The coefficients of a row of one input: how the code fills them, their product and their limits.
use Rattle.std.proofs.Common.{◌≡◌, ℕ, ◌+◌, ◌-◌, ◌<◌, ◌≤◌, List, ◌++◌, map, length, get_or, take, drop, set, replicate, ℤ, pos, ◌+ℤ◌, ◌*ℤ◌, sym, ap, ◌∙◌, arith, take-append-drop}
use Rattle.std.specs.List.{AllByRecursion}
use Rattle.std.proofs.ByRecursion.{All-append, All-map, All-set, All-weaker}
use Rattle.std.proofs.lemmas.List.{length-map, length-replicate, get_or-map, get_or-replicate, get_or-take, get_or-drop, length-take-le, length-drop, set-append_right, ext_get_or, length-append, length-set}
use Rattle.std.proofs.lemmas.Int.{ints}
use Rattle.arith.specs.Bounds.{Within}
use Rattle.arith.specs.Products.{dot}
use Rattle.arith.proofs.Bounds.{sign_within, zeros_within}
use Rattle.arith.proofs.Dots.{dot_append, dot_map, dot_unit}
use Rattle.control.specs.declared.lines.Line.{Line}
use Rattle.control.specs.Meaning.{Row}
use Rattle.control.specs.Limits.{coefficient_limit, right_limit, RowLimits}
use Rattle.control.specs.Lines.{spread, row_from}

pub front_is : (g out : List ℤ) (s : ℤ) → length g ≤ length out → ((k : ℕ) → k < length g → get_or out k (pos 0) ≡ s *ℤ get_or g k (pos 0)) → take (length g) out ≡ map (λ a. s *ℤ a) g
front_is g out s le front =
    let el : length (take (length g) out) ≡ length g = length-take-le _ _ le in
    ext_get_or (pos 0) _ _ (el ∙ sym (length-map g (λ a. s *ℤ a)))
    (λ k h. let lt : k < length g = omega arith in
    get_or-take (length g) out k (pos 0) lt ∙ front k lt ∙ sym (get_or-map (λ a. s *ℤ a) g k (pos 0) (pos 0) lt))

pub back_is : (n : ℕ) (out : List ℤ) → n ≤ length out → ((k : ℕ) → n ≤ k → k < length out → get_or out k (pos 0) ≡ pos 0) → drop n out ≡ replicate (length out - n) (pos 0)
back_is n out le back =
    let el = length-drop n out in
    ext_get_or (pos 0) _ _ (el ∙ sym (length-replicate (length out - n) (pos 0)))
    (λ k h. let lt : k < length out - n = omega arith in
    get_or-drop n out k (pos 0) ∙ back (n + k) (omega arith) (omega arith) ∙ sym (get_or-replicate (length out - n) k (pos 0) (pos 0) lt))

pub spread_is : (g out : List ℤ) (j : ℕ) (l : Line) → length g ≤ length out → ((k : ℕ) → k < length g → get_or out k (pos 0) ≡ l.sign *ℤ get_or g k (pos 0)) → ((k : ℕ) → length g ≤ k → k < length out → get_or out k (pos 0) ≡ pos 0) → set out (length g + j) l.own ≡ spread g (length out - length g) j l
spread_is g out j l le front back =
    let n = length g in
    let a : n + j - n ≡ j = omega arith in
    ap (λ o. set o (n + j) l.own) (sym (take-append-drop n out))
    ∙ set-append_right (take n out) (drop n out) n (n + j) l.own (length-take-le _ _ le) (omega arith)
    ∙ ap (λ i. take n out ++ set (drop n out) i l.own) a
    ∙ ap (λ f. f ++ set (drop n out) j l.own) (front_is g out l.sign le front)
    ∙ ap (λ f. map (λ a. l.sign *ℤ a) g ++ set f j l.own) (back_is n out le back)

pub spread_long : (g : List ℤ) (m j : ℕ) (l : Line) → length (spread g m j l) ≡ length g + m
spread_long g m j l = simp (length-append, length-map, length-set, length-replicate)

-- the product of a row of one input with a state and a command
pub dot_spread : (g : List ℤ) (m j : ℕ) (l : Line) (x u : List ℤ) → length g ≡ length x → j < m → length u ≡ m → dot (spread g m j l) (x ++ u) ≡ l.sign *ℤ dot g x +ℤ l.own *ℤ get_or u j (pos 0)
dot_spread g m j l x u e lt f =
    dot_append (map (λ a. l.sign *ℤ a) g) (set (replicate m (pos 0)) j l.own) x u (length-map g (λ a. l.sign *ℤ a) ∙ e)
    ∙ omega (arith, ints, dot_map l.sign g x, dot_unit m j l.own u lt f)

-- the limits of a row of one input
pub row_limits : (g : List ℤ) (n m j : ℕ) (l : Line) → length g ≡ n → AllByRecursion (Within coefficient_limit) g → Within 1 l.sign → Within coefficient_limit l.own → Within right_limit l.right → RowLimits (n + m) (row_from g m j l)
row_limits g n m j l long small sign own right =
    record {
      wide = spread_long g m j l ∙ ap (λ k. k + m) long;
      small =
          All-append (Within coefficient_limit) _ _
          (All-map (Within coefficient_limit) (λ a. l.sign *ℤ a) g
          (All-weaker (Within coefficient_limit) (λ a. Within coefficient_limit (l.sign *ℤ a)) (λ a w. sign_within coefficient_limit l.sign a sign w) g small))
          (All-set (Within coefficient_limit) (replicate m (pos 0)) j l.own own (zeros_within coefficient_limit m));
      right_small = right;
    }

-- the list that fill_row leaves is the row's
pub filled : (n m p : ℕ) (g h list last : List ℤ) (l : Line) (row : Row) → g ≡ h → length h ≡ n → length list ≡ n + m → last ≡ spread g (length list - length g) p l → row ≡ row_from h m p l → last ≡ row.coefficients
filled n m p g h list last l row eg eh eo es er =
    let lg : length g ≡ n = ap length eg ∙ eh in
    let d : length list - length g ≡ m = omega arith in
    es ∙ ap (λ t. spread t (length list - length g) p l) eg ∙ ap (λ t. spread h t p l) d ∙ sym (ap (λ r. r.coefficients) er)
