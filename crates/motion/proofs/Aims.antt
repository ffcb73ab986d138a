-- What a state aims at: the sum of three products and a constant, and its magnitude.
use Rattle.std.proofs.Common.{◌≡◌, ℕ, ◌*◌, ◌<◌, ◌≤◌, true, List, length, get_or, take, ℤ, ◌+ℤ◌, sym, ap, ◌∙◌, subst, mul-le-mul_left, arith, lit<, w64, SFits, to_z, of_z}
use mir.Syntax.{w128}
use Rattle.std.specs.List.{AllByRecursion}
use Rattle.std.proofs.lemmas.Int.{ints, to_z-of_z}
use Rattle.arith.specs.Bounds.{Within, all_within}
use Rattle.arith.specs.Products.{dot}
use Rattle.arith.proofs.Bounds.{all_from_test, within_wider}
use Rattle.arith.proofs.Dots.{dot_within}
use Rattle.control.specs.Limits.{most_states, most_inputs, state_limit, command_limit}
use Rattle.case.specs.Limits.{most_pushes, bound_limit, entry_limit, constant_limit, equation_ok}
use Rattle.case.specs.Next.{aim}
use Rattle.case.specs.Values.{equation_of, values_of}
use Rattle.case.specs.declared.values.Case.{Case}
use Rattle.case.specs.declared.values.StateEquation.{StateEquation}
use Rattle.case.proofs.Stored.{RowOk, equations_enough, ok_equation}
use Rattle.motion.specs.Moves.{aim_limit, no_equation}
use Rattle.motion.proofs.Stored.{front, held_at}
use Rattle.arith.proofs.Widths.{wide_within, widened}

-- the magnitude of one product
product_small : (m width : ℕ) (row xs : List ℤ) → length xs ≤ width → width ≤ most_states → RowOk width row → AllByRecursion (Within m) xs → Within (entry_limit * m * width) (dot (take (length xs) row) xs)
product_small m width row xs le few ok small =
    let f = front (length xs) width row le few ok in
    let n : length (take (length xs) row) ≤ width = omega (arith, f.long) in
    within_wider _ _ (mul-le-mul_left (entry_limit * m) n) _ (dot_within entry_limit m (take (length xs) row) xs f.long f.small small)

-- p, q and r are the products, t is the constant
pub record Aimed (s : StateEquation) (x u w : List ℤ) (p q r t : ℤ) : Type 0 where
  pub states : Within aim_limit p
  pub inputs : Within aim_limit q
  pub pushes : Within aim_limit r
  pub sum : Within aim_limit (p +ℤ q +ℤ r +ℤ t)
  pub is : p +ℤ q +ℤ r +ℤ t ≡ aim (equation_of (length x) (length u) (length w) s) x u w

pub summed : (s : StateEquation) (x u w : List ℤ) (p q r t : ℤ) → equation_ok s ≡ true → length x ≤ most_states → length u ≤ most_inputs → length w ≤ most_pushes → all_within state_limit x ≡ true → all_within command_limit u ≡ true → all_within bound_limit w ≡ true → p ≡ dot (take (length x) s.a) x → q ≡ dot (take (length u) s.b) u → r ≡ dot (take (length w) s.e) w → t ≡ s.constant → Aimed s x u w p q r t
summed s x u w p q r t ok lx lu lw vx vu vw ep eq er et =
    let k = ok_equation s ok in
    let a = subst (Within (entry_limit * state_limit * most_states)) (sym ep) (product_small state_limit most_states s.a x lx (omega arith) k.a_ok (all_from_test state_limit x vx)) in
    let b = subst (Within (entry_limit * command_limit * most_inputs)) (sym eq) (product_small command_limit most_inputs s.b u lu (omega arith) k.b_ok (all_from_test command_limit u vu)) in
    let e = subst (Within (entry_limit * bound_limit * most_pushes)) (sym er) (product_small bound_limit most_pushes s.e w lw (omega arith) k.e_ok (all_from_test bound_limit w vw)) in
    let d = subst (Within constant_limit) (sym et) k.constant_small in
    record {
      states = within_wider _ _ (omega arith) p a;
      inputs = within_wider _ _ (omega arith) q b;
      pushes = within_wider _ _ (omega arith) r e;
      sum = (omega (arith, ints, a.0, b.0, e.0, d.0), omega (arith, ints, a.1, b.1, e.1, d.1));
      is = rw (ep, eq, er, et);
    }

-- the equation of a state in the values of a case
pub aim_held : (k : Case) (i : ℕ) (x u w : List ℤ) (v : ℤ) → i < k.states → length x ≡ k.states → length u ≡ k.inputs → length w ≡ k.pushes → v ≡ aim (equation_of (length x) (length u) (length w) (get_or k.equations i no_equation)) x u w → v ≡ aim (get_or (values_of k).equations i no_equation) x u w
aim_held k i x u w v lt ex eu ew is =
    let f = equation_of k.states k.inputs k.pushes in
    let s = get_or k.equations i no_equation in
    let e : equation_of (length x) (length u) (length w) s ≡ f s = rw (ex, eu, ew) in
    is ∙ ap (λ t. aim t x u w) (e ∙ sym (held_at f k.states k.equations i no_equation no_equation lt (equations_enough k)))

-- a product as the code computes it
pub product_is : (row xs : List ℤ) (p : ℤ) → SFits w128 p → p ≡ dot (take (length xs) row) xs → to_z w128 (of_z w128 p) ≡ dot (take (length xs) row) xs
product_is row xs p f e = to_z-of_z w128 p f ∙ e

-- the sum as the code computes it
pub total_read : (p q r t z : ℤ) → SFits w64 t → z ≡ to_z w64 (of_z w64 t) → Within aim_limit p → Within aim_limit q → Within aim_limit r → to_z w128 (of_z w128 (to_z w128 (of_z w128 (to_z w128 (of_z w128 p) +ℤ to_z w128 (of_z w128 q))) +ℤ to_z w128 (of_z w128 r))) +ℤ to_z w128 (of_z w128 z) ≡ p +ℤ q +ℤ r +ℤ t
total_read p q r t z f e a b c =
    let fp = wide_within aim_limit p (lit< tt) a in
    let fq = wide_within aim_limit q (lit< tt) b in
    let fr = wide_within aim_limit r (lit< tt) c in
    let pq : Within (2 * aim_limit) (p +ℤ q) = (omega (arith, ints, a.0, b.0), omega (arith, ints, a.1, b.1)) in
    let pqr : Within (3 * aim_limit) (p +ℤ q +ℤ r) = (omega (arith, ints, pq.0, c.0), omega (arith, ints, pq.1, c.1)) in
    let fpq = wide_within (2 * aim_limit) (p +ℤ q) (lit< tt) pq in
    let fpqr = wide_within (3 * aim_limit) (p +ℤ q +ℤ r) (lit< tt) pqr in
    rw (to_z-of_z w128 p fp, to_z-of_z w128 q fq, to_z-of_z w128 (p +ℤ q) fpq, to_z-of_z w128 r fr, to_z-of_z w128 (p +ℤ q +ℤ r) fpqr, widened t z f e)
