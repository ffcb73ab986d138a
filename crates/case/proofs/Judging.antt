-- The judgement over a whole line.
use Rattle.std.proofs.Common.{◌≡◌, ℕ, ◌-◌, List, length, get_or, ℤ, pos, ◌+ℤ◌, ◌*ℤ◌, Ok, refl, ap, ◌∙◌}
use lib.Signed.{le_z}
use Rattle.std.proofs.lemmas.Bool.{cond-true}
use Rattle.arith.proofs.Bounds.{le_z_true}
use Rattle.text.specs.Lines.{bind, padded, row_width}
use Rattle.text.proofs.Collecting.{Accepts}
use Rattle.text.proofs.Forming.{bind_ok}
use Rattle.text.proofs.Padding.{padding, test_to, le_z_from}
use Rattle.case.specs.Forms.{InOrder, GoodState, AnyRow}
use Rattle.case.specs.Texts.{in_order, wide_enough, unjudged, state_judged}

-- Zeros behind a row leave its judgement.

pub in_order_padded : (line : ℕ) (zs row : List ℤ) → row ≡ padded zs → in_order line row ≡ in_order line zs
in_order_padded line zs row e =
    let k = row_width - length zs in
    let a = padding zs k 0 in
    let b = padding zs k 1 in
    ap (in_order line) e ∙ rw (a, b) refl

pub state_padded : (divisor : ℤ) (line : ℕ) (zs row : List ℤ) → row ≡ padded zs → state_judged divisor line row ≡ state_judged divisor line zs
state_padded divisor line zs row e =
    let k = row_width - length zs in
    let a = padding zs k 0 in
    let b = padding zs k 1 in
    let c = padding zs k 2 in
    ap (state_judged divisor line) e ∙ rw (a, b, c) refl

-- A line is judged good exactly when it is.

in_order_to : (line : ℕ) (row : List ℤ) (u : Unit {0}) → in_order line row ≡ Ok u → InOrder row
in_order_to line row u e = le_z_true _ _ (test_to (le_z (get_or row 0 (pos 0)) (get_or row 1 (pos 0))) _ u e)

in_order_from : (line : ℕ) (row : List ℤ) → InOrder row → in_order line row ≡ Ok tt
in_order_from line row h = cond-true _ _ _ (le_z_from _ _ h)

pub accepts_order : Accepts in_order InOrder
accepts_order = record { to = in_order_to; from = in_order_from }

pub accepts_state : (divisor : ℤ) → Accepts (state_judged divisor) (GoodState divisor)
accepts_state divisor = record {
  to = λ line row u e.
      let b = bind_ok (in_order line row) (λ _. wide_enough divisor line row) u e in
      (in_order_to line row b.0 b.1, le_z_true _ _ (test_to (le_z divisor (pos 2 *ℤ get_or row 2 (pos 0) +ℤ pos 1)) _ u b.2));
  from = λ line row h. ap (λ r. bind r (λ _. wide_enough divisor line row)) (in_order_from line row h.0) ∙ cond-true _ _ _ (le_z_from _ _ h.1);
}

pub accepts_any : Accepts unjudged AnyRow
accepts_any = record { to = λ line row u e. tt; from = λ line row h. refl }
