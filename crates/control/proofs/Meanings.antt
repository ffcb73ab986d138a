-- What the law of cover gives where a command is taken.
use Rattle.std.proofs.Common.{◌≡◌, Bool, true, false, cond, ◌&&◌, eqb, List, ◌++◌, length, ℤ, is_ok, Ok, Err, Result, sym, refl, ap, ◌∙◌, subst}
use Rattle.std.proofs.lemmas.Bool.{eqb-true, false≢true}
use Rattle.arith.specs.Bounds.{all_within}
use Rattle.arith.proofs.Bounds.{all_from_test}
use Rattle.control.specs.declared.fault.ControlFault.{ControlFault}
use Rattle.control.specs.declared.fault.ControlFault.TheVariants.{Length, Range}
use Rattle.control.specs.Meaning.{Meaning}
use Rattle.control.specs.Limits.{state_limit, State}
use Rattle.control.specs.Cover.{Cover, Covered}
use Rattle.control.specs.Answers.{command_answer, command_fills}

accepted : (a b c : Bool) → is_ok {T = Unit {0}} {E = ControlFault} (cond (a && b) (cond c (Ok tt) (Err Range)) (Err Length)) ≡ true → (a ≡ true) × (b ≡ true) × (c ≡ true)
accepted true true true e = (refl, refl, refl)
accepted true true false e = absurd (false≢true e)
accepted true false c e = absurd (false≢true e)
accepted false b c e = absurd (false≢true e)

taken_state : (m : Meaning) (x list : List ℤ) → is_ok (command_answer m x list) ≡ true → State m.states x
taken_state m x list e =
    let p = accepted (eqb (length x) m.states) (eqb (length list) m.inputs) (all_within state_limit x) e in
    record { long = eqb-true _ _ p.0; small = all_from_test state_limit x p.2 }

pub taken_covered : (m : Meaning) → Cover m → (x list after : List ℤ) (r : Result (Unit {0}) ControlFault) → r ≡ command_answer m x list → after ≡ command_fills m x list → is_ok r ≡ true → Covered m.regions (x ++ after)
taken_covered m law x list after r a f e =
    let t : is_ok (command_answer m x list) ≡ true = ap is_ok (sym a) ∙ e in
    let g : after ≡ m.command x = f ∙ ap (λ b. cond b (m.command x) list) t in
    subst (λ u. Covered m.regions (x ++ u)) (sym g) (law x (taken_state m x list t))
