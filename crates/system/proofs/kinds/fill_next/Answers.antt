-- The proof of `fill_next`: what the search leaves.
use Rattle.std.proofs.Common.{◌≡◌, ℕ, ◌+◌, ◌-◌, ◌≤◌, List, map, length, take, ℤ, ◌*ℤ◌, ap, ◌∙◌, arith, lit<, w64, SFits, to_z, of_z, rules}
use borrow.Rule.Slice.PartMut.{put_mid}
use Rattle.std.proofs.ByRecursion.{All-take}
use Rattle.std.proofs.lemmas.Int.{to_z-of_z}
use Rattle.arith.specs.Bounds.{Within}
use Rattle.arith.proofs.Bounds.{sfits_within}
use Rattle.control.specs.Limits.{coefficient_limit}
use Rattle.case.specs.Faces.{unit}
use Rattle.case.specs.System.{column_count}
use Rattle.case.specs.Values.{values_of}
use Rattle.case.proofs.Stored.{ok_equation}
use Rattle.case.proofs.Faces.{case_columns}
use Rattle.system.proofs.Filling.{next_filled}
use Rattle.system.proofs.kinds.fill_next.Goals as goal

pub fill_scaled-requires-clause-small : goal.fill_scaled-requires-clause-small
fill_scaled-requires-clause-small c = All-take (Within coefficient_limit) (c.args.case.now.states - 0) c.args.equation.now.a (ok_equation c.args.equation.now c.requires.limits).a_ok.small

pub slice_bounds-fill_scaled-end-4 : goal.slice_bounds-fill_scaled-end-4
slice_bounds-fill_scaled-end-4 c =
    let v = c.args.case.now in
    let l = put_mid 0 (v.states - 0) c.fill_unit.new.coefficients c.fill_scaled.new.coefficients in
    let h : v.states + v.inputs ≤ length l = omega (arith, c.requires.long, case_columns v) in
    h

pub fill_scaled-requires-2-clause-small : goal.fill_scaled-requires-2-clause-small
fill_scaled-requires-2-clause-small c = All-take (Within coefficient_limit) (c.args.case.now.inputs - 0) c.args.equation.now.b (ok_equation c.args.equation.now c.requires.limits).b_ok.small

pub slice_bounds-fill_scaled-end-6 : goal.slice_bounds-fill_scaled-end-6
slice_bounds-fill_scaled-end-6 c =
    let v = c.args.case.now in
    let l = put_mid 0 (v.states - 0) c.fill_unit.new.coefficients c.fill_scaled.new.coefficients in
    let l' = put_mid v.states (v.states + v.inputs - v.states) l c.fill_scaled-2.new.coefficients in
    let h : v.states + v.inputs + v.pushes ≤ length l' = omega (arith, c.requires.long, case_columns v) in
    h

pub fill_scaled-requires-3-clause-small : goal.fill_scaled-requires-3-clause-small
fill_scaled-requires-3-clause-small c = All-take (Within coefficient_limit) (c.args.case.now.pushes - 0) c.args.equation.now.e (ok_equation c.args.equation.now c.requires.limits).e_ok.small

pub returns : goal.returns
returns c =
    let v = c.args.case.now in
    let k = values_of v in
    let n = v.states in
    let m = v.inputs in
    let p = v.pushes in
    let i = c.args.i in
    let s = c.args.equation.now in
    let A = c.fill_scaled.new.coefficients in
    let B = c.fill_scaled-2.new.coefficients in
    let E = c.fill_scaled-3.new.coefficients in
    let f : SFits w64 c.args.own = search rules in
    let r = to_z-of_z w64 c.args.sign (sfits_within 1 c.args.sign (lit< tt) c.requires.sign) in
    let by = λ (t : ℕ) (row : List ℤ). ap (λ (g : ℤ). map (λ z. g *ℤ z) (take (t - 0) row)) r in
    let start : c.fill_unit.new.coefficients ≡ unit (column_count k) (n + m + p + i) c.args.own =
    c.fill_unit.ensures ∙ ap (λ w. unit w (n + m + p + i) (to_z w64 (of_z w64 c.args.own))) c.requires.long ∙ ap (unit (column_count k) (n + m + p + i)) (to_z-of_z w64 c.args.own f) in
    ap (λ l. put_mid (n + m) (n + m + p - (n + m)) (put_mid n (n + m - n) (put_mid 0 (n - 0) l A) B) E) start
    ∙ next_filled v i s c.args.sign c.args.own A B E (ok_equation s c.requires.limits)
    (c.fill_scaled.ensures ∙ by n s.a) (c.fill_scaled-2.ensures ∙ by m s.b) (c.fill_scaled-3.ensures ∙ by p s.e)
