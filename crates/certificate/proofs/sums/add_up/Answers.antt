-- The proof of `add_up`: what the search leaves.
use Rattle.std.proofs.Common.{◌≡◌, ℕ, ◌-◌, ◌<◌, List, ◌++◌, length, get_or, take, drop, ℤ, pos, refl, sym, ap, ◌∙◌, subst, arith, w64, to_z, of_z}
use Rattle.std.specs.List.{AllByRecursion}
use Rattle.std.proofs.lemmas.List.{length-replicate, take_at}
use Rattle.arith.specs.Bounds.{Within}
use Rattle.control.specs.Limits.{coefficient_limit}
use Rattle.case.specs.System.{none}
use Rattle.system.specs.Systems.{rows_of, columns_of}
use Rattle.system.specs.declared.system.System.{System}
use Rattle.certificate.specs.Certificates.{scaled, added}
use Rattle.certificate.specs.declared.candidate.Candidate.{Candidate}
use Rattle.certificate.proofs.Found.{rows_small}
use Rattle.certificate.proofs.Turns.{Summed, summed_none, summed_all, summed_same, Turn, multiplier_within, sums_within, turn_skipped, turn_row, turn_computed, turn_added}
use Rattle.certificate.proofs.sums.add_up.Given as given
use Rattle.certificate.proofs.sums.add_up.Goals as goal
use Rattle.certificate.proofs.sums.add_up.Goals.{then-multiplier-ne0, else-multiplier-ne0}

-- a turn of the loop
turn_of : (g : given.Over) (s : System g.row.C.Denot g.C.Controller) (p : Candidate) (i : ℕ) (sums : List ℤ) (sum : ℤ) → length p.multipliers.now ≡ s.rows → i < length p.multipliers.now → Summed (columns_of s) p.multipliers.now (rows_of s) i sums sum → Turn (columns_of s) p.multipliers.now (rows_of s) i sums sum
turn_of g s p i sums sum long lt before =
    record { small = rows_small s (g.met.C.Controller.limits s.closed.now.controller.now); few = omega (arith, s.few, s.counted); long = long ∙ s.counted; all = p.multipliers_small; lt = lt; before = before }

pub loop-i-init : goal.loop-i-init
loop-i-init g c =
    let s = c.args.system.now in
    let ms = c.args.candidate.now.multipliers.now in
    summed_same (columns_of s) ms (rows_of s) 0 (none (columns_of s)) c.args.sums.now (pos 0) (pos 0) c.requires.clear refl (summed_none (columns_of s) ms (rows_of s) (rows_small s (g.met.C.Controller.limits s.closed.now.controller.now)))

pub add_scaled-requires-clause-multiplier : goal.add_scaled-requires-clause-multiplier
add_scaled-requires-clause-multiplier g c = multiplier_within (turn_of g c.args.system.now c.args.candidate.now c.loop-i.i c.loop-i.sums _ c.requires.long c.loop-i-test.true c.loop-i.invariant)

pub add_scaled-requires-clause-room : goal.add_scaled-requires-clause-room
add_scaled-requires-clause-room g c = sums_within (turn_of g c.args.system.now c.args.candidate.now c.loop-i.i c.loop-i.sums _ c.requires.long c.loop-i-test.true c.loop-i.invariant)

-- the row as it is read back from the list that was lent
read_back : (cs sums : List ℤ) (n : ℕ) → length cs ≡ n → sums ≡ none n → take (length sums - 0) (cs ++ drop (length sums - 0) (none 12)) ≡ cs
read_back cs sums n e blank = take_at cs (drop (length sums - 0) (none 12)) (length sums - 0) (omega (arith, ap length blank, length-replicate n (pos 0)))

pub add_scaled-requires-clause-small : goal.add_scaled-requires-clause-small
add_scaled-requires-clause-small g c =
    let row = turn_row (turn_of g c.args.system.now c.args.candidate.now c.loop-i.i c.loop-i.sums _ c.requires.long c.loop-i-test.true c.loop-i.invariant) c.row-right.ensures in
    subst (AllByRecursion (Within coefficient_limit)) (sym (read_back c.row-right.new.coefficients c.args.sums.now (columns_of c.args.system.now) row.wide c.requires.clear)) row.small

pub overflow_mul-sum : goal.overflow_mul-sum
overflow_mul-sum g c = (turn_computed (turn_of g c.args.system.now c.args.candidate.now c.loop-i.i c.loop-i.sums _ c.requires.long c.loop-i-test.true c.loop-i.invariant) c.row-right.ensures).product_fits

pub overflow_add-sum : goal.overflow_add-sum
overflow_add-sum g c = (turn_computed (turn_of g c.args.system.now c.args.candidate.now c.loop-i.i c.loop-i.sums _ c.requires.long c.loop-i-test.true c.loop-i.invariant) c.row-right.ensures).sum_fits

pub loop-i-preserved : goal.loop-i-preserved
loop-i-preserved g c =
    let t = turn_of g c.args.system.now c.args.candidate.now c.loop-i.i c.loop-i.sums _ c.requires.long c.loop-i-test.true c.loop-i.invariant in
    elim c.if-multiplier-ne0.branch [
      | then-multiplier-ne0 w ↦
          let part = read_back w.row-right.new.coefficients c.args.sums.now (columns_of c.args.system.now) (turn_row t w.row-right.ensures).wide c.requires.clear in
          turn_added t w.row-right.ensures _ _ (w.sums-is ∙ w.add_scaled.ensures ∙ ap (λ l. added c.loop-i.sums (scaled (to_z w64 (of_z w64 (get_or c.args.candidate.now.multipliers.now c.loop-i.i (pos 0)))) l)) part) w.sum-is
      | else-multiplier-ne0 w ↦ summed_same _ _ _ _ _ _ _ _ w.sums-is w.sum-is (turn_skipped t w.if-multiplier-ne0.false)
    ]

pub returns : goal.returns
returns g c =
    let s = c.args.system.now in
    let t = summed_all (columns_of s) c.args.candidate.now.multipliers.now (rows_of s) c.loop-i.i c.loop-i.sums _ c.loop-i-test.false c.loop-i.invariant in
    record { columns = t.0; right = t.1 }
