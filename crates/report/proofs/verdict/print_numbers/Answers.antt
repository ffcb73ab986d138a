-- There is room for each number, and each is written behind those before it.
use Rattle.std.proofs.Common.{◌≡◌, ℕ, ◌+◌, length, set, ℤ, pos, is_some, sym, ap, ◌∙◌, arith, w32, w64, Fits, to_z, of_z}
use Rattle.std.proofs.lemmas.Int.{ints}
use Rattle.std.specs.List.{flat_map}
use Rattle.std.proofs.lemmas.List.{length-set, take_all}
use Rattle.report.specs.Verdicts.{spaced}
use Rattle.report.specs.Written.{written}
use Rattle.report.proofs.Spacing.{length_front, room_more, tail_room, turn}
use Rattle.report.proofs.Writing.{room_fits}
use Rattle.report.proofs.verdict.print_numbers.Goals as goal

-- a number of 32 bits, as a signed one of 64 bits
number_is : (z : ℤ) (n : ℕ) → Fits w32 n → z ≡ pos n → to_z w64 (of_z w64 z) ≡ pos n
number_is z n f e = omega (arith, ints)

pub loop-number-preserved : goal.loop-number-preserved
loop-number-preserved c =
    let e = number_is _ _ (c.type_inv.numbers c.loop-number.number-index) c.from.ensures in
    turn c.args.numbers.now c.args.out.now c.loop-number.out c.write_number.new.out c.loop-number.number-index c.loop-number.at c.unwrap-at.result _
    c.loop-number-test.true c.loop-number.invariant.0 c.loop-number.invariant.1 c.requires c.loop-number.auto.out e (sym c.unwrap-at.ensures ∙ c.write_number.ensures.count) c.write_number.ensures.bytes

pub bounds-out-at : goal.bounds-out-at
bounds-out-at c = omega (arith, room_more c.args.numbers.now c.loop-number.number-index c.loop-number-test.true)

pub overflow_add-at : goal.overflow_add-at
overflow_add-at c = omega (arith, room_more c.args.numbers.now c.loop-number.number-index c.loop-number-test.true)

pub slice_bounds-write_number-count : goal.slice_bounds-write_number-count
slice_bounds-write_number-count c =
    omega (arith, room_more c.args.numbers.now c.loop-number.number-index c.loop-number-test.true, length-set c.loop-number.out c.loop-number.at 32)

pub slice_bounds-write_number-start : goal.slice_bounds-write_number-start
slice_bounds-write_number-start c =
    omega (arith, room_more c.args.numbers.now c.loop-number.number-index c.loop-number-test.true, length-set c.loop-number.out c.loop-number.at 32)

pub overflow_add-at-in-loop-number : goal.overflow_add-at-in-loop-number
overflow_add-at-in-loop-number c = omega (arith, (loop-number-preserved c).0, length_front c.args.numbers.now (c.loop-number.number-index + 1))

pub unwrap-at-requires : goal.unwrap-at-requires
unwrap-at-requires c =
    let e = number_is _ _ (c.type_inv.numbers c.loop-number.number-index) c.from.ensures in
    let out = set c.loop-number.out c.loop-number.at 32 in
    let fits = tail_room c.args.numbers.now out c.loop-number.number-index c.loop-number.at _ c.loop-number-test.true c.loop-number.invariant.0
    (omega (arith, length-set c.loop-number.out c.loop-number.at 32)) e in
    ap is_some (c.write_number.ensures.count ∙ room_fits _ _ fits)

pub returns : goal.returns
returns c =
    let e = take_all c.loop-number.number-index c.args.numbers.now c.loop-number-test.false in
    record {
      count = c.loop-number.invariant.0 ∙ ap (λ xs. length (flat_map spaced xs)) e;
      bytes = c.loop-number.invariant.1 ∙ ap (λ xs. written (flat_map spaced xs) c.args.out.now) e;
    }
