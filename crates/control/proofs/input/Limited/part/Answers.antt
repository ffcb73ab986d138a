-- The proof of `Limited::part`: what the search leaves.
use Rattle.std.proofs.Common.{ap, ◌∙◌, w64, SFits, rules}
use Rattle.std.specs.Int.{int_max, int_min}
use Rattle.std.proofs.lemmas.Int.{to_z-of_z}
use Rattle.control.proofs.input.Limited.part.Goals as goal

pub returns : goal.returns
returns c =
    let a : SFits w64 c.args.self.now.input.low = search rules in
    let b : SFits w64 c.args.self.now.input.high = search rules in
    let v : SFits w64 c.args.v = c.ranges.v in
    let e : SFits w64 c.quotient.result = search rules in
    let f : SFits w64 c.min.result = search rules in
    let h : SFits w64 c.max.result = search rules in
    let x = simp to_z-of_z at c.max.ensures.value in
    let y = simp to_z-of_z at c.min.ensures.value in
    let z = simp to_z-of_z at c.quotient.ensures in
    to_z-of_z w64 _ h ∙ x ∙ ap (int_max c.args.self.now.input.low) (y ∙ ap (int_min c.args.self.now.input.high) z)
