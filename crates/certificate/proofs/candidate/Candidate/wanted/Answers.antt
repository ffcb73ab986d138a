-- The proof of `wanted`: what the search leaves.
use Rattle.std.proofs.Common.{ℕ, ◌-◌, ◌<◌, List, length, get_or, ℤ, pos, sym, ◌∙◌, arith, lit<}
use Rattle.std.specs.List.{AllByRecursion}
use Rattle.std.proofs.ByRecursion.{All-get_or}
use Rattle.std.proofs.lemmas.Int.{ints}
use Rattle.arith.specs.Bounds.{Within}
use Rattle.control.specs.Limits.{coefficient_limit}
use Rattle.certificate.specs.Tests.{multiplier_limit}
use Rattle.certificate.proofs.Adding.{Computed, computed}
use Rattle.certificate.proofs.Columns.{wanted_before, wanted_after}
use Rattle.certificate.proofs.candidate.Candidate.wanted.Goals as goal

at_place : (scale : ℤ) (face : List ℤ) (i : ℕ) → i < length face → Within multiplier_limit scale → AllByRecursion (Within coefficient_limit) face → Computed (pos 0) scale (get_or face i (pos 0))
at_place scale face i lt limit small =
    computed 0 multiplier_limit coefficient_limit (pos 0) scale (get_or face i (pos 0)) (lit< tt) (lit< tt) (lit< tt) (omega (arith, ints), omega (arith, ints)) limit
    (All-get_or (Within coefficient_limit) face i (pos 0) lt small)

pub overflow_mul-result : goal.overflow_mul-result
overflow_mul-result c = (at_place c.args.self.now.scale c.args.face.now (c.args.j - c.args.width) (omega (arith, c.requires.place)) c.args.self.now.scale_small c.requires.small).product_fits

pub returns-then-j-width : goal.returns-then-j-width
returns-then-j-width c = sym (wanted_before c.args.width c.args.self.now.scale c.args.face.now c.args.j c.if-j-width.true)

pub returns : goal.returns
returns c =
    (at_place c.args.self.now.scale c.args.face.now (c.args.j - c.args.width) (omega (arith, c.requires.place)) c.args.self.now.scale_small c.requires.small).product ∙ sym (wanted_after c.args.width c.args.self.now.scale c.args.face.now c.args.j c.if-j-width.false c.requires.place)
