-- The proof of `LawHead::input`: what the search leaves.
use Rattle.std.proofs.Common.{◌≡◌, ◌+◌, ◌-◌, get_or, take, drop, replicate, pos, w64, SFits, rules}
use Rattle.std.proofs.lemmas.Int.{to_z-of_z}
use Rattle.std.proofs.lemmas.List.{drop-replicate}
use Rattle.laws.proofs.head.LawHead.input.Goals as goal

pub returns : goal.returns
returns c =
    let n = c.args.self.states in
    let row = c.args.row.now in
    let small = c.args.self.sizes.1 in
    let e : c.copy_from_slice.new.self ≡ take c.args.self.states c.args.row.now = c.copy_from_slice.ensures.after in
    let z : drop c.args.self.states (replicate 4 (pos 0)) ≡ replicate (4 - c.args.self.states) (pos 0) = drop-replicate n 4 (pos 0) in
    let f : SFits w64 (get_or c.args.row.now c.args.self.states (pos 0)) = search rules in
    let g : SFits w64 (get_or c.args.row.now (c.args.self.states + 1) (pos 0)) = search rules in
    let h : SFits w64 (get_or c.args.row.now (c.args.self.states + 2) (pos 0)) = search rules in
    let k : SFits w64 (get_or c.args.row.now (c.args.self.states + 3) (pos 0)) = search rules in
    simp (to_z-of_z, e, z)
