-- The proof of `add`: what the search leaves.
use Rattle.std.proofs.Common.{◌<◌, [], true, length, get_or, ◌∙◌, arith}
use Rattle.std.proofs.lemmas.List.{length-set}
use Rattle.checking.proofs.Marking.{adds_flag, row_long, long_to, whole_set}
use Rattle.checking.proofs.named.Named.add.Goals as goal

pub invariant_of-self : goal.invariant_of-self
invariant_of-self c =
    let flags = c.args.self.now.flags in
    let i = c.args.index in
    let long = long_to flags c.args.self.now.whole in
    let row = row_long flags i.region (omega (arith, long.regions, i.region_in)) long.rows in
    record { whole = whole_set flags i.region _ (length-set (get_or flags i.region []) i.face true ∙ row) c.args.self.now.whole }

pub returns : goal.returns
returns c =
    let flags = c.args.self.now.flags in
    let i = c.args.index in
    let long = long_to flags c.args.self.now.whole in
    let lt : i.region < length flags = omega (arith, long.regions, i.region_in) in
    adds_flag flags i.region i.face lt (omega (arith, row_long flags i.region lt long.rows, i.face_in))
