-- The proof of `CaseRows::equations`: what the search leaves.
use Rattle.std.proofs.Common.{◌≡◌, [], map, length, get_or, sym, ◌∙◌, rules, arith}
use Rattle.case.specs.Stored.{equation_from, equations_from, padded_equation}
use Rattle.case.proofs.Filling.{equations_at}
use Rattle.case.proofs.rows.CaseRows.equations.Goals as goal

pub returns : goal.returns
returns c =
    let k = c.args.sizes in
    let ss = c.args.self.now.states in
    let ds = c.args.self.now.dynamics in
    let n : length c.args.self.now.states ≡ 8 = search rules in
    let m : length c.args.self.now.dynamics ≡ 8 = search rules in
    let h = k.sizes.1 in
    c.places.ensures (map padded_equation (equations_from k.states k.inputs k.pushes ss ds)) (λ i y l f.
    let q : y ≡ padded_equation (equation_from k.states k.inputs k.pushes (get_or ss i []) (get_or ds i [])) = search rules in
    q ∙ sym (equations_at k.states k.inputs k.pushes ss ds i (omega (arith, n)) (omega (arith, m))))
