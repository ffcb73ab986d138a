-- The proof of `Limited::low_edge`: what the search leaves.
use Rattle.std.proofs.lemmas.Int.{to_z-of_z}
use Rattle.control.specs.Lawful.Inputs.{fit, low_edge_read}
use Rattle.control.proofs.input.Limited.low_edge.Goals as goal

pub overflow_mul-result : goal.overflow_mul-result
overflow_mul-result c =
    let k = fit c.args.self.now.input c.args.self.now.kept in
    let a = k.q in let b = k.l in let f = k.ql in simp to_z-of_z f

pub overflow_sub-result : goal.overflow_sub-result
overflow_sub-result c =
    let k = fit c.args.self.now.input c.args.self.now.kept in
    let a = k.q in let b = k.l in let f = k.ql in let d = k.low in simp to_z-of_z d

pub returns : goal.returns
returns c = let k = fit c.args.self.now.input c.args.self.now.kept in low_edge_read _ _ k.q k.l k.ql k.low
