-- The proof of `Limited::high_edge`: what the search leaves.
use Rattle.std.proofs.lemmas.Int.{to_z-of_z}
use Rattle.control.specs.Lawful.Inputs.{fit, high_edge_read}
use Rattle.control.proofs.input.Limited.high_edge.Goals as goal

pub overflow_mul-result : goal.overflow_mul-result
overflow_mul-result c =
    let k = fit c.args.self.now.input c.args.self.now.kept in
    let a = k.q in let b = k.h in let d = k.h1 in let f = k.high in simp to_z-of_z f

pub returns : goal.returns
returns c = let k = fit c.args.self.now.input c.args.self.now.kept in high_edge_read _ _ k.q k.h k.h1 k.high
