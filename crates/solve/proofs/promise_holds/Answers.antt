-- The promise.
use Rattle.solve.proofs.Promised.{solve_promise}
use Rattle.solve.proofs.promise_holds.Goals as goal

pub returns : goal.returns
returns c = record { promise = solve_promise }
