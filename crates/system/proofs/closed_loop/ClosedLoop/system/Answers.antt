-- The proof of `system`: what the search leaves.
use Rattle.std.proofs.Common.{arith}
use Rattle.control.specs.Means.{meaning_of}
use Rattle.control.specs.Answers.{region_of}
use Rattle.system.proofs.Counts.{case_rows}
use Rattle.system.proofs.Outcomes.{bridged_there, counted_told, region_limits}
use Rattle.system.proofs.closed_loop.ClosedLoop.system.Goals as goal

pub invariant_of-result : goal.invariant_of-result
invariant_of-result g c =
    let v = c.args.self.now.case.now in
    let k = c.args.self.now.controller.now in
    let m = meaning_of g.C.Controller k in
    let t = counted_told _ m c.args.region c.in_ok-rows.rows c.rows.result c.map_err.result c.rows.ensures c.map_err.ensures.cases c.map_err.ensures.variant c.in_ok-rows.was in
    record {
      there = t.0;
      counted = omega (arith, t.1, case_rows v (region_of m c.args.region));
      few = omega (arith, t.1, (region_limits m (g.met.C.Controller.limits k) c.args.region t.0).few, v.sizes.1, v.counts.0, v.counts.1);
    }

pub returns-clause-bridge : goal.returns-clause-bridge
returns-clause-bridge g c =
    let l = c.args.self.now in
    let m = meaning_of g.C.Controller l.controller.now in
    let t = counted_told _ m c.args.region c.in_ok-rows.rows c.rows.result c.map_err.result c.rows.ensures c.map_err.ensures.cases c.map_err.ensures.variant c.in_ok-rows.was in
    bridged_there l.case.now m c.args.region (g.met.C.Controller.limits l.controller.now) l.states l.inputs t.0
