-- The proof of `combine`: what the search leaves.
use Rattle.std.proofs.Common.{◌∙◌, sym, ap}
use Rattle.elimination.specs.Rows.{reduced}
use Rattle.elimination.proofs.Pairs.{sum_content, sum_multipliers, sum_scale, row_proper, joins_exactly}
use Rattle.elimination.proofs.pair.combine.Goals as goal

pub reduce-row-requires : goal.reduce-row-requires
reduce-row-requires c =
    let h = c.join_sum.ensures.pair in
    rw c.join_sum.ensures.value record { multipliers = sum_multipliers _ _ _ h.first h.second; scale = sum_scale _ _ _ h.first h.second; above = sum_content _ _ _ h }

pub returns-then-is_allowed-clause-proper : goal.returns-then-is_allowed-clause-proper
returns-then-is_allowed-clause-proper c =
    row_proper c.args.column c.args.p.now c.args.q.now c.reduce-row.result c.join_sum.ensures.pair (c.reduce-row.ensures.value ∙ ap reduced c.join_sum.ensures.value) (sym c.is_allowed.ensures.value ∙ c.if-is_allowed.true)

pub returns-then-is_allowed-clause-exact : goal.returns-then-is_allowed-clause-exact
returns-then-is_allowed-clause-exact c = joins_exactly c.args.column c.args.p.now c.args.q.now c.join_sum.ensures.pair

pub returns-else-is_allowed-clause-exact : goal.returns-else-is_allowed-clause-exact
returns-else-is_allowed-clause-exact c = joins_exactly c.args.column c.args.p.now c.args.q.now c.join_sum.ensures.pair
