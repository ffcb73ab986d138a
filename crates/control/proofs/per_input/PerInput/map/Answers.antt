-- The proof of `PerInput::map`: what the search leaves.
use Rattle.std.proofs.Common.{sym, refl, subst}
use Rattle.std.specs.Fn.{FnReturnsAt}
use Rattle.control.specs.declared.per_input.PerInput.TheVariants.{One, Two}
use Rattle.control.specs.PerInput.{EachOfEach}
use Rattle.control.proofs.per_input.PerInput.map.Goals as goal

pub returns-in-One : goal.returns-in-One
returns-in-One g c = subst (λ p. EachOfEach (FnReturnsAt g.F.Fn c.args.f) p (One c.f.result)) (sym c.in-One.is) (record { shown = _; shows = refl; says = record { met = c.f.ensures } })

pub returns : goal.returns
returns g c = subst (λ p. EachOfEach (FnReturnsAt g.F.Fn c.args.f) p (Two c.f-in-Two.result c.f-in-Two-2.result)) (sym c.in-Two.is)
    (record { shown = _; shows = refl; says = record { met = c.f-in-Two.ensures } }, record { shown = _; shows = refl; says = record { met = c.f-in-Two-2.ensures } })
