-- A law of either make keeps the limits of a controller, and covers.
use Rattle.control.specs.Cover.{Cover}
use Rattle.control.specs.Limits.{Limits}
use Rattle.control.specs.Lawful.FixedLaws.{fixed_limits, fixed_cover}
use Rattle.control.specs.Lawful.FixedLaws as fixed
use Rattle.control.specs.Lawful.SaturatedLaws.{saturated_limits, saturated_cover}
use Rattle.control.specs.Lawful.SaturatedLaws as saturated
use Rattle.laws.specs.Controllers.{controlled}
use Rattle.laws.specs.declared.law.Law.{Law}
use Rattle.laws.specs.declared.law.Law.TheVariants.{Saturated, Fixed}

pub law_limits : (law : Law) → Limits (controlled law)
law_limits (Saturated s) = saturated_limits _ _ _ (saturated.ok_held s.states s.inputs)
law_limits (Fixed f) = fixed_limits _ _ _ (fixed.ok_held f.states f.commands f.small)

pub law_cover : (law : Law) → Cover (controlled law)
law_cover (Saturated s) = saturated_cover _ _ _ (saturated.ok_held s.states s.inputs)
law_cover (Fixed f) = fixed_cover _ _ _ (fixed.ok_held f.states f.commands f.small)
