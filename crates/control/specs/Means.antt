-- The meaning of a controller, put together from what its trait says of it.
use Rattle.control.specs.Meaning.{Meaning, meaning}
use Rattle.control.specs.declared.controller.Controller.{Ghosts as ControllerOf}

-- the meaning of the controller s
abbrev pub meaning_of : {S : Type 0} → ControllerOf S → S → Meaning
meaning_of c s = meaning (c.states s) (c.inputs s) (c.partition s) (c.feedback s)
