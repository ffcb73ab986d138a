-- What a closed loop stands for, and the system of a region in it.
use Rattle.std.specs.Prelude.{ℕ, List}
use Rattle.control.specs.declared.controller.Controller.{Ghosts as ControllerOf}
use Rattle.control.specs.Meaning.{Row, Meaning}
use Rattle.control.specs.Means.{meaning_of}
use Rattle.case.specs.System.{column_count}
use Rattle.case.specs.Values.{CaseValues, values_of}
use Rattle.system.specs.Answers.{system_of}
use Rattle.system.specs.declared.closed_loop.ClosedLoop.{ClosedLoop}
use Rattle.system.specs.declared.system.System.{System}

-- the values of the case of a loop, and the meaning of its controller
abbrev pub case_in : {C : Type 0} {c : ControllerOf C} → ClosedLoop C c → CaseValues
case_in l = values_of l.case.now

abbrev pub control_in : {C : Type 0} {c : ControllerOf C} → ClosedLoop C c → Meaning
control_in {c = c} l = meaning_of c l.controller.now

-- the same of a system's loop
abbrev pub case_of : {C : Type 0} {c : ControllerOf C} → System C c → CaseValues
case_of s = case_in s.closed.now

abbrev pub control_of : {C : Type 0} {c : ControllerOf C} → System C c → Meaning
control_of s = control_in s.closed.now

-- the rows of a system, and how many columns they have
abbrev pub rows_of : {C : Type 0} {c : ControllerOf C} → System C c → List Row
rows_of s = system_of (case_of s) (control_of s) s.region

abbrev pub columns_of : {C : Type 0} {c : ControllerOf C} → System C c → ℕ
columns_of s = column_count (case_of s)
