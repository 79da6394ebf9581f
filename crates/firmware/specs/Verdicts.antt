-- What C is told.
use Rattle.std.specs.Prelude.{Ok, Err, Result}
use Rattle.fault.specs.declared.Fault.{Fault}
use Rattle.fault.specs.Faults.{number_of}
use Rattle.firmware.specs.declared.Verdict.{Verdict}

-- the number and the place of a refusal
abbrev pub of_fault : Fault → Verdict
of_fault f = record { number = number_of f.layer; place = f.place }

-- 0 and 0 where a call is accepted
abbrev pub verdict : Result (Unit {0}) Fault → Verdict
verdict (Ok u) = record { number = 0; place = 0 }
verdict (Err f) = of_fault f
