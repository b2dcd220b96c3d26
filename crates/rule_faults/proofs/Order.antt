-- The lower of two faults: an order of three.
use mathlib.Core.Path.{◌≡◌, refl}
use Rattle.rule_faults.specs.declared.Fault.{Fault}
use Rattle.rule_faults.specs.declared.Fault.TheVariants.{Clear, Kind, Name, Form}
use Rattle.rule_faults.specs.Got.{lowest}

pub lowest-assoc : (a b c : Fault) → lowest a (lowest b c) ≡ lowest (lowest a b) c
lowest-assoc Clear b c = refl
lowest-assoc Form b c = refl
lowest-assoc Kind Clear c = refl
lowest-assoc Kind Kind Clear = refl
lowest-assoc Kind Kind Kind = refl
lowest-assoc Kind Kind Name = refl
lowest-assoc Kind Kind Form = refl
lowest-assoc Kind Name Clear = refl
lowest-assoc Kind Name Kind = refl
lowest-assoc Kind Name Name = refl
lowest-assoc Kind Name Form = refl
lowest-assoc Kind Form Clear = refl
lowest-assoc Kind Form Kind = refl
lowest-assoc Kind Form Name = refl
lowest-assoc Kind Form Form = refl
lowest-assoc Name Clear c = refl
lowest-assoc Name Kind Clear = refl
lowest-assoc Name Kind Kind = refl
lowest-assoc Name Kind Name = refl
lowest-assoc Name Kind Form = refl
lowest-assoc Name Name Clear = refl
lowest-assoc Name Name Kind = refl
lowest-assoc Name Name Name = refl
lowest-assoc Name Name Form = refl
lowest-assoc Name Form Clear = refl
lowest-assoc Name Form Kind = refl
lowest-assoc Name Form Name = refl
lowest-assoc Name Form Form = refl

pub lowest-clear : (a : Fault) → lowest a Clear ≡ a
lowest-clear Clear = refl
lowest-clear Kind = refl
lowest-clear Name = refl
lowest-clear Form = refl
