-- What a call of the code on statements answers, and the variables that it leaves in scope.
use Rattle.std.specs.Prelude.{◌≡◌, List, Option, Some, None, Result, Ok, Err}
use Rattle.sk_types_rules.specs.declared.scope.Variable.{Variable}
use Rattle.sk_types_laws.specs.declared.fault.Typing.{Typing}
use Rattle.sk_types_laws.specs.declared.fault.Typing.TheVariants.{Fault, Memory}
use Rattle.sk_types_rules.specs.Scope.{Signature}
use Rattle.sk_types_laws.specs.declared.env.Heading.{Heading}
use Rattle.sk_types_laws.specs.Envs.{signature}
use Rattle.sk_types_names.specs.Gives.{Fails}
use Rattle.sk_types_laws.specs.Making.{Made}

abbrev pub Enters : Result (Unit {0}) Typing → List Variable → List Variable → Type 0
Enters (Ok a) s t = s ≡ t
Enters (Err Memory) s t = Unit {0}
Enters (Err (Fault f)) s t = ⊥

abbrev pub Leaves : {A : Type 0} → Result A Typing → List Variable → Option (Made A) → Type 0
Leaves (Ok a) s o = o ≡ Some (record { made = a; scope = s })
Leaves (Err fault) s o = Fails fault o

-- what a function is to its callers
abbrev pub GivesHeading : Result Heading Typing → Option Signature → Type 0
GivesHeading (Ok h) o = o ≡ Some (signature h)
GivesHeading (Err fault) o = Fails fault o
