-- A table of the slots of variables in scope.
use Rattle.std.specs.Prelude.{◌≡◌, ℕ, List, map, ◌++◌, ◌∷◌, Option, None, Some}
use Rattle.sk_types_rules.specs.declared.scope.Variable.{Variable}
use Rattle.sk_types_rules.specs.declared.scope.Place.{Place}
use Rattle.sk_types_rules.specs.Scope.{lookup}
use Rattle.sk_types_names.specs.declared.scope.Entered.{Entered}
use Rattle.sk_types_names.specs.Tables.{number_of}

abbrev pub variables : List Entered → List Variable
variables entered = map (λ (e : Entered). e.variable) entered

abbrev pub slot_in : Option Place → Option ℕ
slot_in None = None
slot_in (Some place) = Some place.slot

-- The table has the slot of the nearest variable of each name, and with each variable is kept the slot of the one that
-- it hides.
pub record AreSlots (entered : List Entered) (rows : List (List ℕ × ℕ)) : Type 0 where
  pub nearest : (x : List ℕ) → number_of rows x ≡ slot_in (lookup (variables entered) x)
  pub hidden : (before after : List Entered) (e : Entered) → entered ≡ before ++ e ∷ after → e.hides ≡ slot_in (lookup (variables before) e.variable.name)
