-- The values of the holes.
use Rattle.std.specs.Prelude.{ℕ, List, Option, Some, None}
use Rattle.sk_dag.specs.declared.env.Env.{Env}
use Rattle.sk_model.specs.declared.expanded.Choice.{Choice}

-- those of the choice that is given, and where none is, those of the environment
abbrev pub chosen_values : Option Choice → Env → List ℕ
chosen_values (Some choice) e = choice.values
chosen_values None e = e.choice
