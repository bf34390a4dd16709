-- How large a value is.
use Rattle.std.specs.Prelude.{ℕ, suc, ◌+◌, List, [], ◌∷◌, map}
use Rattle.sk_prog.specs.declared.value.Value.{Value}
use Rattle.sk_prog.specs.declared.value.Value.TheOpen as V
use Rattle.sk_prog.specs.declared.value.Value.TheFolds.{fold-Value}

abbrev pub all_sizes : List ℕ → ℕ
all_sizes [] = 0
all_sizes (n ∷ ns) = suc (n + all_sizes ns)

abbrev pub value_size_step : V.Value-F ℕ → ℕ
value_size_step (V.Array ns) = suc (all_sizes ns)
value_size_step _ = 1

abbrev pub value_size : Value → ℕ
value_size = fold-Value ℕ value_size_step

abbrev pub values_size : List Value → ℕ
values_size vs = all_sizes (map value_size vs)
