-- How many steps of a run are shown.
use Rattle.std.specs.Prelude.{ℕ}

-- Of a longer run so many steps stand in its trace, the first.
abbrev pub most_steps : ℕ
most_steps = 65536
