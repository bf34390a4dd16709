-- What an error of `options` tells.
use Rattle.std.specs.Prelude.{ℕ, List}
use Rattle.sk_opts.specs.declared.line.Line.{Line}
use Rattle.sk_opts.specs.declared.line.Usage.{Usage}
use Rattle.sk_opts.specs.declared.line.Usage.TheVariants as usage
use Rattle.sk_opts.specs.CommandLine.{IsLine}

-- the words spell no line, or memory ran out
abbrev pub IsTold : List (List ℕ) → Usage → Type 0
IsTold words usage.NotALine = (l : Line) → IsLine words l → ⊥
IsTold words usage.Memory = Unit {0}
