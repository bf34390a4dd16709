-- What a reader expects of command lines.
use Rattle.std.specs.Prelude.{◌≡◌, ℕ, List}
use Rattle.sk_opts.specs.declared.line.Line.{Line}
use Rattle.sk_opts.specs.CommandLine.{IsLine}

-- Words spell at most one line.
abbrev pub OneLine : Type 0
OneLine = (words : List (List ℕ)) (l m : Line) → IsLine words l → IsLine words m → l ≡ m
