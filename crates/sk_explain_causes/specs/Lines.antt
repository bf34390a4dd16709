-- What a line gives.
use Rattle.std.specs.Prelude.{Bool, true, false, Option, Some, None}
use Rattle.sk_opts.specs.declared.line.Line.{Line}
use Rattle.sk_opts.specs.declared.line.Line.TheVariants as line
use Rattle.sk_opts.specs.declared.line.Set.{Set}

-- the bounds that the options of a line give, where it is one that takes a text
abbrev pub set_of : Option Line → Option Set
set_of None = None
set_of (Some (line.Synth set budget cert)) = Some set
set_of (Some (line.Exec set name values)) = Some set
set_of (Some (line.Trace set name values holes)) = Some set
set_of (Some (line.Lower set)) = Some set
set_of (Some (line.Prune set)) = Some set
set_of (Some (line.All set most)) = Some set
set_of (Some (line.Why set)) = Some set
set_of (Some (line.Check set)) = None
set_of (Some (line.Itself n)) = None
set_of (Some line.Help) = None
set_of (Some line.Version) = None

-- it takes the plain form of a text
abbrev pub lowers : Option Line → Bool
lowers None = false
lowers (Some (line.Synth set budget cert)) = false
lowers (Some (line.Exec set name values)) = false
lowers (Some (line.Trace set name values holes)) = false
lowers (Some (line.Lower set)) = true
lowers (Some (line.Prune set)) = false
lowers (Some (line.All set most)) = false
lowers (Some (line.Why set)) = false
lowers (Some (line.Check set)) = false
lowers (Some (line.Itself n)) = false
lowers (Some line.Help) = false
lowers (Some line.Version) = false
