use Rattle.std.proofs.Common.{◌≡◌, length}
use Rattle.sk_opts.specs.Settings.{last_of}
use Rattle.sk_opts.specs.Steps.{number_from}
use Rattle.sk_opts.proofs.lines.last_of.Given as goal

abbrev pub invariant-loop-rest : goal.invariant-loop-rest
invariant-loop-rest l = last_of l.setting l.settings ≡ number_from l.found l.setting l.rest

abbrev pub decreases-loop-rest : goal.decreases-loop-rest
decreases-loop-rest l = length l.rest
