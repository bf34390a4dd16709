use Rattle.std.proofs.Common.{◌≡◌, length}
use Rattle.clap.specs.Simple.{app_of}
use Rattle.sk_opts.specs.Matching.{bare_app, with_options}
use Rattle.sk_opts.proofs.matching.command_of.Given as goal

abbrev pub invariant-loop-rest : goal.invariant-loop-rest
invariant-loop-rest l = with_options (app_of l.command) l.rest ≡ with_options bare_app l.has

abbrev pub decreases-loop-rest : goal.decreases-loop-rest
decreases-loop-rest l = length l.rest
