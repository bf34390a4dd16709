use Rattle.std.proofs.Common.{◌≡◌, length}
use Rattle.clap.specs.Matches.{found_of}
use Rattle.clap.specs.Walk.{rows_of}
use Rattle.sk_opts.specs.Matching.{matched_settings}
use Rattle.sk_opts.specs.Steps.{in_front}
use Rattle.sk_opts.proofs.words.matched_settings.Given as goal

abbrev pub invariant-loop-rest : goal.invariant-loop-rest
invariant-loop-rest l = matched_settings l.has (rows_of (found_of l.matches)) ≡ in_front l.settings (matched_settings l.rest (rows_of (found_of l.matches)))

abbrev pub decreases-loop-rest : goal.decreases-loop-rest
decreases-loop-rest l = length l.rest
