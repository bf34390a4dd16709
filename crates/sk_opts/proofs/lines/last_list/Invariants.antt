use Rattle.std.proofs.Common.{◌≡◌, length}
use Rattle.sk_opts.specs.Settings.{last_list}
use Rattle.sk_opts.specs.Steps.{list_from}
use Rattle.sk_opts.proofs.lines.last_list.Given as goal

abbrev pub invariant-loop-setting : goal.invariant-loop-setting
invariant-loop-setting l = last_list l.setting l.fn.settings ≡ list_from l.found l.setting l.rest

abbrev pub decreases-loop-setting : goal.decreases-loop-setting
decreases-loop-setting l = length l.rest
