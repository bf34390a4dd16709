use Rattle.std.proofs.Common.{◌≡◌, length}
use Rattle.sk_opts.specs.Settings.{setting_among}
use Rattle.sk_opts.proofs.setting.setting_among.Given as goal

abbrev pub invariant-loop-rest : goal.invariant-loop-rest
invariant-loop-rest l = setting_among l.settings l.word ≡ setting_among l.rest l.word

abbrev pub decreases-loop-rest : goal.decreases-loop-rest
decreases-loop-rest l = length l.rest
