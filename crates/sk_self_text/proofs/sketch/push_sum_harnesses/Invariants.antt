use Rattle.std.proofs.Common.{◌≡◌, ◌≤◌, ◌-◌, ◌++◌}
use Rattle.sk_app_texts.specs.SelfTexts.{sum_harnesses}
use Rattle.sk_self_text.proofs.sketch.push_sum_harnesses.Given as goal

abbrev pub invariant-pushing : goal.invariant-pushing
invariant-pushing l = (l.out.items ≡ l.fn.out.items ++ sum_harnesses l.i) × (l.i ≤ l.count)

abbrev pub decreases-pushing : goal.decreases-pushing
decreases-pushing l = l.count - l.i
