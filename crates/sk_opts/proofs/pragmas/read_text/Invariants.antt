use Rattle.std.proofs.Common.{◌≡◌, length, None}
use Rattle.sk_opts.specs.BoundsOf.{blank_words}
use Rattle.sk_opts.specs.Steps.{settings_from, set_after}
use Rattle.sk_opts.specs.Ranges.{IsInRanges}
use Rattle.sk_opts.proofs.pragmas.read_text.Given as goal

abbrev pub invariant-loop-rest : goal.invariant-loop-rest
invariant-loop-rest l = record {
  value : set_after l.fn.set (settings_from None (blank_words l.text)) ≡ set_after l.read.set (settings_from l.read.before (blank_words l.rest));
  ranges : IsInRanges l.fn.set → IsInRanges l.read.set;
}

abbrev pub decreases-loop-rest : goal.decreases-loop-rest
decreases-loop-rest l = length l.rest
