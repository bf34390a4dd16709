use Rattle.std.proofs.Common.{◌≡◌, drop}
use Rattle.sk_expand_sizes.specs.Count.{exprs_counted, fields_counted}
use Rattle.sk_expand_sizes.proofs.walk.+expr.Given as goal

-- what is still to be walked over, after what was walked over, is the whole
abbrev pub invariant-exprs-loop-e : goal.invariant-exprs-loop-e
invariant-exprs-loop-e l = exprs_counted l.times (drop l.e-index l.es) l.count ≡ exprs_counted l.times l.es l.fn.count

abbrev pub invariant-fields-loop-x : goal.invariant-fields-loop-x
invariant-fields-loop-x l = fields_counted l.times (drop l.x-index l.given) l.count ≡ fields_counted l.times l.given l.fn.count
