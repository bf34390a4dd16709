use Rattle.std.proofs.Common.{◌≡◌, drop, map}
use Rattle.sk_tree_spell.specs.Counts.{sum_from, product_from, count_of}
use Rattle.sk_tree_spell.proofs.count.+string_count.Given as goal

abbrev pub invariant-sum-loop-part : goal.invariant-sum-loop-part
invariant-sum-loop-part l = sum_from l.total (map count_of (drop l.part-index l.parts)) ≡ sum_from 0 (map count_of l.parts)

abbrev pub invariant-product-loop-part : goal.invariant-product-loop-part
invariant-product-loop-part l = product_from l.total (map count_of (drop l.part-index l.parts)) ≡ product_from 1 (map count_of l.parts)
