use Rattle.std.proofs.Common.{◌≡◌, length}
use Rattle.sk_tree.specs.Spelling.{key_among}
use Rattle.sk_lexer.proofs.spelling.key_among.Given as goal

abbrev pub invariant-loop-rest : goal.invariant-loop-rest
invariant-loop-rest l = key_among l.keys l.bytes ≡ key_among l.rest l.bytes

abbrev pub decreases-loop-rest : goal.decreases-loop-rest
decreases-loop-rest l = length l.rest
