use Rattle.std.proofs.Common.{sym}
use Rattle.sk_sym_operators.proofs.Meaning.{no_pairs}
use Rattle.sk_sym_operators.proofs.bitwise.on_pairs.Goals as goal

pub joined-requires-clause-goes : goal.joined-requires-clause-goes
joined-requires-clause-goes c = sym c.if-not-is_bitwise.ensures

pub returns-then-not-is_bitwise-clause-operated : goal.returns-then-not-is_bitwise-clause-operated
returns-then-not-is_bitwise-clause-operated c = no_pairs _ _ _ (sym c.if-not-is_bitwise.ensures) c.requires.no_sum c.in_ok-made.ensures.computed
