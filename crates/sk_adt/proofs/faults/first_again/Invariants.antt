use Rattle.std.proofs.Common.{◌≡◌, [], drop}
use Rattle.sk_adt.specs.Faults.{first_again}
use Rattle.sk_adt.proofs.faults.first_again.Given as goal

abbrev pub invariant-loop-word : goal.invariant-loop-word
invariant-loop-word l = first_again l.seen (drop l.word-index l.words) ≡ first_again [] l.words
