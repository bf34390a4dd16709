use Rattle.std.proofs.Common.{◌≡◌, ◌++◌, drop}
use Rattle.sk_model.specs.Run.{refs_from}
use Rattle.sk_interp.proofs.call.refs_of.Given as goal

-- the values so far and those to come are all values
abbrev pub invariant-loop-p : goal.invariant-loop-p
invariant-loop-p l = record {
  all : refs_from 0 l.params l.slots ≡ l.refs ++ refs_from l.slot (drop l.p-index l.params) l.slots;
  slot : l.slot ≡ l.p-index;
}
