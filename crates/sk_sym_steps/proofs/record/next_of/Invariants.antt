use Rattle.std.proofs.Common.{◌≡◌, ℕ, ◌<◌, ◌≤◌, false}
use Rattle.sk_sym_steps.specs.Steps.{is_kind}
use Rattle.sk_sym_steps.proofs.record.next_of.Given as goal

-- none of those so far is one
abbrev pub invariant-loop-slot : goal.invariant-loop-slot
invariant-loop-slot l = (n : ℕ) → l.from ≤ n → n < l.slot → is_kind l.structs l.s n ≡ false
