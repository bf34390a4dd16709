use Rattle.std.proofs.Common.{◌≡◌, drop}
use Rattle.std.specs.Prelude.{max}
use Rattle.sk_model.specs.Slots.{stmts_slots}
use Rattle.sk_expand_copies.proofs.slots.+slots.Given as goal

-- the most so far, and of those that are left
abbrev pub invariant-slots_of_all-loop-s : goal.invariant-slots_of_all-loop-s
invariant-slots_of_all-loop-s l = max l.most (stmts_slots (drop l.s-index l.ss)) ≡ stmts_slots l.ss
