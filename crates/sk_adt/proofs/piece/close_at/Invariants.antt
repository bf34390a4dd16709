use Rattle.std.proofs.Common.{◌≡◌, ◌≤◌, drop}
use Rattle.sk_adt.specs.Forms.{close_at}
use Rattle.sk_adt.proofs.piece.close_at.Given as goal

abbrev pub invariant-loop-i : goal.invariant-loop-i
invariant-loop-i l = record { same : close_at l.depth (drop l.i l.tokens) ≡ close_at 0 l.tokens; few : l.depth ≤ l.i }
