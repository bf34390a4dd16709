use Rattle.std.proofs.Common.{◌≡◌, ◌++◌, drop}
use Rattle.sk_explain_places.specs.Visible.{visible, visible_from}
use Rattle.sk_explain_places.proofs.visible.push_visible.Given as goal

abbrev pub invariant-loop-at : goal.invariant-loop-at
invariant-loop-at l = l.out.items ++ visible_from l.left (drop l.at l.line) ≡ l.fn.out.items ++ visible l.line
