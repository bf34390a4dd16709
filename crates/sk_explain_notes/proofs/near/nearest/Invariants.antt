use Rattle.std.proofs.Common.{◌≡◌, map, drop, option_map}
use Rattle.sk_explain_notes.specs.Near.{nearest, nearest_from}
use Rattle.sk_explain_notes.proofs.near.nearest.Given as goal

abbrev pub invariant-loop-name : goal.invariant-loop-name
invariant-loop-name l = nearest_from l.word (option_map (λ name. name.now) l.found) (map (λ name. name.now) (drop l.name-index l.names)) ≡ nearest l.word (map (λ name. name.now) l.names)
