-- The statements of a body, one after another.
use Rattle.std.proofs.Common.{◌≡◌, List, [], ◌∷◌, ◌++◌, map, refl, ap}
use Rattle.sk_tree.specs.declared.stmt.Stmt.{Stmt}
use Rattle.sk_tree.specs.Spelt.{InBlock}
use Rattle.sk_tree.specs.Spell.{Kinds, each, spell_stmt}

pub each_stmt : (ss : List Stmt) → each (map (λ s. s InBlock) (map spell_stmt ss)) ≡ each (map (λ s. spell_stmt s InBlock) ss)
each_stmt [] = refl
each_stmt (s ∷ ss) = ap (λ (ks : Kinds). spell_stmt s InBlock ++ ks) (each_stmt ss)
