-- A test of all items, through a map and without one.
use Rattle.std.proofs.Common.{◌≡◌, List, [], ◌∷◌, refl, ap}
use Rattle.std.specs.Prelude.{map, ◌&&◌}
use Rattle.std.specs.List.{list_all}
use Rattle.sk_tree.specs.declared.stmt.Stmt.{Stmt}
use Rattle.sk_types_rules.specs.Plain.{is_yes, stmt_steps}

pub all_clear : (es : List Stmt) → list_all is_yes (map stmt_steps es) ≡ list_all stmt_steps es
all_clear [] = refl
all_clear (e ∷ es) = ap (λ b. stmt_steps e && b) (all_clear es)
