-- The layers of what statements of an expansion keep: what a statement keeps is what its form does.
use Rattle.std.proofs.Common.{◌≡◌, ℕ, not, List, [], ◌∷◌, length, Option, Some, None, refl, sym, ap}
use Rattle.std.specs.Prelude.{map, IsTrue}
use Rattle.std.specs.List.{list_all, list_any}
use Rattle.std.proofs.lemmas.List.{length-map}
use Rattle.sk_prog.specs.declared.ty.Ty.{Ty}
use Rattle.sk_prog.specs.declared.stmt.PStmt.{PStmt}
use Rattle.sk_prog.specs.declared.stmt.PForm.{PForm}
use Rattle.sk_prog.specs.declared.stmt.PForm.TheOpen as S
use Rattle.sk_prog.specs.declared.stmt.PForm.TheViews.{roll-PForm}
use Rattle.sk_prog.specs.declared.stmt.PForm.TheFolds.{map-PForm, rec-PForm, rec-roll-PForm, rec-roll-PStmt}
use Rattle.sk_types_rules.specs.declared.scope.Variable.{Variable}
use Rattle.sk_types_rules.specs.Rules.{in_range}
use Rattle.sk_types_rules.specs.Scope.{Context}
use Rattle.sk_types_rules.specs.Types.{after, is_declaration}
use Rattle.sk_holes_laws.specs.Keeping.{Keeping, InBlock, EachKeeps, is_block, form_keeps, stmt_keeps, StmtKeeps}

block_same : {Y : Type 0} (v : Y → PStmt) (k : PStmt → Keeping) (from : ℕ) (scope : List Variable) (ps : List Y) → InBlock v (λ p. k (v p)) from scope ps ≡ InBlock (λ y. y) k from scope (map v ps)
block_same v k from scope [] = refl
block_same v k from scope (p ∷ ps) = λ i. k (v p) from scope × block_same v k from (after (v p) scope) ps i

each_same : {Y : Type 0} (v : Y → PStmt) (k : PStmt → Keeping) (scope : List Variable) (ps : List Y) → EachKeeps (λ p. k (v p)) scope ps ≡ EachKeeps k scope (map v ps)
each_same v k scope [] = refl
each_same v k scope (p ∷ ps) = λ i. k (v p) (length scope) scope × each_same v k scope ps i

pub map_id : {X : Type 0} (xs : List X) → map (λ x. x) xs ≡ xs
map_id [] = refl
map_id (x ∷ xs) = ap (λ rest. x ∷ rest) (map_id xs)

module _ (context : Context) (result : Option Ty) where
  abbrev pub ActKeeps : PForm → Keeping
  ActKeeps = rec-PForm Keeping Keeping (form_keeps context result) (stmt_keeps context result)

  abbrev pub keeps_rule : S.PForm-F PForm PStmt → Keeping
  keeps_rule l = form_keeps context result PForm PStmt (λ y. y) (λ y. y) ActKeeps (StmtKeeps context result) l

  pub keeps_are : (l : S.PForm-F PForm PStmt) → ActKeeps (roll-PForm l) ≡ keeps_rule l
  keeps_are l = rec-roll-PForm Keeping Keeping (form_keeps context result) (stmt_keeps context result) same l
    where
      same : (X Y : Type 0) (u : X → PForm) (v : Y → PStmt) (f : PForm → Keeping) (k : PStmt → Keeping) (x : S.PForm-F X Y)
          → form_keeps context result X Y u v (λ p. f (u p)) (λ p. k (v p)) x ≡ form_keeps context result PForm PStmt (λ y. y) (λ y. y) f k (map-PForm X Y PForm PStmt u v x)
      same X Y u v f k (S.Block ps) = λ i from scope. block_same v k (length scope) scope ps i
      same X Y u v f k (S.If p a None) = refl
      same X Y u v f k (S.If p a (Some b)) = refl
      same X Y u v f k (S.Repeat p ps) = λ i from scope. IsTrue (list_all is_block (sym (map_id (map v ps)) i)) × each_same v k scope ps i
      same X Y u v f k (S.MinRepeat ps) = λ i from scope. IsTrue (in_range context.bounds (sym (length-map ps v) i)) × IsTrue (list_all is_block (sym (map_id (map v ps)) i)) × each_same v k scope ps i
      same X Y u v f k (S.Reorder ps) = λ i from scope. IsTrue (not (list_any is_declaration (sym (map_id (map v ps)) i))) × each_same v k scope ps i
      same X Y u v f k _ = refl

  pub stmt_keeps_is : (p : PStmt) → StmtKeeps context result p ≡ (λ from scope. ActKeeps p.form from scope)
  stmt_keeps_is p = rec-roll-PStmt Keeping Keeping (form_keeps context result) (stmt_keeps context result) (λ X Y u v f k x. refl) (record { span = p.span; form = p.form })
