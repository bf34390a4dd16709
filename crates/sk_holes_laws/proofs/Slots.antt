-- The slots that a body needs are the greatest number of variables in scope, where it keeps the rules.
use Rattle.std.proofs.Common.{◌≡◌, ◌≤◌, ℕ, ◌+◌, List, [], ◌∷◌, ◌++◌, map, length, length-append, Option, Some, None, sym, ap, subst, arith}
use Rattle.std.specs.Prelude.{max}
use Rattle.sk_base.specs.declared.span.Span.{Span}
use Rattle.sk_tree.specs.declared.stmt.Stmt.{Stmt}
use Rattle.sk_tree.specs.declared.stmt.Form.{Form}
use Rattle.sk_prog.specs.declared.ty.Ty.{Ty}
use Rattle.sk_prog.specs.declared.expr.PExpr.{PExpr}
use Rattle.sk_prog.specs.declared.stmt.PStmt.{PStmt}
use Rattle.sk_prog.specs.declared.stmt.PForm.{PForm}
use Rattle.sk_prog.specs.declared.stmt.PForm.TheVariants as pform
use Rattle.sk_prog.specs.declared.stmt.PForm.TheOpen as S
use Rattle.sk_prog.specs.declared.stmt.PForm.TheViews as W
use Rattle.sk_prog.specs.declared.stmt.PForm.TheFolds.{map-PForm, fold-PForm}
use Rattle.sk_types_rules.specs.declared.scope.Variable.{Variable}
use Rattle.sk_types_rules.specs.Scope.{Context}
use Rattle.sk_types_rules.specs.Types.{StmtRule, FormRule, BlockMeans, OneMeans, AnyMeans, form_after, after, Room, most_of, form_room, room, StmtMeans}
use Rattle.sk_types_rules.proofs.Layers.{ActMeans, act_rule, act_means_are, stmt_means_is}
use Rattle.sk_model.specs.Slots.{greatest, form_slots, stmt_slots, stmts_slots}
use Rattle.sk_model.proofs.Layers.{stmt_layer}
use Rattle.sk_model.proofs.Induction.{StmtCases, stmt_ind}
use Rattle.sk_holes_laws.specs.Filling.{Every}
use Rattle.sk_holes_laws.proofs.Exprs.{every_of}
use Rattle.sk_holes_laws.proofs.Declared.{SLayer, grows_of, after_at}

-- what a statement adds and needs, where so many variables are in scope before it
record Needs (n : ℕ) (r : Room) (slots : ℕ) (later : ℕ) : Type 0 where
  most : r.most n ≡ max n slots
  grows : later ≡ r.adds + n
  low : r.adds + n ≤ max n slots

quiet : (n : ℕ) → Needs n (record { adds = 0; most = λ n. n }) 0 n
quiet n = record { most = omega arith; grows = omega arith; low = omega arith }

inner : (n slots : ℕ) (most : ℕ → ℕ) → most n ≡ max n slots → Needs n (record { adds = 0; most = most }) slots n
inner n slots most h = record { most = h; grows = omega arith; low = omega arith }

module _ (context : Context) (result : Option Ty) where
  abbrev Fits : PStmt → Type 0
  Fits p = (from : ℕ) (scope : List Variable) (e : Stmt) → StmtMeans context result p from scope e → Needs (length scope) (room p) (stmt_slots p) (length (after p scope))

  abbrev act_room : PForm → Room
  act_room = fold-PForm Room Room form_room (λ s. s.form)

  abbrev act_slots : PForm → ℕ
  act_slots = fold-PForm ℕ ℕ form_slots (λ s. s.form)

  abbrev layer_room : SLayer → Room
  layer_room x = form_room (map-PForm PForm PStmt Room Room act_room room x)

  abbrev layer_slots : SLayer → ℕ
  layer_slots x = form_slots (map-PForm PForm PStmt ℕ ℕ act_slots stmt_slots x)

  by_form : (x : SLayer) (g : PForm) → W.roll-PForm x ≡ g → (s : Span) → ((from : ℕ) (scope : List Variable) (e : Form) → act_rule context result x from scope e → Needs (length scope) (layer_room x) (layer_slots x) (length (form_after (grows_of x) scope))) → Fits (record { span = s; form = g })
  by_form x g is s h from scope e m =
      let p : PStmt = record { span = s; form = g } in
      let parts = subst (λ (M : StmtRule). M from scope e) (stmt_means_is context result p) m in
      let act = subst (λ (M : FormRule). M from scope e.form) (act_means_are context result x) (subst (λ g. ActMeans context result g from scope e.form) (sym is) parts.1) in
      subst (λ r. Needs (length scope) r (stmt_slots p) (length (after p scope))) (sym (stmt_layer Room Room form_room (λ s. s.form) x g is s))
      (subst (λ n. Needs (length scope) (layer_room x) n (length (after p scope))) (sym (stmt_layer ℕ ℕ form_slots (λ s. s.form) x g is s))
      (subst (λ z. Needs (length scope) (layer_room x) (layer_slots x) (length z)) (sym (ap (λ h. h scope) (after_at s g x is))) (h from scope e.form act)))

  block_needs : (ps : List PStmt) → Every Fits ps → (from : ℕ) (scope : List Variable) (es : List Stmt) → BlockMeans (λ p. p) (StmtMeans context result) from scope ps es → most_of (map room ps) (length scope) ≡ max (length scope) (greatest (map stmt_slots ps))
  block_needs [] h from scope [] m = omega arith
  block_needs [] h from scope (e ∷ es) m = absurd m
  block_needs (p ∷ ps) h from scope [] m = absurd m
  block_needs (p ∷ ps) h from scope (e ∷ es) m =
      let n = h.0 from scope e m.0 in
      let rest = block_needs ps h.1 from (after p scope) es m.1 in
      let a = n.most in
      let b = n.low in
      let c : most_of (map room ps) ((room p).adds + length scope) ≡ max ((room p).adds + length scope) (greatest (map stmt_slots ps)) = subst (λ k. most_of (map room ps) k ≡ max k (greatest (map stmt_slots ps))) n.grows rest in
      omega (arith, a, b, c)

  one_needs : (ps : List PStmt) → Every Fits ps → (from : ℕ) (scope : List Variable) (e : Stmt) → OneMeans (StmtMeans context result) from scope ps e → most_of (map room ps) (length scope) ≡ max (length scope) (greatest (map stmt_slots ps))
  one_needs [] h from scope e m = absurd m
  one_needs (p ∷ []) h from scope e m =
      let n = h.0 from scope e m in
      let a = n.most in
      let b = n.low in
      omega (arith, a, b)
  one_needs (p ∷ q ∷ ps) h from scope e m = absurd m

  any_else : (n : ℕ) (x : Room) (a y z : ℕ) (r : Room) → r.most n ≡ max n a → x.most n ≡ max n y → max (r.most n) (x.most n) ≡ max n (max a y)
  any_else n x a y z r h k = omega (arith, h, k)

  else_needs : (c : PExpr) (a b : PStmt) → Fits a → Fits b → (from : ℕ) (scope : List Variable) (e : Form) → act_rule context result (S.If c a (Some b)) from scope e → Needs (length scope) (layer_room (S.If c a (Some b))) (layer_slots (S.If c a (Some b))) (length scope)
  else_needs c a b h k from scope e m = other m.2 m.6
    where
      other : (z : Option Stmt) → AnyMeans (StmtMeans context result) from scope (Some b) z → Needs (length scope) (layer_room (S.If c a (Some b))) (layer_slots (S.If c a (Some b))) (length scope)
      other None n = absurd n
      other (Some z) n =
          let x = h from scope m.1 m.5 in
          let y = k from scope z n in
          inner (length scope) _ _ (any_else (length scope) (room b) (stmt_slots a) (stmt_slots b) 0 (room a) x.most y.most)

  cases : StmtCases Fits
  cases = record {
    block = λ s ps h. by_form (S.Block ps) (pform.Block ps) (pform.rolls-Block ps) s (λ from scope e m. inner (length scope) _ _ (block_needs ps (every_of Fits ps h) (length scope) scope m.0 m.2));
    declare = λ s slot x t v. by_form (S.Declare slot x t v) (pform.Declare slot x t v) (pform.rolls-Declare slot x t v) s (λ from scope e m. let next = (m.3).next in let long : length (scope ++ record { name = x; ty = t } ∷ []) ≡ length scope + 1 = length-append scope (record { name = x; ty = t } ∷ []) in record { most = omega (arith, next); grows = omega (arith, long); low = omega (arith, next) });
    assign = λ s p e. by_form (S.Assign p e) (pform.Assign p e) (pform.rolls-Assign p e) s (λ from scope e m. quiet (length scope));
    calls = λ s p. by_form (S.Call p) (pform.Call p) (pform.rolls-Call p) s (λ from scope e m. quiet (length scope));
    if_only = λ s c a h. by_form (S.If c a None) (pform.If c a None) (pform.rolls-If c a None) s (λ from scope e m. let k = h from scope m.1 m.5 in let most = k.most in inner (length scope) _ _ (omega (arith, most)));
    if_else = λ s c a b h k. by_form (S.If c a (Some b)) (pform.If c a (Some b)) (pform.rolls-If c a (Some b)) s (λ from scope e m. else_needs c a b h k from scope e m);
    loop = λ s c a h. by_form (S.While c a) (pform.While c a) (pform.rolls-While c a) s (λ from scope e m. let k = h from scope m.1 m.4 in inner (length scope) _ _ k.most);
    returns = λ s v. by_form (S.Return v) (pform.Return v) (pform.rolls-Return v) s (λ from scope e m. quiet (length scope));
    asserts = λ s p. by_form (S.Assert p) (pform.Assert p) (pform.rolls-Assert p) s (λ from scope e m. quiet (length scope));
    assumes = λ s p. by_form (S.Assume p) (pform.Assume p) (pform.rolls-Assume p) s (λ from scope e m. quiet (length scope));
    minimizes = λ s p. by_form (S.Minimize p) (pform.Minimize p) (pform.rolls-Minimize p) s (λ from scope e m. quiet (length scope));
    repeats = λ s c ps h. by_form (S.Repeat c ps) (pform.Repeat c ps) (pform.rolls-Repeat c ps) s (λ from scope e m. inner (length scope) _ _ (one_needs ps (every_of Fits ps h) from scope m.1 m.4));
    minrepeat = λ s ps h. by_form (S.MinRepeat ps) (pform.MinRepeat ps) (pform.rolls-MinRepeat ps) s (λ from scope e m. inner (length scope) _ _ (one_needs ps (every_of Fits ps h) from scope m.0 m.2));
    reorder = λ s ps h. by_form (S.Reorder ps) (pform.Reorder ps) (pform.rolls-Reorder ps) s (λ from scope e m. inner (length scope) _ _ (block_needs ps (every_of Fits ps h) (length scope) scope m.0 m.3));
  }

  stmt_needs : (p : PStmt) → Fits p
  stmt_needs = stmt_ind Fits cases

  all_need : (ps : List PStmt) → Every Fits ps
  all_need [] = tt
  all_need (p ∷ ps) = (stmt_needs p, all_need ps)

  -- the slots of a body whose function has so many parameters
  pub slots_are_most : (ps : List PStmt) (from : ℕ) (scope : List Variable) (es : List Stmt) → BlockMeans (λ p. p) (StmtMeans context result) from scope ps es → max (length scope) (stmts_slots ps) ≡ most_of (map room ps) (length scope)
  slots_are_most ps from scope es m = sym (block_needs ps (all_need ps) from scope es m)
