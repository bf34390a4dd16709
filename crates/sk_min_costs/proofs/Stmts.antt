-- Statements without costs leave the cost as it is, where calls do.
use Rattle.std.proofs.Common.{◌≡◌, ℕ, zero, suc, ◌+◌, ◌-◌, Bool, true, false, List, [], ◌∷◌, ◌++◌, map, length, take, drop, Option, Some, None, refl, sym, subst, ◌∙◌, true≢false}
use Rattle.std.specs.Prelude.{insert}
use Rattle.std.specs.List.{list_all}
use Rattle.sk_base.specs.declared.span.Span.{Span}
use Rattle.sk_base.specs.declared.bounds.Bounds.{Bounds}
use Rattle.sk_prog.specs.declared.ty.Ty.{Ty}
use Rattle.sk_prog.specs.declared.expr.PExpr.{PExpr}
use Rattle.sk_prog.specs.declared.stmt.PStmt.{PStmt}
use Rattle.sk_prog.specs.declared.stmt.PForm.{PForm}
use Rattle.sk_prog.specs.declared.stmt.PForm.TheVariants as form
use Rattle.sk_prog.specs.declared.stmt.PForm.TheOpen as S
use Rattle.sk_prog.specs.declared.stmt.PForm.TheViews as W
use Rattle.sk_prog.specs.declared.stmt.PForm.TheFolds.{map-PForm, fold-PForm}
use Rattle.sk_prog.specs.declared.prog.Prog.{Prog}
use Rattle.sk_prog.specs.Names.{is_yes}
use Rattle.sk_model.specs.Parts.{Part, in_turn, value}
use Rattle.sk_model.specs.Sites.{is_hole}
use Rattle.sk_model.specs.Fill.{digit, arrange}
use Rattle.sk_model.specs.Step.{Comp}
use Rattle.sk_model.specs.Values.{zero_of}
use Rattle.sk_model.specs.Eval.{Calls, Does}
use Rattle.sk_model.specs.Exec.{Flow, Onward, Returns, unless_returned, one_by_one, declare, assign, drop_value, turns, return, assert, assume}
use Rattle.sk_model.specs.Open.{any_open, open_form, open_stmt, open_expr}
use Rattle.sk_model.proofs.Induction.{Each, StmtCases, stmt_ind}
use Rattle.sk_model.proofs.Layers.{stmt_layer}
use Rattle.sk_holes_laws.specs.Filling.{Every}
use Rattle.sk_min_costs.specs.Free.{form_free, stmt_free, form_free_of}
use Rattle.sk_min_costs.proofs.Places.{both_true}
use Rattle.sk_min_costs.proofs.Steps.{Costless, then_costless, pure_costless, fail_costless, choose_costless, write_costless, store_costless}
use Rattle.sk_min_costs.proofs.Exprs.{DoesCostless, CallsCostless, expr_costless}

-- Rows

every_take : {A : Type 0} (Q : A → Type 0) (n : ℕ) (xs : List A) → Every Q xs → Every Q (take n xs)
every_take Q zero xs h = tt
every_take Q (suc n) [] h = tt
every_take Q (suc n) (x ∷ xs) h = (h.0, every_take Q n xs h.1)

every_drop : {A : Type 0} (Q : A → Type 0) (n : ℕ) (xs : List A) → Every Q xs → Every Q (drop n xs)
every_drop Q zero xs h = h
every_drop Q (suc n) [] h = tt
every_drop Q (suc n) (x ∷ xs) h = every_drop Q n xs h.1

pub every_append : {A : Type 0} (Q : A → Type 0) (xs ys : List A) → Every Q xs → Every Q ys → Every Q (xs ++ ys)
every_append Q [] ys h g = g
every_append Q (x ∷ xs) ys h g = (h.0, every_append Q xs ys h.1 g)

every_arrange : {A : Type 0} (Q : A → Type 0) (values : List ℕ) (i : ℕ) (placed xs : List A) → Every Q placed → Every Q xs → Every Q (arrange values i placed xs)
every_arrange Q values i placed [] h g = h
every_arrange Q values i placed (x ∷ xs) h g =
    let k : ℕ = length placed - digit values i (length placed) in
    every_arrange Q values i (insert placed k x) xs (every_append Q (take k placed) (x ∷ drop k placed) (every_take Q k placed h) (g.0, every_drop Q k placed h)) g.1

-- What forms do

abbrev pub FlowCostless : Comp Flow → Type 0
FlowCostless m = Costless m

unless_costless : {m : Comp Flow} → Costless m → (flow : Flow) → Costless (unless_returned m flow)
unless_costless h Onward = h
unless_costless h (Returns v) = pure_costless (Returns v)

pub row_costless : (ms : List (Comp Flow)) → Every FlowCostless ms → Costless (one_by_one ms)
row_costless [] h = pure_costless Onward
row_costless (m ∷ ms) h = let rest = row_costless ms h.1 in then_costless h.0 (λ flow. unless_costless rest flow)

abbrev AnyCostless : Option Does → Type 0
AnyCostless None = Unit {0}
AnyCostless (Some d) = DoesCostless d

declare_costless : (span : Span) (slot : ℕ) (t : Ty) (d : Option Does) → AnyCostless d → Costless (declare span slot t d)
declare_costless span slot t None h = then_costless (write_costless slot (zero_of t)) (λ u. pure_costless Onward)
declare_costless span slot t (Some d) h = then_costless (then_costless (h.value span) (λ v. write_costless slot v)) (λ u. pure_costless Onward)

assign_costless : (span : Span) (target d : Does) → DoesCostless target → DoesCostless d → Costless (assign span target d)
assign_costless span target d h g = then_costless (then_costless (h.target span) (λ location. then_costless (g.value span) (λ v. store_costless span location v))) (λ u. pure_costless Onward)

drop_costless : (span : Span) (d : Does) → DoesCostless d → Costless (drop_value span d)
drop_costless span d h = then_costless (h.value span) (λ v. pure_costless Onward)

turns_costless : (left : ℕ) (span : Span) (cond : Does) (body : Comp Flow) → DoesCostless cond → Costless body → Costless (turns left span cond body)
turns_costless zero span cond body h g = then_costless (h.value span) (λ v. choose_costless span (fail_costless span) (pure_costless Onward) v)
turns_costless (suc left) span cond body h g =
    let rest = turns_costless left span cond body h g in
    then_costless (h.value span) (λ v. choose_costless span (then_costless g (λ flow. unless_costless rest flow)) (pure_costless Onward) v)

return_costless : (span : Span) (d : Option Does) → AnyCostless d → Costless (return span d)
return_costless span None h = pure_costless (Returns None)
return_costless span (Some d) h = then_costless (h.value span) (λ v. pure_costless (Returns (Some v)))

assert_costless : (span : Span) (d : Does) → DoesCostless d → Costless (assert span d)
assert_costless span d h = then_costless (h.value span) (λ v. choose_costless span (pure_costless Onward) (fail_costless span) v)

assume_costless : (span : Span) (d : Does) → DoesCostless d → Costless (assume span d)
assume_costless span d h = then_costless (h.value span) (λ v. choose_costless span (pure_costless Onward) (record { each = λ s. tt }) v)

module _ (prog : Prog) (bounds : Bounds) (values : List ℕ) (call : Calls) (calls : CallsCostless call) where
  abbrev Opens : Type 0
  Opens = Part (Span → Comp Flow)

  abbrev meant : PExpr → Part Does
  meant = open_expr prog bounds values call

  abbrev opened : PStmt → Part (Comp Flow)
  opened = open_stmt prog bounds values call

  abbrev opened_f : PForm → Opens
  opened_f = fold-PForm Opens (Part (Comp Flow)) (open_form prog bounds values call) (λ s. record { count = s.form.count; at = λ i. s.form.at i s.span })

  -- a statement that is free leaves the cost as it is
  abbrev At : PStmt → Type 0
  At s = stmt_free s ≡ true → (i : ℕ) → FlowCostless ((opened s).at i)

  expr : (e : PExpr) (i : ℕ) → DoesCostless ((meant e).at i)
  expr = expr_costless prog bounds values call calls

  any_expr : (e : Option PExpr) (i : ℕ) → AnyCostless ((any_open prog bounds values call e).at i)
  any_expr None i = tt
  any_expr (Some e) i = expr e i

  pub rows : (ss : List PStmt) → Each At ss → list_all is_yes (map stmt_free ss) ≡ true → (i : ℕ) → Every FlowCostless (in_turn (map opened ss) i)
  rows [] h free i = tt
  rows (s ∷ ss) h free i =
      let two = both_true (stmt_free s) (list_all is_yes (map stmt_free ss)) free in
      (h.0 two.0 i, rows ss h.1 two.1 (i + (opened s).count))

  abbrev Layer : Type 0
  Layer = S.PForm-F PForm PStmt

  abbrev free_layer : Layer → Bool
  free_layer x = form_free (map-PForm PForm PStmt Bool Bool form_free_of stmt_free x)

  abbrev open_layer : Layer → Opens
  open_layer x = open_form prog bounds values call (map-PForm PForm PStmt Opens (Part (Comp Flow)) opened_f opened x)

  rolled : (x : Layer) (f : PForm) → W.roll-PForm x ≡ f → (s : Span) → (free_layer x ≡ true → (i : ℕ) → FlowCostless ((open_layer x).at i s)) → At (record { span = s; form = f })
  rolled x f is s h free i =
      let a = stmt_layer Bool Bool form_free (λ s. s.form) x f is s in
      let d = stmt_layer Opens (Part (Comp Flow)) (open_form prog bounds values call) (λ s. record { count = s.form.count; at = λ i. s.form.at i s.span }) x f is s in
      subst (λ (p : Part (Comp Flow)). FlowCostless (p.at i)) (sym d) (h (sym a ∙ free) i)

  repeat_at : (s : Span) (c : PExpr) (ss : List PStmt) → Each At ss → list_all is_yes (map stmt_free ss) ≡ true → (b : Bool) → is_hole c.form ≡ b → (i : ℕ) → FlowCostless ((open_layer (S.Repeat c ss)).at i s)
  repeat_at s c ss h free true e i = rw e (row_costless (take (value values i) (in_turn (map opened ss) (suc i))) (every_take FlowCostless (value values i) (in_turn (map opened ss) (suc i)) (rows ss h free (suc i))))
  repeat_at s c ss h free false e i = rw e (row_costless (in_turn (map opened ss) i) (rows ss h free i))

  cases : StmtCases At
  cases = record {
    block = λ s ss h. rolled (S.Block ss) (form.Block ss) (W.rolls-Block ss) s (λ free i. row_costless (in_turn (map opened ss) i) (rows ss h free i));
    declare = λ s slot x t e. rolled (S.Declare slot x t e) (form.Declare slot x t e) (W.rolls-Declare slot x t e) s (λ free i. declare_costless s slot t ((any_open prog bounds values call e).at i) (any_expr e i));
    assign = λ s p e. rolled (S.Assign p e) (form.Assign p e) (W.rolls-Assign p e) s (λ free i. assign_costless s ((meant p).at i) ((meant e).at (i + (meant p).count)) (expr p i) (expr e (i + (meant p).count)));
    calls = λ s e. rolled (S.Call e) (form.Call e) (W.rolls-Call e) s (λ free i. drop_costless s ((meant e).at i) (expr e i));
    if_only = λ s c a h. rolled (S.If c a None) (form.If c a None) (W.rolls-If c a None) s (λ free i. then_costless ((expr c i).value s) (λ v. choose_costless s (h (both_true (stmt_free a) true free).0 (i + (meant c).count)) (pure_costless Onward) v));
    if_else = λ s c a b h k. rolled (S.If c a (Some b)) (form.If c a (Some b)) (W.rolls-If c a (Some b)) s (λ free i. (let two = both_true (stmt_free a) (stmt_free b) free in then_costless ((expr c i).value s) (λ v. choose_costless s (h two.0 (i + (meant c).count)) (k two.1 (i + ((meant c).count + (opened a).count))) v)));
    loop = λ s c a h. rolled (S.While c a) (form.While c a) (W.rolls-While c a) s (λ free i. turns_costless bounds.unroll s ((meant c).at i) ((opened a).at (i + (meant c).count)) (expr c i) (h free (i + (meant c).count)));
    returns = λ s e. rolled (S.Return e) (form.Return e) (W.rolls-Return e) s (λ free i. return_costless s ((any_open prog bounds values call e).at i) (any_expr e i));
    asserts = λ s e. rolled (S.Assert e) (form.Assert e) (W.rolls-Assert e) s (λ free i. assert_costless s ((meant e).at i) (expr e i));
    assumes = λ s e. rolled (S.Assume e) (form.Assume e) (W.rolls-Assume e) s (λ free i. assume_costless s ((meant e).at i) (expr e i));
    minimizes = λ s e. rolled (S.Minimize e) (form.Minimize e) (W.rolls-Minimize e) s (λ free i. absurd (true≢false (sym free)));
    repeats = λ s c ss h. rolled (S.Repeat c ss) (form.Repeat c ss) (W.rolls-Repeat c ss) s (λ free i. repeat_at s c ss h free (is_hole c.form) refl i);
    minrepeat = λ s ss h. rolled (S.MinRepeat ss) (form.MinRepeat ss) (W.rolls-MinRepeat ss) s (λ free i. absurd (true≢false (sym free)));
    reorder = λ s ss h. rolled (S.Reorder ss) (form.Reorder ss) (W.rolls-Reorder ss) s (λ free i. (let n : ℕ = length (map opened ss) - 1 in row_costless (arrange values i [] (in_turn (map opened ss) (i + n))) (every_arrange FlowCostless values i [] (in_turn (map opened ss) (i + n)) tt (rows ss h free (i + n)))));
  }

  stmt_costless : (s : PStmt) → At s
  stmt_costless = stmt_ind At cases

  all_costless : (ss : List PStmt) → Each At ss
  all_costless [] = tt
  all_costless (s ∷ ss) = (stmt_costless s, all_costless ss)

  -- statements that are free, in a row
  pub body_costless : (ss : List PStmt) → list_all is_yes (map stmt_free ss) ≡ true → (i : ℕ) → Every FlowCostless (in_turn (map (open_stmt prog bounds values call) ss) i)
  body_costless ss free i = rows ss (all_costless ss) free i
