-- Targets, assignments and records that are made.
use Rattle.std.proofs.Common.{◌≡◌, ℕ, ◌+◌, List, [], ◌∷◌, ◌++◌, map, take, length, get_or, Option, sym, ap, ◌∙◌, ◌<◌, arith}
use Rattle.std.proofs.lemmas.List.{take_more}
use Rattle.sk_base.specs.declared.span.Span.{Span}
use Rattle.sk_base.specs.declared.name.Name.{Name}
use Rattle.sk_dag.specs.declared.env.Env.{Env}
use Rattle.sk_dag.specs.declared.shape.Shape.{Shape}
use Rattle.sk_dag.specs.Graph.{Graph}
use Rattle.sk_prog.specs.declared.ids.StructId.{StructId}
use Rattle.sk_prog.specs.declared.ty.Ty.{Ty}
use Rattle.sk_prog.specs.declared.value.Value.{Value}
use Rattle.sk_prog.specs.declared.expr.PExpr.{PExpr}
use Rattle.sk_prog.specs.declared.expr.PField.{PField}
use Rattle.sk_prog.specs.declared.expr.PEForm.{PEForm}
use Rattle.sk_prog.specs.declared.expr.PEForm.TheVariants as eform
use Rattle.sk_prog.specs.declared.expr.PEForm.TheOpen as P
use Rattle.sk_prog.specs.declared.stmt.PStmt.{PStmt}
use Rattle.sk_prog.specs.declared.stmt.PForm.TheVariants as form
use Rattle.sk_prog.specs.declared.stmt.PForm.TheOpen as S
use Rattle.sk_prog.specs.declared.stmt.PForm.TheViews as W
use Rattle.sk_model.specs.Parts.{Part, counts, in_turn}
use Rattle.sk_model.specs.Step.{State, Comp, and_then, ◌>>=◌, pure}
use Rattle.sk_model.specs.Heap as model
use Rattle.sk_model.specs.Eval.{Does, fields_in_order, add_index}
use Rattle.sk_model.specs.Exec.{Flow}
use Rattle.sk_model.specs.Open.{open_eform, open_field, open_form}
use Rattle.sk_model.proofs.Layers.{layer_field, layer_var, layer_member, layer_index, layer_new, stmt_layer}
use Rattle.sk_sym_state.specs.declared.state.SymState.{SymState}
use Rattle.sk_sym_state.specs.Stands.{StateStands}
use Rattle.sk_sym_state.proofs.Ends.{does_same}
use Rattle.sk_sym_state.proofs.Following.{does_on}
use Rattle.sk_sym_forms.specs.Steps.{EvaluatesOn}
use Rattle.sk_sym_places.specs.Location.{Location}
use Rattle.sk_sym_places.specs.Root.TheVariants.{Variable, Field}
use Rattle.sk_sym_places.specs.Init.{Init}
use Rattle.sk_sym_places.specs.Locations.{IsIndexed}
use Rattle.sk_sym_places.specs.Records.{InitsAre}
use Rattle.sk_sym_places.proofs.Locating.{variable_locates, field_locates, index_locates}
use Rattle.sk_sym_places.proofs.Records.{no_fields, more_fields, fields_in_order_push}
use Rattle.sk_sym_walk.specs.declared.activation.Activation.{Activation}
use Rattle.sk_sym_walk.specs.Walk.{prog_of, values_at, calls_at, expr_part, eval_part, stmt_part}
use Rattle.sk_sym_walk.specs.Parts.{siteless, IsEvaluated}
use Rattle.sk_sym_walk.specs.Targets.{target_part, field_target, index_target, assign_part, field_part, fields_part, new_part, IsLocated, AreSetTo}
use Rattle.sk_sym_walk.proofs.Sequences.{SamePart, same_part, behind_as}
use Rattle.sk_sym_walk.proofs.Layers.{counts_push, turn_push, map_push}

pub located_as : {a : Activation} {d0 d1 : Graph} {s0 s1 : SymState} {i j : ℕ} {p q : Env → Part (Comp model.Location)} {l : Location} → SamePart p q → IsLocated a d0 d1 s0 s1 i j p l → IsLocated a d0 d1 s0 s1 i j q l
located_as {i = i} same h = record {
  locates = record { does = does_same (λ e at. same.at e i at) h.locates.does; there = h.locates.there };
  place = behind_as same h.place;
}

module _ (a : Activation) (span : Span) (x : PExpr) where
  abbrev step : Env → P.PEForm-F (Option Ty → Part Does) (Part Does) (Part (ℕ × Does)) → Option Ty → Part Does
  step env = open_eform (prog_of a) a.bounds (values_at a env) (calls_at a env)

  abbrev field_step : Env → P.PField-F (Option Ty → Part Does) (Part Does) (Part (ℕ × Does)) → Part (ℕ × Does)
  field_step env = open_field (prog_of a) a.bounds (values_at a env) (calls_at a env)

  abbrev named : Part Does → Part (Comp model.Location)
  named p = record { count = p.count; at = λ i. (p.at i).target span }

  abbrev valued : Part Does → Part (Comp Value)
  valued p = record { count = p.count; at = λ i. (p.at i).value span }

  abbrev target_with : Env → PEForm → Part (Comp model.Location)
  target_with env f = target_part a span (record { span = x.span; ty = x.ty; form = f }) env

  abbrev eval_with : Env → PEForm → Part (Comp Value)
  eval_with env f = eval_part a span (record { span = x.span; ty = x.ty; form = f }) env

  pub same_variable_target : (slot : ℕ) (n : Name) → x.form ≡ eform.Var slot n → SamePart (siteless (λ e. model.at_root (model.Variable slot))) (target_part a span x)
  same_variable_target slot n is = same_part (λ env. ap (target_with env) is ∙ ap named (layer_var (Option Ty → Part Does) (Part Does) (Part (ℕ × Does)) (step env) (λ e. e.form e.ty) (field_step env) x.span x.ty slot n))

  pub same_field_target : (y : PExpr) (s : StructId) (field : ℕ) → x.form ≡ eform.Member y s field → SamePart (field_target a span y field) (target_part a span x)
  same_field_target y s field is = same_part (λ env. ap (target_with env) is ∙ ap named (layer_member (Option Ty → Part Does) (Part Does) (Part (ℕ × Does)) (step env) (λ e. e.form e.ty) (field_step env) x.span x.ty y s field))

  pub same_index_target : (y z : PExpr) → x.form ≡ eform.Index y z → SamePart (index_target a span y z) (target_part a span x)
  same_index_target y z is = same_part (λ env. ap (target_with env) is ∙ ap named (layer_index (Option Ty → Part Does) (Part Does) (Part (ℕ × Does)) (step env) (λ e. e.form e.ty) (field_step env) x.span x.ty y z))

  pub same_new : (s : StructId) (fs : List PField) → x.form ≡ eform.New s fs → SamePart (new_part a span s fs) (eval_part a span x)
  same_new s fs is = same_part (λ env. ap (eval_with env) is ∙ ap valued (layer_new (Option Ty → Part Does) (Part Does) (Part (ℕ × Does)) (step env) (λ e. e.form e.ty) (field_step env) x.span x.ty s fs))

pub same_assign : (a : Activation) (s : PStmt) (x y : PExpr) → s.form ≡ form.Assign x y → SamePart (assign_part a s.span x y) (stmt_part a s)
same_assign a s x y is = same_part (λ env.
    ap (λ f. stmt_part a (record { span = s.span; form = f }) env) is
    ∙ stmt_layer (Part (Span → Comp Flow)) (Part (Comp Flow)) (open_form (prog_of a) a.bounds (values_at a env) (calls_at a env)) (λ t. record { count = t.form.count; at = λ i. t.form.at i t.span }) (S.Assign x y) (form.Assign x y) (W.rolls-Assign x y) s.span)

-- ---- targets

pub variable_located : {a : Activation} {d : Graph} {s : SymState} {i : ℕ} {l : Location} {slot : ℕ} → StateStands d a.setting.expanded.now.prog s → l ≡ record { root = Variable slot; indexes = [] } → IsLocated a d d s s i i (siteless (λ e. model.at_root (model.Variable slot))) l
variable_located h is = record { locates = variable_locates h is; place = record { place = λ e. omega arith } }

pub field_located : {a : Activation} {d0 d1 : Graph} {s0 s1 : SymState} {i j : ℕ} {l : Location} {reference : Shape} {kind : StructId} {field : ℕ} (span : Span) (x : PExpr) → IsEvaluated a d0 d1 s0 s1 i j (eval_part a span x) reference → l ≡ record { root = Field reference kind field; indexes = [] } → IsLocated a d0 d1 s0 s1 i j (field_target a span x field) l
field_located span x h is = record { locates = field_locates h.evaluates is; place = record { place = h.place.place } }

pub index_located : {a : Activation} {d0 d1 d2 : Graph} {s0 s1 s2 : SymState} {i j k : ℕ} {l made : Location} {index : Shape} (span : Span) (x y : PExpr) → IsLocated a d0 d1 s0 s1 i j (target_part a span x) l → IsEvaluated a d1 d2 s1 s2 j k (eval_part a span y) index → IsIndexed l made index → IsLocated a d0 d2 s0 s2 i k (index_target a span x y) made
index_located {a} {i = i} span x y first second is =
    let both = index_locates span first.locates second.evaluates is in
    record {
      locates = record {
        does = does_same (λ e s. ap (λ n. and_then ((target_part a span x e).at i s) (λ location. (eval_part a span y e).at n >>= add_index span location)) (sym (first.place.place e))) both.does;
        there = both.there;
      };
      place = record { place = λ e. omega (arith, first.place.place e, second.place.place e) };
    }

-- ---- new records

pub fields_none : {a : Activation} {d : Graph} {s : SymState} {i : ℕ} (span : Span) → StateStands d a.setting.expanded.now.prog s → AreSetTo a d d s s i i (fields_part a span []) []
fields_none span h = record { evaluate = no_fields h; place = record { place = λ e. omega arith } }

module _ (a : Activation) (span : Span) (list : List PField) (n : ℕ) (x : PField) (l : n < length list) (is : x ≡ get_or list n x) where
  more : take (n + 1) list ≡ take n list ++ x ∷ []
  more = take_more list n x l ∙ ap (λ y. take n list ++ y ∷ []) (sym is)

  one : (e : Env) → field_part a x e ≡ record { count = (expr_part a x.value e).count; at = λ i. (x.field, (expr_part a x.value e).at i) }
  one e = layer_field (Option Ty → Part Does) (Part Does) (Part (ℕ × Does)) (open_eform (prog_of a) a.bounds (values_at a e) (calls_at a e)) (λ x. x.form x.ty) (open_field (prog_of a) a.bounds (values_at a e) (calls_at a e)) x.field x.value

  more_count : (e : Env) → (fields_part a span (take (n + 1) list) e).count ≡ (fields_part a span (take n list) e).count + (eval_part a span x.value e).count
  more_count e =
      ap (λ xs. counts (map (λ y. field_part a y e) xs)) more
      ∙ ap counts (map_push (λ y. field_part a y e) (take n list) x)
      ∙ counts_push (map (λ y. field_part a y e) (take n list)) (field_part a x e)
      ∙ ap (λ (p : Part (ℕ × Does)). counts (map (λ y. field_part a y e) (take n list)) + p.count) (one e)

  more_at : (e : Env) (i : ℕ) (s : State) → (fields_part a span (take (n + 1) list) e).at i s ≡ and_then ((fields_part a span (take n list) e).at i s) (λ fs. (eval_part a span x.value e).at (i + (fields_part a span (take n list) e).count) >>= (λ v. pure (fs ++ (x.field, v) ∷ [])))
  more_at e i s =
      ap (λ xs. fields_in_order span (in_turn (map (λ y. field_part a y e) xs) i) s) more
      ∙ ap (λ ps. fields_in_order span (in_turn ps i) s) (map_push (λ y. field_part a y e) (take n list) x)
      ∙ ap (λ ms. fields_in_order span ms s) (turn_push (map (λ y. field_part a y e) (take n list)) (field_part a x e) i)
      ∙ ap (λ (p : Part (ℕ × Does)). fields_in_order span (in_turn (map (λ y. field_part a y e) (take n list)) i ++ p.at (i + counts (map (λ y. field_part a y e) (take n list))) ∷ []) s) (one e)
      ∙ fields_in_order_push span (in_turn (map (λ y. field_part a y e) (take n list)) i) (x.field, (expr_part a x.value e).at (i + counts (map (λ y. field_part a y e) (take n list)))) s

  pub fields_more : {d0 d1 d2 : Graph} {s0 s1 s2 : SymState} {i j k : ℕ} {made : List Init} {r : Shape} → AreSetTo a d0 d1 s0 s1 i j (fields_part a span (take n list)) made → IsEvaluated a d1 d2 s1 s2 j k (eval_part a span x.value) r → AreSetTo a d0 d2 s0 s2 i k (fields_part a span (take (n + 1) list)) (made ++ record { field = x.field; value = r } ∷ [])
  fields_more {i = i} first next =
      let both = more_fields x.field first.evaluate next.evaluates in
      record {
        evaluate = record {
          does = does_same (λ e s. more_at e i s ∙ ap (λ m. and_then ((fields_part a span (take n list) e).at i s) (λ fs. (eval_part a span x.value e).at m >>= (λ v. pure (fs ++ (x.field, v) ∷ [])))) (sym (first.place.place e))) both.does;
          there = both.there;
        };
        place = record { place = λ e. omega (arith, first.place.place e, next.place.place e, more_count e) };
      }

pub new_evaluated : {a : Activation} {d0 d1 d2 : Graph} {s0 s1 s2 : SymState} {i j : ℕ} {made : List Init} {r : Shape} (span : Span) (s : StructId) (fs : List PField) → AreSetTo a d0 d1 s0 s1 i j (fields_part a span fs) made → EvaluatesOn a.setting d1 d2 s1 s2 (λ g e. InitsAre g e s1.heap made) r (λ e. model.allocate a.setting.expanded.now.prog s) → IsEvaluated a d0 d2 s0 s2 i j (new_part a span s fs) r
new_evaluated span s fs all next = record {
  evaluates = record { does = does_on all.evaluate.does next.does; there = next.there };
  place = record { place = all.place.place };
}
