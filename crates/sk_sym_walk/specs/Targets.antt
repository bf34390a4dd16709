-- What is stored, and what new records are set to.
use Rattle.std.specs.Prelude.{ℕ, ◌+◌, List, map, Option}
use Rattle.sk_base.specs.declared.span.Span.{Span}
use Rattle.sk_dag.specs.declared.env.Env.{Env}
use Rattle.sk_dag.specs.Graph.{Graph}
use Rattle.sk_prog.specs.declared.ids.StructId.{StructId}
use Rattle.sk_prog.specs.declared.ty.Ty.{Ty}
use Rattle.sk_prog.specs.declared.value.Value.{Value}
use Rattle.sk_prog.specs.declared.expr.PExpr.{PExpr}
use Rattle.sk_prog.specs.declared.expr.PField.{PField}
use Rattle.sk_prog.specs.declared.expr.PEForm.TheFolds.{fold-PField}
use Rattle.sk_model.specs.Parts.{Part, counts, in_turn}
use Rattle.sk_model.specs.Step.{Comp, ◌>>=◌}
use Rattle.sk_model.specs.Heap as model
use Rattle.sk_model.specs.Eval.{Does, fields_in_order, add_index}
use Rattle.sk_model.specs.Exec.{Flow, assign}
use Rattle.sk_model.specs.Open.{open_eform, open_field}
use Rattle.sk_sym_state.specs.declared.state.SymState.{SymState}
use Rattle.sk_sym_state.specs.Meaning.{DoesOn}
use Rattle.sk_sym_places.specs.Location.{Location}
use Rattle.sk_sym_places.specs.Init.{Init}
use Rattle.sk_sym_places.specs.Locations.{Locates}
use Rattle.sk_sym_places.specs.Records.{EvaluateFields}
use Rattle.sk_sym_places.specs.declared.place.Place.{Place}
use Rattle.sk_sym_places.specs.Places.{PlaceStands, PlaceIs, Places}
use Rattle.sk_sym_walk.specs.declared.activation.Activation.{Activation}
use Rattle.sk_sym_walk.specs.Walk.{prog_of, values_at, calls_at, expr_part, eval_part, IsBehind}

-- what an expression names as a target
abbrev pub target_part : Activation → Span → PExpr → Env → Part (Comp model.Location)
target_part a span x e = record { count = (expr_part a x e).count; at = λ i. ((expr_part a x e).at i).target span }

-- a field of what a part refers to
abbrev pub field_target : Activation → Span → PExpr → ℕ → Env → Part (Comp model.Location)
field_target a span x field e = record { count = (eval_part a span x e).count; at = λ i. (eval_part a span x e).at i >>= (λ v. model.at_root (model.Field v field)) }

-- an element of what a part names
abbrev pub index_target : Activation → Span → PExpr → PExpr → Env → Part (Comp model.Location)
index_target a span x y e = record { count = (target_part a span x e).count + (eval_part a span y e).count; at = λ i. (target_part a span x e).at i >>= (λ location. (eval_part a span y e).at (i + (target_part a span x e).count) >>= add_index span location) }

abbrev pub assign_part : Activation → Span → PExpr → PExpr → Env → Part (Comp Flow)
assign_part a span x y e = record { count = (expr_part a x e).count + (expr_part a y e).count; at = λ i. assign span ((expr_part a x e).at i) ((expr_part a y e).at (i + (expr_part a x e).count)) }

-- a field that `new` sets
abbrev pub field_part : Activation → PField → Env → Part (ℕ × Does)
field_part a x e = fold-PField (Option Ty → Part Does) (Part Does) (Part (ℕ × Does)) (open_eform (prog_of a) a.bounds (values_at a e) (calls_at a e)) (λ x. x.form x.ty) (open_field (prog_of a) a.bounds (values_at a e) (calls_at a e)) x

-- fields from left to right
abbrev pub fields_part : Activation → Span → List PField → Env → Part (Comp (List (ℕ × Value)))
fields_part a span xs e = record { count = counts (map (λ x. field_part a x e) xs); at = λ i. fields_in_order span (in_turn (map (λ x. field_part a x e) xs) i) }

abbrev pub new_part : Activation → Span → StructId → List PField → Env → Part (Comp Value)
new_part a span s xs e = record { count = (fields_part a span xs e).count; at = λ i. (fields_part a span xs e).at i >>= model.allocate (prog_of a) s }

-- the walk has gone from place i to place j, and the location is what the part names
pub record IsLocated (a : Activation) (d0 d1 : Graph) (s0 s1 : SymState) (i j : ℕ) (part : Env → Part (Comp model.Location)) (l : Location) : Type 0 where
  pub locates : Locates a.setting d0 d1 s0 s1 l (λ e. (part e).at i)
  pub place : IsBehind part i j

-- so of a place, and of one that goes by something that is given
pub record IsPlaced (a : Activation) (d0 d1 : Graph) (s0 s1 : SymState) (i j : ℕ) (part : Env → Part (Comp model.Location)) (p : Place) : Type 0 where
  pub places : Places a.setting d0 d1 s0 s1 p (λ e. (part e).at i)
  pub place : IsBehind part i j

pub record IsPlacedOn {A : Type 0} (a : Activation) (d0 d1 : Graph) (s0 s1 : SymState) (i j : ℕ) (Given : Graph → Env → A → Type 0) (part : Env → Part (A → Comp model.Location)) (p : Place) : Type 0 where
  pub does : DoesOn a.setting d0 d1 s0 s1 Given (λ g e. PlaceIs g e s1.heap p) (λ e. (part e).at i)
  pub there : PlaceStands d1 p
  pub place : IsBehind part i j

-- the fields are set to what the expressions give
pub record AreSetTo (a : Activation) (d0 d1 : Graph) (s0 s1 : SymState) (i j : ℕ) (part : Env → Part (Comp (List (ℕ × Value)))) (list : List Init) : Type 0 where
  pub evaluate : EvaluateFields a.setting d0 d1 s0 s1 list (λ e. (part e).at i)
  pub place : IsBehind part i j
