-- What the code's words for calls and for ends of statements mean, and what is done inside an active call.
use Rattle.std.specs.Prelude.{ℕ, ◌-◌, ◌==◌, ◌&&◌, ◌++◌, ◌∷◌, [], List, Option, Some, None, map, count_by, nat_lt, slice_get, if◌then◌else◌}
use Rattle.sk_base.specs.declared.span.Span.{Span}
use Rattle.sk_prog.specs.declared.value.Value.{Value}
use Rattle.sk_prog.specs.declared.value.Value.TheVariants as value
use Rattle.sk_prog.specs.declared.ids.FunId.{FunId}
use Rattle.sk_prog.specs.declared.ids.StructId.{StructId}
use Rattle.sk_prog.specs.declared.ty.Ty.{Ty}
use Rattle.sk_prog.specs.declared.expr.PExpr.{PExpr}
use Rattle.sk_prog.specs.declared.expr.PField.{PField}
use Rattle.sk_prog.specs.declared.stmt.PStmt.{PStmt}
use Rattle.sk_prog.specs.declared.prog.Fun.{Fun}
use Rattle.sk_interp.specs.declared.call.Called.{Called}
use Rattle.sk_interp.specs.declared.call.Flow.{Flow}
use Rattle.sk_interp.specs.declared.call.Flow.TheVariants as flow
use Rattle.sk_interp.specs.declared.activation.Activation.{Activation}
use Rattle.sk_model.specs.Step.{Comp}
use Rattle.sk_model.specs.Heap.{allocate}
use Rattle.sk_model.specs.Eval as model
use Rattle.sk_model.specs.Exec as steps
use Rattle.sk_model.specs.Run.{most_calls}
use Rattle.sk_interp_laws.specs.declared.log.Log.{Log}
use Rattle.sk_interp_laws.specs.Recording.{Traced, ◌>>=◌, pure, fail, lift}
use Rattle.sk_interp_laws.specs.Eval as traced
use Rattle.sk_interp_laws.specs.Exec as told
use Rattle.sk_interp_laws.specs.Run.{calls, in_frame}
use Rattle.sk_interp_laws.specs.Kept.{kept}

-- one after the other
abbrev pub followed : {A B : Type 0} → Traced Log A → (A → Traced Log B) → Traced Log B
followed m k = m >>= k

abbrev pub called_of : Called → model.Called
called_of c = record { result = c.result; refs = c.refs }

abbrev pub flow_of : Flow → steps.Flow
flow_of flow.Onward = steps.Onward
flow_of (flow.Returns v) = steps.Returns v

-- what calls do that are made inside this one
abbrev pub calls_in : Activation → traced.Calls Log
calls_in a = calls kept a.prog.now a.bounds a.left a.active.now

-- what expressions do there
abbrev pub does_in : Activation → PExpr → traced.Does Log
does_in a = traced.does a.prog.now a.bounds.int_bits (calls_in a)

abbrev pub each_in : Activation → List PExpr → List (traced.Does Log)
each_in a es = map (does_in a) es

abbrev pub value_of_braces : Activation → Span → Option Ty → List PExpr → Traced Log Value
value_of_braces a span t parts = traced.in_order span (each_in a parts) >>= (λ vs. pure (model.padded_at t (value.Array vs)))

abbrev pub field_in : Activation → PField → ℕ × traced.Does Log
field_in a f = (f.field, does_in a f.value)

abbrev pub value_of_new : Activation → Span → StructId → List PField → Traced Log Value
value_of_new a span d fields = traced.fields_in_order span (map (field_in a) fields) >>= (λ set. lift (allocate a.prog.now d set))

-- a call whose arguments have these values
abbrev pub value_of_called : Activation → Span → FunId → List PExpr → List Value → Traced Log Value
value_of_called a span f args vs =
    calls_in a span f.index vs >>= (λ called.
    traced.copy_back span (traced.ref_args (model.params_of (slice_get a.prog.now.funs f.index)) (each_in a args)) called.refs >>= (λ done.
    pure (model.result_value called.result)))

abbrev pub value_of_call : Activation → Span → FunId → List PExpr → Traced Log Value
value_of_call a span f args = traced.in_order span (each_in a args) >>= value_of_called a span f args

-- and statements
abbrev pub exec_in : Activation → PStmt → Traced Log steps.Flow
exec_in a = told.exec_stmt kept a.depth a.prog.now a.bounds (calls_in a)

abbrev pub exec_all_in : Activation → List PStmt → Traced Log steps.Flow
exec_all_in a = told.exec_all kept a.depth a.prog.now a.bounds (calls_in a)

-- a value that is stored so
abbrev pub stored_in : Activation → Span → Comp (Unit {0}) → Value → Traced Log steps.Flow
stored_in a = told.stored kept a.depth

-- a statement that goes so
abbrev pub going_in : Activation → Span → steps.Flow → Traced Log steps.Flow
going_in a = told.going kept a.depth

-- the function that a call means, where it may be made
abbrev pub callee : Activation → ℕ → Option Fun
callee a f = if nat_lt 0 a.left && nat_lt (count_by (λ g. g == f) a.active.now) a.bounds.inline_amnt then slice_get a.prog.now.funs f else None

-- what is done inside a call of this function, made inside this one
abbrev pub body_in : Activation → ℕ → Fun → Traced Log steps.Flow
body_in a f fun = told.exec_all kept (most_calls - (a.left - 1)) a.prog.now a.bounds (calls kept a.prog.now a.bounds (a.left - 1) (a.active.now ++ f ∷ [])) fun.body

abbrev pub called_by : Activation → Span → ℕ → List Value → Option Fun → Traced Log model.Called
called_by a span f args None = fail span
called_by a span f args (Some fun) = in_frame fun args (body_in a f fun)
