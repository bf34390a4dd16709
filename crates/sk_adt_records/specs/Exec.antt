-- What a statement does: as in a run, but with records by their variants.
use Rattle.std.specs.Prelude.{ℕ, zero, suc, nat_le, if◌then◌else◌, List, [], ◌∷◌, map, length, Option, Some, None}
use Rattle.sk_base.specs.declared.span.Span.{Span}
use Rattle.sk_base.specs.declared.bounds.Bounds.{Bounds}
use Rattle.sk_prog.specs.declared.ty.Ty.{Ty}
use Rattle.sk_prog.specs.declared.expr.PExpr.{PExpr}
use Rattle.sk_prog.specs.declared.stmt.PStmt.{PStmt}
use Rattle.sk_prog.specs.declared.stmt.PForm.TheOpen as S
use Rattle.sk_prog.specs.declared.stmt.PForm.TheFolds.{fold-PStmt}
use Rattle.sk_prog.specs.declared.prog.Prog.{Prog}
use Rattle.sk_model.specs.Sites.{is_hole}
use Rattle.sk_model.specs.Values.{zero_of}
use Rattle.sk_model.specs.Exec.{Flow, Onward, Returns, pay}
use Rattle.sk_adt.specs.declared.algebraic.Algebraic.{Algebraic}
use Rattle.sk_adt_records.specs.Steps.{Comp, ◌>>=◌, pure, fail, skip, lift}
use Rattle.sk_adt_records.specs.Heap.{write, store}
use Rattle.sk_adt_records.specs.Eval.{Calls, Does, does, choose}

abbrev pub unless_returned : Comp Flow → Flow → Comp Flow
unless_returned m Onward = m
unless_returned m (Returns v) = pure (Returns v)

-- one after another, until one returns
abbrev pub one_by_one : List (Comp Flow) → Comp Flow
one_by_one [] = pure Onward
one_by_one (m ∷ ms) = m >>= unless_returned (one_by_one ms)

abbrev pub onward : Comp (Unit {0}) → Comp Flow
onward m = m >>= (λ u. pure Onward)

-- the zero of a type where there is no value
abbrev pub declare : Span → ℕ → Ty → Option Does → Comp Flow
declare span slot t None = onward (write slot (zero_of t))
declare span slot t (Some e) = onward (e.value span >>= write slot)

abbrev pub drop_value : Span → Does → Comp Flow
drop_value span e = e.value span >>= (λ v. pure Onward)

abbrev pub branch : Span → Does → Comp Flow → Option (Comp Flow) → Comp Flow
branch span cond a None = cond.value span >>= choose span a (pure Onward)
branch span cond a (Some b) = cond.value span >>= choose span a b

-- a loop that has so many turns left
abbrev pub turns : ℕ → Span → Does → Comp Flow → Comp Flow
turns zero span cond body = cond.value span >>= choose span (fail span) (pure Onward)
turns (suc left) span cond body = cond.value span >>= choose span (body >>= unless_returned (turns left span cond body)) (pure Onward)

abbrev pub return : Span → Option Does → Comp Flow
return span None = pure (Returns None)
return span (Some e) = e.value span >>= (λ v. pure (Returns (Some v)))

abbrev pub assert : Span → Does → Comp Flow
assert span e = e.value span >>= choose span (pure Onward) (fail span)

abbrev pub assume : Span → Does → Comp Flow
assume span e = e.value span >>= choose span (pure Onward) (skip span)

abbrev pub minimize : Span → Does → Comp Flow
minimize span e = e.value span >>= (λ v. lift (pay span v))

abbrev pub assign : Span → Does → Does → Comp Flow
assign span target e = onward (target.target span >>= (λ location. e.value span >>= store span location))

module _ (types : List Algebraic) (prog : Prog) (bounds : Bounds) (call : Calls) where
  abbrev pub meaning : PExpr → Does
  meaning = does types prog bounds.int_bits call

  abbrev pub any_meaning : Option PExpr → Option Does
  any_meaning None = None
  any_meaning (Some e) = Some (meaning e)

  abbrev pub exec_form : S.PForm-F (Span → Comp Flow) (Comp Flow) → Span → Comp Flow
  exec_form (S.Block ms) span = one_by_one ms
  exec_form (S.Declare slot x t e) span = declare span slot t (any_meaning e)
  exec_form (S.Assign target e) span = assign span (meaning target) (meaning e)
  exec_form (S.Call e) span = drop_value span (meaning e)
  exec_form (S.If cond a b) span = branch span (meaning cond) a b
  exec_form (S.While cond body) span = turns bounds.unroll span (meaning cond) body
  exec_form (S.Return e) span = return span (any_meaning e)
  exec_form (S.Assert e) span = assert span (meaning e)
  exec_form (S.Assume e) span = assume span (meaning e)
  exec_form (S.Minimize e) span = minimize span (meaning e)
  exec_form (S.Repeat count copies) span = if is_hole count.form then fail span else one_by_one copies
  exec_form (S.MinRepeat copies) span = fail span
  exec_form (S.Reorder ms) span = if nat_le (length ms) 1 then one_by_one ms else fail span

  abbrev pub exec_stmt : PStmt → Comp Flow
  exec_stmt = fold-PStmt (Span → Comp Flow) (Comp Flow) exec_form (λ s. s.form s.span)

  abbrev pub exec_all : List PStmt → Comp Flow
  exec_all body = one_by_one (map exec_stmt body)
