-- What a statement does. A statement list does the first and then the rest in its state, until a return.
-- A declaration without a value stores the zero of its type, each time that it is run. An assignment
-- evaluates the parts of its target, then the value, and then stores into the state that the value left.
-- A `while` evaluates its condition, and fails where that is true and the unroll bound many turns are
-- done. `assert` of false fails and `assume` of false skips. `minimize` adds to the cost, which stays at
-- 2^64 - 1, and fails where the number is negative. Each of these ends with the statement's own span, and
-- so does a condition of an `if` or a `while`.
--
-- A repeat by a constant does all its copies, and a `reorder` of one statement at most does that: they have no sites. A
-- statement of which a filling decides what it does fails before it is filled: a repeat by a hole, a `minrepeat`, and a
-- `reorder` of more than one statement.
use Rattle.std.specs.Prelude.{ℕ, zero, suc, ◌+◌, ◌-◌, ◌^◌, min, pos, nat_le, if◌then◌else◌, List, [], ◌∷◌, map, length, Option, Some, None}
use Rattle.sk_base.specs.declared.span.Span.{Span}
use Rattle.sk_base.specs.declared.bounds.Bounds.{Bounds}
use Rattle.sk_prog.specs.declared.ty.Ty.{Ty}
use Rattle.sk_prog.specs.declared.value.Value.{Value}
use Rattle.sk_prog.specs.declared.value.Value.TheVariants as value
use Rattle.sk_prog.specs.declared.expr.PExpr.{PExpr}
use Rattle.sk_prog.specs.declared.stmt.PStmt.{PStmt}
use Rattle.sk_prog.specs.declared.stmt.PForm.TheOpen as S
use Rattle.sk_prog.specs.declared.stmt.PForm.TheFolds.{fold-PStmt}
use Rattle.sk_prog.specs.declared.prog.Prog.{Prog}
use Rattle.sk_model.specs.Sites.{is_hole}
use Rattle.sk_model.specs.Step.{Goes, Comp, ◌>>=◌, pure, fail, skip}
use Rattle.sk_model.specs.Values.{zero_of}
use Rattle.sk_model.specs.Heap.{write, store}
use Rattle.sk_model.specs.Eval.{Calls, Does, does, choose}

-- whether a statement goes on to the next one, or returns from its function
pub data Flow : Type 0 where
  Onward : Flow
  Returns : Option Value → Flow

abbrev pub unless_returned : Comp Flow → Flow → Comp Flow
unless_returned m Onward = m
unless_returned m (Returns v) = pure (Returns v)

-- one after another, until one returns
abbrev pub one_by_one : List (Comp Flow) → Comp Flow
one_by_one [] = pure Onward
one_by_one (m ∷ ms) = m >>= unless_returned (one_by_one ms)

abbrev pub onward : Comp (Unit {0}) → Comp Flow
onward m = m >>= (λ u. pure Onward)

-- What the forms do, where their expressions and statements have become what these do

-- the zero of a type where there is no value
abbrev pub declare : Span → ℕ → Ty → Option Does → Comp Flow
declare span slot t None = onward (write slot (zero_of t))
declare span slot t (Some e) = onward (e.value span >>= write slot)

abbrev pub assign : Span → Does → Does → Comp Flow
assign span target e = onward (target.target span >>= (λ location. e.value span >>= store span location))

abbrev pub drop_value : Span → Does → Comp Flow
drop_value span e = e.value span >>= (λ v. pure Onward)

abbrev pub branch : Span → Does → Comp Flow → Option (Comp Flow) → Comp Flow
branch span cond a None = cond.value span >>= choose span a (pure Onward)
branch span cond a (Some b) = cond.value span >>= choose span a b

-- a loop that has so many turns left
abbrev pub turns : ℕ → Span → Does → Comp Flow → Comp Flow
turns zero span cond body = cond.value span >>= choose span (fail span) (pure Onward)
turns (suc left) span cond body = cond.value span >>= choose span (body >>= unless_returned (turns left span cond body)) (pure Onward)

abbrev pub return : Span → Option Does → Comp Flow
return span None = pure (Returns None)
return span (Some e) = e.value span >>= (λ v. pure (Returns (Some v)))

abbrev pub assert : Span → Does → Comp Flow
assert span e = e.value span >>= choose span (pure Onward) (fail span)

abbrev pub assume : Span → Does → Comp Flow
assume span e = e.value span >>= choose span (pure Onward) (skip span)

abbrev pub pay : Span → Value → Comp Flow
pay span (value.Int (pos n)) = λ s. Goes Onward (record s { cost = min (s.cost + n) (2 ^ 64 - 1) })
pay span _ = fail span

abbrev pub minimize : Span → Does → Comp Flow
minimize span e = e.value span >>= pay span

module _ (prog : Prog) (bounds : Bounds) (call : Calls) where
  abbrev pub meaning : PExpr → Does
  meaning = does prog bounds.int_bits call

  abbrev pub any_meaning : Option PExpr → Option Does
  any_meaning None = None
  any_meaning (Some e) = Some (meaning e)

  abbrev pub exec_form : S.PForm-F (Span → Comp Flow) (Comp Flow) → Span → Comp Flow
  exec_form (S.Block ms) span = one_by_one ms
  exec_form (S.Declare slot x t e) span = declare span slot t (any_meaning e)
  exec_form (S.Assign target e) span = assign span (meaning target) (meaning e)
  exec_form (S.Call e) span = drop_value span (meaning e)
  exec_form (S.If cond a b) span = branch span (meaning cond) a b
  exec_form (S.While cond body) span = turns bounds.unroll span (meaning cond) body
  exec_form (S.Return e) span = return span (any_meaning e)
  exec_form (S.Assert e) span = assert span (meaning e)
  exec_form (S.Assume e) span = assume span (meaning e)
  exec_form (S.Minimize e) span = minimize span (meaning e)
  exec_form (S.Repeat count copies) span = if is_hole count.form then fail span else one_by_one copies
  exec_form (S.MinRepeat copies) span = fail span
  exec_form (S.Reorder ms) span = if nat_le (length ms) 1 then one_by_one ms else fail span

  abbrev pub exec_stmt : PStmt → Comp Flow
  exec_stmt = fold-PStmt (Span → Comp Flow) (Comp Flow) exec_form (λ s. s.form s.span)

  abbrev pub exec_all : List PStmt → Comp Flow
  exec_all body = one_by_one (map exec_stmt body)
