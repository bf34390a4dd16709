-- What a statement does, with the steps that it tells. A declaration with a value and an assignment tell the value that they stored. The
-- condition of an `if`, each condition of a `while`, an `assert` and an `assume` tell what they found, also where the statement then fails
-- or skips. `minimize` tells its number, also a negative one, by which it fails. A `return` and a call that stands as a statement tell
-- that they go. All of it is told when the expressions of the statement are evaluated, so the steps of calls in them stand before it, and a
-- statement that fails in one of them, or whose store fails, tells nothing. Blocks and declarations without a value tell nothing. A step has the span of
-- its statement.
use Rattle.std.specs.Prelude.{ℕ, zero, suc, Bool, nat_le, if◌then◌else◌, List, [], ◌∷◌, map, length, Option, Some, None}
use Rattle.sk_base.specs.declared.span.Span.{Span}
use Rattle.sk_base.specs.declared.bounds.Bounds.{Bounds}
use Rattle.sk_prog.specs.declared.ty.Ty.{Ty}
use Rattle.sk_prog.specs.declared.value.Value.{Value}
use Rattle.sk_prog.specs.declared.value.Value.TheVariants as value
use Rattle.sk_prog.specs.declared.expr.PExpr.{PExpr}
use Rattle.sk_prog.specs.declared.stmt.PStmt.{PStmt}
use Rattle.sk_prog.specs.declared.stmt.PForm.TheOpen as S
use Rattle.sk_prog.specs.declared.stmt.PForm.TheFolds.{fold-PStmt}
use Rattle.sk_prog.specs.declared.prog.Prog.{Prog}
use Rattle.sk_model.specs.Step.{Comp}
use Rattle.sk_model.specs.Sites.{is_hole}
use Rattle.sk_model.specs.Values.{zero_of}
use Rattle.sk_model.specs.Heap.{write, store}
use Rattle.sk_model.specs.Exec.{Flow, Onward, Returns}
use Rattle.sk_model.specs.Exec as plain
use Rattle.sk_interp_laws.specs.declared.step.Step.{Step}
use Rattle.sk_interp_laws.specs.declared.step.What.{What}
use Rattle.sk_interp_laws.specs.declared.step.What.TheVariants as what
use Rattle.sk_interp_laws.specs.Recording.{Traced, ◌>>=◌, pure, fail, skip, lift, tell}
use Rattle.sk_interp_laws.specs.Eval.{Calls, Does, does}

module _ {L : Type 0} where
  abbrev pub unless_returned : Traced L Flow → Flow → Traced L Flow
  unless_returned m Onward = m
  unless_returned m (Returns v) = pure (Returns v)

  -- one after another, until one returns
  abbrev pub one_by_one : List (Traced L Flow) → Traced L Flow
  one_by_one [] = pure Onward
  one_by_one (m ∷ ms) = m >>= unless_returned (one_by_one ms)

-- Logs take in a step so, and so many calls are active.
module _ {L : Type 0} (take : L → Step → L) (active : ℕ) where
  abbrev pub told : Span → What → Traced L (Unit {0})
  told span it = tell take (record { span = span; active = active; what = it })

  -- a condition, which is told
  abbrev pub truth : Span → Value → Traced L Bool
  truth span (value.Bit b) = told span (what.Truth b) >>= (λ u. pure b)
  truth span _ = fail span

  abbrev pub holds : Span → Does L → Traced L Bool
  holds span e = e.value span >>= truth span

  -- a value that is stored so, and told
  abbrev pub stored : Span → Comp (Unit {0}) → Value → Traced L Flow
  stored span put v = lift put >>= (λ u. told span (what.Store v) >>= (λ w. pure Onward))

  -- it goes so, and that is told
  abbrev pub going : Span → Flow → Traced L Flow
  going span flow = told span what.Go >>= (λ u. pure flow)

  abbrev pub declare : Span → ℕ → Ty → Option (Does L) → Traced L Flow
  declare span slot t None = lift (plain.onward (write slot (zero_of t)))
  declare span slot t (Some e) = e.value span >>= (λ v. stored span (write slot v) v)

  abbrev pub assign : Span → Does L → Does L → Traced L Flow
  assign span target e = target.target span >>= (λ location. e.value span >>= (λ v. stored span (store span location v) v))

  abbrev pub drop_value : Span → Does L → Traced L Flow
  drop_value span e = e.value span >>= (λ v. going span Onward)

  abbrev pub branch : Span → Does L → Traced L Flow → Option (Traced L Flow) → Traced L Flow
  branch span cond a None = holds span cond >>= (λ t. if t then a else pure Onward)
  branch span cond a (Some b) = holds span cond >>= (λ t. if t then a else b)

  -- a loop that has so many turns left
  abbrev pub turns : ℕ → Span → Does L → Traced L Flow → Traced L Flow
  turns zero span cond body = holds span cond >>= (λ t. if t then fail span else pure Onward)
  turns (suc left) span cond body = holds span cond >>= (λ t. if t then body >>= unless_returned (turns left span cond body) else pure Onward)

  abbrev pub return : Span → Option (Does L) → Traced L Flow
  return span None = going span (Returns None)
  return span (Some e) = e.value span >>= (λ v. going span (Returns (Some v)))

  abbrev pub assert : Span → Does L → Traced L Flow
  assert span e = holds span e >>= (λ t. if t then pure Onward else fail span)

  abbrev pub assume : Span → Does L → Traced L Flow
  assume span e = holds span e >>= (λ t. if t then pure Onward else skip span)

  abbrev pub pay : Span → Value → Traced L Flow
  pay span (value.Int n) = told span (what.Cost n) >>= (λ u. lift (plain.pay span (value.Int n)))
  pay span _ = fail span

  abbrev pub minimize : Span → Does L → Traced L Flow
  minimize span e = e.value span >>= pay span

  module _ (prog : Prog) (bounds : Bounds) (call : Calls L) where
    abbrev pub meaning : PExpr → Does L
    meaning = does prog bounds.int_bits call

    abbrev pub any_meaning : Option PExpr → Option (Does L)
    any_meaning None = None
    any_meaning (Some e) = Some (meaning e)

    abbrev pub exec_form : S.PForm-F (Span → Traced L Flow) (Traced L Flow) → Span → Traced L Flow
    exec_form (S.Block ms) span = one_by_one ms
    exec_form (S.Declare slot x t e) span = declare span slot t (any_meaning e)
    exec_form (S.Assign target e) span = assign span (meaning target) (meaning e)
    exec_form (S.Call e) span = drop_value span (meaning e)
    exec_form (S.If cond a b) span = branch span (meaning cond) a b
    exec_form (S.While cond body) span = turns bounds.unroll span (meaning cond) body
    exec_form (S.Return e) span = return span (any_meaning e)
    exec_form (S.Assert e) span = assert span (meaning e)
    exec_form (S.Assume e) span = assume span (meaning e)
    exec_form (S.Minimize e) span = minimize span (meaning e)
    exec_form (S.Repeat count copies) span = if is_hole count.form then fail span else one_by_one copies
    exec_form (S.MinRepeat copies) span = fail span
    exec_form (S.Reorder ms) span = if nat_le (length ms) 1 then one_by_one ms else fail span

    abbrev pub exec_stmt : PStmt → Traced L Flow
    exec_stmt = fold-PStmt (Span → Traced L Flow) (Traced L Flow) exec_form (λ s. s.form s.span)

    abbrev pub exec_all : List PStmt → Traced L Flow
    exec_all body = one_by_one (map exec_stmt body)
