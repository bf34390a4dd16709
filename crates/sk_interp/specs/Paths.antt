-- Reading a part of an array in place: without a copy of the array.
--
-- An expression is steady where it leaves memory and log as they are, and fails, if it does, with the span of the statement that it
-- stands in. A variable, a field of what an expression stands for, and an element by a steady index of such a thing, are
-- paths: what a path gives is what stands where it names a location as a target.
use Rattle.std.specs.Prelude.{◌≡◌, Bool, true, false, ℤ, List, [], ◌∷◌, Option, Some, option_and_then}
use Rattle.sk_base.specs.declared.span.Span.{Span}
use Rattle.sk_prog.specs.declared.value.Value.{Value}
use Rattle.sk_prog.specs.declared.expr.BinOp.{BinOp}
use Rattle.sk_prog.specs.declared.expr.BinOp.TheVariants as op
use Rattle.sk_model.specs.Step.{Comp}
use Rattle.sk_model.specs.Step as step
use Rattle.sk_model.specs.Values.{element}
use Rattle.sk_model.specs.Heap.{Location, read_root}
use Rattle.sk_model.specs.Eval.{or_fail}
use Rattle.sk_interp_laws.specs.declared.log.Log.{Log}
use Rattle.sk_interp_laws.specs.Recording.{Recorded, Going, Goes, Fails, Skips, ◌>>=◌, lift}
use Rattle.sk_interp_laws.specs.Eval.{Does}

-- the part of a value that these indexes name from the outside in; none where an index is outside of its array
abbrev pub part : List ℤ → Value → Option Value
part [] v = Some v
part (i ∷ is) v = option_and_then (part is) (element v i)

-- what stands at a location; it fails where the reference is null, and where an index is outside of its array
abbrev pub load : Span → Location → Comp Value
load span location = λ s. step.and_then (read_root span location.root s) (λ whole. or_fail span (part location.indexes whole))

-- the step leaves this memory and log, or fails with this span and log
abbrev pub Keeps : {A : Type 0} → Span → Recorded Log → Going Log A → Type 0
Keeps span r (Goes a t) = t ≡ r
Keeps span r (Fails at log) = (at ≡ span) × (log ≡ r.log)
Keeps span r (Skips at log) = ⊥

abbrev pub IsSteady : Does Log → Type 0
IsSteady d = (span : Span) (r : Recorded Log) → Keeps span r (d.value span r)

abbrev pub IsPath : Does Log → Type 0
IsPath d = (span : Span) (r : Recorded Log) → d.value span r ≡ (d.target span >>= (λ l. lift (load span l))) r

-- the operators of arithmetic
abbrev pub is_arithmetic : BinOp → Bool
is_arithmetic op.Mul = true
is_arithmetic op.Div = true
is_arithmetic op.Rem = true
is_arithmetic op.Add = true
is_arithmetic op.Sub = true
is_arithmetic _ = false
