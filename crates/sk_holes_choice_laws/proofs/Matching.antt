-- When parts of a program under a choice do what those of its filling do.
use Rattle.std.specs.Prelude.{◌≡◌, ℕ, Bool, IsTrue, List, slice_get}
use Rattle.sk_base.specs.declared.span.Span.{Span}
use Rattle.sk_prog.specs.declared.value.Value.{Value}
use Rattle.sk_prog.specs.declared.prog.Prog.{Prog}
use Rattle.sk_model.specs.Step.{State}
use Rattle.sk_model.specs.Eval.{Calls, params_of}

-- Two programs have the same structs and constants; and each function that stands has in the second, under its new number,
-- the same parameters, and a call of it does the same.
pub record Matches (prog again : Prog) (call call' : Calls) (stands : ℕ → Bool) (number : ℕ → ℕ) : Type 0 where
  pub structs : prog.structs ≡ again.structs
  pub consts : prog.consts ≡ again.consts
  pub params : (f : ℕ) → IsTrue (stands f) → params_of (slice_get prog.funs f) ≡ params_of (slice_get again.funs (number f))
  pub calls : (span : Span) (f : ℕ) (args : List Value) (s : State) → IsTrue (stands f) → call span f args s ≡ call' span (number f) args s
