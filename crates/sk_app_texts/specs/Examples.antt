-- Texts of runs, summaries, verdicts and refusals.
use Rattle.std.specs.Prelude.{◌≡◌, ℕ, pos, ◌-ℤ◌, true, false, List, [], ◌∷◌, Some, None, codes}
use Rattle.sk_base.specs.declared.span.Span.{Span}
use Rattle.sk_prog.specs.declared.ty.Elem.TheVariants as elem
use Rattle.sk_prog.specs.declared.ty.Ty.{Ty}
use Rattle.sk_prog.specs.declared.ty.Ty.TheVariants as ty
use Rattle.sk_prog.specs.declared.value.Value.{Value}
use Rattle.sk_prog.specs.declared.value.Value.TheVariants as value
use Rattle.sk_prog.specs.declared.prog.FunKind.TheVariants as kind
use Rattle.sk_prog.specs.declared.prog.ParamDef.{ParamDef}
use Rattle.sk_prog.specs.declared.prog.Fun.{Fun}
use Rattle.sk_model.specs.declared.outcome.Outcome.TheVariants as outcome
use Rattle.sk_app_texts.specs.RunTexts.{run_text}
use Rattle.sk_app_texts.specs.SelfTexts.{self_sketch, summary_of}
use Rattle.sk_app_texts.specs.CheckTexts.{Inputs, rejected_text}
use Rattle.sk_app_texts.specs.Messages.{OpenComment, LiteralRange, Steps, Unfilled, Version, NotText, NotTyped, TooLarge, NotRun, NotCertificate, refusal_message}

-- Runs

abbrev pub int : Ty
int = ty.One elem.Int

abbrev pub number : ℕ → Value
number n = value.Int (pos n)

abbrev pub span : ℕ → ℕ → Span
span from to = record { from = from; to = to }

-- a function with these parameters, of which its run alone is written
abbrev pub function : List ParamDef → Fun
function params = record { name = codes "f"; kind = kind.Plain; result = None; params = params; slots = 3; implements = None; body = [] }

abbrev pub plain : List ℕ → ParamDef
plain name = record { name = name; ty = int; by_ref = false }

abbrev pub by_ref : List ℕ → ParamDef
by_ref name = record { name = name; ty = int; by_ref = true }

abbrev pub one_value : Fun
one_value = function (plain (codes "x") ∷ [])

-- the least number of 16 bits
abbrev pub ResultOfInt : Type 0
ResultOfInt = run_text one_value (outcome.Done (Some (value.Int (pos 0 -ℤ pos 32768))) [] 0) ≡ codes "result -32768\ncost 0\n"

-- two rows of two scalars
abbrev pub ResultOfGrid : Type 0
ResultOfGrid = run_text one_value (outcome.Done (Some (value.Array (value.Array (number 3 ∷ number 4 ∷ []) ∷ value.Array (number 5 ∷ number 6 ∷ []) ∷ []))) [] 7) ≡ codes "result 3,4,5,6\ncost 7\n"

-- no result, and the `ref` parameters in order, past one by value
abbrev pub ResultByRef : Type 0
ResultByRef =
    run_text (function (by_ref (codes "x") ∷ plain (codes "y") ∷ by_ref (codes "z") ∷ [])) (outcome.Done None (number 2 ∷ value.Bit true ∷ []) 2)
    ≡ codes "result -\nref x 2\nref z 1\ncost 2\n"

abbrev pub FailedRun : Type 0
FailedRun = run_text one_value (outcome.Failed (span 25 37)) ≡ codes "failed 25 37\n"

abbrev pub SkippedRun : Type 0
SkippedRun = run_text one_value (outcome.Skipped (span 15 28)) ≡ codes "skipped 15 28\n"

-- The built-in sketch

-- of the harness `h1` the factor is 4 * 10, and the number added is 16
abbrev pub SelfSketch : Type 0
SelfSketch =
    self_sketch 1 ≡ codes "harness void h0(int x) {\n    int s = 0;\n    int i = 0;\n    while (i < 4) {\n        s = s + x * ??;\n        i = i + 1;\n    }\n    assert s + ?? == x * 12 + 5;\n}\nharness void h1(int x) {\n    int s = 0;\n    int i = 0;\n    while (i < 4) {\n        s = s + x * ??;\n        i = i + 1;\n    }\n    assert s + ?? == x * 40 + 16;\n}\nharness void least(int x) {\n    int n = ??;\n    assert n * 2 >= 1;\n    minimize(n);\n}\n"

abbrev pub SelfSummary : Type 0
SelfSummary = summary_of 7 9 17 1187 4 ≡ codes "self 7\nfunctions 9\nsites 17\nsteps 1187\nvalue 4\nstatus 0\n"

-- Verdicts

abbrev pub RejectedByInputs : Type 0
RejectedByInputs = rejected_text Inputs ≡ codes "rejected 2\n"

-- Refusals

abbrev pub MessageOfText : Type 0
MessageOfText = refusal_message (NotText OpenComment 11) ≡ codes "text OpenComment 11"

abbrev pub MessageOfType : Type 0
MessageOfType = refusal_message (NotTyped LiteralRange (span 20 26)) ≡ codes "type 7 20 26"

abbrev pub MessageOfSize : Type 0
MessageOfSize = refusal_message (TooLarge Steps) ≡ codes "size Steps 262144"

abbrev pub MessageOfExec : Type 0
MessageOfExec = refusal_message (NotRun Unfilled) ≡ codes "exec Unfilled"

abbrev pub MessageOfCertificate : Type 0
MessageOfCertificate = refusal_message (NotCertificate Version 20) ≡ codes "certificate Version 20"
