-- What a function pays before its body does anything.
use Rattle.std.specs.Prelude.{◌≡◌, ℕ, pos, List, [], map}
use Rattle.sk_base.specs.Word.{wrapped}
use Rattle.sk_dag.specs.declared.env.Env.{Env}
use Rattle.sk_dag.specs.Graph.{Graph}
use Rattle.sk_prog.specs.declared.prog.FunKind.{FunKind}
use Rattle.sk_prog.specs.declared.prog.FunKind.TheVariants as kind
use Rattle.sk_prog.specs.declared.value.Value.TheVariants as value
use Rattle.sk_model.specs.Step.{Comp}
use Rattle.sk_model.specs.Exec.{Flow, one_by_one, pay}
use Rattle.sk_model.specs.Stands.{standing, all_paid}
use Rattle.sk_model.specs.Stands.{Payment as Amount}
use Rattle.sk_sym_choices.specs.declared.payment.Payment.{Payment}
use Rattle.sk_sym_choices.specs.Payments.{amounts}
use Rattle.sk_sym_state.specs.declared.setting.Setting.{Setting}
use Rattle.sk_sym_state.specs.Meaning.{choice_at}

-- pays these amounts, one after another, each as a word of so many bits
abbrev pub pays : ℕ → List Amount → Comp Flow
pays width paid = one_by_one (map (λ a. pay a.span (value.Int (wrapped width (pos a.amount)))) paid)

-- in the environment these are the amounts of the payments
abbrev pub AreAmounts : Setting → List Payment → Graph → Env → List Amount → Type 0
AreAmounts x payments g e paid = paid ≡ amounts g e (choice_at x e).values payments

-- what the minrepeats of the program pay in an environment
abbrev pub program_pays : Setting → Env → List Amount
program_pays x e = all_paid (standing x.expanded.now (choice_at x e).values)

-- of what a program pays, what a function of this kind does
abbrev pub first_paid : FunKind → List Amount → List Amount
first_paid kind.Harness paid = paid
first_paid kind.Plain paid = []
first_paid kind.Generator paid = []
