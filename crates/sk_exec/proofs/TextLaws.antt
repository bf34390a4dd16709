-- Of each text with a line `exec` one thing holds: a function is run, or one reason why none is, or one cause why the text
-- has no expansion.
use Rattle.std.proofs.Common.{◌≡◌, ℕ, List, sym, ap, subst, ◌∙◌}
use Rattle.sk_base.specs.declared.bounds.Bounds.{Bounds}
use Rattle.sk_tree.specs.declared.item.Tree.{Tree}
use Rattle.sk_prog.specs.declared.prog.Prog.{Prog}
use Rattle.sk_model.specs.declared.expanded.Expanded.{Expanded}
use Rattle.sk_model.specs.declared.outcome.Outcome.{Outcome}
use Rattle.sk_model.specs.Expand.{expand}
use Rattle.sk_opts.specs.declared.line.Set.{Set}
use Rattle.sk_front.specs.declared.expansion.Expansion.{Expansion}
use Rattle.sk_front.specs.Front.{IsExpandedTo, Expands}
use Rattle.sk_front.proofs.FrontLaws.{one_program, one_expansion, expansion_or_cause}
use Rattle.sk_exec.specs.declared.fault.ExecFault.{ExecFault}
use Rattle.sk_exec.specs.declared.executing.Executed.{Executed}
use Rattle.sk_exec.specs.declared.executing.Executed.TheVariants as executed
use Rattle.sk_exec.specs.Direct.{IsExecFault, IsNamedRun, IsNotRun, IsRunText, IsExecuted, IsAnswer, IsRefusedAs, IsRunAs}
use Rattle.sk_exec.specs.Laws.{OneFaultOfText, NoFaultOfTextRun, OneTextRun, NoCauseOfRun, NoCauseOfFault}
use Rattle.sk_exec.proofs.Ends.{one_fault, no_fault_of_run, one_run}

module _ (set : Set) (text : List ℕ) (t u : Tree) (b c : Bounds) (p q : Prog) (d e : Expanded) (x : IsExpandedTo set text t b p d) (y : IsExpandedTo set text u c q e) where
  -- what holds of one expansion of the text holds of each other
  pub moved : (P : Bounds → Prog → Expanded → Type 0) → P b p d → P c q e
  moved P h =
      let same = one_program set text t u b c p q x.typed y.typed in
      let once : d ≡ e = x.is ∙ one_expansion set text t u b c p q x.typed y.typed ∙ sym y.is in
      subst (λ z. P c q z) once (subst (λ z. P c z d) same.2 (subst (λ z. P z p d) same.1 h))

pub one_fault_of_text : OneFaultOfText
one_fault_of_text set name words text a b x y =
    one_fault y.bounds y.prog y.e name words a b
    (moved set text x.tree y.tree x.bounds y.bounds x.prog y.prog x.e y.e x.expanded y.expanded (λ bounds prog e. IsExecFault a bounds prog e name words) x.cause) y.cause

pub no_fault_of_text_run : NoFaultOfTextRun
no_fault_of_text_run set name words text a outcome out x y =
    no_fault_of_run y.bounds y.prog y.e name words a outcome out
    (moved set text x.tree y.tree x.bounds y.bounds x.prog y.prog x.e y.e x.expanded y.expanded (λ bounds prog e. IsExecFault a bounds prog e name words) x.cause) y.named_run

pub one_text_run : OneTextRun
one_text_run set name words text o p out other x y =
    one_run y.bounds y.prog y.e name words o p out other
    (moved set text x.tree y.tree x.bounds y.bounds x.prog y.prog x.e y.e x.expanded y.expanded (λ bounds prog e. IsNamedRun bounds prog e name words o out) x.named_run) y.named_run

pub no_cause_of_run : NoCauseOfRun
no_cause_of_run set name words text outcome out told x y = expansion_or_cause set text x.tree x.bounds x.prog x.e told x.expanded y

pub no_cause_of_fault : NoCauseOfFault
no_cause_of_fault set name words text a told x y = expansion_or_cause set text x.tree x.bounds x.prog x.e told x.expanded y

-- Answers

module _ (set : Set) (name : List ℕ) (words : List (List ℕ)) (text : List ℕ) where
  executed_of : (it : Expansion) (x : Executed) → Expands set text it → IsAnswer it.bounds it.prog it.expanded name words x → IsExecuted set name words text x
  executed_of it (executed.NotRun reason) m is = record { tree = it.tree; bounds = it.bounds; prog = it.prog; e = it.expanded; expanded = m.expanded_to; cause = is }
  executed_of it (executed.Run outcome out) m is = record { tree = it.tree; bounds = it.bounds; prog = it.prog; e = it.expanded; expanded = m.expanded_to; named_run = is }

  refused_as : (x : Executed) → IsExecuted set name words text x → (reason : ExecFault) → IsNotRun set name words text reason → IsRefusedAs reason x
  refused_as (executed.NotRun told) is reason w = one_fault_of_text set name words text told reason is w
  refused_as (executed.Run outcome out) is reason w = no_fault_of_text_run set name words text reason outcome out.items w is

  run_as : (x : Executed) → IsExecuted set name words text x → (outcome : Outcome) (out : List ℕ) → IsRunText set name words text outcome out → IsRunAs outcome out x
  run_as (executed.NotRun told) is outcome out w = no_fault_of_text_run set name words text told outcome out is w
  run_as (executed.Run ended written) is outcome out w = one_text_run set name words text ended outcome written.items out is w

  pub refused_answer : (it : Expansion) (x : Executed) → Expands set text it → IsAnswer it.bounds it.prog it.expanded name words x → (reason : ExecFault) → IsNotRun set name words text reason → IsRefusedAs reason x
  refused_answer it x m is = refused_as x (executed_of it x m is)

  pub run_answer : (it : Expansion) (x : Executed) → Expands set text it → IsAnswer it.bounds it.prog it.expanded name words x → (outcome : Outcome) (out : List ℕ) → IsRunText set name words text outcome out → IsRunAs outcome out x
  run_answer it x m is = run_as x (executed_of it x m is)
