-- Of each text with a line `trace` one thing holds: a function is run step by step, or one reason why none is, or one cause
-- why the text has no expansion.
use Rattle.std.proofs.Common.{◌≡◌, ℕ, List, Option}
use Rattle.sk_model.specs.declared.expanded.Expanded.{Expanded}
use Rattle.sk_model.specs.declared.outcome.Outcome.{Outcome}
use Rattle.sk_opts.specs.declared.line.Set.{Set}
use Rattle.sk_front.specs.declared.expansion.Expansion.{Expansion}
use Rattle.sk_front.specs.Front.{Expands}
use Rattle.sk_front.proofs.FrontLaws.{expansion_or_cause}
use Rattle.sk_exec.proofs.TextLaws.{moved}
use Rattle.sk_trace_text.specs.declared.fault.TraceFault.{TraceFault}
use Rattle.sk_trace_text.specs.declared.tracing.Traced.{Traced}
use Rattle.sk_trace_text.specs.declared.tracing.Traced.TheVariants as traced
use Rattle.sk_trace_text.specs.Traced.{choice_of, IsTraceFault, IsNamedTrace, IsNotTraced, IsTraceText, IsTraced, IsAnswer, IsRefusedAs, IsRunAs}
use Rattle.sk_trace_text.specs.Laws.{OneFaultOfText, NoFaultOfTextTrace, OneTextTrace, NoCauseOfTrace, NoCauseOfFault}
use Rattle.sk_trace_text.proofs.Ends.{one_fault, no_fault_of_trace, one_trace}

pub one_fault_of_text : OneFaultOfText
one_fault_of_text set holes name words text a b x y =
    one_fault y.bounds y.prog y.e (choice_of holes) name words a b
    (moved set text x.tree y.tree x.bounds y.bounds x.prog y.prog x.e y.e x.expanded y.expanded (λ bounds prog e. IsTraceFault a bounds prog e (choice_of holes) name words) x.cause) y.cause

pub no_fault_of_text_trace : NoFaultOfTextTrace
no_fault_of_text_trace set holes name words text a outcome out x y =
    no_fault_of_trace y.bounds y.prog y.e (choice_of holes) name words a outcome out
    (moved set text x.tree y.tree x.bounds y.bounds x.prog y.prog x.e y.e x.expanded y.expanded (λ bounds prog e. IsTraceFault a bounds prog e (choice_of holes) name words) x.cause) y.named_trace

pub one_text_trace : OneTextTrace
one_text_trace set holes name words text o p out other x y =
    one_trace y.bounds y.prog y.e (choice_of holes) name words o p out other
    (moved set text x.tree y.tree x.bounds y.bounds x.prog y.prog x.e y.e x.expanded y.expanded (λ bounds prog e. IsNamedTrace bounds prog e (choice_of holes) name words o out) x.named_trace)
    y.named_trace

pub no_cause_of_trace : NoCauseOfTrace
no_cause_of_trace set holes name words text outcome out told x y = expansion_or_cause set text x.tree x.bounds x.prog x.e told x.expanded y

pub no_cause_of_fault : NoCauseOfFault
no_cause_of_fault set holes name words text a told x y = expansion_or_cause set text x.tree x.bounds x.prog x.e told x.expanded y

-- Answers

module _ (set : Set) (holes : Option (List ℕ)) (name : List ℕ) (words : List (List ℕ)) (text : List ℕ) where
  pub traced_of : (it : Expansion) (x : Traced) → Expands set text it → IsAnswer it.bounds it.prog it.expanded (choice_of holes) name words x → IsTraced set holes name words text x
  traced_of it (traced.NotTraced reason) m is = record { tree = it.tree; bounds = it.bounds; prog = it.prog; e = it.expanded; expanded = m.expanded_to; cause = is }
  traced_of it (traced.Run outcome out) m is = record { tree = it.tree; bounds = it.bounds; prog = it.prog; e = it.expanded; expanded = m.expanded_to; named_trace = is }

  refused_as : (x : Traced) → IsTraced set holes name words text x → (reason : TraceFault) → IsNotTraced set holes name words text reason → IsRefusedAs reason x
  refused_as (traced.NotTraced told) is reason w = one_fault_of_text set holes name words text told reason is w
  refused_as (traced.Run outcome out) is reason w = no_fault_of_text_trace set holes name words text reason outcome out.items w is

  run_as : (x : Traced) → IsTraced set holes name words text x → (outcome : Outcome) (out : List ℕ) → IsTraceText set holes name words text outcome out → IsRunAs outcome out x
  run_as (traced.NotTraced told) is outcome out w = no_fault_of_text_trace set holes name words text told outcome out is w
  run_as (traced.Run ended written) is outcome out w = one_text_trace set holes name words text ended outcome written.items out is w

  pub refused_answer : (it : Expansion) (x : Traced) → Expands set text it → IsAnswer it.bounds it.prog it.expanded (choice_of holes) name words x → (reason : TraceFault) → IsNotTraced set holes name words text reason → IsRefusedAs reason x
  refused_answer it x m is = refused_as x (traced_of it x m is)

  pub run_answer : (it : Expansion) (x : Traced) → Expands set text it → IsAnswer it.bounds it.prog it.expanded (choice_of holes) name words x → (outcome : Outcome) (out : List ℕ) → IsTraceText set holes name words text outcome out → IsRunAs outcome out x
  run_answer it x m is = run_as x (traced_of it x m is)
