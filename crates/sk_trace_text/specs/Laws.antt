-- What a reader expects of the answers to a line `trace`: of each expansion one thing holds, that a function is run step by
-- step, or one reason why none is.
use Rattle.std.specs.Prelude.{ℕ, ◌≡◌, ◌⊎◌, List, Option}
use Rattle.sk_base.specs.declared.bounds.Bounds.{Bounds}
use Rattle.sk_prog.specs.declared.prog.Prog.{Prog}
use Rattle.sk_model.specs.declared.expanded.Choice.{Choice}
use Rattle.sk_model.specs.declared.expanded.Expanded.{Expanded}
use Rattle.sk_model.specs.declared.outcome.Outcome.{Outcome}
use Rattle.sk_opts.specs.declared.line.Set.{Set}
use Rattle.sk_front.specs.declared.fault.SketchFault.{SketchFault}
use Rattle.sk_front.specs.Front.{IsFaultOfExpansion, IsCause}
use Rattle.sk_trace_text.specs.declared.fault.TraceFault.{TraceFault}
use Rattle.sk_trace_text.specs.Traced.{IsNamedTrace, IsTraceFault, IsNotTraced, IsTraceText}

-- No function is run for one reason at most.
abbrev pub OneFault : Type 0
OneFault = (bounds : Bounds) (prog : Prog) (e : Expanded) (c : Choice) (name : List ℕ) (words : List (List ℕ)) (a b : TraceFault) → IsTraceFault a bounds prog e c name words → IsTraceFault b bounds prog e c name words → a ≡ b

-- Where a function is run there is no reason that none is.
abbrev pub NoFaultOfTrace : Type 0
NoFaultOfTrace = (bounds : Bounds) (prog : Prog) (e : Expanded) (c : Choice) (name : List ℕ) (words : List (List ℕ)) (a : TraceFault) (outcome : Outcome) (out : List ℕ) → IsTraceFault a bounds prog e c name words → IsNamedTrace bounds prog e c name words outcome out → ⊥

-- A run has one end and one text.
abbrev pub OneTrace : Type 0
OneTrace = (bounds : Bounds) (prog : Prog) (e : Expanded) (c : Choice) (name : List ℕ) (words : List (List ℕ)) (o p : Outcome) (out other : List ℕ) → IsNamedTrace bounds prog e c name words o out → IsNamedTrace bounds prog e c name words p other → (o ≡ p) × (out ≡ other)

-- A function is run, or there is a reason that none is.
abbrev pub AnEnd : Type 0
AnEnd = (bounds : Bounds) (prog : Prog) (e : Expanded) (c : Choice) (name : List ℕ) (words : List (List ℕ)) → ((a : TraceFault) × IsTraceFault a bounds prog e c name words) ⊎ ((outcome : Outcome) × (out : List ℕ) × IsNamedTrace bounds prog e c name words outcome out)

-- The same of texts, with the options and the numbers of a line

abbrev pub OneFaultOfText : Type 0
OneFaultOfText = (set : Set) (holes : Option (List ℕ)) (name : List ℕ) (words : List (List ℕ)) (text : List ℕ) (a b : TraceFault) → IsNotTraced set holes name words text a → IsNotTraced set holes name words text b → a ≡ b

abbrev pub NoFaultOfTextTrace : Type 0
NoFaultOfTextTrace = (set : Set) (holes : Option (List ℕ)) (name : List ℕ) (words : List (List ℕ)) (text : List ℕ) (a : TraceFault) (outcome : Outcome) (out : List ℕ) → IsNotTraced set holes name words text a → IsTraceText set holes name words text outcome out → ⊥

abbrev pub OneTextTrace : Type 0
OneTextTrace = (set : Set) (holes : Option (List ℕ)) (name : List ℕ) (words : List (List ℕ)) (text : List ℕ) (o p : Outcome) (out other : List ℕ) → IsTraceText set holes name words text o out → IsTraceText set holes name words text p other → (o ≡ p) × (out ≡ other)

-- Neither holds of a text that has no expansion within the limits.

abbrev pub NoCauseOfTrace : Type 0
NoCauseOfTrace = (set : Set) (holes : Option (List ℕ)) (name : List ℕ) (words : List (List ℕ)) (text : List ℕ) (outcome : Outcome) (out : List ℕ) (told : SketchFault) → IsTraceText set holes name words text outcome out → IsCause (IsFaultOfExpansion set text) told → ⊥

abbrev pub NoCauseOfFault : Type 0
NoCauseOfFault = (set : Set) (holes : Option (List ℕ)) (name : List ℕ) (words : List (List ℕ)) (text : List ℕ) (a : TraceFault) (told : SketchFault) → IsNotTraced set holes name words text a → IsCause (IsFaultOfExpansion set text) told → ⊥
