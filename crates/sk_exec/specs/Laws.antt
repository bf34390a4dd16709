-- What a reader expects of the answers to a line `exec`: of each expansion one thing holds, that a function is run, or one
-- reason why none is.
use Rattle.std.specs.Prelude.{ℕ, ◌≡◌, ◌⊎◌, List}
use Rattle.sk_base.specs.declared.bounds.Bounds.{Bounds}
use Rattle.sk_prog.specs.declared.prog.Prog.{Prog}
use Rattle.sk_model.specs.declared.expanded.Expanded.{Expanded}
use Rattle.sk_model.specs.declared.outcome.Outcome.{Outcome}
use Rattle.sk_opts.specs.declared.line.Set.{Set}
use Rattle.sk_front.specs.declared.fault.SketchFault.{SketchFault}
use Rattle.sk_front.specs.Front.{IsFaultOfExpansion, IsCause}
use Rattle.sk_exec.specs.declared.fault.ExecFault.{ExecFault}
use Rattle.sk_exec.specs.Direct.{IsNamedRun, IsExecFault, IsNotRun, IsRunText}

-- No function is run for one reason at most.
abbrev pub OneFault : Type 0
OneFault = (bounds : Bounds) (prog : Prog) (e : Expanded) (name : List ℕ) (words : List (List ℕ)) (a b : ExecFault) → IsExecFault a bounds prog e name words → IsExecFault b bounds prog e name words → a ≡ b

-- Where a function is run there is no reason that none is.
abbrev pub NoFaultOfRuns : Type 0
NoFaultOfRuns = (bounds : Bounds) (prog : Prog) (e : Expanded) (name : List ℕ) (words : List (List ℕ)) (a : ExecFault) (outcome : Outcome) (out : List ℕ) → IsExecFault a bounds prog e name words → IsNamedRun bounds prog e name words outcome out → ⊥

-- A run has one end and one text.
abbrev pub OneRun : Type 0
OneRun = (bounds : Bounds) (prog : Prog) (e : Expanded) (name : List ℕ) (words : List (List ℕ)) (o p : Outcome) (out other : List ℕ) → IsNamedRun bounds prog e name words o out → IsNamedRun bounds prog e name words p other → (o ≡ p) × (out ≡ other)

-- A function is run, or there is a reason that none is.
abbrev pub AnEnd : Type 0
AnEnd = (bounds : Bounds) (prog : Prog) (e : Expanded) (name : List ℕ) (words : List (List ℕ)) → ((a : ExecFault) × IsExecFault a bounds prog e name words) ⊎ ((outcome : Outcome) × (out : List ℕ) × IsNamedRun bounds prog e name words outcome out)

-- The same of texts, with the options of a line

abbrev pub OneFaultOfText : Type 0
OneFaultOfText = (set : Set) (name : List ℕ) (words : List (List ℕ)) (text : List ℕ) (a b : ExecFault) → IsNotRun set name words text a → IsNotRun set name words text b → a ≡ b

abbrev pub NoFaultOfTextRun : Type 0
NoFaultOfTextRun = (set : Set) (name : List ℕ) (words : List (List ℕ)) (text : List ℕ) (a : ExecFault) (outcome : Outcome) (out : List ℕ) → IsNotRun set name words text a → IsRunText set name words text outcome out → ⊥

abbrev pub OneTextRun : Type 0
OneTextRun = (set : Set) (name : List ℕ) (words : List (List ℕ)) (text : List ℕ) (o p : Outcome) (out other : List ℕ) → IsRunText set name words text o out → IsRunText set name words text p other → (o ≡ p) × (out ≡ other)

-- Neither holds of a text that has no expansion within the limits.

abbrev pub NoCauseOfRun : Type 0
NoCauseOfRun = (set : Set) (name : List ℕ) (words : List (List ℕ)) (text : List ℕ) (outcome : Outcome) (out : List ℕ) (told : SketchFault) → IsRunText set name words text outcome out → IsCause (IsFaultOfExpansion set text) told → ⊥

abbrev pub NoCauseOfFault : Type 0
NoCauseOfFault = (set : Set) (name : List ℕ) (words : List (List ℕ)) (text : List ℕ) (a : ExecFault) (told : SketchFault) → IsNotRun set name words text a → IsCause (IsFaultOfExpansion set text) told → ⊥
