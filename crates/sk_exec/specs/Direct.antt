-- What a line `exec` does for a text: which function it runs on which values, or why it runs none.
use Rattle.std.specs.Prelude.{ℕ, ◌+◌, ◌≡◌, Bool, false, List, [], ◌∷◌, Option, Some, None, Ok, Err, if◌then◌else◌, slice_get}
use Rattle.std.specs.Str.{bytes_eq}
use Rattle.sk_base.specs.declared.bounds.Bounds.{Bounds}
use Rattle.sk_tree.specs.declared.item.Tree.{Tree}
use Rattle.sk_prog.specs.declared.ids.FunId.{FunId}
use Rattle.sk_prog.specs.declared.value.Value.{Value}
use Rattle.sk_prog.specs.declared.prog.Fun.{Fun}
use Rattle.sk_prog.specs.declared.prog.Prog.{Prog}
use Rattle.sk_model.specs.declared.expanded.Expanded.{Expanded}
use Rattle.sk_model.specs.declared.outcome.Outcome.{Outcome}
use Rattle.sk_model.specs.Parts.{rank}
use Rattle.sk_model.specs.Expand.{are_ordinary, is_generator}
use Rattle.sk_model.specs.Run.{run}
use Rattle.sk_opts.specs.declared.line.Set.{Set}
use Rattle.sk_app_texts.specs.RunTexts.{run_text}
use Rattle.sk_exec_values.specs.Arguments.{arguments}
use Rattle.sk_exec_values.specs.declared.fault.ArgumentFault.{ArgumentFault}
use Rattle.sk_exec_values.specs.declared.fault.ArgumentFault.TheVariants as argument
use Rattle.sk_front.specs.Front.{IsExpandedTo}
use Rattle.sk_exec.specs.declared.names.Callee.{Callee}
use Rattle.sk_exec.specs.declared.fault.ExecFault.{ExecFault}
use Rattle.sk_exec.specs.declared.fault.ExecFault.TheVariants as fault
use Rattle.sk_exec.specs.declared.executing.Executed.{Executed}
use Rattle.sk_exec.specs.declared.executing.Executed.TheVariants as executed

-- The function

-- a function with its number
pub record Numbered : Type 0 where
  pub number : ℕ
  pub fun : Fun

-- the first function of this name, counted from this number on
abbrev pub named_from : ℕ → List ℕ → List Fun → Option Numbered
named_from i name [] = None
named_from i name (f ∷ fs) = if bytes_eq f.name name then Some (record { number = i; fun = f }) else named_from (i + 1) name fs

-- the function of this name that the text declares
abbrev pub named : List ℕ → List Fun → Option Numbered
named name funs = named_from 0 name funs

-- This function of the program has the name. In the expansion it has this number: its rank among those of the text that
-- are no generators.
pub record IsCallee (prog : Prog) (name : List ℕ) (f : FunId) (fun : Fun) : Type 0 where
  pub number : ℕ
  pub is_named : named name prog.funs ≡ Some (record { number = number; fun = fun })
  pub ranked : f.index ≡ rank (are_ordinary prog.funs) number

-- This place and this number are those of the function of this name, where there is one.
abbrev pub IsCalleeAt : Prog → List ℕ → Option Callee → Type 0
IsCalleeAt prog name None = named name prog.funs ≡ None
IsCalleeAt prog name (Some callee) = (fun : Fun) × (slice_get prog.funs callee.place ≡ Some fun) × IsCallee prog name callee.id fun

-- It can be run: nothing of the expansion is open, and it is no generator.
pub record IsFilled (e : Expanded) (fun : Fun) : Type 0 where
  pub sites : e.sites ≡ []
  pub ordinary : is_generator fun.kind ≡ false

-- The run

-- The function can be run, the words spell these arguments of it, its run on them ends so, and this is the text of that.
pub record IsRunOf (bounds : Bounds) (e : Expanded) (f : FunId) (fun : Fun) (words : List (List ℕ)) (outcome : Outcome) (out : List ℕ) : Type 0 where
  pub filled : IsFilled e fun
  pub args : List Value
  pub arguments_are : arguments bounds fun words ≡ Ok args
  pub outcome_is : outcome ≡ run e.prog f args bounds
  pub out_is : out ≡ run_text fun outcome

-- The function of this name is run so.
pub record IsNamedRun (bounds : Bounds) (prog : Prog) (e : Expanded) (name : List ℕ) (words : List (List ℕ)) (outcome : Outcome) (out : List ℕ) : Type 0 where
  pub f : FunId
  pub fun : Fun
  pub callee : IsCallee prog name f fun
  pub run_of : IsRunOf bounds e f fun words outcome out

-- Refusals

-- The function can be run, and the words spell no arguments of it for this reason.
pub record HasNoArguments (bounds : Bounds) (e : Expanded) (fun : Fun) (words : List (List ℕ)) (reason : ArgumentFault) : Type 0 where
  pub filled : IsFilled e fun
  pub none : arguments bounds fun words ≡ Err reason

-- why a function is not run
abbrev pub IsRefusal : ExecFault → Bounds → Expanded → Fun → List (List ℕ) → Type 0
IsRefusal fault.NoFunction bounds e fun words = ⊥
IsRefusal fault.Unfilled bounds e fun words = IsFilled e fun → ⊥
IsRefusal fault.References bounds e fun words = HasNoArguments bounds e fun words argument.References
IsRefusal fault.Count bounds e fun words = HasNoArguments bounds e fun words argument.Count
IsRefusal (fault.Value index) bounds e fun words = HasNoArguments bounds e fun words (argument.Value index)

-- The function of this name is not run for this reason.
pub record IsNamedRefusal (fault : ExecFault) (bounds : Bounds) (prog : Prog) (e : Expanded) (name : List ℕ) (words : List (List ℕ)) : Type 0 where
  pub function : Numbered
  pub is_named : named name prog.funs ≡ Some function
  pub refused : IsRefusal fault bounds e function.fun words

-- Why no function is run: there is none of this name; or it is open or a generator; or its signature holds a reference; or
-- there are not as many values as parameters; or one spells none of its parameter's type. Each holds only where none
-- before it does.
abbrev pub IsExecFault : ExecFault → Bounds → Prog → Expanded → List ℕ → List (List ℕ) → Type 0
IsExecFault fault.NoFunction bounds prog e name words = named name prog.funs ≡ None
IsExecFault reason bounds prog e name words = IsNamedRefusal reason bounds prog e name words

-- Texts

-- what is written of the run that a line `exec` makes of this text, with these options, and how it ends
pub record IsRunText (set : Set) (name : List ℕ) (words : List (List ℕ)) (text : List ℕ) (outcome : Outcome) (out : List ℕ) : Type 0 where
  pub tree : Tree
  pub bounds : Bounds
  pub prog : Prog
  pub e : Expanded
  pub expanded : IsExpandedTo set text tree bounds prog e
  pub named_run : IsNamedRun bounds prog e name words outcome out

-- a line `exec` makes no run of this text, for this reason
pub record IsNotRun (set : Set) (name : List ℕ) (words : List (List ℕ)) (text : List ℕ) (reason : ExecFault) : Type 0 where
  pub tree : Tree
  pub bounds : Bounds
  pub prog : Prog
  pub e : Expanded
  pub expanded : IsExpandedTo set text tree bounds prog e
  pub cause : IsExecFault reason bounds prog e name words

-- what a text comes to with a line `exec`
abbrev pub IsExecuted : Set → List ℕ → List (List ℕ) → List ℕ → Executed → Type 0
IsExecuted set name words text (executed.NotRun reason) = IsNotRun set name words text reason
IsExecuted set name words text (executed.Run outcome out) = IsRunText set name words text outcome out.items

-- Parts of the answer

-- what a function comes to that has this number in the expansion
abbrev pub IsCalled : Bounds → Expanded → FunId → Fun → List (List ℕ) → Executed → Type 0
IsCalled bounds e f fun words (executed.NotRun reason) = IsRefusal reason bounds e fun words
IsCalled bounds e f fun words (executed.Run outcome out) = IsRunOf bounds e f fun words outcome out.items

-- what an expansion comes to
abbrev pub IsAnswer : Bounds → Prog → Expanded → List ℕ → List (List ℕ) → Executed → Type 0
IsAnswer bounds prog e name words (executed.NotRun reason) = IsExecFault reason bounds prog e name words
IsAnswer bounds prog e name words (executed.Run outcome out) = IsNamedRun bounds prog e name words outcome out.items

-- Answers by their causes

-- no function is run, for this reason
abbrev pub IsRefusedAs : ExecFault → Executed → Type 0
IsRefusedAs reason (executed.NotRun told) = told ≡ reason
IsRefusedAs reason (executed.Run outcome out) = ⊥

-- a function is run, with this end and this text
abbrev pub IsRunAs : Outcome → List ℕ → Executed → Type 0
IsRunAs outcome out (executed.NotRun told) = ⊥
IsRunAs outcome out (executed.Run ended written) = (ended ≡ outcome) × (written.items ≡ out)
