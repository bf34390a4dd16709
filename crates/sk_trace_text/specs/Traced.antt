-- What a line `trace` does for a text: the sketch is filled with the numbers of the line, and a function of the filling is
-- run step by step; or why none is.
use Rattle.std.specs.Prelude.{ℕ, ◌≡◌, true, false, List, [], Option, Some, None, unwrap_or, Ok, Err}
use Rattle.sk_base.specs.declared.bounds.Bounds.{Bounds}
use Rattle.sk_tree.specs.declared.item.Tree.{Tree}
use Rattle.sk_prog.specs.declared.ids.FunId.{FunId}
use Rattle.sk_prog.specs.declared.value.Value.{Value}
use Rattle.sk_prog.specs.declared.prog.Fun.{Fun}
use Rattle.sk_prog.specs.declared.prog.Prog.{Prog}
use Rattle.sk_model.specs.declared.expanded.Choice.{Choice}
use Rattle.sk_model.specs.declared.expanded.Expanded.{Expanded}
use Rattle.sk_model.specs.declared.outcome.Outcome.{Outcome}
use Rattle.sk_model.specs.Expand.{is_generator}
use Rattle.sk_model.specs.Fill.{InRange, fill}
use Rattle.sk_model.specs.Run.{run}
use Rattle.sk_holes.specs.declared.fault.FillFault.{FillFault}
use Rattle.sk_holes.specs.declared.fault.FillFault.TheVariants as hole
use Rattle.sk_holes.specs.Range.{IsRefused}
use Rattle.sk_interp_laws.specs.Path.{path}
use Rattle.sk_opts.specs.declared.line.Set.{Set}
use Rattle.sk_exec_values.specs.Arguments.{arguments}
use Rattle.sk_exec_values.specs.declared.fault.ArgumentFault.{ArgumentFault}
use Rattle.sk_exec_values.specs.declared.fault.ArgumentFault.TheVariants as argument
use Rattle.sk_front.specs.Front.{IsExpandedTo}
use Rattle.sk_exec.specs.declared.fault.ExecFault.TheVariants as exec
use Rattle.sk_exec.specs.Direct.{Numbered, named, IsCallee}
use Rattle.sk_trace_text.specs.declared.fault.TraceFault.{TraceFault}
use Rattle.sk_trace_text.specs.declared.fault.TraceFault.TheVariants as fault
use Rattle.sk_trace_text.specs.declared.tracing.Traced.{Traced}
use Rattle.sk_trace_text.specs.declared.tracing.Traced.TheVariants as traced
use Rattle.sk_trace_text.specs.StepTexts.{trace_text}

-- The numbers

-- the choice that a line gives; without the option it has no number
abbrev pub choice_of : Option (List ℕ) → Choice
choice_of holes = record { values = unwrap_or holes [] }

-- The function can be run: it is no generator, and the numbers fill the sketch.
pub record IsFilled (e : Expanded) (a : Choice) (fun : Fun) : Type 0 where
  pub ordinary : is_generator fun.kind ≡ false
  pub in_range : InRange e a

-- The run

-- The function can be run, the words spell these arguments of it, its run on them in the filling ends so, and this is the
-- text of its steps and of that.
pub record IsTraceOf (bounds : Bounds) (e : Expanded) (a : Choice) (f : FunId) (fun : Fun) (words : List (List ℕ)) (outcome : Outcome) (out : List ℕ) : Type 0 where
  pub filled : IsFilled e a fun
  pub args : List Value
  pub arguments_are : arguments bounds fun words ≡ Ok args
  pub outcome_is : outcome ≡ run (fill e a) f args bounds
  pub out_is : out ≡ trace_text fun (path (fill e a) f args bounds) outcome

-- The function of this name is run so.
pub record IsNamedTrace (bounds : Bounds) (prog : Prog) (e : Expanded) (a : Choice) (name : List ℕ) (words : List (List ℕ)) (outcome : Outcome) (out : List ℕ) : Type 0 where
  pub f : FunId
  pub fun : Fun
  pub callee : IsCallee prog name f fun
  pub trace_of : IsTraceOf bounds e a f fun words outcome out

-- Refusals

-- The function is no generator, and the numbers do not fill the sketch for this reason, which is not want of memory.
abbrev pub IsUnfit : FillFault → Expanded → Choice → Type 0
IsUnfit hole.WrongLength e a = IsRefused hole.WrongLength e a
IsUnfit (hole.OutOfRange site) e a = IsRefused (hole.OutOfRange site) e a
IsUnfit hole.Memory e a = ⊥

pub record HasNoFilling (reason : FillFault) (e : Expanded) (a : Choice) (fun : Fun) : Type 0 where
  pub ordinary : is_generator fun.kind ≡ false
  pub unfit : IsUnfit reason e a

-- The function can be run, and the words spell no arguments of it for this reason.
pub record HasNoArguments (bounds : Bounds) (e : Expanded) (a : Choice) (fun : Fun) (words : List (List ℕ)) (reason : ArgumentFault) : Type 0 where
  pub filled : IsFilled e a fun
  pub none : arguments bounds fun words ≡ Err reason

-- why a function is not run
abbrev pub IsRefusal : TraceFault → Bounds → Expanded → Choice → Fun → List (List ℕ) → Type 0
IsRefusal (fault.NotRun exec.NoFunction) bounds e a fun words = ⊥
IsRefusal (fault.NotRun exec.Unfilled) bounds e a fun words = is_generator fun.kind ≡ true
IsRefusal (fault.NotFilled reason) bounds e a fun words = HasNoFilling reason e a fun
IsRefusal (fault.NotRun exec.References) bounds e a fun words = HasNoArguments bounds e a fun words argument.References
IsRefusal (fault.NotRun exec.Count) bounds e a fun words = HasNoArguments bounds e a fun words argument.Count
IsRefusal (fault.NotRun (exec.Value index)) bounds e a fun words = HasNoArguments bounds e a fun words (argument.Value index)

-- The function of this name is not run for this reason.
pub record IsNamedRefusal (reason : TraceFault) (bounds : Bounds) (prog : Prog) (e : Expanded) (a : Choice) (name : List ℕ) (words : List (List ℕ)) : Type 0 where
  pub function : Numbered
  pub is_named : named name prog.funs ≡ Some function
  pub refused : IsRefusal reason bounds e a function.fun words

-- Why no function is run: there is none of this name; or it is a generator; or the numbers do not fill the sketch; or its
-- signature holds a reference; or there are not as many values as parameters; or one spells none of its parameter's type.
-- Each holds only where none before it does.
abbrev pub IsTraceFault : TraceFault → Bounds → Prog → Expanded → Choice → List ℕ → List (List ℕ) → Type 0
IsTraceFault (fault.NotRun exec.NoFunction) bounds prog e a name words = named name prog.funs ≡ None
IsTraceFault reason bounds prog e a name words = IsNamedRefusal reason bounds prog e a name words

-- Texts

-- what is written of the run that a line `trace` makes of this text, with these options and numbers, and how it ends
pub record IsTraceText (set : Set) (holes : Option (List ℕ)) (name : List ℕ) (words : List (List ℕ)) (text : List ℕ) (outcome : Outcome) (out : List ℕ) : Type 0 where
  pub tree : Tree
  pub bounds : Bounds
  pub prog : Prog
  pub e : Expanded
  pub expanded : IsExpandedTo set text tree bounds prog e
  pub named_trace : IsNamedTrace bounds prog e (choice_of holes) name words outcome out

-- a line `trace` makes no run of this text, for this reason
pub record IsNotTraced (set : Set) (holes : Option (List ℕ)) (name : List ℕ) (words : List (List ℕ)) (text : List ℕ) (reason : TraceFault) : Type 0 where
  pub tree : Tree
  pub bounds : Bounds
  pub prog : Prog
  pub e : Expanded
  pub expanded : IsExpandedTo set text tree bounds prog e
  pub cause : IsTraceFault reason bounds prog e (choice_of holes) name words

-- what a text comes to with a line `trace`
abbrev pub IsTraced : Set → Option (List ℕ) → List ℕ → List (List ℕ) → List ℕ → Traced → Type 0
IsTraced set holes name words text (traced.NotTraced reason) = IsNotTraced set holes name words text reason
IsTraced set holes name words text (traced.Run outcome out) = IsTraceText set holes name words text outcome out.items

-- Parts of the answer

-- what a function comes to that has this number in the filling
abbrev pub IsCalled : Bounds → Expanded → Choice → FunId → Fun → List (List ℕ) → Traced → Type 0
IsCalled bounds e a f fun words (traced.NotTraced reason) = IsRefusal reason bounds e a fun words
IsCalled bounds e a f fun words (traced.Run outcome out) = IsTraceOf bounds e a f fun words outcome out.items

-- what a function of a filling comes to, where it can be run
abbrev pub IsRunIn : Bounds → Prog → FunId → Fun → List (List ℕ) → Traced → Type 0
IsRunIn bounds filled f fun words (traced.NotTraced (fault.NotRun exec.References)) = arguments bounds fun words ≡ Err argument.References
IsRunIn bounds filled f fun words (traced.NotTraced (fault.NotRun exec.Count)) = arguments bounds fun words ≡ Err argument.Count
IsRunIn bounds filled f fun words (traced.NotTraced (fault.NotRun (exec.Value index))) = arguments bounds fun words ≡ Err (argument.Value index)
IsRunIn bounds filled f fun words (traced.NotTraced _) = ⊥
IsRunIn bounds filled f fun words (traced.Run outcome out) =
    (args : List Value) × (arguments bounds fun words ≡ Ok args) × (outcome ≡ run filled f args bounds) × (out.items ≡ trace_text fun (path filled f args bounds) outcome)

-- what an expansion comes to
abbrev pub IsAnswer : Bounds → Prog → Expanded → Choice → List ℕ → List (List ℕ) → Traced → Type 0
IsAnswer bounds prog e a name words (traced.NotTraced reason) = IsTraceFault reason bounds prog e a name words
IsAnswer bounds prog e a name words (traced.Run outcome out) = IsNamedTrace bounds prog e a name words outcome out.items

-- Answers by their causes

-- no function is run, for this reason
abbrev pub IsRefusedAs : TraceFault → Traced → Type 0
IsRefusedAs reason (traced.NotTraced told) = told ≡ reason
IsRefusedAs reason (traced.Run outcome out) = ⊥

-- a function is run, with this end and this text
abbrev pub IsRunAs : Outcome → List ℕ → Traced → Type 0
IsRunAs outcome out (traced.NotTraced told) = ⊥
IsRunAs outcome out (traced.Run ended written) = (ended ≡ outcome) × (written.items ≡ out)
