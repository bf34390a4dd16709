-- What is answered for a text that is taken, and for one that is refused, whatever is answered.
use Rattle.std.proofs.Common.{ℕ, List, sym, subst}
use Rattle.std.specs.Prelude.{Result, Ok, Err, IfOk, IfErr, MatchResult}
use Rattle.sk_base.specs.declared.bounds.Bounds.{Bounds}
use Rattle.sk_model.specs.declared.expanded.Expanded.{Expanded}
use Rattle.sk_opts.specs.declared.line.Set.{Set}
use Rattle.sk_front.specs.declared.fault.SketchFault.{SketchFault}
use Rattle.sk_front.specs.declared.fault.SketchFault.TheVariants as fault
use Rattle.sk_front.specs.Front.{IsCause, IsFaultOfSizes, IsToldAs, IsMemory}
use Rattle.sk_front.proofs.FrontLaws.{one_cause, sizes_or_cause}
use Rattle.sk_built_laws.specs.Built.{IsBuilt, ForBuilt}

module _ (set : Set) (text : List ℕ) where
  abbrev Fault : SketchFault → Type 0
  Fault = IsFaultOfSizes set text

  pub built_or_cause : (bounds : Bounds) (e : Expanded) (f : SketchFault) → IsBuilt set text bounds e → IsCause Fault f → ⊥
  built_or_cause bounds e f built cause = sizes_or_cause set text built.tree bounds built.prog e f built.sized cause

  told_as : (told f : SketchFault) → IsCause Fault told → Fault f → IsToldAs told f
  told_as told (fault.NotText a) cause is = one_cause set text told (fault.NotText a) cause is
  told_as told (fault.NotTyped a) cause is = one_cause set text told (fault.NotTyped a) cause is
  told_as told (fault.TooLarge a) cause is = one_cause set text told (fault.TooLarge a) cause is
  told_as told fault.Memory cause is = tt

  is_memory : (f : SketchFault) → (IsCause Fault f → ⊥) → Fault f → IsMemory f
  is_memory (fault.NotText a) none is = none is
  is_memory (fault.NotTyped a) none is = none is
  is_memory (fault.TooLarge a) none is = none is
  is_memory fault.Memory none is = tt

  -- what holds of the bounds and the expansion of a text holds of these, which are its own
  pub moved : (Holds : Bounds → Expanded → Type 0) (bounds : Bounds) (e : Expanded) → IsBuilt set text bounds e → ForBuilt set text Holds → Holds bounds e
  moved Holds bounds e built x =
      let same = x.only.only bounds e built in
      subst (λ b. Holds b e) (sym same.0) (subst (λ f. Holds x.bounds f) (sym same.1) x.holds)

  -- a text that is refused for a cause is told so, where what is answered is said of the expansion of a text that is taken
  pub refused : {A : Type 0} (Holds : A → Bounds → Expanded → Type 0) (r : Result A SketchFault) → IfOk r (λ a. ForBuilt set text (Holds a)) → IfErr r Fault → (told : SketchFault) → IsCause Fault told → MatchResult r (λ _. ⊥) (IsToldAs told)
  refused Holds (Ok a) found is told cause = built_or_cause found.bounds found.e told found.only.built cause
  refused Holds (Err f) found is told cause = told_as told f cause is

  -- for one that is taken what is answered is this, where it follows from what is said of the expansion
  pub taken : {A : Type 0} (Holds : A → Bounds → Expanded → Type 0) (That : A → Type 0) (bounds : Bounds) (e : Expanded) → IsBuilt set text bounds e → ((a : A) → Holds a bounds e → That a) → (r : Result A SketchFault) → IfOk r (λ a. ForBuilt set text (Holds a)) → IfErr r Fault → MatchResult r That IsMemory
  taken Holds That bounds e built that (Ok a) found is = that a (moved (Holds a) bounds e built found)
  taken Holds That bounds e built that (Err f) found is = is_memory f (λ cause. built_or_cause bounds e f built cause) is
