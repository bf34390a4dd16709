-- What the endings of a line `synth` tell of its text.
use Rattle.std.proofs.Common.{ℕ, Bool, List, Option, Some, None, ◌≤◌, ◌≡◌, length, sym, subst, ap, ◌∙◌}
use Rattle.std.specs.Prelude.{IfSome}
use Rattle.sk_base.specs.Stream.{Rose}
use Rattle.sk_base.specs.declared.bounds.Budget.{Budget}
use Rattle.sk_types_laws.specs.declared.fault.TypeFault.{TypeFault}
use Rattle.sk_expand_sizes.specs.declared.fault.SizeFault.{SizeFault}
use Rattle.sk_model.specs.declared.outcome.Outcome.{Outcome}
use Rattle.sk_model.specs.declared.outcome.Outcome.TheVariants as outcome
use Rattle.sk_opts.specs.declared.line.Set.{Set}
use Rattle.sk_front.specs.declared.fault.TextFault.{TextFault}
use Rattle.sk_front.specs.declared.fault.SketchFault.{SketchFault}
use Rattle.sk_front.specs.declared.fault.SketchFault.TheVariants as fault
use Rattle.sk_front.specs.Texts.{most_bytes, HasSpan, IsTextFault}
use Rattle.sk_front.specs.Front.{IsUntyped, IsTooLarge, IsPlacedFault}
use Rattle.sk_trace_text.specs.declared.fault.TraceFault.{TraceFault}
use Rattle.sk_trace_text.specs.declared.fault.TraceFault.TheVariants as reason
use Rattle.sk_app.specs.declared.prepare.Found.{Found}
use Rattle.sk_app.specs.declared.prepare.Found.TheVariants as found
use Rattle.sk_app.specs.declared.prepare.Prepared.{Prepared}
use Rattle.sk_app.specs.declared.prepare.Prepared.TheVariants as prepared
use Rattle.sk_app.specs.declared.ending.Ending.{Ending}
use Rattle.sk_app.specs.declared.ending.Ending.TheVariants as ending
use Rattle.sk_app.specs.Prepared.{Finds, IsPossible, IsPrepared}
use Rattle.sk_app_reading.specs.Streams.{IsWhole}
use Rattle.sk_app.specs.Ends.{IsDelivered, delivered, cut, no_room, IsToldOf, ending_of, stopped}
use Rattle.sk_app.specs.Effects.{refusal}

module _ (set : Set) (budget : Budget) (cert : Bool) where
  -- what was found of the text is what the ending tells of it

  pub told_not_text : (left : Option (List ℕ)) (fault : TextFault) → IfSome left (Finds set budget cert (found.NotText fault)) → IfSome left (λ text. (length text ≤ most_bytes) × IsTextFault fault text)
  told_not_text None fault h = tt
  told_not_text (Some text) fault h = (h.short, h.found)

  pub told_not_typed : (left : Option (List ℕ)) (fault : TypeFault) → IfSome left (Finds set budget cert (found.NotTyped fault)) → IfSome left (λ text. (length text ≤ most_bytes) × IsUntyped set text)
  told_not_typed None fault h = tt
  told_not_typed (Some text) fault h = (h.short, h.found.0)

  pub placed_not_typed : (left : Option (List ℕ)) (a b : TypeFault) → IfSome left (Finds set budget cert (found.NotTyped a)) → ending.NotTyped a ≡ ending.NotTyped b → IfSome left (λ text. HasSpan text b.span)
  placed_not_typed None a b h e = tt
  placed_not_typed (Some text) a b h e = let same : a ≡ b = cc in subst (λ x. HasSpan text x.span) same h.found.1

  pub told_too_large : (left : Option (List ℕ)) (reason : SizeFault) → IfSome left (Finds set budget cert (found.TooLarge reason)) → IfSome left (λ text. IsTooLarge set text reason)
  told_too_large None reason h = tt
  told_too_large (Some text) reason h = h.found

module _ (set : Set) (budget : Budget) (cert : Bool) (a b : ℕ) where
  -- what was found of a text that was read
  pub found_of : (p : Prepared) (f g : Found) (left : Option (List ℕ)) → p ≡ prepared.Found f → f ≡ g → IsPrepared set budget cert p a b left → IsPossible budget g × IfSome left (Finds set budget cert g)
  found_of p f g left is same h = subst (λ x. IsPrepared set budget cert x a b left) (is ∙ ap prepared.Found same) h

module _ (set : Set) (a b c d : ℕ) where
  abbrev Told : Ending → List ℕ → Type 0
  Told r text = IsToldOf set text r a b c d

  pub told_memory : (left : Option (List ℕ)) → IfSome left (λ text. IsToldOf set text ending.Memory a b c d)
  told_memory None = tt
  told_memory (Some text) = tt

  pub told_read_fault : (left : Option (List ℕ)) → Rose a b → IfSome left (λ text. IsToldOf set text ending.ReadFault a b c d)
  told_read_fault None h = tt
  told_read_fault (Some text) h = h

-- Places of faults of types

-- writing a text ends with no fault of types
pub delivers_no_fault : {A : Type 0} (r done : Ending) (out : List ℕ) (c d : ℕ) (old new : Option (List ℕ)) (f : TypeFault) → (done ≡ ending.NotTyped f → ⊥) → IsDelivered r done out c d old new → r ≡ ending.NotTyped f → A
delivers_no_fault r done out c d old new f x h e = elim h [ delivered is w ↦ absurd (x (sym is ∙ e)) | cut is w ↦ (let q = sym is ∙ e in cc) | no_room is same ↦ (let q = sym is ∙ e in cc) ]

no_fault_of_run : (o : Outcome) (f : TypeFault) → ending_of o ≡ ending.NotTyped f → ⊥
no_fault_of_run (outcome.Done result refs cost) f e = cc
no_fault_of_run (outcome.Failed span) f e = cc
no_fault_of_run (outcome.Skipped span) f e = cc

pub run_no_fault : {A : Type 0} (r done : Ending) (o : Outcome) (out : List ℕ) (c d : ℕ) (old new : Option (List ℕ)) (f : TypeFault) → done ≡ ending_of o → IsDelivered r done out c d old new → r ≡ ending.NotTyped f → A
run_no_fault r done o out c d old new f is h e = delivers_no_fault r done out c d old new f (λ q. no_fault_of_run o f (sym is ∙ q)) h e

-- so does a line that runs no function
pub stop_no_fault : {A : Type 0} (r : Ending) (t : TraceFault) (f : TypeFault) → r ≡ stopped t → r ≡ ending.NotTyped f → A
stop_no_fault r (reason.NotRun a) f is e = let q = sym is ∙ e in cc
stop_no_fault r (reason.NotFilled a) f is e = let q = sym is ∙ e in cc

pub refused_place : (text : List ℕ) (t : SketchFault) (r : Ending) (f : TypeFault) → IsPlacedFault text t → r ≡ refusal t → r ≡ ending.NotTyped f → HasSpan text f.span
refused_place text (fault.NotTyped a) r f h is e = let q = sym is ∙ e in let same : a ≡ f = cc in subst (λ x. HasSpan text x.span) same h
refused_place text (fault.NotText a) r f h is e = let q = sym is ∙ e in cc
refused_place text (fault.TooLarge a) r f h is e = let q = sym is ∙ e in cc
refused_place text fault.Memory r f h is e = let q = sym is ∙ e in cc

pub whole_place : (left : Option (List ℕ)) (text : List ℕ) (f : TypeFault) → IsWhole most_bytes text left → HasSpan text f.span → IfSome left (λ t. HasSpan t f.span)
whole_place None text f w h = tt
whole_place (Some t) text f w h = subst (λ x. HasSpan x f.span) (sym w.whole) h
