-- What holds of an input is how the call ends, or the source or the sink failed, or memory was wanting.
use Rattle.std.proofs.Common.{◌≡◌, ℕ, ◌≤◌, ◌<◌, inl, inr, List, length, refl, sym, subst, arith}
use Rattle.std.specs.Prelude.{Result, Ok, Err, IfOk, IfErr, MatchResult}
use Rattle.sk_base.specs.Stream.{Rose}
use Rattle.sk_cert.specs.declared.fault.CertFault.{CertFault}
use Rattle.sk_check_laws.specs.declared.reason.Reason.{Reason}
use Rattle.sk_check_laws.specs.Rejected.{part_number}
use Rattle.sk_opts.specs.declared.line.Set.{Set}
use Rattle.sk_front.specs.declared.fault.SketchFault.TheVariants as sketch
use Rattle.sk_front.specs.Texts.{most_bytes}
use Rattle.sk_check_text.specs.declared.checking.Checked.{Checked}
use Rattle.sk_check_text.specs.declared.checking.Checked.TheVariants as checked
use Rattle.sk_check_text.specs.declared.fault.CheckFault.{CheckFault}
use Rattle.sk_check_text.specs.declared.fault.CheckFault.TheVariants as fault
use Rattle.sk_check_text.specs.Checking.{OfParts, TakesSketch, IsAccepted, IsRejectedFor, IsNone, IsSomeCertificate, IsChecked, IsFaultOfCheck, IsCause, IsMemory, IsToldAs, IsVerdict, IsAcceptedButFormulas}
use Rattle.sk_check_text.proofs.Answered.{only_checked, verdict_taken, accepted_taken, rejected_taken, none_taken}
use Rattle.sk_check_app.specs.declared.ending.Ending.{Ending}
use Rattle.sk_check_app.specs.declared.ending.Ending.TheVariants as ending
use Rattle.sk_check_app.specs.Call.{Effect, most_input}
use Rattle.sk_check_app.specs.Judging.{IsTooLong, ending_with, line_of, refusal, IsWritten, written, cut, no_room, refused, no_certificate, judged}
use Rattle.sk_check_app.specs.Clauses.{Ends, IsOfVerdict, IsOfAccepted, IsOfRefused}
use Rattle.sk_check_app.proofs.CallLaws.{Does, Came, came_failed, came_long, came_wanting, came_whole}

too_long : {A : Type 0} (input : List ℕ) → length input ≤ most_input → most_input < length input → A
too_long input short over = absurd (omega (arith, short, over))

module _ (set : Set) (r : Ending) (f : Effect) (input : List ℕ) (So : Ending → Type 0) (sink : Type 0) where
  abbrev pub Ended : Ending → Type 0
  Ended x = Ends So (Rose f.read_faults_old f.read_faults_new) sink x

  -- memory was wanting
  to_memory : (t : CheckFault) → IsMemory t → Ended (refusal t)
  to_memory fault.TooLong m = absurd m
  to_memory (fault.Sketch (sketch.NotText told)) m = absurd m
  to_memory (fault.Sketch (sketch.NotTyped told)) m = absurd m
  to_memory (fault.Sketch (sketch.TooLarge reason)) m = absurd m
  to_memory (fault.Sketch sketch.Memory) m = tt

  -- what is answered for the input is this, or a fault of this kind
  abbrev pub Law : (Checked → Type 0) → (CheckFault → Type 0) → Type 0
  Law That Told = (x : Result Checked CheckFault) → IfOk x (IsChecked set input) → IfErr x (IsFaultOfCheck set input) → MatchResult x That Told

  module _ (That : Checked → Type 0) (Told : CheckFault → Type 0) (law : Law That Told) (said : (a : Checked) → That a → Ended (ending_with a)) (cuts : (a : Checked) → IsVerdict a → That a → Rose f.write_faults_old f.write_faults_new → sink) (to : (t : CheckFault) → Told t → Ended (refusal t)) where
    of_written : (a : Checked) → IsVerdict a → That a → IsWritten r (ending_with a) (line_of a) f.write_faults_old f.write_faults_new f.held_old f.held_new → Ended r
    of_written a v t (written e y) = subst Ended (sym e) (said a t)
    of_written a v t (cut e y) = subst Ended (sym e) (cuts a v t y.rose)
    of_written a v t (no_room e same) = subst Ended (sym e) tt

    of_input : Does set r f input → Ended r
    of_input (refused t i at e same) = subst Ended (sym e) (to t (law (Err t) tt i))
    of_input (no_certificate t i e same) = subst Ended (sym e) (said (checked.NotCertificate t) (law (Ok (checked.NotCertificate t)) i tt))
    of_input (judged a v i w) = of_written a v (law (Ok a) i tt) w

    pub ends : length input ≤ most_input → Came set r f input → Ended r
    ends short (came_failed e rose) = subst Ended (sym e) rose
    ends short (came_long e over) = too_long input short over
    ends short (came_wanting e) = subst Ended (sym e) tt
    ends short (came_whole s x) = of_input x

module _ (set : Set) (r : Ending) (f : Effect) (input : List ℕ) where
  abbrev SinkFailed : Type 0
  SinkFailed = Rose f.write_faults_old f.write_faults_new

  abbrev pub EndsSo : (Ending → Type 0) → Type 0 → Type 0
  EndsSo So sink = Ends So (Rose f.read_faults_old f.read_faults_new) sink r

  -- Certificates

  verdict_ends : (a : Checked) → IsVerdict a → Ended set r f input IsOfVerdict SinkFailed (ending_with a)
  verdict_ends checked.Accepted t = tt
  verdict_ends (checked.Rejected reason) t = tt
  verdict_ends (checked.NotCertificate told) t = absurd t

  pub checked_ends : length input ≤ most_input → TakesSketch set input IsSomeCertificate → Came set r f input → EndsSo IsOfVerdict SinkFailed
  checked_ends short takes came =
      ends set r f input IsOfVerdict SinkFailed IsVerdict IsMemory (λ x found is. verdict_taken set input x found is takes) verdict_ends (λ a v t rose. rose)
      (to_memory set r f input IsOfVerdict SinkFailed) short came

  all_ends : (a : Checked) → IsAcceptedButFormulas a → Ended set r f input IsOfAccepted SinkFailed (ending_with a)
  all_ends checked.Accepted t = tt
  all_ends (checked.Rejected reason) t = t
  all_ends (checked.NotCertificate told) t = absurd t

  pub accepted_ends : length input ≤ most_input → TakesSketch set input IsAccepted → Came set r f input → EndsSo IsOfAccepted SinkFailed
  accepted_ends short takes came =
      ends set r f input IsOfAccepted SinkFailed IsAcceptedButFormulas IsMemory (λ x found is. accepted_taken set input x found is takes) all_ends (λ a v t rose. rose)
      (to_memory set r f input IsOfAccepted SinkFailed) short came

  pub rejected_ends : (q : Reason) → part_number q < 6 → length input ≤ most_input → TakesSketch set input (IsRejectedFor q) → Came set r f input → EndsSo (λ e. e ≡ ending.Rejected q) SinkFailed
  rejected_ends q h short takes came =
      ends set r f input (λ e. e ≡ ending.Rejected q) SinkFailed (λ a. a ≡ checked.Rejected q) IsMemory (λ x found is. rejected_taken set input x found is q h takes)
      (λ a t. subst (λ z. Ended set r f input (λ e. e ≡ ending.Rejected q) SinkFailed (ending_with z)) (sym t) refl) (λ a v t rose. rose)
      (to_memory set r f input (λ e. e ≡ ending.Rejected q) SinkFailed) short came

  pub no_form_ends : (told : CertFault) → length input ≤ most_input → TakesSketch set input (IsNone told) → Came set r f input → EndsSo (λ e. e ≡ ending.NotCertificate told) ⊥
  no_form_ends told short takes came =
      ends set r f input (λ e. e ≡ ending.NotCertificate told) ⊥ (λ a. a ≡ checked.NotCertificate told) IsMemory (λ x found is. none_taken set input x found is told takes)
      (λ a t. subst (λ z. Ended set r f input (λ e. e ≡ ending.NotCertificate told) ⊥ (ending_with z)) (sym t) refl) (λ a v t rose. subst IsVerdict t v)
      (to_memory set r f input (λ e. e ≡ ending.NotCertificate told) ⊥) short came

  -- Inputs that are refused

  as_refused : (told t : CheckFault) → IsToldAs told t → Ended set r f input (IsOfRefused told) ⊥ (refusal t)
  as_refused told fault.TooLong h = h
  as_refused told (fault.Sketch (sketch.NotText other)) h = h
  as_refused told (fault.Sketch (sketch.NotTyped other)) h = h
  as_refused told (fault.Sketch (sketch.TooLarge other)) h = h
  as_refused told (fault.Sketch sketch.Memory) h = tt

  pub refused_ends : (told : CheckFault) → length input ≤ most_input → IsCause set input told → Came set r f input → EndsSo (IsOfRefused told) ⊥
  refused_ends told short cause came =
      ends set r f input (IsOfRefused told) ⊥ (λ a. ⊥) (IsToldAs told) (λ x found is. only_checked set input x found is told cause) (λ a t. absurd t) (λ a v t rose. t)
      (as_refused told) short came

  as_long : (t : CheckFault) → IsToldAs fault.TooLong t → Ended set r f input (λ e. e ≡ ending.TooLong) ⊥ (refusal t)
  as_long fault.TooLong h = refl
  as_long (fault.Sketch (sketch.NotText other)) h = absurd h
  as_long (fault.Sketch (sketch.NotTyped other)) h = absurd h
  as_long (fault.Sketch (sketch.TooLarge other)) h = absurd h
  as_long (fault.Sketch sketch.Memory) h = tt

  long_sketch_ends : length input ≤ most_input → OfParts input (λ sketch behind. most_bytes < length sketch) → Came set r f input → EndsSo (λ e. e ≡ ending.TooLong) ⊥
  long_sketch_ends short parts came =
      ends set r f input (λ e. e ≡ ending.TooLong) ⊥ (λ a. ⊥) (IsToldAs fault.TooLong) (λ x found is. only_checked set input x found is fault.TooLong parts) (λ a t. absurd t) (λ a v t rose. t)
      as_long short came

  pub long_ends : IsTooLong input → Came set r f input → EndsSo (λ e. e ≡ ending.TooLong) ⊥
  long_ends h (came_failed e rose) = subst (Ends (λ x. x ≡ ending.TooLong) (Rose f.read_faults_old f.read_faults_new) ⊥) (sym e) rose
  long_ends h (came_long e over) = subst (Ends (λ x. x ≡ ending.TooLong) (Rose f.read_faults_old f.read_faults_new) ⊥) (sym e) refl
  long_ends h (came_wanting e) = subst (Ends (λ x. x ≡ ending.TooLong) (Rose f.read_faults_old f.read_faults_new) ⊥) (sym e) tt
  long_ends (inl over) (came_whole short x) = too_long input short over
  long_ends (inr parts) (came_whole short x) = long_sketch_ends short parts (came_whole short x)
