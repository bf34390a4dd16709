-- What follows from what a call does for its source: what its ending tells of the input and of the streams.
use Rattle.std.proofs.Common.{◌≡◌, ℕ, ◌≤◌, ◌<◌, inl, inr, false, List, Option, Some, None, length, refl, sym, ap, subst, ◌∙◌}
use Rattle.std.specs.Prelude.{IsTrue, IfSome}
use Rattle.std.proofs.lemmas.Bool.{false≢true}
use Rattle.sk_base.specs.Stream.{Rose}
use Rattle.sk_opts.specs.declared.line.Set.{Set}
use Rattle.sk_front.specs.declared.fault.SketchFault.TheVariants as sketch
use Rattle.sk_app_texts.specs.CheckTexts.{accepted_text}
use Rattle.sk_app_reading.specs.Streams.{Appends}
use Rattle.sk_check_text.specs.declared.checking.Checked.{Checked}
use Rattle.sk_check_text.specs.declared.checking.Checked.TheVariants as checked
use Rattle.sk_check_text.specs.declared.fault.CheckFault.{CheckFault}
use Rattle.sk_check_text.specs.declared.fault.CheckFault.TheVariants as fault
use Rattle.sk_check_text.specs.Checking.{IsChecked, IsVerdict, IsFaultOfCheck, IsPlacedFault}
use Rattle.sk_check_app.specs.declared.ending.Ending.{Ending}
use Rattle.sk_check_app.specs.declared.ending.Ending.TheVariants as ending
use Rattle.sk_check_app.specs.Ending.{rejected_line}
use Rattle.sk_check_app.specs.Call.{Effect, WritesPart, most_input}
use Rattle.sk_check_app.specs.Judging.{IsTooLong, ending_with, line_of, refusal, writes_nothing, IsWritten, written, cut, no_room, JudgesInput, refused, no_certificate, judged, TakesSource, failed, long, wanting, whole, Judges}
use Rattle.sk_check_app.specs.Clauses.{IsLineOf}

pub every : (left : Option (List ℕ)) (P : List ℕ → Type 0) → ((input : List ℕ) → P input) → IfSome left P
every None P h = tt
every (Some input) P h = h input

mapped : (left : Option (List ℕ)) (P Q : List ℕ → Type 0) → ((input : List ℕ) → P input → Q input) → IfSome left P → IfSome left Q
mapped None P Q h k = tt
mapped (Some input) P Q h k = h input k

verdict_is_written : (a : Checked) → IsVerdict a → writes_nothing (ending_with a) ≡ false
verdict_is_written checked.Accepted v = refl
verdict_is_written (checked.Rejected reason) v = refl
verdict_is_written (checked.NotCertificate told) v = absurd v

module _ (set : Set) (r : Ending) (f : Effect) where
  abbrev pub Does : List ℕ → Type 0
  Does input = JudgesInput set input r f.write_faults_old f.write_faults_new f.held_old f.held_new

  -- of the input that the source had left
  pub data Came (input : List ℕ) : Type 0 where
    came_failed : r ≡ ending.ReadFault → Rose f.read_faults_old f.read_faults_new → Came input
    came_long : r ≡ ending.TooLong → most_input < length input → Came input
    came_wanting : r ≡ ending.Memory → Came input
    came_whole : length input ≤ most_input → Does input → Came input

  came : TakesSource Does r f → IfSome f.left_old Came
  came (failed e rose same) = every f.left_old Came (λ input. came_failed e rose)
  came (long e l same) = mapped f.left_old (λ input. most_input < length input) Came (λ input h. came_long e h) l
  came (wanting e same) = every f.left_old Came (λ input. came_wanting e)
  came (whole input w x) = mapped f.left_old (λ left. left ≡ input) Came (λ left h. subst Came (sym h) (came_whole w.short x)) w.whole

  -- what an ending tells of the input, and of the streams
  abbrev pub Tells : List ℕ → Ending → Type 0
  Tells input ending.Accepted = IsChecked set input checked.Accepted × Appends accepted_text f.held_old f.held_new
  Tells input (ending.Rejected reason) = IsChecked set input (checked.Rejected reason) × Appends (rejected_line reason) f.held_old f.held_new
  Tells input (ending.NotCertificate told) = IsChecked set input (checked.NotCertificate told)
  Tells input ending.NotALine = ⊥
  Tells input (ending.NotText told) = IsFaultOfCheck set input (fault.Sketch (sketch.NotText told)) × IsPlacedFault input (fault.Sketch (sketch.NotText told))
  Tells input (ending.NotTyped told) = IsFaultOfCheck set input (fault.Sketch (sketch.NotTyped told)) × IsPlacedFault input (fault.Sketch (sketch.NotTyped told))
  Tells input (ending.TooLarge reason) = IsFaultOfCheck set input (fault.Sketch (sketch.TooLarge reason))
  Tells input ending.ReadFault = Rose f.read_faults_old f.read_faults_new
  Tells input ending.WriteFault = Rose f.write_faults_old f.write_faults_new × WritesPart (IsLineOf set input) f.held_old f.held_new
  Tells input ending.TooLong = IsTooLong input
  Tells input ending.Memory = Unit {0}

  tells_refusal : (input : List ℕ) (t : CheckFault) → IsFaultOfCheck set input t → IsPlacedFault input t → Tells input (refusal t)
  tells_refusal input fault.TooLong i at = inr i
  tells_refusal input (fault.Sketch (sketch.NotText told)) i at = (i, at)
  tells_refusal input (fault.Sketch (sketch.NotTyped told)) i at = (i, at)
  tells_refusal input (fault.Sketch (sketch.TooLarge reason)) i at = i
  tells_refusal input (fault.Sketch sketch.Memory) i at = tt

  tells_said : (input : List ℕ) (a : Checked) → IsVerdict a → IsChecked set input a → Appends (line_of a) f.held_old f.held_new → Tells input (ending_with a)
  tells_said input checked.Accepted v i y = (i, y)
  tells_said input (checked.Rejected reason) v i y = (i, y)
  tells_said input (checked.NotCertificate told) v i y = i

  tells_written : (input : List ℕ) (a : Checked) → IsVerdict a → IsChecked set input a → IsWritten r (ending_with a) (line_of a) f.write_faults_old f.write_faults_new f.held_old f.held_new → Tells input r
  tells_written input a v i (written e y) = subst (Tells input) (sym e) (tells_said input a v i y)
  tells_written input a v i (cut e y) = subst (Tells input) (sym e) (y.rose, record { out = line_of a; is = record { said = a; verdict = v; checked = i; is = refl }; appends = y.appends })
  tells_written input a v i (no_room e same) = subst (Tells input) (sym e) tt

  tells_input : (input : List ℕ) → Does input → Tells input r
  tells_input input (refused t i at e same) = subst (Tells input) (sym e) (tells_refusal input t i at)
  tells_input input (no_certificate t i e same) = subst (Tells input) (sym e) i
  tells_input input (judged a v i w) = tells_written input a v i w

  tells : (input : List ℕ) → Came input → Tells input r
  tells input (came_failed e rose) = subst (Tells input) (sym e) rose
  tells input (came_long e over) = subst (Tells input) (sym e) (inl over)
  tells input (came_wanting e) = subst (Tells input) (sym e) tt
  tells input (came_whole short x) = tells_input input x

  pub told_by : (P : List ℕ → Type 0) → ((input : List ℕ) → Came input → P input) → Judges set r f → IfSome f.left_old P
  told_by P k j = mapped f.left_old Came P k (came j.takes)

  -- what is told of the input where the ending is this one
  pub told_as : (x : Ending) (P : List ℕ → Type 0) → ((input : List ℕ) → Tells input x → P input) → r ≡ x → Judges set r f → IfSome f.left_old P
  told_as x P k e j = told_by P (λ input c. k input (subst (Tells input) e (tells input c))) j

  -- Whatever the input is

  line_of_source : r ≡ ending.NotALine → TakesSource Does r f → ⊥
  line_of_source q (failed e rose same) = let z = sym e ∙ q in cc
  line_of_source q (long e over same) = let z = sym e ∙ q in cc
  line_of_source q (wanting e same) = let z = sym e ∙ q in cc
  line_of_source q (whole input w x) = subst (Tells input) q (tells_input input x)

  pub is_line : r ≡ ending.NotALine → Judges set r f → ⊥
  is_line q j = line_of_source q j.takes

  read_of_source : r ≡ ending.ReadFault → TakesSource Does r f → Rose f.read_faults_old f.read_faults_new
  read_of_source q (failed e rose same) = rose
  read_of_source q (long e over same) = let z = sym e ∙ q in cc
  read_of_source q (wanting e same) = let z = sym e ∙ q in cc
  read_of_source q (whole input w x) = subst (Tells input) q (tells_input input x)

  pub read_fault_by : r ≡ ending.ReadFault → Judges set r f → Rose f.read_faults_old f.read_faults_new
  read_fault_by q j = read_of_source q j.takes

  write_of_source : r ≡ ending.WriteFault → TakesSource Does r f → Rose f.write_faults_old f.write_faults_new
  write_of_source q (failed e rose same) = let z = sym e ∙ q in cc
  write_of_source q (long e over same) = let z = sym e ∙ q in cc
  write_of_source q (wanting e same) = let z = sym e ∙ q in cc
  write_of_source q (whole input w x) = (subst (Tells input) q (tells_input input x)).0

  pub write_fault_by : r ≡ ending.WriteFault → Judges set r f → Rose f.write_faults_old f.write_faults_new
  write_fault_by q j = write_of_source q j.takes

  kept_written : (a : Checked) → IsVerdict a → IsWritten r (ending_with a) (line_of a) f.write_faults_old f.write_faults_new f.held_old f.held_new → IsTrue (writes_nothing r) → f.held_new ≡ f.held_old
  kept_written a v (written e y) k = absurd (false≢true (sym (verdict_is_written a v) ∙ ap writes_nothing (sym e) ∙ k))
  kept_written a v (cut e y) k = absurd (false≢true (ap writes_nothing (sym e) ∙ k))
  kept_written a v (no_room e same) k = same

  kept_input : (input : List ℕ) → Does input → IsTrue (writes_nothing r) → f.held_new ≡ f.held_old
  kept_input input (refused t i at e same) k = same
  kept_input input (no_certificate t i e same) k = same
  kept_input input (judged a v i w) k = kept_written a v w k

  kept_of_source : TakesSource Does r f → IsTrue (writes_nothing r) → f.held_new ≡ f.held_old
  kept_of_source (failed e rose same) k = same
  kept_of_source (long e over same) k = same
  kept_of_source (wanting e same) k = same
  kept_of_source (whole input w x) k = kept_input input x k

  pub kept_by : Judges set r f → IsTrue (writes_nothing r) → f.held_new ≡ f.held_old
  kept_by j k = kept_of_source j.takes k
