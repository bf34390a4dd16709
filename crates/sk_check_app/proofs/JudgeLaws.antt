-- What the clauses of `judge` say, from what a call does for its words.
use Rattle.std.proofs.Common.{◌≡◌, ℕ, ◌≤◌, ◌<◌, List, [], ◌∷◌, ◌++◌, Option, Some, None, length, refl, sym, ap, subst, ◌∙◌, arith}
use Rattle.std.specs.Prelude.{IsTrue, IfSome, option_map, codes}
use Rattle.sk_base.specs.Stream.{Rose}
use Rattle.sk_cert.specs.declared.fault.CertFault.{CertFault}
use Rattle.sk_check_laws.specs.declared.reason.Reason.{Reason}
use Rattle.sk_check_laws.specs.Rejected.{part_number}
use Rattle.sk_opts.specs.declared.line.Set.{Set}
use Rattle.sk_opts.specs.declared.line.Line.{Line}
use Rattle.sk_opts.specs.declared.line.Line.TheVariants as line
use Rattle.sk_opts.proofs.LineLaws.{lines_are_one}
use Rattle.sk_front.specs.declared.fault.SketchFault.TheVariants as sketch
use Rattle.sk_app_texts.specs.CheckTexts.{accepted_text}
use Rattle.sk_app_reading.specs.Streams.{Appends, TakesFew}
use Rattle.sk_check_text.specs.declared.fault.CheckFault.{CheckFault}
use Rattle.sk_check_text.specs.declared.fault.CheckFault.TheVariants as fault
use Rattle.sk_check_text.specs.Checking.{TakesSketch, IsAccepted, IsRejectedFor, IsNone, IsSomeCertificate, IsFaultOfCheck, IsPlacedFault, IsCause}
use Rattle.sk_check_app.specs.declared.ending.Ending.{Ending}
use Rattle.sk_check_app.specs.declared.ending.Ending.TheVariants as ending
use Rattle.sk_check_app.specs.Ending.{rejected_line}
use Rattle.sk_check_app.specs.Call.{Effect, Call, IsWords, IsNoWords, ForWords, WritesPart, most_input}
use Rattle.sk_check_app.specs.Judging.{IsTooLong, writes_nothing, Judges, Answers, no_line, served, no_memory}
use Rattle.sk_check_app.specs.Clauses.{Ends, IsOfVerdict, IsOfAccepted, IsOfRefused, IsLineOf, TellsNoLine, NoLineEnds, TellsAccepted, CheckedEnds, AcceptedEnds, TellsRejected, RejectedEnds, TellsNoForm, NoFormEnds, TellsNotText, PlacesNotText, TellsNotTyped, PlacesNotTyped, TellsTooLarge, TellsTooLong, LongEnds, RefusedEnds, TellsReadFault, TellsWriteFault, CutsLine, KeepsSink, ReadsFew, LeavesSource}
use Rattle.sk_check_app.proofs.CallLaws.{every, Came, Tells, told_by, told_as, is_line, read_fault_by, write_fault_by, kept_by}
use Rattle.sk_check_app.proofs.EndLaws as end

-- nothing is taken of what stays left

nothing_left : (old : Option (List ℕ)) → old ≡ option_map (λ rest. [] ++ rest) old
nothing_left None = refl
nothing_left (Some rest) = refl

nothing_taken : (old new : Option (List ℕ)) → new ≡ old → TakesFew most_input old new
nothing_taken old new e = record { taken = []; few = omega arith; split = sym e ∙ nothing_left new }

-- words give one set of options

abbrev set_in : Line → Option Set
set_in (line.Check set) = Some set
set_in _ = None

some_same : {X : Type 0} {x y : X} → Some x ≡ Some y → x ≡ y
some_same e = cc

one_set : (words : List (List ℕ)) (s t : Set) → IsWords words s → IsWords words t → s ≡ t
one_set words s t a b = some_same (ap set_in (lines_are_one (codes "check" ∷ words) (line.Check s) (line.Check t) a b))

module _ (words : List (List ℕ)) (r : Ending) (f : Effect) where
  -- an ending that comes only of the source
  for_words : (P : Set → Type 0) → (r ≡ ending.NotALine → ⊥) → (r ≡ ending.Memory → ⊥) → ((set : Set) → Judges set r f → P set) → Answers words r f → ForWords words P
  for_words P a b k (no_line n d) = absurd (a d.is)
  for_words P a b k (served set is j) = record { set = set; is = is; holds = k set j }
  for_words P a b k (no_memory d) = absurd (b d.is)

  by_source : (P : Type 0) → (r ≡ ending.NotALine → ⊥) → (r ≡ ending.Memory → ⊥) → ((set : Set) → Judges set r f → P) → Answers words r f → P
  by_source P a b k (no_line n d) = absurd (a d.is)
  by_source P a b k (served set is j) = k set j
  by_source P a b k (no_memory d) = absurd (b d.is)

  -- what follows of the input that was left, for these options, where want of memory allows it
  ended : (set : Set) → IsWords words set → (P : List ℕ → Type 0) → (r ≡ ending.Memory → (input : List ℕ) → P input) → ((input : List ℕ) → Came set r f input → P input) → Answers words r f → IfSome f.left_old P
  ended set is P m k (no_line n d) = absurd (n set is)
  ended set is P m k (served s i j) = told_by set r f P k (subst (λ z. Judges z r f) (one_set words s set i is) j)
  ended set is P m k (no_memory d) = every f.left_old P (m d.is)

  -- Words

  no_line_of : Answers words r f → r ≡ ending.NotALine → IsNoWords words
  no_line_of (no_line n d) e = n
  no_line_of (served set is j) e = absurd (is_line set r f e j)
  no_line_of (no_memory d) e = let z = sym d.is ∙ e in cc

  ends_none : Answers words r f → IsNoWords words → Ends (λ e. e ≡ ending.NotALine) ⊥ ⊥ r
  ends_none (no_line n d) none = subst (Ends (λ e. e ≡ ending.NotALine) ⊥ ⊥) (sym d.is) refl
  ends_none (served set is j) none = absurd (none set is)
  ends_none (no_memory d) none = subst (Ends (λ e. e ≡ ending.NotALine) ⊥ ⊥) (sym d.is) tt

  -- The streams

  kept_of : Answers words r f → IsTrue (writes_nothing r) → f.held_new ≡ f.held_old
  kept_of (no_line n d) k = d.unwritten
  kept_of (served set is j) k = kept_by set r f j k
  kept_of (no_memory d) k = d.unwritten

  few_of : Answers words r f → TakesFew most_input f.left_old f.left_new
  few_of (no_line n d) = nothing_taken f.left_old f.left_new d.unread
  few_of (served set is j) = j.few
  few_of (no_memory d) = nothing_taken f.left_old f.left_new d.unread

  unread_of : Answers words r f → IsNoWords words → f.left_new ≡ f.left_old
  unread_of (no_line n d) none = d.unread
  unread_of (served set is j) none = absurd (none set is)
  unread_of (no_memory d) none = d.unread

module _ {words : List (List ℕ)} {r : Ending} {f : Effect} (a : Answers words r f) where
  abbrev the_call : Call
  the_call = record { words = words; ending = r; effect = f }

  -- an ending that comes only of the source: what it tells of the input that was left
  module _ (x : Ending) (e : r ≡ x) (line : ending.NotALine ≡ x → ⊥) (memory : ending.Memory ≡ x → ⊥) where
    of_input : (P : Set → List ℕ → Type 0) → ((set : Set) (input : List ℕ) → Tells set r f input x → P set input) → ForWords words (λ set. IfSome f.left_old (P set))
    of_input P k = for_words words r f (λ set. IfSome f.left_old (P set)) (λ h. line (sym h ∙ e)) (λ h. memory (sym h ∙ e)) (λ set j. told_as set r f x (P set) (k set) e j) a

    of_any_input : (P : List ℕ → Type 0) → ((set : Set) (input : List ℕ) → Tells set r f input x → P input) → IfSome f.left_old P
    of_any_input P k = by_source words r f (IfSome f.left_old P) (λ h. line (sym h ∙ e)) (λ h. memory (sym h ∙ e)) (λ set j. told_as set r f x P (k set) e j) a

    of_source : (P : Type 0) → ((set : Set) → Judges set r f → P) → P
    of_source P k = by_source words r f P (λ h. line (sym h ∙ e)) (λ h. memory (sym h ∙ e)) k a

  -- Words

  pub not_a_line : TellsNoLine the_call
  not_a_line e = no_line_of words r f a e

  pub ends_no_line : NoLineEnds the_call
  ends_no_line none = ends_none words r f a none

  -- Certificates

  pub accepted : TellsAccepted the_call
  accepted e = of_input ending.Accepted e (λ q. cc) (λ q. cc) (λ set input. TakesSketch set input IsAccepted × Appends accepted_text f.held_old f.held_new) (λ set input t. t)

  pub rejected : TellsRejected the_call
  rejected reason e = of_input (ending.Rejected reason) e (λ q. cc) (λ q. cc) (λ set input. TakesSketch set input (IsRejectedFor reason) × Appends (rejected_line reason) f.held_old f.held_new) (λ set input t. t)

  pub not_certificate : TellsNoForm the_call
  not_certificate told e = of_input (ending.NotCertificate told) e (λ q. cc) (λ q. cc) (λ set input. TakesSketch set input (IsNone told)) (λ set input t. t)

  -- Inputs that are refused

  pub not_text : TellsNotText the_call
  not_text told e = of_input (ending.NotText told) e (λ q. cc) (λ q. cc) (λ set input. IsFaultOfCheck set input (fault.Sketch (sketch.NotText told))) (λ set input t. t.0)

  pub text_place : PlacesNotText the_call
  text_place told e = of_any_input (ending.NotText told) e (λ q. cc) (λ q. cc) (λ input. IsPlacedFault input (fault.Sketch (sketch.NotText told))) (λ set input t. t.1)

  pub not_typed : TellsNotTyped the_call
  not_typed told e = of_input (ending.NotTyped told) e (λ q. cc) (λ q. cc) (λ set input. IsFaultOfCheck set input (fault.Sketch (sketch.NotTyped told))) (λ set input t. t.0)

  pub type_place : PlacesNotTyped the_call
  type_place told e = of_any_input (ending.NotTyped told) e (λ q. cc) (λ q. cc) (λ input. IsPlacedFault input (fault.Sketch (sketch.NotTyped told))) (λ set input t. t.1)

  pub too_large : TellsTooLarge the_call
  too_large reason e = of_input (ending.TooLarge reason) e (λ q. cc) (λ q. cc) (λ set input. IsFaultOfCheck set input (fault.Sketch (sketch.TooLarge reason))) (λ set input t. t)

  pub too_long : TellsTooLong the_call
  too_long e = of_any_input ending.TooLong e (λ q. cc) (λ q. cc) IsTooLong (λ set input t. t)

  -- The streams

  pub read_fault : TellsReadFault the_call
  read_fault e = of_source ending.ReadFault e (λ q. cc) (λ q. cc) (Rose f.read_faults_old f.read_faults_new) (λ set j. read_fault_by set r f e j)

  pub write_fault : TellsWriteFault the_call
  write_fault e = of_source ending.WriteFault e (λ q. cc) (λ q. cc) (Rose f.write_faults_old f.write_faults_new) (λ set j. write_fault_by set r f e j)

  pub prefix : CutsLine the_call
  prefix e = of_input ending.WriteFault e (λ q. cc) (λ q. cc) (λ set input. WritesPart (IsLineOf set input) f.held_old f.held_new) (λ set input t. t.1)

  pub kept : KeepsSink the_call
  kept k = kept_of words r f a k

  pub few : ReadsFew the_call
  few = few_of words r f a

  pub unread : LeavesSource the_call
  unread none = unread_of words r f a none

  -- What follows from the input

  abbrev Ended : (Ending → Type 0) → Type 0 → Type 0
  Ended So sink = Ends So (Rose f.read_faults_old f.read_faults_new) sink r

  abbrev SinkFailed : Type 0
  SinkFailed = Rose f.write_faults_old f.write_faults_new

  in_memory : (So : Ending → Type 0) (sink : Type 0) → r ≡ ending.Memory → Ended So sink
  in_memory So sink e = subst (Ends So (Rose f.read_faults_old f.read_faults_new) sink) (sym e) tt

  pub ends_checked : CheckedEnds the_call
  ends_checked set is =
      ended words r f set is (λ input. length input ≤ most_input → TakesSketch set input IsSomeCertificate → Ended IsOfVerdict SinkFailed)
      (λ m input short takes. in_memory IsOfVerdict SinkFailed m) (λ input came short takes. end.checked_ends set r f input short takes came) a

  pub ends_accepted : AcceptedEnds the_call
  ends_accepted set is =
      ended words r f set is (λ input. length input ≤ most_input → TakesSketch set input IsAccepted → Ended IsOfAccepted SinkFailed)
      (λ m input short takes. in_memory IsOfAccepted SinkFailed m) (λ input came short takes. end.accepted_ends set r f input short takes came) a

  pub ends_rejected : RejectedEnds the_call
  ends_rejected set is =
      ended words r f set is (λ input. length input ≤ most_input → (reason : Reason) → part_number reason < 6 → TakesSketch set input (IsRejectedFor reason) → Ended (λ e. e ≡ ending.Rejected reason) SinkFailed)
      (λ m input short reason h takes. in_memory (λ e. e ≡ ending.Rejected reason) SinkFailed m) (λ input came short reason h takes. end.rejected_ends set r f input reason h short takes came) a

  pub ends_not_certificate : NoFormEnds the_call
  ends_not_certificate set is =
      ended words r f set is (λ input. length input ≤ most_input → (told : CertFault) → TakesSketch set input (IsNone told) → Ended (λ e. e ≡ ending.NotCertificate told) ⊥)
      (λ m input short told takes. in_memory (λ e. e ≡ ending.NotCertificate told) ⊥ m) (λ input came short told takes. end.no_form_ends set r f input told short takes came) a

  pub ends_refused : RefusedEnds the_call
  ends_refused set is =
      ended words r f set is (λ input. length input ≤ most_input → (told : CheckFault) → IsCause set input told → Ended (IsOfRefused told) ⊥)
      (λ m input short told cause. in_memory (IsOfRefused told) ⊥ m) (λ input came short told cause. end.refused_ends set r f input told short cause came) a

  pub ends_long : LongEnds the_call
  ends_long set is =
      ended words r f set is (λ input. IsTooLong input → Ended (λ e. e ≡ ending.TooLong) ⊥)
      (λ m input over. in_memory (λ e. e ≡ ending.TooLong) ⊥ m) (λ input came over. end.long_ends set r f input over came) a
