-- What follows for a line `all` or `why` from what it does for its source.
use Rattle.std.proofs.Common.{◌≡◌, ℕ, ◌≤◌, Bool, true, false, List, length, refl, sym, ap, subst, ◌∙◌}
use Rattle.std.specs.Prelude.{IsTrue, IfSome}
use Rattle.std.proofs.lemmas.Bool.{false≢true}
use Rattle.sk_base.specs.Stream.{Rose}
use Rattle.sk_base.specs.declared.bounds.Bounds.{Bounds}
use Rattle.sk_types_laws.specs.declared.fault.TypeFault.{TypeFault}
use Rattle.sk_model.specs.declared.expanded.Choice.{Choice}
use Rattle.sk_model.specs.declared.expanded.Expanded.{Expanded}
use Rattle.sk_opts.specs.declared.line.Set.{Set}
use Rattle.sk_front.specs.declared.fault.SketchFault.{SketchFault}
use Rattle.sk_front.specs.declared.fault.SketchFault.TheVariants as fault
use Rattle.sk_front.specs.Texts.{most_bytes, HasSpan}
use Rattle.sk_front.specs.Front.{IsFaultOfSizes}
use Rattle.sk_min_laws.specs.Best.{Meeting}
use Rattle.sk_all_text.specs.Built.{IsBuilt, IsTaken}
use Rattle.sk_app.specs.declared.listing.Question.{Question}
use Rattle.sk_app.specs.declared.listing.Question.TheVariants as question
use Rattle.sk_app.specs.Questions.{Reply, OfList, OfReasons, OfCompletion, IsReply, ending_with}
use Rattle.sk_app.specs.declared.ending.Ending.{Ending}
use Rattle.sk_app.specs.declared.ending.Ending.TheVariants as ending
use Rattle.sk_app.specs.Ends.{IsDelivered, delivered, cut, no_room, Writes, WritesPart, writes_nothing, IsToldOf}
use Rattle.sk_app.proofs.Endings.{EndsReply}
use Rattle.sk_app.specs.Call.{Effect}
use Rattle.sk_app.specs.Effects.{refusal, RepliesTo, unanswered, replied, AsksSource, failed, long, wanting, whole}
use Rattle.sk_app.proofs.EndingLemmas.{delivers_no_fault, refused_place}
use Rattle.sk_app.proofs.ToldLaws.{taken_or_cause}
use Rattle.sk_app.proofs.SourceLaws.{differ, too_long, Came as CameTo, came_failed, came_long, came_wanting, came_whole, told_of}

-- Kinds of endings

-- the endings of a line `all` or `why`
abbrev pub is_of_question : Ending → Bool
is_of_question (ending.NotText told) = true
is_of_question (ending.NotTyped told) = true
is_of_question (ending.TooLarge reason) = true
is_of_question ending.Listed = true
is_of_question ending.Explained = true
is_of_question ending.Met = true
is_of_question ending.ReadFault = true
is_of_question ending.WriteFault = true
is_of_question ending.TooLong = true
is_of_question ending.Memory = true
is_of_question _ = false

-- a reply that is written ends so
abbrev pub is_reply : Ending → Bool
is_reply ending.Listed = true
is_reply ending.Explained = true
is_reply ending.Met = true
is_reply _ = false

reply_is : (p : Reply) → is_reply (ending_with p) ≡ true
reply_is OfList = refl
reply_is OfReasons = refl
reply_is OfCompletion = refl

reply_is_of_question : (p : Reply) → is_of_question (ending_with p) ≡ true
reply_is_of_question OfList = refl
reply_is_of_question OfReasons = refl
reply_is_of_question OfCompletion = refl

reply_writes : (p : Reply) → writes_nothing (ending_with p) ≡ false
reply_writes OfList = refl
reply_writes OfReasons = refl
reply_writes OfCompletion = refl

one_reply : (p q : Reply) → ending_with p ≡ ending_with q → p ≡ q
one_reply OfList OfList e = refl
one_reply OfList OfReasons e = cc
one_reply OfList OfCompletion e = cc
one_reply OfReasons OfList e = cc
one_reply OfReasons OfReasons e = refl
one_reply OfReasons OfCompletion e = cc
one_reply OfCompletion OfList e = cc
one_reply OfCompletion OfReasons e = cc
one_reply OfCompletion OfCompletion e = refl

refusal_is_of_question : (t : SketchFault) → is_of_question (refusal t) ≡ true
refusal_is_of_question (fault.NotText a) = refl
refusal_is_of_question (fault.NotTyped a) = refl
refusal_is_of_question (fault.TooLarge a) = refl
refusal_is_of_question fault.Memory = refl

refusal_is_no_reply : (t : SketchFault) → is_reply (refusal t) ≡ false
refusal_is_no_reply (fault.NotText a) = refl
refusal_is_no_reply (fault.NotTyped a) = refl
refusal_is_no_reply (fault.TooLarge a) = refl
refusal_is_no_reply fault.Memory = refl

refusal_no_write_fault : {A : Type 0} (t : SketchFault) → refusal t ≡ ending.WriteFault → A
refusal_no_write_fault (fault.NotText a) e = cc
refusal_no_write_fault (fault.NotTyped a) e = cc
refusal_no_write_fault (fault.TooLarge a) e = cc
refusal_no_write_fault fault.Memory e = cc

reply_no_fault : (p : Reply) (f : TypeFault) → ending_with p ≡ ending.NotTyped f → ⊥
reply_no_fault OfList f e = cc
reply_no_fault OfReasons f e = cc
reply_no_fault OfCompletion f e = cc

ends_as : (p : Reply) (a b c d : ℕ) → EndsReply p (ending_with p) a b c d
ends_as OfList a b c d = refl
ends_as OfReasons a b c d = refl
ends_as OfCompletion a b c d = refl

-- What an ending tells of the text

taken_of : (set : Set) (q : Question) (text : List ℕ) (p : Reply) (out : List ℕ) → IsReply set q text p out → IsTaken set text
taken_of set (question.Which most) text OfList out i = record { bounds = i.bounds; e = i.e; built = i.only.built }
taken_of set (question.Which most) text OfReasons out i = absurd i
taken_of set (question.Which most) text OfCompletion out i = absurd i
taken_of set question.Why text OfList out i = absurd i
taken_of set question.Why text OfReasons out i = record { bounds = i.bounds; e = i.e; built = i.only.built }
taken_of set question.Why text OfCompletion out i = record { bounds = i.bounds; e = i.e; built = i.only.built }

module _ (set : Set) (text : List ℕ) (a b c d : ℕ) where
  reply_told : (p : Reply) → IsTaken set text → IsToldOf set text (ending_with p) a b c d
  reply_told OfList t = t
  reply_told OfReasons t = t
  reply_told OfCompletion t = t

  refusal_told : (t : SketchFault) → length text ≤ most_bytes → IsFaultOfSizes set text t → IsToldOf set text (refusal t) a b c d
  refusal_told (fault.NotText told) short i = (short, i)
  refusal_told (fault.NotTyped told) short i = (short, i)
  refusal_told (fault.TooLarge reason) short i = i
  refusal_told fault.Memory short i = tt

-- Which replies there are

-- there is one of some text
pub record Given (set : Set) (q : Question) (p : Reply) : Type 0 where
  pub text : List ℕ
  pub out : List ℕ
  pub is : IsReply set q text p out

-- a line `all` has one
pub only_list : (set : Set) (most : ℕ) (text : List ℕ) (p : Reply) (out : List ℕ) → IsReply set (question.Which most) text p out → p ≡ OfList
only_list set most text OfList out i = refl
only_list set most text OfReasons out i = absurd i
only_list set most text OfCompletion out i = absurd i

-- what meets the obligations of one expansion of a text meets those of another
moved : (bounds b : Bounds) (e f : Expanded) (c : Choice) → (bounds ≡ b) × (e ≡ f) → Meeting f b c → Meeting e bounds c
moved bounds b e f c same m = subst (λ z. Meeting z bounds c) (sym same.1) (subst (λ z. Meeting f z c) (sym same.0) m)

-- a line `why` has one, by whether there is a completion

pub only_reasons : (set : Set) (text : List ℕ) (bounds : Bounds) (e : Expanded) → IsBuilt set text bounds e → ((c : Choice) → Meeting e bounds c → ⊥) → (p : Reply) (out : List ℕ) → IsReply set question.Why text p out → p ≡ OfReasons
only_reasons set text bounds e is none OfList out i = absurd i
only_reasons set text bounds e is none OfReasons out i = refl
only_reasons set text bounds e is none OfCompletion out i = let m = i.holds in absurd (none m.choice (moved bounds i.bounds e i.e m.choice (i.only.only bounds e is) m.meeting))

pub only_completion : (set : Set) (text : List ℕ) (bounds : Bounds) (e : Expanded) → IsBuilt set text bounds e → (c : Choice) → Meeting e bounds c → (p : Reply) (out : List ℕ) → IsReply set question.Why text p out → p ≡ OfCompletion
only_completion set text bounds e is c meeting OfList out i = absurd i
only_completion set text bounds e is c meeting OfReasons out i =
    let same = i.only.only bounds e is in
    absurd (i.holds.none c (moved i.bounds bounds i.e e c (sym same.0, sym same.1) meeting))
only_completion set text bounds e is c meeting OfCompletion out i = refl

module _ (set : Set) (q : Question) (r : Ending) (f : Effect) where
  abbrev pub Does : List ℕ → Type 0
  Does text = RepliesTo set q text r f.write_faults_old f.write_faults_new f.held_old f.held_new

  abbrev pub Came : List ℕ → Type 0
  Came = CameTo most_bytes Does r f

  abbrev Told : List ℕ → Ending → Type 0
  Told text x = IsToldOf set text x f.read_faults_old f.read_faults_new f.write_faults_old f.write_faults_new

  -- Whatever the text is

  of_text : (text : List ℕ) → Does text → is_of_question r ≡ true
  of_text text (unanswered t i at e same) = ap is_of_question e ∙ refusal_is_of_question t
  of_text text (replied p out i w) = elim w [ delivered is y ↦ ap is_of_question is ∙ reply_is_of_question p | cut is y ↦ ap is_of_question is | no_room is same ↦ ap is_of_question is ]

  of_line : AsksSource set q r f → is_of_question r ≡ true
  of_line (failed e rose same) = ap is_of_question e
  of_line (long e over same) = ap is_of_question e
  of_line (wanting e same) = ap is_of_question e
  of_line (whole text w x) = of_text text x

  pub question_not : {A : Type 0} (x : Ending) → is_of_question x ≡ false → AsksSource set q r f → r ≡ x → A
  question_not x b s e = differ is_of_question x r b (of_line s) (sym e)

  kept_text : (text : List ℕ) → Does text → IsTrue (writes_nothing r) → f.held_new ≡ f.held_old
  kept_text text (unanswered t i at e same) k = same
  kept_text text (replied p out i w) k = elim w [
    | delivered is y ↦ absurd (false≢true (sym (reply_writes p) ∙ ap writes_nothing (sym is) ∙ k))
    | cut is y ↦ absurd (false≢true (ap writes_nothing (sym is) ∙ k))
    | no_room is same ↦ same
  ]

  pub kept_by : AsksSource set q r f → IsTrue (writes_nothing r) → f.held_new ≡ f.held_old
  kept_by (failed e rose same) k = same
  kept_by (long e over same) k = same
  kept_by (wanting e same) k = same
  kept_by (whole text w x) k = kept_text text x k

  -- What is told of the text

  told_text : (text : List ℕ) → length text ≤ most_bytes → Does text → Told text r
  told_text text short (unanswered t i at e same) = subst (Told text) (sym e) (refusal_told set text f.read_faults_old f.read_faults_new f.write_faults_old f.write_faults_new t short i)
  told_text text short (replied p out i w) = elim w [
    | delivered is y ↦ subst (Told text) (sym is) (reply_told set text f.read_faults_old f.read_faults_new f.write_faults_old f.write_faults_new p (taken_of set q text p out i))
    | cut is y ↦ subst (Told text) (sym is) (y.rose, taken_of set q text p out i)
    | no_room is same ↦ subst (Told text) (sym is) tt
  ]

  pub told : (text : List ℕ) → Came text → IsToldOf set text r f.read_faults_old f.read_faults_new f.write_faults_old f.write_faults_new
  told text (came_failed e rose) = subst (Told text) (sym e) rose
  told text (came_long e over) = subst (Told text) (sym e) over
  told text (came_wanting e) = subst (Told text) (sym e) tt
  told text (came_whole short x) = told_text text short x

  pub told_by : (P : List ℕ → Type 0) → ((text : List ℕ) → Came text → P text) → AsksSource set q r f → IfSome f.left_old P
  told_by = told_of most_bytes Does r f

  -- what is told of the text where the ending is this one
  pub told_as : (x : Ending) (P : List ℕ → Type 0) → ((text : List ℕ) → IsToldOf set text x f.read_faults_old f.read_faults_new f.write_faults_old f.write_faults_new → P text) → r ≡ x → AsksSource set q r f → IfSome f.left_old P
  told_as x P k e = told_by P (λ text came. k text (subst (Told text) e (told text came)))

  pub read_fault_by : AsksSource set q r f → r ≡ ending.ReadFault → Rose f.read_faults_old f.read_faults_new
  read_fault_by (failed e rose same) is = rose
  read_fault_by (long e over same) is = let z = sym e ∙ is in cc
  read_fault_by (wanting e same) is = let z = sym e ∙ is in cc
  read_fault_by (whole text w x) is = subst (Told text) is (told_text text w.short x)

  pub write_fault_by : AsksSource set q r f → r ≡ ending.WriteFault → Rose f.write_faults_old f.write_faults_new
  write_fault_by (failed e rose same) is = let z = sym e ∙ is in cc
  write_fault_by (long e over same) is = let z = sym e ∙ is in cc
  write_fault_by (wanting e same) is = let z = sym e ∙ is in cc
  write_fault_by (whole text w x) is = (subst (Told text) is (told_text text w.short x)).0

  -- a fault of types is told at a span of the text
  pub place_by : (t : TypeFault) → r ≡ ending.NotTyped t → (text : List ℕ) → Came text → HasSpan text t.span
  place_by t is text (came_failed e rose) = let z = sym e ∙ is in cc
  place_by t is text (came_long e over) = let z = sym e ∙ is in cc
  place_by t is text (came_wanting e) = let z = sym e ∙ is in cc
  place_by t is text (came_whole short (unanswered s i at e same)) = refused_place text s r t at e is
  place_by t is text (came_whole short (replied p out i w)) = delivers_no_fault r (ending_with p) out f.write_faults_old f.write_faults_new f.held_old f.held_new t (reply_no_fault p t) w is

  -- What is written

  -- an ending that writes no reply is not one with a reply
  no_reply : {A : Type 0} (p : Reply) (x : Ending) → is_reply x ≡ false → r ≡ x → r ≡ ending_with p → A
  no_reply p x b e is = differ is_reply x (ending_with p) b (reply_is p) (sym e ∙ is)

  pub written_by : (p : Reply) → r ≡ ending_with p → (text : List ℕ) → Came text → Writes (IsReply set q text p) f.held_old f.held_new
  written_by p is text (came_failed e rose) = no_reply p ending.ReadFault refl e is
  written_by p is text (came_long e over) = no_reply p ending.TooLong refl e is
  written_by p is text (came_wanting e) = no_reply p ending.Memory refl e is
  written_by p is text (came_whole short (unanswered t i at e same)) = no_reply p (refusal t) (refusal_is_no_reply t) e is
  written_by p is text (came_whole short (replied other out i w)) = elim w [
    | delivered e y ↦ record { out = out; is = subst (λ z. IsReply set q text z out) (one_reply other p (sym e ∙ is)) i; appends = y.appends }
    | cut e y ↦ no_reply p ending.WriteFault refl e is
    | no_room e same ↦ no_reply p ending.Memory refl e is
  ]

  -- such a reply there is, whatever the source tells
  pub reply_by : (p : Reply) → r ≡ ending_with p → AsksSource set q r f → Given set q p
  reply_by p is (failed e rose same) = no_reply p ending.ReadFault refl e is
  reply_by p is (long e over same) = no_reply p ending.TooLong refl e is
  reply_by p is (wanting e same) = no_reply p ending.Memory refl e is
  reply_by p is (whole text w (unanswered t i at e same)) = no_reply p (refusal t) (refusal_is_no_reply t) e is
  reply_by p is (whole text w (replied other out i x)) = elim x [
    | delivered e y ↦ record { text = text; out = out; is = subst (λ z. IsReply set q text z out) (one_reply other p (sym e ∙ is)) i }
    | cut e y ↦ no_reply p ending.WriteFault refl e is
    | no_room e same ↦ no_reply p ending.Memory refl e is
  ]

  abbrev pub Any : List ℕ → List ℕ → Type 0
  Any text out = (p : Reply) × IsReply set q text p out

  pub prefix_by : (text : List ℕ) → Came text → r ≡ ending.WriteFault → WritesPart (Any text) f.held_old f.held_new
  prefix_by text (came_failed e rose) is = let z = sym e ∙ is in cc
  prefix_by text (came_long e over) is = let z = sym e ∙ is in cc
  prefix_by text (came_wanting e) is = let z = sym e ∙ is in cc
  prefix_by text (came_whole short (unanswered t i at e same)) is = refusal_no_write_fault t (sym e ∙ is)
  prefix_by text (came_whole short (replied p out i w)) is = elim w [
    | delivered e y ↦ no_reply p ending.WriteFault refl is e
    | cut e y ↦ record { out = out; is = (p, i); appends = y.appends }
    | no_room e same ↦ let z = sym e ∙ is in cc
  ]

  -- What follows from the text

  -- a text that is taken ends with its one reply
  module _ (wanted : Reply) (text : List ℕ) where
    abbrev Wanted : Ending → Type 0
    Wanted x = EndsReply wanted x f.read_faults_old f.read_faults_new f.write_faults_old f.write_faults_new

    by_cause : (bounds : Bounds) (e : Expanded) → IsBuilt set text bounds e → (t : SketchFault) → IsFaultOfSizes set text t → Wanted (refusal t)
    by_cause bounds e is (fault.NotText told) i = taken_or_cause set text (fault.NotText told) (record { bounds = bounds; e = e; built = is }) i
    by_cause bounds e is (fault.NotTyped told) i = taken_or_cause set text (fault.NotTyped told) (record { bounds = bounds; e = e; built = is }) i
    by_cause bounds e is (fault.TooLarge reason) i = taken_or_cause set text (fault.TooLarge reason) (record { bounds = bounds; e = e; built = is }) i
    by_cause bounds e is fault.Memory i = tt

    reply_is_wanted : Wanted (ending_with wanted)
    reply_is_wanted = ends_as wanted f.read_faults_old f.read_faults_new f.write_faults_old f.write_faults_new

    by_writing : (p : Reply) (out : List ℕ) → p ≡ wanted → IsDelivered r (ending_with p) out f.write_faults_old f.write_faults_new f.held_old f.held_new → Wanted r
    by_writing p out same w = elim w [ delivered e y ↦ subst Wanted (sym (e ∙ ap ending_with same)) reply_is_wanted | cut e y ↦ subst Wanted (sym e) y.rose | no_room e kept ↦ subst Wanted (sym e) tt ]

    pub ends_with : Came text → (bounds : Bounds) (e : Expanded) → IsBuilt set text bounds e → ((p : Reply) (out : List ℕ) → IsReply set q text p out → p ≡ wanted) → EndsReply wanted r f.read_faults_old f.read_faults_new f.write_faults_old f.write_faults_new
    ends_with (came_failed e rose) bounds x is only = subst Wanted (sym e) rose
    ends_with (came_long e over) bounds x is only = too_long text is.sized.typed.short over
    ends_with (came_wanting e) bounds x is only = subst Wanted (sym e) tt
    ends_with (came_whole short (unanswered t i at e same)) bounds x is only = subst Wanted (sym e) (by_cause bounds x is t i)
    ends_with (came_whole short (replied p out i w)) bounds x is only = by_writing p out (only p out i) w
