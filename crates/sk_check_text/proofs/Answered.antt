-- What holds of an input is what is answered, unless memory runs out.
use Rattle.std.proofs.Common.{◌≡◌, ℕ, ◌+◌, ◌≤◌, ◌<◌, cond, eqb, List, ◌++◌, length, refl, sym, ap, subst, ◌∙◌, arith}
use Rattle.std.specs.Prelude.{⊤, Result, Ok, Err, IfOk, IfErr, MatchResult}
use Rattle.std.proofs.lemmas.List.{append_cancel_left}
use Rattle.sk_base.specs.declared.bounds.Bounds.{Bounds}
use Rattle.sk_model.specs.declared.expanded.Expanded.{Expanded}
use Rattle.sk_cert.specs.declared.certificate.Certificate.{Certificate}
use Rattle.sk_cert.specs.declared.fault.CertFault.{CertFault}
use Rattle.sk_cert.specs.declared.fault.CertFault.TheVariants as cert
use Rattle.sk_cert.specs.Certificates.{IsCertificate}
use Rattle.sk_cert.specs.Departing.{IsFault, DepartsAt, IsOtherVersion, line_feeds}
use Rattle.sk_cert.proofs.Departure.{unique, departs_once}
use Rattle.sk_check_laws.specs.declared.reason.Reason.{Reason}
use Rattle.sk_check_laws.specs.declared.reason.Reason.TheVariants as reason
use Rattle.sk_check_laws.specs.Parts.{Certifies}
use Rattle.sk_check_laws.specs.Rejected.{IsRejected, part_number}
use Rattle.sk_check_laws.proofs.Excluding.{rejected_once, rejected_is_not_certified}
use Rattle.sk_opts.specs.declared.line.Set.{Set}
use Rattle.sk_front.specs.Texts.{most_bytes}
use Rattle.sk_front.specs.Front.{IsFaultOfSizes}
use Rattle.sk_front.specs.Front as front
use Rattle.sk_built_laws.specs.Built.{ForBuilt}
use Rattle.sk_built_laws.proofs.Refusals as refusals
use Rattle.sk_check_text.specs.declared.checking.Checked.{Checked}
use Rattle.sk_check_text.specs.declared.checking.Checked.TheVariants as checked
use Rattle.sk_check_text.specs.declared.fault.CheckFault.{CheckFault}
use Rattle.sk_check_text.specs.declared.fault.CheckFault.TheVariants as fault
use Rattle.sk_check_text.specs.Splitting.{Splits}
use Rattle.sk_check_text.specs.Checking.{IsAccepted, IsRejectedFor, IsSomeCertificate, IsNone, IsSaid, OfParts, TakesSketch, IsChecked, IsFaultOfCheck, IsCause, IsMemory, IsToldAs, IsVerdict, IsAcceptedButFormulas}
use Rattle.sk_check_text.proofs.FirstMark.{splits_once}

-- Texts that are no certificate

fault_or_certificate : (text : List ℕ) (f : CertFault) (c : Certificate) → IsFault text f → IsCertificate text c → ⊥
fault_or_certificate text (cert.NoForm line) c (left, at, form) is = at.departs.none c is
fault_or_certificate text (cert.Version line) c (left, at, version) is = at.departs.none c is
fault_or_certificate text cert.Memory c h is = h

-- a text departs on one line, and what is left of it there is one
one_line : (text : List ℕ) (m n : ℕ) (a b : List ℕ) → DepartsAt text m a → DepartsAt text n b → m ≡ n
one_line text m n a b x y = x.number ∙ ap (λ t. line_feeds t + 1) (departs_once text x.front a y.front b x.departs y.departs) ∙ sym y.number

one_left : (text : List ℕ) (m n : ℕ) (a b : List ℕ) → DepartsAt text m a → DepartsAt text n b → a ≡ b
one_left text m n a b x y =
    let same : x.front ≡ y.front = departs_once text x.front a y.front b x.departs y.departs in
    append_cancel_left y.front a b (ap (λ t. t ++ a) (sym same) ∙ sym x.departs.is ∙ y.departs.is)

one_fault : (text : List ℕ) (f g : CertFault) → IsFault text f → IsFault text g → f ≡ g
one_fault text (cert.NoForm m) (cert.NoForm n) (a, x, form) (b, y, also) = ap cert.NoForm (one_line text m n a b x y)
one_fault text (cert.NoForm m) (cert.Version n) (a, x, form) (b, y, version) = absurd (form (subst IsOtherVersion (sym (one_left text m n a b x y)) version))
one_fault text (cert.Version m) (cert.NoForm n) (a, x, version) (b, y, form) = absurd (form (subst IsOtherVersion (one_left text m n a b x y) version))
one_fault text (cert.Version m) (cert.Version n) (a, x, version) (b, y, also) = ap cert.Version (one_line text m n a b x y)
one_fault text cert.Memory g x y = absurd x
one_fault text (cert.NoForm m) cert.Memory x y = absurd y
one_fault text (cert.Version m) cert.Memory x y = absurd y

-- Reasons

-- the reason with a number below 6
by_number : ℕ → Reason
by_number n = cond (eqb n 1) reason.Values (cond (eqb n 2) reason.Inputs (cond (eqb n 3) reason.Upper (cond (eqb n 4) reason.Lower reason.Text)))

numbered : (r : Reason) → part_number r < 6 → by_number (part_number r) ≡ r
unfolding by_number
numbered reason.Values h = refl
numbered reason.Inputs h = refl
numbered reason.Upper h = refl
numbered reason.Lower h = refl
numbered reason.Text h = refl
numbered (reason.Formula own) h = absurd (omega (arith, h))

same_reason : (r s : Reason) → part_number r < 6 → part_number s ≡ part_number r → s ≡ r
same_reason r s h e =
    let k : part_number s < 6 = subst (λ n. n < 6) (sym e) h in
    sym (numbered s k) ∙ ap by_number e ∙ numbered r h

-- What is said of a text as the certificate of an expansion

module _ (text : List ℕ) (bounds : Bounds) (e : Expanded) where
  -- what certifies is rejected for its formulas alone
  certified_number : (c d : Certificate) (r : Reason) → IsCertificate text c → IsCertificate text d → Certifies e bounds c → IsRejected e bounds d r → part_number r < 6 → ⊥
  certified_number c d r x y certifies rejected h =
      rejected_is_not_certified e bounds d r h rejected (subst (λ z. Certifies e bounds z) (unique text c d x y) certifies)

  at_least : (n : ℕ) → (n < 6 → ⊥) → 6 ≤ n
  at_least n h = omega (arith, h)

  pub verdict_said : (a : Checked) → IsSaid a text bounds e → IsSomeCertificate text bounds e → IsVerdict a
  verdict_said checked.Accepted x y = tt
  verdict_said (checked.Rejected r) x y = tt
  verdict_said (checked.NotCertificate f) x (c, is) = fault_or_certificate text f c x is

  pub accepted_said : (a : Checked) → IsSaid a text bounds e → IsAccepted text bounds e → IsAcceptedButFormulas a
  accepted_said checked.Accepted x y = tt
  accepted_said (checked.Rejected r) x y = at_least (part_number r) (certified_number y.certificate x.certificate r y.is x.is y.certifies x.rejected)
  accepted_said (checked.NotCertificate f) x y = fault_or_certificate text f y.certificate x y.is

  pub rejected_said : (r : Reason) → part_number r < 6 → (a : Checked) → IsSaid a text bounds e → IsRejectedFor r text bounds e → a ≡ checked.Rejected r
  rejected_said r h checked.Accepted x y = absurd (certified_number x.certificate y.certificate r x.is y.is x.certifies y.rejected h)
  rejected_said r h (checked.Rejected s) x y =
      let same : x.certificate ≡ y.certificate = unique text x.certificate y.certificate x.is y.is in
      let also : IsRejected e bounds y.certificate s = subst (λ z. IsRejected e bounds z s) same x.rejected in
      ap checked.Rejected (same_reason r s h (rejected_once e bounds y.certificate s r also y.rejected))
  rejected_said r h (checked.NotCertificate f) x y = absurd (fault_or_certificate text f y.certificate x y.is)

  pub none_said : (f : CertFault) (a : Checked) → IsSaid a text bounds e → IsNone f text bounds e → a ≡ checked.NotCertificate f
  none_said f checked.Accepted x y = absurd (fault_or_certificate text f x.certificate y x.is)
  none_said f (checked.Rejected s) x y = absurd (fault_or_certificate text f x.certificate y x.is)
  none_said f (checked.NotCertificate g) x y = ap checked.NotCertificate (one_fault text g f x y)

-- Inputs

module _ (set : Set) (input : List ℕ) where
  -- what holds of its parts holds of these
  moved : (Holds : List ℕ → List ℕ → Type 0) (s b : List ℕ) → Splits input s b → OfParts input Holds → Holds s b
  moved Holds s b splits x =
      let same = splits_once input x.sketch x.behind s b x.splits splits in
      subst (λ t. Holds t b) same.0 (subst (λ u. Holds x.sketch u) same.1 x.holds)

  short_of : (text : List ℕ) (Holds : Bounds → Expanded → Type 0) → ForBuilt set text Holds → length text ≤ most_bytes
  short_of text Holds x = x.only.built.sized.typed.short

  short_or_long : (text : List ℕ) → length text ≤ most_bytes → most_bytes < length text → ⊥
  short_or_long text x y = omega (arith, x, y)

  pub only_checked : (r : Result Checked CheckFault) → IfOk r (IsChecked set input) → IfErr r (IsFaultOfCheck set input) → (told : CheckFault) → IsCause set input told → MatchResult r (λ _. ⊥) (IsToldAs told)
  only_checked (Ok a) found is fault.TooLong cause =
      short_or_long found.sketch (short_of found.sketch (IsSaid a found.behind) found.holds) (moved (λ s b. most_bytes < length s) found.sketch found.behind found.splits cause)
  only_checked (Ok a) found is (fault.Sketch told) cause =
      let c = moved (λ s b. (length s ≤ most_bytes) × front.IsCause (IsFaultOfSizes set s) told) found.sketch found.behind found.splits cause in
      refusals.built_or_cause set found.sketch found.holds.bounds found.holds.e told found.holds.only.built c.1
  only_checked (Err fault.TooLong) found is fault.TooLong cause = tt
  only_checked (Err fault.TooLong) found is (fault.Sketch told) cause = let c = moved (λ s b. (length s ≤ most_bytes) × front.IsCause (IsFaultOfSizes set s) told) is.sketch is.behind is.splits cause in short_or_long is.sketch c.0 is.holds
  only_checked (Err (fault.Sketch f)) found is fault.TooLong cause =
      absurd (short_or_long is.sketch is.holds.short (moved (λ s b. most_bytes < length s) is.sketch is.behind is.splits cause))
  only_checked (Err (fault.Sketch f)) found is (fault.Sketch told) cause =
      let c = moved (λ s b. (length s ≤ most_bytes) × front.IsCause (IsFaultOfSizes set s) told) is.sketch is.behind is.splits cause in
      refusals.refused set is.sketch {A = Checked} (λ a bounds e. ⊤) (Err f) tt is.holds.cause told c.1

  -- where the sketch is taken, what is answered follows from what holds of its expansion
  taken : (Holds : List ℕ → Bounds → Expanded → Type 0) (That : Checked → Type 0) → ((a : Checked) (text : List ℕ) (bounds : Bounds) (e : Expanded) → IsSaid a text bounds e → Holds text bounds e → That a) → TakesSketch set input Holds → (r : Result Checked CheckFault) → IfOk r (IsChecked set input) → IfErr r (IsFaultOfCheck set input) → MatchResult r That IsMemory
  taken Holds That that takes (Ok a) found is =
      let x = found.holds in
      let y : ForBuilt set found.sketch (Holds found.behind) = moved (λ s b. ForBuilt set s (Holds b)) found.sketch found.behind found.splits takes in
      let same = x.only.only y.bounds y.e y.only.built in
      let holds : Holds found.behind x.bounds x.e = subst (λ b. Holds found.behind b x.e) same.0 (subst (λ f. Holds found.behind y.bounds f) same.1 y.holds) in
      that a found.behind x.bounds x.e x.holds holds
  taken Holds That that takes (Err fault.TooLong) found is =
      let y : ForBuilt set is.sketch (Holds is.behind) = moved (λ s b. ForBuilt set s (Holds b)) is.sketch is.behind is.splits takes in
      short_or_long is.sketch (short_of is.sketch (Holds is.behind) y) is.holds
  taken Holds That that takes (Err (fault.Sketch f)) found is =
      let y : ForBuilt set is.sketch (Holds is.behind) = moved (λ s b. ForBuilt set s (Holds b)) is.sketch is.behind is.splits takes in
      refusals.taken set is.sketch {A = Checked} (λ a. IsSaid a is.behind) That y.bounds y.e y.only.built (λ a x. that a is.behind y.bounds y.e x y.holds) (Err f) tt is.holds.cause

  module _ (r : Result Checked CheckFault) (found : IfOk r (IsChecked set input)) (is : IfErr r (IsFaultOfCheck set input)) where
    pub verdict_taken : TakesSketch set input IsSomeCertificate → MatchResult r IsVerdict IsMemory
    verdict_taken takes = taken IsSomeCertificate IsVerdict (λ a text bounds e x y. verdict_said text bounds e a x y) takes r found is

    pub accepted_taken : TakesSketch set input IsAccepted → MatchResult r IsAcceptedButFormulas IsMemory
    accepted_taken takes = taken IsAccepted IsAcceptedButFormulas (λ a text bounds e x y. accepted_said text bounds e a x y) takes r found is

    pub rejected_taken : (q : Reason) → part_number q < 6 → TakesSketch set input (IsRejectedFor q) → MatchResult r (λ a. a ≡ checked.Rejected q) IsMemory
    rejected_taken q h takes = taken (IsRejectedFor q) (λ a. a ≡ checked.Rejected q) (λ a text bounds e x y. rejected_said text bounds e q h a x y) takes r found is

    pub none_taken : (f : CertFault) → TakesSketch set input (IsNone f) → MatchResult r (λ a. a ≡ checked.NotCertificate f) IsMemory
    none_taken f takes = taken (IsNone f) (λ a. a ≡ checked.NotCertificate f) (λ a text bounds e x y. none_said text bounds e f a x y) takes r found is
