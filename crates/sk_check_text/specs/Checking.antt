-- What a line `check` says of its input: whether what stands behind the mark is a right certificate of the sketch before it.
use Rattle.std.specs.Prelude.{ℕ, ⊤, ◌≤◌, ◌<◌, List, length}
use Rattle.sk_base.specs.declared.bounds.Bounds.{Bounds}
use Rattle.sk_model.specs.declared.expanded.Expanded.{Expanded}
use Rattle.sk_cert.specs.declared.certificate.Certificate.{Certificate}
use Rattle.sk_cert.specs.declared.fault.CertFault.{CertFault}
use Rattle.sk_cert.specs.Certificates.{IsCertificate}
use Rattle.sk_cert.specs.Departing.{IsFault}
use Rattle.sk_check_laws.specs.declared.reason.Reason.{Reason}
use Rattle.sk_check_laws.specs.Parts.{Certifies}
use Rattle.sk_check_laws.specs.Rejected.{IsRejected, part_number}
use Rattle.sk_check_laws.specs.Right.{IsRight}
use Rattle.sk_opts.specs.declared.line.Set.{Set}
use Rattle.sk_front.specs.declared.fault.SketchFault.{SketchFault}
use Rattle.sk_front.specs.declared.fault.SketchFault.TheVariants as sketch
use Rattle.sk_front.specs.Texts.{most_bytes, byte_of}
use Rattle.sk_front.specs.Front.{IsFaultOfSizes}
use Rattle.sk_front.specs.Front as front
use Rattle.sk_built_laws.specs.Built.{ForBuilt}
use Rattle.sk_check_text.specs.declared.checking.Checked.{Checked}
use Rattle.sk_check_text.specs.declared.checking.Checked.TheVariants as checked
use Rattle.sk_check_text.specs.declared.fault.CheckFault.{CheckFault}
use Rattle.sk_check_text.specs.declared.fault.CheckFault.TheVariants as fault
use Rattle.sk_check_text.specs.Splitting.{Splits}

-- Certificates of an expansion

-- The text is a certificate of which each part holds of the expansion, and it is right.
pub record IsAccepted (text : List ℕ) (bounds : Bounds) (e : Expanded) : Type 0 where
  pub certificate : Certificate
  pub is : IsCertificate text certificate
  pub certifies : Certifies e bounds certificate
  pub right : IsRight e bounds certificate

-- It is one that is rejected for this reason.
pub record IsRejectedFor (reason : Reason) (text : List ℕ) (bounds : Bounds) (e : Expanded) : Type 0 where
  pub certificate : Certificate
  pub is : IsCertificate text certificate
  pub rejected : IsRejected e bounds certificate reason

-- it is some certificate, whatever its parts say
abbrev pub IsSomeCertificate : List ℕ → Bounds → Expanded → Type 0
IsSomeCertificate text bounds e = (c : Certificate) × IsCertificate text c

-- it is none, for this reason
abbrev pub IsNone : CertFault → List ℕ → Bounds → Expanded → Type 0
IsNone told text bounds e = IsFault text told

-- what is said of a text as the certificate of an expansion
abbrev pub IsSaid : Checked → List ℕ → Bounds → Expanded → Type 0
IsSaid checked.Accepted = IsAccepted
IsSaid (checked.Rejected reason) = IsRejectedFor reason
IsSaid (checked.NotCertificate told) = IsNone told

-- Inputs

-- this holds of the sketch of the input and of what stands behind the mark
pub record OfParts (input : List ℕ) (Holds : List ℕ → List ℕ → Type 0) : Type 0 where
  pub sketch : List ℕ
  pub behind : List ℕ
  pub splits : Splits input sketch behind
  pub holds : Holds sketch behind

-- With these options the sketch is a text that is taken, and this holds of what stands behind the mark, its bounds and its expansion.
abbrev pub TakesSketch : Set → List ℕ → (List ℕ → Bounds → Expanded → Type 0) → Type 0
TakesSketch set input Holds = OfParts input (λ text behind. ForBuilt set text (Holds behind))

-- what is said of an input whose sketch is taken
abbrev pub IsChecked : Set → List ℕ → Checked → Type 0
IsChecked set input said = TakesSketch set input (IsSaid said)

-- Refusals. Each cause excludes the others, and each excludes that the sketch is taken. Want of memory has no cause.

-- The sketch is short enough, and is not taken for this reason.
pub record IsRefused (set : Set) (told : SketchFault) (text : List ℕ) : Type 0 where
  pub short : length text ≤ most_bytes
  pub cause : IsFaultOfSizes set text told

-- why nothing is said of an input but that it is refused
abbrev pub IsFaultOfCheck : Set → List ℕ → CheckFault → Type 0
IsFaultOfCheck set input fault.TooLong = OfParts input (λ text behind. most_bytes < length text)
IsFaultOfCheck set input (fault.Sketch told) = OfParts input (λ text behind. IsRefused set told text)

-- The input is refused for this; want of memory is no cause.
abbrev pub IsCause : Set → List ℕ → CheckFault → Type 0
IsCause set input fault.TooLong = IsFaultOfCheck set input fault.TooLong
IsCause set input (fault.Sketch told) = OfParts input (λ text behind. (length text ≤ most_bytes) × front.IsCause (IsFaultOfSizes set text) told)

-- Where a fault is told: at a byte of the sketch or at its end, or, one of types, on a span of its tree.

abbrev pub IsPlacedIn : SketchFault → List ℕ → Type 0
IsPlacedIn (sketch.NotText told) text = byte_of told ≤ length text
IsPlacedIn told text = front.IsPlacedFault text told

abbrev pub IsPlacedFault : List ℕ → CheckFault → Type 0
IsPlacedFault input fault.TooLong = ⊤
IsPlacedFault input (fault.Sketch told) = OfParts input (λ text behind. IsPlacedIn told text)

-- Answers by their causes

abbrev pub IsMemory : CheckFault → Type 0
IsMemory fault.TooLong = ⊥
IsMemory (fault.Sketch told) = front.IsMemory told

-- a fault is told as this one, or memory is wanting
abbrev pub IsToldAs : CheckFault → CheckFault → Type 0
IsToldAs fault.TooLong fault.TooLong = ⊤
IsToldAs fault.TooLong (fault.Sketch b) = front.IsMemory b
IsToldAs (fault.Sketch a) fault.TooLong = ⊥
IsToldAs (fault.Sketch a) (fault.Sketch b) = front.IsToldAs a b

-- a certificate is accepted or rejected
abbrev pub IsVerdict : Checked → Type 0
IsVerdict checked.Accepted = ⊤
IsVerdict (checked.Rejected reason) = ⊤
IsVerdict (checked.NotCertificate told) = ⊥

-- it is accepted, or rejected for its formulas alone
abbrev pub IsAcceptedButFormulas : Checked → Type 0
IsAcceptedButFormulas checked.Accepted = ⊤
IsAcceptedButFormulas (checked.Rejected reason) = 6 ≤ part_number reason
IsAcceptedButFormulas (checked.NotCertificate told) = ⊥
