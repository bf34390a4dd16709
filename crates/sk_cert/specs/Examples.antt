-- Texts of certificates, where texts depart from the form, and lines of another version.
use Rattle.std.specs.Prelude.{◌≡◌, ℕ, pos, true, false, List, [], ◌∷◌, Some, None, codes}
use Rattle.sk_clause.specs.declared.lit.Lit.{Lit}
use Rattle.sk_model.specs.declared.expanded.Choice.{Choice}
use Rattle.sk_cert.specs.declared.certificate.Proof.{Proof}
use Rattle.sk_cert.specs.declared.certificate.CertInput.{CertInput}
use Rattle.sk_cert.specs.declared.certificate.Certificate.{Certificate}
use Rattle.sk_cert.specs.Certificates.{certificate_text}
use Rattle.sk_cert.specs.declared.fault.CertFault.TheVariants as fault
use Rattle.sk_cert.specs.Departing.{BeginsCertificate, DepartsAt, IsOtherVersion, IsFault}

abbrev pub holes : List ℕ → Choice
holes values = record { values = values }

abbrev pub yes_lit : ℕ → Lit
yes_lit v = record { var = v; neg = false }

abbrev pub no_lit : ℕ → Lit
no_lit v = record { var = v; neg = true }

-- one variable that is true and is not
abbrev pub contradiction : Proof
contradiction = record { formula = record { clauses = record { vars = 1; clauses = (yes_lit 0 ∷ []) ∷ (no_lit 0 ∷ []) ∷ [] }; names = 0 ∷ [] }; log = [] ∷ [] }

-- two variables and no names
abbrev pub of_two : Proof
of_two = record { formula = record { clauses = record { vars = 2; clauses = (yes_lit 0 ∷ no_lit 1 ∷ []) ∷ [] ∷ [] }; names = [] }; log = (no_lit 1 ∷ []) ∷ [] ∷ [] }

-- of a sketch without obligations
abbrev pub empty_sketch : Certificate
empty_sketch = record { version = 2; text = []; choice = Some (holes []); value = 0; inputs = []; upper = []; lower = None }

abbrev pub CertificateOfNothing : Type 0
CertificateOfNothing = certificate_text empty_sketch ≡ codes "//@ completion\n//@ value 0\n//@ holes\n//@ certificate 2\n//@ inputs 0\n//@ end\n"

abbrev pub arrays_in : CertInput
arrays_in = record { obligation = 1; args = (pos 1 ∷ pos 0 ∷ []) ∷ (pos 31 ∷ []) ∷ [] }

abbrev pub two_obligations : Certificate
two_obligations = record { version = 2; text = codes "int N = 1;\n"; choice = Some (holes (3 ∷ 0 ∷ [])); value = 5; inputs = arrays_in ∷ []; upper = contradiction ∷ of_two ∷ []; lower = Some contradiction }

abbrev pub CertificateByObligation : Type 0
CertificateByObligation =
    certificate_text two_obligations ≡ codes "int N = 1;\n//@ completion\n//@ value 5\n//@ holes 3 0\n//@ certificate 2\n//@ inputs 1\n//@ input 1 1,0 31\n//@ upper 0 1 2 1\n//@ names 1\n//@ c 1\n//@ c -1\n//@ l\n//@ upper 1 2 2 2\n//@ names\n//@ c 1 -2\n//@ c\n//@ l -2\n//@ l\n//@ lower 1 2 1\n//@ names 1\n//@ c 1\n//@ c -1\n//@ l\n//@ end\n"

-- of version 1, whose one upper part has no number
abbrev pub first_version : Certificate
first_version = record { version = 1; text = []; choice = Some (holes (2 ∷ [])); value = 0; inputs = []; upper = contradiction ∷ []; lower = None }

abbrev pub CertificateOfVersionOne : Type 0
CertificateOfVersionOne = certificate_text first_version ≡ codes "//@ completion\n//@ value 0\n//@ holes 2\n//@ certificate 1\n//@ inputs 0\n//@ upper 1 2 1\n//@ names 1\n//@ c 1\n//@ c -1\n//@ l\n//@ end\n"

-- that there is no completion
abbrev pub no_choice : Certificate
no_choice = record { version = 2; text = []; choice = None; value = 0; inputs = record { obligation = 0; args = [] } ∷ []; upper = []; lower = Some contradiction }

abbrev pub CertificateOfNone : Type 0
CertificateOfNone = certificate_text no_choice ≡ codes "//@ none\n//@ certificate 2\n//@ inputs 1\n//@ input 0\n//@ lower 1 2 1\n//@ names 1\n//@ c 1\n//@ c -1\n//@ l\n//@ end\n"

-- Where a text departs

-- two lines of the certificate of a sketch without obligations
abbrev pub TwoLinesBegin : Type 0
TwoLinesBegin = BeginsCertificate (codes "//@ completion\n//@ value 0\n")

-- a zero before a digit, in the second line
abbrev pub DepartsByZero : Type 0
DepartsByZero = DepartsAt (codes "//@ completion\n//@ value 00\n//@ holes\n") 2 (codes "//@ value 00\n//@ holes\n")

-- a text of whole lines that ends too early departs in the line behind its last
abbrev pub DepartsBehindLast : Type 0
DepartsBehindLast = DepartsAt (codes "//@ completion\n//@ value 0\n") 3 []

-- no line of another version
abbrev pub FaultOfZero : Type 0
FaultOfZero = IsFault (codes "//@ completion\n//@ value 00\n//@ holes\n") (fault.NoForm 2)

-- version 3 where the version is to stand
abbrev pub FaultOfVersion : Type 0
FaultOfVersion = IsFault (codes "//@ none\n//@ certificate 3\n") (fault.Version 2)

-- Another version, as a line and without its line feed

abbrev pub LineOfVersionThree : Type 0
LineOfVersionThree = IsOtherVersion (codes "//@ certificate 3\n//@ inputs 0\n")

abbrev pub EndOfVersionSeven : Type 0
EndOfVersionSeven = IsOtherVersion (codes "//@ certificate 7")
