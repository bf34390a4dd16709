-- Where a text that is that of no certificate departs from the form.
use Rattle.std.specs.Prelude.{◌≡◌, ◌≢◌, ℕ, ◌+◌, ◌==◌, ◌⊎◌, true, List, [], ◌∷◌, ◌++◌, if◌then◌else◌, codes}
use Rattle.sk_cert.specs.declared.certificate.Certificate.{Certificate}
use Rattle.sk_cert.specs.declared.fault.CertFault.{CertFault}
use Rattle.sk_cert.specs.declared.fault.CertFault.TheVariants as fault
use Rattle.sk_cert.specs.Certificates.{marked, certificate_text, HasText, IsCertificate}
use Rattle.sk_cert.specs.Words.{is_numeral}

-- whole lines, or nothing
abbrev pub AreLines : List ℕ → Type 0
AreLines bs = (bs ≡ []) ⊎ ((before : List ℕ) × (bs ≡ before ++ codes "\n"))

-- these are whole lines with which the text of some certificate begins
pub record BeginsCertificate (front : List ℕ) : Type 0 where
  pub lines : AreLines front
  pub c : Certificate
  pub has_text : HasText c
  pub rest : List ℕ
  pub is : certificate_text c ≡ front ++ rest

-- The text is that of no certificate, and this front is the longest that begins one: what is left begins with the line
-- that departs. It is empty where the text ends too early.
pub record Departs (text front left : List ℕ) : Type 0 where
  pub none : (c : Certificate) → IsCertificate text c → ⊥
  pub is : text ≡ front ++ left
  pub begins : BeginsCertificate front
  pub longest : (more behind : List ℕ) → more ≢ [] → left ≡ more ++ behind → BeginsCertificate (front ++ more) → ⊥

abbrev pub line_feeds : List ℕ → ℕ
line_feeds [] = 0
line_feeds (b ∷ bs) = if b == 10 then line_feeds bs + 1 else line_feeds bs

-- What is left begins with a line `//@ certificate N`, or is one without its line feed, where N is a number in digits
-- without a zero before them, and neither 1 nor 2.
pub record IsOtherVersion (left : List ℕ) : Type 0 where
  pub number : List ℕ
  pub digits : is_numeral number ≡ true
  pub not_one : number ≢ codes "1"
  pub not_two : number ≢ codes "2"
  pub behind : List ℕ
  pub is : (left ≡ marked (codes "certificate") (number ∷ [])) ⊎ (left ≡ marked (codes "certificate") (number ∷ []) ++ codes "\n" ++ behind)

-- The line with this number, from 1, departs, and what is left from it on is this.
pub record DepartsAt (text : List ℕ) (line : ℕ) (left : List ℕ) : Type 0 where
  pub front : List ℕ
  pub departs : Departs text front left
  pub number : line ≡ line_feeds front + 1

-- What a fault says of the text. Want of memory is none.
abbrev pub IsFault : List ℕ → CertFault → Type 0
IsFault text (fault.NoForm line) = (left : List ℕ) × DepartsAt text line left × (IsOtherVersion left → ⊥)
IsFault text (fault.Version line) = (left : List ℕ) × DepartsAt text line left × IsOtherVersion left
IsFault text fault.Memory = ⊥

-- What a reader tells: a fault of the text, or that memory ran out.
abbrev pub Tells : List ℕ → CertFault → Type 0
Tells text fault.Memory = Unit {0}
Tells text (fault.NoForm line) = IsFault text (fault.NoForm line)
Tells text (fault.Version line) = IsFault text (fault.Version line)
