-- What the program says on standard error of a call that it refuses, with the status from 10 on that it ends with.
use Rattle.std.specs.Prelude.{ℕ, List, ◌++◌, codes}
use Rattle.std.specs.Fmt.{decimal}
use Rattle.sk_base.specs.declared.span.Span.{Span}
use Rattle.sk_model.specs.Limits.{most_nodes, most_sites, most_steps, most_news}
use Rattle.sk_app_texts.specs.RunTexts.{span_text}

-- what is wrong with a text that has no tokens or reads as no program
pub data TextFault : Type 0 where
  BadByte : TextFault
  OpenComment : TextFault
  LiteralTooLarge : TextFault
  OpenString : TextFault
  NoReading : TextFault
  BadAlternative : TextFault
  TooManyStrings : TextFault

abbrev pub text_fault_name : TextFault → List ℕ
text_fault_name BadByte = codes "BadByte"
text_fault_name OpenComment = codes "OpenComment"
text_fault_name LiteralTooLarge = codes "LiteralTooLarge"
text_fault_name OpenString = codes "OpenString"
text_fault_name NoReading = codes "NoReading"
text_fault_name BadAlternative = codes "BadAlternative"
text_fault_name TooManyStrings = codes "TooManyStrings"

-- the rules of types, in the order of their numbers
pub data Rule : Type 0 where
  UnknownName : Rule
  Twice : Rule
  Mismatch : Rule
  NotTarget : Rule
  BadSignature : Rule
  NotConstant : Rule
  LiteralRange : Rule
  LengthRange : Rule
  NoAlternative : Rule
  ReorderForm : Rule
  NameKept : Rule
  HoleWidth : Rule

abbrev pub rule_number : Rule → ℕ
rule_number UnknownName = 1
rule_number Twice = 2
rule_number Mismatch = 3
rule_number NotTarget = 4
rule_number BadSignature = 5
rule_number NotConstant = 6
rule_number LiteralRange = 7
rule_number LengthRange = 8
rule_number NoAlternative = 9
rule_number ReorderForm = 10
rule_number NameKept = 11
rule_number HoleWidth = 12

-- which size is passed: nodes of the expansion, sites, steps, or allocations
pub data Size : Type 0 where
  Copies : Size
  Sites : Size
  Steps : Size
  News : Size

abbrev pub size_name : Size → List ℕ
size_name Copies = codes "Copies"
size_name Sites = codes "Sites"
size_name Steps = codes "Steps"
size_name News = codes "News"

abbrev pub size_limit : Size → ℕ
size_limit Copies = most_nodes
size_limit Sites = most_sites
size_limit Steps = most_steps
size_limit News = most_news

-- why `exec` or `trace` runs nothing
pub data ExecFault : Type 0 where
  -- no function of the text has the name
  NoFunction : ExecFault
  -- the program has a site, or the function is a generator
  Unfilled : ExecFault
  -- a parameter or the result holds a reference
  References : ExecFault
  -- there are not as many values as parameters
  Count : ExecFault
  -- a value spells none of its parameter's type
  Value : ExecFault

abbrev pub exec_fault_name : ExecFault → List ℕ
exec_fault_name NoFunction = codes "NoFunction"
exec_fault_name Unfilled = codes "Unfilled"
exec_fault_name References = codes "References"
exec_fault_name Count = codes "Count"
exec_fault_name Value = codes "Value"

-- why `trace` fills no sketch
pub data FillFault : Type 0 where
  -- there are not as many numbers as sites
  WrongLength : FillFault
  -- a number is not below the size of its site
  OutOfRange : FillFault

abbrev pub fill_fault_name : FillFault → List ℕ
fill_fault_name WrongLength = codes "WrongLength"
fill_fault_name OutOfRange = codes "OutOfRange"

-- what is wrong with a text that is no certificate: its form, or its version
pub data CertFault : Type 0 where
  NoForm : CertFault
  Version : CertFault

abbrev pub cert_fault_name : CertFault → List ℕ
cert_fault_name NoForm = codes "NoForm"
cert_fault_name Version = codes "Version"

-- why a call is refused
pub data Refusal : Type 0 where
  -- the words are no command line
  NotALine : Refusal
  -- the text has no tokens or reads as no program, from this byte on
  NotText : TextFault → ℕ → Refusal
  -- a rule of types is broken, at these bytes
  NotTyped : Rule → Span → Refusal
  -- the expansion is too large
  TooLarge : Size → Refusal
  -- the source failed
  ReadFault : Refusal
  -- the sink failed
  WriteFault : Refusal
  -- the source gives too many bytes
  TooLong : Refusal
  -- memory was wanting
  Memory : Refusal
  NotRun : ExecFault → Refusal
  -- what stands behind the sketch departs from the form of a certificate, first in this line, from 1
  NotCertificate : CertFault → ℕ → Refusal
  -- the numbers fill no sketch
  NotFilled : FillFault → Refusal

abbrev pub refusal_status : Refusal → ℕ
refusal_status NotALine = 10
refusal_status (NotText fault at) = 11
refusal_status (NotTyped rule span) = 12
refusal_status (TooLarge size) = 13
refusal_status ReadFault = 14
refusal_status WriteFault = 15
refusal_status TooLong = 16
refusal_status Memory = 17
refusal_status (NotRun fault) = 18
refusal_status (NotCertificate fault line) = 19
refusal_status (NotFilled fault) = 22

-- the message, which a line feed follows on standard error
abbrev pub refusal_message : Refusal → List ℕ
refusal_message NotALine = codes "usage"
refusal_message (NotText fault at) = codes "text " ++ text_fault_name fault ++ codes " " ++ decimal at
refusal_message (NotTyped rule span) = codes "type " ++ decimal (rule_number rule) ++ codes " " ++ span_text span
refusal_message (TooLarge size) = codes "size " ++ size_name size ++ codes " " ++ decimal (size_limit size)
refusal_message ReadFault = codes "read fault"
refusal_message WriteFault = codes "write fault"
refusal_message TooLong = codes "too long"
refusal_message Memory = codes "no memory"
refusal_message (NotRun fault) = codes "exec " ++ exec_fault_name fault
refusal_message (NotCertificate fault line) = codes "certificate " ++ cert_fault_name fault ++ codes " " ++ decimal line
refusal_message (NotFilled fault) = codes "fill " ++ fill_fault_name fault
