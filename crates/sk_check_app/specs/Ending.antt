-- The status and the message of each ending of `judge`: those of a line `check`.
use Rattle.std.specs.Prelude.{ℕ, List, [], codes}
use Rattle.sk_lexer.specs.declared.fault.LexFault.TheVariants as lex
use Rattle.sk_parser.specs.declared.fault.ParseFault.TheVariants as parse
use Rattle.sk_types_laws.specs.declared.fault.Rule.{Rule}
use Rattle.sk_types_laws.specs.declared.fault.Rule.TheVariants as rule
use Rattle.sk_types_laws.specs.declared.fault.TypeFault.{TypeFault}
use Rattle.sk_expand_sizes.specs.declared.fault.SizeFault.{SizeFault}
use Rattle.sk_expand_sizes.specs.declared.fault.SizeFault.TheVariants as size
use Rattle.sk_cert.specs.declared.fault.CertFault.{CertFault}
use Rattle.sk_cert.specs.declared.fault.CertFault.TheVariants as cert
use Rattle.sk_check_laws.specs.declared.reason.Reason.{Reason}
use Rattle.sk_check_laws.specs.declared.reason.Reason.TheVariants as reason
use Rattle.sk_app_texts.specs.Messages.{Refusal, refusal_status, refusal_message}
use Rattle.sk_app_texts.specs.Messages as said
use Rattle.sk_app_texts.specs.CheckTexts as told
use Rattle.sk_front.specs.declared.fault.TextFault.{TextFault}
use Rattle.sk_front.specs.declared.fault.TextFault.TheVariants.{Lex, Parse}
use Rattle.sk_check_app.specs.declared.ending.Ending.{Ending}
use Rattle.sk_check_app.specs.declared.ending.Ending.TheVariants.{Accepted, Rejected, NotCertificate, NotALine, NotText, NotTyped, TooLarge, ReadFault, WriteFault, TooLong, Memory}

-- The refusal for a fault of a text. Want of memory, which `judge` answers as `Memory`, is no fault of it.
abbrev pub text_refusal : TextFault → Refusal
text_refusal (Lex (lex.BadByte at)) = said.NotText said.BadByte at
text_refusal (Lex (lex.OpenComment at)) = said.NotText said.OpenComment at
text_refusal (Lex (lex.LiteralTooLarge at)) = said.NotText said.LiteralTooLarge at
text_refusal (Lex (lex.OpenString at)) = said.NotText said.OpenString at
text_refusal (Lex lex.Memory) = said.Memory
text_refusal (Parse (parse.NoReading at)) = said.NotText said.NoReading at
text_refusal (Parse (parse.BadAlternative at)) = said.NotText said.BadAlternative at
text_refusal (Parse (parse.TooManyStrings at)) = said.NotText said.TooManyStrings at
text_refusal (Parse parse.Memory) = said.Memory

abbrev pub rule_of : Rule → said.Rule
rule_of rule.UnknownName = said.UnknownName
rule_of rule.Twice = said.Twice
rule_of rule.Mismatch = said.Mismatch
rule_of rule.NotTarget = said.NotTarget
rule_of rule.BadSignature = said.BadSignature
rule_of rule.NotConstant = said.NotConstant
rule_of rule.LiteralRange = said.LiteralRange
rule_of rule.LengthRange = said.LengthRange
rule_of rule.NoAlternative = said.NoAlternative
rule_of rule.ReorderForm = said.ReorderForm
rule_of rule.NameKept = said.NameKept
rule_of rule.HoleWidth = said.HoleWidth

-- the refusal for a rule of types that a text breaks
abbrev pub type_refusal : TypeFault → Refusal
type_refusal fault = said.NotTyped (rule_of fault.rule) fault.span

-- The refusal for an expansion that is too large. Want of memory, which `judge` answers as `Memory`, is no size.
abbrev pub size_refusal : SizeFault → Refusal
size_refusal size.Copies = said.TooLarge said.Copies
size_refusal size.Sites = said.TooLarge said.Sites
size_refusal size.Steps = said.TooLarge said.Steps
size_refusal size.News = said.TooLarge said.News
size_refusal size.Memory = said.Memory

-- The refusal for what is no certificate. Want of memory, which `judge` answers as `Memory`, is no such.
abbrev pub cert_refusal : CertFault → Refusal
cert_refusal (cert.NoForm line) = said.NotCertificate said.NoForm line
cert_refusal (cert.Version line) = said.NotCertificate said.Version line
cert_refusal cert.Memory = said.Memory

-- the reason for which a certificate is rejected, as it is told
abbrev pub reason_of : Reason → told.Reason
reason_of reason.Values = told.Values
reason_of reason.Inputs = told.Inputs
reason_of reason.Upper = told.Upper
reason_of reason.Lower = told.Lower
reason_of reason.Text = told.Text
reason_of (reason.Formula own) = told.Formula

-- the line that is written of a certificate that is rejected
abbrev pub rejected_line : Reason → List ℕ
rejected_line r = told.rejected_text (reason_of r)

abbrev pub status_of : Ending → ℕ
status_of Accepted = 0
status_of (Rejected reason) = 6
status_of (NotCertificate fault) = refusal_status (cert_refusal fault)
status_of NotALine = 10
status_of (NotText fault) = refusal_status (text_refusal fault)
status_of (NotTyped fault) = refusal_status (type_refusal fault)
status_of (TooLarge reason) = refusal_status (size_refusal reason)
status_of ReadFault = 14
status_of WriteFault = 15
status_of TooLong = 16
status_of Memory = 17

abbrev pub message_of : Ending → List ℕ
message_of Accepted = []
message_of (Rejected reason) = []
message_of (NotCertificate fault) = refusal_message (cert_refusal fault)
message_of NotALine = codes "usage"
message_of (NotText fault) = refusal_message (text_refusal fault)
message_of (NotTyped fault) = refusal_message (type_refusal fault)
message_of (TooLarge reason) = refusal_message (size_refusal reason)
message_of ReadFault = codes "read fault"
message_of WriteFault = codes "write fault"
message_of TooLong = codes "too long"
message_of Memory = codes "no memory"
