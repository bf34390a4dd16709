-- The status and the message of each ending.
use Rattle.std.specs.Prelude.{ℕ, List, [], ◌++◌, Option, None, Some, codes}
use Rattle.std.specs.Fmt.{decimal}
use Rattle.sk_base.specs.declared.span.Span.{Span}
use Rattle.sk_adt.specs.declared.algebraic.AdtFault.{AdtFault}
use Rattle.sk_adt.specs.declared.algebraic.AdtFault.TheVariants as adt
use Rattle.sk_lexer.specs.declared.fault.LexFault.TheVariants as lex
use Rattle.sk_parser.specs.declared.fault.ParseFault.TheVariants as parse
use Rattle.sk_types_laws.specs.declared.fault.Rule.{Rule}
use Rattle.sk_types_laws.specs.declared.fault.Rule.TheVariants as rule
use Rattle.sk_types_laws.specs.declared.fault.TypeFault.{TypeFault}
use Rattle.sk_model.specs.declared.expanded.Choice.{Choice}
use Rattle.sk_expand_sizes.specs.declared.fault.SizeFault.{SizeFault}
use Rattle.sk_expand_sizes.specs.declared.fault.SizeFault.TheVariants as size
use Rattle.sk_app_texts.specs.Messages.{Refusal, refusal_status, refusal_message}
use Rattle.sk_app_texts.specs.Messages as said
use Rattle.sk_front.specs.declared.fault.TextFault.{TextFault}
use Rattle.sk_front.specs.declared.fault.TextFault.TheVariants.{Lex, Parse}
use Rattle.sk_exec.specs.declared.fault.ExecFault.{ExecFault}
use Rattle.sk_exec.specs.declared.fault.ExecFault.TheVariants as exec
use Rattle.sk_holes.specs.declared.fault.FillFault.{FillFault}
use Rattle.sk_holes.specs.declared.fault.FillFault.TheVariants as hole
use Rattle.sk_cert.specs.declared.fault.CertFault.{CertFault}
use Rattle.sk_cert.specs.declared.fault.CertFault.TheVariants as cert
use Rattle.sk_app.specs.declared.ending.Ending.{Ending}
use Rattle.sk_app.specs.declared.ending.Ending.TheVariants.{Completed, NoCompletion, SpentRounds, SpentConflicts, HelpShown, VersionShown, ExecDone, ExecFailed, ExecSkipped, Lowered, Pruned, Listed, Explained, Met, Accepted, Rejected, NotALine, NotText, NotTyped, TooLarge, NotRun, NotFilled, NotLowered, NotTagged, NotCertificate, ReadFault, WriteFault, TooLong, Memory}

-- The refusal for a fault of a text. Want of memory, which `run` answers as `Memory`, is no fault of it.
abbrev pub text_refusal : TextFault → Refusal
text_refusal (Lex (lex.BadByte at)) = said.NotText said.BadByte at
text_refusal (Lex (lex.OpenComment at)) = said.NotText said.OpenComment at
text_refusal (Lex (lex.LiteralTooLarge at)) = said.NotText said.LiteralTooLarge at
text_refusal (Lex (lex.OpenString at)) = said.NotText said.OpenString at
text_refusal (Lex lex.Memory) = said.Memory
text_refusal (Parse (parse.NoReading at)) = said.NotText said.NoReading at
text_refusal (Parse (parse.BadAlternative at)) = said.NotText said.BadAlternative at
text_refusal (Parse (parse.TooManyStrings at)) = said.NotText said.TooManyStrings at
text_refusal (Parse parse.Memory) = said.Memory

abbrev pub rule_of : Rule → said.Rule
rule_of rule.UnknownName = said.UnknownName
rule_of rule.Twice = said.Twice
rule_of rule.Mismatch = said.Mismatch
rule_of rule.NotTarget = said.NotTarget
rule_of rule.BadSignature = said.BadSignature
rule_of rule.NotConstant = said.NotConstant
rule_of rule.LiteralRange = said.LiteralRange
rule_of rule.LengthRange = said.LengthRange
rule_of rule.NoAlternative = said.NoAlternative
rule_of rule.ReorderForm = said.ReorderForm
rule_of rule.NameKept = said.NameKept
rule_of rule.HoleWidth = said.HoleWidth

-- the refusal for a rule of types that a text breaks
abbrev pub type_refusal : TypeFault → Refusal
type_refusal fault = said.NotTyped (rule_of fault.rule) fault.span

-- The refusal for an expansion that is too large. Want of memory, which `run` answers as `Memory`, is no size.
abbrev pub size_refusal : SizeFault → Refusal
size_refusal size.Copies = said.TooLarge said.Copies
size_refusal size.Sites = said.TooLarge said.Sites
size_refusal size.Steps = said.TooLarge said.Steps
size_refusal size.News = said.TooLarge said.News
size_refusal size.Memory = said.Memory

-- the refusal of a line that runs no function
abbrev pub exec_refusal : ExecFault → Refusal
exec_refusal exec.NoFunction = said.NotRun said.NoFunction
exec_refusal exec.Unfilled = said.NotRun said.Unfilled
exec_refusal exec.References = said.NotRun said.References
exec_refusal exec.Count = said.NotRun said.Count
exec_refusal (exec.Value index) = said.NotRun said.Value

-- The refusal where numbers do not fill a sketch. Want of memory, which `run` answers as `Memory`, is no such.
abbrev pub fill_refusal : FillFault → Refusal
fill_refusal hole.WrongLength = said.NotFilled said.WrongLength
fill_refusal (hole.OutOfRange site) = said.NotFilled said.OutOfRange
fill_refusal hole.Memory = said.Memory

-- The refusal where what stands behind a sketch is no certificate. Want of memory, which `run` answers as `Memory`, is no such.
abbrev pub cert_refusal : CertFault → Refusal
cert_refusal (cert.NoForm line) = said.NotCertificate said.NoForm line
cert_refusal (cert.Version line) = said.NotCertificate said.Version line
cert_refusal cert.Memory = said.Memory

-- The status and the message where a text has no plain form. Want of memory, which `run` answers as `Memory`, is no such.
abbrev pub adt_status : AdtFault → ℕ
adt_status adt.Memory = 17
adt_status _ = 21

abbrev pub adt_message : AdtFault → List ℕ
adt_message (adt.NoForm at) = codes "adt NoForm " ++ decimal at
adt_message (adt.Twice at) = codes "adt Twice " ++ decimal at
adt_message (adt.NoVariant at) = codes "adt NoVariant " ++ decimal at
adt_message (adt.TooMany at) = codes "adt TooMany " ++ decimal at
adt_message adt.Memory = codes "no memory"

-- the message where the program of a plain form is not tagged
abbrev pub tag_message : Span → List ℕ
tag_message span = codes "tag " ++ decimal span.from ++ codes " " ++ decimal span.to

-- where a budget is spent: whether a choice is known that meets every obligation
abbrev pub spent_status : Option Choice → ℕ
spent_status None = 2
spent_status (Some best) = 3

abbrev pub status_of : Ending → ℕ
status_of Completed = 0
status_of (NoCompletion pairs) = 1
status_of (SpentRounds pairs best) = spent_status best
status_of (SpentConflicts pairs q f log best) = spent_status best
status_of HelpShown = 0
status_of VersionShown = 0
status_of ExecDone = 0
status_of (ExecFailed span) = 4
status_of (ExecSkipped span) = 5
status_of Lowered = 0
status_of Pruned = 0
status_of Listed = 0
status_of Explained = 0
status_of Met = 7
status_of Accepted = 0
status_of (Rejected why) = 6
status_of NotALine = 10
status_of (NotText fault) = refusal_status (text_refusal fault)
status_of (NotTyped fault) = refusal_status (type_refusal fault)
status_of (TooLarge reason) = refusal_status (size_refusal reason)
status_of (NotRun reason) = refusal_status (exec_refusal reason)
status_of (NotFilled fault) = refusal_status (fill_refusal fault)
status_of (NotLowered reason) = adt_status reason
status_of (NotTagged span) = 23
status_of (NotCertificate fault) = refusal_status (cert_refusal fault)
status_of ReadFault = 14
status_of WriteFault = 15
status_of TooLong = 16
status_of Memory = 17

abbrev pub message_of : Ending → List ℕ
message_of Completed = []
message_of (NoCompletion pairs) = []
message_of (SpentRounds pairs best) = []
message_of (SpentConflicts pairs q f log best) = []
message_of HelpShown = []
message_of VersionShown = []
message_of ExecDone = []
message_of (ExecFailed span) = []
message_of (ExecSkipped span) = []
message_of Lowered = []
message_of Pruned = []
message_of Listed = []
message_of Explained = []
message_of Met = []
message_of Accepted = []
message_of (Rejected why) = []
message_of NotALine = codes "usage"
message_of (NotText fault) = refusal_message (text_refusal fault)
message_of (NotTyped fault) = refusal_message (type_refusal fault)
message_of (TooLarge reason) = refusal_message (size_refusal reason)
message_of (NotRun reason) = refusal_message (exec_refusal reason)
message_of (NotFilled fault) = refusal_message (fill_refusal fault)
message_of (NotLowered reason) = adt_message reason
message_of (NotTagged span) = tag_message span
message_of (NotCertificate fault) = refusal_message (cert_refusal fault)
message_of ReadFault = codes "read fault"
message_of WriteFault = codes "write fault"
message_of TooLong = codes "too long"
message_of Memory = codes "no memory"
