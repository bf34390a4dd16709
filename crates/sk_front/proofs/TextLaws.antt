-- A text reads as one tree, or has one fault.
use Rattle.std.proofs.Common.{◌≡◌, ℕ, max, ◌+◌, ◌≤◌, List, [], ◌∷◌, ◌++◌, length, Option, Some, None, refl, sym, ap, ◌∙◌, subst, arith, length-append, IsTrue, ◌⊎◌, inl, inr}
use Rattle.sk_tree.specs.declared.shape.Shape.{Shape}
use Rattle.sk_tree.specs.declared.shape.Shape.TheVariants as shape
use Rattle.sk_tree.specs.declared.token.Token.{Token}
use Rattle.sk_tree.specs.declared.item.Tree.{Tree}
use Rattle.sk_tree.specs.Shapes.{shape_of}
use Rattle.sk_tree.specs.Tokens.{Divides, token_of, tokens_of, AreTokens, Fault, BadByte, OpenComment, LiteralTooLarge, OpenString, IsFirstFault}
use Rattle.sk_tree.specs.Reads.{HasTooManyStrings, HasBadAlternative}
use Rattle.sk_types_laws.specs.declared.fault.TypeFault.{TypeFault}
use Rattle.sk_types_laws.specs.declared.fault.Typing.{Typing}
use Rattle.sk_types_laws.specs.declared.fault.Typing.TheVariants as typing
use Rattle.sk_types.specs.Places.{tree_has, nowhere, IsPlaced}
use Rattle.sk_lexer.specs.declared.fault.LexFault.{LexFault}
use Rattle.sk_lexer.specs.declared.fault.LexFault.TheVariants as lex
use Rattle.sk_lexer.proofs.Pieces.{one_list, one_fault, not_both}
use Rattle.sk_parser_laws.specs.Laws.{ReadsWithin}
use Rattle.sk_parser_laws.proofs.ReadLaws.{one}
use Rattle.sk_parser.specs.declared.fault.ParseFault.{ParseFault}
use Rattle.sk_parser.specs.declared.fault.ParseFault.TheVariants as parse
use Rattle.sk_parser.specs.Parses.{IsTreeOf, ReadsAsNone, ReadsWithTooMany, ReadsWithBad, is_no_reading, is_too_many, is_bad, place_of as fault_place, greatest_end}
use Rattle.sk_front.specs.declared.fault.TextFault.{TextFault}
use Rattle.sk_front.specs.declared.fault.TextFault.TheVariants.{Lex, Parse}
use Rattle.sk_front.specs.Texts.{HasTree, HasSpan, IsLexFault, IsParseFault, IsTextFault, IsSameKind, IsSameFault, byte_of}
use Rattle.sk_front.specs.Reading.{Refuses, IsFaultOfTokens}
use Rattle.sk_front.specs.Front.{IsFaultOfTree}
use Rattle.sk_front.specs.declared.fault.SketchFault.{SketchFault}
use Rattle.sk_front.specs.declared.fault.SketchFault.TheVariants as fault

-- The last token ends in the text

token_end : (o : Option Shape) (at : ℕ) (p : List ℕ) (ts : List Token) → greatest_end (token_of o at p ++ ts) ≤ max (at + length p) (greatest_end ts)
token_end (Some shape.Word) at p ts = omega arith
token_end (Some shape.Number) at p ts = omega arith
token_end (Some shape.Text) at p ts = omega arith
token_end (Some (shape.Mark m)) at p ts = omega arith
token_end _ at p ts = omega arith

tokens_end : (at : ℕ) (ps : List (List ℕ)) (text rest : List ℕ) → Divides ps text rest → greatest_end (tokens_of at ps) ≤ at + length text
tokens_end at [] text rest d = omega arith
tokens_end at (p ∷ ps) text rest d =
    let more = tokens_end (at + length p) ps d.0 rest d.3 in
    let here = token_end (shape_of p) at p (tokens_of (at + length p) ps) in
    omega (arith, more, here, ap length d.1, length-append p d.0)

pub ends_within : (text : List ℕ) (ts : List Token) → AreTokens text ts → greatest_end ts ≤ length text
ends_within text ts are =
    let within = tokens_end 0 are.pieces text [] are.whole in
    omega (arith, within, ap greatest_end are.same)

-- What tokens were read as, the text was

refused : (text : List ℕ) (ts : List Token) (fault : ParseFault) → AreTokens text ts → Refuses fault ts → IsParseFault fault text
refused text ts (parse.NoReading at) lexed h = record { tokens = ts; lexed = lexed; holds = h.cause; place = omega (arith, h.place, ends_within text ts lexed) }
refused text ts (parse.TooManyStrings at) lexed h = record { tokens = ts; lexed = lexed; holds = h.cause; place = omega (arith, h.place, ends_within text ts lexed) }
refused text ts (parse.BadAlternative at) lexed h = record { tokens = ts; lexed = lexed; holds = h.cause; place = omega (arith, h.place, ends_within text ts lexed) }
refused text ts parse.Memory lexed h = absurd h

pub faulty : (text : List ℕ) (ts : List Token) (f : SketchFault) → AreTokens text ts → IsFaultOfTokens ts f → IsFaultOfTree text f
faulty text ts (fault.NotText (Parse told)) lexed h = refused text ts told lexed h
faulty text ts (fault.NotText (Lex told)) lexed h = absurd h
faulty text ts (fault.NotTyped told) lexed h = absurd h
faulty text ts (fault.TooLarge reason) lexed h = absurd h
faulty text ts fault.Memory lexed h = tt

pub has_tree : (text : List ℕ) (ts : List Token) (tree : Tree) → AreTokens text ts → IsTreeOf ts tree → HasTree text tree
has_tree text ts tree lexed h = record { tokens = ts; lexed = lexed; reads = h }

-- The refusals of `parse`, by its clauses

pub none_told : (ts : List Token) (f : ParseFault) (at : ℕ) → f ≡ parse.NoReading at → (IsTrue (is_no_reading f) → ReadsAsNone ts) → fault_place f ≤ greatest_end ts → Refuses (parse.NoReading at) ts
none_told ts f at is cause place = record { cause = cause (ap is_no_reading is); place = subst (λ g. fault_place g ≤ greatest_end ts) is place }

pub many_told : (ts : List Token) (f : ParseFault) (at : ℕ) → f ≡ parse.TooManyStrings at → (IsTrue (is_too_many f) → ReadsWithTooMany ts) → fault_place f ≤ greatest_end ts → Refuses (parse.TooManyStrings at) ts
many_told ts f at is cause place = record { cause = cause (ap is_too_many is); place = subst (λ g. fault_place g ≤ greatest_end ts) is place }

pub bad_told : (ts : List Token) (f : ParseFault) (at : ℕ) → f ≡ parse.BadAlternative at → (IsTrue (is_bad f) → ReadsWithBad ts) → fault_place f ≤ greatest_end ts → Refuses (parse.BadAlternative at) ts
bad_told ts f at is cause place = record { cause = cause (ap is_bad is); place = subst (λ g. fault_place g ≤ greatest_end ts) is place }

-- A text reads as one tree

within : (ts : List Token) (tree : Tree) → IsTreeOf ts tree → ReadsWithin ts tree
within ts tree is = record { reads = is.reads; within = is.within }

pub one_tree : (text : List ℕ) (a b : Tree) → HasTree text a → HasTree text b → a ≡ b
one_tree text a b x y =
    let same = one_list text y.tokens x.tokens y.lexed x.lexed in
    one x.tokens a b (within x.tokens a x.reads) (subst (λ ts. ReadsWithin ts b) same (within y.tokens b y.reads))

-- What tokens read as excludes the rest

none_none : (ts us : List Token) (tree : Tree) → us ≡ ts → ReadsAsNone ts → ReadsWithin us tree → ⊥
none_none ts us tree same none reads = none tree (subst (λ xs. ReadsWithin xs tree) same reads)

-- the tree of the one and of the other
both_read : (ts us : List Token) (a b : Tree) → us ≡ ts → ReadsWithin ts a → ReadsWithin us b → a ≡ b
both_read ts us a b same x y = one ts a b x (subst (λ xs. ReadsWithin xs b) same y)

-- A text with a tree has no fault

no_parse : (text : List ℕ) (tree : Tree) (fault : ParseFault) → HasTree text tree → IsParseFault fault text → ⊥
no_parse text tree (parse.NoReading at) has h = none_none h.tokens has.tokens tree (one_list text has.tokens h.tokens has.lexed h.lexed) h.holds (within has.tokens tree has.reads)
no_parse text tree (parse.TooManyStrings at) has h =
    let same = both_read has.tokens h.tokens tree h.holds.0 (one_list text h.tokens has.tokens h.lexed has.lexed) (within has.tokens tree has.reads) h.holds.1 in
    has.reads.few (subst HasTooManyStrings (sym same) h.holds.2)
no_parse text tree (parse.BadAlternative at) has h =
    let same = both_read has.tokens h.tokens tree h.holds.0 (one_list text h.tokens has.tokens h.lexed has.lexed) (within has.tokens tree has.reads) h.holds.1 in
    has.reads.good (subst HasBadAlternative (sym same) h.holds.3)
no_parse text tree parse.Memory has h = absurd h

no_lex : (text : List ℕ) (ts : List Token) (fault : LexFault) → AreTokens text ts → IsLexFault fault text → ⊥
no_lex text ts (lex.BadByte at) lexed h = not_both text ts BadByte at lexed h
no_lex text ts (lex.OpenComment at) lexed h = not_both text ts OpenComment at lexed h
no_lex text ts (lex.LiteralTooLarge at) lexed h = not_both text ts LiteralTooLarge at lexed h
no_lex text ts (lex.OpenString at) lexed h = not_both text ts OpenString at lexed h
no_lex text ts lex.Memory lexed h = absurd h

pub no_fault : (text : List ℕ) (tree : Tree) (fault : TextFault) → HasTree text tree → IsTextFault fault text → ⊥
no_fault text tree (Lex fault) has h = no_lex text has.tokens fault has.lexed h
no_fault text tree (Parse fault) has h = no_parse text tree fault has h

-- A text has one fault

-- the fault of bytes that this is
abbrev pub fault_of : LexFault → Option Fault
fault_of (lex.BadByte at) = Some BadByte
fault_of (lex.OpenComment at) = Some OpenComment
fault_of (lex.LiteralTooLarge at) = Some LiteralTooLarge
fault_of (lex.OpenString at) = Some OpenString
fault_of lex.Memory = None

abbrev pub place_of : LexFault → ℕ
place_of (lex.BadByte at) = at
place_of (lex.OpenComment at) = at
place_of (lex.LiteralTooLarge at) = at
place_of (lex.OpenString at) = at
place_of lex.Memory = 0

-- what is told with this name and place
abbrev pub told : Option Fault → ℕ → LexFault
told (Some BadByte) at = lex.BadByte at
told (Some OpenComment) at = lex.OpenComment at
told (Some LiteralTooLarge) at = lex.LiteralTooLarge at
told (Some OpenString) at = lex.OpenString at
told None at = lex.Memory

told_is : (f : LexFault) → told (fault_of f) (place_of f) ≡ f
told_is (lex.BadByte at) = refl
told_is (lex.OpenComment at) = refl
told_is (lex.LiteralTooLarge at) = refl
told_is (lex.OpenString at) = refl
told_is lex.Memory = refl

first : (text : List ℕ) (f : LexFault) → IsLexFault f text → (fault : Fault) × (fault_of f ≡ Some fault) × IsFirstFault text fault (place_of f)
first text (lex.BadByte at) h = (BadByte, refl, h)
first text (lex.OpenComment at) h = (OpenComment, refl, h)
first text (lex.LiteralTooLarge at) h = (LiteralTooLarge, refl, h)
first text (lex.OpenString at) h = (OpenString, refl, h)
first text lex.Memory h = absurd h

same_lex : (text : List ℕ) (f g : LexFault) → IsLexFault f text → IsLexFault g text → f ≡ g
same_lex text f g x y =
    let a = first text f x in
    let b = first text g y in
    let once = one_fault text a.0 b.0 (place_of f) (place_of g) a.2 b.2 in
    sym (told_is f) ∙ (λ i. told ((a.1 ∙ ap Some once.0 ∙ sym b.1) i) (once.1 i)) ∙ told_is g

-- the tree in which a pattern has too many strings, and that in which one has a bad string and none too many
not_two : (ts us : List Token) → us ≡ ts → ReadsWithTooMany ts → ReadsWithBad us → ⊥
not_two ts us same many bad =
    let one_is = both_read ts us many.0 bad.0 same many.1 bad.1 in
    bad.2 (subst HasTooManyStrings one_is many.2)

same_parse : (text : List ℕ) (f g : ParseFault) → IsParseFault f text → IsParseFault g text → IsSameKind f g
same_parse text (parse.NoReading m) (parse.NoReading n) x y = tt
same_parse text (parse.TooManyStrings m) (parse.TooManyStrings n) x y = tt
same_parse text (parse.BadAlternative m) (parse.BadAlternative n) x y = tt
same_parse text (parse.NoReading m) (parse.TooManyStrings n) x y = absurd (none_none x.tokens y.tokens y.holds.0 (one_list text y.tokens x.tokens y.lexed x.lexed) x.holds y.holds.1)
same_parse text (parse.NoReading m) (parse.BadAlternative n) x y = absurd (none_none x.tokens y.tokens y.holds.0 (one_list text y.tokens x.tokens y.lexed x.lexed) x.holds y.holds.1)
same_parse text (parse.TooManyStrings m) (parse.NoReading n) x y = absurd (none_none y.tokens x.tokens x.holds.0 (one_list text x.tokens y.tokens x.lexed y.lexed) y.holds x.holds.1)
same_parse text (parse.BadAlternative m) (parse.NoReading n) x y = absurd (none_none y.tokens x.tokens x.holds.0 (one_list text x.tokens y.tokens x.lexed y.lexed) y.holds x.holds.1)
same_parse text (parse.TooManyStrings m) (parse.BadAlternative n) x y = absurd (not_two x.tokens y.tokens (one_list text y.tokens x.tokens y.lexed x.lexed) x.holds y.holds)
same_parse text (parse.BadAlternative m) (parse.TooManyStrings n) x y = absurd (not_two y.tokens x.tokens (one_list text x.tokens y.tokens x.lexed y.lexed) y.holds x.holds)
same_parse text parse.Memory g x y = absurd x
same_parse text f parse.Memory x y = absurd y

tokens_of_parse : (text : List ℕ) (f : ParseFault) → IsParseFault f text → (ts : List Token) × AreTokens text ts
tokens_of_parse text (parse.NoReading at) h = (h.tokens, h.lexed)
tokens_of_parse text (parse.TooManyStrings at) h = (h.tokens, h.lexed)
tokens_of_parse text (parse.BadAlternative at) h = (h.tokens, h.lexed)
tokens_of_parse text parse.Memory h = absurd h

pub same_fault : (text : List ℕ) (f g : TextFault) → IsTextFault f text → IsTextFault g text → IsSameFault f g
same_fault text (Lex f) (Lex g) x y = same_lex text f g x y
same_fault text (Parse f) (Parse g) x y = same_parse text f g x y
same_fault text (Lex f) (Parse g) x y = let ts = tokens_of_parse text g y in absurd (no_lex text ts.0 f ts.1 x)
same_fault text (Parse f) (Lex g) x y = let ts = tokens_of_parse text f x in absurd (no_lex text ts.0 g ts.1 y)

-- Places

-- a fault is told at a byte of the text, or at its end
pub byte_within : (text : List ℕ) (f : TextFault) → IsTextFault f text → byte_of f ≤ length text
byte_within text (Lex (lex.BadByte at)) h = omega (arith, h.place)
byte_within text (Lex (lex.OpenComment at)) h = omega (arith, h.place)
byte_within text (Lex (lex.LiteralTooLarge at)) h = omega (arith, h.place)
byte_within text (Lex (lex.OpenString at)) h = omega (arith, h.place)
byte_within text (Lex lex.Memory) h = absurd h
byte_within text (Parse (parse.NoReading at)) h = h.place
byte_within text (Parse (parse.TooManyStrings at)) h = h.place
byte_within text (Parse (parse.BadAlternative at)) h = h.place
byte_within text (Parse parse.Memory) h = absurd h

-- a fault of types that stands in the tree, or that is told without a place, and that lies within the text
pub has_span : (text : List ℕ) (tree : Tree) (f a g : TypeFault) (why : Typing) → HasTree text tree → why ≡ typing.Fault f → f ≡ a → IsPlaced tree why → (g.span ≡ a.span) ⊎ (g.span ≡ nowhere) → g.span.from ≤ g.span.to → g.span.to ≤ length text → HasSpan text g.span
has_span text tree f a g why reads same also is (inl e) order within = record { tree = tree; reads = reads; place = subst (λ s. IsTrue (tree_has s tree) ⊎ (s ≡ nowhere)) (sym e) (subst (λ x. IsPlaced tree (typing.Fault x)) also (subst (IsPlaced tree) same is)); order = order; within = within }
has_span text tree f a g why reads same also is (inr e) order within = record { tree = tree; reads = reads; place = inr e; order = order; within = within }
