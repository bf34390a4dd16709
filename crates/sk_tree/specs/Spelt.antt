-- How a tree is spelt: the tokens of each form, and spans that are those of its tokens.
use Rattle.std.specs.Prelude.{◌≡◌, ◌⊎◌, ◌<◌, ◌≤◌, nat_le, Bool, true, false, ◌&&◌, ◌||◌, IsTrue, List, [], ◌∷◌, map, length, Contains, Option, Some, None}
use Rattle.std.specs.List.{AllZip}
use Rattle.sk_base.specs.declared.span.Span.{Span}
use Rattle.sk_tree.specs.declared.token.Token.{Token}
use Rattle.sk_tree.specs.declared.token.Kind.{Kind}
use Rattle.sk_tree.specs.declared.token.Kind.TheVariants as kind
use Rattle.sk_tree.specs.declared.token.Mark.{Mark}
use Rattle.sk_tree.specs.declared.token.Mark.TheVariants as mark
use Rattle.sk_tree.specs.declared.token.Key.TheVariants as key
use Rattle.sk_tree.specs.declared.pattern.Pattern.{Pattern}
use Rattle.sk_tree.specs.declared.pattern.Pattern.TheOpen as P
use Rattle.sk_tree.specs.declared.pattern.Pattern.TheFolds.{rec-Pattern}
use Rattle.sk_tree.specs.declared.expr.Expr.{Expr}
use Rattle.sk_tree.specs.declared.expr.EForm.{EForm}
use Rattle.sk_tree.specs.declared.expr.NewField.{NewField}
use Rattle.sk_tree.specs.declared.expr.EForm.TheOpen as E
use Rattle.sk_tree.specs.declared.expr.EForm.TheFolds.{fold-Expr, rec-Expr}
use Rattle.sk_tree.specs.declared.stmt.Stmt.{Stmt}
use Rattle.sk_tree.specs.declared.stmt.Form.{Form}
use Rattle.sk_tree.specs.declared.stmt.Form.TheOpen as F
use Rattle.sk_tree.specs.declared.stmt.Form.TheFolds.{rec-Stmt}
use Rattle.sk_tree.specs.declared.stmt.Declared.{Declared}
use Rattle.sk_tree.specs.declared.stmt.StepKind.{StepKind}
use Rattle.sk_tree.specs.declared.stmt.StepKind.TheVariants as step
use Rattle.sk_tree.specs.declared.item.Base.{Base}
use Rattle.sk_tree.specs.declared.item.Base.TheVariants as base
use Rattle.sk_tree.specs.declared.item.TyTree.{TyTree}
use Rattle.sk_tree.specs.declared.item.Field.{Field}
use Rattle.sk_tree.specs.declared.item.Param.{Param}
use Rattle.sk_tree.specs.declared.item.FunKind.{FunKind}
use Rattle.sk_tree.specs.declared.item.FunKind.TheVariants as funkind
use Rattle.sk_tree.specs.declared.item.FunItem.{FunItem}
use Rattle.sk_tree.specs.declared.item.Item.{Item}
use Rattle.sk_tree.specs.declared.item.Item.TheVariants as item
use Rattle.sk_tree.specs.declared.item.Tree.{Tree}
use Rattle.sk_tree.specs.Phrase.{Phrase, Never, Nothing, Given, One, Sign, Keyword, ◌▸◌, Each, Between, Perhaps, span_of}
use Rattle.sk_tree.specs.Strings.{strings_of, most_strings}
use Rattle.sk_tree.specs.Placed.{expr_placed}
use Rattle.sk_tree.specs.Depth.{expr_depth, most_levels}

-- tokens that are spelt so, and whose span this is
abbrev pub Spans : Span → Phrase → Phrase
Spans s P ts = P ts × (s ≡ span_of ts)

-- at least one
abbrev pub are_some : {A : Type 0} → List A → Bool
are_some [] = false
are_some (a ∷ rest) = true

-- Patterns

-- What a part of a pattern stands for: a choice, a sequence in a choice, a part of a sequence, or what stands
-- before a `?`.
pub data PatternRole : Type 0 where
  AsChoice AsSequence AsPart AsPlain : PatternRole

-- `| ? ( ) {| |}` are no tokens of a string
abbrev pub may_mark : Mark → Bool
may_mark mark.Bar = false
may_mark mark.Question = false
may_mark mark.OpenParen = false
may_mark mark.CloseParen = false
may_mark mark.OpenPattern = false
may_mark mark.ClosePattern = false
may_mark _ = true

-- the tokens that may stand in a string
abbrev pub may_stand : Kind → Bool
may_stand (kind.Mark m) = may_mark m
may_stand _ = true

-- one token, or a choice in parentheses
abbrev pub is_plain : PatternRole → Bool
is_plain AsPart = true
is_plain AsPlain = true
is_plain _ = false

-- A choice is sequences with `|` between them, at least one, and a sequence is parts, at least one. A part is a
-- token or a choice in parentheses, and may have one `?` behind it.
abbrev pub pattern_spelt : (X : Type 0) → (X → Pattern) → (X → PatternRole → Phrase) → P.Pattern-F X → PatternRole → Phrase
pattern_spelt X v k (P.Choice ps) AsChoice = Given (IsTrue (are_some ps)) (Between (Sign mark.Bar) (λ p. k p AsSequence) ps)
pattern_spelt X v k (P.Seq ps) AsSequence = Given (IsTrue (are_some ps)) (Each (λ p. k p AsPart) ps)
pattern_spelt X v k (P.Maybe p) AsPart = k p AsPlain ▸ Sign mark.Question
pattern_spelt X v k (P.Group p) role = Given (IsTrue (is_plain role)) (Sign mark.OpenParen ▸ k p AsChoice ▸ Sign mark.CloseParen)
pattern_spelt X v k (P.One t) role = Given (IsTrue (is_plain role && may_stand t.kind)) (λ ts. ts ≡ t ∷ [])
pattern_spelt X v k _ _ = Never

-- the tokens of a pattern in its role
abbrev pub SpeltPart : Pattern → PatternRole → Phrase
SpeltPart = rec-Pattern (PatternRole → Phrase) pattern_spelt

-- Expressions

-- `! ~ -`
abbrev pub is_unary : Mark → Bool
is_unary mark.Bang = true
is_unary mark.Tilde = true
is_unary mark.Minus = true
is_unary _ = false

-- what a pattern says, of which these are the trees of its strings
abbrev pub Saying : Type 1
Saying = Pattern → List Expr → Phrase

-- The forms of an expression. A step is given the parts (X, Y, Z) and how each of them is spelt.
module _ (says : Saying) where
  abbrev pub eform_spelt : (X Y Z : Type 0) → (X → EForm) → (Y → Expr) → (Z → NewField) → (X → Phrase) → (Y → Phrase) → (Z → Phrase) → E.EForm-F X Y Z → Phrase
  eform_spelt X Y Z u v w f e n (E.Number k) = One (kind.Number k)
  eform_spelt X Y Z u v w f e n E.True = Keyword key.True
  eform_spelt X Y Z u v w f e n E.False = Keyword key.False
  eform_spelt X Y Z u v w f e n E.Null = Keyword key.Null
  eform_spelt X Y Z u v w f e n (E.Word x) = One (kind.Word x)
  eform_spelt X Y Z u v w f e n (E.Hole None) = Sign mark.Hole
  eform_spelt X Y Z u v w f e n (E.Hole (Some k)) = Sign mark.Hole ▸ Sign mark.OpenParen ▸ One (kind.Number k) ▸ Sign mark.CloseParen
  eform_spelt X Y Z u v w f e n (E.Pattern pattern strings) = says pattern (map v strings)
  eform_spelt X Y Z u v w f e n (E.Paren a) = Sign mark.OpenParen ▸ e a ▸ Sign mark.CloseParen
  eform_spelt X Y Z u v w f e n (E.Call x args) = One (kind.Word x) ▸ Sign mark.OpenParen ▸ Between (Sign mark.Comma) e args ▸ Sign mark.CloseParen
  eform_spelt X Y Z u v w f e n (E.New x fields) = Keyword key.New ▸ One (kind.Word x) ▸ Sign mark.OpenParen ▸ Between (Sign mark.Comma) n fields ▸ Sign mark.CloseParen
  eform_spelt X Y Z u v w f e n (E.Braces es) = Given (IsTrue (are_some es)) (Sign mark.OpenBrace ▸ Between (Sign mark.Comma) e es ▸ Sign mark.CloseBrace)
  eform_spelt X Y Z u v w f e n (E.Member a x) = e a ▸ Sign mark.Dot ▸ One (kind.Word x)
  eform_spelt X Y Z u v w f e n (E.Index a i) = e a ▸ Sign mark.OpenBracket ▸ e i ▸ Sign mark.CloseBracket
  eform_spelt X Y Z u v w f e n (E.Slice a i k) = e a ▸ Sign mark.OpenBracket ▸ e i ▸ Sign mark.DoubleColon ▸ e k ▸ Sign mark.CloseBracket
  eform_spelt X Y Z u v w f e n (E.Unary op a) = Given (IsTrue (is_unary op)) (Sign op ▸ e a)
  eform_spelt X Y Z u v w f e n (E.Binary op a b) = e a ▸ Sign op ▸ e b
  eform_spelt X Y Z u v w f e n (E.Cond c a b) = e c ▸ Sign mark.Question ▸ e a ▸ Sign mark.Colon ▸ e b

abbrev pub expr_spelt : (X Y Z : Type 0) → (X → EForm) → (Y → Expr) → (Z → NewField) → (X → Phrase) → (Y → Phrase) → (Z → Phrase) → E.Expr-F X Y Z → Phrase
expr_spelt X Y Z u v w f e n x = Spans x.span (f x.form)

abbrev pub field_spelt : (X Y Z : Type 0) → (X → EForm) → (Y → Expr) → (Z → NewField) → (X → Phrase) → (Y → Phrase) → (Z → Phrase) → E.NewField-F X Y Z → Phrase
field_spelt X Y Z u v w f e n x = One (kind.Word x.name) ▸ Sign mark.Assign ▸ e x.value

-- the tokens of an expression without patterns, as the trees of strings are
abbrev pub SpeltString : Expr → Phrase
SpeltString = rec-Expr Phrase Phrase Phrase (eform_spelt (λ pattern strings. Never)) expr_spelt field_spelt

-- the tree of a string: it spells the string, stands as it may, and is not too deep
pub record ReadsString (string : List Token) (tree : Expr) : Type 0 where
  pub spelt : SpeltString tree string
  pub placed : IsTrue (expr_placed tree)
  pub within : expr_depth tree ≤ most_levels

-- a string that reads as no expression
abbrev pub ReadsNot : List Token → Type 0
ReadsNot string = (tree : Expr) → ReadsString string tree → ⊥

-- a pattern with too many strings
abbrev pub HasTooMany : Pattern → Type 0
HasTooMany pattern = most_strings < length (strings_of pattern)

-- a pattern with a string that reads as no expression
abbrev pub HasBad : Pattern → Type 0
HasBad pattern = (string : List Token) × Contains (strings_of pattern) string × ReadsNot string

-- the trees of the strings of a pattern, in order
pub record HasTrees (pattern : Pattern) (trees : List Expr) : Type 0 where
  pub few : length (strings_of pattern) ≤ most_strings
  pub each : AllZip ReadsString (strings_of pattern) trees

-- What a pattern node holds: the trees of its strings, or none where there are too many or one of them reads as
-- no expression.
abbrev pub Holds : Pattern → List Expr → Type 0
Holds pattern trees = HasTrees pattern trees ⊎ ((HasTooMany pattern ⊎ HasBad pattern) × (trees ≡ []))

-- the tokens of a pattern node
abbrev pub SpeltPattern : Saying
SpeltPattern pattern trees = Given (Holds pattern trees) (Sign mark.OpenPattern ▸ SpeltPart pattern AsChoice ▸ Sign mark.ClosePattern)

-- the tokens of an expression
abbrev pub SpeltExpr : Expr → Phrase
SpeltExpr = rec-Expr Phrase Phrase Phrase (eform_spelt SpeltPattern) expr_spelt field_spelt

-- A test of an expression by its form.
abbrev pub asks : (E.EForm-F Bool Bool (Unit {0}) → Bool) → Expr → Bool
asks test = fold-Expr Bool Bool (Unit {0}) test (λ x. x.form) (λ x. tt)

abbrev pub eform_is_place : E.EForm-F Bool Bool (Unit {0}) → Bool
eform_is_place (E.Word x) = true
eform_is_place (E.Member e x) = e
eform_is_place (E.Index e i) = e
eform_is_place _ = false

abbrev pub eform_is_pattern : E.EForm-F Bool Bool (Unit {0}) → Bool
eform_is_pattern (E.Pattern pattern strings) = true
eform_is_pattern _ = false

abbrev pub eform_is_call : E.EForm-F Bool Bool (Unit {0}) → Bool
eform_is_call (E.Call x args) = true
eform_is_call _ = false

-- what may stand as a target: a word with fields and elements behind it, or a pattern alone
abbrev pub is_target : Expr → Bool
is_target e = asks eform_is_place e || asks eform_is_pattern e

abbrev pub is_call : Expr → Bool
is_call = asks eform_is_call

-- the tokens of a target
abbrev pub SpeltTarget : Expr → Phrase
SpeltTarget e = Given (IsTrue (is_target e)) (SpeltExpr e)

-- Types

abbrev pub SpeltBase : Base → Phrase
SpeltBase base.Int = Keyword key.Int
SpeltBase base.Bit = Keyword key.Bit
SpeltBase (base.Named x) = One (kind.Word x)

abbrev pub SpeltLength : Expr → Phrase
SpeltLength e = Sign mark.OpenBracket ▸ SpeltExpr e ▸ Sign mark.CloseBracket

-- the tokens of a type: its base, and at most two lengths
abbrev pub SpeltTy : TyTree → Phrase
SpeltTy ty = Given (IsTrue (nat_le (length ty.lengths) 2)) (SpeltBase ty.base ▸ Each SpeltLength ty.lengths)

-- Statements

-- Where a statement stands: directly in a block, as the body of another statement, or as `first` or `next` of a
-- `for`.
pub data Role : Type 0 where
  InBlock AsBody AsFirst AsNext : Role

-- a statement that is none of a `for`'s own
abbrev pub is_whole : Role → Bool
is_whole InBlock = true
is_whole AsBody = true
is_whole AsFirst = false
is_whole AsNext = false

-- A step is not the first of a `for`.
abbrev pub may_step : Role → Bool
may_step AsFirst = false
may_step _ = true

abbrev pub is_there : {A : Type 0} → Option A → Bool
is_there None = false
is_there (Some a) = true

-- one name with its value
abbrev pub is_one_with_value : List Declared → Bool
is_one_with_value (d ∷ []) = is_there d.value
is_one_with_value _ = false

-- Declarations stand directly in a block, with at least one name, and as the first of a `for`, with one name
-- and its value.
abbrev pub may_declare : Role → List Declared → Bool
may_declare InBlock names = are_some names
may_declare AsFirst names = is_one_with_value names
may_declare _ names = false

-- A `for`'s own statements are spelt without a `;`.
abbrev pub Ending : Role → Phrase
Ending InBlock = Sign mark.Semicolon
Ending AsBody = Sign mark.Semicolon
Ending AsFirst = Nothing
Ending AsNext = Nothing

-- `name` or `name = value`
abbrev pub SpeltDeclared : Declared → Phrase
SpeltDeclared d = One (kind.Word d.name) ▸ Perhaps (λ value. Sign mark.Assign ▸ SpeltExpr value) d.value

-- the six steps; only `+=` and `-=` have a value
abbrev pub SpeltStep : StepKind → Expr → Option Expr → Phrase
SpeltStep step.PostInc target None = SpeltTarget target ▸ Sign mark.Increment
SpeltStep step.PostDec target None = SpeltTarget target ▸ Sign mark.Decrement
SpeltStep step.PreInc target None = Sign mark.Increment ▸ SpeltTarget target
SpeltStep step.PreDec target None = Sign mark.Decrement ▸ SpeltTarget target
SpeltStep step.Add target (Some e) = SpeltTarget target ▸ Sign mark.AddAssign ▸ SpeltExpr e
SpeltStep step.Sub target (Some e) = SpeltTarget target ▸ Sign mark.SubAssign ▸ SpeltExpr e
SpeltStep _ _ _ = Never

-- an expression in parentheses behind a keyword
abbrev pub SpeltParens : Expr → Phrase
SpeltParens e = Sign mark.OpenParen ▸ SpeltExpr e ▸ Sign mark.CloseParen

-- a statement that only stands whole
abbrev pub Whole : Role → Phrase → Phrase
Whole role P = Given (IsTrue (is_whole role)) P

-- The forms of a statement, in its role.
abbrev pub form_spelt : (X Y : Type 0) → (X → Form) → (Y → Stmt) → (X → Role → Phrase) → (Y → Role → Phrase) → F.Form-F X Y → Role → Phrase
form_spelt X Y u v f s (F.Block ss) role = Whole role (Sign mark.OpenBrace ▸ Each (λ a. s a InBlock) ss ▸ Sign mark.CloseBrace)
form_spelt X Y u v f s F.Empty role = Whole role (Sign mark.Semicolon)
form_spelt X Y u v f s (F.Declare ty names) role = Given (IsTrue (may_declare role names)) (SpeltTy ty ▸ Between (Sign mark.Comma) SpeltDeclared names ▸ Ending role)
form_spelt X Y u v f s (F.Assign target value) role = SpeltTarget target ▸ Sign mark.Assign ▸ SpeltExpr value ▸ Ending role
form_spelt X Y u v f s (F.Call e) role = Whole role (Given (IsTrue (is_call e)) (SpeltExpr e ▸ Sign mark.Semicolon))
form_spelt X Y u v f s (F.Step kind target by) role = Given (IsTrue (may_step role)) (SpeltStep kind target by ▸ Ending role)
form_spelt X Y u v f s (F.If c a b) role = Whole role (Keyword key.If ▸ SpeltParens c ▸ s a AsBody ▸ Perhaps (λ other. Keyword key.Else ▸ s other AsBody) b)
form_spelt X Y u v f s (F.While c a) role = Whole role (Keyword key.While ▸ SpeltParens c ▸ s a AsBody)
form_spelt X Y u v f s (F.For first c next body) role =
    Whole role
    (Keyword key.For ▸ Sign mark.OpenParen ▸ s first AsFirst ▸ Sign mark.Semicolon ▸ SpeltExpr c ▸ Sign mark.Semicolon
    ▸ s next AsNext ▸ Sign mark.CloseParen ▸ s body AsBody)
form_spelt X Y u v f s (F.Return value) role = Whole role (Keyword key.Return ▸ Perhaps SpeltExpr value ▸ Sign mark.Semicolon)
form_spelt X Y u v f s (F.Assert e) role = Whole role (Keyword key.Assert ▸ SpeltExpr e ▸ Sign mark.Semicolon)
form_spelt X Y u v f s (F.Assume e) role = Whole role (Keyword key.Assume ▸ SpeltExpr e ▸ Sign mark.Semicolon)
form_spelt X Y u v f s (F.Minimize e) role = Whole role (Keyword key.Minimize ▸ SpeltParens e ▸ Sign mark.Semicolon)
form_spelt X Y u v f s (F.Repeat c a) role = Whole role (Keyword key.Repeat ▸ SpeltParens c ▸ s a AsBody)
form_spelt X Y u v f s (F.MinRepeat a) role = Whole role (Keyword key.Minrepeat ▸ s a AsBody)
form_spelt X Y u v f s (F.Reorder ss) role = Whole role (Keyword key.Reorder ▸ Sign mark.OpenBrace ▸ Each (λ a. s a InBlock) ss ▸ Sign mark.CloseBrace)

abbrev pub stmt_spelt : (X Y : Type 0) → (X → Form) → (Y → Stmt) → (X → Role → Phrase) → (Y → Role → Phrase) → F.Stmt-F X Y → Role → Phrase
stmt_spelt X Y u v f s x role = Spans x.span (f x.form role)

-- the tokens of a statement in its role
abbrev pub SpeltStmt : Stmt → Role → Phrase
SpeltStmt = rec-Stmt (Role → Phrase) (Role → Phrase) form_spelt stmt_spelt

-- Items

abbrev pub SpeltField : Field → Phrase
SpeltField d = SpeltTy d.ty ▸ One (kind.Word d.name) ▸ Sign mark.Semicolon

abbrev pub SpeltRef : Bool → Phrase
SpeltRef false = Nothing
SpeltRef true = Keyword key.Ref

abbrev pub SpeltParam : Param → Phrase
SpeltParam p = SpeltRef p.by_ref ▸ SpeltTy p.ty ▸ One (kind.Word p.name)

abbrev pub SpeltKind : FunKind → Phrase
SpeltKind funkind.Plain = Nothing
SpeltKind funkind.Harness = Keyword key.Harness
SpeltKind funkind.Generator = Keyword key.Generator

-- a result's type, or `void`
abbrev pub SpeltResult : Option TyTree → Phrase
SpeltResult None = Keyword key.Void
SpeltResult (Some ty) = SpeltTy ty

-- the tokens of a function
abbrev pub SpeltFun : FunItem → Phrase
SpeltFun f =
    SpeltKind f.kind ▸ SpeltResult f.result ▸ One (kind.Word f.name)
    ▸ Sign mark.OpenParen ▸ Between (Sign mark.Comma) SpeltParam f.params ▸ Sign mark.CloseParen
    ▸ Perhaps (λ g. Keyword key.Implements ▸ One (kind.Word g)) f.implements
    ▸ Sign mark.OpenBrace ▸ Each (λ s. SpeltStmt s InBlock) f.body ▸ Sign mark.CloseBrace

-- the tokens of an item
abbrev pub SpeltItem : Item → Phrase
SpeltItem (item.Pragma word text) = Keyword key.Pragma ▸ One (kind.Word word) ▸ One (kind.Text text) ▸ Sign mark.Semicolon
SpeltItem (item.Struct x fields) = Keyword key.Struct ▸ One (kind.Word x) ▸ Sign mark.OpenBrace ▸ Each SpeltField fields ▸ Sign mark.CloseBrace
SpeltItem (item.Const x value) = Keyword key.Int ▸ One (kind.Word x) ▸ Sign mark.Assign ▸ SpeltExpr value ▸ Sign mark.Semicolon
SpeltItem (item.Fun f) = SpeltFun f

-- the tokens of a whole tree
abbrev pub SpeltTree : Tree → Phrase
SpeltTree tree = Each SpeltItem tree.items
