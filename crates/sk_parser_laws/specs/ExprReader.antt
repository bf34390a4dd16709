-- The reader of expressions, by levels and within a budget of depth.
use Rattle.std.specs.Prelude.{ℕ, zero, suc, ◌-◌, max, nat_le, Bool, true, not, ◌&&◌, ◌||◌, List, [], ◌∷◌, ◌++◌, Option, Some, None, if◌then◌else◌}
use Rattle.sk_tree.specs.declared.token.Token.{Token}
use Rattle.sk_tree.specs.declared.token.Kind.{Kind}
use Rattle.sk_tree.specs.declared.token.Kind.TheVariants as kind
use Rattle.sk_tree.specs.declared.token.Mark.{Mark}
use Rattle.sk_tree.specs.declared.token.Mark.TheVariants as mark
use Rattle.sk_tree.specs.declared.token.Key.TheVariants as key
use Rattle.sk_tree.specs.declared.pattern.Pattern.{Pattern}
use Rattle.sk_tree.specs.declared.expr.Expr.{Expr}
use Rattle.sk_tree.specs.declared.expr.EForm.{EForm}
use Rattle.sk_tree.specs.declared.expr.EForm.TheVariants as eform
use Rattle.sk_tree.specs.Spelt.{AsChoice, is_unary}
use Rattle.sk_tree.specs.Placed.{level_of}
use Rattle.sk_parser_laws.specs.Readers.{◌>>=◌, Reader, mark_ahead, mark_at, word_at, number_at, span_between, repeated, deeper}
use Rattle.sk_parser_laws.specs.PatternReader.{pattern_at}
use Rattle.sk_parser_laws.specs.declared.pieces.Deep.{Deep}
use Rattle.sk_parser_laws.specs.declared.pieces.Row.{Row}
use Rattle.sk_parser_laws.specs.declared.pieces.Fields.{Fields}

-- An expression of this form, from the start up to the rest, whose parts have this depth, within the budget.
unfoldable pub made : ℕ → List Token → EForm → ℕ → List Token → Option (Deep × List Token)
made budget start form depth rest =
    deeper budget depth >>= λ d. Some (record { expr = record { span = span_between start rest; form = form }; depth = d }, rest)

-- how an expression of a level is read, within a smaller budget
abbrev pub ByLevel : Type 0
ByLevel = ℕ → Reader Deep

-- the level of any expression
abbrev pub any_level : ℕ
any_level = 13

-- Expressions with commas between them

abbrev pub one_expr : Deep → Row
one_expr e = record { items = e.expr ∷ []; depth = e.depth }

unfoldable pub push_expr : Row → Deep → Row
push_expr row e = record { items = row.items ++ e.expr ∷ []; depth = max row.depth e.depth }

-- no comma follows
unfoldable pub ends_row : List Token → Bool
ends_row ts = not (mark_ahead mark.Comma ts)

unfoldable pub next_expr : ByLevel → Row → Reader Row
next_expr inner row ts = do
  comma ← mark_at mark.Comma ts
  e ← inner any_level comma
  Some (push_expr row e.0, e.1)

-- at least one
unfoldable pub exprs_at : ByLevel → Reader Row
exprs_at inner ts = inner any_level ts >>= λ e. repeated ends_row (next_expr inner) (one_expr e.0) e.1

-- any number of them, up to a closing parenthesis
unfoldable pub args_at : ByLevel → Reader Row
args_at inner ts = if mark_ahead mark.CloseParen ts then Some (record { items = []; depth = 0 }, ts) else exprs_at inner ts

-- the fields that `new` sets

unfoldable pub push_field : Fields → List ℕ → Deep → ℕ → Fields
push_field fields name e depth = record { items = fields.items ++ record { name = name; value = e.expr } ∷ []; depth = max fields.depth depth }

unfoldable pub field_at : ByLevel → ℕ → Fields → Reader Fields
field_at inner budget fields ts = do
  name ← word_at ts
  gets ← mark_at mark.Assign name.1
  e ← inner any_level gets
  d ← deeper budget e.0.depth
  Some (push_field fields name.0 e.0 d, e.1)

unfoldable pub next_field : ByLevel → ℕ → Fields → Reader Fields
next_field inner budget fields ts = mark_at mark.Comma ts >>= λ comma. field_at inner budget fields comma

abbrev pub no_fields : Fields
no_fields = record { items = []; depth = 0 }

unfoldable pub some_fields_at : ByLevel → ℕ → Reader Fields
some_fields_at inner budget ts = field_at inner budget no_fields ts >>= λ f. repeated ends_row (next_field inner budget) f.0 f.1

unfoldable pub fields_at : ByLevel → ℕ → Reader Fields
fields_at inner budget ts = if mark_ahead mark.CloseParen ts then Some (no_fields, ts) else some_fields_at inner budget ts

-- What stands by itself, behind its first token

unfoldable pub wide_hole_at : ℕ → List Token → Reader Deep
wide_hole_at budget start ts = do
  opening ← mark_at mark.OpenParen ts
  n ← number_at opening
  closing ← mark_at mark.CloseParen n.1
  made budget start (eform.Hole (Some n.0)) 0 closing

unfoldable pub hole_at : ℕ → List Token → Reader Deep
hole_at budget start ts = if mark_ahead mark.OpenParen ts then wide_hole_at budget start ts else made budget start (eform.Hole None) 0 ts

unfoldable pub paren_at : ByLevel → ℕ → List Token → Reader Deep
paren_at inner budget start ts = do
  e ← inner any_level ts
  closing ← mark_at mark.CloseParen e.1
  made budget start (eform.Paren e.0.expr) e.0.depth closing

unfoldable pub call_at : ByLevel → ℕ → List Token → List ℕ → Reader Deep
call_at inner budget start name ts = do
  opening ← mark_at mark.OpenParen ts
  args ← args_at inner opening
  closing ← mark_at mark.CloseParen args.1
  made budget start (eform.Call name args.0.items) args.0.depth closing

unfoldable pub named_at : ByLevel → ℕ → List Token → List ℕ → Reader Deep
named_at inner budget start name ts = if mark_ahead mark.OpenParen ts then call_at inner budget start name ts else made budget start (eform.Word name) 0 ts

unfoldable pub new_at : ByLevel → ℕ → List Token → Reader Deep
new_at inner budget start ts = do
  name ← word_at ts
  opening ← mark_at mark.OpenParen name.1
  fields ← fields_at inner budget opening
  closing ← mark_at mark.CloseParen fields.1
  made budget start (eform.New name.0 fields.0.items) fields.0.depth closing

unfoldable pub braces_at : ByLevel → ℕ → List Token → Reader Deep
braces_at inner budget start ts = do
  row ← exprs_at inner ts
  closing ← mark_at mark.CloseBrace row.1
  made budget start (eform.Braces row.0.items) row.0.depth closing

-- the trees that a pattern node holds, or none where no pattern may stand
abbrev pub Trees : Type 0
Trees = Pattern → Option (List Expr)

unfoldable pub offer_at : Trees → ℕ → List Token → Reader Deep
offer_at trees budget start ts = do
  p ← pattern_at budget AsChoice ts
  closing ← mark_at mark.ClosePattern p.1
  strings ← trees p.0.pattern
  made budget start (eform.Pattern p.0.pattern strings) p.0.depth closing

module _ (trees : Trees) (inner : ByLevel) (budget : ℕ) where
  abbrev pub primary_kind : List Token → Kind → Reader Deep
  primary_kind start (kind.Number n) ts = made budget start (eform.Number n) 0 ts
  primary_kind start (kind.Word x) ts = named_at inner budget start x ts
  primary_kind start (kind.Key key.True) ts = made budget start eform.True 0 ts
  primary_kind start (kind.Key key.False) ts = made budget start eform.False 0 ts
  primary_kind start (kind.Key key.Null) ts = made budget start eform.Null 0 ts
  primary_kind start (kind.Key key.New) ts = new_at inner budget start ts
  primary_kind start (kind.Mark mark.Hole) ts = hole_at budget start ts
  primary_kind start (kind.Mark mark.OpenParen) ts = paren_at inner budget start ts
  primary_kind start (kind.Mark mark.OpenBrace) ts = braces_at inner budget start ts
  primary_kind start (kind.Mark mark.OpenPattern) ts = offer_at trees budget start ts
  primary_kind start _ ts = None

  unfoldable pub primary_at : Reader Deep
  primary_at [] = None
  primary_at (t ∷ ts) = primary_kind (t ∷ ts) t.kind ts

-- What stands behind a base: `.x`, `[i]`, `[i::n]`

-- neither `.` nor `[` follows
unfoldable pub ends_base : List Token → Bool
ends_base ts = not (mark_ahead mark.Dot ts || mark_ahead mark.OpenBracket ts)

unfoldable pub member_at : ℕ → List Token → Deep → Reader Deep
member_at budget start base ts = do
  dot ← mark_at mark.Dot ts
  name ← word_at dot
  made budget start (eform.Member base.expr name.0) base.depth name.1

unfoldable pub slice_at : ByLevel → ℕ → List Token → Deep → Deep → Reader Deep
slice_at inner budget start base from ts = do
  colons ← mark_at mark.DoubleColon ts
  n ← inner any_level colons
  closing ← mark_at mark.CloseBracket n.1
  made budget start (eform.Slice base.expr from.expr n.0.expr) (max base.depth (max from.depth n.0.depth)) closing

unfoldable pub element_at : ℕ → List Token → Deep → Deep → Reader Deep
element_at budget start base index ts = do
  closing ← mark_at mark.CloseBracket ts
  made budget start (eform.Index base.expr index.expr) (max base.depth index.depth) closing

unfoldable pub bracket_at : ByLevel → ℕ → List Token → Deep → Reader Deep
bracket_at inner budget start base ts = do
  opening ← mark_at mark.OpenBracket ts
  i ← inner any_level opening
  if mark_ahead mark.DoubleColon i.1 then slice_at inner budget start base i.0 i.1 else element_at budget start base i.0 i.1

unfoldable pub behind_base : ByLevel → ℕ → List Token → Deep → Reader Deep
behind_base inner budget start base ts = if mark_ahead mark.Dot ts then member_at budget start base ts else bracket_at inner budget start base ts

-- Operators

-- an operator of at most this level
abbrev pub is_operator : ℕ → Mark → Bool
is_operator level op = nat_le 3 (level_of op) && nat_le (level_of op) level

-- no such operator stands there
abbrev pub ends_chain_kind : ℕ → Kind → Bool
ends_chain_kind level (kind.Mark op) = not (is_operator level op)
ends_chain_kind level _ = true

unfoldable pub ends_chain : ℕ → List Token → Bool
ends_chain level [] = true
ends_chain level (t ∷ ts) = ends_chain_kind level t.kind

abbrev pub operator_kind : Kind → List Token → Option (Mark × List Token)
operator_kind (kind.Mark op) ts = if nat_le 3 (level_of op) then Some (op, ts) else None
operator_kind _ ts = None

-- the binary operator at the front
unfoldable pub operator_at : Reader Mark
operator_at [] = None
operator_at (t ∷ ts) = operator_kind t.kind ts

abbrev pub sign_kind : Kind → List Token → Option (Mark × List Token)
sign_kind (kind.Mark op) ts = if is_unary op then Some (op, ts) else None
sign_kind _ ts = None

-- the unary operator at the front
unfoldable pub sign_at : Reader Mark
sign_at [] = None
sign_at (t ∷ ts) = sign_kind t.kind ts

-- an operator of level 3 or more, and its right operand, which binds more tightly
unfoldable pub behind_operand : ByLevel → ℕ → List Token → Deep → Reader Deep
behind_operand inner budget start left ts = do
  op ← operator_at ts
  right ← inner (level_of op.0 - 1) op.1
  made budget start (eform.Binary op.0 left.expr right.0.expr) (max left.depth right.0.depth) right.1

-- `? then : other` behind a condition
unfoldable pub choice_at : ByLevel → ℕ → List Token → Deep → Reader Deep
choice_at inner budget start cond ts = do
  question ← mark_at mark.Question ts
  a ← inner any_level question
  colon ← mark_at mark.Colon a.1
  b ← inner any_level colon
  made budget start (eform.Cond cond.expr a.0.expr b.0.expr) (max cond.depth (max a.0.depth b.0.depth)) b.1

unfoldable pub behind_cond : ByLevel → ℕ → ℕ → List Token → Deep → Reader Deep
behind_cond inner budget level start cond ts =
    if nat_le any_level level && mark_ahead mark.Question ts then choice_at inner budget start cond ts else Some (cond, ts)

-- an operand of level 2 behind a unary operator
unfoldable pub signed_at : ByLevel → ℕ → List Token → Mark → Reader Deep
signed_at inner budget start op ts = inner 2 ts >>= λ e. made budget start (eform.Unary op e.0.expr) e.0.depth e.1

module _ (trees : Trees) (inner : ByLevel) (budget : ℕ) where
  -- what stands by itself, and what stands behind it
  unfoldable pub base_at : Reader Deep
  base_at ts = primary_at trees inner budget ts >>= λ p. repeated ends_base (behind_base inner budget ts) p.0 p.1

  abbrev pub by_sign : List Token → Option (Mark × List Token) → Option (Deep × List Token)
  by_sign start None = base_at start
  by_sign start (Some op) = signed_at inner budget start op.0 op.1

  -- an expression of level 1, or of level 2 where that may stand
  unfoldable pub operand_at : ℕ → Reader Deep
  operand_at level ts = if nat_le 2 level then by_sign ts (sign_at ts) else base_at ts

  unfoldable pub level_at : ℕ → Reader Deep
  level_at level ts = do
    a ← operand_at level ts
    c ← repeated (ends_chain level) (behind_operand inner budget ts) a.0 a.1
    behind_cond inner budget level ts c.0 c.1

-- the expression of at most this level at the front, at most so deep
unfoldable pub expr_at : Trees → ℕ → ByLevel
expr_at trees zero level ts = None
expr_at trees (suc b) level ts = level_at trees (expr_at trees b) (suc b) level ts
