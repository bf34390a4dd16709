-- How the trees are spelt that are built of one form.
use Rattle.std.proofs.Common.{◌≡◌, ℕ, List, [], ◌∷◌, ◌++◌, map, Some, None, refl, sym, ap, ◌∙◌}
use Rattle.sk_base.specs.declared.span.Span.{Span}
use Rattle.sk_tree.specs.declared.token.Kind.{Kind}
use Rattle.sk_tree.specs.declared.token.Mark.{Mark}
use Rattle.sk_tree.specs.declared.token.Mark.TheVariants as mark
use Rattle.sk_tree.specs.declared.token.Key.TheVariants as key
use Rattle.sk_tree.specs.declared.pattern.Pattern.TheVariants as pattern
use Rattle.sk_tree.specs.declared.pattern.Pattern.TheOpen as P
use Rattle.sk_tree.specs.declared.pattern.Pattern.TheFolds.{fold-roll-Pattern}
use Rattle.sk_tree.specs.declared.expr.Expr.{Expr}
use Rattle.sk_tree.specs.declared.expr.EForm.{EForm}
use Rattle.sk_tree.specs.declared.expr.EForm.TheVariants as eform
use Rattle.sk_tree.specs.declared.expr.NewField.{NewField}
use Rattle.sk_tree.specs.declared.expr.EForm.TheOpen as E
use Rattle.sk_tree.specs.declared.expr.EForm.TheViews.{roll-EForm}
use Rattle.sk_tree.specs.declared.expr.EForm.TheFolds.{map-EForm, fold-EForm, fold-NewField, fold-roll-EForm, fold-roll-Expr, fold-roll-NewField}
use Rattle.sk_tree.specs.declared.stmt.Stmt.{Stmt}
use Rattle.sk_tree.specs.declared.stmt.Form.{Form}
use Rattle.sk_tree.specs.declared.stmt.Form.TheOpen as F
use Rattle.sk_tree.specs.declared.stmt.Form.TheViews.{roll-Form}
use Rattle.sk_tree.specs.declared.stmt.Form.TheFolds.{map-Form, fold-Form, fold-roll-Form, fold-roll-Stmt}
use Rattle.sk_tree.specs.Spelt.{Role}
use Rattle.sk_tree.specs.Spell.{Kinds, ◌▹◌, each, between, word, number, sign, keyword, spell_part, spell_pattern, spell_eform, spell_new_field, spell_expr, spell_form, spell_stmt}
use Rattle.sk_types_rules.specs.Erase.{at}
use Rattle.sk_print_laws.specs.Printed.{part_of_kind, sequence_of, choice_of, of_form}

-- Patterns

one_spelled : (k : Kind) → spell_pattern (part_of_kind k) ≡ k ∷ []
one_spelled k = ap spell_pattern (sym (pattern.rolls-One (record { kind = k; span = record { from = 0; to = 0 } }))) ∙ fold-roll-Pattern Kinds spell_part (P.One (record { kind = k; span = record { from = 0; to = 0 } }))

ones_spelled : (ks : List Kind) → each (map spell_pattern (map part_of_kind ks)) ≡ ks
ones_spelled [] = refl
ones_spelled (k ∷ ks) = λ i. one_spelled k i ++ ones_spelled ks i

sequence_spelled : (e : Expr) → spell_pattern (sequence_of e) ≡ spell_expr e
sequence_spelled e = ap spell_pattern (sym (pattern.rolls-Seq (map part_of_kind (spell_expr e)))) ∙ fold-roll-Pattern Kinds spell_part (P.Seq (map part_of_kind (spell_expr e))) ∙ ones_spelled (spell_expr e)

sequences_spelled : (es : List Expr) → map spell_pattern (map sequence_of es) ≡ map spell_expr es
sequences_spelled [] = refl
sequences_spelled (e ∷ es) = λ i. sequence_spelled e i ∷ sequences_spelled es i

choice_spelled : (es : List Expr) → spell_pattern (choice_of es) ≡ between (sign mark.Bar) (map spell_expr es)
choice_spelled es = ap spell_pattern (sym (pattern.rolls-Choice (map sequence_of es))) ∙ fold-roll-Pattern Kinds spell_part (P.Choice (map sequence_of es)) ∙ ap (between (sign mark.Bar)) (sequences_spelled es)

-- Expressions

abbrev form_kinds : EForm → Kinds
form_kinds = fold-EForm Kinds Kinds Kinds spell_eform (λ x. x.form) spell_new_field

abbrev pub field_kinds : NewField → Kinds
field_kinds = fold-NewField Kinds Kinds Kinds spell_eform (λ x. x.form) spell_new_field

pub field_spelled : (x : List ℕ) (e : Expr) → field_kinds (record { name = x; value = e }) ≡ word x ▹ sign mark.Assign ▹ spell_expr e
field_spelled x e = fold-roll-NewField Kinds Kinds Kinds spell_eform (λ x. x.form) spell_new_field (record { name = x; value = e })

layer : (s : Span) (f : EForm) (l : E.EForm-F EForm Expr NewField) → roll-EForm l ≡ f → spell_expr (at f s) ≡ spell_eform (map-EForm EForm Expr NewField Kinds Kinds Kinds form_kinds spell_expr field_kinds l)
layer s f l e =
    fold-roll-Expr Kinds Kinds Kinds spell_eform (λ x. x.form) spell_new_field (record { span = s; form = f })
    ∙ ap form_kinds (sym e)
    ∙ fold-roll-EForm Kinds Kinds Kinds spell_eform (λ x. x.form) spell_new_field l

module _ (s : Span) where
  pub number_spelled : (n : ℕ) → spell_expr (at (eform.Number n) s) ≡ number n
  number_spelled n = layer s (eform.Number n) (E.Number n) (eform.rolls-Number n)

  pub true_spelled : spell_expr (at eform.True s) ≡ keyword key.True
  true_spelled = layer s eform.True E.True eform.rolls-True

  pub false_spelled : spell_expr (at eform.False s) ≡ keyword key.False
  false_spelled = layer s eform.False E.False eform.rolls-False

  pub null_spelled : spell_expr (at eform.Null s) ≡ keyword key.Null
  null_spelled = layer s eform.Null E.Null eform.rolls-Null

  pub word_spelled : (x : List ℕ) → spell_expr (at (eform.Word x) s) ≡ word x
  word_spelled x = layer s (eform.Word x) (E.Word x) (eform.rolls-Word x)

  pub hole_spelled : spell_expr (at (eform.Hole None) s) ≡ sign mark.Hole
  hole_spelled = layer s (eform.Hole None) (E.Hole None) (eform.rolls-Hole None)

  pub width_spelled : (n : ℕ) → spell_expr (at (eform.Hole (Some n)) s) ≡ sign mark.Hole ▹ sign mark.OpenParen ▹ number n ▹ sign mark.CloseParen
  width_spelled n = layer s (eform.Hole (Some n)) (E.Hole (Some n)) (eform.rolls-Hole (Some n))

  pub pattern_spelled : (es fs : List Expr) → spell_expr (at (eform.Pattern (choice_of es) fs) s) ≡ sign mark.OpenPattern ▹ between (sign mark.Bar) (map spell_expr es) ▹ sign mark.ClosePattern
  pattern_spelled es fs = layer s (eform.Pattern (choice_of es) fs) (E.Pattern (choice_of es) fs) (eform.rolls-Pattern (choice_of es) fs) ∙ ap (λ ks. sign mark.OpenPattern ▹ ks ▹ sign mark.ClosePattern) (choice_spelled es)

  pub paren_spelled : (e : Expr) → spell_expr (at (eform.Paren e) s) ≡ sign mark.OpenParen ▹ spell_expr e ▹ sign mark.CloseParen
  paren_spelled e = layer s (eform.Paren e) (E.Paren e) (eform.rolls-Paren e)

  pub call_spelled : (x : List ℕ) (es : List Expr) → spell_expr (at (eform.Call x es) s) ≡ word x ▹ sign mark.OpenParen ▹ between (sign mark.Comma) (map spell_expr es) ▹ sign mark.CloseParen
  call_spelled x es = layer s (eform.Call x es) (E.Call x es) (eform.rolls-Call x es)

  pub new_spelled : (x : List ℕ) (fs : List NewField) → spell_expr (at (eform.New x fs) s) ≡ keyword key.New ▹ word x ▹ sign mark.OpenParen ▹ between (sign mark.Comma) (map field_kinds fs) ▹ sign mark.CloseParen
  new_spelled x fs = layer s (eform.New x fs) (E.New x fs) (eform.rolls-New x fs)

  pub braces_spelled : (es : List Expr) → spell_expr (at (eform.Braces es) s) ≡ sign mark.OpenBrace ▹ between (sign mark.Comma) (map spell_expr es) ▹ sign mark.CloseBrace
  braces_spelled es = layer s (eform.Braces es) (E.Braces es) (eform.rolls-Braces es)

  pub member_spelled : (e : Expr) (x : List ℕ) → spell_expr (at (eform.Member e x) s) ≡ spell_expr e ▹ sign mark.Dot ▹ word x
  member_spelled e x = layer s (eform.Member e x) (E.Member e x) (eform.rolls-Member e x)

  pub index_spelled : (e i : Expr) → spell_expr (at (eform.Index e i) s) ≡ spell_expr e ▹ sign mark.OpenBracket ▹ spell_expr i ▹ sign mark.CloseBracket
  index_spelled e i = layer s (eform.Index e i) (E.Index e i) (eform.rolls-Index e i)

  pub slice_spelled : (e i n : Expr) → spell_expr (at (eform.Slice e i n) s) ≡ spell_expr e ▹ sign mark.OpenBracket ▹ spell_expr i ▹ sign mark.DoubleColon ▹ spell_expr n ▹ sign mark.CloseBracket
  slice_spelled e i n = layer s (eform.Slice e i n) (E.Slice e i n) (eform.rolls-Slice e i n)

  pub unary_spelled : (m : Mark) (e : Expr) → spell_expr (at (eform.Unary m e) s) ≡ sign m ▹ spell_expr e
  unary_spelled m e = layer s (eform.Unary m e) (E.Unary m e) (eform.rolls-Unary m e)

  pub binary_spelled : (m : Mark) (a b : Expr) → spell_expr (at (eform.Binary m a b) s) ≡ spell_expr a ▹ sign m ▹ spell_expr b
  binary_spelled m a b = layer s (eform.Binary m a b) (E.Binary m a b) (eform.rolls-Binary m a b)

  pub cond_spelled : (c a b : Expr) → spell_expr (at (eform.Cond c a b) s) ≡ spell_expr c ▹ sign mark.Question ▹ spell_expr a ▹ sign mark.Colon ▹ spell_expr b
  cond_spelled c a b = layer s (eform.Cond c a b) (E.Cond c a b) (eform.rolls-Cond c a b)

-- Statements

abbrev act_kinds : Form → Role → Kinds
act_kinds = fold-Form (Role → Kinds) (Role → Kinds) spell_form (λ s. s.form)

pub stmt_spelled : (s : Span) (f : Form) (l : F.Form-F Form Stmt) → roll-Form l ≡ f → (role : Role) → spell_stmt (of_form s f) role ≡ spell_form (map-Form Form Stmt (Role → Kinds) (Role → Kinds) act_kinds spell_stmt l) role
stmt_spelled s f l e role =
    λ i. (fold-roll-Stmt (Role → Kinds) (Role → Kinds) spell_form (λ x. x.form) (record { span = s; form = f })
    ∙ ap act_kinds (sym e)
    ∙ fold-roll-Form (Role → Kinds) (Role → Kinds) spell_form (λ x. x.form) l) i role
