-- Which patterns a form of several parts has.
use Rattle.std.proofs.Common.{◌≡◌, ℕ, List, [], ◌∷◌, ◌++◌, Option, Some, None, option_map, sym, ap, ◌∙◌}
use Rattle.sk_base.specs.declared.span.Span.{Span}
use Rattle.sk_tree.specs.declared.token.Mark.{Mark}
use Rattle.sk_tree.specs.declared.pattern.Pattern.{Pattern}
use Rattle.sk_tree.specs.declared.expr.Expr.{Expr}
use Rattle.sk_tree.specs.declared.expr.EForm.{EForm}
use Rattle.sk_tree.specs.declared.expr.EForm.TheVariants as eform
use Rattle.sk_tree.specs.declared.expr.NewField.{NewField}
use Rattle.sk_tree.specs.declared.expr.EForm.TheOpen as E
use Rattle.sk_tree.specs.declared.expr.EForm.TheViews.{roll-EForm}
use Rattle.sk_tree.specs.declared.expr.EForm.TheFolds.{map-EForm, fold-EForm, fold-roll-EForm, fold-roll-Expr}
use Rattle.sk_tree.specs.declared.stmt.Stmt.{Stmt}
use Rattle.sk_tree.specs.declared.stmt.Form.{Form}
use Rattle.sk_tree.specs.declared.stmt.Form.TheVariants as form
use Rattle.sk_tree.specs.declared.stmt.Form.TheOpen as F
use Rattle.sk_tree.specs.declared.stmt.Form.TheViews.{roll-Form}
use Rattle.sk_tree.specs.declared.stmt.Form.TheFolds.{map-Form, fold-Form, fold-roll-Form, fold-roll-Stmt}
use Rattle.sk_tree.specs.Patterns.{Patterns, any_patterns, eform_patterns, expr_patterns, form_patterns, stmt_patterns}
use Rattle.sk_parser_laws.specs.Faults.{set_patterns}

-- Expressions

abbrev expr : Span → EForm → Expr
expr s f = record { span = s; form = f }

abbrev within : EForm → Patterns
within = fold-EForm Patterns Patterns Patterns eform_patterns (λ x. x.form) (λ x. x.value)

expr_layer : (s : Span) (l : E.EForm-F EForm Expr NewField) → expr_patterns (expr s (roll-EForm l)) ≡ eform_patterns (map-EForm EForm Expr NewField Patterns Patterns Patterns within expr_patterns set_patterns l)
expr_layer s l =
    fold-roll-Expr Patterns Patterns Patterns eform_patterns (λ x. x.form) (λ x. x.value) (record { span = s; form = roll-EForm l })
    ∙ fold-roll-EForm Patterns Patterns Patterns eform_patterns (λ x. x.form) (λ x. x.value) l

expr_with : (e : Expr) (f : EForm) → e.form ≡ f → expr_patterns e ≡ expr_patterns (expr e.span f)
expr_with e f is = ap (λ (g : EForm). expr_patterns (expr e.span g)) is

pub of_true : (e : Expr) → e.form ≡ eform.True → expr_patterns e ≡ []
of_true e is = expr_with e (roll-EForm E.True) (is ∙ sym eform.rolls-True) ∙ expr_layer e.span E.True

pub of_false : (e : Expr) → e.form ≡ eform.False → expr_patterns e ≡ []
of_false e is = expr_with e (roll-EForm E.False) (is ∙ sym eform.rolls-False) ∙ expr_layer e.span E.False

pub of_null : (e : Expr) → e.form ≡ eform.Null → expr_patterns e ≡ []
of_null e is = expr_with e (roll-EForm E.Null) (is ∙ sym eform.rolls-Null) ∙ expr_layer e.span E.Null

pub of_number : (e : Expr) (n : ℕ) → e.form ≡ eform.Number n → expr_patterns e ≡ []
of_number e n is = expr_with e (roll-EForm (E.Number n)) (is ∙ sym (eform.rolls-Number n)) ∙ expr_layer e.span (E.Number n)

pub of_word : (e : Expr) (x : List ℕ) → e.form ≡ eform.Word x → expr_patterns e ≡ []
of_word e x is = expr_with e (roll-EForm (E.Word x)) (is ∙ sym (eform.rolls-Word x)) ∙ expr_layer e.span (E.Word x)

pub of_hole : (e : Expr) (w : Option ℕ) → e.form ≡ eform.Hole w → expr_patterns e ≡ []
of_hole e w is = expr_with e (roll-EForm (E.Hole w)) (is ∙ sym (eform.rolls-Hole w)) ∙ expr_layer e.span (E.Hole w)

pub of_pattern : (e : Expr) (p : Pattern) (es : List Expr) → e.form ≡ eform.Pattern p es → expr_patterns e ≡ p ∷ []
of_pattern e p es is = expr_with e (roll-EForm (E.Pattern p es)) (is ∙ sym (eform.rolls-Pattern p es)) ∙ expr_layer e.span (E.Pattern p es)

pub of_index : (e : Expr) (a b : Expr) → e.form ≡ eform.Index a b → expr_patterns e ≡ expr_patterns a ++ expr_patterns b
of_index e a b is = expr_with e (roll-EForm (E.Index a b)) (is ∙ sym (eform.rolls-Index a b)) ∙ expr_layer e.span (E.Index a b)

pub of_slice : (e : Expr) (a b c : Expr) → e.form ≡ eform.Slice a b c → expr_patterns e ≡ expr_patterns a ++ expr_patterns b ++ expr_patterns c
of_slice e a b c is = expr_with e (roll-EForm (E.Slice a b c)) (is ∙ sym (eform.rolls-Slice a b c)) ∙ expr_layer e.span (E.Slice a b c)

pub of_binary : (e : Expr) (op : Mark) (a b : Expr) → e.form ≡ eform.Binary op a b → expr_patterns e ≡ expr_patterns a ++ expr_patterns b
of_binary e op a b is = expr_with e (roll-EForm (E.Binary op a b)) (is ∙ sym (eform.rolls-Binary op a b)) ∙ expr_layer e.span (E.Binary op a b)

pub of_cond : (e : Expr) (a b c : Expr) → e.form ≡ eform.Cond a b c → expr_patterns e ≡ expr_patterns a ++ expr_patterns b ++ expr_patterns c
of_cond e a b c is = expr_with e (roll-EForm (E.Cond a b c)) (is ∙ sym (eform.rolls-Cond a b c)) ∙ expr_layer e.span (E.Cond a b c)

-- Statements

abbrev stmt : Span → Form → Stmt
stmt s f = record { span = s; form = f }

stmt_layer : (s : Span) (l : F.Form-F Form Stmt) → stmt_patterns (stmt s (roll-Form l)) ≡ form_patterns (map-Form Form Stmt Patterns Patterns (fold-Form Patterns Patterns form_patterns (λ x. x.form)) stmt_patterns l)
stmt_layer s l =
    fold-roll-Stmt Patterns Patterns form_patterns (λ x. x.form) (record { span = s; form = roll-Form l })
    ∙ fold-roll-Form Patterns Patterns form_patterns (λ x. x.form) l

stmt_with : (s : Stmt) (f : Form) → s.form ≡ f → stmt_patterns s ≡ stmt_patterns (stmt s.span f)
stmt_with s f is = ap (λ (g : Form). stmt_patterns (stmt s.span g)) is

pub of_empty : (s : Stmt) → s.form ≡ form.Empty → stmt_patterns s ≡ []
of_empty s is = stmt_with s (roll-Form F.Empty) (is ∙ sym form.rolls-Empty) ∙ stmt_layer s.span F.Empty

pub of_if : (s : Stmt) (c : Expr) (a : Stmt) (b : Option Stmt) → s.form ≡ form.If c a b → stmt_patterns s ≡ expr_patterns c ++ stmt_patterns a ++ any_patterns (λ p. p) (option_map stmt_patterns b)
of_if s c a None is = stmt_with s (roll-Form (F.If c a None)) (is ∙ sym (form.rolls-If c a None)) ∙ stmt_layer s.span (F.If c a None)
of_if s c a (Some b) is = stmt_with s (roll-Form (F.If c a (Some b))) (is ∙ sym (form.rolls-If c a (Some b))) ∙ stmt_layer s.span (F.If c a (Some b))

pub of_while : (s : Stmt) (c : Expr) (a : Stmt) → s.form ≡ form.While c a → stmt_patterns s ≡ expr_patterns c ++ stmt_patterns a
of_while s c a is = stmt_with s (roll-Form (F.While c a)) (is ∙ sym (form.rolls-While c a)) ∙ stmt_layer s.span (F.While c a)

pub of_for : (s : Stmt) (a : Stmt) (c : Expr) (n b : Stmt) → s.form ≡ form.For a c n b → stmt_patterns s ≡ stmt_patterns a ++ expr_patterns c ++ stmt_patterns n ++ stmt_patterns b
of_for s a c n b is = stmt_with s (roll-Form (F.For a c n b)) (is ∙ sym (form.rolls-For a c n b)) ∙ stmt_layer s.span (F.For a c n b)

pub of_repeat : (s : Stmt) (c : Expr) (a : Stmt) → s.form ≡ form.Repeat c a → stmt_patterns s ≡ expr_patterns c ++ stmt_patterns a
of_repeat s c a is = stmt_with s (roll-Form (F.Repeat c a)) (is ∙ sym (form.rolls-Repeat c a)) ∙ stmt_layer s.span (F.Repeat c a)
