-- Trees whose patterns have strings as patterns may: at most 128, without the marks of patterns and without
-- parentheses, and at most 256 deep.
use Rattle.std.proofs.Common.{◌≡◌, ℕ, suc, Bool, true, false, List, length, Option, Some, None, sym, ap, ◌∙◌}
use Rattle.std.specs.Prelude.{◌&&◌, nat_le}
use Rattle.std.specs.List.{list_all}
use Rattle.sk_tree.specs.declared.expr.Expr.{Expr}
use Rattle.sk_tree.specs.declared.expr.EForm.{EForm}
use Rattle.sk_tree.specs.declared.expr.NewField.{NewField}
use Rattle.sk_tree.specs.declared.expr.EForm.TheOpen as E
use Rattle.sk_tree.specs.declared.expr.EForm.TheViews.{roll-EForm}
use Rattle.sk_tree.specs.declared.expr.EForm.TheFolds.{map-EForm, fold-EForm, fold-Expr, fold-NewField, fold-roll-EForm, fold-roll-Expr, para-EForm, para-Expr, para-NewField, para-roll-EForm, para-roll-Expr, para-roll-NewField}
use Rattle.sk_tree.specs.declared.stmt.Stmt.{Stmt}
use Rattle.sk_tree.specs.declared.stmt.Form.{Form}
use Rattle.sk_tree.specs.declared.stmt.Form.TheOpen as F
use Rattle.sk_tree.specs.declared.stmt.Form.TheViews.{roll-Form}
use Rattle.sk_tree.specs.declared.stmt.Form.TheFolds.{map-Form, fold-Form, fold-Stmt, fold-roll-Form, fold-roll-Stmt}
use Rattle.sk_tree.specs.declared.stmt.Declared.{Declared}
use Rattle.sk_tree.specs.declared.item.Item.{Item}
use Rattle.sk_tree.specs.declared.item.Item.TheVariants as item
use Rattle.sk_tree.specs.Strings.{most_strings}
use Rattle.sk_tree.specs.Depth.{expr_depth, eform_depth, most_levels}
use Rattle.sk_prog.specs.declared.expr.BinOp.{BinOp}
use Rattle.sk_types_rules.specs.Rules.{operator_of}
use Rattle.sk_types_rules.specs.Plain.{is_yes, any_yes}
use Rattle.sk_types_rules.specs.WellTyped.{no_bar}

-- Strings

abbrev pub bar_free : Option BinOp → Bool
bar_free None = true
bar_free (Some o) = no_bar o

abbrev pub eform_bare : E.EForm-F Bool Bool Bool → Bool
eform_bare (E.Pattern pattern es) = false
eform_bare (E.Paren e) = false
eform_bare (E.Call x args) = false
eform_bare (E.New x fields) = false
eform_bare (E.Hole (Some n)) = false
eform_bare (E.Cond c a b) = false
eform_bare (E.Binary m a b) = bar_free (operator_of m) && (a && b)
eform_bare (E.Hole None) = true
eform_bare (E.Number n) = true
eform_bare E.True = true
eform_bare E.False = true
eform_bare E.Null = true
eform_bare (E.Word x) = true
eform_bare (E.Braces es) = list_all is_yes es
eform_bare (E.Member e x) = e
eform_bare (E.Index e i) = e && i
eform_bare (E.Slice e i n) = e && i
eform_bare (E.Unary m e) = e

-- whether an expression is spelt without the marks of patterns and without parentheses
abbrev pub expr_bare : Expr → Bool
expr_bare = fold-Expr Bool Bool Bool eform_bare (λ x. x.form) (λ x. x.value)

abbrev pub may_be_string : Expr → Bool
may_be_string e = expr_bare e && nat_le (expr_depth e) most_levels

-- Expressions

abbrev pub all_whole : List (Expr × Bool) → Bool
all_whole es = list_all (λ (e : Expr × Bool). e.1) es

abbrev pub eform_whole : E.EForm-F (EForm × Bool) (Expr × Bool) (NewField × Bool) → Bool
eform_whole (E.Pattern pattern es) = nat_le (length es) most_strings && list_all (λ (e : Expr × Bool). may_be_string e.0) es
eform_whole (E.Paren e) = e.1
eform_whole (E.Call x args) = all_whole args
eform_whole (E.New x fields) = list_all (λ (n : NewField × Bool). n.1) fields
eform_whole (E.Braces es) = all_whole es
eform_whole (E.Member e x) = e.1
eform_whole (E.Index e i) = e.1 && i.1
eform_whole (E.Slice e i n) = e.1 && i.1
eform_whole (E.Unary m e) = e.1
eform_whole (E.Binary m a b) = a.1 && b.1
eform_whole (E.Cond c a b) = c.1 && (a.1 && b.1)
eform_whole (E.Hole n) = true
eform_whole (E.Number n) = true
eform_whole E.True = true
eform_whole E.False = true
eform_whole E.Null = true
eform_whole (E.Word x) = true

-- whether each pattern of an expression has such strings
abbrev pub expr_whole : Expr → Bool
expr_whole = para-Expr Bool Bool Bool eform_whole (λ x. x.form.1) (λ x. x.value.1)

abbrev pub any_whole : Option Expr → Bool
any_whole None = true
any_whole (Some e) = expr_whole e

abbrev pub declared_whole : Declared → Bool
declared_whole d = any_whole d.value

-- Statements

abbrev pub form_whole : F.Form-F Bool Bool → Bool
form_whole (F.Block ss) = list_all is_yes ss
form_whole F.Empty = true
form_whole (F.Declare y ds) = list_all declared_whole ds
form_whole (F.Assign x e) = expr_whole x && expr_whole e
form_whole (F.Call e) = expr_whole e
form_whole (F.Step kind x by) = expr_whole x && any_whole by
form_whole (F.If c a b) = expr_whole c && (a && any_yes b)
form_whole (F.While c a) = expr_whole c && a
form_whole (F.For a c n body) = a && (expr_whole c && (n && body))
form_whole (F.Return e) = any_whole e
form_whole (F.Assert e) = expr_whole e
form_whole (F.Assume e) = expr_whole e
form_whole (F.Minimize e) = expr_whole e
form_whole (F.Repeat c a) = expr_whole c && a
form_whole (F.MinRepeat a) = a
form_whole (F.Reorder ss) = list_all is_yes ss

abbrev pub stmt_whole : Stmt → Bool
stmt_whole = fold-Stmt Bool Bool form_whole (λ s. s.form)

abbrev pub item_whole : Item → Bool
item_whole (item.Fun g) = list_all stmt_whole g.body
item_whole (item.Const x e) = expr_whole e
item_whole (item.Struct x ys) = true
item_whole (item.Pragma word text) = true

-- Layers

abbrev pub Layer : Type 0
Layer = E.EForm-F EForm Expr NewField

abbrev pub bare_form : EForm → Bool
bare_form = fold-EForm Bool Bool Bool eform_bare (λ x. x.form) (λ x. x.value)

abbrev pub bare_field : NewField → Bool
bare_field = fold-NewField Bool Bool Bool eform_bare (λ x. x.form) (λ x. x.value)

abbrev pub bares : Layer → E.EForm-F Bool Bool Bool
bares = map-EForm EForm Expr NewField Bool Bool Bool bare_form expr_bare bare_field

pub bare_at : (e : Expr) (l : Layer) → e.form ≡ roll-EForm l → expr_bare e ≡ eform_bare (bares l)
bare_at e l is =
    fold-roll-Expr Bool Bool Bool eform_bare (λ x. x.form) (λ x. x.value) (record { span = e.span; form = e.form })
    ∙ ap bare_form is
    ∙ fold-roll-EForm Bool Bool Bool eform_bare (λ x. x.form) (λ x. x.value) l

abbrev pub whole_form : EForm → Bool
whole_form = para-EForm Bool Bool Bool eform_whole (λ x. x.form.1) (λ x. x.value.1)

abbrev pub field_whole : NewField → Bool
field_whole = para-NewField Bool Bool Bool eform_whole (λ x. x.form.1) (λ x. x.value.1)

abbrev pub WithWhole : Expr → Expr × Bool
WithWhole e = (e, expr_whole e)

abbrev pub wholes : Layer → E.EForm-F (EForm × Bool) (Expr × Bool) (NewField × Bool)
wholes = map-EForm EForm Expr NewField (EForm × Bool) (Expr × Bool) (NewField × Bool) (λ f. (f, whole_form f)) (λ e. (e, expr_whole e)) (λ n. (n, field_whole n))

pub whole_at : (e : Expr) (l : Layer) → e.form ≡ roll-EForm l → expr_whole e ≡ eform_whole (wholes l)
whole_at e l is =
    para-roll-Expr Bool Bool Bool eform_whole (λ x. x.form.1) (λ x. x.value.1) (record { span = e.span; form = e.form })
    ∙ ap whole_form is
    ∙ para-roll-EForm Bool Bool Bool eform_whole (λ x. x.form.1) (λ x. x.value.1) l

pub field_whole_is : (n : NewField) → field_whole n ≡ expr_whole n.value
field_whole_is n = para-roll-NewField Bool Bool Bool eform_whole (λ x. x.form.1) (λ x. x.value.1) (record { name = n.name; value = n.value })

abbrev pub depths : Layer → E.EForm-F ℕ ℕ ℕ
depths l = map-EForm EForm Expr NewField ℕ ℕ ℕ (fold-EForm ℕ ℕ ℕ eform_depth (λ x. suc x.form) (λ x. suc x.value)) expr_depth (fold-NewField ℕ ℕ ℕ eform_depth (λ x. suc x.form) (λ x. suc x.value)) l

pub depth_at : (e : Expr) (l : Layer) → e.form ≡ roll-EForm l → expr_depth e ≡ suc (eform_depth (depths l))
depth_at e l is =
    fold-roll-Expr ℕ ℕ ℕ eform_depth (λ x. suc x.form) (λ x. suc x.value) (record { span = e.span; form = e.form })
    ∙ ap (λ f. suc (fold-EForm ℕ ℕ ℕ eform_depth (λ x. suc x.form) (λ x. suc x.value) f)) is
    ∙ ap suc (fold-roll-EForm ℕ ℕ ℕ eform_depth (λ x. suc x.form) (λ x. suc x.value) l)

-- Statements

abbrev pub act_whole : Form → Bool
act_whole = fold-Form Bool Bool form_whole (λ s. s.form)

pub stmt_whole_is : (e : Stmt) → stmt_whole e ≡ act_whole e.form
stmt_whole_is e = fold-roll-Stmt Bool Bool form_whole (λ s. s.form) (record { span = e.span; form = e.form })

pub act_whole_is : (l : F.Form-F Form Stmt) → act_whole (roll-Form l) ≡ form_whole (map-Form Form Stmt Bool Bool act_whole stmt_whole l)
act_whole_is l = fold-roll-Form Bool Bool form_whole (λ s. s.form) l

pub whole_in : (f g : Form) (l : F.Form-F Form Stmt) → f ≡ g → roll-Form l ≡ g → act_whole f ≡ true → form_whole (map-Form Form Stmt Bool Bool act_whole stmt_whole l) ≡ true
whole_in f g l is to h = sym (act_whole_is l) ∙ ap act_whole (to ∙ sym is) ∙ h
