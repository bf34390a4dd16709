-- What spelling says of a tree that is built from one layer, and what holds of all trees because each layer keeps it.
use Rattle.std.proofs.Common.{◌≡◌, List, [], ◌∷◌, map, map-id, refl, sym, ap, subst, Some, None, IsTrue, true}
use Rattle.sk_tree.specs.declared.token.Kind.TheVariants as kind
use Rattle.sk_tree.specs.declared.token.Mark.TheVariants as mark
use Rattle.sk_tree.specs.declared.token.Key.TheVariants as key
use Rattle.sk_tree.specs.declared.pattern.Pattern.{Pattern}
use Rattle.sk_tree.specs.declared.pattern.Pattern.TheOpen as P
use Rattle.sk_tree.specs.declared.pattern.Pattern.TheViews.{roll-Pattern}
use Rattle.sk_tree.specs.declared.pattern.Pattern.TheFolds.{map-Pattern, ind-Pattern, rec-roll-Pattern}
use Rattle.sk_tree.specs.declared.expr.Expr.{Expr}
use Rattle.sk_tree.specs.declared.expr.EForm.{EForm}
use Rattle.sk_tree.specs.declared.expr.NewField.{NewField}
use Rattle.sk_tree.specs.declared.expr.EForm.TheOpen as E
use Rattle.sk_tree.specs.declared.expr.EForm.TheViews.{roll-EForm, roll-Expr, roll-NewField}
use Rattle.sk_tree.specs.declared.expr.EForm.TheFolds.{map-EForm, ind-Expr, rec-EForm, rec-Expr, rec-NewField, rec-roll-EForm, rec-roll-Expr, rec-roll-NewField}
use Rattle.sk_tree.specs.declared.stmt.Stmt.{Stmt}
use Rattle.sk_tree.specs.declared.stmt.Form.{Form}
use Rattle.sk_tree.specs.declared.stmt.Form.TheOpen as F
use Rattle.sk_tree.specs.declared.stmt.Form.TheViews.{roll-Form, roll-Stmt}
use Rattle.sk_tree.specs.declared.stmt.Form.TheFolds.{map-Form, ind-Stmt, rec-Form, rec-roll-Form, rec-roll-Stmt}
use Rattle.sk_tree.specs.Phrase.{Phrase, Given, One, Sign, Keyword, ◌▸◌, Between}
use Rattle.sk_tree.specs.Spelt.{Spans, PatternRole, AsChoice, AsSequence, AsPart, AsPlain, pattern_spelt, SpeltPart, Saying, eform_spelt, expr_spelt, field_spelt, Role, InBlock, form_spelt, stmt_spelt, SpeltStmt, Whole, are_some}
use Rattle.sk_tree.proofs.Says.{each_map, between_map}

-- Patterns

module _ (Q : Pattern → Type 0) where
  abbrev pub PatternLayer : Type 0
  PatternLayer = P.Pattern-F ((p : Pattern) × Q p)

  abbrev pub pattern_parts : PatternLayer → P.Pattern-F Pattern
  pattern_parts y = map-Pattern ((p : Pattern) × Q p) Pattern (λ q. q.0) y

  pub pattern_law : ((y : PatternLayer) → Q (roll-Pattern (pattern_parts y))) → (p : Pattern) → Q p
  pattern_law f = ind-Pattern Q (λ x y is. subst (λ z. Q (roll-Pattern z)) is (f y))

abbrev pub PartLayer : P.Pattern-F Pattern → PatternRole → Phrase
PartLayer l = pattern_spelt Pattern (λ y. y) SpeltPart l

module _ (X : Type 0) (v : X → Pattern) (k : Pattern → PatternRole → Phrase) where
  choice_same : (ps : List X) (role : PatternRole) → pattern_spelt X v (λ p. k (v p)) (P.Choice ps) role ≡ pattern_spelt Pattern (λ y. y) k (P.Choice (map v ps)) role
  choice_same [] AsChoice = refl
  choice_same (p ∷ ps) AsChoice = ap (Given (IsTrue true)) (between_map (Sign mark.Bar) (λ p. k p AsSequence) v (p ∷ ps))
  choice_same ps AsSequence = refl
  choice_same ps AsPart = refl
  choice_same ps AsPlain = refl

  seq_same : (ps : List X) (role : PatternRole) → pattern_spelt X v (λ p. k (v p)) (P.Seq ps) role ≡ pattern_spelt Pattern (λ y. y) k (P.Seq (map v ps)) role
  seq_same ps AsChoice = refl
  seq_same [] AsSequence = refl
  seq_same (p ∷ ps) AsSequence = ap (Given (IsTrue true)) (each_map (λ p. k p AsPart) v (p ∷ ps))
  seq_same ps AsPart = refl
  seq_same ps AsPlain = refl

  pattern_same : (x : P.Pattern-F X) → pattern_spelt X v (λ p. k (v p)) x ≡ pattern_spelt Pattern (λ y. y) k (map-Pattern X Pattern v x)
  pattern_same (P.Choice ps) = λ i role. choice_same ps role i
  pattern_same (P.Seq ps) = λ i role. seq_same ps role i
  pattern_same (P.Maybe p) = refl
  pattern_same (P.Group p) = refl
  pattern_same (P.One t) = refl

pub part_spelt : (l : P.Pattern-F Pattern) → SpeltPart (roll-Pattern l) ≡ PartLayer l
part_spelt l = rec-roll-Pattern (PatternRole → Phrase) pattern_spelt pattern_same l

-- Expressions

module _ (Q : EForm → Type 0) (Q' : Expr → Type 0) (Q'' : NewField → Type 0) where
  abbrev pub ExprLayer : Type 0
  ExprLayer = E.EForm-F ((f : EForm) × Q f) ((e : Expr) × Q' e) ((n : NewField) × Q'' n)

  abbrev pub expr_parts : ExprLayer → E.EForm-F EForm Expr NewField
  expr_parts y = map-EForm ((f : EForm) × Q f) ((e : Expr) × Q' e) ((n : NewField) × Q'' n) EForm Expr NewField (λ q. q.0) (λ q. q.0) (λ q. q.0) y

  pub expr_law : ((y : ExprLayer) → Q (roll-EForm (expr_parts y))) → ((e : Expr) → Q e.form → Q' e) → ((n : NewField) → Q' n.value → Q'' n) → (e : Expr) → Q' e
  expr_law f g h =
      ind-Expr Q Q' Q''
      (λ x y is. subst (λ z. Q (roll-EForm z)) is (f y))
      (λ x y is. subst (λ z. Q' (roll-Expr z)) is (g (record { span = y.span; form = y.form.0 }) y.form.1))
      (λ x y is. subst (λ z. Q'' (roll-NewField z)) is (h (record { name = y.name; value = y.value.0 }) y.value.1))

module _ (says : Saying) where
  abbrev pub FormBy : EForm → Phrase
  FormBy = rec-EForm Phrase Phrase Phrase (eform_spelt says) expr_spelt field_spelt

  abbrev pub ExprBy : Expr → Phrase
  ExprBy = rec-Expr Phrase Phrase Phrase (eform_spelt says) expr_spelt field_spelt

  abbrev pub FieldBy : NewField → Phrase
  FieldBy = rec-NewField Phrase Phrase Phrase (eform_spelt says) expr_spelt field_spelt

  -- the tokens of a form whose parts are themselves
  abbrev pub LayerBy : E.EForm-F EForm Expr NewField → Phrase
  LayerBy l = eform_spelt says EForm Expr NewField (λ y. y) (λ y. y) (λ y. y) FormBy ExprBy FieldBy l

  braces_same : (Y : Type 0) (v : Y → Expr) (e : Expr → Phrase) (es : List Y) → Given (IsTrue (are_some es)) (Sign mark.OpenBrace ▸ Between (Sign mark.Comma) (λ p. e (v p)) es ▸ Sign mark.CloseBrace) ≡ Given (IsTrue (are_some (map v es))) (Sign mark.OpenBrace ▸ Between (Sign mark.Comma) e (map v es) ▸ Sign mark.CloseBrace)
  braces_same Y v e [] = refl
  braces_same Y v e (a ∷ es) = ap (λ (P : Phrase). Given (IsTrue true) (Sign mark.OpenBrace ▸ P ▸ Sign mark.CloseBrace)) (between_map (Sign mark.Comma) e v (a ∷ es))

  eform_same : (X Y Z : Type 0) (u : X → EForm) (v : Y → Expr) (w : Z → NewField) (f : EForm → Phrase) (e : Expr → Phrase) (n : NewField → Phrase) (x : E.EForm-F X Y Z) → eform_spelt says X Y Z u v w (λ p. f (u p)) (λ p. e (v p)) (λ p. n (w p)) x ≡ eform_spelt says EForm Expr NewField (λ y. y) (λ y. y) (λ y. y) f e n (map-EForm X Y Z EForm Expr NewField u v w x)
  eform_same X Y Z u v w f e n (E.Hole None) = refl
  eform_same X Y Z u v w f e n (E.Hole (Some k)) = refl
  eform_same X Y Z u v w f e n (E.Pattern pattern strings) = ap (says pattern) (sym (map-id (map v strings)))
  eform_same X Y Z u v w f e n (E.Call x args) = ap (λ (P : Phrase). One (kind.Word x) ▸ Sign mark.OpenParen ▸ P ▸ Sign mark.CloseParen) (between_map (Sign mark.Comma) e v args)
  eform_same X Y Z u v w f e n (E.New x fields) = ap (λ (P : Phrase). Keyword key.New ▸ One (kind.Word x) ▸ Sign mark.OpenParen ▸ P ▸ Sign mark.CloseParen) (between_map (Sign mark.Comma) n w fields)
  eform_same X Y Z u v w f e n (E.Braces es) = braces_same Y v e es
  eform_same X Y Z u v w f e n _ = refl

  pub form_by : (l : E.EForm-F EForm Expr NewField) → FormBy (roll-EForm l) ≡ LayerBy l
  form_by l = rec-roll-EForm Phrase Phrase Phrase (eform_spelt says) expr_spelt field_spelt eform_same l

  pub expr_by : (e : Expr) → ExprBy e ≡ Spans e.span (FormBy e.form)
  expr_by e = rec-roll-Expr Phrase Phrase Phrase (eform_spelt says) expr_spelt field_spelt (λ X Y Z u v w f e n x. refl) (record { span = e.span; form = e.form })

  pub field_by : (n : NewField) → FieldBy n ≡ field_spelt EForm Expr NewField (λ y. y) (λ y. y) (λ y. y) FormBy ExprBy FieldBy (record { name = n.name; value = n.value })
  field_by n = rec-roll-NewField Phrase Phrase Phrase (eform_spelt says) expr_spelt field_spelt (λ X Y Z u v w f e n x. refl) (record { name = n.name; value = n.value })

-- Statements

module _ (Q : Form → Type 0) (Q' : Stmt → Type 0) where
  abbrev pub StmtLayer : Type 0
  StmtLayer = F.Form-F ((f : Form) × Q f) ((s : Stmt) × Q' s)

  abbrev pub stmt_parts : StmtLayer → F.Form-F Form Stmt
  stmt_parts y = map-Form ((f : Form) × Q f) ((s : Stmt) × Q' s) Form Stmt (λ q. q.0) (λ q. q.0) y

  pub stmt_law : ((y : StmtLayer) → Q (roll-Form (stmt_parts y))) → ((s : Stmt) → Q s.form → Q' s) → (s : Stmt) → Q' s
  stmt_law f g =
      ind-Stmt Q Q'
      (λ x y is. subst (λ z. Q (roll-Form z)) is (f y))
      (λ x y is. subst (λ z. Q' (roll-Stmt z)) is (g (record { span = y.span; form = y.form.0 }) y.form.1))

abbrev pub SpeltForm : Form → Role → Phrase
SpeltForm = rec-Form (Role → Phrase) (Role → Phrase) form_spelt stmt_spelt

-- the tokens of a form whose parts are themselves
abbrev pub FormLayer : F.Form-F Form Stmt → Role → Phrase
FormLayer l = form_spelt Form Stmt (λ y. y) (λ y. y) SpeltForm SpeltStmt l

form_same : (X Y : Type 0) (u : X → Form) (v : Y → Stmt) (f : Form → Role → Phrase) (s : Stmt → Role → Phrase) (x : F.Form-F X Y) → form_spelt X Y u v (λ p. f (u p)) (λ p. s (v p)) x ≡ form_spelt Form Stmt (λ y. y) (λ y. y) f s (map-Form X Y Form Stmt u v x)
form_same X Y u v f s (F.Block ss) = ap {B = Role → Phrase} (λ (P : Phrase) role. Whole role (Sign mark.OpenBrace ▸ P ▸ Sign mark.CloseBrace)) (each_map (λ a. s a InBlock) v ss)
form_same X Y u v f s (F.Reorder ss) = ap {B = Role → Phrase} (λ (P : Phrase) role. Whole role (Keyword key.Reorder ▸ Sign mark.OpenBrace ▸ P ▸ Sign mark.CloseBrace)) (each_map (λ a. s a InBlock) v ss)
form_same X Y u v f s (F.If c a None) = refl
form_same X Y u v f s (F.If c a (Some b)) = refl
form_same X Y u v f s _ = refl

pub form_is : (l : F.Form-F Form Stmt) → SpeltForm (roll-Form l) ≡ FormLayer l
form_is l = rec-roll-Form (Role → Phrase) (Role → Phrase) form_spelt stmt_spelt form_same l

pub stmt_is : (s : Stmt) → SpeltStmt s ≡ (λ role. Spans s.span (SpeltForm s.form role))
stmt_is s = rec-roll-Stmt (Role → Phrase) (Role → Phrase) form_spelt stmt_spelt (λ X Y u v f s x. refl) (record { span = s.span; form = s.form })
