-- Tokens of the kinds that spell an expression of one form are found to spell one that differs in spans alone, where
-- its parts are.
use Rattle.std.proofs.Common.{◌≡◌, ℕ, true, List, Some, None, refl, sym, ap, ◌∙◌, subst}
use Rattle.sk_base.specs.declared.span.Span.{Span}
use Rattle.sk_tree.specs.declared.token.Token.{Token}
use Rattle.sk_tree.specs.declared.token.Kind.TheVariants as kind
use Rattle.sk_tree.specs.declared.token.Mark.{Mark}
use Rattle.sk_tree.specs.declared.token.Mark.TheVariants as mark
use Rattle.sk_tree.specs.declared.token.Key.TheVariants as key
use Rattle.sk_tree.specs.declared.expr.Expr.{Expr}
use Rattle.sk_tree.specs.declared.expr.NewField.{NewField}
use Rattle.sk_tree.specs.declared.expr.EForm.{EForm}
use Rattle.sk_tree.specs.declared.expr.EForm.TheVariants as eform
use Rattle.sk_tree.specs.declared.expr.EForm.TheOpen as E
use Rattle.sk_tree.specs.declared.expr.EForm.TheViews.{roll-EForm}
use Rattle.sk_tree.specs.declared.expr.EForm.TheFolds.{map-EForm, fold-EForm, fold-NewField, fold-roll-EForm, fold-roll-Expr, fold-roll-NewField}
use Rattle.sk_tree.specs.Phrase.{Phrase, span_of}
use Rattle.sk_tree.specs.Spelt.{Saying, are_some, is_unary}
use Rattle.sk_tree.specs.Spell.{Kinds, spell_expr}
use Rattle.sk_tree.proofs.Layers.{FormBy, ExprBy, FieldBy, LayerBy, form_by, expr_by, field_by}
use Rattle.sk_types_rules.specs.Erase.{nowhere, at}
use Rattle.sk_print_laws.specs.SpanlessTree.{parts_spanless, expr_nowhere, field_again, spanless_expr}
use Rattle.sk_print_laws.proofs.Finds.{Finds, finds_then, finds_as, finds_one, finds_sign, finds_key, All, finds_between, match_map, match_some}
use Rattle.sk_print_laws.proofs.Spelled.{field_kinds, field_spelled, number_spelled, true_spelled, false_spelled, null_spelled, word_spelled, hole_spelled, width_spelled, paren_spelled, call_spelled, new_spelled, braces_spelled, member_spelled, index_spelled, slice_spelled, unary_spelled, binary_spelled, cond_spelled}

abbrev pub Layer : Type 0
Layer = E.EForm-F EForm Expr NewField

abbrev form_off : EForm → EForm
form_off = fold-EForm EForm Expr NewField (λ l. roll-EForm (parts_spanless l)) expr_nowhere field_again

abbrev pub field_off : NewField → NewField
field_off = fold-NewField EForm Expr NewField (λ l. roll-EForm (parts_spanless l)) expr_nowhere field_again

abbrev pub spans_off : Layer → Layer
spans_off l = parts_spanless (map-EForm EForm Expr NewField EForm Expr NewField form_off spanless_expr field_off l)

pub spanless_layer : (s : Span) (l : Layer) → spanless_expr (at (roll-EForm l) s) ≡ at (roll-EForm (spans_off l)) nowhere
spanless_layer s l =
    fold-roll-Expr EForm Expr NewField (λ l. roll-EForm (parts_spanless l)) expr_nowhere field_again (record { span = s; form = roll-EForm l })
    ∙ ap (λ f. at f nowhere) (fold-roll-EForm EForm Expr NewField (λ l. roll-EForm (parts_spanless l)) expr_nowhere field_again l)

abbrev pub Alike : Expr → Expr → Type 0
Alike e0 e = spanless_expr e ≡ spanless_expr e0

abbrev pub AlikeField : NewField → NewField → Type 0
AlikeField n0 n = field_off n ≡ field_off n0

module _ (says : Saying) where
  abbrev pub Said : Expr → Type 0
  Said e0 = Finds Expr (ExprBy says) (spell_expr e0) (Alike e0)

  abbrev pub SaidField : NewField → Type 0
  SaidField n0 = Finds NewField (FieldBy says) (field_kinds n0) (AlikeField n0)

  abbrev pub AllSaid : List Expr → Type 0
  AllSaid es = All (ExprBy says) spell_expr Alike es

  pub made : {A : Type 0} {P : A → Phrase} {ks : Kinds} {C : A → Type 0} (f0 : EForm) (s : Span) (l0 : Layer) → roll-EForm l0 ≡ f0 → spell_expr (at f0 s) ≡ ks → Finds A P ks C → (l : A → Layer) → ((a : A) (ts : List Token) → C a → P a ts → LayerBy says (l a) ts) → ((a : A) → C a → spans_off (l a) ≡ spans_off l0) → Said (at f0 s)
  made f0 s l0 is spelled f l p c = record {
    find = λ ts h.
        let r = f.find ts (h ∙ spelled) in
        let e : Expr = at (roll-EForm (l r.0)) (span_of ts) in
        let by : FormBy says (roll-EForm (l r.0)) ts = subst (λ (Q : Phrase). Q ts) (sym (form_by says (l r.0))) (p r.0 ts r.2 r.1) in
        let spelt : ExprBy says e ts = subst (λ (Q : Phrase). Q ts) (sym (expr_by says e)) (by, refl) in
        (e, spelt, spanless_layer (span_of ts) (l r.0) ∙ ap (λ z. at (roll-EForm z) nowhere) (c r.0 r.2) ∙ sym (spanless_layer s l0) ∙ ap (λ z. spanless_expr (at z s)) is);
  }

  module _ (s : Span) where
    pub number_said : (n : ℕ) → Said (at (eform.Number n) s)
    number_said n = made (eform.Number n) s (E.Number n) (eform.rolls-Number n) (number_spelled s n) (finds_one (kind.Number n)) (λ u. E.Number n) (λ u ts c h. h) (λ u c. refl)

    pub true_said : Said (at eform.True s)
    true_said = made eform.True s E.True eform.rolls-True (true_spelled s) (finds_key key.True) (λ u. E.True) (λ u ts c h. h) (λ u c. refl)

    pub false_said : Said (at eform.False s)
    false_said = made eform.False s E.False eform.rolls-False (false_spelled s) (finds_key key.False) (λ u. E.False) (λ u ts c h. h) (λ u c. refl)

    pub null_said : Said (at eform.Null s)
    null_said = made eform.Null s E.Null eform.rolls-Null (null_spelled s) (finds_key key.Null) (λ u. E.Null) (λ u ts c h. h) (λ u c. refl)

    pub word_said : (x : List ℕ) → Said (at (eform.Word x) s)
    word_said x = made (eform.Word x) s (E.Word x) (eform.rolls-Word x) (word_spelled s x) (finds_one (kind.Word x)) (λ u. E.Word x) (λ u ts c h. h) (λ u c. refl)

    pub hole_said : Said (at (eform.Hole None) s)
    hole_said = made (eform.Hole None) s (E.Hole None) (eform.rolls-Hole None) (hole_spelled s) (finds_sign mark.Hole) (λ u. E.Hole None) (λ u ts c h. h) (λ u c. refl)

    pub width_said : (n : ℕ) → Said (at (eform.Hole (Some n)) s)
    width_said n =
        made (eform.Hole (Some n)) s (E.Hole (Some n)) (eform.rolls-Hole (Some n)) (width_spelled s n)
        (finds_then (finds_sign mark.Hole) (finds_then (finds_sign mark.OpenParen) (finds_then (finds_one (kind.Number n)) (finds_sign mark.CloseParen))))
        (λ r. E.Hole (Some n)) (λ r ts c h. h) (λ r c. refl)

    pub paren_said : (e : Expr) → Said e → Said (at (eform.Paren e) s)
    paren_said e f =
        made (eform.Paren e) s (E.Paren e) (eform.rolls-Paren e) (paren_spelled s e)
        (finds_then (finds_sign mark.OpenParen) (finds_then f (finds_sign mark.CloseParen)))
        (λ r. E.Paren r.1.0) (λ r ts c h. h) (λ r c i. E.Paren (c.1.0 i))

    pub call_said : (x : List ℕ) (es : List Expr) → AllSaid es → Said (at (eform.Call x es) s)
    call_said x es f =
        made (eform.Call x es) s (E.Call x es) (eform.rolls-Call x es) (call_spelled s x es)
        (finds_then (finds_one (kind.Word x)) (finds_then (finds_sign mark.OpenParen) (finds_then (finds_between (ExprBy says) spell_expr Alike mark.Comma es f) (finds_sign mark.CloseParen))))
        (λ r. E.Call x r.1.1.0) (λ r ts c h. h) (λ r c i. E.Call x (match_map spanless_expr spanless_expr es r.1.1.0 c.1.1.0 i))

    pub new_said : (x : List ℕ) (ns : List NewField) → All (FieldBy says) field_kinds AlikeField ns → Said (at (eform.New x ns) s)
    new_said x ns f =
        made (eform.New x ns) s (E.New x ns) (eform.rolls-New x ns) (new_spelled s x ns)
        (finds_then (finds_key key.New) (finds_then (finds_one (kind.Word x)) (finds_then (finds_sign mark.OpenParen) (finds_then (finds_between (FieldBy says) field_kinds AlikeField mark.Comma ns f) (finds_sign mark.CloseParen)))))
        (λ r. E.New x r.1.1.1.0) (λ r ts c h. h) (λ r c i. E.New x (match_map field_off field_off ns r.1.1.1.0 c.1.1.1.0 i))

    pub braces_said : (es : List Expr) → are_some es ≡ true → AllSaid es → Said (at (eform.Braces es) s)
    braces_said es some f =
        made (eform.Braces es) s (E.Braces es) (eform.rolls-Braces es) (braces_spelled s es)
        (finds_then (finds_sign mark.OpenBrace) (finds_then (finds_between (ExprBy says) spell_expr Alike mark.Comma es f) (finds_sign mark.CloseBrace)))
        (λ r. E.Braces r.1.0) (λ r ts c h. (match_some Alike es r.1.0 c.1.0 some, h)) (λ r c i. E.Braces (match_map spanless_expr spanless_expr es r.1.0 c.1.0 i))

    pub member_said : (e : Expr) (x : List ℕ) → Said e → Said (at (eform.Member e x) s)
    member_said e x f =
        made (eform.Member e x) s (E.Member e x) (eform.rolls-Member e x) (member_spelled s e x)
        (finds_then f (finds_then (finds_sign mark.Dot) (finds_one (kind.Word x))))
        (λ r. E.Member r.0 x) (λ r ts c h. h) (λ r c i. E.Member (c.0 i) x)

    pub index_said : (e k : Expr) → Said e → Said k → Said (at (eform.Index e k) s)
    index_said e k f g =
        made (eform.Index e k) s (E.Index e k) (eform.rolls-Index e k) (index_spelled s e k)
        (finds_then f (finds_then (finds_sign mark.OpenBracket) (finds_then g (finds_sign mark.CloseBracket))))
        (λ r. E.Index r.0 r.1.1.0) (λ r ts c h. h) (λ r c i. E.Index (c.0 i) (c.1.1.0 i))

    pub slice_said : (e k n : Expr) → Said e → Said k → Said n → Said (at (eform.Slice e k n) s)
    slice_said e k n f g m =
        made (eform.Slice e k n) s (E.Slice e k n) (eform.rolls-Slice e k n) (slice_spelled s e k n)
        (finds_then f (finds_then (finds_sign mark.OpenBracket) (finds_then g (finds_then (finds_sign mark.DoubleColon) (finds_then m (finds_sign mark.CloseBracket))))))
        (λ r. E.Slice r.0 r.1.1.0 r.1.1.1.1.0) (λ r ts c h. h) (λ r c i. E.Slice (c.0 i) (c.1.1.0 i) (c.1.1.1.1.0 i))

    pub unary_said : (m : Mark) (e : Expr) → is_unary m ≡ true → Said e → Said (at (eform.Unary m e) s)
    unary_said m e is f =
        made (eform.Unary m e) s (E.Unary m e) (eform.rolls-Unary m e) (unary_spelled s m e)
        (finds_then (finds_sign m) f)
        (λ r. E.Unary m r.1) (λ r ts c h. (is, h)) (λ r c i. E.Unary m (c.1 i))

    pub binary_said : (m : Mark) (a b : Expr) → Said a → Said b → Said (at (eform.Binary m a b) s)
    binary_said m a b f g =
        made (eform.Binary m a b) s (E.Binary m a b) (eform.rolls-Binary m a b) (binary_spelled s m a b)
        (finds_then f (finds_then (finds_sign m) g))
        (λ r. E.Binary m r.0 r.1.1) (λ r ts c h. h) (λ r c i. E.Binary m (c.0 i) (c.1.1 i))

    pub cond_said : (z a b : Expr) → Said z → Said a → Said b → Said (at (eform.Cond z a b) s)
    cond_said z a b f g k =
        made (eform.Cond z a b) s (E.Cond z a b) (eform.rolls-Cond z a b) (cond_spelled s z a b)
        (finds_then f (finds_then (finds_sign mark.Question) (finds_then g (finds_then (finds_sign mark.Colon) k))))
        (λ r. E.Cond r.0 r.1.1.0 r.1.1.1.1) (λ r ts c h. h) (λ r c i. E.Cond (c.0 i) (c.1.1.0 i) (c.1.1.1.1 i))

  field_layer : (x : List ℕ) (e : Expr) → field_off (record { name = x; value = e }) ≡ record { name = x; value = spanless_expr e }
  field_layer x e = fold-roll-NewField EForm Expr NewField (λ l. roll-EForm (parts_spanless l)) expr_nowhere field_again (record { name = x; value = e })

  pub field_said : (x : List ℕ) (e : Expr) → Said e → SaidField (record { name = x; value = e })
  field_said x e f =
      finds_as (finds_then (finds_one (kind.Word x)) (finds_then (finds_sign mark.Assign) f))
      (λ r. record { name = x; value = r.1.1 })
      (λ r ts c h. subst (λ (Q : Phrase). Q ts) (sym (field_by says (record { name = x; value = r.1.1 }))) h)
      (λ r c. field_layer x r.1.1 ∙ (λ i. record { name = x; value = c.1.1 i }) ∙ sym (field_layer x e))
      (field_spelled x e)
