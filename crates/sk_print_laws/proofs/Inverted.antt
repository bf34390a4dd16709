-- The form of an expression that differs in spans alone from one of a given form.
use Rattle.std.proofs.Common.{◌≡◌, ℕ, List, [], ◌∷◌, map, Option, refl, sym, ap, ◌∙◌}
use Rattle.sk_base.specs.declared.span.Span.{Span}
use Rattle.sk_tree.specs.declared.token.Mark.{Mark}
use Rattle.sk_tree.specs.declared.pattern.Pattern.{Pattern}
use Rattle.sk_tree.specs.declared.expr.Expr.{Expr}
use Rattle.sk_tree.specs.declared.expr.NewField.{NewField}
use Rattle.sk_tree.specs.declared.expr.EForm.{EForm}
use Rattle.sk_tree.specs.declared.expr.EForm.TheVariants as eform
use Rattle.sk_tree.specs.declared.expr.EForm.TheOpen as E
use Rattle.sk_tree.specs.declared.expr.EForm.TheViews.{roll-EForm}
use Rattle.sk_tree.specs.declared.expr.EForm.TheFolds.{map-EForm, para-EForm, para-Expr, para-NewField, para-roll-EForm}
use Rattle.sk_tree.proofs.Layers.{expr_parts, expr_law}
use Rattle.sk_types_rules.specs.Erase.{nowhere, at}
use Rattle.sk_print_laws.specs.SpanlessTree.{spanless_pattern, spanless_expr}
use Rattle.sk_print_laws.proofs.Respelt.{Layer, field_off, spans_off, spanless_layer, Alike}

-- Each form is built of one layer, and of no other.

abbrev IsBuilt : EForm → Type 0
IsBuilt f = (l : Layer) × (f ≡ roll-EForm l)

built : (e : Expr) → IsBuilt e.form
built = expr_law IsBuilt (λ e. IsBuilt e.form) (λ n. Unit {0}) (λ y. (expr_parts IsBuilt (λ e. IsBuilt e.form) (λ n. Unit {0}) y, refl)) (λ e h. h) (λ n h. tt)

abbrev bottom : E.EForm-F (EForm × Layer) (Expr × Unit {0}) (NewField × Unit {0}) → Layer
bottom l = map-EForm (EForm × Layer) (Expr × Unit {0}) (NewField × Unit {0}) EForm Expr NewField (λ q. q.0) (λ q. q.0) (λ q. q.0) l

abbrev unroll : EForm → Layer
unroll = para-EForm Layer (Unit {0}) (Unit {0}) bottom (λ x. tt) (λ x. tt)

abbrev no_expr : Expr → Unit {0}
no_expr = para-Expr Layer (Unit {0}) (Unit {0}) bottom (λ x. tt) (λ x. tt)

abbrev no_field : NewField → Unit {0}
no_field = para-NewField Layer (Unit {0}) (Unit {0}) bottom (λ x. tt) (λ x. tt)

unpaired : {A B : Type 0} (f : A → B) (xs : List A) → map (λ (q : A × B). q.0) (map (λ x. (x, f x)) xs) ≡ xs
unpaired f [] = refl
unpaired f (x ∷ xs) = ap (λ rest. x ∷ rest) (unpaired f xs)

layer_back : (l : Layer) → bottom (map-EForm EForm Expr NewField (EForm × Layer) (Expr × Unit {0}) (NewField × Unit {0}) (λ f. (f, unroll f)) (λ e. (e, no_expr e)) (λ n. (n, no_field n)) l) ≡ l
layer_back (E.Pattern g es) = ap (λ z. E.Pattern g z) (unpaired no_expr es)
layer_back (E.Call x es) = ap (λ z. E.Call x z) (unpaired no_expr es)
layer_back (E.New x ns) = ap (λ z. E.New x z) (unpaired no_field ns)
layer_back (E.Braces es) = ap (λ z. E.Braces z) (unpaired no_expr es)
layer_back _ = refl

pub unrolled : (l : Layer) → unroll (roll-EForm l) ≡ l
unrolled l = para-roll-EForm Layer (Unit {0}) (Unit {0}) bottom (λ x. tt) (λ x. tt) l ∙ layer_back l

pub rolled_same : (l k : Layer) → roll-EForm l ≡ roll-EForm k → l ≡ k
rolled_same l k e = sym (unrolled l) ∙ ap unroll e ∙ unrolled k

-- what an expression is built of that differs in spans alone from one that is built of a layer
pub alike_layer : (f0 : EForm) (s : Span) (l0 : Layer) (e : Expr) → roll-EForm l0 ≡ f0 → Alike (at f0 s) e → (l : Layer) × (e.form ≡ roll-EForm l) × (spans_off l ≡ spans_off l0)
alike_layer f0 s l0 e is h =
    let b = built e in
    let a : spanless_expr e ≡ at (roll-EForm (spans_off b.0)) nowhere = ap (λ f. spanless_expr (at f e.span)) b.1 ∙ spanless_layer e.span b.0 in
    let c : spanless_expr (at f0 s) ≡ at (roll-EForm (spans_off l0)) nowhere = ap (λ f. spanless_expr (at f s)) (sym is) ∙ spanless_layer s l0 in
    (b.0, b.1, rolled_same (spans_off b.0) (spans_off l0) (ap (λ (x : Expr). x.form) (sym a ∙ h ∙ c)))

-- Each layer, from what it is without spans

number_layer : (l : Layer) (n : ℕ) → spans_off l ≡ E.Number n → l ≡ E.Number n
number_layer (E.Number k) n h = cc
number_layer _ n h = cc

true_layer : (l : Layer) → spans_off l ≡ E.True → l ≡ E.True
true_layer E.True h = refl
true_layer _ h = cc

false_layer : (l : Layer) → spans_off l ≡ E.False → l ≡ E.False
false_layer E.False h = refl
false_layer _ h = cc

null_layer : (l : Layer) → spans_off l ≡ E.Null → l ≡ E.Null
null_layer E.Null h = refl
null_layer _ h = cc

word_layer : (l : Layer) (x : List ℕ) → spans_off l ≡ E.Word x → l ≡ E.Word x
word_layer (E.Word y) x h = cc
word_layer _ x h = cc

hole_layer : (l : Layer) (n : Option ℕ) → spans_off l ≡ E.Hole n → l ≡ E.Hole n
hole_layer (E.Hole k) n h = cc
hole_layer _ n h = cc

pattern_layer : (l : Layer) (g : Pattern) (es : List Expr) → spans_off l ≡ E.Pattern g es → (k : Pattern) × (ds : List Expr) × (l ≡ E.Pattern k ds) × (map spanless_expr ds ≡ es)
pattern_layer (E.Pattern k ds) g es h = (k, ds, refl, cc)
pattern_layer _ g es h = cc

paren_layer : (l : Layer) (e : Expr) → spans_off l ≡ E.Paren e → (x : Expr) × (l ≡ E.Paren x) × (spanless_expr x ≡ e)
paren_layer (E.Paren x) e h = (x, refl, cc)
paren_layer _ e h = cc

call_layer : (l : Layer) (x : List ℕ) (es : List Expr) → spans_off l ≡ E.Call x es → (ds : List Expr) × (l ≡ E.Call x ds) × (map spanless_expr ds ≡ es)
call_layer (E.Call y ds) x es h = let e : y ≡ x = cc in (ds, ap (λ z. E.Call z ds) e, cc)
call_layer _ x es h = cc

new_layer : (l : Layer) (x : List ℕ) (ns : List NewField) → spans_off l ≡ E.New x ns → (ds : List NewField) × (l ≡ E.New x ds) × (map field_off ds ≡ ns)
new_layer (E.New y ds) x ns h = let e : y ≡ x = cc in (ds, ap (λ z. E.New z ds) e, cc)
new_layer _ x ns h = cc

braces_layer : (l : Layer) (es : List Expr) → spans_off l ≡ E.Braces es → (ds : List Expr) × (l ≡ E.Braces ds) × (map spanless_expr ds ≡ es)
braces_layer (E.Braces ds) es h = (ds, refl, cc)
braces_layer _ es h = cc

member_layer : (l : Layer) (e : Expr) (x : List ℕ) → spans_off l ≡ E.Member e x → (d : Expr) × (l ≡ E.Member d x) × (spanless_expr d ≡ e)
member_layer (E.Member d y) e x h = let k : y ≡ x = cc in (d, ap (λ z. E.Member d z) k, cc)
member_layer _ e x h = cc

index_layer : (l : Layer) (a b : Expr) → spans_off l ≡ E.Index a b → (c d : Expr) × (l ≡ E.Index c d) × (spanless_expr c ≡ a) × (spanless_expr d ≡ b)
index_layer (E.Index c d) a b h = (c, d, refl, cc, cc)
index_layer _ a b h = cc

slice_layer : (l : Layer) (a b n : Expr) → spans_off l ≡ E.Slice a b n → (c d m : Expr) × (l ≡ E.Slice c d m) × (spanless_expr c ≡ a) × (spanless_expr d ≡ b) × (spanless_expr m ≡ n)
slice_layer (E.Slice c d m) a b n h = (c, d, m, refl, cc, cc, cc)
slice_layer _ a b n h = cc

unary_layer : (l : Layer) (m : Mark) (e : Expr) → spans_off l ≡ E.Unary m e → (d : Expr) × (l ≡ E.Unary m d) × (spanless_expr d ≡ e)
unary_layer (E.Unary k d) m e h = let i : k ≡ m = cc in (d, ap (λ z. E.Unary z d) i, cc)
unary_layer _ m e h = cc

binary_layer : (l : Layer) (m : Mark) (a b : Expr) → spans_off l ≡ E.Binary m a b → (c d : Expr) × (l ≡ E.Binary m c d) × (spanless_expr c ≡ a) × (spanless_expr d ≡ b)
binary_layer (E.Binary k c d) m a b h = let i : k ≡ m = cc in (c, d, ap (λ z. E.Binary z c d) i, cc, cc)
binary_layer _ m a b h = cc

cond_layer : (l : Layer) (x a b : Expr) → spans_off l ≡ E.Cond x a b → (y c d : Expr) × (l ≡ E.Cond y c d) × (spanless_expr y ≡ x) × (spanless_expr c ≡ a) × (spanless_expr d ≡ b)
cond_layer (E.Cond y c d) x a b h = (y, c, d, refl, cc, cc, cc)
cond_layer _ x a b h = cc

-- The form of an expression that differs in spans alone from one of this form.

module _ (s : Span) (e : Expr) where
  pub number_back : (n : ℕ) → Alike (at (eform.Number n) s) e → e.form ≡ eform.Number n
  number_back n h = let a = alike_layer (eform.Number n) s (E.Number n) e (eform.rolls-Number n) h in a.1 ∙ ap roll-EForm (number_layer a.0 n a.2) ∙ eform.rolls-Number n

  pub true_back : Alike (at eform.True s) e → e.form ≡ eform.True
  true_back h = let a = alike_layer eform.True s E.True e eform.rolls-True h in a.1 ∙ ap roll-EForm (true_layer a.0 a.2) ∙ eform.rolls-True

  pub false_back : Alike (at eform.False s) e → e.form ≡ eform.False
  false_back h = let a = alike_layer eform.False s E.False e eform.rolls-False h in a.1 ∙ ap roll-EForm (false_layer a.0 a.2) ∙ eform.rolls-False

  pub null_back : Alike (at eform.Null s) e → e.form ≡ eform.Null
  null_back h = let a = alike_layer eform.Null s E.Null e eform.rolls-Null h in a.1 ∙ ap roll-EForm (null_layer a.0 a.2) ∙ eform.rolls-Null

  pub word_back : (x : List ℕ) → Alike (at (eform.Word x) s) e → e.form ≡ eform.Word x
  word_back x h = let a = alike_layer (eform.Word x) s (E.Word x) e (eform.rolls-Word x) h in a.1 ∙ ap roll-EForm (word_layer a.0 x a.2) ∙ eform.rolls-Word x

  pub hole_back : (n : Option ℕ) → Alike (at (eform.Hole n) s) e → e.form ≡ eform.Hole n
  hole_back n h = let a = alike_layer (eform.Hole n) s (E.Hole n) e (eform.rolls-Hole n) h in a.1 ∙ ap roll-EForm (hole_layer a.0 n a.2) ∙ eform.rolls-Hole n

  pub pattern_back : (g : Pattern) (es : List Expr) → Alike (at (eform.Pattern g es) s) e → (k : Pattern) × (ds : List Expr) × (e.form ≡ eform.Pattern k ds) × (map spanless_expr ds ≡ map spanless_expr es)
  pattern_back g es h =
      let a = alike_layer (eform.Pattern g es) s (E.Pattern g es) e (eform.rolls-Pattern g es) h in
      let b = pattern_layer a.0 (spanless_pattern g) (map spanless_expr es) a.2 in
      (b.0, b.1, a.1 ∙ ap roll-EForm b.2 ∙ eform.rolls-Pattern b.0 b.1, b.3)

  pub paren_back : (x : Expr) → Alike (at (eform.Paren x) s) e → (d : Expr) × (e.form ≡ eform.Paren d) × Alike x d
  paren_back x h =
      let a = alike_layer (eform.Paren x) s (E.Paren x) e (eform.rolls-Paren x) h in
      let b = paren_layer a.0 (spanless_expr x) a.2 in
      (b.0, a.1 ∙ ap roll-EForm b.1 ∙ eform.rolls-Paren b.0, b.2)

  pub call_back : (x : List ℕ) (es : List Expr) → Alike (at (eform.Call x es) s) e → (ds : List Expr) × (e.form ≡ eform.Call x ds) × (map spanless_expr ds ≡ map spanless_expr es)
  call_back x es h =
      let a = alike_layer (eform.Call x es) s (E.Call x es) e (eform.rolls-Call x es) h in
      let b = call_layer a.0 x (map spanless_expr es) a.2 in
      (b.0, a.1 ∙ ap roll-EForm b.1 ∙ eform.rolls-Call x b.0, b.2)

  pub new_back : (x : List ℕ) (ns : List NewField) → Alike (at (eform.New x ns) s) e → (ds : List NewField) × (e.form ≡ eform.New x ds) × (map field_off ds ≡ map field_off ns)
  new_back x ns h =
      let a = alike_layer (eform.New x ns) s (E.New x ns) e (eform.rolls-New x ns) h in
      let b = new_layer a.0 x (map field_off ns) a.2 in
      (b.0, a.1 ∙ ap roll-EForm b.1 ∙ eform.rolls-New x b.0, b.2)

  pub braces_back : (es : List Expr) → Alike (at (eform.Braces es) s) e → (ds : List Expr) × (e.form ≡ eform.Braces ds) × (map spanless_expr ds ≡ map spanless_expr es)
  braces_back es h =
      let a = alike_layer (eform.Braces es) s (E.Braces es) e (eform.rolls-Braces es) h in
      let b = braces_layer a.0 (map spanless_expr es) a.2 in
      (b.0, a.1 ∙ ap roll-EForm b.1 ∙ eform.rolls-Braces b.0, b.2)

  pub member_back : (x : Expr) (y : List ℕ) → Alike (at (eform.Member x y) s) e → (d : Expr) × (e.form ≡ eform.Member d y) × Alike x d
  member_back x y h =
      let a = alike_layer (eform.Member x y) s (E.Member x y) e (eform.rolls-Member x y) h in
      let b = member_layer a.0 (spanless_expr x) y a.2 in
      (b.0, a.1 ∙ ap roll-EForm b.1 ∙ eform.rolls-Member b.0 y, b.2)

  pub index_back : (x y : Expr) → Alike (at (eform.Index x y) s) e → (c d : Expr) × (e.form ≡ eform.Index c d) × Alike x c × Alike y d
  index_back x y h =
      let a = alike_layer (eform.Index x y) s (E.Index x y) e (eform.rolls-Index x y) h in
      let b = index_layer a.0 (spanless_expr x) (spanless_expr y) a.2 in
      (b.0, b.1, a.1 ∙ ap roll-EForm b.2 ∙ eform.rolls-Index b.0 b.1, b.3, b.4)

  pub slice_back : (x y n : Expr) → Alike (at (eform.Slice x y n) s) e → (c d m : Expr) × (e.form ≡ eform.Slice c d m) × Alike x c × Alike y d × Alike n m
  slice_back x y n h =
      let a = alike_layer (eform.Slice x y n) s (E.Slice x y n) e (eform.rolls-Slice x y n) h in
      let b = slice_layer a.0 (spanless_expr x) (spanless_expr y) (spanless_expr n) a.2 in
      (b.0, b.1, b.2, a.1 ∙ ap roll-EForm b.3 ∙ eform.rolls-Slice b.0 b.1 b.2, b.4, b.5, b.6)

  pub unary_back : (m : Mark) (x : Expr) → Alike (at (eform.Unary m x) s) e → (d : Expr) × (e.form ≡ eform.Unary m d) × Alike x d
  unary_back m x h =
      let a = alike_layer (eform.Unary m x) s (E.Unary m x) e (eform.rolls-Unary m x) h in
      let b = unary_layer a.0 m (spanless_expr x) a.2 in
      (b.0, a.1 ∙ ap roll-EForm b.1 ∙ eform.rolls-Unary m b.0, b.2)

  pub binary_back : (m : Mark) (x y : Expr) → Alike (at (eform.Binary m x y) s) e → (c d : Expr) × (e.form ≡ eform.Binary m c d) × Alike x c × Alike y d
  binary_back m x y h =
      let a = alike_layer (eform.Binary m x y) s (E.Binary m x y) e (eform.rolls-Binary m x y) h in
      let b = binary_layer a.0 m (spanless_expr x) (spanless_expr y) a.2 in
      (b.0, b.1, a.1 ∙ ap roll-EForm b.2 ∙ eform.rolls-Binary m b.0 b.1, b.3, b.4)

  pub cond_back : (z x y : Expr) → Alike (at (eform.Cond z x y) s) e → (b c d : Expr) × (e.form ≡ eform.Cond b c d) × Alike z b × Alike x c × Alike y d
  cond_back z x y h =
      let a = alike_layer (eform.Cond z x y) s (E.Cond z x y) e (eform.rolls-Cond z x y) h in
      let b = cond_layer a.0 (spanless_expr z) (spanless_expr x) (spanless_expr y) a.2 in
      (b.0, b.1, b.2, a.1 ∙ ap roll-EForm b.3 ∙ eform.rolls-Cond b.0 b.1 b.2, b.4, b.5, b.6)
