-- A string of a pattern is printed as it is erased, by tokens that may stand in a string.
use Rattle.std.proofs.Common.{◌≡◌, ℕ, Bool, true, ◌&&◌, List, [], ◌∷◌, ◌++◌, map, Option, Some, None, refl, sym, ap, ◌∙◌, subst}
use Rattle.std.specs.List.{list_all}
use Rattle.std.proofs.lemmas.Bool.{and_parts}
use Rattle.std.proofs.lemmas.List.Folds.{list_all-append}
use Rattle.sk_base.specs.declared.span.Span.{Span}
use Rattle.sk_tree.specs.declared.token.Kind.TheVariants as kind
use Rattle.sk_tree.specs.declared.token.Mark.{Mark}
use Rattle.sk_tree.specs.declared.token.Mark.TheVariants as mark
use Rattle.sk_tree.specs.declared.expr.Expr.{Expr}
use Rattle.sk_tree.specs.declared.expr.EForm.TheVariants as eform
use Rattle.sk_tree.specs.Spelt.{are_some, may_mark, may_stand}
use Rattle.sk_tree.specs.Spell.{Kinds, behind, between, sign, spell_expr}
use Rattle.sk_prog.specs.declared.ty.Ty.{Ty}
use Rattle.sk_prog.specs.declared.expr.UnOp.{UnOp}
use Rattle.sk_prog.specs.declared.expr.UnOp.TheVariants as unop
use Rattle.sk_prog.specs.declared.expr.BinOp.{BinOp}
use Rattle.sk_prog.specs.declared.expr.BinOp.TheVariants as op
use Rattle.sk_prog.specs.declared.expr.PExpr.{PExpr}
use Rattle.sk_prog.specs.declared.expr.PField.{PField}
use Rattle.sk_prog.specs.declared.expr.PEForm.{PEForm}
use Rattle.sk_prog.specs.declared.expr.PEForm.TheOpen as P
use Rattle.sk_prog.specs.declared.expr.PEForm.TheViews.{roll-PEForm, roll-PExpr}
use Rattle.sk_prog.specs.declared.expr.PEForm.TheFolds.{map-PEForm, fold-PEForm, fold-PField, fold-roll-PEForm, fold-roll-PExpr, ind-PExpr}
use Rattle.sk_prog.specs.declared.prog.Prog.{Prog}
use Rattle.sk_types_rules.specs.Erase.{nowhere, at, mark_of, unary_mark, eform_erased, erase_expr}
use Rattle.sk_types_rules.specs.Erase as R
use Rattle.sk_types_rules.specs.WellTyped.{is_yes, no_bar, eform_bald, is_bald}
use Rattle.sk_print_laws.specs.Printed.{eform_printed, printed_expr}
use Rattle.sk_print_laws.proofs.Spelled.{number_spelled, true_spelled, false_spelled, null_spelled, word_spelled, hole_spelled, braces_spelled, member_spelled, index_spelled, slice_spelled, unary_spelled, binary_spelled}

abbrev Stand : Kinds → Type 0
Stand ks = list_all may_stand ks ≡ true

stand_then : (ks ls : Kinds) → Stand ks → Stand ls → Stand (ks ++ ls)
stand_then ks ls h g = list_all-append may_stand ks ls ∙ (λ i. h i && g i)

some_then : (ks ls : Kinds) → are_some ks ≡ true → are_some (ks ++ ls) ≡ true
some_then [] ls h = cc
some_then (k ∷ ks) ls h = refl

unary_stands : (o : UnOp) → may_mark (unary_mark o) ≡ true
unary_stands unop.Not = refl
unary_stands unop.Flip = refl
unary_stands unop.Neg = refl

binary_stands : (o : BinOp) → no_bar o ≡ true → may_mark (mark_of o) ≡ true
binary_stands op.Or h = cc
binary_stands op.Mul h = refl
binary_stands op.Div h = refl
binary_stands op.Rem h = refl
binary_stands op.Add h = refl
binary_stands op.Sub h = refl
binary_stands op.Shl h = refl
binary_stands op.Shr h = refl
binary_stands op.Lt h = refl
binary_stands op.Le h = refl
binary_stands op.Gt h = refl
binary_stands op.Ge h = refl
binary_stands op.Eq h = refl
binary_stands op.Ne h = refl
binary_stands op.And h = refl
binary_stands op.Xor h = refl
binary_stands op.AndThen h = refl
binary_stands op.OrElse h = refl

-- the tree that is printed is the erased one, and its tokens, of which there are some, may stand in a string
record IsPlain (a b : Expr) : Type 0 where
  same : a ≡ b
  stands : Stand (spell_expr a)
  some : are_some (spell_expr a) ≡ true

plain : (a b : Expr) (ks : Kinds) → a ≡ b → spell_expr a ≡ ks → Stand ks → are_some ks ≡ true → IsPlain a b
plain a b ks e f h n = record { same = e; stands = ap (list_all may_stand) f ∙ h; some = ap are_some f ∙ n }

module _ (prog : Prog) where
  abbrev form_bald : PEForm → Bool
  form_bald = fold-PEForm Bool Bool Bool eform_bald (λ p. p.form) (λ f. f.value)

  abbrev field_bald : PField → Bool
  field_bald = fold-PField Bool Bool Bool eform_bald (λ p. p.form) (λ f. f.value)

  abbrev form_printed : PEForm → Span → Expr
  form_printed = fold-PEForm (Span → Expr) Expr (ℕ × Expr) (eform_printed prog) (λ e. e.form e.span) (λ f. (f.field, f.value))

  abbrev field_printed : PField → ℕ × Expr
  field_printed = fold-PField (Span → Expr) Expr (ℕ × Expr) (eform_printed prog) (λ e. e.form e.span) (λ f. (f.field, f.value))

  abbrev form_erased : PEForm → Span → Expr
  form_erased = fold-PEForm (Span → Expr) Expr (ℕ × Expr) (eform_erased prog) (λ e. e.form e.span) (λ f. (f.field, f.value))

  abbrev field_erased : PField → ℕ × Expr
  field_erased = fold-PField (Span → Expr) Expr (ℕ × Expr) (eform_erased prog) (λ e. e.form e.span) (λ f. (f.field, f.value))

  abbrev FormPlain : PEForm → Type 0
  FormPlain f = form_bald f ≡ true → (s : Span) → IsPlain (form_printed f s) (form_erased f s)

  abbrev ExprPlain : PExpr → Type 0
  ExprPlain p = is_bald p ≡ true → IsPlain (printed_expr prog p) (erase_expr prog p)

  abbrev Such : Type 0
  Such = (f : PEForm) × FormPlain f

  abbrev Such' : Type 0
  Such' = (e : PExpr) × ExprPlain e

  abbrev Such'' : Type 0
  Such'' = PField × Unit {0}

  abbrev down : P.PEForm-F Such Such' Such'' → P.PEForm-F PEForm PExpr PField
  down = map-PEForm Such Such' Such'' PEForm PExpr PField (λ q. q.0) (λ q. q.0) (λ q. q.0)

  abbrev firsts : List Such' → List PExpr
  firsts qs = map (λ (q : Such'). q.0) qs

  abbrev bald_of : P.PEForm-F PEForm PExpr PField → P.PEForm-F Bool Bool Bool
  bald_of = map-PEForm PEForm PExpr PField Bool Bool Bool form_bald is_bald field_bald

  abbrev printed_of : P.PEForm-F PEForm PExpr PField → P.PEForm-F (Span → Expr) Expr (ℕ × Expr)
  printed_of = map-PEForm PEForm PExpr PField (Span → Expr) Expr (ℕ × Expr) form_printed (printed_expr prog) field_printed

  abbrev erased_of : P.PEForm-F PEForm PExpr PField → P.PEForm-F (Span → Expr) Expr (ℕ × Expr)
  erased_of = map-PEForm PEForm PExpr PField (Span → Expr) Expr (ℕ × Expr) form_erased (erase_expr prog) field_erased

  all_same : (qs : List Such') → list_all is_yes (map is_bald (firsts qs)) ≡ true → map (printed_expr prog) (firsts qs) ≡ map (erase_expr prog) (firsts qs)
  all_same [] h = refl
  all_same (q ∷ qs) h =
      let p = and_parts (is_bald q.0) (list_all is_yes (map is_bald (firsts qs))) h in
      let a = (q.1 p.0).same in
      let b = all_same qs p.1 in
      λ i. a i ∷ b i

  behind_stand : (qs : List Such') → list_all is_yes (map is_bald (firsts qs)) ≡ true → Stand (behind (sign mark.Comma) (map spell_expr (map (printed_expr prog) (firsts qs))))
  behind_stand [] h = refl
  behind_stand (q ∷ qs) h =
      let p = and_parts (is_bald q.0) (list_all is_yes (map is_bald (firsts qs))) h in
      stand_then (spell_expr (printed_expr prog q.0)) (behind (sign mark.Comma) (map spell_expr (map (printed_expr prog) (firsts qs)))) (q.1 p.0).stands (behind_stand qs p.1)

  all_stand : (qs : List Such') → list_all is_yes (map is_bald (firsts qs)) ≡ true → Stand (between (sign mark.Comma) (map spell_expr (map (printed_expr prog) (firsts qs))))
  all_stand [] h = refl
  all_stand (q ∷ qs) h =
      let p = and_parts (is_bald q.0) (list_all is_yes (map is_bald (firsts qs))) h in
      stand_then (spell_expr (printed_expr prog q.0)) (behind (sign mark.Comma) (map spell_expr (map (printed_expr prog) (firsts qs)))) (q.1 p.0).stands (behind_stand qs p.1)

  layer : (y : P.PEForm-F Such Such' Such'') → eform_bald (bald_of (down y)) ≡ true → (s : Span) → IsPlain (eform_printed prog (printed_of (down y)) s) (eform_erased prog (erased_of (down y)) s)
  layer (P.Number n) h s = plain (at (eform.Number n) s) (at (eform.Number n) s) (kind.Number n ∷ []) refl (number_spelled s n) refl refl
  layer P.True h s = plain (at eform.True s) (at eform.True s) _ refl (true_spelled s) refl refl
  layer P.False h s = plain (at eform.False s) (at eform.False s) _ refl (false_spelled s) refl refl
  layer P.Null h s = plain (at eform.Null s) (at eform.Null s) _ refl (null_spelled s) refl refl
  layer (P.Var slot x) h s = plain (at (eform.Word x) s) (at (eform.Word x) s) _ refl (word_spelled s x) refl refl
  layer (P.Const c) h s = plain (at (eform.Word (R.const_name prog c)) s) (at (eform.Word (R.const_name prog c)) s) _ refl (word_spelled s (R.const_name prog c)) refl refl
  layer (P.Hole None) h s = plain (at (eform.Hole None) s) (at (eform.Hole None) s) _ refl (hole_spelled s) refl refl
  layer (P.Hole (Some n)) h s = cc
  layer (P.Pattern qs) h s = cc
  layer (P.Paren q) h s = cc
  layer (P.Call g qs) h s = cc
  layer (P.New k qs) h s = cc
  layer (P.Cond z q j) h s = cc
  layer (P.Braces qs) h s =
      let es = map (printed_expr prog) (firsts qs) in
      plain (at (eform.Braces es) s) (at (eform.Braces (map (erase_expr prog) (firsts qs))) s) _ (ap (λ z. at (eform.Braces z) s) (all_same qs h)) (braces_spelled s es)
      (stand_then (between (sign mark.Comma) (map spell_expr es)) (sign mark.CloseBrace) (all_stand qs h) refl) refl
  layer (P.Member q k i) h s =
      let a = q.1 h in
      let x = printed_expr prog q.0 in
      plain (at (eform.Member x (R.field_name prog k i)) s) (at (eform.Member (erase_expr prog q.0) (R.field_name prog k i)) s) _ (ap (λ z. at (eform.Member z (R.field_name prog k i)) s) a.same) (member_spelled s x (R.field_name prog k i))
      (stand_then (spell_expr x) (kind.Mark mark.Dot ∷ kind.Word (R.field_name prog k i) ∷ []) a.stands refl) (some_then (spell_expr x) _ a.some)
  layer (P.Index q j) h s =
      let p = and_parts (is_bald q.0) (is_bald j.0) h in
      let a = q.1 p.0 in
      let b = j.1 p.1 in
      let x = printed_expr prog q.0 in
      let y = printed_expr prog j.0 in
      plain (at (eform.Index x y) s) (at (eform.Index (erase_expr prog q.0) (erase_expr prog j.0)) s) _ (λ i. at (eform.Index (a.same i) (b.same i)) s) (index_spelled s x y)
      (stand_then (spell_expr x) (kind.Mark mark.OpenBracket ∷ (spell_expr y ++ sign mark.CloseBracket)) a.stands (stand_then (spell_expr y) (sign mark.CloseBracket) b.stands refl)) (some_then (spell_expr x) _ a.some)
  layer (P.Slice q j n) h s =
      let p = and_parts (is_bald q.0) (is_bald j.0) h in
      let a = q.1 p.0 in
      let b = j.1 p.1 in
      let x = printed_expr prog q.0 in
      let y = printed_expr prog j.0 in
      let z = at (eform.Number n) nowhere in
      let last = ap (λ ks. list_all may_stand (ks ++ sign mark.CloseBracket)) (number_spelled nowhere n) in
      plain (at (eform.Slice x y z) s) (at (eform.Slice (erase_expr prog q.0) (erase_expr prog j.0) z) s) _ (λ i. at (eform.Slice (a.same i) (b.same i) z) s) (slice_spelled s x y z)
      (stand_then (spell_expr x) (kind.Mark mark.OpenBracket ∷ (spell_expr y ++ (kind.Mark mark.DoubleColon ∷ (spell_expr z ++ sign mark.CloseBracket)))) a.stands (stand_then (spell_expr y) (kind.Mark mark.DoubleColon ∷ (spell_expr z ++ sign mark.CloseBracket)) b.stands last)) (some_then (spell_expr x) _ a.some)
  layer (P.Unary o q) h s =
      let a = q.1 h in
      let x = printed_expr prog q.0 in
      plain (at (eform.Unary (unary_mark o) x) s) (at (eform.Unary (unary_mark o) (erase_expr prog q.0)) s) _ (ap (λ z. at (eform.Unary (unary_mark o) z) s) a.same) (unary_spelled s (unary_mark o) x)
      (stand_then (sign (unary_mark o)) (spell_expr x) (ap (λ b. b && true) (unary_stands o)) a.stands) refl
  layer (P.Binary o q j) h s =
      let r = and_parts (no_bar o) (is_bald q.0 && is_bald j.0) h in
      let p = and_parts (is_bald q.0) (is_bald j.0) r.1 in
      let a = q.1 p.0 in
      let b = j.1 p.1 in
      let x = printed_expr prog q.0 in
      let y = printed_expr prog j.0 in
      plain (at (eform.Binary (mark_of o) x y) s) (at (eform.Binary (mark_of o) (erase_expr prog q.0) (erase_expr prog j.0)) s) _ (λ i. at (eform.Binary (mark_of o) (a.same i) (b.same i)) s) (binary_spelled s (mark_of o) x y)
      (stand_then (spell_expr x) (sign (mark_of o) ++ spell_expr y) a.stands (stand_then (sign (mark_of o)) (spell_expr y) (ap (λ b. b && true) (binary_stands o r.0)) b.stands)) (some_then (spell_expr x) _ a.some)
  layer (P.ToInt q) h s = q.1 h
  layer (P.Pad q) h s = q.1 h

  form_from : (l : P.PEForm-F PEForm PExpr PField) → (eform_bald (bald_of l) ≡ true → (s : Span) → IsPlain (eform_printed prog (printed_of l) s) (eform_erased prog (erased_of l) s)) → FormPlain (roll-PEForm l)
  form_from l h bald s =
      let a = fold-roll-PEForm Bool Bool Bool eform_bald (λ p. p.form) (λ f. f.value) l in
      let b = fold-roll-PEForm (Span → Expr) Expr (ℕ × Expr) (eform_printed prog) (λ e. e.form e.span) (λ f. (f.field, f.value)) l in
      let c = fold-roll-PEForm (Span → Expr) Expr (ℕ × Expr) (eform_erased prog) (λ e. e.form e.span) (λ f. (f.field, f.value)) l in
      subst (λ (x : Span → Expr). IsPlain (x s) (form_erased (roll-PEForm l) s)) (sym b) (subst (λ (x : Span → Expr). IsPlain (eform_printed prog (printed_of l) s) (x s)) (sym c) (h (sym a ∙ bald) s))

  in_expr : (s : Span) (t : Option Ty) (f : PEForm) → FormPlain f → ExprPlain (record { span = s; ty = t; form = f })
  in_expr s t f h bald =
      let a = fold-roll-PExpr Bool Bool Bool eform_bald (λ p. p.form) (λ f. f.value) (record { span = s; ty = t; form = f }) in
      let b = fold-roll-PExpr (Span → Expr) Expr (ℕ × Expr) (eform_printed prog) (λ e. e.form e.span) (λ f. (f.field, f.value)) (record { span = s; ty = t; form = f }) in
      let c = fold-roll-PExpr (Span → Expr) Expr (ℕ × Expr) (eform_erased prog) (λ e. e.form e.span) (λ f. (f.field, f.value)) (record { span = s; ty = t; form = f }) in
      subst (λ (x : Expr). IsPlain x (erase_expr prog (record { span = s; ty = t; form = f }))) (sym b) (subst (λ (x : Expr). IsPlain (form_printed f s) x) (sym c) (h (sym a ∙ bald) s))

  bald_plain : (p : PExpr) → ExprPlain p
  bald_plain = ind-PExpr FormPlain ExprPlain (λ f. Unit {0})
      (λ x y is. subst (λ z. FormPlain (roll-PEForm z)) is (form_from (down y) (layer y)))
      (λ x y is. subst (λ z. ExprPlain (roll-PExpr z)) is (in_expr y.span y.ty y.form.0 y.form.1))
      (λ x y is. tt)

pub printed_is_erased : (prog : Prog) (p : PExpr) → is_bald p ≡ true → printed_expr prog p ≡ erase_expr prog p
printed_is_erased prog p h = (bald_plain prog p h).same

pub bald_stands : (prog : Prog) (p : PExpr) → is_bald p ≡ true → list_all may_stand (spell_expr (printed_expr prog p)) ≡ true
bald_stands prog p h = (bald_plain prog p h).stands

pub bald_some : (prog : Prog) (p : PExpr) → is_bald p ≡ true → are_some (spell_expr (printed_expr prog p)) ≡ true
bald_some prog p h = (bald_plain prog p h).some
