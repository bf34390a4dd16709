-- A filling leaves nothing open.
use Rattle.std.proofs.Common.{◌≡◌, ℕ, zero, suc, ◌+◌, ◌-◌, Bool, true, false, List, [], ◌∷◌, ◌++◌, map, length, take, drop, Option, Some, None, refl, ◌∙◌}
use Rattle.std.specs.Prelude.{if◌then◌else◌, insert, ◌&&◌}
use Rattle.std.specs.List.{list_all}
use Rattle.sk_base.specs.declared.span.Span.{Span}
use Rattle.sk_prog.specs.declared.ty.Ty.{Ty}
use Rattle.sk_prog.specs.declared.ty.Ty.TheVariants as ty
use Rattle.sk_prog.specs.declared.ty.Elem.TheVariants as elem
use Rattle.sk_prog.specs.declared.expr.PExpr.{PExpr}
use Rattle.sk_prog.specs.declared.expr.PField.{PField}
use Rattle.sk_prog.specs.declared.expr.PEForm.TheVariants as eform
use Rattle.sk_prog.specs.declared.expr.PEForm.TheOpen as P
use Rattle.sk_prog.specs.declared.expr.PEForm.TheFolds.{map-PEForm, fold-PField}
use Rattle.sk_prog.specs.declared.stmt.PStmt.{PStmt}
use Rattle.sk_prog.specs.declared.stmt.PForm.{PForm}
use Rattle.sk_prog.specs.declared.stmt.PForm.TheVariants as form
use Rattle.sk_prog.specs.declared.stmt.PForm.TheOpen as S
use Rattle.sk_prog.specs.declared.stmt.PForm.TheFolds.{map-PForm}
use Rattle.sk_prog.specs.declared.prog.FunKind.{FunKind}
use Rattle.sk_prog.specs.declared.prog.FunKind.TheVariants as kind
use Rattle.sk_prog.specs.declared.prog.Fun.{Fun}
use Rattle.sk_model.specs.Parts.{Part, in_turn, pick, value, rank}
use Rattle.sk_model.specs.Sites.{is_hole}
use Rattle.sk_model.specs.Filled.{is_yes, eform_filled, expr_filled, any_filled, form_filled, stmt_filled, fun_filled}
use Rattle.sk_model.specs.Stands.{Payment, standing, funs_stand, all_paid}
use Rattle.sk_model.specs.Fill.{is_tight, spanned, chosen, no_string, arrange, digit, Opened, bits_at, hole_part, eform_part, expr_step, field_step, expr_part, fill_expr, value_part, some_copies, all_copies, form_part, stmt_step, stmt_part, fill_stmts, stmts_count, minimize_of, before_body, fill_funs, fill}
use Rattle.sk_model.specs.RunningLaws.{FillingIsFilled}
use Rattle.sk_model.proofs.Layers.{layer_field, layer_number, layer_true, layer_false, layer_null, layer_var, layer_const, layer_paren, layer_call, layer_new, layer_braces, layer_member, layer_index, layer_slice, layer_unary, layer_binary, layer_cond, layer_to_int, layer_pad, layer_of_block, layer_of_declare, layer_of_assign, layer_of_call, layer_of_if, layer_of_if_else, layer_of_while, layer_of_return, layer_of_assert, layer_of_assume, layer_of_minimize}
use Rattle.sk_model.proofs.Principle.{expr_law, stmt_law}

-- Expressions that leave nothing open

abbrev Filled : PExpr → Type 0
Filled e = (span : Span) → expr_filled (spanned span e) ≡ true

abbrev field_filled : PField → Bool
field_filled = fold-PField Bool Bool Bool eform_filled (λ e. e.form) (λ x. x.value)

abbrev all_fills : List PExpr → Bool
all_fills es = list_all is_yes (map expr_filled es)

number_fills : (t : Option Ty) (n : ℕ) (span : Span) → expr_filled (record { span = span; ty = t; form = eform.Number n }) ≡ true
number_fills t n span = layer_number Bool Bool Bool eform_filled (λ e. e.form) (λ x. x.value) span t n

bits_fills : (values : List ℕ) (number : ℕ → ℕ) (span : Span) (n i : ℕ) → all_fills (bits_at values number span n i) ≡ true
bits_fills values number span zero i = refl
bits_fills values number span (suc n) i = λ j. number_fills (Some (ty.One elem.Bit)) (value values i) span j && bits_fills values number span n (i + 1) j

chosen_fills : (t : Option Ty) (span : Span) (e : PExpr) → Filled e → Filled (chosen t span e)
chosen_fills t span e h = elim (is_tight e) as (λ b. Filled (if b then spanned span e else record { span = span; ty = t; form = eform.Paren (spanned span e) })) [
  | true ↦ λ other. h other
  | false ↦ λ other. layer_paren Bool Bool Bool eform_filled (λ e. e.form) (λ x. x.value) other t (spanned span e) ∙ h span
]

module _ (values : List ℕ) (number : ℕ → ℕ) where
  abbrev K : Opened values number → Type 0
  K p = (t : Option Ty) (span : Span) (i : ℕ) → Filled ((p t span).at i)

  abbrev K' : Part PExpr → Type 0
  K' p = (i : ℕ) → Filled (p.at i)

  abbrev K'' : Part PField → Type 0
  K'' p = (i : ℕ) → field_filled (p.at i) ≡ true

  abbrev Kept : Type 0
  Kept = (p : Opened values number) × K p

  abbrev Kept' : Type 0
  Kept' = (p : Part PExpr) × K' p

  abbrev Kept'' : Type 0
  Kept'' = (p : Part PField) × K'' p

  -- a part that is bare, at its own span
  own_fills : (p : Kept') (i : ℕ) → expr_filled (p.0.at i) ≡ true
  own_fills p i = p.1 i (p.0.at i).span

  turn_fills : (ps : List Kept') (i : ℕ) → all_fills (in_turn (map (λ p. p.0) ps) i) ≡ true
  turn_fills [] i = refl
  turn_fills (p ∷ ps) i = λ j. own_fills p i j && turn_fills ps (i + p.0.count) j

  fields_fills : (ps : List Kept'') (i : ℕ) → list_all is_yes (map field_filled (in_turn (map (λ p. p.0) ps) i)) ≡ true
  fields_fills [] i = refl
  fields_fills (p ∷ ps) i = λ j. p.1 i j && fields_fills ps (i + p.0.count) j

  pick_fills : (other : PExpr) (ps : List Kept') (v i : ℕ) → Filled other → Filled (pick other (map (λ p. p.0) ps) v i)
  pick_fills other [] v i h = h
  pick_fills other (p ∷ ps) zero i h = p.1 i
  pick_fills other (p ∷ ps) (suc v) i h = pick_fills other ps v (i + p.0.count) h

  no_string_fills : Filled no_string
  no_string_fills span = layer_null Bool Bool Bool eform_filled (λ e. e.form) (λ x. x.value) span None

  hole_fills : (t : Option Ty) (span : Span) (i : ℕ) → Filled ((hole_part values number t span).at i)
  hole_fills None span i other = number_fills None (value values i) other
  hole_fills (Some (ty.One e)) span i other = number_fills (Some (ty.One e)) (value values i) other
  hole_fills (Some (ty.Array elem.Bit n)) span i other = layer_braces Bool Bool Bool eform_filled (λ e. e.form) (λ x. x.value) other (Some (ty.Array elem.Bit n)) (bits_at values number span n i) ∙ bits_fills values number span n i
  hole_fills (Some (ty.Array elem.Int n)) span i other = number_fills (Some (ty.Array elem.Int n)) (value values i) other
  hole_fills (Some (ty.Array (elem.Reference d) n)) span i other = number_fills (Some (ty.Array (elem.Reference d) n)) (value values i) other
  hole_fills (Some (ty.Grid e n m)) span i other = number_fills (Some (ty.Grid e n m)) (value values i) other

  form_fills : (y : P.PEForm-F Kept Kept' Kept'') → K (eform_part values number (map-PEForm Kept Kept' Kept'' (Opened values number) (Part PExpr) (Part PField) (λ p. p.0) (λ p. p.0) (λ p. p.0) y))
  form_fills (P.Hole width) t span i other = hole_fills t span i other
  form_fills (P.Pattern es) t span i other = chosen_fills t span (pick no_string (map (λ p. p.0) es) (value values i) (i + 1)) (pick_fills no_string es (value values i) (i + 1) no_string_fills) other
  form_fills (P.Number n) t span i other = number_fills t n other
  form_fills P.True t span i other = layer_true Bool Bool Bool eform_filled (λ e. e.form) (λ x. x.value) other t
  form_fills P.False t span i other = layer_false Bool Bool Bool eform_filled (λ e. e.form) (λ x. x.value) other t
  form_fills P.Null t span i other = layer_null Bool Bool Bool eform_filled (λ e. e.form) (λ x. x.value) other t
  form_fills (P.Var slot name) t span i other = layer_var Bool Bool Bool eform_filled (λ e. e.form) (λ x. x.value) other t slot name
  form_fills (P.Const c) t span i other = layer_const Bool Bool Bool eform_filled (λ e. e.form) (λ x. x.value) other t c
  form_fills (P.Paren e) t span i other = layer_paren Bool Bool Bool eform_filled (λ e. e.form) (λ x. x.value) other t (e.0.at i) ∙ own_fills e i
  form_fills (P.Call f es) t span i other = layer_call Bool Bool Bool eform_filled (λ e. e.form) (λ x. x.value) other t (record { index = number f.index }) (in_turn (map (λ p. p.0) es) i) ∙ turn_fills es i
  form_fills (P.New d fs) t span i other = layer_new Bool Bool Bool eform_filled (λ e. e.form) (λ x. x.value) other t d (in_turn (map (λ p. p.0) fs) i) ∙ fields_fills fs i
  form_fills (P.Braces es) t span i other = layer_braces Bool Bool Bool eform_filled (λ e. e.form) (λ x. x.value) other t (in_turn (map (λ p. p.0) es) i) ∙ turn_fills es i
  form_fills (P.Member e d k) t span i other = layer_member Bool Bool Bool eform_filled (λ e. e.form) (λ x. x.value) other t (e.0.at i) d k ∙ own_fills e i
  form_fills (P.Index e x) t span i other = layer_index Bool Bool Bool eform_filled (λ e. e.form) (λ x. x.value) other t (e.0.at i) (x.0.at (i + e.0.count)) ∙ (λ j. own_fills e i j && own_fills x (i + e.0.count) j)
  form_fills (P.Slice e x n) t span i other = layer_slice Bool Bool Bool eform_filled (λ e. e.form) (λ x. x.value) other t (e.0.at i) (x.0.at (i + e.0.count)) n ∙ (λ j. own_fills e i j && own_fills x (i + e.0.count) j)
  form_fills (P.Unary op e) t span i other = layer_unary Bool Bool Bool eform_filled (λ e. e.form) (λ x. x.value) other t op (e.0.at i) ∙ own_fills e i
  form_fills (P.Binary op a b) t span i other = layer_binary Bool Bool Bool eform_filled (λ e. e.form) (λ x. x.value) other t op (a.0.at i) (b.0.at (i + a.0.count)) ∙ (λ j. own_fills a i j && own_fills b (i + a.0.count) j)
  form_fills (P.Cond c a b) t span i other = layer_cond Bool Bool Bool eform_filled (λ e. e.form) (λ x. x.value) other t (c.0.at i) (a.0.at (i + c.0.count)) (b.0.at (i + c.0.count + a.0.count)) ∙ (λ j. own_fills c i j && (own_fills a (i + c.0.count) j && own_fills b (i + c.0.count + a.0.count) j))
  form_fills (P.ToInt e) t span i other = layer_to_int Bool Bool Bool eform_filled (λ e. e.form) (λ x. x.value) other t (e.0.at i) ∙ own_fills e i
  form_fills (P.Pad e) t span i other = layer_pad Bool Bool Bool eform_filled (λ e. e.form) (λ x. x.value) other t (e.0.at i) ∙ own_fills e i

  exprs_fill : (e : PExpr) → K' (expr_part values number e)
  exprs_fill = expr_law (Opened values number) (Part PExpr) (Part PField) (eform_part values number) (expr_step values number) (field_step values number) K K' K'' form_fills (λ y i. y.form.1 y.ty y.span i) (λ y i. layer_field Bool Bool Bool eform_filled (λ e. e.form) (λ x. x.value) y.field (y.value.0.at i) ∙ own_fills y.value i)

  expr_fills : (e : PExpr) (i : ℕ) → expr_filled (fill_expr values number e i) ≡ true
  expr_fills e i = exprs_fill e i (fill_expr values number e i).span

  value_fills : (e : Option PExpr) (i : ℕ) → any_filled ((value_part values number e).at i) ≡ true
  value_fills None i = refl
  value_fills (Some e) i = expr_fills e i

  -- Statements that leave nothing open

  abbrev AllFilled : List PStmt → Type 0
  AllFilled [] = Unit {0}
  AllFilled (s ∷ ss) = (stmt_filled s ≡ true) × AllFilled ss

  joined_fills : (ss : List PStmt) → AllFilled ss → list_all is_yes (map stmt_filled ss) ≡ true
  joined_fills [] h = refl
  joined_fills (s ∷ ss) h = λ j. h.0 j && joined_fills ss h.1 j

  listed_fills : (ss : List PStmt) → AllFilled ss → list_all stmt_filled ss ≡ true
  listed_fills [] h = refl
  listed_fills (s ∷ ss) h = λ j. h.0 j && listed_fills ss h.1 j

  append_fills : (ss ts : List PStmt) → AllFilled ss → AllFilled ts → AllFilled (ss ++ ts)
  append_fills [] ts h k = k
  append_fills (s ∷ ss) ts h k = (h.0, append_fills ss ts h.1 k)

  take_fills : (n : ℕ) (ss : List PStmt) → AllFilled ss → AllFilled (take n ss)
  take_fills zero ss h = tt
  take_fills (suc n) [] h = tt
  take_fills (suc n) (s ∷ ss) h = (h.0, take_fills n ss h.1)

  drop_fills : (n : ℕ) (ss : List PStmt) → AllFilled ss → AllFilled (drop n ss)
  drop_fills zero ss h = h
  drop_fills (suc n) [] h = tt
  drop_fills (suc n) (s ∷ ss) h = drop_fills n ss h.1

  insert_fills : (ss : List PStmt) (n : ℕ) (s : PStmt) → AllFilled ss → stmt_filled s ≡ true → AllFilled (insert ss n s)
  insert_fills ss n s h k = append_fills (take n ss) (s ∷ drop n ss) (take_fills n ss h) (k, drop_fills n ss h)

  arrange_fills : (i : ℕ) (ss ts : List PStmt) → AllFilled ss → AllFilled ts → AllFilled (arrange values i ss ts)
  arrange_fills i ss [] h k = h
  arrange_fills i ss (t ∷ ts) h k = arrange_fills i (insert ss (length ss - digit values i (length ss)) t) ts (insert_fills ss (length ss - digit values i (length ss)) t h k.0) k.1

  abbrev L : Part PForm → Type 0
  L p = (span : Span) (i : ℕ) → stmt_filled (record { span = span; form = p.at i }) ≡ true

  abbrev L' : Part PStmt → Type 0
  L' p = (i : ℕ) → stmt_filled (p.at i) ≡ true

  abbrev Held : Type 0
  Held = (p : Part PForm) × L p

  abbrev Held' : Type 0
  Held' = (p : Part PStmt) × L' p

  turn_stmts : (ps : List Held') (i : ℕ) → AllFilled (in_turn (map (λ p. p.0) ps) i)
  turn_stmts [] i = tt
  turn_stmts (p ∷ ps) i = (p.1 i, turn_stmts ps (i + p.0.count))

  block_fills : (span : Span) (ss : List PStmt) → AllFilled ss → stmt_filled (record { span = span; form = form.Block ss }) ≡ true
  block_fills span ss h = layer_of_block Bool Bool form_filled (λ s. s.form) span ss ∙ joined_fills ss h

  some_fills : (ps : List Held') → L (some_copies values number (map (λ p. p.0) ps))
  some_fills ps span i = block_fills span (take (value values i) (in_turn (map (λ p. p.0) ps) (i + 1))) (take_fills (value values i) (in_turn (map (λ p. p.0) ps) (i + 1)) (turn_stmts ps (i + 1)))

  every_fills : (ps : List Held') → L (all_copies values number (map (λ p. p.0) ps))
  every_fills ps span i = block_fills span (in_turn (map (λ p. p.0) ps) i) (turn_stmts ps i)

  pform_fills : (y : S.PForm-F Held Held') → L (form_part values number (map-PForm Held Held' (Part PForm) (Part PStmt) (λ p. p.0) (λ p. p.0) y))
  pform_fills (S.Repeat count ps) span i = elim (is_hole count.form) as (λ b. L (if b then some_copies values number (map (λ p. p.0) ps) else all_copies values number (map (λ p. p.0) ps))) [ true ↦ some_fills ps | false ↦ every_fills ps ] span i
  pform_fills (S.MinRepeat ps) span i = some_fills ps span i
  pform_fills (S.Reorder ps) span i =
      let n : ℕ = i + (length (map (λ (p : Held'). p.0) ps) - 1) in
      block_fills span (arrange values i [] (in_turn (map (λ p. p.0) ps) n)) (arrange_fills i [] (in_turn (map (λ p. p.0) ps) n) tt (turn_stmts ps n))
  pform_fills (S.Block ps) span i = block_fills span (in_turn (map (λ p. p.0) ps) i) (turn_stmts ps i)
  pform_fills (S.Declare slot name t e) span i = layer_of_declare Bool Bool form_filled (λ s. s.form) span slot name t ((value_part values number e).at i) ∙ value_fills e i
  pform_fills (S.Assign p e) span i = layer_of_assign Bool Bool form_filled (λ s. s.form) span (fill_expr values number p i) (fill_expr values number e (i + (expr_part values number p).count)) ∙ (λ j. expr_fills p i j && expr_fills e (i + (expr_part values number p).count) j)
  pform_fills (S.Call e) span i = layer_of_call Bool Bool form_filled (λ s. s.form) span (fill_expr values number e i) ∙ expr_fills e i
  pform_fills (S.If c a None) span i = layer_of_if Bool Bool form_filled (λ s. s.form) span (fill_expr values number c i) (a.0.at (i + (expr_part values number c).count)) ∙ (λ j. expr_fills c i j && (a.1 (i + (expr_part values number c).count) j && true))
  pform_fills (S.If c a (Some b)) span i =
      let n : ℕ = i + (expr_part values number c).count in
      layer_of_if_else Bool Bool form_filled (λ s. s.form) span (fill_expr values number c i) (a.0.at n) (b.0.at (n + a.0.count)) ∙ (λ j. expr_fills c i j && (a.1 n j && b.1 (n + a.0.count) j))
  pform_fills (S.While c a) span i = layer_of_while Bool Bool form_filled (λ s. s.form) span (fill_expr values number c i) (a.0.at (i + (expr_part values number c).count)) ∙ (λ j. expr_fills c i j && a.1 (i + (expr_part values number c).count) j)
  pform_fills (S.Return e) span i = layer_of_return Bool Bool form_filled (λ s. s.form) span ((value_part values number e).at i) ∙ value_fills e i
  pform_fills (S.Assert e) span i = layer_of_assert Bool Bool form_filled (λ s. s.form) span (fill_expr values number e i) ∙ expr_fills e i
  pform_fills (S.Assume e) span i = layer_of_assume Bool Bool form_filled (λ s. s.form) span (fill_expr values number e i) ∙ expr_fills e i
  pform_fills (S.Minimize e) span i = layer_of_minimize Bool Bool form_filled (λ s. s.form) span (fill_expr values number e i) ∙ expr_fills e i

  stmt_fills : (s : PStmt) → L' (stmt_part values number s)
  stmt_fills = stmt_law (Part PForm) (Part PStmt) (form_part values number) (stmt_step values number) L L' pform_fills (λ y i. y.form.1 y.span i)

  stmts_fills : (ss : List PStmt) (i : ℕ) → AllFilled (fill_stmts values number ss i)
  stmts_fills [] i = tt
  stmts_fills (s ∷ ss) i = (stmt_fills s i, stmts_fills ss (i + (stmt_part values number s).count))

  payments_fills : (ps : List Payment) → AllFilled (map minimize_of ps)
  payments_fills [] = tt
  payments_fills (p ∷ ps) = (layer_of_minimize Bool Bool form_filled (λ s. s.form) p.span (record { span = p.span; ty = Some (ty.One elem.Int); form = eform.Number p.amount }) ∙ number_fills (Some (ty.One elem.Int)) p.amount p.span, payments_fills ps)

  before_fills : (k : FunKind) (ps : List Payment) → AllFilled (before_body k (map minimize_of ps))
  before_fills kind.Plain ps = tt
  before_fills kind.Harness ps = payments_fills ps
  before_fills kind.Generator ps = tt

  funs_fills : (ps : List Payment) (bs : List Bool) (fs : List Fun) (i : ℕ) → list_all fun_filled (fill_funs values number (map minimize_of ps) bs fs i) ≡ true
  funs_fills ps [] fs i = refl
  funs_fills ps (true ∷ bs) [] i = refl
  funs_fills ps (false ∷ bs) [] i = refl
  funs_fills ps (true ∷ bs) (f ∷ fs) i =
      let body : List PStmt = before_body f.kind (map minimize_of ps) ++ fill_stmts values number f.body i in
      let none = listed_fills body (append_fills (before_body f.kind (map minimize_of ps)) (fill_stmts values number f.body i) (before_fills f.kind ps) (stmts_fills f.body i)) in
      λ j. none j && funs_fills ps bs fs (i + stmts_count values number f.body) j
  funs_fills ps (false ∷ bs) (f ∷ fs) i = funs_fills ps bs fs (i + stmts_count values number f.body)

pub filling_is_filled : FillingIsFilled
unfolding fill
filling_is_filled e a = funs_fills a.values (rank (funs_stand (standing e a.values))) (all_paid (standing e a.values)) (funs_stand (standing e a.values)) e.prog.funs 0
