-- A filling has no names but those of the expansion.
use Rattle.std.proofs.Common.{◌≡◌, ℕ, zero, suc, ◌+◌, ◌-◌, Bool, true, false, ◌&&◌, List, [], ◌∷◌, ◌++◌, map, length, take, Option, Some, None, refl, sym, ap, ◌∙◌}
use Rattle.std.specs.Prelude.{if◌then◌else◌}
use Rattle.std.specs.List.{list_all}
use Rattle.std.proofs.lemmas.Bool.{and_parts}
use Rattle.sk_base.specs.declared.span.Span.{Span}
use Rattle.sk_prog.specs.declared.ty.Ty.{Ty}
use Rattle.sk_prog.specs.declared.ty.Ty.TheVariants as ty
use Rattle.sk_prog.specs.declared.ty.Elem.TheVariants as elem
use Rattle.sk_prog.specs.declared.expr.PExpr.{PExpr}
use Rattle.sk_prog.specs.declared.expr.PField.{PField}
use Rattle.sk_prog.specs.declared.expr.PEForm.{PEForm}
use Rattle.sk_prog.specs.declared.expr.PEForm.TheVariants as eform
use Rattle.sk_prog.specs.declared.expr.PEForm.TheOpen as P
use Rattle.sk_prog.specs.declared.expr.PEForm.TheViews as V
use Rattle.sk_prog.specs.declared.expr.PEForm.TheFolds.{map-PEForm, fold-PEForm, fold-PField, fold-roll-PEForm, fold-roll-PExpr}
use Rattle.sk_prog.specs.declared.stmt.PStmt.{PStmt}
use Rattle.sk_prog.specs.declared.stmt.PForm.{PForm}
use Rattle.sk_prog.specs.declared.stmt.PForm.TheVariants as pform
use Rattle.sk_prog.specs.declared.stmt.PForm.TheOpen as S
use Rattle.sk_prog.specs.declared.stmt.PForm.TheViews as W
use Rattle.sk_prog.specs.declared.stmt.PForm.TheFolds.{map-PForm, fold-PForm}
use Rattle.sk_prog.specs.declared.prog.FunKind.{FunKind}
use Rattle.sk_prog.specs.declared.prog.FunKind.TheVariants as kind
use Rattle.sk_prog.specs.declared.prog.ParamDef.{ParamDef}
use Rattle.sk_prog.specs.declared.prog.Fun.{Fun}
use Rattle.sk_prog.specs.Names.{is_yes, eform_names, expr_names, any_names, form_names, stmt_names, fun_names}
use Rattle.sk_types_laws.proofs.Ats.{pexpr_law}
use Rattle.sk_model.specs.Parts.{Part, in_turn, pick, value}
use Rattle.sk_model.specs.Sites.{is_hole}
use Rattle.sk_model.specs.Stands.{Payment}
use Rattle.sk_model.specs.Fill.{Opened, is_tight, spanned, chosen, no_string, arrange, bits_at, hole_part, renamed, eform_part, expr_step, field_step, expr_part, value_part, some_copies, all_copies, form_part, stmt_step, stmt_part, fill_stmts, stmts_count, minimize_of, before_body, fill_funs}
use Rattle.sk_model.proofs.Layers.{layer_field, expr_layer, stmt_layer}
use Rattle.sk_model.proofs.Induction.{StmtCases, stmt_ind}
use Rattle.sk_holes_laws.specs.Filling.{Every}
use Rattle.sk_holes_laws.proofs.Exprs.{every_of}
use Rattle.sk_holes_laws.proofs.Declared.{SLayer}
use Rattle.sk_holes_laws.proofs.Stmts.{every_take, every_arranged}

module _ (test : List ℕ → Bool) (values : List ℕ) (number : ℕ → ℕ) where
  abbrev act_names : PEForm → Bool
  act_names = fold-PEForm Bool Bool Bool (eform_names test) (λ x. x.form) (λ x. x.value)

  abbrev field_names : PField → Bool
  field_names = fold-PField Bool Bool Bool (eform_names test) (λ x. x.form) (λ x. x.value)

  abbrev names_of : P.PEForm-F PEForm PExpr PField → P.PEForm-F Bool Bool Bool
  names_of l = map-PEForm PEForm PExpr PField Bool Bool Bool act_names (expr_names test) field_names l

  name_at : (l : P.PEForm-F PEForm PExpr PField) (g : PEForm) → V.roll-PEForm l ≡ g → (s : Span) (t : Option Ty) → eform_names test (names_of l) ≡ true → expr_names test (record { span = s; ty = t; form = g }) ≡ true
  name_at l g is s t h = expr_layer Bool Bool Bool (eform_names test) (λ x. x.form) (λ x. x.value) l g is s t ∙ h

  abbrev act_part : PEForm → Opened values number
  act_part = fold-PEForm (Opened values number) (Part PExpr) (Part PField) (eform_part values number) (expr_step values number) (field_step values number)

  abbrev field_part : PField → Part PField
  field_part = fold-PField (Opened values number) (Part PExpr) (Part PField) (eform_part values number) (expr_step values number) (field_step values number)

  abbrev FormNamed : PEForm → Type 0
  FormNamed g = act_names g ≡ true → (t : Option Ty) (s : Span) (i : ℕ) → expr_names test ((act_part g t s).at i) ≡ true

  abbrev ExprNamed : PExpr → Type 0
  ExprNamed p = expr_names test p ≡ true → (i : ℕ) → expr_names test ((expr_part values number p).at i) ≡ true

  abbrev FieldNamed : PField → Type 0
  FieldNamed x = field_names x ≡ true → (i : ℕ) → field_names ((field_part x).at i) ≡ true

  abbrev Above : Type 0
  Above = P.PEForm-F ((g : PEForm) × FormNamed g) ((p : PExpr) × ExprNamed p) ((x : PField) × FieldNamed x)

  abbrev below : Above → P.PEForm-F PEForm PExpr PField
  below y = map-PEForm ((g : PEForm) × FormNamed g) ((p : PExpr) × ExprNamed p) ((x : PField) × FieldNamed x) PEForm PExpr PField (λ q. q.0) (λ q. q.0) (λ q. q.0) y

  abbrev parts_of : P.PEForm-F PEForm PExpr PField → P.PEForm-F (Opened values number) (Part PExpr) (Part PField)
  parts_of l = map-PEForm PEForm PExpr PField (Opened values number) (Part PExpr) (Part PField) act_part (expr_part values number) field_part l

  rows : (qs : List ((p : PExpr) × ExprNamed p)) → list_all is_yes (map (expr_names test) (map (λ q. q.0) qs)) ≡ true → (i : ℕ) → list_all is_yes (map (expr_names test) (in_turn (map (expr_part values number) (map (λ q. q.0) qs)) i)) ≡ true
  rows [] h i = refl
  rows (q ∷ qs) h i =
      let b = and_parts (expr_names test q.0) (list_all is_yes (map (expr_names test) (map (λ q. q.0) qs))) h in
      let one = q.1 b.0 i in
      let rest = rows qs b.1 (i + (expr_part values number q.0).count) in
      λ j. one j && rest j

  sets : (qs : List ((x : PField) × FieldNamed x)) → list_all is_yes (map field_names (map (λ q. q.0) qs)) ≡ true → (i : ℕ) → list_all is_yes (map field_names (in_turn (map field_part (map (λ q. q.0) qs)) i)) ≡ true
  sets [] h i = refl
  sets (q ∷ qs) h i =
      let b = and_parts (field_names q.0) (list_all is_yes (map field_names (map (λ q. q.0) qs))) h in
      let one = q.1 b.0 i in
      let rest = sets qs b.1 (i + (field_part q.0).count) in
      λ j. one j && rest j

  picked : (qs : List ((p : PExpr) × ExprNamed p)) → list_all is_yes (map (expr_names test) (map (λ q. q.0) qs)) ≡ true → (v i : ℕ) → expr_names test (pick no_string (map (expr_part values number) (map (λ q. q.0) qs)) v i) ≡ true
  picked [] h v i = name_at P.Null eform.Null eform.rolls-Null (record { from = 0; to = 0 }) None refl
  picked (q ∷ qs) h zero i = let b = and_parts (expr_names test q.0) (list_all is_yes (map (expr_names test) (map (λ q. q.0) qs))) h in q.1 b.0 i
  picked (q ∷ qs) h (suc v) i = let b = and_parts (expr_names test q.0) (list_all is_yes (map (expr_names test) (map (λ q. q.0) qs))) h in picked qs b.1 v (i + (expr_part values number q.0).count)

  spanned_named : (s : Span) (p : PExpr) → expr_names test p ≡ true → expr_names test (spanned s p) ≡ true
  spanned_named s p h = fold-roll-PExpr Bool Bool Bool (eform_names test) (λ x. x.form) (λ x. x.value) (record { span = s; ty = p.ty; form = p.form }) ∙ sym (fold-roll-PExpr Bool Bool Bool (eform_names test) (λ x. x.form) (λ x. x.value) (record { span = p.span; ty = p.ty; form = p.form })) ∙ h

  chosen_named : (t : Option Ty) (s : Span) (p : PExpr) → expr_names test p ≡ true → expr_names test (chosen t s p) ≡ true
  chosen_named t s p h = go (is_tight p)
    where
      go : (b : Bool) → expr_names test (if b then spanned s p else record { span = s; ty = t; form = eform.Paren (spanned s p) }) ≡ true
      go true = spanned_named s p h
      go false = name_at (P.Paren (spanned s p)) (eform.Paren (spanned s p)) (eform.rolls-Paren (spanned s p)) s t (spanned_named s p h)

  number_named : (s : Span) (t : Option Ty) (n : ℕ) → expr_names test (record { span = s; ty = t; form = eform.Number n }) ≡ true
  number_named s t n = name_at (P.Number n) (eform.Number n) (eform.rolls-Number n) s t refl

  bits_named : (s : Span) (n i : ℕ) → list_all is_yes (map (expr_names test) (bits_at values number s n i)) ≡ true
  bits_named s zero i = refl
  bits_named s (suc n) i =
      let one = number_named s (Some (ty.One elem.Bit)) (value values i) in
      let rest = bits_named s n (i + 1) in
      λ j. one j && rest j

  hole_named : (t : Option Ty) (s : Span) (i : ℕ) → expr_names test ((hole_part values number t s).at i) ≡ true
  hole_named None s i = number_named s None (value values i)
  hole_named (Some (ty.One a)) s i = number_named s (Some (ty.One a)) (value values i)
  hole_named (Some (ty.Array elem.Bit n)) s i = name_at (P.Braces (bits_at values number s n i)) (eform.Braces (bits_at values number s n i)) (eform.rolls-Braces (bits_at values number s n i)) s (Some (ty.Array elem.Bit n)) (bits_named s n i)
  hole_named (Some (ty.Array elem.Int n)) s i = number_named s (Some (ty.Array elem.Int n)) (value values i)
  hole_named (Some (ty.Array (elem.Reference d) n)) s i = number_named s (Some (ty.Array (elem.Reference d) n)) (value values i)
  hole_named (Some (ty.Grid a n m)) s i = number_named s (Some (ty.Grid a n m)) (value values i)

  layer : (y : Above) → eform_names test (names_of (below y)) ≡ true → (t : Option Ty) (s : Span) (i : ℕ) → expr_names test ((eform_part values number (parts_of (below y)) t s).at i) ≡ true
  layer (P.Number n) h t s i = name_at (P.Number n) (eform.Number n) (eform.rolls-Number n) s t refl
  layer P.True h t s i = name_at P.True eform.True eform.rolls-True s t refl
  layer P.False h t s i = name_at P.False eform.False eform.rolls-False s t refl
  layer P.Null h t s i = name_at P.Null eform.Null eform.rolls-Null s t refl
  layer (P.Var slot x) h t s i = name_at (P.Var slot x) (eform.Var slot x) (eform.rolls-Var slot x) s t h
  layer (P.Const c) h t s i = name_at (P.Const c) (eform.Const c) (eform.rolls-Const c) s t refl
  layer (P.Hole w) h t s i = hole_named t s i
  layer (P.Pattern qs) h t s i = chosen_named t s (pick no_string (map (expr_part values number) (map (λ q. q.0) qs)) (value values i) (i + 1)) (picked qs h (value values i) (i + 1))
  layer (P.Paren q) h t s i = let p : PExpr = (expr_part values number q.0).at i in name_at (P.Paren p) (eform.Paren p) (eform.rolls-Paren p) s t (q.1 h i)
  layer (P.Call g qs) h t s i = let ps : List PExpr = in_turn (map (expr_part values number) (map (λ q. q.0) qs)) i in name_at (P.Call (renamed values number g) ps) (eform.Call (renamed values number g) ps) (eform.rolls-Call (renamed values number g) ps) s t (rows qs h i)
  layer (P.New k qs) h t s i = let ps : List PField = in_turn (map field_part (map (λ q. q.0) qs)) i in name_at (P.New k ps) (eform.New k ps) (eform.rolls-New k ps) s t (sets qs h i)
  layer (P.Braces qs) h t s i = let ps : List PExpr = in_turn (map (expr_part values number) (map (λ q. q.0) qs)) i in name_at (P.Braces ps) (eform.Braces ps) (eform.rolls-Braces ps) s t (rows qs h i)
  layer (P.Member q k j) h t s i = let p : PExpr = (expr_part values number q.0).at i in name_at (P.Member p k j) (eform.Member p k j) (eform.rolls-Member p k j) s t (q.1 h i)
  layer (P.Index q j) h t s i =
      let b = and_parts (expr_names test q.0) (expr_names test j.0) h in
      let n = i + (expr_part values number q.0).count in
      let p : PExpr = (expr_part values number q.0).at i in
      let r : PExpr = (expr_part values number j.0).at n in
      let x = q.1 b.0 i in
      let y = j.1 b.1 n in
      name_at (P.Index p r) (eform.Index p r) (eform.rolls-Index p r) s t (λ k. x k && y k)
  layer (P.Slice q j m) h t s i =
      let b = and_parts (expr_names test q.0) (expr_names test j.0) h in
      let n = i + (expr_part values number q.0).count in
      let p : PExpr = (expr_part values number q.0).at i in
      let r : PExpr = (expr_part values number j.0).at n in
      let x = q.1 b.0 i in
      let y = j.1 b.1 n in
      name_at (P.Slice p r m) (eform.Slice p r m) (eform.rolls-Slice p r m) s t (λ k. x k && y k)
  layer (P.Unary o q) h t s i = let p : PExpr = (expr_part values number q.0).at i in name_at (P.Unary o p) (eform.Unary o p) (eform.rolls-Unary o p) s t (q.1 h i)
  layer (P.Binary o q j) h t s i =
      let b = and_parts (expr_names test q.0) (expr_names test j.0) h in
      let n = i + (expr_part values number q.0).count in
      let p : PExpr = (expr_part values number q.0).at i in
      let r : PExpr = (expr_part values number j.0).at n in
      let x = q.1 b.0 i in
      let y = j.1 b.1 n in
      name_at (P.Binary o p r) (eform.Binary o p r) (eform.rolls-Binary o p r) s t (λ k. x k && y k)
  layer (P.Cond c q j) h t s i =
      let a = and_parts (expr_names test c.0) (expr_names test q.0 && expr_names test j.0) h in
      let b = and_parts (expr_names test q.0) (expr_names test j.0) a.1 in
      let n = i + (expr_part values number c.0).count in
      let m = n + (expr_part values number q.0).count in
      let d : PExpr = (expr_part values number c.0).at i in
      let p : PExpr = (expr_part values number q.0).at n in
      let r : PExpr = (expr_part values number j.0).at m in
      let w = c.1 a.0 i in
      let x = q.1 b.0 n in
      let y = j.1 b.1 m in
      name_at (P.Cond d p r) (eform.Cond d p r) (eform.rolls-Cond d p r) s t (λ k. w k && (x k && y k))
  layer (P.ToInt q) h t s i = let p : PExpr = (expr_part values number q.0).at i in name_at (P.ToInt p) (eform.ToInt p) (eform.rolls-ToInt p) s t (q.1 h i)
  layer (P.Pad q) h t s i = let p : PExpr = (expr_part values number q.0).at i in name_at (P.Pad p) (eform.Pad p) (eform.rolls-Pad p) s t (q.1 h i)

  field_case : (k : ℕ) (p : PExpr) → ExprNamed p → FieldNamed (record { field = k; value = p })
  field_case k p h is i =
      let x : PField = record { field = k; value = p } in
      let named = sym (layer_field Bool Bool Bool (eform_names test) (λ x. x.form) (λ x. x.value) k p) ∙ is in
      ap (λ (z : Part PField). field_names (z.at i)) (layer_field (Opened values number) (Part PExpr) (Part PField) (eform_part values number) (expr_step values number) (field_step values number) k p)
      ∙ layer_field Bool Bool Bool (eform_names test) (λ x. x.form) (λ x. x.value) k ((expr_part values number p).at i)
      ∙ h named i

  expr_named : (p : PExpr) → ExprNamed p
  expr_named = pexpr_law FormNamed ExprNamed FieldNamed
      (λ y h t s i. ap (λ (z : Opened values number). expr_names test ((z t s).at i)) (fold-roll-PEForm (Opened values number) (Part PExpr) (Part PField) (eform_part values number) (expr_step values number) (field_step values number) (below y)) ∙ layer y (sym (fold-roll-PEForm Bool Bool Bool (eform_names test) (λ x. x.form) (λ x. x.value) (below y)) ∙ h) t s i)
      (λ p k h i. ap (λ (z : Part PExpr). expr_names test (z.at i)) (fold-roll-PExpr (Opened values number) (Part PExpr) (Part PField) (eform_part values number) (expr_step values number) (field_step values number) (record { span = p.span; ty = p.ty; form = p.form })) ∙ k (sym (fold-roll-PExpr Bool Bool Bool (eform_names test) (λ x. x.form) (λ x. x.value) (record { span = p.span; ty = p.ty; form = p.form })) ∙ h) p.ty p.span i)
      (λ x k h i. field_case x.field x.value k h i)

  value_named : (v : Option PExpr) → any_names test v ≡ true → (i : ℕ) → any_names test ((value_part values number v).at i) ≡ true
  value_named None h i = refl
  value_named (Some p) h i = expr_named p h i

  -- Statements

  abbrev Named : PStmt → Type 0
  Named p = stmt_names test p ≡ true

  abbrev StmtNamed : PStmt → Type 0
  StmtNamed p = Named p → (i : ℕ) → Named ((stmt_part values number p).at i)

  abbrev act_stmt_names : PForm → Bool
  act_stmt_names = fold-PForm Bool Bool (form_names test) (λ s. s.form)

  abbrev act_stmt_part : PForm → Part PForm
  act_stmt_part = fold-PForm (Part PForm) (Part PStmt) (form_part values number) (stmt_step values number)

  abbrev layer_names : SLayer → Bool
  layer_names x = form_names test (map-PForm PForm PStmt Bool Bool act_stmt_names (stmt_names test) x)

  abbrev layer_part : SLayer → Part PForm
  layer_part x = form_part values number (map-PForm PForm PStmt (Part PForm) (Part PStmt) act_stmt_part (stmt_part values number) x)

  stmt_at : (x : SLayer) (g : PForm) → W.roll-PForm x ≡ g → (s : Span) → layer_names x ≡ true → Named (record { span = s; form = g })
  stmt_at x g is s h = stmt_layer Bool Bool (form_names test) (λ s. s.form) x g is s ∙ h

  by_form : (x : SLayer) (g : PForm) → W.roll-PForm x ≡ g → (s : Span) → (layer_names x ≡ true → (i : ℕ) → Named (record { span = s; form = (layer_part x).at i })) → StmtNamed (record { span = s; form = g })
  by_form x g is s h k i = ap (λ (z : Part PStmt). stmt_names test (z.at i)) (stmt_layer (Part PForm) (Part PStmt) (form_part values number) (stmt_step values number) x g is s) ∙ h (sym (stmt_layer Bool Bool (form_names test) (λ s. s.form) x g is s) ∙ k) i

  turned : (ps : List PStmt) → Every StmtNamed ps → list_all is_yes (map (stmt_names test) ps) ≡ true → (i : ℕ) → Every Named (in_turn (map (stmt_part values number) ps) i)
  turned [] h k i = tt
  turned (p ∷ ps) h k i =
      let b = and_parts (stmt_names test p) (list_all is_yes (map (stmt_names test) ps)) k in
      (h.0 b.0 i, turned ps h.1 b.1 (i + (stmt_part values number p).count))

  all_named : (qs : List PStmt) → Every Named qs → list_all is_yes (map (stmt_names test) qs) ≡ true
  all_named [] h = refl
  all_named (q ∷ qs) h = let one = h.0 in let rest = all_named qs h.1 in λ i. one i && rest i

  block_named : (s : Span) (qs : List PStmt) → Every Named qs → Named (record { span = s; form = pform.Block qs })
  block_named s qs h = stmt_at (S.Block qs) (pform.Block qs) (pform.rolls-Block qs) s (all_named qs h)

  some_named : (s : Span) (ps : List PStmt) → Every StmtNamed ps → list_all is_yes (map (stmt_names test) ps) ≡ true → (i : ℕ) → Named (record { span = s; form = (some_copies values number (map (stmt_part values number) ps)).at i })
  some_named s ps h k i = block_named s (take (value values i) (in_turn (map (stmt_part values number) ps) (i + 1))) (every_take Named (value values i) (in_turn (map (stmt_part values number) ps) (i + 1)) (turned ps h k (i + 1)))

  repeat_named : (b : Bool) (s : Span) (ps : List PStmt) → Every StmtNamed ps → list_all is_yes (map (stmt_names test) ps) ≡ true → (i : ℕ) → Named (record { span = s; form = (if b then some_copies values number (map (stmt_part values number) ps) else all_copies values number (map (stmt_part values number) ps)).at i })
  repeat_named true s ps h k i = some_named s ps h k i
  repeat_named false s ps h k i = block_named s (in_turn (map (stmt_part values number) ps) i) (turned ps h k i)

  cases : StmtCases StmtNamed
  cases = record {
    block = λ s ps h. by_form (S.Block ps) (pform.Block ps) (pform.rolls-Block ps) s (λ k i. block_named s (in_turn (map (stmt_part values number) ps) i) (turned ps (every_of StmtNamed ps h) k i));
    declare = λ s slot x t v. by_form (S.Declare slot x t v) (pform.Declare slot x t v) (pform.rolls-Declare slot x t v) s (λ k i. let b = and_parts (test x) (any_names test v) k in let q : Option PExpr = (value_part values number v).at i in let named = value_named v b.1 i in stmt_at (S.Declare slot x t q) (pform.Declare slot x t q) (pform.rolls-Declare slot x t q) s (λ j. b.0 j && named j));
    assign = λ s p e. by_form (S.Assign p e) (pform.Assign p e) (pform.rolls-Assign p e) s (λ k i. let b = and_parts (expr_names test p) (expr_names test e) k in let n = i + (expr_part values number p).count in let q : PExpr = (expr_part values number p).at i in let w : PExpr = (expr_part values number e).at n in let x = expr_named p b.0 i in let y = expr_named e b.1 n in stmt_at (S.Assign q w) (pform.Assign q w) (pform.rolls-Assign q w) s (λ j. x j && y j));
    calls = λ s p. by_form (S.Call p) (pform.Call p) (pform.rolls-Call p) s (λ k i. let q : PExpr = (expr_part values number p).at i in stmt_at (S.Call q) (pform.Call q) (pform.rolls-Call q) s (expr_named p k i));
    if_only = λ s c a h. by_form (S.If c a None) (pform.If c a None) (pform.rolls-If c a None) s (λ k i. let b = and_parts (expr_names test c) (stmt_names test a && true) k in let d = and_parts (stmt_names test a) true b.1 in let n = i + (expr_part values number c).count in let q : PExpr = (expr_part values number c).at i in let w : PStmt = (stmt_part values number a).at n in let x = expr_named c b.0 i in let y = h d.0 n in stmt_at (S.If q w None) (pform.If q w None) (pform.rolls-If q w None) s (λ j. x j && (y j && true)));
    if_else = λ s c a e h g. by_form (S.If c a (Some e)) (pform.If c a (Some e)) (pform.rolls-If c a (Some e)) s (λ k i. let b = and_parts (expr_names test c) (stmt_names test a && stmt_names test e) k in let d = and_parts (stmt_names test a) (stmt_names test e) b.1 in let n = i + (expr_part values number c).count in let m = n + (stmt_part values number a).count in let q : PExpr = (expr_part values number c).at i in let w : PStmt = (stmt_part values number a).at n in let v : PStmt = (stmt_part values number e).at m in let x = expr_named c b.0 i in let y = h d.0 n in let z = g d.1 m in stmt_at (S.If q w (Some v)) (pform.If q w (Some v)) (pform.rolls-If q w (Some v)) s (λ j. x j && (y j && z j)));
    loop = λ s c a h. by_form (S.While c a) (pform.While c a) (pform.rolls-While c a) s (λ k i. let b = and_parts (expr_names test c) (stmt_names test a) k in let n = i + (expr_part values number c).count in let q : PExpr = (expr_part values number c).at i in let w : PStmt = (stmt_part values number a).at n in let x = expr_named c b.0 i in let y = h b.1 n in stmt_at (S.While q w) (pform.While q w) (pform.rolls-While q w) s (λ j. x j && y j));
    returns = λ s v. by_form (S.Return v) (pform.Return v) (pform.rolls-Return v) s (λ k i. let q : Option PExpr = (value_part values number v).at i in stmt_at (S.Return q) (pform.Return q) (pform.rolls-Return q) s (value_named v k i));
    asserts = λ s p. by_form (S.Assert p) (pform.Assert p) (pform.rolls-Assert p) s (λ k i. let q : PExpr = (expr_part values number p).at i in stmt_at (S.Assert q) (pform.Assert q) (pform.rolls-Assert q) s (expr_named p k i));
    assumes = λ s p. by_form (S.Assume p) (pform.Assume p) (pform.rolls-Assume p) s (λ k i. let q : PExpr = (expr_part values number p).at i in stmt_at (S.Assume q) (pform.Assume q) (pform.rolls-Assume q) s (expr_named p k i));
    minimizes = λ s p. by_form (S.Minimize p) (pform.Minimize p) (pform.rolls-Minimize p) s (λ k i. let q : PExpr = (expr_part values number p).at i in stmt_at (S.Minimize q) (pform.Minimize q) (pform.rolls-Minimize q) s (expr_named p k i));
    repeats = λ s c ps h. by_form (S.Repeat c ps) (pform.Repeat c ps) (pform.rolls-Repeat c ps) s (λ k i. let b = and_parts (expr_names test c) (list_all is_yes (map (stmt_names test) ps)) k in repeat_named (is_hole c.form) s ps (every_of StmtNamed ps h) b.1 i);
    minrepeat = λ s ps h. by_form (S.MinRepeat ps) (pform.MinRepeat ps) (pform.rolls-MinRepeat ps) s (λ k i. some_named s ps (every_of StmtNamed ps h) k i);
    reorder = λ s ps h. by_form (S.Reorder ps) (pform.Reorder ps) (pform.rolls-Reorder ps) s (λ k i.
        let n = i + (length (map (stmt_part values number) ps) - 1) in
        block_named s (arrange values i [] (in_turn (map (stmt_part values number) ps) n)) (every_arranged Named values i [] (in_turn (map (stmt_part values number) ps) n) tt (turned ps (every_of StmtNamed ps h) k n)));
  }

  stmt_named : (p : PStmt) → StmtNamed p
  stmt_named = stmt_ind StmtNamed cases

  -- Functions

  every_named : (ps : List PStmt) → list_all (stmt_names test) ps ≡ true → (i : ℕ) → list_all (stmt_names test) (fill_stmts values number ps i) ≡ true
  every_named [] h i = refl
  every_named (p ∷ ps) h i =
      let b = and_parts (stmt_names test p) (list_all (stmt_names test) ps) h in
      let one = stmt_named p b.0 i in
      let rest = every_named ps b.1 (i + (stmt_part values number p).count) in
      λ j. one j && rest j

  minimize_named : (p : Payment) → stmt_names test (minimize_of p) ≡ true
  minimize_named p =
      let q : PExpr = record { span = p.span; ty = Some (ty.One elem.Int); form = eform.Number p.amount } in
      stmt_at (S.Minimize q) (pform.Minimize q) (pform.rolls-Minimize q) p.span (number_named p.span (Some (ty.One elem.Int)) p.amount)

  paid_named : (ps : List Payment) (qs : List PStmt) → list_all (stmt_names test) qs ≡ true → list_all (stmt_names test) (map minimize_of ps ++ qs) ≡ true
  paid_named [] qs h = h
  paid_named (p ∷ ps) qs h =
      let one = minimize_named p in
      let rest = paid_named ps qs h in
      λ j. one j && rest j

  before_named : (k : FunKind) (ps : List Payment) (qs : List PStmt) → list_all (stmt_names test) qs ≡ true → list_all (stmt_names test) (before_body k (map minimize_of ps) ++ qs) ≡ true
  before_named kind.Harness ps qs h = paid_named ps qs h
  before_named kind.Plain ps qs h = h
  before_named kind.Generator ps qs h = h

  pub funs_named : (ps : List Payment) (bs : List Bool) (fs : List Fun) (i : ℕ) → list_all (fun_names test) fs ≡ true → list_all (fun_names test) (fill_funs values number (map minimize_of ps) bs fs i) ≡ true
  funs_named ps [] fs i h = refl
  funs_named ps (true ∷ bs) [] i h = refl
  funs_named ps (false ∷ bs) [] i h = refl
  funs_named ps (true ∷ bs) (f ∷ fs) i h =
      let a = and_parts (fun_names test f) (list_all (fun_names test) fs) h in
      let b = and_parts (test f.name) (list_all (λ (d : ParamDef). test d.name) f.params && list_all (stmt_names test) f.body) a.0 in
      let c = and_parts (list_all (λ (d : ParamDef). test d.name) f.params) (list_all (stmt_names test) f.body) b.1 in
      let body = before_named f.kind ps (fill_stmts values number f.body i) (every_named f.body c.1 i) in
      let rest = funs_named ps bs fs (i + stmts_count values number f.body) a.1 in
      λ j. (b.0 j && (c.0 j && body j)) && rest j
  funs_named ps (false ∷ bs) (f ∷ fs) i h =
      let a = and_parts (fun_names test f) (list_all (fun_names test) fs) h in
      funs_named ps bs fs (i + stmts_count values number f.body) a.1
