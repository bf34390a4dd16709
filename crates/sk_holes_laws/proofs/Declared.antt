-- Which statements declare, and which are blocks or calls.
use Rattle.std.proofs.Common.{◌≡◌, ℕ, Bool, true, false, List, [], ◌∷◌, map, Option, refl, sym, ap, ◌∙◌}
use Rattle.std.specs.Prelude.{not, ◌||◌}
use Rattle.std.specs.List.{list_all, list_any}
use Rattle.std.proofs.lemmas.Bool.{and_parts}
use Rattle.sk_base.specs.declared.span.Span.{Span}
use Rattle.sk_prog.specs.declared.ty.Ty.{Ty}
use Rattle.sk_prog.specs.declared.expr.PExpr.{PExpr}
use Rattle.sk_prog.specs.declared.expr.PField.{PField}
use Rattle.sk_prog.specs.declared.expr.PEForm.{PEForm}
use Rattle.sk_prog.specs.declared.expr.PEForm.TheVariants as eform
use Rattle.sk_prog.specs.declared.expr.PEForm.TheOpen as P
use Rattle.sk_prog.specs.declared.expr.PEForm.TheViews as V
use Rattle.sk_prog.specs.declared.expr.PEForm.TheFolds.{map-PEForm, fold-PEForm, fold-PField}
use Rattle.sk_prog.specs.declared.stmt.PStmt.{PStmt}
use Rattle.sk_prog.specs.declared.stmt.PForm.{PForm}
use Rattle.sk_prog.specs.declared.stmt.PForm.TheOpen as S
use Rattle.sk_prog.specs.declared.stmt.PForm.TheViews as W
use Rattle.sk_prog.specs.declared.stmt.PForm.TheFolds.{map-PForm, fold-PForm, fold-roll-PForm, fold-roll-PStmt}
use Rattle.sk_types_rules.specs.declared.scope.Variable.{Variable}
use Rattle.sk_types_rules.specs.Types.{Grows, form_after, after, form_declares, is_declaration, form_calls, is_call}
use Rattle.sk_types_laws.proofs.Ats.{pexpr_law}
use Rattle.sk_types_laws.proofs.Scopes.{pstmt_law, after_form, after_form_is, after_is}
use Rattle.sk_model.specs.Parts.{Part, in_turn}
use Rattle.sk_model.specs.Fill.{Opened, renamed, eform_part, expr_step, field_step, expr_part}
use Rattle.sk_model.proofs.Layers.{expr_layer}
use Rattle.sk_holes_laws.specs.Keeping.{form_block, is_block}
use Rattle.sk_holes_laws.specs.Filling.{Every}

abbrev pub SLayer : Type 0
SLayer = S.PForm-F PForm PStmt

abbrev pub act_declares : PForm → Bool
act_declares = fold-PForm Bool Bool form_declares (λ s. s.form)

abbrev pub act_block : PForm → Bool
act_block = fold-PForm Bool Bool form_block (λ s. s.form)

abbrev pub declares_of : SLayer → S.PForm-F Bool Bool
declares_of l = map-PForm PForm PStmt Bool Bool act_declares is_declaration l

abbrev pub blocks_of : SLayer → S.PForm-F Bool Bool
blocks_of l = map-PForm PForm PStmt Bool Bool act_block is_block l

abbrev pub grows_of : SLayer → S.PForm-F Grows Grows
grows_of l = map-PForm PForm PStmt Grows Grows after_form after l

pub after_at : (s : Span) (f : PForm) (l : SLayer) → W.roll-PForm l ≡ f → after (record { span = s; form = f }) ≡ form_after (grows_of l)
after_at s f l is = after_is (record { span = s; form = f }) ∙ ap after_form (sym is) ∙ after_form_is l

pub declares_at : (s : Span) (f : PForm) (l : SLayer) → W.roll-PForm l ≡ f → is_declaration (record { span = s; form = f }) ≡ form_declares (declares_of l)
declares_at s f l is = fold-roll-PStmt Bool Bool form_declares (λ s. s.form) (record { span = s; form = f }) ∙ ap act_declares (sym is) ∙ fold-roll-PForm Bool Bool form_declares (λ s. s.form) l

pub block_at : (s : Span) (f : PForm) (l : SLayer) → W.roll-PForm l ≡ f → is_block (record { span = s; form = f }) ≡ form_block (blocks_of l)
block_at s f l is = fold-roll-PStmt Bool Bool form_block (λ s. s.form) (record { span = s; form = f }) ∙ ap act_block (sym is) ∙ fold-roll-PForm Bool Bool form_block (λ s. s.form) l

-- What is no declaration leaves the scope.

abbrev FormLeaves : PForm → Type 0
FormLeaves f = act_declares f ≡ false → (scope : List Variable) → after_form f scope ≡ scope

abbrev Leaves : PStmt → Type 0
Leaves p = is_declaration p ≡ false → (scope : List Variable) → after p scope ≡ scope

abbrev under : S.PForm-F ((f : PForm) × FormLeaves f) ((p : PStmt) × Leaves p) → SLayer
under y = map-PForm ((f : PForm) × FormLeaves f) ((p : PStmt) × Leaves p) PForm PStmt (λ q. q.0) (λ q. q.0) y

leaves_layer : (y : S.PForm-F ((f : PForm) × FormLeaves f) ((p : PStmt) × Leaves p)) → form_declares (declares_of (under y)) ≡ false → (scope : List Variable) → form_after (grows_of (under y)) scope ≡ scope
leaves_layer (S.Declare slot x t value) h scope = cc
leaves_layer _ h scope = refl

pub leaves : (p : PStmt) → Leaves p
leaves = pstmt_law FormLeaves Leaves
    (λ y h scope. ap (λ (g : Grows). g scope) (after_form_is (under y)) ∙ leaves_layer y (sym (fold-roll-PForm Bool Bool form_declares (λ s. s.form) (under y)) ∙ h) scope)
    (λ p k h scope. ap (λ (g : Grows). g scope) (after_is p) ∙ k (sym (fold-roll-PStmt Bool Bool form_declares (λ s. s.form) (record { span = p.span; form = p.form })) ∙ h) scope)

-- A block is no declaration.

abbrev FormOther : PForm → Type 0
FormOther f = act_block f ≡ true → act_declares f ≡ false

abbrev Other : PStmt → Type 0
Other p = is_block p ≡ true → is_declaration p ≡ false

abbrev within : S.PForm-F ((f : PForm) × FormOther f) ((p : PStmt) × Other p) → SLayer
within y = map-PForm ((f : PForm) × FormOther f) ((p : PStmt) × Other p) PForm PStmt (λ q. q.0) (λ q. q.0) y

other_layer : (y : S.PForm-F ((f : PForm) × FormOther f) ((p : PStmt) × Other p)) → form_block (blocks_of (within y)) ≡ true → form_declares (declares_of (within y)) ≡ false
other_layer (S.Declare slot x t value) h = cc
other_layer _ h = refl

pub no_declaration : (p : PStmt) → Other p
no_declaration = pstmt_law FormOther Other
    (λ y h. fold-roll-PForm Bool Bool form_declares (λ s. s.form) (within y) ∙ other_layer y (sym (fold-roll-PForm Bool Bool form_block (λ s. s.form) (within y)) ∙ h))
    (λ p k h. fold-roll-PStmt Bool Bool form_declares (λ s. s.form) (record { span = p.span; form = p.form }) ∙ k (sym (fold-roll-PStmt Bool Bool form_block (λ s. s.form) (record { span = p.span; form = p.form })) ∙ h))

abbrev pub DeclaresNot : PStmt → Type 0
DeclaresNot p = is_declaration p ≡ false

pub blocks_declare_not : (ps : List PStmt) → list_all is_block ps ≡ true → Every DeclaresNot ps
blocks_declare_not [] h = tt
blocks_declare_not (p ∷ ps) h = let b = and_parts (is_block p) (list_all is_block ps) h in (no_declaration p b.0, blocks_declare_not ps b.1)

neither : (a b : Bool) → not (a || b) ≡ true → (a ≡ false) × (not b ≡ true)
neither true b h = cc
neither false b h = (refl, h)

pub none_declares : (ps : List PStmt) → not (list_any is_declaration ps) ≡ true → Every DeclaresNot ps
none_declares [] h = tt
none_declares (p ∷ ps) h = let b = neither (is_declaration p) (list_any is_declaration ps) h in (b.0, none_declares ps b.1)

-- A call that is filled is a call.

abbrev pub act_call : PEForm → Bool
act_call = fold-PEForm Bool Bool (Unit {0}) form_calls (λ p. p.form) (λ p. tt)

abbrev pub field_call : PField → Unit {0}
field_call = fold-PField Bool Bool (Unit {0}) form_calls (λ p. p.form) (λ p. tt)

module _ (values : List ℕ) (number : ℕ → ℕ) where
  abbrev form_part_of : PEForm → Opened values number
  form_part_of = fold-PEForm (Opened values number) (Part PExpr) (Part PField) (eform_part values number) (expr_step values number) (field_step values number)

  abbrev field_part_of : PField → Part PField
  field_part_of = fold-PField (Opened values number) (Part PExpr) (Part PField) (eform_part values number) (expr_step values number) (field_step values number)

  abbrev FormStill : PEForm → Type 0
  FormStill f = (s : Span) (t : Option Ty) (i : ℕ) → is_call (record { span = s; ty = t; form = f }) ≡ true → is_call ((expr_part values number (record { span = s; ty = t; form = f })).at i) ≡ true

  abbrev Still : PExpr → Type 0
  Still p = (i : ℕ) → is_call p ≡ true → is_call ((expr_part values number p).at i) ≡ true

  abbrev Above : Type 0
  Above = P.PEForm-F ((f : PEForm) × FormStill f) ((p : PExpr) × Still p) (PField × Unit {0})

  abbrev below : Above → P.PEForm-F PEForm PExpr PField
  below y = map-PEForm ((f : PEForm) × FormStill f) ((p : PExpr) × Still p) (PField × Unit {0}) PEForm PExpr PField (λ q. q.0) (λ q. q.0) (λ q. q.0) y

  abbrev calls_of : P.PEForm-F PEForm PExpr PField → P.PEForm-F Bool Bool (Unit {0})
  calls_of l = map-PEForm PEForm PExpr PField Bool Bool (Unit {0}) act_call is_call field_call l

  abbrev filled_of : P.PEForm-F PEForm PExpr PField → P.PEForm-F (Opened values number) (Part PExpr) (Part PField)
  filled_of l = map-PEForm PEForm PExpr PField (Opened values number) (Part PExpr) (Part PField) form_part_of (expr_part values number) field_part_of l

  call_is : (l : P.PEForm-F PEForm PExpr PField) (f : PEForm) → V.roll-PEForm l ≡ f → (s : Span) (t : Option Ty) → is_call (record { span = s; ty = t; form = f }) ≡ form_calls (calls_of l)
  call_is l f is s t = expr_layer Bool Bool (Unit {0}) form_calls (λ p. p.form) (λ p. tt) l f is s t

  part_is : (l : P.PEForm-F PEForm PExpr PField) (f : PEForm) → V.roll-PEForm l ≡ f → (s : Span) (t : Option Ty) → expr_part values number (record { span = s; ty = t; form = f }) ≡ eform_part values number (filled_of l) t s
  part_is l f is s t = expr_layer (Opened values number) (Part PExpr) (Part PField) (eform_part values number) (expr_step values number) (field_step values number) l f is s t

  still_layer : (y : Above) (s : Span) (t : Option Ty) (i : ℕ) → form_calls (calls_of (below y)) ≡ true → is_call ((eform_part values number (filled_of (below y)) t s).at i) ≡ true
  still_layer (P.Call f qs) s t i h =
      let args : List PExpr = in_turn (map (expr_part values number) (map (λ q. q.0) qs)) i in
      call_is (P.Call (renamed values number f) args) (eform.Call (renamed values number f) args) (V.rolls-Call (renamed values number f) args) s t
  still_layer (P.Number n) s t i h = cc
  still_layer P.True s t i h = cc
  still_layer P.False s t i h = cc
  still_layer P.Null s t i h = cc
  still_layer (P.Var slot x) s t i h = cc
  still_layer (P.Const c) s t i h = cc
  still_layer (P.Hole n) s t i h = cc
  still_layer (P.Pattern qs) s t i h = cc
  still_layer (P.Paren q) s t i h = cc
  still_layer (P.New k qs) s t i h = cc
  still_layer (P.Braces qs) s t i h = cc
  still_layer (P.Member q k j) s t i h = cc
  still_layer (P.Index q j) s t i h = cc
  still_layer (P.Slice q j m) s t i h = cc
  still_layer (P.Unary o q) s t i h = cc
  still_layer (P.Binary o q j) s t i h = cc
  still_layer (P.Cond z q j) s t i h = cc
  still_layer (P.ToInt q) s t i h = cc
  still_layer (P.Pad q) s t i h = cc

  pub still_call : (p : PExpr) → Still p
  still_call = pexpr_law FormStill Still (λ q. Unit {0})
      (λ y s t i h. ap (λ (z : Part PExpr). is_call (z.at i)) (part_is (below y) (V.roll-PEForm (below y)) refl s t) ∙ still_layer y s t i (sym (call_is (below y) (V.roll-PEForm (below y)) refl s t) ∙ h))
      (λ p k i h. k p.span p.ty i h)
      (λ q h. tt)
