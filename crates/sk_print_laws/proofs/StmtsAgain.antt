-- A statement that is printed means the same statement again, spans aside, and is plain.
use Rattle.std.proofs.Common.{◌≡◌, ℕ, suc, Bool, true, false, List, [], ◌∷◌, ◌++◌, map, length, Option, Some, None, refl, sym, ap, ◌∙◌, subst, inl, inr, append-nil}
use Rattle.std.specs.Prelude.{◌&&◌, ◌||◌, not, max, nat_le, IsTrue}
use Rattle.std.specs.List.{list_all, list_any, flat_map}
use Rattle.std.proofs.lemmas.List.{map-append}
use Rattle.sk_base.specs.declared.span.Span.{Span}
use Rattle.sk_base.specs.declared.bounds.Bounds.{Bounds}
use Rattle.sk_tree.specs.declared.expr.Expr.{Expr}
use Rattle.sk_tree.specs.declared.stmt.Stmt.{Stmt}
use Rattle.sk_tree.specs.declared.stmt.Form.{Form}
use Rattle.sk_tree.specs.declared.stmt.Form.TheVariants as form
use Rattle.sk_tree.specs.declared.stmt.Form.TheOpen as F
use Rattle.sk_tree.specs.declared.stmt.Form.TheViews.{roll-Form}
use Rattle.sk_tree.specs.declared.stmt.Form.TheFolds.{map-Form, fold-Form, fold-roll-Form, fold-roll-Stmt}
use Rattle.sk_tree.specs.declared.stmt.Declared.{Declared}
use Rattle.sk_tree.specs.declared.item.TyTree.{TyTree}
use Rattle.sk_prog.specs.declared.ty.Ty.{Ty}
use Rattle.sk_prog.specs.declared.expr.PExpr.{PExpr}
use Rattle.sk_prog.specs.declared.expr.PField.{PField}
use Rattle.sk_prog.specs.declared.expr.PEForm.{PEForm}
use Rattle.sk_prog.specs.declared.expr.PEForm.TheOpen as P
use Rattle.sk_prog.specs.declared.expr.PEForm.TheViews.{roll-PEForm}
use Rattle.sk_prog.specs.declared.expr.PEForm.TheFolds.{map-PEForm, fold-PEForm, fold-PField, fold-roll-PEForm, fold-roll-PExpr}
use Rattle.sk_prog.specs.declared.stmt.PStmt.{PStmt}
use Rattle.sk_prog.specs.declared.stmt.PForm.{PForm}
use Rattle.sk_prog.specs.declared.stmt.PForm.TheOpen as S
use Rattle.sk_prog.specs.declared.stmt.PForm.TheViews.{roll-PForm}
use Rattle.sk_prog.specs.declared.stmt.PForm.TheFolds.{map-PForm, fold-PForm, fold-roll-PForm, fold-roll-PStmt}
use Rattle.sk_prog.specs.declared.prog.Prog.{Prog}
use Rattle.sk_prog.specs.Spanless.{no_span, without_span, field_again, spanless_form, stmt_without_span}
use Rattle.sk_prog.specs.Spanless as W
use Rattle.sk_types_rules.specs.declared.scope.Variable.{Variable}
use Rattle.sk_types_rules.specs.Erase.{nowhere, erase_ty}
use Rattle.sk_types_rules.specs.Rules.{int, bit}
use Rattle.sk_types_rules.specs.Scope.{Known, Context, lookup, is_taken, top_of}
use Rattle.sk_types_rules.specs.Plain.{stmt_at, Plainly, all_made, form_plain, plainly, plain_stmt, form_steps, stmt_steps, is_yes}
use Rattle.sk_types_rules.specs.Types.{Means, IsAt, AnyAt, Grows, form_after, after, Room, inside, most_of, any_most, form_room, room, FormRule, StmtRule, BlockMeans, AnyMeans, OneMeans, form_declares, is_declaration, may_reorder, form_calls, is_call, MeansDeclare, CountMeans, ReturnMeans, StmtMeans, form_free, stmt_free}
use Rattle.sk_types_rules.proofs.Layers.{ActMeans, act_rule, act_means_are, stmt_means_is}
use Rattle.sk_types_laws.specs.Envs.{AreDistinct}
use Rattle.sk_types_laws.proofs.Ats.{both_true, pexpr_law}
use Rattle.sk_types_laws.proofs.Scopes.{pstmt_law, after_form, after_form_is, after_is}
use Rattle.sk_print_laws.specs.Printed.{printed_expr, printed_any, Shown, all_shown, of_form, block_of, form_printed, stmt_shown}
use Rattle.sk_print_laws.specs.SpanlessTree as T
use Rattle.sk_print_laws.proofs.Respelt.{Alike}
use Rattle.sk_print_laws.proofs.MeansAgain.{expr_again}
use Rattle.sk_print_laws.proofs.FormsBack.{Acts, AlikeStmt, spanless_layer, rolled_same, block_back, reorder_back, declare_back, assign_back, call_back, if_back, else_back, while_back, return_back, assert_back, assume_back, minimize_back, repeat_back, minrepeat_back}
use Rattle.sk_print_laws.proofs.TypesAgain.{type_again}
use Rattle.sk_print_laws.proofs.TargetsAgain.{pform_off, target_again}
use Rattle.sk_print_laws.proofs.CountsAgain.{count_again}
use Rattle.sk_print_laws.proofs.Shaped.{Shape, bodied, any_bodied, shape_of, act_shape, shapes, stmt_shaped, shape_is, shape_in, stmts_shaped, is_block}

-- What a statement of a program is, by its form

abbrev act_room : PForm → Room
act_room = fold-PForm Room Room form_room (λ s. s.form)

abbrev act_declares : PForm → Bool
act_declares = fold-PForm Bool Bool form_declares (λ s. s.form)

abbrev act_free : PForm → Bool
act_free = fold-PForm Bool Bool form_free (λ s. s.form)

abbrev act_off : PForm → PForm
act_off = fold-PForm PForm PStmt spanless_form stmt_without_span

abbrev PActs : Type 0
PActs = S.PForm-F PForm PStmt

-- two layers that differ in spans alone
record AlikeActs (l l0 : PActs) : Type 0 where
  after : form_after (map-PForm PForm PStmt Grows Grows after_form after l) ≡ form_after (map-PForm PForm PStmt Grows Grows after_form after l0)
  room : form_room (map-PForm PForm PStmt Room Room act_room room l) ≡ form_room (map-PForm PForm PStmt Room Room act_room room l0)
  declares : form_declares (map-PForm PForm PStmt Bool Bool act_declares is_declaration l) ≡ form_declares (map-PForm PForm PStmt Bool Bool act_declares is_declaration l0)
  free : form_free (map-PForm PForm PStmt Bool Bool act_free stmt_free l) ≡ form_free (map-PForm PForm PStmt Bool Bool act_free stmt_free l0)
  same : spanless_form (map-PForm PForm PStmt PForm PStmt act_off W.spanless_stmt l) ≡ spanless_form (map-PForm PForm PStmt PForm PStmt act_off W.spanless_stmt l0)

-- A call stays a call without its spans.

abbrev calls : PEForm → Bool
calls = fold-PEForm Bool Bool (Unit {0}) form_calls (λ p. p.form) (λ p. tt)

abbrev no_call : PField → Unit {0}
no_call = fold-PField Bool Bool (Unit {0}) form_calls (λ p. p.form) (λ p. tt)

abbrev pfield_off : PField → PField
pfield_off = fold-PField PEForm PExpr PField roll-PEForm without_span field_again

call_layer : (l : P.PEForm-F PEForm PExpr PField) → form_calls (map-PEForm PEForm PExpr PField Bool Bool (Unit {0}) calls is_call no_call (map-PEForm PEForm PExpr PField PEForm PExpr PField pform_off W.spanless_expr pfield_off l)) ≡ form_calls (map-PEForm PEForm PExpr PField Bool Bool (Unit {0}) calls is_call no_call l)
call_layer (P.Call g ps) = refl
call_layer _ = refl

call_form : (l : P.PEForm-F PEForm PExpr PField) → calls (pform_off (roll-PEForm l)) ≡ calls (roll-PEForm l)
call_form l =
    ap calls (fold-roll-PEForm PEForm PExpr PField roll-PEForm without_span field_again l)
    ∙ fold-roll-PEForm Bool Bool (Unit {0}) form_calls (λ p. p.form) (λ p. tt) (map-PEForm PEForm PExpr PField PEForm PExpr PField pform_off W.spanless_expr pfield_off l)
    ∙ call_layer l
    ∙ sym (fold-roll-PEForm Bool Bool (Unit {0}) form_calls (λ p. p.form) (λ p. tt) l)

call_unseen : (p : PExpr) → is_call (W.spanless_expr p) ≡ is_call p
call_unseen = pexpr_law (λ f. calls (pform_off f) ≡ calls f) (λ p. is_call (W.spanless_expr p) ≡ is_call p) (λ q. Unit {0})
    (λ y. call_form (map-PEForm ((f : PEForm) × (calls (pform_off f) ≡ calls f)) ((p : PExpr) × (is_call (W.spanless_expr p) ≡ is_call p)) (PField × Unit {0}) PEForm PExpr PField (λ q. q.0) (λ q. q.0) (λ q. q.0) y))
    (λ p h.
    ap is_call (fold-roll-PExpr PEForm PExpr PField roll-PEForm without_span field_again (record { span = p.span; ty = p.ty; form = p.form }))
    ∙ fold-roll-PExpr Bool Bool (Unit {0}) form_calls (λ p. p.form) (λ p. tt) (record { span = no_span; ty = p.ty; form = pform_off p.form })
    ∙ h
    ∙ sym (fold-roll-PExpr Bool Bool (Unit {0}) form_calls (λ p. p.form) (λ p. tt) (record { span = p.span; ty = p.ty; form = p.form })))
    (λ q h. tt)

call_same : (p q : PExpr) → W.spanless_expr p ≡ W.spanless_expr q → is_call q ≡ true → is_call p ≡ true
call_same p q h is = sym (call_unseen p) ∙ ap is_call h ∙ call_unseen q ∙ is

-- Which statements may be put in any order

lengths : (ps qs : List PStmt) → map is_declaration ps ≡ map is_declaration qs → length (map (λ (p : PStmt). p) ps) ≡ length (map (λ (p : PStmt). p) qs)
lengths [] [] h = refl
lengths [] (q ∷ qs) h = cc
lengths (p ∷ ps) [] h = cc
lengths (p ∷ ps) (q ∷ qs) h = let rest : map is_declaration ps ≡ map is_declaration qs = cc in ap suc (lengths ps qs rest)

anys : (ps qs : List PStmt) → map is_declaration ps ≡ map is_declaration qs → list_any is_declaration (map (λ (p : PStmt). p) ps) ≡ list_any is_declaration (map (λ (p : PStmt). p) qs)
anys [] [] h = refl
anys [] (q ∷ qs) h = cc
anys (p ∷ ps) [] h = cc
anys (p ∷ ps) (q ∷ qs) h =
    let one : is_declaration p ≡ is_declaration q = cc in
    let rest : map is_declaration ps ≡ map is_declaration qs = cc in
    λ i. one i || anys ps qs rest i

may_again : (ps qs : List PStmt) → map is_declaration ps ≡ map is_declaration qs → may_reorder (map (λ (p : PStmt). p) ps) ≡ may_reorder (map (λ (p : PStmt). p) qs)
may_again ps qs h = λ i. nat_le (lengths ps qs h i) 6 && not (anys ps qs h i)

-- Blocks

block_anywhere : (s r : Span) (es : List Stmt) → T.spanless_stmt (block_of s es) ≡ T.spanless_stmt (block_of r es)
block_anywhere s r es =
    ap (λ f. T.spanless_stmt (of_form s f)) (sym (form.rolls-Block es))
    ∙ spanless_layer s (F.Block es)
    ∙ sym (spanless_layer r (F.Block es))
    ∙ ap (λ f. T.spanless_stmt (of_form r f)) (form.rolls-Block es)

one_same : (x y : Stmt) → x ∷ [] ≡ y ∷ [] → x ≡ y
one_same x y h = cc

-- the parts of lists that differ in spans alone

front_like : (x d : Stmt) (xs ds : List Stmt) → map T.spanless_stmt (d ∷ ds) ≡ map T.spanless_stmt (x ∷ xs) → AlikeStmt x d
front_like x d xs ds h = cc

back_like : (x d : Stmt) (xs ds : List Stmt) → map T.spanless_stmt (d ∷ ds) ≡ map T.spanless_stmt (x ∷ xs) → map T.spanless_stmt ds ≡ map T.spanless_stmt xs
back_like x d xs ds h = cc

none_left : (x : Stmt) (xs : List Stmt) → map T.spanless_stmt [] ≡ map T.spanless_stmt (x ∷ xs) → ⊥
none_left x xs h = cc

abbrev One : List Stmt → Type 0
One es = (x : Stmt) × (es ≡ x ∷ [])

-- Plain forms

abbrev form_plainly : Form → Span → Plainly
form_plainly = fold-Form (Span → Plainly) Plainly form_plain (λ s. s.form s.span)

abbrev plains : Acts → F.Form-F (Span → Plainly) Plainly
plains l = map-Form Form Stmt (Span → Plainly) Plainly form_plainly plainly l

plain_at : (d : Stmt) (k : Acts) → d.form ≡ roll-Form k → plainly d ≡ form_plain (plains k) d.span
plain_at d k dk =
    fold-roll-Stmt (Span → Plainly) Plainly form_plain (λ s. s.form s.span) (record { span = d.span; form = d.form })
    ∙ ap (λ f. form_plainly f d.span) dk
    ∙ (λ i. fold-roll-Form (Span → Plainly) Plainly form_plain (λ s. s.form s.span) k i d.span)

abbrev act_steps : Form → Bool
act_steps = fold-Form Bool Bool form_steps (λ s. s.form)

abbrev steps : Acts → F.Form-F Bool Bool
steps k = map-Form Form Stmt Bool Bool act_steps stmt_steps k

steps_at : (d : Stmt) (k : Acts) → d.form ≡ roll-Form k → stmt_steps d ≡ form_steps (steps k)
steps_at d k dk =
    fold-roll-Stmt Bool Bool form_steps (λ s. s.form) (record { span = d.span; form = d.form })
    ∙ ap act_steps dk
    ∙ fold-roll-Form Bool Bool form_steps (λ s. s.form) k

module _ (prog : Prog) (bounds : Bounds) (known again : List Known) (result : Option Ty) (good : AreDistinct (top_of prog)) where
  abbrev first : Context
  first = record { bounds = bounds; top = top_of prog; known = known }

  abbrev second : Context
  second = record { bounds = bounds; top = top_of prog; known = again }

  abbrev form_shown : PForm → Span → Shown
  form_shown = fold-PForm (Span → Shown) Shown (form_printed prog) (λ p. p.form p.span)

  abbrev shown_of : PActs → S.PForm-F (Span → Shown) Shown
  shown_of = map-PForm PForm PStmt (Span → Shown) Shown form_shown (stmt_shown prog)

  shown_is : (p : PStmt) → stmt_shown prog p ≡ form_shown p.form p.span
  shown_is p = fold-roll-PStmt (Span → Shown) Shown (form_printed prog) (λ p. p.form p.span) (record { span = p.span; form = p.form })

  form_shown_is : (l : PActs) → form_shown (roll-PForm l) ≡ form_printed prog (shown_of l)
  form_shown_is l = fold-roll-PForm (Span → Shown) Shown (form_printed prog) (λ p. p.form p.span) l

  -- One statement is printed for each in a block.

  one_layer : (l : PActs) (here : Span) → One (form_printed prog (shown_of l) here false)
  one_layer (S.Block ss) here = (_, refl)
  one_layer (S.Declare slot x t v) here = (_, refl)
  one_layer (S.Assign p q) here = (_, refl)
  one_layer (S.Call p) here = (_, refl)
  one_layer (S.If p a b) here = (_, refl)
  one_layer (S.While p a) here = (_, refl)
  one_layer (S.Return v) here = (_, refl)
  one_layer (S.Assert p) here = (_, refl)
  one_layer (S.Assume p) here = (_, refl)
  one_layer (S.Minimize p) here = (_, refl)
  one_layer (S.Repeat p ss) here = (_, refl)
  one_layer (S.MinRepeat ss) here = (_, refl)
  one_layer (S.Reorder ss) here = (_, refl)

  one_shown : (p : PStmt) → One (stmt_shown prog p false)
  one_shown = pstmt_law (λ f. (here : Span) → One (form_shown f here false)) (λ p. One (stmt_shown prog p false))
      (λ y here.
      let l = map-PForm ((f : PForm) × ((here : Span) → One (form_shown f here false))) ((p : PStmt) × One (stmt_shown prog p false)) PForm PStmt (λ q. q.0) (λ q. q.0) y in
      subst (λ (x : Span → Shown). One (x here false)) (sym (form_shown_is l)) (one_layer l here))
      (λ p h. subst (λ (x : Shown). One (x false)) (sym (shown_is p)) (h p.span))

  -- A block is printed as a body with its braces round it.

  no_block : (f : Form) (l : Acts) (es : List Stmt) → f ≡ roll-Form l → (l ≡ F.Block es → ⊥) → f ≡ form.Block es → ⊥
  no_block f l es is other h = other (rolled_same l (F.Block es) (sym is ∙ h ∙ sym (form.rolls-Block es)))

  abbrev AsBlock : (Bool → List Stmt) → Type 0
  AsBlock shown = (here : Span) → map T.spanless_stmt (block_of here (shown true) ∷ []) ≡ map T.spanless_stmt (shown false)

  abbrev ActBlock : PForm → Type 0
  ActBlock a = (from : ℕ) (s : List Variable) (f : Form) (es : List Stmt) → ActMeans first result a from s f → f ≡ form.Block es → (there : Span) → AsBlock (form_shown a there)

  abbrev StmtBlock : PStmt → Type 0
  StmtBlock p = (from : ℕ) (s : List Variable) (y : Stmt) (es : List Stmt) → StmtMeans first result p from s y → y.form ≡ form.Block es → AsBlock (stmt_shown prog p)

  block_layer : (l : PActs) (from : ℕ) (s : List Variable) (f : Form) (es : List Stmt) → act_rule first result l from s f → f ≡ form.Block es → (there : Span) → AsBlock (form_printed prog (shown_of l) there)
  block_layer (S.Block ss) from s f es r is there here = ap (λ x. x ∷ []) (block_anywhere here there (all_shown false (map (stmt_shown prog) ss)))
  block_layer (S.Declare slot x t v) from s f es r is there here = absurd (no_block f (F.Declare r.0 (r.1 ∷ [])) es (r.2 ∙ sym (form.rolls-Declare r.0 (r.1 ∷ []))) (λ k. cc) is)
  block_layer (S.Assign p q) from s f es r is there here = absurd (no_block f (F.Assign r.0 r.1) es (r.2 ∙ sym (form.rolls-Assign r.0 r.1)) (λ k. cc) is)
  block_layer (S.Call p) from s f es r is there here = absurd (no_block f (F.Call r.0) es (r.1 ∙ sym (form.rolls-Call r.0)) (λ k. cc) is)
  block_layer (S.If p a b) from s f es r is there here = absurd (no_block f (F.If r.0 r.1 r.2) es (r.3 ∙ sym (form.rolls-If r.0 r.1 r.2)) (λ k. cc) is)
  block_layer (S.While p a) from s f es r is there here = absurd (no_block f (F.While r.0 r.1) es (r.2 ∙ sym (form.rolls-While r.0 r.1)) (λ k. cc) is)
  block_layer (S.Return v) from s f es r is there here = absurd (no_block f (F.Return r.0) es (r.1 ∙ sym (form.rolls-Return r.0)) (λ k. cc) is)
  block_layer (S.Assert p) from s f es r is there here = absurd (no_block f (F.Assert r.0) es (r.1 ∙ sym (form.rolls-Assert r.0)) (λ k. cc) is)
  block_layer (S.Assume p) from s f es r is there here = absurd (no_block f (F.Assume r.0) es (r.1 ∙ sym (form.rolls-Assume r.0)) (λ k. cc) is)
  block_layer (S.Minimize p) from s f es r is there here = absurd (no_block f (F.Minimize r.0) es (r.1 ∙ sym (form.rolls-Minimize r.0)) (λ k. cc) is)
  block_layer (S.Repeat p ss) from s f es r is there here = absurd (no_block f (F.Repeat r.0 r.1) es (r.2 ∙ sym (form.rolls-Repeat r.0 r.1)) (λ k. cc) is)
  block_layer (S.MinRepeat ss) from s f es r is there here = absurd (no_block f (F.MinRepeat r.0) es (r.1 ∙ sym (form.rolls-MinRepeat r.0)) (λ k. cc) is)
  block_layer (S.Reorder ss) from s f es r is there here = absurd (no_block f (F.Reorder r.0) es (r.1 ∙ sym (form.rolls-Reorder r.0)) (λ k. cc) is)

  as_block : (p : PStmt) → StmtBlock p
  as_block = pstmt_law ActBlock StmtBlock
      (λ y from s f es m is there.
      let l = map-PForm ((a : PForm) × ActBlock a) ((p : PStmt) × StmtBlock p) PForm PStmt (λ q. q.0) (λ q. q.0) y in
      subst (λ (x : Span → Shown). AsBlock (x there)) (sym (form_shown_is l)) (block_layer l from s f es (subst (λ (R : FormRule). R from s f) (act_means_are first result l) m) is there))
      (λ p h from s y es m is.
      let r = subst (λ (R : StmtRule). R from s y) (stmt_means_is first result p) m in
      subst AsBlock (sym (shown_is p)) (h from s y.form es r.1 is p.span))

  -- What is found for a statement p of a program, and a statement d like the printed one.

  pub record Again (p : PStmt) (from : ℕ) (s : List Variable) (d : Stmt) : Type 0 where
    pub made : PStmt
    pub means : StmtMeans second result made from s d
    pub after : after made ≡ after p
    pub room : room made ≡ room p
    pub declares : is_declaration made ≡ is_declaration p
    pub free : stmt_free made ≡ stmt_free p
    pub same : W.spanless_stmt made ≡ W.spanless_stmt p
    pub plain : plain_stmt d ≡ d ∷ []
    pub body : (es : List Stmt) → d.form ≡ form.Block es → (plainly d).body ≡ d
    pub steps : stmt_steps d ≡ true

  record ActIs (a : PForm) (from : ℕ) (s : List Variable) (d : Stmt) : Type 0 where
    made : PForm
    means : ActMeans second result made from s d.form
    after : after_form made ≡ after_form a
    room : act_room made ≡ act_room a
    declares : act_declares made ≡ act_declares a
    free : act_free made ≡ act_free a
    same : act_off made ≡ act_off a
    plain : plain_stmt d ≡ d ∷ []
    body : (es : List Stmt) → d.form ≡ form.Block es → (plainly d).body ≡ d
    steps : stmt_steps d ≡ true

  -- what is found, where d is built of the layer k
  built_of : (l l0 : PActs) (from : ℕ) (s : List Variable) (d : Stmt) (k : Acts) → d.form ≡ roll-Form k → act_rule second result l from s d.form → AlikeActs l l0 → (form_plain (plains k) d.span).made ≡ d ∷ [] → ((es : List Stmt) → d.form ≡ form.Block es → (plainly d).body ≡ d) → form_steps (steps k) ≡ true → ActIs (roll-PForm l0) from s d
  built_of l l0 from s d k dk r h only body step = record {
    made = roll-PForm l;
    means = subst (λ (R : FormRule). R from s d.form) (sym (act_means_are second result l)) r;
    after = after_form_is l ∙ h.after ∙ sym (after_form_is l0);
    room = fold-roll-PForm Room Room form_room (λ s. s.form) l ∙ h.room ∙ sym (fold-roll-PForm Room Room form_room (λ s. s.form) l0);
    declares = fold-roll-PForm Bool Bool form_declares (λ s. s.form) l ∙ h.declares ∙ sym (fold-roll-PForm Bool Bool form_declares (λ s. s.form) l0);
    free = fold-roll-PForm Bool Bool form_free (λ s. s.form) l ∙ h.free ∙ sym (fold-roll-PForm Bool Bool form_free (λ s. s.form) l0);
    same = fold-roll-PForm PForm PStmt spanless_form stmt_without_span l ∙ h.same ∙ sym (fold-roll-PForm PForm PStmt spanless_form stmt_without_span l0);
    plain = ap (λ (p : Plainly). p.made) (plain_at d k dk) ∙ only;
    body = body;
    steps = steps_at d k dk ∙ step;
  }

  -- where that layer is no block
  remade : (l l0 : PActs) (from : ℕ) (s : List Variable) (d : Stmt) (k : Acts) → d.form ≡ roll-Form k → act_rule second result l from s d.form → AlikeActs l l0 → (form_plain (plains k) d.span).made ≡ d ∷ [] → ((es : List Stmt) → k ≡ F.Block es → ⊥) → form_steps (steps k) ≡ true → ActIs (roll-PForm l0) from s d
  remade l l0 from s d k dk r h only other step = built_of l l0 from s d k dk r h only (λ es is. absurd (no_block d.form k es dk (other es) is)) step

  -- the only statement that d becomes, where it has this form
  itself : (d : Stmt) (f : Form) → d.form ≡ f → stmt_at d.span f ∷ [] ≡ d ∷ []
  itself d f is = ap (λ g. stmt_at d.span g ∷ []) (sym is)

  abbrev ActAgain : PForm → Type 0
  ActAgain a = (from : ℕ) (s : List Variable) (f : Form) → ActMeans first result a from s f → (act_shape f).fine ≡ true → (here : Span) (x : Stmt) → form_shown a here false ≡ x ∷ [] → (d : Stmt) → AlikeStmt x d → ActIs a from s d

  abbrev StmtAgain : PStmt → Type 0
  StmtAgain p = (from : ℕ) (s : List Variable) (e : Stmt) → StmtMeans first result p from s e → stmt_shaped e ≡ true → (x : Stmt) → stmt_shown prog p false ≡ x ∷ [] → (d : Stmt) → AlikeStmt x d → Again p from s d

  abbrev Met : Type 0
  Met = (p : PStmt) × StmtAgain p

  abbrev down : S.PForm-F ((a : PForm) × ActAgain a) Met → PActs
  down y = map-PForm ((a : PForm) × ActAgain a) Met PForm PStmt (λ q. q.0) (λ q. q.0) y

  abbrev firsts : List Met → List PStmt
  firsts qs = map (λ (q : Met). q.0) qs

  -- Statements that follow each other

  pub record ListAgain (ps : List PStmt) (from : ℕ) (s : List Variable) (ds : List Stmt) : Type 0 where
    pub made : List PStmt
    pub means : BlockMeans (λ p. p) (StmtMeans second result) from s made ds
    pub rooms : map room made ≡ map room ps
    pub declares : map is_declaration made ≡ map is_declaration ps
    pub frees : map stmt_free made ≡ map stmt_free ps
    pub same : map W.spanless_stmt made ≡ map W.spanless_stmt ps
    pub plain : all_made (map plainly ds) ≡ ds
    pub steps : list_all is_yes (map stmt_steps ds) ≡ true

  list_more : (p : PStmt) (ps : List PStmt) (from : ℕ) (s : List Variable) (d : Stmt) (ds : List Stmt) → (a : Again p from s d) → ListAgain ps from (after p s) ds → ListAgain (p ∷ ps) from s (d ∷ ds)
  list_more p ps from s d ds a r = record {
    made = a.made ∷ r.made;
    means = (a.means, subst (λ (g : Grows). BlockMeans (λ p. p) (StmtMeans second result) from (g s) r.made ds) (sym a.after) r.means);
    rooms = λ i. a.room i ∷ r.rooms i;
    declares = λ i. a.declares i ∷ r.declares i;
    frees = λ i. a.free i ∷ r.frees i;
    same = λ i. a.same i ∷ r.same i;
    plain = λ i. a.plain i ++ r.plain i;
    steps = λ i. a.steps i && r.steps i;
  }

  all_again : (qs : List Met) (from : ℕ) (s : List Variable) (es : List Stmt) → BlockMeans (λ p. p) (StmtMeans first result) from s (firsts qs) es → list_all stmt_shaped es ≡ true → (ds : List Stmt) → map T.spanless_stmt ds ≡ map T.spanless_stmt (all_shown false (map (stmt_shown prog) (firsts qs))) → ListAgain (firsts qs) from s ds
  all_again [] from s [] m h [] k = record { made = []; means = tt; rooms = refl; declares = refl; frees = refl; same = refl; plain = refl; steps = refl }
  all_again [] from s [] m h (d ∷ ds) k = cc
  all_again [] from s (e ∷ es) m h ds k = absurd m
  all_again (q ∷ qs) from s [] m h ds k = absurd m
  all_again (q ∷ qs) from s (e ∷ es) m h [] k = absurd (none_left (one_shown q.0).0 (all_shown false (map (stmt_shown prog) (firsts qs))) (k ∙ ap (λ xs. map T.spanless_stmt (xs ++ all_shown false (map (stmt_shown prog) (firsts qs)))) (one_shown q.0).1))
  all_again (q ∷ qs) from s (e ∷ es) m h (d ∷ ds) k =
      let o = one_shown q.0 in
      let rest = all_shown false (map (stmt_shown prog) (firsts qs)) in
      let c = k ∙ ap (λ xs. map T.spanless_stmt (xs ++ rest)) o.1 in
      let j = both_true (stmt_shaped e) (list_all stmt_shaped es) h in
      list_more q.0 (firsts qs) from s d ds (q.1 from s e m.0 j.0 o.0 o.1 d (front_like o.0 d rest ds c)) (all_again qs from (after q.0 s) es m.1 j.1 ds (back_like o.0 d rest ds c))

  -- Bodies

  record BodyAgain (p : PStmt) (from : ℕ) (s : List Variable) (d : Stmt) : Type 0 where
    is : Again p from s d
    body : (plainly d).body ≡ d

  body_again : (q : Met) (from : ℕ) (s : List Variable) (y : Stmt) → StmtMeans first result q.0 from s y → bodied (shape_of y) ≡ true → (here : Span) (d : Stmt) → AlikeStmt (block_of here (stmt_shown prog q.0 true)) d → BodyAgain q.0 from s d
  body_again q from s y m h here d a =
      let k = both_true (shape_of y).fine (shape_of y).block h in
      let b = is_block y k.1 in
      let o = one_shown q.0 in
      let c = one_same (T.spanless_stmt (block_of here (stmt_shown prog q.0 true))) (T.spanless_stmt o.0) (as_block q.0 from s y b.0 m b.1 here ∙ ap (map T.spanless_stmt) o.1) in
      let r = q.1 from s y m k.0 o.0 o.1 d (a ∙ c) in
      let e = block_back here d (stmt_shown prog q.0 true) a in
      record { is = r; body = r.body e.0 e.1 }

  record CopyAgain (ps : List PStmt) (from : ℕ) (s : List Variable) (d : Stmt) : Type 0 where
    made : List PStmt
    means : OneMeans (StmtMeans second result) from s made d
    rooms : map room made ≡ map room ps
    frees : map stmt_free made ≡ map stmt_free ps
    same : map W.spanless_stmt made ≡ map W.spanless_stmt ps
    body : (plainly d).body ≡ d
    steps : stmt_steps d ≡ true

  copy_again : (qs : List Met) (from : ℕ) (s : List Variable) (y : Stmt) → OneMeans (StmtMeans first result) from s (firsts qs) y → bodied (shape_of y) ≡ true → (here : Span) (d : Stmt) → AlikeStmt (block_of here (all_shown true (map (stmt_shown prog) (firsts qs)))) d → CopyAgain (firsts qs) from s d
  copy_again [] from s y m h here d a = absurd m
  copy_again (q ∷ []) from s y m h here d a =
      let r = body_again q from s y m h here d (a ∙ ap (λ es. T.spanless_stmt (block_of here es)) (append-nil (stmt_shown prog q.0 true))) in
      record {
        made = (r.is).made ∷ [];
        means = (r.is).means;
        rooms = λ i. (r.is).room i ∷ [];
        frees = λ i. (r.is).free i ∷ [];
        same = λ i. (r.is).same i ∷ [];
        body = r.body;
        steps = (r.is).steps;
      }
  copy_again (q ∷ r ∷ qs) from s y m h here d a = absurd m

  -- Expressions of statements

  record AtAgain (t : Ty) (s : List Variable) (p : PExpr) (d : Expr) : Type 0 where
    made : PExpr
    is_at : IsAt second s t made d
    same : W.spanless_expr made ≡ W.spanless_expr p

  at_again : (t : Ty) (s : List Variable) (p : PExpr) (e : Expr) → IsAt first s t p e → (d : Expr) → Alike (printed_expr prog p) d → AtAgain t s p d
  at_again t s p e m d a =
      let r = expr_again prog bounds known again s good p e m.means d a in
      record { made = r.made; is_at = record { means = r.means; type = r.type ∙ m.type }; same = r.same }

  record AnyAgain (t : Ty) (s : List Variable) (p : Option PExpr) (d : Option Expr) : Type 0 where
    made : Option PExpr
    is_at : AnyAt second s t made d
    same : W.any_spanless made ≡ W.any_spanless p

  any_again : (t : Ty) (s : List Variable) (p : Option PExpr) (e : Option Expr) → AnyAt first s t p e → (d : Option Expr) → T.any_spanless d ≡ T.any_spanless (printed_any prog p) → AnyAgain t s p d
  any_again t s None None m None a = record { made = None; is_at = tt; same = refl }
  any_again t s None None m (Some d) a = cc
  any_again t s (Some p) (Some e) m None a = cc
  any_again t s (Some p) (Some e) m (Some d) a =
      let b : Alike (printed_expr prog p) d = cc in
      let r = at_again t s p e m d b in
      record { made = Some r.made; is_at = r.is_at; same = ap Some r.same }
  any_again t s None (Some e) m d a = absurd m
  any_again t s (Some p) None m d a = absurd m

  record ReturnAgain (t : Option Ty) (s : List Variable) (p : Option PExpr) (d : Option Expr) : Type 0 where
    made : Option PExpr
    means : ReturnMeans second result s t made d
    same : W.any_spanless made ≡ W.any_spanless p

  return_again : (t : Option Ty) (s : List Variable) (p : Option PExpr) (e : Option Expr) → ReturnMeans first result s t p e → (d : Option Expr) → T.any_spanless d ≡ T.any_spanless (printed_any prog p) → ReturnAgain t s p d
  return_again None s None None m None a = record { made = None; means = tt; same = refl }
  return_again None s None None m (Some d) a = cc
  return_again (Some t) s (Some p) (Some e) m None a = cc
  return_again (Some t) s (Some p) (Some e) m (Some d) a =
      let b : Alike (printed_expr prog p) d = cc in
      let r = at_again t s p e m d b in
      record { made = Some r.made; means = r.is_at; same = ap Some r.same }
  return_again None s None (Some e) m d a = absurd m
  return_again None s (Some p) None m d a = absurd m
  return_again None s (Some p) (Some e) m d a = absurd m
  return_again (Some t) s None None m d a = absurd m
  return_again (Some t) s None (Some e) m d a = absurd m
  return_again (Some t) s (Some p) None m d a = absurd m

  -- Forms

  abbrev LayerAgain : PActs → Type 0
  LayerAgain l = (from : ℕ) (s : List Variable) (f : Form) → act_rule first result l from s f → (act_shape f).fine ≡ true → (here : Span) (x : Stmt) → form_printed prog (shown_of l) here false ≡ x ∷ [] → (d : Stmt) → AlikeStmt x d → ActIs (roll-PForm l) from s d

  of_act : (l : PActs) → LayerAgain l → ActAgain (roll-PForm l)
  of_act l k from s f m h here x is d a = k from s f (subst (λ (R : FormRule). R from s f) (act_means_are first result l) m) h here x (sym (λ i. form_shown_is l i here false) ∙ is) d a

  -- d is like the one that is printed
  like : (y x d : Stmt) → y ∷ [] ≡ x ∷ [] → AlikeStmt x d → AlikeStmt y d
  like y x d is a = a ∙ ap T.spanless_stmt (sym (one_same y x is))

  declare_again : (slot : ℕ) (x : List ℕ) (t : Ty) (v : Option PExpr) → LayerAgain (S.Declare slot x t v)
  declare_again slot x t v from s f r h here w is d a =
      let b = declare_back here d (erase_ty prog t) (record { name = x; value = printed_any prog v }) (like _ w d is a) in
      let m = r.3 in
      let name : (b.1).name ≡ x = ap (λ (n : Declared). n.name) b.4 in
      let u = any_again t s v (r.1).value m.value (b.1).value (ap (λ (n : Declared). n.value) b.4) in
      remade (S.Declare slot x t u.made) (S.Declare slot x t v) from s d (F.Declare b.0 (b.1 ∷ [])) (b.2 ∙ sym (form.rolls-Declare b.0 (b.1 ∷ [])))
      (b.0, b.1, b.2, record { name = sym name; type = type_again prog bounds known again s good r.0 t m.type b.0 b.3; next = m.next; once = ap (λ n. is_taken from (lookup s n)) (name ∙ m.name) ∙ m.once; value = u.is_at })
      (record { after = refl; room = refl; declares = refl; free = refl; same = ap (λ z. roll-PForm (S.Declare slot x t z)) u.same })
      (itself d (form.Declare b.0 (b.1 ∷ [])) b.2) (λ es is. cc) refl

  assign_again : (p q : PExpr) → LayerAgain (S.Assign p q)
  assign_again p q from s f r h here w is d a =
      let b = assign_back here d (printed_expr prog p) (printed_expr prog q) (like _ w d is a) in
      let u = target_again prog bounds known again s good r.3 p r.0 (r.4).target b.0 b.3 in
      let v = at_again r.3 s q r.1 (r.4).value b.1 b.4 in
      remade (S.Assign u.made v.made) (S.Assign p q) from s d (F.Assign b.0 b.1) (b.2 ∙ sym (form.rolls-Assign b.0 b.1))
      (b.0, b.1, b.2, r.3, record { target = u.target; value = v.is_at })
      (record { after = refl; room = refl; declares = refl; free = refl; same = λ i. roll-PForm (S.Assign (u.same i) (v.same i)) })
      (itself d (form.Assign b.0 b.1) b.2) (λ es is. cc) refl

  call_again : (p : PExpr) → LayerAgain (S.Call p)
  call_again p from s f r h here w is d a =
      let b = call_back here d (printed_expr prog p) (like _ w d is a) in
      let u = expr_again prog bounds known again s good p r.0 r.3 b.0 b.2 in
      remade (S.Call u.made) (S.Call p) from s d (F.Call b.0) (b.1 ∙ sym (form.rolls-Call b.0))
      (b.0, b.1, call_same u.made p u.same r.2, u.means)
      (record { after = refl; room = refl; declares = refl; free = refl; same = ap (λ z. roll-PForm (S.Call z)) u.same })
      (itself d (form.Call b.0) b.1) (λ es is. cc) refl

  assert_again : (p : PExpr) → LayerAgain (S.Assert p)
  assert_again p from s f r h here w is d a =
      let b = assert_back here d (printed_expr prog p) (like _ w d is a) in
      let u = at_again bit s p r.0 r.2 b.0 b.2 in
      remade (S.Assert u.made) (S.Assert p) from s d (F.Assert b.0) (b.1 ∙ sym (form.rolls-Assert b.0))
      (b.0, b.1, u.is_at)
      (record { after = refl; room = refl; declares = refl; free = refl; same = ap (λ z. roll-PForm (S.Assert z)) u.same })
      (itself d (form.Assert b.0) b.1) (λ es is. cc) refl

  assume_again : (p : PExpr) → LayerAgain (S.Assume p)
  assume_again p from s f r h here w is d a =
      let b = assume_back here d (printed_expr prog p) (like _ w d is a) in
      let u = at_again bit s p r.0 r.2 b.0 b.2 in
      remade (S.Assume u.made) (S.Assume p) from s d (F.Assume b.0) (b.1 ∙ sym (form.rolls-Assume b.0))
      (b.0, b.1, u.is_at)
      (record { after = refl; room = refl; declares = refl; free = refl; same = ap (λ z. roll-PForm (S.Assume z)) u.same })
      (itself d (form.Assume b.0) b.1) (λ es is. cc) refl

  minimize_again : (p : PExpr) → LayerAgain (S.Minimize p)
  minimize_again p from s f r h here w is d a =
      let b = minimize_back here d (printed_expr prog p) (like _ w d is a) in
      let u = at_again int s p r.0 r.2 b.0 b.2 in
      remade (S.Minimize u.made) (S.Minimize p) from s d (F.Minimize b.0) (b.1 ∙ sym (form.rolls-Minimize b.0))
      (b.0, b.1, u.is_at)
      (record { after = refl; room = refl; declares = refl; free = refl; same = ap (λ z. roll-PForm (S.Minimize z)) u.same })
      (itself d (form.Minimize b.0) b.1) (λ es is. cc) refl

  returned_again : (v : Option PExpr) → LayerAgain (S.Return v)
  returned_again v from s f r h here w is d a =
      let b = return_back here d (printed_any prog v) (like _ w d is a) in
      let u = return_again result s v r.0 r.2 b.0 b.2 in
      remade (S.Return u.made) (S.Return v) from s d (F.Return b.0) (b.1 ∙ sym (form.rolls-Return b.0))
      (b.0, b.1, u.means)
      (record { after = refl; room = refl; declares = refl; free = refl; same = ap (λ z. roll-PForm (S.Return z)) u.same })
      (itself d (form.Return b.0) b.1) (λ es is. cc) refl

  block_again : (qs : List Met) → LayerAgain (S.Block (firsts qs))
  block_again qs from s f r h here w is d a =
      let b = block_back here d (all_shown false (map (stmt_shown prog) (firsts qs))) (like _ w d is a) in
      let u = all_again qs (length s) s r.0 r.2 (stmts_shaped r.0 (shape_in f _ (F.Block r.0) r.1 (form.rolls-Block r.0) h)) b.0 b.2 in
      let dk = b.1 ∙ sym (form.rolls-Block b.0) in
      let there : stmt_at d.span (form.Block (all_made (map plainly b.0))) ≡ d = ap (λ es. stmt_at d.span (form.Block es)) u.plain ∙ ap (λ g. stmt_at d.span g) (sym b.1) in
      built_of (S.Block u.made) (S.Block (firsts qs)) from s d (F.Block b.0) dk
      (b.0, b.1, u.means)
      (record { after = refl; room = ap (λ z. inside (most_of z)) u.rooms; declares = refl; free = ap (list_all is_yes) u.frees; same = ap (λ z. roll-PForm (S.Block z)) u.same })
      (ap (λ x. x ∷ []) there) (λ es is. ap (λ (p : Plainly). p.body) (plain_at d (F.Block b.0) dk) ∙ there) u.steps

  reorder_again : (qs : List Met) → LayerAgain (S.Reorder (firsts qs))
  reorder_again qs from s f r h here w is d a =
      let b = reorder_back here d (all_shown false (map (stmt_shown prog) (firsts qs))) (like _ w d is a) in
      let u = all_again qs (length s) s r.0 r.3 (stmts_shaped r.0 (shape_in f _ (F.Reorder r.0) r.1 (form.rolls-Reorder r.0) h)) b.0 b.2 in
      remade (S.Reorder u.made) (S.Reorder (firsts qs)) from s d (F.Reorder b.0) (b.1 ∙ sym (form.rolls-Reorder b.0))
      (b.0, b.1, may_again u.made (firsts qs) u.declares ∙ r.2, u.means)
      (record { after = refl; room = ap (λ z. inside (most_of z)) u.rooms; declares = refl; free = ap (list_all is_yes) u.frees; same = ap (λ z. roll-PForm (S.Reorder z)) u.same })
      (ap (λ es. stmt_at d.span (form.Reorder es) ∷ []) u.plain ∙ itself d (form.Reorder b.0) b.1) (λ es is. cc) u.steps

  if_again : (p : PExpr) (q : Met) → LayerAgain (S.If p q.0 None)
  if_again p q from s f r h here w is d a =
      let b = if_back here d (printed_expr prog p) (block_of here (stmt_shown prog q.0 true)) (like _ w d is a) in
      let k = both_true (bodied (shape_of r.1)) _ (shape_in f _ (F.If r.0 r.1 r.2) r.3 (form.rolls-If r.0 r.1 r.2) h) in
      let u = at_again bit s p r.0 r.4 b.0 b.3 in
      let v = body_again q from s r.1 r.5 k.0 here b.1 b.4 in
      let g = v.is in
      remade (S.If u.made g.made None) (S.If p q.0 None) from s d (F.If b.0 b.1 None) (b.2 ∙ sym (form.rolls-If b.0 b.1 None))
      (b.0, b.1, None, b.2, u.is_at, g.means, tt)
      (record { after = refl; room = ap (λ (z : Room). inside (λ n. max (z.most n) n)) g.room; declares = refl; free = ap (λ z. z && true) g.free; same = λ i. roll-PForm (S.If (u.same i) (g.same i) None) })
      (ap (λ y. stmt_at d.span (form.If b.0 y None) ∷ []) v.body ∙ itself d (form.If b.0 b.1 None) b.2) (λ es is. cc) (ap (λ z. z && true) g.steps)

  else_again : (p : PExpr) (q c : Met) → LayerAgain (S.If p q.0 (Some c.0))
  else_again p q c from s f r h here w is d a = go r.0 r.1 r.2 r.3 r.4 r.5 r.6
    where
      go : (x : Expr) (y : Stmt) (z : Option Stmt) → f ≡ form.If x y z → IsAt first s bit p x → StmtMeans first result q.0 from s y → AnyMeans (StmtMeans first result) from s (Some c.0) z → ActIs (roll-PForm (S.If p q.0 (Some c.0))) from s d
      go x y None e m n o = absurd o
      go x y (Some z) e m n o =
          let b = else_back here d (printed_expr prog p) (block_of here (stmt_shown prog q.0 true)) (block_of here (stmt_shown prog c.0 true)) (like _ w d is a) in
          let k = both_true (bodied (shape_of y)) (bodied (shape_of z)) (shape_in f _ (F.If x y (Some z)) e (form.rolls-If x y (Some z)) h) in
          let u = at_again bit s p x m b.0 b.4 in
          let v = body_again q from s y n k.0 here b.1 b.5 in
          let t = body_again c from s z o k.1 here b.2 b.6 in
          let g = v.is in
          let j = t.is in
          remade (S.If u.made g.made (Some j.made)) (S.If p q.0 (Some c.0)) from s d (F.If b.0 b.1 (Some b.2)) (b.3 ∙ sym (form.rolls-If b.0 b.1 (Some b.2)))
          (b.0, b.1, Some b.2, b.3, u.is_at, g.means, j.means)
          (record { after = refl; room = λ i. inside (λ n. max ((g.room i).most n) ((j.room i).most n)); declares = refl; free = λ i. g.free i && j.free i; same = λ i. roll-PForm (S.If (u.same i) (g.same i) (Some (j.same i))) })
          ((λ i. stmt_at d.span (form.If b.0 (v.body i) (Some (t.body i))) ∷ []) ∙ itself d (form.If b.0 b.1 (Some b.2)) b.3) (λ es is. cc) (λ i. g.steps i && j.steps i)

  while_again : (p : PExpr) (q : Met) → LayerAgain (S.While p q.0)
  while_again p q from s f r h here w is d a =
      let b = while_back here d (printed_expr prog p) (block_of here (stmt_shown prog q.0 true)) (like _ w d is a) in
      let k = shape_in f _ (F.While r.0 r.1) r.2 (form.rolls-While r.0 r.1) h in
      let u = at_again bit s p r.0 r.3 b.0 b.3 in
      let v = body_again q from s r.1 r.4 k here b.1 b.4 in
      let g = v.is in
      remade (S.While u.made g.made) (S.While p q.0) from s d (F.While b.0 b.1) (b.2 ∙ sym (form.rolls-While b.0 b.1))
      (b.0, b.1, b.2, u.is_at, g.means)
      (record { after = refl; room = ap (λ (z : Room). inside z.most) g.room; declares = refl; free = g.free; same = λ i. roll-PForm (S.While (u.same i) (g.same i)) })
      (ap (λ y. stmt_at d.span (form.While b.0 y) ∷ []) v.body ∙ itself d (form.While b.0 b.1) b.2) (λ es is. cc) g.steps

  repeat_again : (p : PExpr) (qs : List Met) → LayerAgain (S.Repeat p (firsts qs))
  repeat_again p qs from s f r h here w is d a =
      let b = repeat_back here d (printed_expr prog p) (block_of here (all_shown true (map (stmt_shown prog) (firsts qs)))) (like _ w d is a) in
      let k = shape_in f _ (F.Repeat r.0 r.1) r.2 (form.rolls-Repeat r.0 r.1) h in
      let u = count_again prog bounds known again result s good p r.0 r.3 b.0 b.3 in
      let v = copy_again qs from s r.1 r.4 k here b.1 b.4 in
      remade (S.Repeat u.made v.made) (S.Repeat p (firsts qs)) from s d (F.Repeat b.0 b.1) (b.2 ∙ sym (form.rolls-Repeat b.0 b.1))
      (b.0, b.1, b.2, u.means, v.means)
      (record { after = refl; room = ap (λ z. inside (most_of z)) v.rooms; declares = refl; free = ap (list_all is_yes) v.frees; same = λ i. roll-PForm (S.Repeat (u.same i) (v.same i)) })
      (ap (λ y. stmt_at d.span (form.Repeat b.0 y) ∷ []) v.body ∙ itself d (form.Repeat b.0 b.1) b.2) (λ es is. cc) v.steps

  minrepeat_again : (qs : List Met) → LayerAgain (S.MinRepeat (firsts qs))
  minrepeat_again qs from s f r h here w is d a =
      let b = minrepeat_back here d (block_of here (all_shown true (map (stmt_shown prog) (firsts qs)))) (like _ w d is a) in
      let k = shape_in f _ (F.MinRepeat r.0) r.1 (form.rolls-MinRepeat r.0) h in
      let v = copy_again qs from s r.0 r.2 k here b.0 b.2 in
      remade (S.MinRepeat v.made) (S.MinRepeat (firsts qs)) from s d (F.MinRepeat b.0) (b.1 ∙ sym (form.rolls-MinRepeat b.0))
      (b.0, b.1, v.means)
      (record { after = refl; room = ap (λ z. inside (most_of z)) v.rooms; declares = refl; free = ap (list_all is_yes) v.frees; same = ap (λ z. roll-PForm (S.MinRepeat z)) v.same })
      (ap (λ y. stmt_at d.span (form.MinRepeat y) ∷ []) v.body ∙ itself d (form.MinRepeat b.0) b.1) (λ es is. cc) v.steps

  pub stmt_again : (p : PStmt) → StmtAgain p
  stmt_again = pstmt_law ActAgain StmtAgain layer in_stmt
    where
      in_stmt : (p : PStmt) → ActAgain p.form → StmtAgain p
      in_stmt p k from s e m h x is d a =
          let r = subst (λ (R : StmtRule). R from s e) (stmt_means_is first result p) m in
          let c = k from s e.form r.1 (ap (λ (z : Shape). z.fine) (sym (shape_is e)) ∙ h) p.span x (sym (λ i. shown_is p i false) ∙ is) d a in
          let q : PStmt = record { span = d.span; form = c.made } in
          record {
            made = q;
            means = subst (λ (R : StmtRule). R from s d) (sym (stmt_means_is second result q)) (refl, c.means);
            after = after_is q ∙ c.after ∙ sym (after_is p);
            room = fold-roll-PStmt Room Room form_room (λ s. s.form) (record { span = d.span; form = c.made }) ∙ c.room ∙ sym (fold-roll-PStmt Room Room form_room (λ s. s.form) (record { span = p.span; form = p.form }));
            declares = fold-roll-PStmt Bool Bool form_declares (λ s. s.form) (record { span = d.span; form = c.made }) ∙ c.declares ∙ sym (fold-roll-PStmt Bool Bool form_declares (λ s. s.form) (record { span = p.span; form = p.form }));
            free = fold-roll-PStmt Bool Bool form_free (λ s. s.form) (record { span = d.span; form = c.made }) ∙ c.free ∙ sym (fold-roll-PStmt Bool Bool form_free (λ s. s.form) (record { span = p.span; form = p.form }));
            same = fold-roll-PStmt PForm PStmt spanless_form stmt_without_span (record { span = d.span; form = c.made }) ∙ ap (λ f. record { span = no_span; form = f }) c.same ∙ sym (fold-roll-PStmt PForm PStmt spanless_form stmt_without_span (record { span = p.span; form = p.form }));
            plain = c.plain;
            body = c.body;
            steps = c.steps;
          }

      layer : (y : S.PForm-F ((a : PForm) × ActAgain a) Met) → ActAgain (roll-PForm (down y))
      layer (S.Block qs) = of_act (S.Block (firsts qs)) (block_again qs)
      layer (S.Declare slot x t v) = of_act (S.Declare slot x t v) (declare_again slot x t v)
      layer (S.Assign p q) = of_act (S.Assign p q) (assign_again p q)
      layer (S.Call p) = of_act (S.Call p) (call_again p)
      layer (S.If p q None) = of_act (S.If p q.0 None) (if_again p q)
      layer (S.If p q (Some c)) = of_act (S.If p q.0 (Some c.0)) (else_again p q c)
      layer (S.While p q) = of_act (S.While p q.0) (while_again p q)
      layer (S.Return v) = of_act (S.Return v) (returned_again v)
      layer (S.Assert p) = of_act (S.Assert p) (assert_again p)
      layer (S.Assume p) = of_act (S.Assume p) (assume_again p)
      layer (S.Minimize p) = of_act (S.Minimize p) (minimize_again p)
      layer (S.Repeat p qs) = of_act (S.Repeat p (firsts qs)) (repeat_again p qs)
      layer (S.MinRepeat qs) = of_act (S.MinRepeat (firsts qs)) (minrepeat_again qs)
      layer (S.Reorder qs) = of_act (S.Reorder (firsts qs)) (reorder_again qs)

  -- A body

  pub block_is_again : (ps : List PStmt) (from : ℕ) (s : List Variable) (es : List Stmt) → BlockMeans (λ p. p) (StmtMeans first result) from s ps es → list_all stmt_shaped es ≡ true → (ds : List Stmt) → map T.spanless_stmt ds ≡ map T.spanless_stmt (flat_map (λ p. stmt_shown prog p false) ps) → ListAgain ps from s ds
  block_is_again [] from s [] m h [] k = record { made = []; means = tt; rooms = refl; declares = refl; frees = refl; same = refl; plain = refl; steps = refl }
  block_is_again [] from s [] m h (d ∷ ds) k = cc
  block_is_again [] from s (e ∷ es) m h ds k = absurd m
  block_is_again (p ∷ ps) from s [] m h ds k = absurd m
  block_is_again (p ∷ ps) from s (e ∷ es) m h [] k = absurd (none_left (one_shown p).0 (flat_map (λ p. stmt_shown prog p false) ps) (k ∙ ap (λ xs. map T.spanless_stmt (xs ++ flat_map (λ p. stmt_shown prog p false) ps)) (one_shown p).1))
  block_is_again (p ∷ ps) from s (e ∷ es) m h (d ∷ ds) k =
      let o = one_shown p in
      let rest = flat_map (λ p. stmt_shown prog p false) ps in
      let c = k ∙ ap (λ xs. map T.spanless_stmt (xs ++ rest)) o.1 in
      let j = both_true (stmt_shaped e) (list_all stmt_shaped es) h in
      list_more p ps from s d ds (stmt_again p from s e m.0 j.0 o.0 o.1 d (front_like o.0 d rest ds c)) (block_is_again ps from (after p s) es m.1 j.1 ds (back_like o.0 d rest ds c))
