-- Tokens of the kinds that spell the statements that are printed are found to spell some that differ in spans alone.
use Rattle.std.proofs.Common.{◌≡◌, ℕ, suc, Bool, true, false, ◌&&◌, List, [], ◌∷◌, ◌++◌, map, length, Option, Some, None, refl, sym, ap, ◌∙◌, subst, append_assoc, append-nil}
use Rattle.std.specs.Prelude.{nat_le}
use Rattle.std.specs.List.{list_all, flat_map}
use Rattle.std.proofs.lemmas.Bool.{and_parts}
use Rattle.std.proofs.lemmas.List.{map-append}
use Rattle.sk_base.specs.declared.span.Span.{Span}
use Rattle.sk_tree.specs.declared.token.Token.{Token}
use Rattle.sk_tree.specs.declared.token.Kind.TheVariants as kind
use Rattle.sk_tree.specs.declared.token.Mark.TheVariants as mark
use Rattle.sk_tree.specs.declared.token.Key.TheVariants as key
use Rattle.sk_tree.specs.declared.expr.Expr.{Expr}
use Rattle.sk_tree.specs.declared.stmt.Stmt.{Stmt}
use Rattle.sk_tree.specs.declared.stmt.Form.{Form}
use Rattle.sk_tree.specs.declared.stmt.Form.TheVariants as form
use Rattle.sk_tree.specs.declared.stmt.Form.TheOpen as F
use Rattle.sk_tree.specs.declared.stmt.Form.TheViews.{roll-Form}
use Rattle.sk_tree.specs.declared.stmt.Form.TheFolds.{map-Form, fold-Form, fold-roll-Form, fold-roll-Stmt}
use Rattle.sk_tree.specs.declared.stmt.Declared.{Declared}
use Rattle.sk_tree.specs.declared.item.Base.{Base}
use Rattle.sk_tree.specs.declared.item.Base.TheVariants as base
use Rattle.sk_tree.specs.declared.item.TyTree.{TyTree}
use Rattle.sk_tree.specs.Phrase.{Phrase, ◌▸◌, Each, span_of}
use Rattle.sk_tree.specs.Spelt.{Role, InBlock, AsBody, is_whole, is_target, is_call, SpeltPattern, SpeltTarget, SpeltBase, SpeltLength, SpeltTy, SpeltDeclared, SpeltParens, SpeltStmt}
use Rattle.sk_tree.specs.Spell.{Kinds, spell_expr, spell_base, spell_length, spell_ty, spell_declared, spell_parens, spell_stmt}
use Rattle.sk_tree.proofs.Layers.{SpeltForm, FormLayer, form_is, stmt_is}
use Rattle.sk_prog.specs.declared.ty.Ty.{Ty}
use Rattle.sk_prog.specs.declared.ty.Ty.TheVariants as ty
use Rattle.sk_prog.specs.declared.expr.PExpr.{PExpr}
use Rattle.sk_prog.specs.declared.stmt.PStmt.{PStmt}
use Rattle.sk_prog.specs.declared.stmt.PForm.{PForm}
use Rattle.sk_prog.specs.declared.stmt.PForm.TheOpen as S
use Rattle.sk_prog.specs.declared.stmt.PForm.TheViews.{roll-PForm, roll-PStmt}
use Rattle.sk_prog.specs.declared.stmt.PForm.TheFolds.{map-PForm, fold-PForm, fold-roll-PForm, fold-roll-PStmt, ind-PStmt}
use Rattle.sk_prog.specs.declared.prog.Prog.{Prog}
use Rattle.sk_prog.specs.Names.{is_yes}
use Rattle.sk_types_rules.specs.Erase.{nowhere, at, elem_base, erase_ty}
use Rattle.sk_types_rules.specs.Erase as R
use Rattle.sk_print_laws.specs.Printed.{printed_expr, printed_any, Shown, all_shown, of_form, block_of, form_printed, stmt_shown}
use Rattle.sk_print_laws.specs.SpanlessTree.{spanless_expr, spanless_ty, spanless_declared, acts_spanless, stmt_nowhere, spanless_stmt}
use Rattle.sk_print_laws.specs.Readable.{expr_readable, any_readable, target_readable, form_readable, stmt_readable}
use Rattle.sk_print_laws.proofs.Spelled.{stmt_spelled}
use Rattle.sk_print_laws.proofs.Stmts.{kinds_of, kinds_append, in_block, block_spelled}
use Rattle.sk_print_laws.proofs.Finds.{Finds, finds_then, finds_as, finds_nothing, finds_one, finds_sign, finds_key, Match, All, finds_each, match_map}
use Rattle.sk_print_laws.proofs.Respelt.{Alike, Said, number_said}
use Rattle.sk_print_laws.proofs.Spanless.{call_alike, target_alike}
use Rattle.sk_print_laws.proofs.ExprsRead.{expr_said}

-- Types

abbrev pub TySaid : TyTree → Type 0
TySaid y0 = Finds TyTree SpeltTy (spell_ty y0) (λ y. spanless_ty y ≡ spanless_ty y0)

base_said : (b : Base) → Finds (Unit {0}) (λ u. SpeltBase b) (spell_base b) (λ u. Unit {0})
base_said base.Int = finds_key key.Int
base_said base.Bit = finds_key key.Bit
base_said (base.Named x) = finds_one (kind.Word x)

length_said : (e : Expr) → Said SpeltPattern e → Finds Expr SpeltLength (spell_length e) (Alike e)
length_said e f = finds_as (finds_then (finds_sign mark.OpenBracket) (finds_then f (finds_sign mark.CloseBracket))) (λ r. r.1.0) (λ r ts c h. h) (λ r c. c.1.0) refl

match_length : {A X : Type 0} (C : X → A → Type 0) (xs : List X) (rest : List A) → Match C xs rest → length rest ≡ length xs
match_length C [] [] h = refl
match_length C (x ∷ xs) (a ∷ rest) h = ap suc (match_length C xs rest h.1)
match_length C [] (a ∷ rest) h = absurd h
match_length C (x ∷ xs) [] h = absurd h

written_said : (b : Base) (es : List Expr) → nat_le (length es) 2 ≡ true → All SpeltLength spell_length Alike es → TySaid (record { base = b; lengths = es })
written_said b es few all =
    finds_as (finds_then (base_said b) (finds_each SpeltLength spell_length Alike es all))
    (λ r. record { base = b; lengths = r.1 })
    (λ r ts c h. (ap (λ n. nat_le n 2) (match_length Alike es r.1 c.1) ∙ few, h))
    (λ r c i. record { base = b; lengths = match_map spanless_expr spanless_expr es r.1 c.1 i })
    refl

pub ty_said : (prog : Prog) (t : Ty) → TySaid (erase_ty prog t)
ty_said prog (ty.One e) = written_said (elem_base prog e) [] refl tt
ty_said prog (ty.Array e n) = written_said (elem_base prog e) (R.number n ∷ []) refl (length_said (R.number n) (number_said SpeltPattern nowhere n), tt)
ty_said prog (ty.Grid e n m) = written_said (elem_base prog e) (R.number n ∷ R.number m ∷ []) refl (length_said (R.number n) (number_said SpeltPattern nowhere n), (length_said (R.number m) (number_said SpeltPattern nowhere m), tt))

-- Statements of one form

abbrev Acts : Type 0
Acts = F.Form-F Form Stmt

abbrev act_off : Form → Form
act_off = fold-Form Form Stmt (λ l. roll-Form (acts_spanless l)) stmt_nowhere

abbrev acts_off : Acts → Acts
acts_off l = acts_spanless (map-Form Form Stmt Form Stmt act_off spanless_stmt l)

spanless_layer : (s : Span) (l : Acts) → spanless_stmt (of_form s (roll-Form l)) ≡ of_form nowhere (roll-Form (acts_off l))
spanless_layer s l =
    fold-roll-Stmt Form Stmt (λ l. roll-Form (acts_spanless l)) stmt_nowhere (record { span = s; form = roll-Form l })
    ∙ ap (of_form nowhere) (fold-roll-Form Form Stmt (λ l. roll-Form (acts_spanless l)) stmt_nowhere l)

abbrev pub StmtSaid : Role → Stmt → Type 0
StmtSaid role e0 = Finds Stmt (λ e. SpeltStmt e role) (spell_stmt e0 role) (λ e. spanless_stmt e ≡ spanless_stmt e0)

made : {A : Type 0} {P : A → Phrase} {ks : Kinds} {C : A → Type 0} (role : Role) (f0 : Form) (s : Span) (l0 : Acts) → roll-Form l0 ≡ f0 → spell_stmt (of_form s f0) role ≡ ks → Finds A P ks C → (l : A → Acts) → ((a : A) (ts : List Token) → C a → P a ts → FormLayer (l a) role ts) → ((a : A) → C a → acts_off (l a) ≡ acts_off l0) → StmtSaid role (of_form s f0)
made role f0 s l0 is spelled f l p c = record {
  find = λ ts h.
      let r = f.find ts (h ∙ spelled) in
      let e : Stmt = of_form (span_of ts) (roll-Form (l r.0)) in
      let by : SpeltForm (roll-Form (l r.0)) role ts = subst (λ (Q : Role → Phrase). Q role ts) (sym (form_is (l r.0))) (p r.0 ts r.2 r.1) in
      let spelt : SpeltStmt e role ts = subst (λ (Q : Role → Phrase). Q role ts) (sym (stmt_is e)) (by, refl) in
      (e, spelt, spanless_layer (span_of ts) (l r.0) ∙ ap (λ z. of_form nowhere (roll-Form z)) (c r.0 r.2) ∙ sym (spanless_layer s l0) ∙ ap (λ z. spanless_stmt (of_form s z)) is);
}

-- Statements in a block

abbrev EachStmt : List Stmt → Phrase
EachStmt es = Each (λ e. SpeltStmt e InBlock) es

abbrev pub ListSaid : List Stmt → Type 0
ListSaid es0 = Finds (List Stmt) EachStmt (kinds_of es0) (λ es. map spanless_stmt es ≡ map spanless_stmt es0)

each_append : (es fs : List Stmt) (ts : List Token) → (EachStmt es ▸ EachStmt fs) ts → EachStmt (es ++ fs) ts
each_append [] fs ts h = subst (λ us. EachStmt fs us) (sym (h.2 ∙ ap (λ us. us ++ h.1) h.3)) h.4
each_append (e ∷ es) fs ts h =
    let front = h.3 in
    (front.0, front.1 ++ h.1, h.2 ∙ ap (λ us. us ++ h.1) front.2 ∙ append_assoc front.0 front.1 h.1, front.3, each_append es fs (front.1 ++ h.1) (front.1, h.1, refl, front.4, h.4))

none_said : ListSaid []
none_said = finds_as finds_nothing (λ u. []) (λ u ts c h. h) (λ u c. refl) refl

pub append_said : (es fs : List Stmt) → ListSaid es → ListSaid fs → ListSaid (es ++ fs)
append_said es fs f g =
    finds_as (finds_then f g) (λ r. r.0 ++ r.1) (λ r ts c h. each_append r.0 r.1 ts h)
    (λ r c. map-append spanless_stmt r.0 r.1 ∙ (λ i. c.0 i ++ c.1 i) ∙ sym (map-append spanless_stmt es fs))
    (kinds_append es fs)

one_said : (e : Stmt) → StmtSaid InBlock e → ListSaid (e ∷ [])
one_said e f = finds_as f (λ x. x ∷ []) (λ x ts c h. (ts, [], sym (append-nil ts), h, refl)) (λ x c. ap (λ z. z ∷ []) c) (append-nil (spell_stmt e InBlock))

block_said : (role : Role) → is_whole role ≡ true → (s : Span) (es : List Stmt) → ListSaid es → StmtSaid role (block_of s es)
block_said role is s es f =
    made role (form.Block es) s (F.Block es) (form.rolls-Block es) (block_spelled s es role)
    (finds_then (finds_sign mark.OpenBrace) (finds_then f (finds_sign mark.CloseBrace)))
    (λ r. F.Block r.1.0) (λ r ts c h. (is, h)) (λ r c. ap F.Block c.1.0)

parens_said : (e : Expr) → Said SpeltPattern e → Finds Expr SpeltParens (spell_parens e) (Alike e)
parens_said e f = finds_as (finds_then (finds_sign mark.OpenParen) (finds_then f (finds_sign mark.CloseParen))) (λ r. r.1.0) (λ r ts c h. h) (λ r c. c.1.0) refl

target_said : (e : Expr) → is_target e ≡ true → Said SpeltPattern e → Finds Expr SpeltTarget (spell_expr e) (Alike e)
target_said e is f = finds_as f (λ x. x) (λ x ts c h. (target_alike e x c ∙ is, h)) (λ x c. c) refl

module _ (prog : Prog) where
  abbrev form_fine : PForm → Bool
  form_fine = fold-PForm Bool Bool (form_readable prog) (λ s. s.form)

  abbrev form_shown : PForm → Span → Shown
  form_shown = fold-PForm (Span → Shown) Shown (form_printed prog) (λ p. p.form p.span)

  abbrev FormIs : Bool → (Span → Shown) → Type 0
  FormIs fine shown = fine ≡ true → (s : Span) (is_body : Bool) → ListSaid (shown s is_body)

  abbrev FormRead : PForm → Type 0
  FormRead f = FormIs (form_fine f) (form_shown f)

  abbrev pub StmtRead : PStmt → Type 0
  StmtRead p = stmt_readable prog p ≡ true → (is_body : Bool) → ListSaid (stmt_shown prog p is_body)

  abbrev Met : Type 0
  Met = (f : PForm) × FormRead f

  abbrev Met' : Type 0
  Met' = (s : PStmt) × StmtRead s

  abbrev down : S.PForm-F Met Met' → S.PForm-F PForm PStmt
  down = map-PForm Met Met' PForm PStmt (λ q. q.0) (λ q. q.0)

  abbrev fine_of : S.PForm-F PForm PStmt → S.PForm-F Bool Bool
  fine_of = map-PForm PForm PStmt Bool Bool form_fine (stmt_readable prog)

  abbrev shown_of : S.PForm-F PForm PStmt → S.PForm-F (Span → Shown) Shown
  shown_of = map-PForm PForm PStmt (Span → Shown) Shown form_shown (stmt_shown prog)

  abbrev LayerRead : S.PForm-F PForm PStmt → Type 0
  LayerRead l = FormIs (form_readable prog (fine_of l)) (form_printed prog (shown_of l))

  form_from : (l : S.PForm-F PForm PStmt) → LayerRead l → FormRead (roll-PForm l)
  form_from l h fine s is_body =
      let a = fold-roll-PForm Bool Bool (form_readable prog) (λ x. x.form) l in
      let b = fold-roll-PForm (Span → Shown) Shown (form_printed prog) (λ p. p.form p.span) l in
      subst (λ (x : Span → Shown). ListSaid (x s is_body)) (sym b) (h (sym a ∙ fine) s is_body)

  in_stmt : (s : Span) (f : PForm) → FormRead f → StmtRead (record { span = s; form = f })
  in_stmt s f h fine is_body =
      let a = fold-roll-PStmt Bool Bool (form_readable prog) (λ x. x.form) (record { span = s; form = f }) in
      let b = fold-roll-PStmt (Span → Shown) Shown (form_printed prog) (λ p. p.form p.span) (record { span = s; form = f }) in
      subst (λ (x : Shown). ListSaid (x is_body)) (sym b) (h (sym a ∙ fine) s is_body)

  all_said : (qs : List Met') → list_all is_yes (map (stmt_readable prog) (map (λ (q : Met'). q.0) qs)) ≡ true → (is_body : Bool) → ListSaid (all_shown is_body (map (stmt_shown prog) (map (λ (q : Met'). q.0) qs)))
  all_said [] h is_body = none_said
  all_said (q ∷ qs) h is_body =
      let p = and_parts (stmt_readable prog q.0) (list_all is_yes (map (stmt_readable prog) (map (λ (q : Met'). q.0) qs))) h in
      append_said (stmt_shown prog q.0 is_body) (all_shown is_body (map (stmt_shown prog) (map (λ (q : Met'). q.0) qs))) (q.1 p.0 is_body) (all_said qs p.1 is_body)

  declared_said : (x : List ℕ) (e : Option PExpr) → any_readable prog e ≡ true → Finds Declared SpeltDeclared (spell_declared (record { name = x; value = printed_any prog e })) (λ d. spanless_declared d ≡ spanless_declared (record { name = x; value = printed_any prog e }))
  declared_said x None h = finds_as (finds_then (finds_one (kind.Word x)) finds_nothing) (λ r. record { name = x; value = None }) (λ r ts c h. h) (λ r c. refl) refl
  declared_said x (Some e) h =
      finds_as (finds_then (finds_one (kind.Word x)) (finds_then (finds_sign mark.Assign) (expr_said prog e h)))
      (λ r. record { name = x; value = Some r.1.1 }) (λ r ts c h. h) (λ r c i. record { name = x; value = Some (c.1.1 i) }) refl

  return_said : (s : Span) (e : Option PExpr) → any_readable prog e ≡ true → StmtSaid InBlock (of_form s (form.Return (printed_any prog e)))
  return_said s None h =
      made InBlock (form.Return None) s (F.Return None) (form.rolls-Return None) (stmt_spelled s (form.Return None) (F.Return None) (form.rolls-Return None) InBlock)
      (finds_then (finds_key key.Return) (finds_then finds_nothing (finds_sign mark.Semicolon)))
      (λ r. F.Return None) (λ r ts c h. (refl, h)) (λ r c. refl)
  return_said s (Some e) h =
      let x = Some (printed_expr prog e) in
      made InBlock (form.Return x) s (F.Return x) (form.rolls-Return x) (stmt_spelled s (form.Return x) (F.Return x) (form.rolls-Return x) InBlock)
      (finds_then (finds_key key.Return) (finds_then (expr_said prog e h) (finds_sign mark.Semicolon)))
      (λ r. F.Return (Some r.1.0)) (λ r ts c h. (refl, h)) (λ r c i. F.Return (Some (c.1.0 i)))

  layer : (y : S.PForm-F Met Met') → LayerRead (down y)
  layer (S.Block qs) fine s true = all_said qs fine false
  layer (S.Block qs) fine s false =
      let es = all_shown false (map (stmt_shown prog) (map (λ (q : Met'). q.0) qs)) in
      one_said (block_of s es) (block_said InBlock refl s es (all_said qs fine false))
  layer (S.Declare slot x t e) fine s is_body =
      let y = erase_ty prog t in
      let d : Declared = record { name = x; value = printed_any prog e } in
      one_said (of_form s (form.Declare y (d ∷ [])))
      (made InBlock (form.Declare y (d ∷ [])) s (F.Declare y (d ∷ [])) (form.rolls-Declare y (d ∷ [])) (stmt_spelled s (form.Declare y (d ∷ [])) (F.Declare y (d ∷ [])) (form.rolls-Declare y (d ∷ [])) InBlock)
      (finds_then (ty_said prog t) (finds_then (finds_then (declared_said x e fine) finds_nothing) (finds_sign mark.Semicolon)))
      (λ r. F.Declare r.0 (r.1.0.0 ∷ [])) (λ r ts c h. (refl, h)) (λ r c i. F.Declare (c.0 i) (c.1.0.0 i ∷ [])))
  layer (S.Assign a e) fine s is_body =
      let p = and_parts (target_readable prog a) (expr_readable prog e) fine in
      let r = and_parts (is_target (printed_expr prog a)) (expr_readable prog a) p.0 in
      let x = printed_expr prog a in
      let y = printed_expr prog e in
      one_said (of_form s (form.Assign x y))
      (made InBlock (form.Assign x y) s (F.Assign x y) (form.rolls-Assign x y) (stmt_spelled s (form.Assign x y) (F.Assign x y) (form.rolls-Assign x y) InBlock)
      (finds_then (target_said x r.0 (expr_said prog a r.1)) (finds_then (finds_sign mark.Assign) (finds_then (expr_said prog e p.1) (finds_sign mark.Semicolon))))
      (λ r. F.Assign r.0 r.1.1.0) (λ r ts c h. h) (λ r c i. F.Assign (c.0 i) (c.1.1.0 i)))
  layer (S.Call e) fine s is_body =
      let p = and_parts (is_call (printed_expr prog e)) (expr_readable prog e) fine in
      let x = printed_expr prog e in
      one_said (of_form s (form.Call x))
      (made InBlock (form.Call x) s (F.Call x) (form.rolls-Call x) (stmt_spelled s (form.Call x) (F.Call x) (form.rolls-Call x) InBlock)
      (finds_then (expr_said prog e p.1) (finds_sign mark.Semicolon))
      (λ r. F.Call r.0) (λ r ts c h. (refl, (call_alike x r.0 c.0 ∙ p.0, h))) (λ r c i. F.Call (c.0 i)))
  layer (S.If z a None) fine s is_body =
      let p = and_parts (expr_readable prog z) (stmt_readable prog a.0 && true) fine in
      let q = and_parts (stmt_readable prog a.0) true p.1 in
      let x = printed_expr prog z in
      let es = stmt_shown prog a.0 true in
      let y = block_of s es in
      one_said (of_form s (form.If x y None))
      (made InBlock (form.If x y None) s (F.If x y None) (form.rolls-If x y None) (stmt_spelled s (form.If x y None) (F.If x y None) (form.rolls-If x y None) InBlock)
      (finds_then (finds_key key.If) (finds_then (parens_said x (expr_said prog z p.0)) (finds_then (block_said AsBody refl s es (a.1 q.0 true)) finds_nothing)))
      (λ r. F.If r.1.0 r.1.1.0 None) (λ r ts c h. (refl, h)) (λ r c i. F.If (c.1.0 i) (c.1.1.0 i) None))
  layer (S.If z a (Some b)) fine s is_body =
      let p = and_parts (expr_readable prog z) (stmt_readable prog a.0 && stmt_readable prog b.0) fine in
      let q = and_parts (stmt_readable prog a.0) (stmt_readable prog b.0) p.1 in
      let x = printed_expr prog z in
      let es = stmt_shown prog a.0 true in
      let gs = stmt_shown prog b.0 true in
      let y = block_of s es in
      let w = block_of s gs in
      one_said (of_form s (form.If x y (Some w)))
      (made InBlock (form.If x y (Some w)) s (F.If x y (Some w)) (form.rolls-If x y (Some w)) (stmt_spelled s (form.If x y (Some w)) (F.If x y (Some w)) (form.rolls-If x y (Some w)) InBlock)
      (finds_then (finds_key key.If) (finds_then (parens_said x (expr_said prog z p.0)) (finds_then (block_said AsBody refl s es (a.1 q.0 true)) (finds_then (finds_key key.Else) (block_said AsBody refl s gs (b.1 q.1 true))))))
      (λ r. F.If r.1.0 r.1.1.0 (Some r.1.1.1.1)) (λ r ts c h. (refl, h)) (λ r c i. F.If (c.1.0 i) (c.1.1.0 i) (Some (c.1.1.1.1 i))))
  layer (S.While z a) fine s is_body =
      let p = and_parts (expr_readable prog z) (stmt_readable prog a.0) fine in
      let x = printed_expr prog z in
      let es = stmt_shown prog a.0 true in
      let y = block_of s es in
      one_said (of_form s (form.While x y))
      (made InBlock (form.While x y) s (F.While x y) (form.rolls-While x y) (stmt_spelled s (form.While x y) (F.While x y) (form.rolls-While x y) InBlock)
      (finds_then (finds_key key.While) (finds_then (parens_said x (expr_said prog z p.0)) (block_said AsBody refl s es (a.1 p.1 true))))
      (λ r. F.While r.1.0 r.1.1) (λ r ts c h. (refl, h)) (λ r c i. F.While (c.1.0 i) (c.1.1 i)))
  layer (S.Return e) fine s is_body = one_said (of_form s (form.Return (printed_any prog e))) (return_said s e fine)
  layer (S.Assert e) fine s is_body =
      let x = printed_expr prog e in
      one_said (of_form s (form.Assert x))
      (made InBlock (form.Assert x) s (F.Assert x) (form.rolls-Assert x) (stmt_spelled s (form.Assert x) (F.Assert x) (form.rolls-Assert x) InBlock)
      (finds_then (finds_key key.Assert) (finds_then (expr_said prog e fine) (finds_sign mark.Semicolon)))
      (λ r. F.Assert r.1.0) (λ r ts c h. (refl, h)) (λ r c i. F.Assert (c.1.0 i)))
  layer (S.Assume e) fine s is_body =
      let x = printed_expr prog e in
      one_said (of_form s (form.Assume x))
      (made InBlock (form.Assume x) s (F.Assume x) (form.rolls-Assume x) (stmt_spelled s (form.Assume x) (F.Assume x) (form.rolls-Assume x) InBlock)
      (finds_then (finds_key key.Assume) (finds_then (expr_said prog e fine) (finds_sign mark.Semicolon)))
      (λ r. F.Assume r.1.0) (λ r ts c h. (refl, h)) (λ r c i. F.Assume (c.1.0 i)))
  layer (S.Minimize e) fine s is_body =
      let x = printed_expr prog e in
      one_said (of_form s (form.Minimize x))
      (made InBlock (form.Minimize x) s (F.Minimize x) (form.rolls-Minimize x) (stmt_spelled s (form.Minimize x) (F.Minimize x) (form.rolls-Minimize x) InBlock)
      (finds_then (finds_key key.Minimize) (finds_then (parens_said x (expr_said prog e fine)) (finds_sign mark.Semicolon)))
      (λ r. F.Minimize r.1.0) (λ r ts c h. (refl, h)) (λ r c i. F.Minimize (c.1.0 i)))
  layer (S.Repeat z qs) fine s is_body =
      let p = and_parts (expr_readable prog z) (list_all is_yes (map (stmt_readable prog) (map (λ (q : Met'). q.0) qs))) fine in
      let x = printed_expr prog z in
      let es = all_shown true (map (stmt_shown prog) (map (λ (q : Met'). q.0) qs)) in
      let y = block_of s es in
      one_said (of_form s (form.Repeat x y))
      (made InBlock (form.Repeat x y) s (F.Repeat x y) (form.rolls-Repeat x y) (stmt_spelled s (form.Repeat x y) (F.Repeat x y) (form.rolls-Repeat x y) InBlock)
      (finds_then (finds_key key.Repeat) (finds_then (parens_said x (expr_said prog z p.0)) (block_said AsBody refl s es (all_said qs p.1 true))))
      (λ r. F.Repeat r.1.0 r.1.1) (λ r ts c h. (refl, h)) (λ r c i. F.Repeat (c.1.0 i) (c.1.1 i)))
  layer (S.MinRepeat qs) fine s is_body =
      let es = all_shown true (map (stmt_shown prog) (map (λ (q : Met'). q.0) qs)) in
      let y = block_of s es in
      one_said (of_form s (form.MinRepeat y))
      (made InBlock (form.MinRepeat y) s (F.MinRepeat y) (form.rolls-MinRepeat y) (stmt_spelled s (form.MinRepeat y) (F.MinRepeat y) (form.rolls-MinRepeat y) InBlock)
      (finds_then (finds_key key.Minrepeat) (block_said AsBody refl s es (all_said qs fine true)))
      (λ r. F.MinRepeat r.1) (λ r ts c h. (refl, h)) (λ r c i. F.MinRepeat (c.1 i)))
  layer (S.Reorder qs) fine s is_body =
      let es = all_shown false (map (stmt_shown prog) (map (λ (q : Met'). q.0) qs)) in
      one_said (of_form s (form.Reorder es))
      (made InBlock (form.Reorder es) s (F.Reorder es) (form.rolls-Reorder es)
      (stmt_spelled s (form.Reorder es) (F.Reorder es) (form.rolls-Reorder es) InBlock ∙ ap (λ z. kind.Key key.Reorder ∷ kind.Mark mark.OpenBrace ∷ (z ++ (kind.Mark mark.CloseBrace ∷ []))) (in_block es))
      (finds_then (finds_key key.Reorder) (finds_then (finds_sign mark.OpenBrace) (finds_then (all_said qs fine false) (finds_sign mark.CloseBrace))))
      (λ r. F.Reorder r.1.1.0) (λ r ts c h. (refl, h)) (λ r c i. F.Reorder (c.1.1.0 i)))

  -- the statements that stand for a statement
  pub stmt_said : (p : PStmt) → StmtRead p
  stmt_said = ind-PStmt FormRead StmtRead
      (λ x y is. subst (λ z. FormRead (roll-PForm z)) is (form_from (down y) (layer y)))
      (λ x y is. subst (λ z. StmtRead (roll-PStmt z)) is (in_stmt y.span y.form.0 y.form.1))

  pub body_said : (ps : List PStmt) → list_all (stmt_readable prog) ps ≡ true → ListSaid (flat_map (λ p. stmt_shown prog p false) ps)
  body_said [] h = none_said
  body_said (p ∷ ps) h =
      let q = and_parts (stmt_readable prog p) (list_all (stmt_readable prog) ps) h in
      append_said (stmt_shown prog p false) (flat_map (λ p. stmt_shown prog p false) ps) (stmt_said p q.0 false) (body_said ps q.1)
