-- The lines of a statement tell the kinds that spell the statements that are printed for it.
use Rattle.std.proofs.Common.{◌≡◌, ℕ, suc, Bool, true, false, ◌&&◌, List, [], ◌∷◌, ◌++◌, map, Option, Some, None, refl, sym, ap, ◌∙◌, subst, append_assoc, append-nil, codes}
use Rattle.std.specs.Prelude.{nat_lt}
use Rattle.std.specs.List.{list_all}
use Rattle.std.proofs.lemmas.Bool.{and_parts}
use Rattle.sk_base.specs.declared.span.Span.{Span}
use Rattle.sk_tree.specs.declared.token.Mark.TheVariants as mark
use Rattle.sk_tree.specs.declared.token.Key.TheVariants as key
use Rattle.sk_tree.specs.declared.stmt.Stmt.{Stmt}
use Rattle.sk_tree.specs.declared.stmt.Form.{Form}
use Rattle.sk_tree.specs.declared.stmt.Form.TheVariants as form
use Rattle.sk_tree.specs.declared.stmt.Form.TheOpen as F
use Rattle.sk_tree.specs.declared.stmt.Declared.{Declared}
use Rattle.sk_tree.specs.Spelling.{key_of}
use Rattle.sk_tree.specs.Shapes.{is_letter, is_digit}
use Rattle.sk_tree.specs.Spelt.{Role, InBlock, AsBody}
use Rattle.sk_tree.specs.Spell.{Kinds, ◌▹◌, each, word, sign, keyword, perhaps, spell_expr, spell_ty, spell_declared, spell_parens, spell_stmt}
use Rattle.sk_prog.specs.declared.ty.Ty.{Ty}
use Rattle.sk_prog.specs.declared.expr.PExpr.{PExpr}
use Rattle.sk_prog.specs.declared.stmt.PStmt.{PStmt}
use Rattle.sk_prog.specs.declared.stmt.PForm.{PForm}
use Rattle.sk_prog.specs.declared.stmt.PForm.TheOpen as S
use Rattle.sk_prog.specs.declared.stmt.PForm.TheViews.{roll-PForm, roll-PStmt}
use Rattle.sk_prog.specs.declared.stmt.PForm.TheFolds.{map-PForm, fold-PForm, fold-roll-PForm, fold-roll-PStmt, ind-PStmt}
use Rattle.sk_prog.specs.declared.prog.Prog.{Prog}
use Rattle.sk_prog.specs.Names.{is_yes}
use Rattle.sk_prog.specs.Fits.{is_name, ty_fits, expr_fits, any_expr_fits, form_fits, stmt_fits}
use Rattle.sk_types_rules.specs.Erase.{erase_ty}
use Rattle.sk_print.specs.Layout.{expr_layout, ty_layout, line, Lines, each_line, initial_layout, returned_layout, pform_layout, stmt_lines}
use Rattle.sk_print_laws.specs.Printed.{printed_expr, printed_any, Shown, all_shown, of_form, block_of, form_printed, stmt_shown}
use Rattle.sk_print_laws.specs.Numbers.{ty_small, expr_small, any_expr_small, form_small, stmt_small}
use Rattle.sk_print_laws.proofs.Told.{Free, Told, parts, nothing, told, same, then, then_told, told_then, name, key_told, key_space, open_paren, close_paren, semicolon, assign_space, spaced, four, five}
use Rattle.sk_print_laws.proofs.Names.{Fits}
use Rattle.sk_print_laws.proofs.Lines.{ty_told, line_told, head_told, parens_told, end_told, if_told, while_told, repeat_told, minrepeat_told, reorder_told, else_told}
use Rattle.sk_print_laws.proofs.Spelled.{stmt_spelled}
use Rattle.sk_print_laws.proofs.Exprs.{expr_told}

-- the kinds that spell statements in a block
abbrev pub kinds_of : List Stmt → Kinds
kinds_of es = each (map (λ e. spell_stmt e InBlock) es)

pub kinds_append : (es fs : List Stmt) → kinds_of (es ++ fs) ≡ kinds_of es ++ kinds_of fs
kinds_append [] fs = refl
kinds_append (e ∷ es) fs = ap (λ z. spell_stmt e InBlock ++ z) (kinds_append es fs) ∙ sym (append_assoc (spell_stmt e InBlock) (kinds_of es) (kinds_of fs))

pub in_block : (es : List Stmt) → each (map (λ (s : Role → Kinds). s InBlock) (map spell_stmt es)) ≡ kinds_of es
in_block [] = refl
in_block (e ∷ es) = ap (λ z. spell_stmt e InBlock ++ z) (in_block es)

pub block_spelled : (s : Span) (es : List Stmt) (role : Role) → spell_stmt (block_of s es) role ≡ sign mark.OpenBrace ▹ kinds_of es ▹ sign mark.CloseBrace
block_spelled s es role = stmt_spelled s (form.Block es) (F.Block es) (form.rolls-Block es) role ∙ ap (λ z. sign mark.OpenBrace ▹ z ▹ sign mark.CloseBrace) (in_block es)

-- one statement alone
one_told : {bs : List ℕ} {ks : Kinds} (s : Span) (f : Form) → spell_stmt (of_form s f) InBlock ≡ ks → Free bs ks → Free bs (kinds_of (of_form s f ∷ []))
one_told s f e h = same refl (append-nil (spell_stmt (of_form s f) InBlock) ∙ e) h

-- The kinds of blocks, put together in two ways.

braced_kinds : (ks ls : Kinds) → (ks ++ sign mark.OpenBrace) ++ ls ++ sign mark.CloseBrace ≡ ks ++ (sign mark.OpenBrace ++ (ls ++ sign mark.CloseBrace))
braced_kinds ks ls = simp append_assoc

loop_kinds : (ks c ls : Kinds) → ((ks ++ (c ++ sign mark.CloseParen)) ++ sign mark.OpenBrace) ++ ls ++ sign mark.CloseBrace ≡ ks ++ ((c ++ sign mark.CloseParen) ++ (sign mark.OpenBrace ++ (ls ++ sign mark.CloseBrace)))
loop_kinds ks c ls = simp append_assoc

else_kinds : (c ls bs : Kinds) → (((c ++ sign mark.CloseParen) ++ sign mark.OpenBrace) ++ ls ++ (((sign mark.CloseBrace ++ keyword key.Else) ++ sign mark.OpenBrace) ++ bs)) ++ sign mark.CloseBrace ≡ (c ++ sign mark.CloseParen) ++ ((sign mark.OpenBrace ++ (ls ++ sign mark.CloseBrace)) ++ (keyword key.Else ++ (sign mark.OpenBrace ++ (bs ++ sign mark.CloseBrace))))
else_kinds c ls bs = simp append_assoc

module _ (prog : Prog) (fits : Fits prog) (slots : ℕ) where
  abbrev form_lines : PForm → Lines
  form_lines = fold-PForm Lines Lines (pform_layout prog) (λ s. s.form)

  abbrev form_fit : PForm → Bool
  form_fit = fold-PForm Bool Bool (form_fits prog slots) (λ s. s.form)

  abbrev form_is_small : PForm → Bool
  form_is_small = fold-PForm Bool Bool form_small (λ s. s.form)

  abbrev form_shown : PForm → Span → Shown
  form_shown = fold-PForm (Span → Shown) Shown (form_printed prog) (λ p. p.form p.span)

  abbrev FormIs : Lines → Bool → Bool → (Span → Shown) → Type 0
  FormIs lines fit small shown = fit ≡ true → small ≡ true → (s : Span) (is_body : Bool) (depth : ℕ) → Free (lines is_body depth) (kinds_of (shown s is_body))

  abbrev FormTold : PForm → Type 0
  FormTold f = FormIs (form_lines f) (form_fit f) (form_is_small f) (form_shown f)

  abbrev pub StmtTold : PStmt → Type 0
  StmtTold p = stmt_fits prog slots p ≡ true → stmt_small p ≡ true → (is_body : Bool) (depth : ℕ) → Free (stmt_lines prog p is_body depth) (kinds_of (stmt_shown prog p is_body))

  abbrev Met : Type 0
  Met = (f : PForm) × FormTold f

  abbrev Met' : Type 0
  Met' = (s : PStmt) × StmtTold s

  abbrev down : S.PForm-F Met Met' → S.PForm-F PForm PStmt
  down = map-PForm Met Met' PForm PStmt (λ q. q.0) (λ q. q.0)

  abbrev lines_of : S.PForm-F PForm PStmt → S.PForm-F Lines Lines
  lines_of = map-PForm PForm PStmt Lines Lines form_lines (stmt_lines prog)

  abbrev fits_of : S.PForm-F PForm PStmt → S.PForm-F Bool Bool
  fits_of = map-PForm PForm PStmt Bool Bool form_fit (stmt_fits prog slots)

  abbrev smalls_of : S.PForm-F PForm PStmt → S.PForm-F Bool Bool
  smalls_of = map-PForm PForm PStmt Bool Bool form_is_small stmt_small

  abbrev shown_of : S.PForm-F PForm PStmt → S.PForm-F (Span → Shown) Shown
  shown_of = map-PForm PForm PStmt (Span → Shown) Shown form_shown (stmt_shown prog)

  abbrev LayerTold : S.PForm-F PForm PStmt → Type 0
  LayerTold l = FormIs (pform_layout prog (lines_of l)) (form_fits prog slots (fits_of l)) (form_small (smalls_of l)) (form_printed prog (shown_of l))

  form_from : (l : S.PForm-F PForm PStmt) → LayerTold l → FormTold (roll-PForm l)
  form_from l h fit small s is_body depth =
      let a = fold-roll-PForm Lines Lines (pform_layout prog) (λ x. x.form) l in
      let b = fold-roll-PForm Bool Bool (form_fits prog slots) (λ x. x.form) l in
      let c = fold-roll-PForm Bool Bool form_small (λ x. x.form) l in
      let d = fold-roll-PForm (Span → Shown) Shown (form_printed prog) (λ p. p.form p.span) l in
      let is : Free (pform_layout prog (lines_of l) is_body depth) (kinds_of (form_printed prog (shown_of l) s is_body)) = h (sym b ∙ fit) (sym c ∙ small) s is_body depth in
      same (λ i. a i is_body depth) (λ i. kinds_of (d i s is_body)) is

  in_stmt : (s : Span) (f : PForm) → FormTold f → StmtTold (record { span = s; form = f })
  in_stmt s f h fit small is_body depth =
      let a = fold-roll-PStmt Lines Lines (pform_layout prog) (λ x. x.form) (record { span = s; form = f }) in
      let b = fold-roll-PStmt Bool Bool (form_fits prog slots) (λ x. x.form) (record { span = s; form = f }) in
      let c = fold-roll-PStmt Bool Bool form_small (λ x. x.form) (record { span = s; form = f }) in
      let d = fold-roll-PStmt (Span → Shown) Shown (form_printed prog) (λ p. p.form p.span) (record { span = s; form = f }) in
      let is : Free (form_lines f is_body depth) (kinds_of (form_shown f s is_body)) = h (sym b ∙ fit) (sym c ∙ small) s is_body depth in
      same (λ i. a i is_body depth) (λ i. kinds_of (d i is_body)) is

  all_told : (ss : List Met') → list_all is_yes (map (stmt_fits prog slots) (map (λ (q : Met'). q.0) ss)) ≡ true → list_all is_yes (map stmt_small (map (λ (q : Met'). q.0) ss)) ≡ true → (is_body : Bool) (depth : ℕ) → Free (each_line is_body depth (map (stmt_lines prog) (map (λ (q : Met'). q.0) ss))) (kinds_of (all_shown is_body (map (stmt_shown prog) (map (λ (q : Met'). q.0) ss))))
  all_told [] fit small is_body depth = nothing
  all_told (q ∷ ss) fit small is_body depth =
      let f = and_parts (stmt_fits prog slots q.0) (list_all is_yes (map (stmt_fits prog slots) (map (λ (q : Met'). q.0) ss))) fit in
      let m = and_parts (stmt_small q.0) (list_all is_yes (map stmt_small (map (λ (q : Met'). q.0) ss))) small in
      let more = all_shown is_body (map (stmt_shown prog) (map (λ (q : Met'). q.0) ss)) in
      same refl (kinds_append (stmt_shown prog q.0 is_body) more) (then (q.1 f.0 m.0 is_body depth) (all_told ss f.1 m.1 is_body depth))

  expr : (e : PExpr) → expr_fits prog slots e ≡ true → expr_small e ≡ true → Told (expr_layout prog e) (spell_expr (printed_expr prog e))
  expr e fit small = (expr_told prog fits slots e fit small).tells

  initial_told : (e : Option PExpr) → any_expr_fits prog slots e ≡ true → any_expr_small e ≡ true → Told (initial_layout prog e) (perhaps (λ value. sign mark.Assign ▹ spell_expr value) (printed_any prog e))
  initial_told None fit small = told nothing
  initial_told (Some e) fit small = then_told (spaced assign_space) (expr e fit small)

  initial_parts : (e : Option PExpr) → parts (initial_layout prog e ++ codes ";") ≡ true
  unfolding is_letter is_digit
  initial_parts None = refl
  initial_parts (Some e) = refl

  return_told : (e : Option PExpr) → any_expr_fits prog slots e ≡ true → any_expr_small e ≡ true → Free (codes "return" ++ returned_layout prog e ++ codes ";") (keyword key.Return ▹ perhaps spell_expr (printed_any prog e) ▹ sign mark.Semicolon)
  unfolding is_letter is_digit key_of
  return_told None fit small = told_then (key_told key.Return (codes "return") refl refl) semicolon refl
  return_told (Some e) fit small = then (key_space key.Return (codes "return") refl refl) (told_then (expr e fit small) semicolon refl)

  declare_told : (x : List ℕ) (t : Ty) (e : Option PExpr) → is_name x ≡ true → ty_fits prog t ≡ true → ty_small t ≡ true → any_expr_fits prog slots e ≡ true → any_expr_small e ≡ true → Free (ty_layout prog t ++ codes " " ++ x ++ initial_layout prog e ++ codes ";") (spell_ty (erase_ty prog t) ▹ (word x ▹ perhaps (λ value. sign mark.Assign ▹ spell_expr value) (printed_any prog e)) ▹ sign mark.Semicolon)
  unfolding is_letter is_digit
  declare_told x t e named t_fits t_small e_fits e_small =
      let value = perhaps (λ value. sign mark.Assign ▹ spell_expr value) (printed_any prog e) in
      same (five (ty_layout prog t) (codes " ") x (initial_layout prog e) (codes ";")) refl
      (told_then (ty_told prog fits t t_fits t_small) (spaced (told_then (name x named) (told_then (initial_told e e_fits e_small) semicolon refl) (initial_parts e))) refl)

  braced_told : (depth : ℕ) {b body : List ℕ} {ks ls : Kinds} → Free b ks → Free body ls → Free (line depth (b ++ codes "{") ++ body ++ line depth (codes "}")) (ks ++ (sign mark.OpenBrace ++ (ls ++ sign mark.CloseBrace)))
  braced_told depth {b} {body} {ks} {ls} f g = same refl (sym (braced_kinds ks ls)) (then (then (head_told depth f) g) (end_told depth))

  loop_told : (depth : ℕ) {b c body : List ℕ} {ks cs ls : Kinds} → Free b ks → Told c cs → Free body ls → Free (line depth (b ++ c ++ codes ") {") ++ body ++ line depth (codes "}")) (ks ++ ((cs ++ sign mark.CloseParen) ++ (sign mark.OpenBrace ++ (ls ++ sign mark.CloseBrace))))
  loop_told depth {b} {c} {body} {ks} {cs} {ls} f h g = same refl (sym (loop_kinds ks cs ls)) (then (then (parens_told depth f h) g) (end_told depth))

  layer : (y : S.PForm-F Met Met') → LayerTold (down y)
  unfolding is_letter is_digit key_of
  layer (S.Block ss) fit small s true depth = all_told ss fit small false depth
  layer (S.Block ss) fit small s false depth =
      let es = all_shown false (map (stmt_shown prog) (map (λ (q : Met'). q.0) ss)) in
      one_told s (form.Block es) (block_spelled s es InBlock) (braced_told depth {b = []} {ks = []} nothing (all_told ss fit small false (suc depth)))
  layer (S.Declare slot x t e) fit small s is_body depth =
      let f = (and_parts (nat_lt slot slots) (is_name x && (ty_fits prog t && any_expr_fits prog slots e)) fit).1 in
      let g = and_parts (is_name x) (ty_fits prog t && any_expr_fits prog slots e) f in
      let h = and_parts (ty_fits prog t) (any_expr_fits prog slots e) g.1 in
      let m = and_parts (ty_small t) (any_expr_small e) small in
      let d : Declared = record { name = x; value = printed_any prog e } in
      one_told s (form.Declare (erase_ty prog t) (d ∷ []))
      (stmt_spelled s (form.Declare (erase_ty prog t) (d ∷ [])) (F.Declare (erase_ty prog t) (d ∷ [])) (form.rolls-Declare (erase_ty prog t) (d ∷ [])) InBlock
      ∙ ap (λ z. spell_ty (erase_ty prog t) ▹ z ▹ sign mark.Semicolon) (append-nil (spell_declared d)))
      (line_told depth (declare_told x t e g.0 h.0 m.0 h.1 m.1))
  layer (S.Assign p e) fit small s is_body depth =
      let f = and_parts (expr_fits prog slots p) (expr_fits prog slots e) fit in
      let m = and_parts (expr_small p) (expr_small e) small in
      let x = printed_expr prog p in
      let y = printed_expr prog e in
      one_told s (form.Assign x y) (stmt_spelled s (form.Assign x y) (F.Assign x y) (form.rolls-Assign x y) InBlock)
      (line_told depth (same (four (expr_layout prog p) (codes " = ") (expr_layout prog e) (codes ";")) refl
      (told_then (expr p f.0 m.0) (then (spaced assign_space) (told_then (expr e f.1 m.1) semicolon refl)) refl)))
  layer (S.Call e) fit small s is_body depth =
      let x = printed_expr prog e in
      one_told s (form.Call x) (stmt_spelled s (form.Call x) (F.Call x) (form.rolls-Call x) InBlock) (line_told depth (told_then (expr e fit small) semicolon refl))
  layer (S.If c a None) fit small s is_body depth =
      let f = and_parts (expr_fits prog slots c) (stmt_fits prog slots a.0 && true) fit in
      let g = and_parts (stmt_fits prog slots a.0) true f.1 in
      let m = and_parts (expr_small c) (stmt_small a.0 && true) small in
      let k = and_parts (stmt_small a.0) true m.1 in
      let x = printed_expr prog c in
      let es = stmt_shown prog a.0 true in
      let y = block_of s es in
      one_told s (form.If x y None)
      (stmt_spelled s (form.If x y None) (F.If x y None) (form.rolls-If x y None) InBlock
      ∙ ap (λ z. keyword key.If ▹ spell_parens x ▹ z) (append-nil (spell_stmt y AsBody) ∙ block_spelled s es AsBody))
      (same (ap (λ z. z ++ line depth (codes "}")) (append-nil (line depth (codes "if (" ++ expr_layout prog c ++ codes ") {") ++ stmt_lines prog a.0 true (suc depth)))) refl
      (loop_told depth if_told (expr c f.0 m.0) (a.1 g.0 k.0 true (suc depth))))
  layer (S.If c a (Some b)) fit small s is_body depth =
      let f = and_parts (expr_fits prog slots c) (stmt_fits prog slots a.0 && stmt_fits prog slots b.0) fit in
      let g = and_parts (stmt_fits prog slots a.0) (stmt_fits prog slots b.0) f.1 in
      let m = and_parts (expr_small c) (stmt_small a.0 && stmt_small b.0) small in
      let k = and_parts (stmt_small a.0) (stmt_small b.0) m.1 in
      let x = printed_expr prog c in
      let es = stmt_shown prog a.0 true in
      let gs = stmt_shown prog b.0 true in
      let y = block_of s es in
      let z = block_of s gs in
      one_told s (form.If x y (Some z))
      (stmt_spelled s (form.If x y (Some z)) (F.If x y (Some z)) (form.rolls-If x y (Some z)) InBlock
      ∙ (λ i. keyword key.If ▹ spell_parens x ▹ block_spelled s es AsBody i ▹ keyword key.Else ▹ block_spelled s gs AsBody i)
      ∙ ap (λ w. keyword key.If ▹ sign mark.OpenParen ▹ w) (sym (else_kinds (spell_expr x) (kinds_of es) (kinds_of gs))))
      (then (then (then (parens_told depth if_told (expr c f.0 m.0)) (a.1 g.0 k.0 true (suc depth))) (then (head_told depth else_told) (b.1 g.1 k.1 true (suc depth)))) (end_told depth))
  layer (S.While c a) fit small s is_body depth =
      let f = and_parts (expr_fits prog slots c) (stmt_fits prog slots a.0) fit in
      let m = and_parts (expr_small c) (stmt_small a.0) small in
      let x = printed_expr prog c in
      let es = stmt_shown prog a.0 true in
      let y = block_of s es in
      one_told s (form.While x y)
      (stmt_spelled s (form.While x y) (F.While x y) (form.rolls-While x y) InBlock ∙ ap (λ z. keyword key.While ▹ spell_parens x ▹ z) (block_spelled s es AsBody))
      (loop_told depth while_told (expr c f.0 m.0) (a.1 f.1 m.1 true (suc depth)))
  layer (S.Return e) fit small s is_body depth =
      let x = printed_any prog e in
      one_told s (form.Return x) (stmt_spelled s (form.Return x) (F.Return x) (form.rolls-Return x) InBlock) (line_told depth (return_told e fit small))
  layer (S.Assert e) fit small s is_body depth =
      let x = printed_expr prog e in
      one_told s (form.Assert x) (stmt_spelled s (form.Assert x) (F.Assert x) (form.rolls-Assert x) InBlock)
      (line_told depth (then (key_space key.Assert (codes "assert") refl refl) (told_then (expr e fit small) semicolon refl)))
  layer (S.Assume e) fit small s is_body depth =
      let x = printed_expr prog e in
      one_told s (form.Assume x) (stmt_spelled s (form.Assume x) (F.Assume x) (form.rolls-Assume x) InBlock)
      (line_told depth (then (key_space key.Assume (codes "assume") refl refl) (told_then (expr e fit small) semicolon refl)))
  layer (S.Minimize e) fit small s is_body depth =
      let x = printed_expr prog e in
      one_told s (form.Minimize x)
      (stmt_spelled s (form.Minimize x) (F.Minimize x) (form.rolls-Minimize x) InBlock ∙ ap (λ z. keyword key.Minimize ▹ sign mark.OpenParen ▹ z) (append_assoc (spell_expr x) (sign mark.CloseParen) (sign mark.Semicolon)))
      (line_told depth (told_then (key_told key.Minimize (codes "minimize") refl refl) (then open_paren (told_then (expr e fit small) (then close_paren semicolon) refl)) refl))
  layer (S.Repeat c ss) fit small s is_body depth =
      let f = and_parts (expr_fits prog slots c) (list_all is_yes (map (stmt_fits prog slots) (map (λ (q : Met'). q.0) ss))) fit in
      let m = and_parts (expr_small c) (list_all is_yes (map stmt_small (map (λ (q : Met'). q.0) ss))) small in
      let x = printed_expr prog c in
      let es = all_shown true (map (stmt_shown prog) (map (λ (q : Met'). q.0) ss)) in
      let y = block_of s es in
      one_told s (form.Repeat x y)
      (stmt_spelled s (form.Repeat x y) (F.Repeat x y) (form.rolls-Repeat x y) InBlock ∙ ap (λ z. keyword key.Repeat ▹ spell_parens x ▹ z) (block_spelled s es AsBody))
      (loop_told depth repeat_told (expr c f.0 m.0) (all_told ss f.1 m.1 true (suc depth)))
  layer (S.MinRepeat ss) fit small s is_body depth =
      let es = all_shown true (map (stmt_shown prog) (map (λ (q : Met'). q.0) ss)) in
      let y = block_of s es in
      one_told s (form.MinRepeat y)
      (stmt_spelled s (form.MinRepeat y) (F.MinRepeat y) (form.rolls-MinRepeat y) InBlock ∙ ap (λ z. keyword key.Minrepeat ▹ z) (block_spelled s es AsBody))
      (braced_told depth minrepeat_told (all_told ss fit small true (suc depth)))
  layer (S.Reorder ss) fit small s is_body depth =
      let es = all_shown false (map (stmt_shown prog) (map (λ (q : Met'). q.0) ss)) in
      one_told s (form.Reorder es)
      (stmt_spelled s (form.Reorder es) (F.Reorder es) (form.rolls-Reorder es) InBlock ∙ ap (λ z. keyword key.Reorder ▹ sign mark.OpenBrace ▹ z ▹ sign mark.CloseBrace) (in_block es))
      (braced_told depth reorder_told (all_told ss fit small false (suc depth)))

  -- the lines of a statement
  pub stmt_told : (p : PStmt) → StmtTold p
  stmt_told = ind-PStmt FormTold StmtTold
      (λ x y is. subst (λ z. FormTold (roll-PForm z)) is (form_from (down y) (layer y)))
      (λ x y is. subst (λ z. StmtTold (roll-PStmt z)) is (in_stmt y.span y.form.0 y.form.1))
