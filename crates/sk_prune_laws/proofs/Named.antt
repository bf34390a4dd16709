-- What is left of statements has no other names.
use Rattle.std.proofs.Common.{◌≡◌, ℕ, Bool, true, false, ◌&&◌, List, [], ◌∷◌, ◌++◌, map, length, Option, Some, None, refl, sym, ap, subst, ◌∙◌}
use Rattle.std.specs.Prelude.{nat_le, if◌then◌else◌}
use Rattle.std.specs.List.{list_all, list_any}
use Rattle.std.proofs.lemmas.Bool.{and_parts}
use Rattle.sk_base.specs.declared.span.Span.{Span}
use Rattle.sk_prog.specs.declared.expr.PExpr.{PExpr}
use Rattle.sk_prog.specs.declared.stmt.PStmt.{PStmt}
use Rattle.sk_prog.specs.declared.stmt.PForm.{PForm}
use Rattle.sk_prog.specs.declared.stmt.PForm.TheVariants as form
use Rattle.sk_prog.specs.declared.prog.ConstDef.{ConstDef}
use Rattle.sk_prog.specs.Names.{is_yes, expr_names, form_names, stmt_names}
use Rattle.sk_model.specs.Sites.{is_hole}
use Rattle.sk_model.proofs.Induction.{Each, StmtCases, stmt_ind}
use Rattle.sk_model.proofs.Layers.{layer_of_block, layer_of_declare, layer_of_assign, layer_of_call, layer_of_if, layer_of_if_else, layer_of_while, layer_of_return, layer_of_assert, layer_of_assume, layer_of_minimize, layer_of_repeat, layer_of_minrepeat, layer_of_reorder}
use Rattle.sk_prune.specs.declared.constant.Constant.{Constant}
use Rattle.sk_prune.specs.declared.constant.Constant.TheVariants.{Bit, Number}
use Rattle.sk_prune.specs.Constants.{constant}
use Rattle.sk_prune.specs.Trimmed.{Trimmed, nothing, one, declares, block, opened, up_to_end, trimmed_block, else_body, kept_if, bodies, trim_form, trim, trimmed}
use Rattle.sk_prune.specs.Trimmed as T

module _ (test : List ℕ → Bool) (consts : List ConstDef) (width : ℕ) where
  abbrev cut : PStmt → Trimmed
  cut = trim consts width

  abbrev named : PStmt → Bool
  named = stmt_names test

  abbrev all : List PStmt → Bool
  all ss = list_all named ss

  abbrev put : Span → PForm → PStmt
  put s f = record { span = s; form = f }

  abbrev Left : Trimmed → Type 0
  Left t = (all t.among ≡ true) × (all t.inside ≡ true)

  abbrev At : PStmt → Type 0
  At s = named s ≡ true → Left (cut s)

  by_form : (s : PStmt) (b : Bool) (t : Trimmed) → named s ≡ b → cut s ≡ t → (b ≡ true → Left t) → At s
  by_form s b t n e h k = subst Left (sym e) (h (sym n ∙ k))

  each_yes : (ss : List PStmt) → list_all is_yes (map named ss) ≡ all ss
  each_yes [] = refl
  each_yes (s ∷ ss) = ap (λ b. named s && b) (each_yes ss)

  join : (xs ys : List PStmt) → all xs ≡ true → all ys ≡ true → all (xs ++ ys) ≡ true
  join [] ys h k = k
  join (x ∷ xs) ys h k =
      let b = and_parts (named x) (all xs) h in
      let one = b.0 in
      let more = join xs ys b.1 k in
      λ i. one i && more i

  both : (a b : Bool) → a ≡ true → b ≡ true → (a && b) ≡ true
  both a b h k = λ i. h i && k i

  single : (span : Span) (f : PForm) (ends : Bool) → named (put span f) ≡ true → Left (one span f ends)
  single span f ends h = (both (named (put span f)) true h refl, both (named (put span f)) true h refl)

  block_named : (span : Span) (ss : List PStmt) → all ss ≡ true → named (block span ss) ≡ true
  block_named span ss h = layer_of_block Bool Bool (form_names test) (λ s. s.form) span ss ∙ each_yes ss ∙ h

  up_to_named : (ss : List PStmt) → Each At ss → all ss ≡ true → all (up_to_end (map cut ss)) ≡ true
  up_to_named [] h k = refl
  up_to_named (s ∷ ss) h k = go (up_to_named ss h.1 (and_parts (named s) (all ss) k).1) (cut s).ends
    where
      first : Left (cut s)
      first = h.0 (and_parts (named s) (all ss) k).0

      go : all (up_to_end (map cut ss)) ≡ true → (b : Bool) → all (if b then (cut s).among else (cut s).among ++ up_to_end (map cut ss)) ≡ true
      go rest true = first.0
      go rest false = join (cut s).among (up_to_end (map cut ss)) first.0 rest

  opened_named : (span : Span) (ss : List PStmt) → all ss ≡ true → all (opened span ss) ≡ true
  opened_named span ss h = go (list_any declares ss)
    where
      go : (b : Bool) → all (if b then block span ss ∷ [] else ss) ≡ true
      go true = both (named (block span ss)) true (block_named span ss h) refl
      go false = h

  row_left : (span : Span) (ss : List PStmt) → Each At ss → all ss ≡ true → Left (trimmed_block span (map cut ss))
  row_left span ss h k = let l = up_to_named ss h k in (opened_named span (up_to_end (map cut ss)) l, l)

  body_named : (span : Span) (a : PStmt) → At a → named a ≡ true → named (block span (cut a).inside) ≡ true
  body_named span a h k = let l = h k in block_named span (cut a).inside l.1

  bodies_named : (span : Span) (ss : List PStmt) → Each At ss → all ss ≡ true → all (bodies span (map cut ss)) ≡ true
  bodies_named span [] h k = refl
  bodies_named span (s ∷ ss) h k =
      let b = and_parts (named s) (all ss) k in
      both (named (block span (cut s).inside)) (all (bodies span (map cut ss))) (body_named span s h.0 b.0) (bodies_named span ss h.1 b.1)

  if_named : (span : Span) (c : PExpr) (a : PStmt) → expr_names test c ≡ true → named a ≡ true → named (put span (form.If c a None)) ≡ true
  if_named span c a h k = layer_of_if Bool Bool (form_names test) (λ s. s.form) span c a ∙ both (expr_names test c) (named a && true) h (both (named a) true k refl)

  if_else_named : (span : Span) (c : PExpr) (a b : PStmt) → expr_names test c ≡ true → named a ≡ true → named b ≡ true → named (put span (form.If c a (Some b))) ≡ true
  if_else_named span c a b h k l = layer_of_if_else Bool Bool (form_names test) (λ s. s.form) span c a b ∙ both (expr_names test c) (named a && named b) h (both (named a) (named b) k l)

  kept_if_left : (span : Span) (c : PExpr) (a : PStmt) → At a → (expr_names test c && (named a && true)) ≡ true → Left (kept_if span c (cut a) nothing)
  kept_if_left span c a h k =
      let n = and_parts (expr_names test c) (named a && true) k in
      let m = and_parts (named a) true n.1 in
      single span (form.If c (block span (cut a).inside) None) ((cut a).ends && false) (if_named span c (block span (cut a).inside) n.0 (body_named span a h m.0))

  kept_else_left : (span : Span) (c : PExpr) (a b : PStmt) → At a → At b → (expr_names test c && (named a && named b)) ≡ true → Left (kept_if span c (cut a) (cut b))
  kept_else_left span c a b h g k = go (cut b).inside last.1
    where
      n : (expr_names test c ≡ true) × ((named a && named b) ≡ true)
      n = and_parts (expr_names test c) (named a && named b) k

      m : (named a ≡ true) × (named b ≡ true)
      m = and_parts (named a) (named b) n.1

      last : Left (cut b)
      last = g m.1

      go : (xs : List PStmt) → all xs ≡ true → Left (one span (form.If c (block span (cut a).inside) (else_body span xs)) ((cut a).ends && (cut b).ends))
      go [] l = single span (form.If c (block span (cut a).inside) None) ((cut a).ends && (cut b).ends) (if_named span c (block span (cut a).inside) n.0 (body_named span a h m.0))
      go (x ∷ xs) l = single span (form.If c (block span (cut a).inside) (Some (block span (x ∷ xs)))) ((cut a).ends && (cut b).ends) (if_else_named span c (block span (cut a).inside) (block span (x ∷ xs)) n.0 (body_named span a h m.0) (block_named span (x ∷ xs) l))

  if_left : (span : Span) (c : PExpr) (a : PStmt) → At a → (o : Option Constant) → (expr_names test c && (named a && true)) ≡ true → Left (T.branch span c (cut a) nothing o)
  if_left span c a h (Some (Bit true)) k = h (and_parts (named a) true (and_parts (expr_names test c) (named a && true) k).1).0
  if_left span c a h (Some (Bit false)) k = (refl, refl)
  if_left span c a h (Some (Number x)) k = kept_if_left span c a h k
  if_left span c a h None k = kept_if_left span c a h k

  if_else_left : (span : Span) (c : PExpr) (a b : PStmt) → At a → At b → (o : Option Constant) → (expr_names test c && (named a && named b)) ≡ true → Left (T.branch span c (cut a) (cut b) o)
  if_else_left span c a b h g (Some (Bit true)) k = h (and_parts (named a) (named b) (and_parts (expr_names test c) (named a && named b) k).1).0
  if_else_left span c a b h g (Some (Bit false)) k = g (and_parts (named a) (named b) (and_parts (expr_names test c) (named a && named b) k).1).1
  if_else_left span c a b h g (Some (Number x)) k = kept_else_left span c a b h g k
  if_else_left span c a b h g None k = kept_else_left span c a b h g k

  kept_loop_left : (span : Span) (c : PExpr) (a : PStmt) → At a → (expr_names test c && named a) ≡ true → Left (one span (form.While c (block span (cut a).inside)) false)
  kept_loop_left span c a h k =
      let n = and_parts (expr_names test c) (named a) k in
      let body : PStmt = block span (cut a).inside in
      single span (form.While c body) false (layer_of_while Bool Bool (form_names test) (λ s. s.form) span c body ∙ both (expr_names test c) (named body) n.0 (body_named span a h n.1))

  loop_left : (span : Span) (c : PExpr) (a : PStmt) → At a → (o : Option Constant) → (expr_names test c && named a) ≡ true → Left (T.loop span c (cut a) o)
  loop_left span c a h (Some (Bit false)) k = (refl, refl)
  loop_left span c a h (Some (Bit true)) k = kept_loop_left span c a h k
  loop_left span c a h (Some (Number x)) k = kept_loop_left span c a h k
  loop_left span c a h None k = kept_loop_left span c a h k

  repeat_left : (span : Span) (c : PExpr) (ss : List PStmt) → Each At ss → (b : Bool) → (expr_names test c && list_all is_yes (map named ss)) ≡ true → Left (if b then one span (form.Repeat c (bodies span (map cut ss))) false else trimmed_block span (map cut ss))
  repeat_left span c ss h true k =
      let n = and_parts (expr_names test c) (list_all is_yes (map named ss)) k in
      let bs : List PStmt = bodies span (map cut ss) in
      single span (form.Repeat c bs) false (layer_of_repeat Bool Bool (form_names test) (λ s. s.form) span c bs ∙ both (expr_names test c) (list_all is_yes (map named bs)) n.0 (each_yes bs ∙ bodies_named span ss h (sym (each_yes ss) ∙ n.1)))
  repeat_left span c ss h false k = row_left span ss h (sym (each_yes ss) ∙ (and_parts (expr_names test c) (list_all is_yes (map named ss)) k).1)

  minrepeat_left : (span : Span) (ss : List PStmt) → Each At ss → list_all is_yes (map named ss) ≡ true → Left (one span (form.MinRepeat (bodies span (map cut ss))) false)
  minrepeat_left span ss h k =
      let bs : List PStmt = bodies span (map cut ss) in
      single span (form.MinRepeat bs) false (layer_of_minrepeat Bool Bool (form_names test) (λ s. s.form) span bs ∙ each_yes bs ∙ bodies_named span ss h (sym (each_yes ss) ∙ k))

  reorder_left : (span : Span) (ss : List PStmt) → Each At ss → (b : Bool) → list_all is_yes (map named ss) ≡ true → Left (if b then trimmed_block span (map cut ss) else one span (form.Reorder (bodies span (map cut ss))) false)
  reorder_left span ss h true k = row_left span ss h (sym (each_yes ss) ∙ k)
  reorder_left span ss h false k =
      let bs : List PStmt = bodies span (map cut ss) in
      single span (form.Reorder bs) false (layer_of_reorder Bool Bool (form_names test) (λ s. s.form) span bs ∙ each_yes bs ∙ bodies_named span ss h (sym (each_yes ss) ∙ k))

  cases : StmtCases At
  cases = record {
    block = λ s ss h. by_form _ _ _ (layer_of_block Bool Bool (form_names test) (λ s. s.form) s ss) (layer_of_block (Span → Trimmed) Trimmed (trim_form consts width) (λ s. s.form s.span) s ss) (λ k. row_left s ss h (sym (each_yes ss) ∙ k));
    declare = λ s slot x t e. by_form _ _ _ (layer_of_declare Bool Bool (form_names test) (λ s. s.form) s slot x t e) (layer_of_declare (Span → Trimmed) Trimmed (trim_form consts width) (λ s. s.form s.span) s slot x t e) (λ k. single s (form.Declare slot x t e) false (layer_of_declare Bool Bool (form_names test) (λ s. s.form) s slot x t e ∙ k));
    assign = λ s p e. by_form _ _ _ (layer_of_assign Bool Bool (form_names test) (λ s. s.form) s p e) (layer_of_assign (Span → Trimmed) Trimmed (trim_form consts width) (λ s. s.form s.span) s p e) (λ k. single s (form.Assign p e) false (layer_of_assign Bool Bool (form_names test) (λ s. s.form) s p e ∙ k));
    calls = λ s e. by_form _ _ _ (layer_of_call Bool Bool (form_names test) (λ s. s.form) s e) (layer_of_call (Span → Trimmed) Trimmed (trim_form consts width) (λ s. s.form s.span) s e) (λ k. single s (form.Call e) false (layer_of_call Bool Bool (form_names test) (λ s. s.form) s e ∙ k));
    if_only = λ s c a h. by_form _ _ _ (layer_of_if Bool Bool (form_names test) (λ s. s.form) s c a) (layer_of_if (Span → Trimmed) Trimmed (trim_form consts width) (λ s. s.form s.span) s c a) (λ k. if_left s c a h (constant consts width c) k);
    if_else = λ s c a b h g. by_form _ _ _ (layer_of_if_else Bool Bool (form_names test) (λ s. s.form) s c a b) (layer_of_if_else (Span → Trimmed) Trimmed (trim_form consts width) (λ s. s.form s.span) s c a b) (λ k. if_else_left s c a b h g (constant consts width c) k);
    loop = λ s c a h. by_form _ _ _ (layer_of_while Bool Bool (form_names test) (λ s. s.form) s c a) (layer_of_while (Span → Trimmed) Trimmed (trim_form consts width) (λ s. s.form s.span) s c a) (λ k. loop_left s c a h (constant consts width c) k);
    returns = λ s e. by_form _ _ _ (layer_of_return Bool Bool (form_names test) (λ s. s.form) s e) (layer_of_return (Span → Trimmed) Trimmed (trim_form consts width) (λ s. s.form s.span) s e) (λ k. single s (form.Return e) true (layer_of_return Bool Bool (form_names test) (λ s. s.form) s e ∙ k));
    asserts = λ s e. by_form _ _ _ (layer_of_assert Bool Bool (form_names test) (λ s. s.form) s e) (layer_of_assert (Span → Trimmed) Trimmed (trim_form consts width) (λ s. s.form s.span) s e) (λ k. single s (form.Assert e) false (layer_of_assert Bool Bool (form_names test) (λ s. s.form) s e ∙ k));
    assumes = λ s e. by_form _ _ _ (layer_of_assume Bool Bool (form_names test) (λ s. s.form) s e) (layer_of_assume (Span → Trimmed) Trimmed (trim_form consts width) (λ s. s.form s.span) s e) (λ k. single s (form.Assume e) false (layer_of_assume Bool Bool (form_names test) (λ s. s.form) s e ∙ k));
    minimizes = λ s e. by_form _ _ _ (layer_of_minimize Bool Bool (form_names test) (λ s. s.form) s e) (layer_of_minimize (Span → Trimmed) Trimmed (trim_form consts width) (λ s. s.form s.span) s e) (λ k. single s (form.Minimize e) false (layer_of_minimize Bool Bool (form_names test) (λ s. s.form) s e ∙ k));
    repeats = λ s c ss h. by_form _ _ _ (layer_of_repeat Bool Bool (form_names test) (λ s. s.form) s c ss) (layer_of_repeat (Span → Trimmed) Trimmed (trim_form consts width) (λ s. s.form s.span) s c ss) (λ k. repeat_left s c ss h (is_hole c.form) k);
    minrepeat = λ s ss h. by_form _ _ _ (layer_of_minrepeat Bool Bool (form_names test) (λ s. s.form) s ss) (layer_of_minrepeat (Span → Trimmed) Trimmed (trim_form consts width) (λ s. s.form s.span) s ss) (λ k. minrepeat_left s ss h k);
    reorder = λ s ss h. by_form _ _ _ (layer_of_reorder Bool Bool (form_names test) (λ s. s.form) s ss) (layer_of_reorder (Span → Trimmed) Trimmed (trim_form consts width) (λ s. s.form s.span) s ss) (λ k. reorder_left s ss h (nat_le (length (map cut ss)) 1) k);
  }

  each_left : (ss : List PStmt) → Each At ss
  each_left [] = tt
  each_left (s ∷ ss) = (stmt_ind At cases s, each_left ss)

  pub rest_named : (ss : List PStmt) → list_all (stmt_names test) ss ≡ true → list_all (stmt_names test) (trimmed consts width ss) ≡ true
  rest_named ss k = up_to_named ss (each_left ss) k
