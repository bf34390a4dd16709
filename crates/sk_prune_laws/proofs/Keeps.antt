-- What is left of a statement keeps the rules that the statement keeps.
use Rattle.std.proofs.Common.{◌≡◌, ℕ, suc, Bool, true, false, ◌&&◌, ◌||◌, not, List, [], ◌∷◌, ◌++◌, map, length, Option, Some, None, refl, sym, ap, subst, ◌∙◌}
use Rattle.std.specs.Prelude.{IsTrue, nat_le, if◌then◌else◌}
use Rattle.std.specs.List.{list_all, list_any}
use Rattle.std.proofs.lemmas.Bool.{false≢true, and_parts}
use Rattle.sk_base.specs.declared.span.Span.{Span}
use Rattle.sk_prog.specs.declared.ty.Ty.{Ty}
use Rattle.sk_prog.specs.declared.expr.PExpr.{PExpr}
use Rattle.sk_prog.specs.declared.stmt.PStmt.{PStmt}
use Rattle.sk_prog.specs.declared.stmt.PForm.{PForm}
use Rattle.sk_prog.specs.declared.stmt.PForm.TheVariants as form
use Rattle.sk_prog.specs.declared.stmt.PForm.TheOpen as S
use Rattle.sk_prog.specs.declared.stmt.PForm.TheViews as W
use Rattle.sk_prog.specs.declared.prog.ConstDef.{ConstDef}
use Rattle.sk_types_rules.specs.declared.scope.Variable.{Variable}
use Rattle.sk_types_rules.specs.Rules.{in_range}
use Rattle.sk_types_rules.specs.Scope.{Context}
use Rattle.sk_types_rules.specs.Types.{after, is_declaration}
use Rattle.sk_model.specs.Sites.{is_hole}
use Rattle.sk_model.proofs.Induction.{Each, StmtCases, stmt_ind}
use Rattle.sk_model.proofs.Layers.{layer_of_block, layer_of_declare, layer_of_assign, layer_of_call, layer_of_if, layer_of_if_else, layer_of_while, layer_of_return, layer_of_assert, layer_of_assume, layer_of_minimize, layer_of_repeat, layer_of_minrepeat, layer_of_reorder}
use Rattle.sk_holes_laws.specs.Keeping.{form_block, is_block, Keeping, EachKeeps, StmtKeeps, AllKeep}
use Rattle.sk_holes_laws.proofs.Kept.{ActKeeps, act_keeps, act_keeps_are, stmt_keeps_is}
use Rattle.sk_holes_laws.proofs.Declared.{blocks_of, declares_at, block_at, leaves, no_declaration}
use Rattle.sk_prune.specs.declared.constant.Constant.{Constant}
use Rattle.sk_prune.specs.declared.constant.Constant.TheVariants.{Bit, Number}
use Rattle.sk_prune.specs.Constants.{constant}
use Rattle.sk_prune.specs.Trimmed.{Trimmed, nothing, one, form_declares, declares, block, opened, up_to_end, any_ends, trimmed_block, else_body, kept_if, bodies, trim_form, trim, trimmed}
use Rattle.sk_prune.specs.Trimmed as T

abbrev put : Span → PForm → PStmt
put s f = record { span = s; form = f }

-- a declaration is what both say
abbrev SaidAlike : PStmt → Type 0
SaidAlike s = declares s ≡ is_declaration s

same_declares : (s : PStmt) → SaidAlike s
same_declares = stmt_ind SaidAlike (record {
  block = λ s ss h. layer_of_block Bool Bool form_declares (λ s. s.form) s ss ∙ sym (declares_at s (form.Block ss) (S.Block ss) (W.rolls-Block ss));
  declare = λ s slot x t e. layer_of_declare Bool Bool form_declares (λ s. s.form) s slot x t e ∙ sym (declares_at s (form.Declare slot x t e) (S.Declare slot x t e) (W.rolls-Declare slot x t e));
  assign = λ s p e. layer_of_assign Bool Bool form_declares (λ s. s.form) s p e ∙ sym (declares_at s (form.Assign p e) (S.Assign p e) (W.rolls-Assign p e));
  calls = λ s e. layer_of_call Bool Bool form_declares (λ s. s.form) s e ∙ sym (declares_at s (form.Call e) (S.Call e) (W.rolls-Call e));
  if_only = λ s c a h. layer_of_if Bool Bool form_declares (λ s. s.form) s c a ∙ sym (declares_at s (form.If c a None) (S.If c a None) (W.rolls-If c a None));
  if_else = λ s c a b h k. layer_of_if_else Bool Bool form_declares (λ s. s.form) s c a b ∙ sym (declares_at s (form.If c a (Some b)) (S.If c a (Some b)) (W.rolls-If c a (Some b)));
  loop = λ s c a h. layer_of_while Bool Bool form_declares (λ s. s.form) s c a ∙ sym (declares_at s (form.While c a) (S.While c a) (W.rolls-While c a));
  returns = λ s e. layer_of_return Bool Bool form_declares (λ s. s.form) s e ∙ sym (declares_at s (form.Return e) (S.Return e) (W.rolls-Return e));
  asserts = λ s e. layer_of_assert Bool Bool form_declares (λ s. s.form) s e ∙ sym (declares_at s (form.Assert e) (S.Assert e) (W.rolls-Assert e));
  assumes = λ s e. layer_of_assume Bool Bool form_declares (λ s. s.form) s e ∙ sym (declares_at s (form.Assume e) (S.Assume e) (W.rolls-Assume e));
  minimizes = λ s e. layer_of_minimize Bool Bool form_declares (λ s. s.form) s e ∙ sym (declares_at s (form.Minimize e) (S.Minimize e) (W.rolls-Minimize e));
  repeats = λ s c ss h. layer_of_repeat Bool Bool form_declares (λ s. s.form) s c ss ∙ sym (declares_at s (form.Repeat c ss) (S.Repeat c ss) (W.rolls-Repeat c ss));
  minrepeat = λ s ss h. layer_of_minrepeat Bool Bool form_declares (λ s. s.form) s ss ∙ sym (declares_at s (form.MinRepeat ss) (S.MinRepeat ss) (W.rolls-MinRepeat ss));
  reorder = λ s ss h. layer_of_reorder Bool Bool form_declares (λ s. s.form) s ss ∙ sym (declares_at s (form.Reorder ss) (S.Reorder ss) (W.rolls-Reorder ss));
})

module _ (context : Context) (result : Option Ty) (consts : List ConstDef) (width : ℕ) where
  abbrev cut : PStmt → Trimmed
  cut = trim consts width

  abbrev Keep : PStmt → Keeping
  Keep = StmtKeeps context result

  abbrev All : ℕ → List Variable → List PStmt → Type 0
  All = AllKeep context result

  abbrev Layer : Type 0
  Layer = S.PForm-F PForm PStmt

  keeps_is : (s : Span) (x : Layer) (f : PForm) → W.roll-PForm x ≡ f → Keep (put s f) ≡ act_keeps context result x
  keeps_is s x f e = stmt_keeps_is context result (put s f) ∙ ap (ActKeeps context result) (sym e) ∙ act_keeps_are context result x

  to_layer : (s : Span) (x : Layer) (f : PForm) → W.roll-PForm x ≡ f → (from : ℕ) (scope : List Variable) → Keep (put s f) from scope → act_keeps context result x from scope
  to_layer s x f e from scope h = subst (λ (k : Keeping). k from scope) (keeps_is s x f e) h

  of_layer : (s : Span) (x : Layer) (f : PForm) → W.roll-PForm x ≡ f → (from : ℕ) (scope : List Variable) → act_keeps context result x from scope → Keep (put s f) from scope
  of_layer s x f e from scope h = subst (λ (k : Keeping). k from scope) (sym (keeps_is s x f e)) h

  of_block : (s : Span) (ss : List PStmt) (from : ℕ) (scope : List Variable) → All (length scope) scope ss → Keep (block s ss) from scope
  of_block s ss from scope h = of_layer s (S.Block ss) (form.Block ss) (W.rolls-Block ss) from scope h

  to_block : (s : Span) (ss : List PStmt) (from : ℕ) (scope : List Variable) → Keep (block s ss) from scope → All (length scope) scope ss
  to_block s ss from scope h = to_layer s (S.Block ss) (form.Block ss) (W.rolls-Block ss) from scope h

  -- Where nothing is declared it is nothing to a statement where its block begins.

  abbrev Free : PStmt → Type 0
  Free s = is_declaration s ≡ false → (from from' : ℕ) (scope : List Variable) → Keep s from scope → Keep s from' scope

  abbrev BlockFree : PStmt → Type 0
  BlockFree s = is_block s ≡ true → (from from' : ℕ) (scope : List Variable) → Keep s from scope → Keep s from' scope

  other : {X : Type 0} (s : Span) (f : PForm) (x : Layer) → W.roll-PForm x ≡ f → form_block (blocks_of x) ≡ false → is_block (put s f) ≡ true → X
  other s f x e q b = absurd (false≢true (sym q ∙ sym (block_at s f x e) ∙ b))

  block_free : (s : PStmt) → BlockFree s
  block_free = stmt_ind BlockFree (record {
    block = λ s ss h b from from' scope k. of_block s ss from' scope (to_block s ss from scope k);
    declare = λ s slot x t e b. other s (form.Declare slot x t e) (S.Declare slot x t e) (W.rolls-Declare slot x t e) refl b;
    assign = λ s p e b. other s (form.Assign p e) (S.Assign p e) (W.rolls-Assign p e) refl b;
    calls = λ s e b. other s (form.Call e) (S.Call e) (W.rolls-Call e) refl b;
    if_only = λ s c a h b. other s (form.If c a None) (S.If c a None) (W.rolls-If c a None) refl b;
    if_else = λ s c a d h k b. other s (form.If c a (Some d)) (S.If c a (Some d)) (W.rolls-If c a (Some d)) refl b;
    loop = λ s c a h b. other s (form.While c a) (S.While c a) (W.rolls-While c a) refl b;
    returns = λ s e b. other s (form.Return e) (S.Return e) (W.rolls-Return e) refl b;
    asserts = λ s e b. other s (form.Assert e) (S.Assert e) (W.rolls-Assert e) refl b;
    assumes = λ s e b. other s (form.Assume e) (S.Assume e) (W.rolls-Assume e) refl b;
    minimizes = λ s e b. other s (form.Minimize e) (S.Minimize e) (W.rolls-Minimize e) refl b;
    repeats = λ s c ss h b. other s (form.Repeat c ss) (S.Repeat c ss) (W.rolls-Repeat c ss) refl b;
    minrepeat = λ s ss h b. other s (form.MinRepeat ss) (S.MinRepeat ss) (W.rolls-MinRepeat ss) refl b;
    reorder = λ s ss h b. other s (form.Reorder ss) (S.Reorder ss) (W.rolls-Reorder ss) refl b;
  })

  -- a form of which the keeping says nothing of the place where its block begins
  still : (s : Span) (f : PForm) (x : Layer) → W.roll-PForm x ≡ f → ((from from' : ℕ) (scope : List Variable) → act_keeps context result x from scope → act_keeps context result x from' scope) → Free (put s f)
  still s f x e go d from from' scope k = of_layer s x f e from' scope (go from from' scope (to_layer s x f e from scope k))

  free : (s : PStmt) → Free s
  free = stmt_ind Free (record {
    block = λ s ss h. still s (form.Block ss) (S.Block ss) (W.rolls-Block ss) (λ from from' scope k. k);
    declare = λ s slot x t e d. absurd (false≢true (sym d ∙ declares_at s (form.Declare slot x t e) (S.Declare slot x t e) (W.rolls-Declare slot x t e)));
    assign = λ s p e. still s (form.Assign p e) (S.Assign p e) (W.rolls-Assign p e) (λ from from' scope k. k);
    calls = λ s e. still s (form.Call e) (S.Call e) (W.rolls-Call e) (λ from from' scope k. k);
    if_only = λ s c a h. still s (form.If c a None) (S.If c a None) (W.rolls-If c a None) (λ from from' scope k. (k.0, k.1, block_free a k.1 from from' scope k.2, k.3, k.4));
    if_else = λ s c a b h g. still s (form.If c a (Some b)) (S.If c a (Some b)) (W.rolls-If c a (Some b)) (λ from from' scope k. (k.0, k.1, block_free a k.1 from from' scope k.2, k.3, block_free b k.3 from from' scope k.4));
    loop = λ s c a h. still s (form.While c a) (S.While c a) (W.rolls-While c a) (λ from from' scope k. (k.0, k.1, block_free a k.1 from from' scope k.2));
    returns = λ s e. still s (form.Return e) (S.Return e) (W.rolls-Return e) (λ from from' scope k. k);
    asserts = λ s e. still s (form.Assert e) (S.Assert e) (W.rolls-Assert e) (λ from from' scope k. k);
    assumes = λ s e. still s (form.Assume e) (S.Assume e) (W.rolls-Assume e) (λ from from' scope k. k);
    minimizes = λ s e. still s (form.Minimize e) (S.Minimize e) (W.rolls-Minimize e) (λ from from' scope k. k);
    repeats = λ s c ss h. still s (form.Repeat c ss) (S.Repeat c ss) (W.rolls-Repeat c ss) (λ from from' scope k. k);
    minrepeat = λ s ss h. still s (form.MinRepeat ss) (S.MinRepeat ss) (W.rolls-MinRepeat ss) (λ from from' scope k. k);
    reorder = λ s ss h. still s (form.Reorder ss) (S.Reorder ss) (W.rolls-Reorder ss) (λ from from' scope k. k);
  })

  -- Statements in a row

  quiet_or : (b c : Bool) → (b || c) ≡ false → (b ≡ false) × (c ≡ false)
  quiet_or true c h = absurd (false≢true (sym h))
  quiet_or false c h = (refl, h)

  all_free : (ss : List PStmt) → list_any is_declaration ss ≡ false → (from from' : ℕ) (scope : List Variable) → All from scope ss → All from' scope ss
  all_free [] d from from' scope h = tt
  all_free (s ∷ ss) d from from' scope h =
      let e = quiet_or (is_declaration s) (list_any is_declaration ss) d in
      (free s e.0 from from' scope h.0, all_free ss e.1 from from' (after s scope) h.1)

  append : (xs ys : List PStmt) (from : ℕ) (scope : List Variable) → All from scope xs → list_any is_declaration xs ≡ false → All from scope ys → All from scope (xs ++ ys)
  append [] ys from scope h d k = k
  append (x ∷ xs) ys from scope h d k =
      let e = quiet_or (is_declaration x) (list_any is_declaration xs) d in
      (h.0, append xs ys from (after x scope) h.1 e.1 (subst (λ z. All from z ys) (sym (leaves x e.0 scope)) k))

  record Kept (s : PStmt) (t : Trimmed) : Type 0 where
    among : (from : ℕ) (scope : List Variable) → Keep s from scope → All from scope t.among
    quiet : (from : ℕ) (scope : List Variable) → Keep s from scope → is_declaration s ≡ false → list_any is_declaration t.among ≡ false
    inside : (from : ℕ) (scope : List Variable) → Keep s from scope → is_declaration s ≡ false → All (length scope) scope t.inside
    single : is_declaration s ≡ true → t.among ≡ s ∷ []

  abbrev At : PStmt → Type 0
  At s = Kept s (cut s)

  up_to_kept : (ss : List PStmt) → Each At ss → (from : ℕ) (scope : List Variable) → All from scope ss → All from scope (up_to_end (map cut ss))
  up_to_kept [] h from scope k = tt
  up_to_kept (s ∷ ss) h from scope k = go (up_to_kept ss h.1 from (after s scope) k.1) (cut s).ends
    where
      at_s : At s
      at_s = h.0

      both : All from (after s scope) (up_to_end (map cut ss)) → (b : Bool) → is_declaration s ≡ b → All from scope ((cut s).among ++ up_to_end (map cut ss))
      both rest true d = subst (λ xs. All from scope (xs ++ up_to_end (map cut ss))) (sym (at_s.single d)) (k.0, rest)
      both rest false d = append (cut s).among (up_to_end (map cut ss)) from scope (at_s.among from scope k.0) (at_s.quiet from scope k.0 d) (subst (λ z. All from z (up_to_end (map cut ss))) (leaves s d scope) rest)

      go : All from (after s scope) (up_to_end (map cut ss)) → (b : Bool) → All from scope (if b then (cut s).among else (cut s).among ++ up_to_end (map cut ss))
      go rest true = at_s.among from scope k.0
      go rest false = both rest (is_declaration s) refl

  same_any : (ss : List PStmt) → list_any declares ss ≡ list_any is_declaration ss
  same_any [] = refl
  same_any (s ∷ ss) = λ i. same_declares s i || same_any ss i

  block_quiet : (span : Span) (ss : List PStmt) → is_declaration (block span ss) ≡ false
  block_quiet span ss = declares_at span (form.Block ss) (S.Block ss) (W.rolls-Block ss)

  opened_kept : (span : Span) (ss : List PStmt) (from : ℕ) (scope : List Variable) → All (length scope) scope ss → All from scope (opened span ss) × (list_any is_declaration (opened span ss) ≡ false)
  opened_kept span ss from scope h = go (list_any declares ss) refl
    where
      go : (b : Bool) → list_any declares ss ≡ b → All from scope (if b then block span ss ∷ [] else ss) × (list_any is_declaration (if b then block span ss ∷ [] else ss) ≡ false)
      go true d = ((of_block span ss from scope h, tt), ap (λ b. b || false) (block_quiet span ss))
      go false d = let e = sym (same_any ss) ∙ d in (all_free ss e (length scope) from scope h, e)

  abbrev Quiet : PStmt → Type 0
  Quiet s = is_declaration s ≡ false

  row_kept : (s : PStmt) (span : Span) (ss : List PStmt) → Each At ss → Quiet s → ((from : ℕ) (scope : List Variable) → Keep s from scope → All (length scope) scope ss) → Kept s (trimmed_block span (map cut ss))
  row_kept s span ss h d to = record {
    among = λ from scope k. (opened_kept span (up_to_end (map cut ss)) from scope (up_to_kept ss h (length scope) scope (to from scope k))).0;
    quiet = λ from scope k e. (opened_kept span (up_to_end (map cut ss)) from scope (up_to_kept ss h (length scope) scope (to from scope k))).1;
    inside = λ from scope k b. up_to_kept ss h (length scope) scope (to from scope k);
    single = λ e. absurd (false≢true (sym d ∙ e));
  }

  -- one statement in the place of another that is no block
  one_kept : (s : PStmt) (span : Span) (f : PForm) (ends : Bool) → Quiet s → Quiet (put span f) → ((from : ℕ) (scope : List Variable) → Keep s from scope → Keep (put span f) from scope) → Kept s (one span f ends)
  one_kept s span f ends d e to = record {
    among = λ from scope k. (to from scope k, tt);
    quiet = λ from scope k h. ap (λ c. c || false) e;
    inside = λ from scope k h. (free (put span f) e from (length scope) scope (to from scope k), tt);
    single = λ h. absurd (false≢true (sym d ∙ h));
  }

  -- what is as it was
  as_was : (span : Span) (f : PForm) (ends : Bool) → Kept (put span f) (one span f ends)
  as_was span f ends = record {
    among = λ from scope k. (k, tt);
    quiet = λ from scope k h. ap (λ c. c || false) h;
    inside = λ from scope k h. (free (put span f) h from (length scope) scope k, tt);
    single = λ h. refl;
  }

  nothing_kept : (s : PStmt) → Quiet s → Kept s nothing
  nothing_kept s d = record { among = λ from scope k. tt; quiet = λ from scope k h. refl; inside = λ from scope k b. tt; single = λ e. absurd (false≢true (sym d ∙ e)) }

  -- a branch that is taken
  taken_kept : (s a : PStmt) → At a → Quiet s → ((from : ℕ) (scope : List Variable) → Keep s from scope → IsTrue (is_block a) × Keep a from scope) → Kept s (cut a)
  taken_kept s a h d to = record {
    among = λ from scope k. h.among from scope (to from scope k).1;
    quiet = λ from scope k e. h.quiet from scope (to from scope k).1 (no_declaration a (to from scope k).0);
    inside = λ from scope k e. h.inside from scope (to from scope k).1 (no_declaration a (to from scope k).0);
    single = λ e. absurd (false≢true (sym d ∙ e));
  }

  body_kept : (span : Span) (a : PStmt) → At a → Quiet a → (from : ℕ) (scope : List Variable) → Keep a from scope → Keep (block span (cut a).inside) from scope
  body_kept span a h b from scope k = of_block span (cut a).inside from scope (h.inside from scope k b)

  block_is : (span : Span) (ss : List PStmt) → is_block (block span ss) ≡ true
  block_is span ss = block_at span (form.Block ss) (S.Block ss) (W.rolls-Block ss)

  -- Branches and loops

  abbrev if_form : PExpr → PStmt → PForm
  if_form c a = form.If c a None

  abbrev else_form : PExpr → PStmt → PStmt → PForm
  else_form c a b = form.If c a (Some b)

  if_quiet : (s : Span) (c : PExpr) (a : PStmt) → Quiet (put s (if_form c a))
  if_quiet s c a = declares_at s (if_form c a) (S.If c a None) (W.rolls-If c a None)

  else_quiet : (s : Span) (c : PExpr) (a b : PStmt) → Quiet (put s (else_form c a b))
  else_quiet s c a b = declares_at s (else_form c a b) (S.If c a (Some b)) (W.rolls-If c a (Some b))

  to_if : (s : Span) (c : PExpr) (a : PStmt) (from : ℕ) (scope : List Variable) → Keep (put s (if_form c a)) from scope → act_keeps context result (S.If c a None) from scope
  to_if s c a from scope k = to_layer s (S.If c a None) (if_form c a) (W.rolls-If c a None) from scope k

  to_else : (s : Span) (c : PExpr) (a b : PStmt) (from : ℕ) (scope : List Variable) → Keep (put s (else_form c a b)) from scope → act_keeps context result (S.If c a (Some b)) from scope
  to_else s c a b from scope k = to_layer s (S.If c a (Some b)) (else_form c a b) (W.rolls-If c a (Some b)) from scope k

  kept_if_kept : (s : Span) (c : PExpr) (a : PStmt) → At a → Kept (put s (if_form c a)) (kept_if s c (cut a) nothing)
  kept_if_kept s c a h =
      let body : PStmt = block s (cut a).inside in
      one_kept (put s (if_form c a)) s (if_form c body) ((cut a).ends && false) (if_quiet s c a) (if_quiet s c body)
      (λ from scope k. let u = to_if s c a from scope k in of_layer s (S.If c body None) (if_form c body) (W.rolls-If c body None) from scope (u.0, block_is s (cut a).inside, body_kept s a h (no_declaration a u.1) from scope u.2, u.3, u.4))

  kept_else_kept : (s : Span) (c : PExpr) (a b : PStmt) → At a → At b → Kept (put s (else_form c a b)) (kept_if s c (cut a) (cut b))
  kept_else_kept s c a b h g = go (cut b).inside refl
    where
      body : PStmt
      body = block s (cut a).inside

      go : (xs : List PStmt) → (cut b).inside ≡ xs → Kept (put s (else_form c a b)) (one s (form.If c body (else_body s xs)) ((cut a).ends && (cut b).ends))
      go [] e =
          one_kept (put s (else_form c a b)) s (if_form c body) ((cut a).ends && (cut b).ends) (else_quiet s c a b) (if_quiet s c body)
          (λ from scope k. let u = to_else s c a b from scope k in of_layer s (S.If c body None) (if_form c body) (W.rolls-If c body None) from scope (u.0, block_is s (cut a).inside, body_kept s a h (no_declaration a u.1) from scope u.2, refl, tt))
      go (x ∷ xs) e =
          let other : PStmt = block s (x ∷ xs) in
          one_kept (put s (else_form c a b)) s (else_form c body other) ((cut a).ends && (cut b).ends) (else_quiet s c a b) (else_quiet s c body other)
          (λ from scope k. let u = to_else s c a b from scope k in of_layer s (S.If c body (Some other)) (else_form c body other) (W.rolls-If c body (Some other)) from scope
          (u.0, block_is s (cut a).inside, body_kept s a h (no_declaration a u.1) from scope u.2, block_is s (x ∷ xs), subst (λ ys. Keep (block s ys) from scope) e (body_kept s b g (no_declaration b u.3) from scope u.4)))

  if_kept : (s : Span) (c : PExpr) (a : PStmt) → At a → (o : Option Constant) → Kept (put s (if_form c a)) (T.branch s c (cut a) nothing o)
  if_kept s c a h (Some (Bit true)) = taken_kept (put s (if_form c a)) a h (if_quiet s c a) (λ from scope k. let u = to_if s c a from scope k in (u.1, u.2))
  if_kept s c a h (Some (Bit false)) = nothing_kept (put s (if_form c a)) (if_quiet s c a)
  if_kept s c a h (Some (Number n)) = kept_if_kept s c a h
  if_kept s c a h None = kept_if_kept s c a h

  if_else_kept : (s : Span) (c : PExpr) (a b : PStmt) → At a → At b → (o : Option Constant) → Kept (put s (else_form c a b)) (T.branch s c (cut a) (cut b) o)
  if_else_kept s c a b h g (Some (Bit true)) = taken_kept (put s (else_form c a b)) a h (else_quiet s c a b) (λ from scope k. let u = to_else s c a b from scope k in (u.1, u.2))
  if_else_kept s c a b h g (Some (Bit false)) = taken_kept (put s (else_form c a b)) b g (else_quiet s c a b) (λ from scope k. let u = to_else s c a b from scope k in (u.3, u.4))
  if_else_kept s c a b h g (Some (Number n)) = kept_else_kept s c a b h g
  if_else_kept s c a b h g None = kept_else_kept s c a b h g

  while_quiet : (s : Span) (c : PExpr) (a : PStmt) → Quiet (put s (form.While c a))
  while_quiet s c a = declares_at s (form.While c a) (S.While c a) (W.rolls-While c a)

  kept_loop_kept : (s : Span) (c : PExpr) (a : PStmt) → At a → Kept (put s (form.While c a)) (one s (form.While c (block s (cut a).inside)) false)
  kept_loop_kept s c a h =
      let body : PStmt = block s (cut a).inside in
      one_kept (put s (form.While c a)) s (form.While c body) false (while_quiet s c a) (while_quiet s c body)
      (λ from scope k. let u = to_layer s (S.While c a) (form.While c a) (W.rolls-While c a) from scope k in of_layer s (S.While c body) (form.While c body) (W.rolls-While c body) from scope (u.0, block_is s (cut a).inside, body_kept s a h (no_declaration a u.1) from scope u.2))

  loop_kept : (s : Span) (c : PExpr) (a : PStmt) → At a → (o : Option Constant) → Kept (put s (form.While c a)) (T.loop s c (cut a) o)
  loop_kept s c a h (Some (Bit false)) = nothing_kept (put s (form.While c a)) (while_quiet s c a)
  loop_kept s c a h (Some (Bit true)) = kept_loop_kept s c a h
  loop_kept s c a h (Some (Number n)) = kept_loop_kept s c a h
  loop_kept s c a h None = kept_loop_kept s c a h

  -- Copies, and statements that have an order

  each_all : (ss : List PStmt) (scope : List Variable) → list_any is_declaration (map (λ y. y) ss) ≡ false → EachKeeps Keep scope ss → All (length scope) scope ss
  each_all [] scope d h = tt
  each_all (s ∷ ss) scope d h =
      let e = quiet_or (is_declaration s) (list_any is_declaration (map (λ y. y) ss)) d in
      (h.0, subst (λ z. All (length scope) z ss) (sym (leaves s e.0 scope)) (each_all ss scope e.1 h.1))

  blocks_quiet : (ss : List PStmt) → list_all is_block (map (λ y. y) ss) ≡ true → list_any is_declaration (map (λ y. y) ss) ≡ false
  blocks_quiet [] h = refl
  blocks_quiet (s ∷ ss) h =
      let b = and_parts (is_block s) (list_all is_block (map (λ y. y) ss)) h in
      let one = no_declaration s b.0 in
      let more = blocks_quiet ss b.1 in
      λ i. one i || more i

  bodies_keep : (span : Span) (ss : List PStmt) (scope : List Variable) → Each At ss → list_any is_declaration (map (λ y. y) ss) ≡ false → EachKeeps Keep scope ss → EachKeeps Keep scope (bodies span (map cut ss))
  bodies_keep span [] scope h d k = tt
  bodies_keep span (s ∷ ss) scope h d k =
      let e = quiet_or (is_declaration s) (list_any is_declaration (map (λ y. y) ss)) d in
      (body_kept span s h.0 e.0 (length scope) scope k.0, bodies_keep span ss scope h.1 e.1 k.1)

  bodies_block : (span : Span) (ss : List PStmt) → list_all is_block (map (λ y. y) (bodies span (map cut ss))) ≡ true
  bodies_block span [] = refl
  bodies_block span (s ∷ ss) = let one = block_is span (cut s).inside in let more = bodies_block span ss in λ i. one i && more i

  as_many : (span : Span) (ss : List PStmt) → length (bodies span (map cut ss)) ≡ length ss
  as_many span [] = refl
  as_many span (s ∷ ss) = ap suc (as_many span ss)

  not_any : (b : Bool) → not b ≡ true → b ≡ false
  not_any true h = cc
  not_any false h = refl

  repeat_quiet : (s : Span) (c : PExpr) (ss : List PStmt) → Quiet (put s (form.Repeat c ss))
  repeat_quiet s c ss = declares_at s (form.Repeat c ss) (S.Repeat c ss) (W.rolls-Repeat c ss)

  to_repeat : (s : Span) (c : PExpr) (ss : List PStmt) (from : ℕ) (scope : List Variable) → Keep (put s (form.Repeat c ss)) from scope → act_keeps context result (S.Repeat c ss) from scope
  to_repeat s c ss from scope k = to_layer s (S.Repeat c ss) (form.Repeat c ss) (W.rolls-Repeat c ss) from scope k

  repeat_kept : (s : Span) (c : PExpr) (ss : List PStmt) → Each At ss → (b : Bool) → Kept (put s (form.Repeat c ss)) (if b then one s (form.Repeat c (bodies s (map cut ss))) false else trimmed_block s (map cut ss))
  repeat_kept s c ss h true =
      one_kept (put s (form.Repeat c ss)) s (form.Repeat c (bodies s (map cut ss))) false (repeat_quiet s c ss) (repeat_quiet s c (bodies s (map cut ss)))
      (λ from scope k. let u = to_repeat s c ss from scope k in of_layer s (S.Repeat c (bodies s (map cut ss))) (form.Repeat c (bodies s (map cut ss))) (W.rolls-Repeat c (bodies s (map cut ss))) from scope (bodies_block s ss, bodies_keep s ss scope h (blocks_quiet ss u.0) u.1))
  repeat_kept s c ss h false = row_kept (put s (form.Repeat c ss)) s ss h (repeat_quiet s c ss) (λ from scope k. let u = to_repeat s c ss from scope k in each_all ss scope (blocks_quiet ss u.0) u.1)

  minrepeat_kept : (s : Span) (ss : List PStmt) → Each At ss → Kept (put s (form.MinRepeat ss)) (one s (form.MinRepeat (bodies s (map cut ss))) false)
  minrepeat_kept s ss h =
      one_kept (put s (form.MinRepeat ss)) s (form.MinRepeat (bodies s (map cut ss))) false
      (declares_at s (form.MinRepeat ss) (S.MinRepeat ss) (W.rolls-MinRepeat ss))
      (declares_at s (form.MinRepeat (bodies s (map cut ss))) (S.MinRepeat (bodies s (map cut ss))) (W.rolls-MinRepeat (bodies s (map cut ss))))
      (λ from scope k.
      let u = to_layer s (S.MinRepeat ss) (form.MinRepeat ss) (W.rolls-MinRepeat ss) from scope k in
      of_layer s (S.MinRepeat (bodies s (map cut ss))) (form.MinRepeat (bodies s (map cut ss))) (W.rolls-MinRepeat (bodies s (map cut ss))) from scope
      (subst (λ n. IsTrue (in_range context.bounds n)) (sym (as_many s ss)) u.0, bodies_block s ss, bodies_keep s ss scope h (blocks_quiet ss u.1) u.2))

  reorder_quiet : (s : Span) (ss : List PStmt) → Quiet (put s (form.Reorder ss))
  reorder_quiet s ss = declares_at s (form.Reorder ss) (S.Reorder ss) (W.rolls-Reorder ss)

  to_reorder : (s : Span) (ss : List PStmt) (from : ℕ) (scope : List Variable) → Keep (put s (form.Reorder ss)) from scope → act_keeps context result (S.Reorder ss) from scope
  to_reorder s ss from scope k = to_layer s (S.Reorder ss) (form.Reorder ss) (W.rolls-Reorder ss) from scope k

  reorder_kept : (s : Span) (ss : List PStmt) → Each At ss → (b : Bool) → Kept (put s (form.Reorder ss)) (if b then trimmed_block s (map cut ss) else one s (form.Reorder (bodies s (map cut ss))) false)
  reorder_kept s ss h true = row_kept (put s (form.Reorder ss)) s ss h (reorder_quiet s ss) (λ from scope k. let u = to_reorder s ss from scope k in each_all ss scope (not_any (list_any is_declaration (map (λ y. y) ss)) u.0) u.1)
  reorder_kept s ss h false =
      one_kept (put s (form.Reorder ss)) s (form.Reorder (bodies s (map cut ss))) false (reorder_quiet s ss) (reorder_quiet s (bodies s (map cut ss)))
      (λ from scope k.
      let u = to_reorder s ss from scope k in
      let none = blocks_quiet (bodies s (map cut ss)) (bodies_block s ss) in
      of_layer s (S.Reorder (bodies s (map cut ss))) (form.Reorder (bodies s (map cut ss))) (W.rolls-Reorder (bodies s (map cut ss))) from scope
      (ap not none, bodies_keep s ss scope h (not_any (list_any is_declaration (map (λ y. y) ss)) u.0) u.1))

  at_of : (s : PStmt) (t : Trimmed) → cut s ≡ t → Kept s t → At s
  at_of s t e h = subst (Kept s) (sym e) h

  cases : StmtCases At
  cases = record {
    block = λ s ss h. at_of _ _ (layer_of_block (Span → Trimmed) Trimmed (trim_form consts width) (λ s. s.form s.span) s ss) (row_kept (put s (form.Block ss)) s ss h (block_quiet s ss) (λ from scope k. to_block s ss from scope k));
    declare = λ s slot x t e. at_of _ _ (layer_of_declare (Span → Trimmed) Trimmed (trim_form consts width) (λ s. s.form s.span) s slot x t e) (as_was s (form.Declare slot x t e) false);
    assign = λ s p e. at_of _ _ (layer_of_assign (Span → Trimmed) Trimmed (trim_form consts width) (λ s. s.form s.span) s p e) (as_was s (form.Assign p e) false);
    calls = λ s e. at_of _ _ (layer_of_call (Span → Trimmed) Trimmed (trim_form consts width) (λ s. s.form s.span) s e) (as_was s (form.Call e) false);
    if_only = λ s c a h. at_of _ _ (layer_of_if (Span → Trimmed) Trimmed (trim_form consts width) (λ s. s.form s.span) s c a) (if_kept s c a h (constant consts width c));
    if_else = λ s c a b h g. at_of _ _ (layer_of_if_else (Span → Trimmed) Trimmed (trim_form consts width) (λ s. s.form s.span) s c a b) (if_else_kept s c a b h g (constant consts width c));
    loop = λ s c a h. at_of _ _ (layer_of_while (Span → Trimmed) Trimmed (trim_form consts width) (λ s. s.form s.span) s c a) (loop_kept s c a h (constant consts width c));
    returns = λ s e. at_of _ _ (layer_of_return (Span → Trimmed) Trimmed (trim_form consts width) (λ s. s.form s.span) s e) (as_was s (form.Return e) true);
    asserts = λ s e. at_of _ _ (layer_of_assert (Span → Trimmed) Trimmed (trim_form consts width) (λ s. s.form s.span) s e) (as_was s (form.Assert e) false);
    assumes = λ s e. at_of _ _ (layer_of_assume (Span → Trimmed) Trimmed (trim_form consts width) (λ s. s.form s.span) s e) (as_was s (form.Assume e) false);
    minimizes = λ s e. at_of _ _ (layer_of_minimize (Span → Trimmed) Trimmed (trim_form consts width) (λ s. s.form s.span) s e) (as_was s (form.Minimize e) false);
    repeats = λ s c ss h. at_of _ _ (layer_of_repeat (Span → Trimmed) Trimmed (trim_form consts width) (λ s. s.form s.span) s c ss) (repeat_kept s c ss h (is_hole c.form));
    minrepeat = λ s ss h. at_of _ _ (layer_of_minrepeat (Span → Trimmed) Trimmed (trim_form consts width) (λ s. s.form s.span) s ss) (minrepeat_kept s ss h);
    reorder = λ s ss h. at_of _ _ (layer_of_reorder (Span → Trimmed) Trimmed (trim_form consts width) (λ s. s.form s.span) s ss) (reorder_kept s ss h (nat_le (length (map cut ss)) 1));
  }

  each_at : (ss : List PStmt) → Each At ss
  each_at [] = tt
  each_at (s ∷ ss) = (stmt_ind At cases s, each_at ss)

  -- so does what is left of a body
  pub trimmed_keeps : (ss : List PStmt) (from : ℕ) (scope : List Variable) → AllKeep context result from scope ss → AllKeep context result from scope (trimmed consts width ss)
  trimmed_keeps ss from scope k = up_to_kept ss (each_at ss) from scope k
