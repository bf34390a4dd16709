-- What is left of a statement does what the statement does.
use Rattle.std.proofs.Common.{◌≡◌, ℕ, zero, suc, ◌++◌, List, [], ◌∷◌, map, length, Option, Some, None, Bool, true, false, ◌&&◌, ◌||◌, refl, sym, ap, subst, ◌∙◌}
use Rattle.std.specs.Prelude.{nat_le, if◌then◌else◌}
use Rattle.std.specs.List.{list_any}
use Rattle.std.proofs.lemmas.Bool.{false≢true, and_parts}
use Rattle.std.proofs.lemmas.List.{map-append, length-map}
use Rattle.sk_base.specs.declared.span.Span.{Span}
use Rattle.sk_base.specs.declared.bounds.Bounds.{Bounds}
use Rattle.sk_prog.specs.declared.value.Value.{Value}
use Rattle.sk_prog.specs.declared.value.Value.TheVariants as value
use Rattle.sk_prog.specs.declared.expr.PExpr.{PExpr}
use Rattle.sk_prog.specs.declared.stmt.PStmt.{PStmt}
use Rattle.sk_prog.specs.declared.stmt.PForm.{PForm}
use Rattle.sk_prog.specs.declared.stmt.PForm.TheVariants as form
use Rattle.sk_prog.specs.declared.prog.Prog.{Prog}
use Rattle.sk_model.specs.Sites.{is_hole}
use Rattle.sk_model.specs.Step.{State, Step, Goes, Fails, Skips, Comp, and_then, ◌>>=◌, pure, fail}
use Rattle.sk_model.specs.Eval.{Calls, choose, does}
use Rattle.sk_model.specs.Exec.{Flow, Onward, Returns, one_by_one, turns, exec_stmt, unless_returned}
use Rattle.sk_model.proofs.Induction.{Each, StmtCases, stmt_ind}
use Rattle.sk_model.proofs.Layers.{layer_of_block, layer_of_declare, layer_of_assign, layer_of_call, layer_of_if, layer_of_if_else, layer_of_while, layer_of_return, layer_of_assert, layer_of_assume, layer_of_minimize, layer_of_repeat, layer_of_minrepeat, layer_of_reorder}
use Rattle.sk_model.proofs.Forms.{exec_block, exec_if, exec_if_else, exec_while, exec_return, exec_repeat, exec_minrepeat, exec_reorder}
use Rattle.sk_prune.specs.declared.constant.Constant.{Constant}
use Rattle.sk_prune.specs.declared.constant.Constant.TheVariants.{Bit, Number}
use Rattle.sk_prune.specs.Constants.{constant}
use Rattle.sk_prune.specs.Trimmed.{Trimmed, nothing, one, declares, block, opened, up_to_end, any_ends, trimmed_block, else_body, kept_if, bodies, trim_form, trim, trimmed}
use Rattle.sk_prune.specs.Trimmed as T
use Rattle.sk_prune_laws.proofs.Decided.{value_of, constants_are}
use Rattle.sk_prune_laws.proofs.Rows.{by_state, single, together, NeverOn, Ended, nothing_behind, first_ends, second_ends}

abbrev put : Span → PForm → PStmt
put s f = record { span = s; form = f }

module _ (prog : Prog) (bounds : Bounds) (call : Calls) where
  abbrev width : ℕ
  width = bounds.int_bits

  abbrev done : PStmt → Comp Flow
  done = exec_stmt prog bounds call

  abbrev all : List PStmt → Comp Flow
  all ss = one_by_one (map done ss)

  abbrev cut : PStmt → Trimmed
  cut = trim prog.consts width

  abbrev value_at : Span → PExpr → Comp Value
  value_at s e = (does prog width call e).value s

  record Same (s : PStmt) (t : Trimmed) : Type 0 where
    inside : all t.inside ≡ done s
    among : all t.among ≡ done s
    ends : t.ends ≡ true → NeverOn (done s)

  abbrev At : PStmt → Type 0
  At s = Same s (cut s)

  at_of : (s : PStmt) (t : Trimmed) → cut s ≡ t → Same s t → At s
  at_of s t e h = subst (Same s) (sym e) h

  -- the same statement, or one that does the same
  one_same : (s : PStmt) (span : Span) (f : PForm) (ends : Bool) → done (put span f) ≡ done s → (ends ≡ true → NeverOn (done s)) → Same s (one span f ends)
  one_same s span f ends e h = record { inside = single (done (put span f)) ∙ e; among = single (done (put span f)) ∙ e; ends = h }

  kept_same : (span : Span) (f : PForm) → Same (put span f) (one span f false)
  kept_same span f = one_same (put span f) span f false refl (λ h. absurd (false≢true h))

  -- Blocks

  abbrev Every : List PStmt → Type 0
  Every ss = Each At ss

  up_to_same : (ss : List PStmt) → Every ss → all (up_to_end (map cut ss)) ≡ all ss
  up_to_same [] h = refl
  up_to_same (s ∷ ss) h = go (up_to_same ss h.1) (cut s).ends refl
    where
      one_of : At s
      one_of = h.0

      go : all (up_to_end (map cut ss)) ≡ all ss → (b : Bool) → (cut s).ends ≡ b → all (if b then (cut s).among else (cut s).among ++ up_to_end (map cut ss)) ≡ all (s ∷ ss)
      go rest true e = one_of.among ∙ sym (nothing_behind (done s) (all ss) (one_of.ends e))
      go rest false e =
          ap one_by_one (map-append done (cut s).among (up_to_end (map cut ss)))
          ∙ together (map done (cut s).among) (map done (up_to_end (map cut ss)))
          ∙ (let a = one_of.among in λ i. a i >>= unless_returned (rest i))

  ends_same : (ss : List PStmt) → Every ss → any_ends (map cut ss) ≡ true → NeverOn (all ss)
  ends_same [] h e = absurd (false≢true e)
  ends_same (s ∷ ss) h e = go (ends_same ss h.1) (cut s).ends refl
    where
      one_of : At s
      one_of = h.0

      go : (any_ends (map cut ss) ≡ true → NeverOn (all ss)) → (b : Bool) → (cut s).ends ≡ b → NeverOn (all (s ∷ ss))
      go rest true k = first_ends (done s) (all ss) (one_of.ends k)
      go rest false k = second_ends (done s) (all ss) (rest (ap (λ b. b || any_ends (map cut ss)) (sym k) ∙ e))

  block_does : (span : Span) (ss : List PStmt) → done (block span ss) ≡ all ss
  block_does span ss = by_state (done (block span ss)) (all ss) (λ st. exec_block prog bounds call span ss st)

  opened_same : (span : Span) (ss : List PStmt) → all (opened span ss) ≡ all ss
  opened_same span ss = go (list_any declares ss)
    where
      go : (b : Bool) → all (if b then block span ss ∷ [] else ss) ≡ all ss
      go true = single (done (block span ss)) ∙ block_does span ss
      go false = refl

  row_same : (s : PStmt) (span : Span) (ss : List PStmt) → Every ss → done s ≡ all ss → Same s (trimmed_block span (map cut ss))
  row_same s span ss h is =
      let e = up_to_same ss h ∙ sym is in
      record {
        inside = e;
        among = opened_same span (up_to_end (map cut ss)) ∙ e;
        ends = λ k. subst NeverOn (sym is) (ends_same ss h k);
      }

  body_does : (span : Span) (s : PStmt) → At s → done (block span (cut s).inside) ≡ done s
  body_does span s h = block_does span (cut s).inside ∙ h.inside

  -- Branches

  chosen : (span : Span) (c : PExpr) (d : Constant) → constant prog.consts width c ≡ Some d → (m : Comp Flow) (n : Comp Flow) (st : State) → (value_at span c >>= choose span m n) st ≡ choose span m n (value_of d) st
  chosen span c d e m n st = ap (λ r. and_then r (choose span m n)) (constants_are prog width call c d e span st)

  if_does : (span : Span) (c : PExpr) (a : PStmt) → done (put span (form.If c a None)) ≡ (value_at span c >>= choose span (done a) (pure Onward))
  if_does span c a = by_state (done (put span (form.If c a None))) (value_at span c >>= choose span (done a) (pure Onward)) (λ st. exec_if prog bounds call span c a st)

  if_else_does : (span : Span) (c : PExpr) (a b : PStmt) → done (put span (form.If c a (Some b))) ≡ (value_at span c >>= choose span (done a) (done b))
  if_else_does span c a b = by_state (done (put span (form.If c a (Some b)))) (value_at span c >>= choose span (done a) (done b)) (λ st. exec_if_else prog bounds call span c a b st)

  taken : (span : Span) (c : PExpr) (d : Constant) → constant prog.consts width c ≡ Some d → (m : Comp Flow) (n : Comp Flow) → (value_at span c >>= choose span m n) ≡ choose span m n (value_of d)
  taken span c d e m n = by_state (value_at span c >>= choose span m n) (choose span m n (value_of d)) (λ st. chosen span c d e m n st)

  same_as : (s s' : PStmt) (t : Trimmed) → done s' ≡ done s → Same s' t → Same s t
  same_as s s' t e h = record { inside = h.inside ∙ e; among = h.among ∙ e; ends = λ k. subst NeverOn e (h.ends k) }

  nothing_same : (s : PStmt) → done s ≡ pure Onward → Same s nothing
  nothing_same s e = record { inside = sym e; among = sym e; ends = λ h. absurd (false≢true h) }

  both_end : (span : Span) (c : PExpr) (m n : Comp Flow) → NeverOn m → NeverOn n → NeverOn (value_at span c >>= choose span m n)
  both_end span c m n h k st = go (value_at span c st)
    where
      go : (r : Step Value) → Ended (and_then r (choose span m n))
      go (Goes (value.Bit true) s) = h s
      go (Goes (value.Bit false) s) = k s
      go (Goes (value.Int i) s) = tt
      go (Goes value.Null s) = tt
      go (Goes (value.Place p) s) = tt
      go (Goes (value.Array' shape vs) s) = tt
      go (Fails x) = tt
      go (Skips x) = tt

  kept_if_same : (span : Span) (c : PExpr) (a : PStmt) → At a → Same (put span (form.If c a None)) (kept_if span c (cut a) nothing)
  kept_if_same span c a h =
      one_same (put span (form.If c a None)) span (form.If c (block span (cut a).inside) None) ((cut a).ends && false)
      (if_does span c (block span (cut a).inside) ∙ ap (λ m. value_at span c >>= choose span m (pure Onward)) (body_does span a h) ∙ sym (if_does span c a))
      (λ k. absurd (false≢true (and_parts (cut a).ends false k).1))

  else_same : (span : Span) (c : PExpr) (a b : PStmt) (xs : List PStmt) → all xs ≡ done b → done (put span (form.If c a (else_body span xs))) ≡ (value_at span c >>= choose span (done a) (done b))
  else_same span c a b [] e = if_does span c a ∙ ap (λ n. value_at span c >>= choose span (done a) n) e
  else_same span c a b (x ∷ xs) e = if_else_does span c a (block span (x ∷ xs)) ∙ ap (λ n. value_at span c >>= choose span (done a) n) (block_does span (x ∷ xs) ∙ e)

  kept_else_same : (span : Span) (c : PExpr) (a b : PStmt) → At a → At b → Same (put span (form.If c a (Some b))) (kept_if span c (cut a) (cut b))
  kept_else_same span c a b h k =
      one_same (put span (form.If c a (Some b))) span (form.If c (block span (cut a).inside) (else_body span (cut b).inside)) ((cut a).ends && (cut b).ends)
      (else_same span c (block span (cut a).inside) b (cut b).inside k.inside ∙ ap (λ m. value_at span c >>= choose span m (done b)) (body_does span a h) ∙ sym (if_else_does span c a b))
      (λ e. let both = and_parts (cut a).ends (cut b).ends e in subst NeverOn (sym (if_else_does span c a b)) (both_end span c (done a) (done b) (h.ends both.0) (k.ends both.1)))

  if_same : (span : Span) (c : PExpr) (a : PStmt) → At a → (o : Option Constant) → constant prog.consts width c ≡ o → Same (put span (form.If c a None)) (T.branch span c (cut a) nothing o)
  if_same span c a h (Some (Bit true)) e = same_as (put span (form.If c a None)) a (cut a) (sym (if_does span c a ∙ taken span c (Bit true) e (done a) (pure Onward))) h
  if_same span c a h (Some (Bit false)) e = nothing_same (put span (form.If c a None)) (if_does span c a ∙ taken span c (Bit false) e (done a) (pure Onward))
  if_same span c a h (Some (Number n)) e = kept_if_same span c a h
  if_same span c a h None e = kept_if_same span c a h

  if_else_same : (span : Span) (c : PExpr) (a b : PStmt) → At a → At b → (o : Option Constant) → constant prog.consts width c ≡ o → Same (put span (form.If c a (Some b))) (T.branch span c (cut a) (cut b) o)
  if_else_same span c a b h k (Some (Bit true)) e = same_as (put span (form.If c a (Some b))) a (cut a) (sym (if_else_does span c a b ∙ taken span c (Bit true) e (done a) (done b))) h
  if_else_same span c a b h k (Some (Bit false)) e = same_as (put span (form.If c a (Some b))) b (cut b) (sym (if_else_does span c a b ∙ taken span c (Bit false) e (done a) (done b))) k
  if_else_same span c a b h k (Some (Number n)) e = kept_else_same span c a b h k
  if_else_same span c a b h k None e = kept_else_same span c a b h k

  -- Loops

  while_does : (span : Span) (c : PExpr) (a : PStmt) → done (put span (form.While c a)) ≡ turns bounds.unroll span (does prog width call c) (done a)
  while_does span c a = by_state (done (put span (form.While c a))) (turns bounds.unroll span (does prog width call c) (done a)) (λ st. exec_while prog bounds call span c a st)

  no_turns : (n : ℕ) (span : Span) (c : PExpr) (m : Comp Flow) → constant prog.consts width c ≡ Some (Bit false) → turns n span (does prog width call c) m ≡ pure Onward
  no_turns zero span c m e = taken span c (Bit false) e (fail span) (pure Onward)
  no_turns (suc n) span c m e = taken span c (Bit false) e (m >>= unless_returned (turns n span (does prog width call c) m)) (pure Onward)

  kept_loop_same : (span : Span) (c : PExpr) (a : PStmt) → At a → Same (put span (form.While c a)) (one span (form.While c (block span (cut a).inside)) false)
  kept_loop_same span c a h =
      one_same (put span (form.While c a)) span (form.While c (block span (cut a).inside)) false
      (while_does span c (block span (cut a).inside) ∙ ap (λ m. turns bounds.unroll span (does prog width call c) m) (body_does span a h) ∙ sym (while_does span c a))
      (λ k. absurd (false≢true k))

  loop_same : (span : Span) (c : PExpr) (a : PStmt) → At a → (o : Option Constant) → constant prog.consts width c ≡ o → Same (put span (form.While c a)) (T.loop span c (cut a) o)
  loop_same span c a h (Some (Bit false)) e = nothing_same (put span (form.While c a)) (while_does span c a ∙ no_turns bounds.unroll span c (done a) e)
  loop_same span c a h (Some (Bit true)) e = kept_loop_same span c a h
  loop_same span c a h (Some (Number n)) e = kept_loop_same span c a h
  loop_same span c a h None e = kept_loop_same span c a h

  -- Other forms

  bodies_do : (span : Span) (ss : List PStmt) → Every ss → map done (bodies span (map cut ss)) ≡ map done ss
  bodies_do span [] h = refl
  bodies_do span (s ∷ ss) h = let a = body_does span s h.0 in let b = bodies_do span ss h.1 in λ i. a i ∷ b i

  return_ends : (span : Span) (e : Option PExpr) → NeverOn (done (put span (form.Return e)))
  return_ends span None st = subst Ended (sym (exec_return prog bounds call span None st)) tt
  return_ends span (Some e) st = subst Ended (sym (exec_return prog bounds call span (Some e) st)) (go (value_at span e st))
    where
      go : (r : Step Value) → Ended (and_then r (λ v. pure (Returns (Some v))))
      go (Goes v s) = tt
      go (Fails x) = tt
      go (Skips x) = tt

  abbrev kept_repeat : Span → PExpr → List Trimmed → Trimmed
  kept_repeat span c ts = one span (form.Repeat c (bodies span ts)) false

  repeat_by : (span : Span) (c : PExpr) (ss : List PStmt) → Every ss → (b : Bool) → is_hole c.form ≡ b → Same (put span (form.Repeat c ss)) (if b then kept_repeat span c (map cut ss) else trimmed_block span (map cut ss))
  repeat_by span c ss h true e =
      one_same (put span (form.Repeat c ss)) span (form.Repeat c (bodies span (map cut ss))) false
      (by_state _ _ (λ st. exec_repeat prog bounds call span c (bodies span (map cut ss)) st ∙ ap (λ ms. (if is_hole c.form then fail span else one_by_one ms) st) (bodies_do span ss h) ∙ sym (exec_repeat prog bounds call span c ss st)))
      (λ k. absurd (false≢true k))
  repeat_by span c ss h false e = row_same (put span (form.Repeat c ss)) span ss h (by_state _ _ (λ st. exec_repeat prog bounds call span c ss st ∙ ap (λ b. (if b then fail span else one_by_one (map done ss)) st) e))

  minrepeat_same : (span : Span) (ss : List PStmt) → Every ss → Same (put span (form.MinRepeat ss)) (one span (form.MinRepeat (bodies span (map cut ss))) false)
  minrepeat_same span ss h =
      one_same (put span (form.MinRepeat ss)) span (form.MinRepeat (bodies span (map cut ss))) false
      (by_state _ _ (λ st. exec_minrepeat prog bounds call span (bodies span (map cut ss)) st ∙ sym (exec_minrepeat prog bounds call span ss st)))
      (λ k. absurd (false≢true k))

  abbrev kept_reorder : Span → List Trimmed → Trimmed
  kept_reorder span ts = one span (form.Reorder (bodies span ts)) false

  as_many : (ss : List PStmt) → length (map done ss) ≡ length (map cut ss)
  as_many ss = length-map ss done ∙ sym (length-map ss cut)

  reorder_by : (span : Span) (ss : List PStmt) → Every ss → (b : Bool) → nat_le (length (map cut ss)) 1 ≡ b → Same (put span (form.Reorder ss)) (if b then trimmed_block span (map cut ss) else kept_reorder span (map cut ss))
  reorder_by span ss h true e =
      row_same (put span (form.Reorder ss)) span ss h
      (by_state _ _ (λ st. exec_reorder prog bounds call span ss st ∙ ap (λ b. (if b then one_by_one (map done ss) else fail span) st) (ap (λ n. nat_le n 1) (as_many ss) ∙ e)))
  reorder_by span ss h false e =
      one_same (put span (form.Reorder ss)) span (form.Reorder (bodies span (map cut ss))) false
      (by_state _ _ (λ st. exec_reorder prog bounds call span (bodies span (map cut ss)) st ∙ ap (λ ms. (if nat_le (length ms) 1 then one_by_one ms else fail span) st) (bodies_do span ss h) ∙ sym (exec_reorder prog bounds call span ss st)))
      (λ k. absurd (false≢true k))

  cases : StmtCases At
  cases = record {
    block = λ s ss h. at_of _ _ (layer_of_block (Span → Trimmed) Trimmed (trim_form prog.consts width) (λ s. s.form s.span) s ss) (row_same (put s (form.Block ss)) s ss h (block_does s ss));
    declare = λ s slot x t e. at_of _ _ (layer_of_declare (Span → Trimmed) Trimmed (trim_form prog.consts width) (λ s. s.form s.span) s slot x t e) (kept_same s (form.Declare slot x t e));
    assign = λ s p e. at_of _ _ (layer_of_assign (Span → Trimmed) Trimmed (trim_form prog.consts width) (λ s. s.form s.span) s p e) (kept_same s (form.Assign p e));
    calls = λ s e. at_of _ _ (layer_of_call (Span → Trimmed) Trimmed (trim_form prog.consts width) (λ s. s.form s.span) s e) (kept_same s (form.Call e));
    if_only = λ s c a h. at_of _ _ (layer_of_if (Span → Trimmed) Trimmed (trim_form prog.consts width) (λ s. s.form s.span) s c a) (if_same s c a h (constant prog.consts width c) refl);
    if_else = λ s c a b h k. at_of _ _ (layer_of_if_else (Span → Trimmed) Trimmed (trim_form prog.consts width) (λ s. s.form s.span) s c a b) (if_else_same s c a b h k (constant prog.consts width c) refl);
    loop = λ s c a h. at_of _ _ (layer_of_while (Span → Trimmed) Trimmed (trim_form prog.consts width) (λ s. s.form s.span) s c a) (loop_same s c a h (constant prog.consts width c) refl);
    returns = λ s e. at_of _ _ (layer_of_return (Span → Trimmed) Trimmed (trim_form prog.consts width) (λ s. s.form s.span) s e) (one_same (put s (form.Return e)) s (form.Return e) true refl (λ k. return_ends s e));
    asserts = λ s e. at_of _ _ (layer_of_assert (Span → Trimmed) Trimmed (trim_form prog.consts width) (λ s. s.form s.span) s e) (kept_same s (form.Assert e));
    assumes = λ s e. at_of _ _ (layer_of_assume (Span → Trimmed) Trimmed (trim_form prog.consts width) (λ s. s.form s.span) s e) (kept_same s (form.Assume e));
    minimizes = λ s e. at_of _ _ (layer_of_minimize (Span → Trimmed) Trimmed (trim_form prog.consts width) (λ s. s.form s.span) s e) (kept_same s (form.Minimize e));
    repeats = λ s c ss h. at_of _ _ (layer_of_repeat (Span → Trimmed) Trimmed (trim_form prog.consts width) (λ s. s.form s.span) s c ss) (repeat_by s c ss h (is_hole c.form) refl);
    minrepeat = λ s ss h. at_of _ _ (layer_of_minrepeat (Span → Trimmed) Trimmed (trim_form prog.consts width) (λ s. s.form s.span) s ss) (minrepeat_same s ss h);
    reorder = λ s ss h. at_of _ _ (layer_of_reorder (Span → Trimmed) Trimmed (trim_form prog.consts width) (λ s. s.form s.span) s ss) (reorder_by s ss h (nat_le (length (map cut ss)) 1) refl);
  }

  each_at : (ss : List PStmt) → Every ss
  each_at [] = tt
  each_at (s ∷ ss) = (stmt_ind At cases s, each_at ss)

  -- so is it of a body
  pub trimmed_does : (ss : List PStmt) → one_by_one (map (exec_stmt prog bounds call) (trimmed prog.consts bounds.int_bits ss)) ≡ one_by_one (map (exec_stmt prog bounds call) ss)
  trimmed_does ss = up_to_same ss (each_at ss)
