-- What statements do without steps and with logs.
use Rattle.std.proofs.Common.{◌≡◌, ℕ, zero, suc, List, [], ◌∷◌, map, Option, Some, None, Bool, true, false, length, refl, sym, ap, subst, ◌∙◌}
use Rattle.std.specs.Prelude.{nat_le, if◌then◌else◌}
use Rattle.sk_base.specs.declared.span.Span.{Span}
use Rattle.sk_base.specs.declared.bounds.Bounds.{Bounds}
use Rattle.sk_prog.specs.declared.value.Value.{Value}
use Rattle.sk_prog.specs.declared.value.Value.TheVariants as value
use Rattle.sk_prog.specs.declared.expr.PExpr.{PExpr}
use Rattle.sk_prog.specs.declared.stmt.PStmt.{PStmt}
use Rattle.sk_prog.specs.declared.stmt.PForm.{PForm}
use Rattle.sk_prog.specs.declared.stmt.PForm.TheOpen as S
use Rattle.sk_prog.specs.declared.stmt.PForm.TheViews as W
use Rattle.sk_prog.specs.declared.stmt.PForm.TheFolds.{map-PForm, map-PStmt, fold-PForm, fold-roll-PForm, fold-roll-PStmt, ind-PStmt}
use Rattle.sk_prog.specs.declared.ty.Ty.{Ty}
use Rattle.sk_prog.specs.declared.prog.Prog.{Prog}
use Rattle.sk_model.specs.Step.{State, Comp}
use Rattle.sk_model.specs.Step as step
use Rattle.sk_model.specs.Sites.{is_hole}
use Rattle.sk_model.specs.Values.{zero_of}
use Rattle.sk_model.specs.Heap.{Location, write, store}
use Rattle.sk_model.specs.Eval as eval
use Rattle.sk_model.specs.Exec.{Flow, Onward, Returns}
use Rattle.sk_model.specs.Exec as plain
use Rattle.sk_interp_laws.specs.declared.step.Step.{Step}
use Rattle.sk_interp_laws.specs.declared.step.What.{What}
use Rattle.sk_interp_laws.specs.declared.step.What.TheVariants as what
use Rattle.sk_interp_laws.specs.Recording.{Recorded, Going, Goes, Fails, Skips, Traced, and_then, pure, fail, lift}
use Rattle.sk_interp_laws.specs.Eval.{Calls, Does, does}
use Rattle.sk_interp_laws.specs.Exec.{unless_returned, one_by_one, told, truth, holds, declare, assign, turns, return, pay, any_meaning, exec_form, exec_stmt, exec_all}
use Rattle.sk_interp_laws.proofs.Agree.{Agrees, carry, carried, without, lifts, pures, fails, skips, tells, thens}
use Rattle.sk_interp_laws.proofs.Exprs.{DoesAgree, exprs}

grouped : {A B C : Type 0} (x : step.Step A) (k : A → Comp B) (l : B → Comp C) → step.and_then (step.and_then x k) l ≡ step.and_then x (λ a s. step.and_then (k a s) l)
grouped (step.Goes a s) k l = refl
grouped (step.Fails span) k l = refl
grouped (step.Skips span) k l = refl

all_grouped : {A B C D : Type 0} (x : step.Step A) (e : Comp B) (put : A → B → Comp C) (l : C → Comp D) → step.and_then (step.and_then x (λ a s. step.and_then (e s) (put a))) l ≡ step.and_then x (λ a s. step.and_then (e s) (λ b t. step.and_then (put a b t) l))
all_grouped (step.Goes a s) e put l = grouped (e s) (put a) l
all_grouped (step.Fails span) e put l = refl
all_grouped (step.Skips span) e put l = refl

joined : {N A B C : Type 0} (x : Going N A) (k : A → Traced N B) (l : B → Traced N C) → and_then (and_then x k) l ≡ and_then x (λ a r. and_then (k a r) l)
joined (Goes a r) k l = refl
joined (Fails span log) k l = refl
joined (Skips span log) k l = refl

same_length : {X Y : Type 0} {Q : X → Type 0} (f : X → Y) (qs : List ((x : X) × Q x)) → length (map f (map (λ q. q.0) qs)) ≡ length qs
same_length f [] = refl
same_length f (q ∷ qs) = ap suc (same_length f qs)

module _ {L M : Type 0} (h : L → M) where
  -- what is done in turn, however it is grouped
  regrouped : {A : Type 0} (m n : Comp A) {t t' : Traced L A} {u u' : Traced M A} → ((s : State) → m s ≡ n s) → ((r : Recorded L) → t r ≡ t' r) → ((r : Recorded M) → u r ≡ u' r) → Agrees h n t' u' → Agrees h m t u
  regrouped m n is ist isu agree = record {
    run = λ r. ap without (ist r) ∙ agree.run r ∙ sym (is r.memory);
    logs = λ r. ap (carried h) (ist r) ∙ agree.logs r ∙ sym (isu (carry h r));
  }

  unless : (m : Comp Flow) (t : Traced L Flow) (u : Traced M Flow) → Agrees h m t u → (flow : Flow) → Agrees h (plain.unless_returned m flow) (unless_returned t flow) (unless_returned u flow)
  unless m t u agree Onward = agree
  unless m t u agree (Returns v) = pures h (Returns v)

  module _ {X : Type 0} (f : X → Comp Flow) (g : X → Traced L Flow) (k : X → Traced M Flow) where
    pub one_after : (qs : List ((x : X) × Agrees h (f x) (g x) (k x))) → Agrees h (plain.one_by_one (map f (map (λ q. q.0) qs))) (one_by_one (map g (map (λ q. q.0) qs))) (one_by_one (map k (map (λ q. q.0) qs)))
    one_after [] = pures h Onward
    one_after (q ∷ qs) = thens h _ _ _ q.1 (unless _ _ _ (one_after qs))

  module _ (take : L → Step → L) (keep : M → Step → M) (follows : (log : L) (it : Step) → h (take log it) ≡ keep (h log) it) (active : ℕ) where
    -- a step that is told, and what is done then
    tolds : (span : Span) (it : What) {m : Comp Flow} {t : Traced L Flow} {u : Traced M Flow} → Agrees h m t u → Agrees h m (λ r. and_then (told take active span it r) (λ done. t)) (λ r. and_then (told keep active span it r) (λ done. u))
    tolds span it {m = m} {t = t} {u = u} agree = thens h (λ done. m) (λ done. t) (λ done. u) (tells h take keep follows (record { span = span; active = active; what = it })) (λ done. agree)

    truths : (span : Span) (a b : Comp Flow) (ta tb : Traced L Flow) (ua ub : Traced M Flow) → Agrees h a ta ua → Agrees h b tb ub → (v : Value) → Agrees h (eval.choose span a b v) (λ r. and_then (truth take active span v r) (λ t. if t then ta else tb)) (λ r. and_then (truth keep active span v r) (λ t. if t then ua else ub))
    truths span a b ta tb ua ub ha hb (value.Bit true) = tolds span (what.Truth true) ha
    truths span a b ta tb ua ub ha hb (value.Bit false) = tolds span (what.Truth false) hb
    truths span a b ta tb ua ub ha hb (value.Int n) = fails h span
    truths span a b ta tb ua ub ha hb value.Null = fails h span
    truths span a b ta tb ua ub ha hb (value.Place p) = fails h span
    truths span a b ta tb ua ub ha hb (value.Array' shape vs) = fails h span

    -- the one or the other by a condition
    decides : (span : Span) (d : eval.Does) (t : Does L) (u : Does M) → DoesAgree h d t u → {a b : Comp Flow} {ta tb : Traced L Flow} {ua ub : Traced M Flow} → Agrees h a ta ua → Agrees h b tb ub → Agrees h (λ s. step.and_then (d.value span s) (eval.choose span a b)) (λ r. and_then (holds take active span t r) (λ k. if k then ta else tb)) (λ r. and_then (holds keep active span u r) (λ k. if k then ua else ub))
    decides span d t u agree {a = a} {b = b} {ta = ta} {tb = tb} {ua = ua} {ub = ub} ha hb = regrouped _ _ (λ s. refl) (λ r. joined (t.value span r) (truth take active span) (λ k. if k then ta else tb)) (λ r. joined (u.value span r) (truth keep active span) (λ k. if k then ua else ub)) (thens h _ _ _ (agree.value span) (truths span a b ta tb ua ub ha hb))

    pays : (span : Span) (v : Value) → Agrees h (plain.pay span v) (pay take active span v) (pay keep active span v)
    pays span (value.Int n) = tolds span (what.Cost n) (lifts h (plain.pay span (value.Int n)))
    pays span (value.Bit b) = fails h span
    pays span value.Null = fails h span
    pays span (value.Place p) = fails h span
    pays span (value.Array' shape vs) = fails h span

    -- a value that is stored so, and told
    stores : (span : Span) (v : Value) (put : Comp (Unit {0})) → Agrees h (plain.onward put) (λ r. and_then (lift put r) (λ done s. and_then (told take active span (what.Store v) s) (λ told. pure Onward))) (λ r. and_then (lift put r) (λ done s. and_then (told keep active span (what.Store v) s) (λ told. pure Onward)))
    stores span v put = thens h (λ done. step.pure Onward) (λ done s. and_then (told take active span (what.Store v) s) (λ told. pure Onward)) (λ done s. and_then (told keep active span (what.Store v) s) (λ told. pure Onward)) (lifts h put) (λ done. tolds span (what.Store v) (pures h Onward))

    module _ (d : eval.Does) (t : Does L) (u : Does M) (agree : DoesAgree h d t u) (span : Span) where
      loops : (n : ℕ) (m : Comp Flow) (tm : Traced L Flow) (um : Traced M Flow) → Agrees h m tm um → Agrees h (plain.turns n span d m) (turns take active n span t tm) (turns keep active n span u um)
      loops zero m tm um body = decides span _ _ _ agree (fails h span) (pures h Onward)
      loops (suc n) m tm um body = decides span _ _ _ agree (thens h _ _ _ body (unless _ _ _ (loops n m tm um body))) (pures h Onward)

    module _ (prog : Prog) (bounds : Bounds) (call : eval.Calls) (tcall : Calls L) (ucall : Calls M) (same : (span : Span) (f : ℕ) (args : List Value) → Agrees h (call span f args) (tcall span f args) (ucall span f args)) where
      expr : (e : PExpr) → DoesAgree h (eval.does prog bounds.int_bits call e) (does prog bounds.int_bits tcall e) (does prog bounds.int_bits ucall e)
      expr = exprs h prog bounds.int_bits call tcall ucall same

      declares : (slot : ℕ) (t : Ty) (e : Option PExpr) (span : Span) → Agrees h (plain.declare span slot t (plain.any_meaning prog bounds call e)) (declare take active span slot t (any_meaning take active prog bounds tcall e)) (declare keep active span slot t (any_meaning keep active prog bounds ucall e))
      declares slot t None span = lifts h (plain.onward (write slot (zero_of t)))
      declares slot t (Some e) span = regrouped _ _ (λ s. grouped ((eval.does prog bounds.int_bits call e).value span s) (write slot) (λ u. step.pure Onward)) (λ r. refl) (λ r. refl) (thens h (λ v. plain.onward (write slot v)) _ _ ((expr e).value span) (λ v. stores span v (write slot v)))

      assigns : (a e : PExpr) (span : Span) → Agrees h (plain.assign span (eval.does prog bounds.int_bits call a) (eval.does prog bounds.int_bits call e)) (assign take active span (does prog bounds.int_bits tcall a) (does prog bounds.int_bits tcall e)) (assign keep active span (does prog bounds.int_bits ucall a) (does prog bounds.int_bits ucall e))
      assigns a e span =
          let put : Location → Comp Flow = λ location s. step.and_then ((eval.does prog bounds.int_bits call e).value span s) (λ v. plain.onward (store span location v)) in
          regrouped _ _ (λ s. all_grouped ((eval.does prog bounds.int_bits call a).target span s) ((eval.does prog bounds.int_bits call e).value span) (store span) (λ u. step.pure Onward)) (λ r. refl) (λ r. refl)
          (thens h put _ _ ((expr a).target span) (λ location. thens h (λ v. plain.onward (store span location v)) _ _ ((expr e).value span) (λ v. stores span v (store span location v))))

      gives : (e : Option PExpr) (span : Span) → Agrees h (plain.return span (plain.any_meaning prog bounds call e)) (return take active span (any_meaning take active prog bounds tcall e)) (return keep active span (any_meaning keep active prog bounds ucall e))
      gives None span = tolds span what.Go (pures h (Returns None))
      gives (Some e) span = thens h _ _ _ ((expr e).value span) (λ v. tolds span what.Go (pures h (Returns (Some v))))

      abbrev form_done : PForm → Span → Comp Flow
      form_done = fold-PForm (Span → Comp Flow) (Comp Flow) (plain.exec_form prog bounds call) (λ s. s.form s.span)

      abbrev stmt_done : PStmt → Comp Flow
      stmt_done = plain.exec_stmt prog bounds call

      module _ {N : Type 0} (more : N → Step → N) (ncall : Calls N) where
        abbrev form_traced : PForm → Span → Traced N Flow
        form_traced = fold-PForm (Span → Traced N Flow) (Traced N Flow) (exec_form more active prog bounds ncall) (λ s. s.form s.span)

        abbrev stmt_traced : PStmt → Traced N Flow
        stmt_traced = exec_stmt more active prog bounds ncall

        abbrev traced_layer : S.PForm-F PForm PStmt → Span → Traced N Flow
        traced_layer x = exec_form more active prog bounds ncall (map-PForm PForm PStmt (Span → Traced N Flow) (Traced N Flow) form_traced stmt_traced x)

      abbrev done_layer : S.PForm-F PForm PStmt → Span → Comp Flow
      done_layer x = plain.exec_form prog bounds call (map-PForm PForm PStmt (Span → Comp Flow) (Comp Flow) form_done stmt_done x)

      abbrev At_form : PForm → Type 0
      At_form f = (span : Span) → Agrees h (form_done f span) (form_traced take tcall f span) (form_traced keep ucall f span)

      abbrev At_stmt : PStmt → Type 0
      At_stmt s = Agrees h (stmt_done s) (stmt_traced take tcall s) (stmt_traced keep ucall s)

      abbrev Form : Type 0
      Form = (f : PForm) × At_form f

      abbrev Stmt : Type 0
      Stmt = (s : PStmt) × At_stmt s

      abbrev down : S.PForm-F Form Stmt → S.PForm-F PForm PStmt
      down = map-PForm Form Stmt PForm PStmt (λ q. q.0) (λ q. q.0)

      rolled : (x : S.PForm-F PForm PStmt) → ((span : Span) → Agrees h (done_layer x span) (traced_layer take tcall x span) (traced_layer keep ucall x span)) → At_form (W.roll-PForm x)
      rolled x agree span =
          subst (λ (m : Span → Comp Flow). Agrees h (m span) (form_traced take tcall (W.roll-PForm x) span) (form_traced keep ucall (W.roll-PForm x) span)) (sym (fold-roll-PForm (Span → Comp Flow) (Comp Flow) (plain.exec_form prog bounds call) (λ s. s.form s.span) x))
          (subst (λ (m : Span → Traced L Flow). Agrees h (done_layer x span) (m span) (form_traced keep ucall (W.roll-PForm x) span)) (sym (fold-roll-PForm (Span → Traced L Flow) (Traced L Flow) (exec_form take active prog bounds tcall) (λ s. s.form s.span) x))
          (subst (λ (m : Span → Traced M Flow). Agrees h (done_layer x span) (traced_layer take tcall x span) (m span)) (sym (fold-roll-PForm (Span → Traced M Flow) (Traced M Flow) (exec_form keep active prog bounds ucall) (λ s. s.form s.span) x)) (agree span)))

      stmts : (ss : List Stmt) → Agrees h (plain.one_by_one (map stmt_done (map (λ q. q.0) ss))) (one_by_one (map (stmt_traced take tcall) (map (λ q. q.0) ss))) (one_by_one (map (stmt_traced keep ucall) (map (λ q. q.0) ss)))
      stmts = one_after stmt_done (stmt_traced take tcall) (stmt_traced keep ucall)

      repeats : (hole : Bool) (span : Span) (ss : List Stmt) → Agrees h (if hole then step.fail span else plain.one_by_one (map stmt_done (map (λ q. q.0) ss))) (if hole then fail span else one_by_one (map (stmt_traced take tcall) (map (λ q. q.0) ss))) (if hole then fail span else one_by_one (map (stmt_traced keep ucall) (map (λ q. q.0) ss)))
      repeats true span ss = fails h span
      repeats false span ss = stmts ss

      in_one_order : (few : Bool) (span : Span) (ss : List Stmt) → Agrees h (if few then plain.one_by_one (map stmt_done (map (λ q. q.0) ss)) else step.fail span) (if few then one_by_one (map (stmt_traced take tcall) (map (λ q. q.0) ss)) else fail span) (if few then one_by_one (map (stmt_traced keep ucall) (map (λ q. q.0) ss)) else fail span)
      in_one_order true span ss = stmts ss
      in_one_order false span ss = fails h span

      reorders : (span : Span) (ss : List Stmt) → Agrees h (if nat_le (length (map stmt_done (map (λ q. q.0) ss))) 1 then plain.one_by_one (map stmt_done (map (λ q. q.0) ss)) else step.fail span) (if nat_le (length (map (stmt_traced take tcall) (map (λ q. q.0) ss))) 1 then one_by_one (map (stmt_traced take tcall) (map (λ q. q.0) ss)) else fail span) (if nat_le (length (map (stmt_traced keep ucall) (map (λ q. q.0) ss))) 1 then one_by_one (map (stmt_traced keep ucall) (map (λ q. q.0) ss)) else fail span)
      reorders span ss = rw (same_length stmt_done ss, same_length (stmt_traced take tcall) ss, same_length (stmt_traced keep ucall) ss) (in_one_order (nat_le (length ss) 1) span ss)

      layer : (y : S.PForm-F Form Stmt) → At_form (W.roll-PForm (down y))
      layer (S.Block ss) = rolled (down (S.Block ss)) (λ span. stmts ss)
      layer (S.Declare slot x t e) = rolled (S.Declare slot x t e) (declares slot t e)
      layer (S.Assign a e) = rolled (S.Assign a e) (assigns a e)
      layer (S.Call e) = rolled (S.Call e) (λ span. thens h _ _ _ ((expr e).value span) (λ v. tolds span what.Go (pures h Onward)))
      layer (S.If c a None) = rolled (S.If c a.0 None) (λ span. decides span _ _ _ (expr c) a.1 (pures h Onward))
      layer (S.If c a (Some b)) = rolled (S.If c a.0 (Some b.0)) (λ span. decides span _ _ _ (expr c) a.1 b.1)
      layer (S.While c a) = rolled (S.While c a.0) (λ span. loops _ _ _ (expr c) span bounds.unroll _ _ _ a.1)
      layer (S.Return e) = rolled (S.Return e) (gives e)
      layer (S.Assert e) = rolled (S.Assert e) (λ span. decides span _ _ _ (expr e) (pures h Onward) (fails h span))
      layer (S.Assume e) = rolled (S.Assume e) (λ span. decides span _ _ _ (expr e) (pures h Onward) (skips h span))
      layer (S.Minimize e) = rolled (S.Minimize e) (λ span. thens h _ _ _ ((expr e).value span) (pays span))
      layer (S.Repeat c ss) = rolled (down (S.Repeat c ss)) (λ span. repeats (is_hole c.form) span ss)
      layer (S.MinRepeat ss) = rolled (down (S.MinRepeat ss)) (λ span. fails h span)
      layer (S.Reorder ss) = rolled (down (S.Reorder ss)) (λ span. reorders span ss)

      stmt_layer : (y : S.PStmt-F Form Stmt) → At_stmt (W.roll-PStmt (map-PStmt Form Stmt PForm PStmt (λ q. q.0) (λ q. q.0) y))
      stmt_layer y =
          let x : S.PStmt-F PForm PStmt = map-PStmt Form Stmt PForm PStmt (λ q. q.0) (λ q. q.0) y in
          subst (λ (m : Comp Flow). Agrees h m (stmt_traced take tcall (W.roll-PStmt x)) (stmt_traced keep ucall (W.roll-PStmt x))) (sym (fold-roll-PStmt (Span → Comp Flow) (Comp Flow) (plain.exec_form prog bounds call) (λ s. s.form s.span) x))
          (subst (λ (m : Traced L Flow). Agrees h (form_done y.form.0 y.span) m (stmt_traced keep ucall (W.roll-PStmt x))) (sym (fold-roll-PStmt (Span → Traced L Flow) (Traced L Flow) (exec_form take active prog bounds tcall) (λ s. s.form s.span) x))
          (subst (λ (m : Traced M Flow). Agrees h (form_done y.form.0 y.span) (form_traced take tcall y.form.0 y.span) m) (sym (fold-roll-PStmt (Span → Traced M Flow) (Traced M Flow) (exec_form keep active prog bounds ucall) (λ s. s.form s.span) x)) (y.form.1 y.span)))

      stmt : (s : PStmt) → At_stmt s
      stmt = ind-PStmt At_form At_stmt
          (λ x y is. subst (λ z. At_form (W.roll-PForm z)) is (layer y))
          (λ x y is. subst (λ z. At_stmt (W.roll-PStmt z)) is (stmt_layer y))

      -- a body
      pub bodies : (ss : List PStmt) → Agrees h (plain.exec_all prog bounds call ss) (exec_all take active prog bounds tcall ss) (exec_all keep active prog bounds ucall ss)
      bodies [] = pures h Onward
      bodies (s ∷ ss) = thens h _ _ _ (stmt s) (unless _ _ _ (bodies ss))
