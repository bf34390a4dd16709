-- A statement does under a choice what its filling does.
use Rattle.std.proofs.Common.{◌≡◌, ℕ, zero, suc, ◌+◌, ◌-◌, Bool, true, false, List, [], ◌∷◌, ◌++◌, map, length, take, Option, Some, None, refl, sym, ap, subst, ◌∙◌, arith}
use Rattle.std.specs.Prelude.{IsTrue, insert}
use Rattle.std.proofs.lemmas.List.{length-map}
use Rattle.sk_base.specs.declared.span.Span.{Span}
use Rattle.sk_base.specs.declared.name.Name.{Name}
use Rattle.sk_base.specs.declared.bounds.Bounds.{Bounds}
use Rattle.sk_prog.specs.declared.ty.Ty.{Ty}
use Rattle.sk_prog.specs.declared.expr.PExpr.{PExpr}
use Rattle.sk_prog.specs.declared.stmt.PStmt.{PStmt}
use Rattle.sk_prog.specs.declared.stmt.PForm.{PForm}
use Rattle.sk_prog.specs.declared.stmt.PForm.TheVariants as form
use Rattle.sk_prog.specs.declared.stmt.PForm.TheOpen as S
use Rattle.sk_prog.specs.declared.stmt.PForm.TheViews as W
use Rattle.sk_prog.specs.declared.stmt.PForm.TheFolds.{map-PForm, fold-PForm}
use Rattle.sk_prog.specs.declared.prog.Prog.{Prog}
use Rattle.sk_model.specs.declared.expanded.Site.{Site}
use Rattle.sk_model.specs.Parts.{Part, counts, in_turn, value, joined}
use Rattle.sk_model.specs.Sites.{places, is_hole, expr_sites, value_sites, form_sites, stmt_sites}
use Rattle.sk_model.specs.Stands.{Standing, own, beside, in_row, first_of, expr_standing, value_standing, form_standing, stmt_standing}
use Rattle.sk_model.specs.Fill.{digit, arrange, expr_part, fill_expr, form_part, stmt_step, stmt_part}
use Rattle.sk_model.specs.Fill as F
use Rattle.sk_model.specs.Step.{State, Comp}
use Rattle.sk_model.specs.Eval.{Calls, Does, does}
use Rattle.sk_model.specs.Exec.{Flow, one_by_one, declare, assign, drop_value, branch, turns, return, assert, assume, minimize, any_meaning, exec_stmt}
use Rattle.sk_model.specs.Open.{open_expr, open_form, open_stmt}
use Rattle.sk_model.specs.Open as O
use Rattle.sk_model.proofs.Induction.{Each, StmtCases, stmt_ind}
use Rattle.sk_model.proofs.Layers.{stmt_layer}
use Rattle.sk_model.proofs.Forms.{exec_block, exec_declare, exec_assign, exec_call, exec_if, exec_if_else, exec_while, exec_return, exec_assert, exec_assume, exec_minimize}
use Rattle.sk_holes_laws.specs.Filling.{Every, Ready}
use Rattle.sk_holes_laws.proofs.Rows.{Counted, none_counted, both_counted, both_ready, row_counted, length-places, counts_made}
use Rattle.sk_holes_choice_laws.proofs.Matching.{Matches}
use Rattle.sk_holes_choice_laws.proofs.Exprs.{Same, every_of, each_counted, row_open, row_does, expr_same}

by_state : {A : Type 0} (m n : Comp A) → ((st : State) → m st ≡ n st) → m ≡ n
by_state m n h = λ j st. h st j

map_insert : {A B : Type 0} (g : A → B) (xs : List A) (i : ℕ) (x : A) → map g (insert xs i x) ≡ insert (map g xs) i (g x)
map_insert g xs zero x = refl
map_insert g [] (suc i) x = refl
map_insert g (y ∷ ys) (suc i) x = ap (λ zs. g y ∷ zs) (map_insert g ys i x)

-- an order says nothing of what is ordered
arranged : {A B : Type 0} (g : A → B) (values : List ℕ) (i : ℕ) (placed xs : List A) → arrange values i (map g placed) (map g xs) ≡ map g (arrange values i placed xs)
arranged g values i placed [] = refl
arranged g values i placed (x ∷ xs) =
    let k : ℕ = length placed - digit values i (length placed) in
    (λ j. arrange values i (insert (map g placed) (length-map placed g j - digit values i (length-map placed g j)) (g x)) (map g xs))
    ∙ ap (λ ps. arrange values i ps (map g xs)) (sym (map_insert g placed k x))
    ∙ arranged g values i (insert placed k x) xs

module _ (bounds : Bounds) (values : List ℕ) (stands : ℕ → Bool) (number : ℕ → ℕ) (prog again : Prog) (call call' : Calls) (m : Matches prog again call call' stands number) where
  abbrev Stands : ℕ → Type 0
  Stands f = IsTrue (stands f)

  abbrev SiteFold : Type 0
  SiteFold = Span → List Site

  abbrev StandFold : Type 0
  StandFold = Span → Part Standing

  abbrev OpenFold : Type 0
  OpenFold = Part (Span → Comp Flow)

  abbrev sites : PStmt → List Site
  sites = stmt_sites bounds

  abbrev stand : PStmt → Part Standing
  stand = stmt_standing values

  abbrev filled : PStmt → Part PStmt
  filled = stmt_part values number

  abbrev opened : PStmt → Part (Comp Flow)
  opened = open_stmt prog bounds values call

  abbrev done : PStmt → Comp Flow
  done = exec_stmt again bounds call'

  abbrev sites_f : PForm → SiteFold
  sites_f = fold-PForm SiteFold (List Site) (form_sites bounds) (λ s. s.form s.span)

  abbrev stand_f : PForm → StandFold
  stand_f = fold-PForm StandFold (Part Standing) (form_standing values) (λ s. s.form s.span)

  abbrev filled_f : PForm → Part PForm
  filled_f = fold-PForm (Part PForm) (Part PStmt) (form_part values number) (stmt_step values number)

  abbrev opened_f : PForm → OpenFold
  opened_f = fold-PForm OpenFold (Part (Comp Flow)) (open_form prog bounds values call) (λ s. record { count = s.form.count; at = λ i. s.form.at i s.span })

  abbrev Go : List Site → Part Standing → ℕ → Type 0
  Go S T i = Ready values Stands S T i

  abbrev Alike : {X D : Type 0} → (X → D) → List Site → Part Standing → Part X → Part D → Type 0
  Alike = Same bounds values stands number prog again call call' m

  abbrev At : PStmt → Type 0
  At s = Alike done (sites s) (stand s) (filled s) (opened s)

  -- Expressions of statements

  abbrev meant : PExpr → Does
  meant = does again bounds.int_bits call'

  abbrev expr : (e : PExpr) → Alike meant (expr_sites bounds e) (expr_standing values e) (expr_part values number e) (open_expr prog bounds values call e)
  expr = expr_same bounds values stands number prog again call call' m

  abbrev any_meant : Option PExpr → Option Does
  any_meant = any_meaning again bounds call'

  any_expr : (e : Option PExpr) → Alike any_meant (value_sites bounds e) (value_standing values e) (F.value_part values number e) (O.any_open prog bounds values call e)
  any_expr None = record { counted = none_counted; sized = refl; does = λ i g. refl }
  any_expr (Some e) = let h = expr e in record { counted = record { sites = (h.counted).sites; standing = (h.counted).standing }; sized = h.sized; does = λ i g. ap Some (h.does i g) }

  -- Rows

  every_at : (ss : List PStmt) → Each At ss → Every At ss
  every_at ss h = every_of At ss h

  row_counts : (ss : List PStmt) → Every At ss → Counted (joined (map sites ss)) (in_row (map stand ss)) (counts (map filled ss))
  row_counts ss h = row_counted values Stands sites stand filled ss (each_counted bounds values stands number prog again call call' m done sites stand filled opened ss h)

  row_sized : (ss : List PStmt) → Every At ss → counts (map opened ss) ≡ counts (map filled ss)
  row_sized ss h = row_open bounds values stands number prog again call call' m done sites stand filled opened ss h

  row_same : (ss : List PStmt) (i : ℕ) → Every At ss → Go (joined (map sites ss)) (in_row (map stand ss)) i → in_turn (map opened ss) i ≡ map done (in_turn (map filled ss) i)
  row_same ss i h g = row_does bounds values stands number prog again call call' m done sites stand filled opened ss i h g

  -- the first of a row, where they stand
  first_same : (ss : List PStmt) (v i : ℕ) → Every At ss → Go (joined (map sites ss)) (in_row (first_of v (map stand ss))) i → take v (in_turn (map opened ss) i) ≡ map done (take v (in_turn (map filled ss) i))
  first_same [] zero i h g = refl
  first_same [] (suc v) i h g = refl
  first_same (s ∷ ss) zero i h g = refl
  first_same (s ∷ ss) (suc v) i h g =
      let r = both_ready values Stands (sites s) (joined (map sites ss)) (stand s) (in_row (first_of v (map stand ss))) (filled s).count i (h.0).counted g in
      let first = (h.0).does i r.0 in
      let rest = ap (λ n. take v (in_turn (map opened ss) (i + n))) (h.0).sized ∙ first_same ss v (i + (filled s).count) h.1 r.1 in
      λ j. first j ∷ rest j

  -- Forms

  abbrev Layer : Type 0
  Layer = S.PForm-F PForm PStmt

  abbrev Here : Layer → Span → Type 0
  Here x s = Alike done
      (form_sites bounds (map-PForm PForm PStmt SiteFold (List Site) sites_f sites x) s)
      (form_standing values (map-PForm PForm PStmt StandFold (Part Standing) stand_f stand x) s)
      (stmt_step values number (record { span = s; form = form_part values number (map-PForm PForm PStmt (Part PForm) (Part PStmt) filled_f filled x) }))
      (record { count = (open_form prog bounds values call (map-PForm PForm PStmt OpenFold (Part (Comp Flow)) opened_f opened x)).count; at = λ i. (open_form prog bounds values call (map-PForm PForm PStmt OpenFold (Part (Comp Flow)) opened_f opened x)).at i s })

  rolled : (x : Layer) (f : PForm) → W.roll-PForm x ≡ f → (s : Span) → Here x s → At (record { span = s; form = f })
  rolled x f is s h =
      let a = stmt_layer SiteFold (List Site) (form_sites bounds) (λ s. s.form s.span) x f is s in
      let b = stmt_layer StandFold (Part Standing) (form_standing values) (λ s. s.form s.span) x f is s in
      let c = stmt_layer (Part PForm) (Part PStmt) (form_part values number) (stmt_step values number) x f is s in
      let d = stmt_layer OpenFold (Part (Comp Flow)) (open_form prog bounds values call) (λ s. record { count = s.form.count; at = λ i. s.form.at i s.span }) x f is s in
      subst (λ (z : List Site × Part Standing × Part PStmt × Part (Comp Flow)). Alike done z.0 z.1 z.2 z.3) (λ j. (sym a j, sym b j, sym c j, sym d j)) h

  abbrev put : Span → PForm → PStmt
  put s f = record { span = s; form = f }

  blocked : (s : Span) (ms : List (Comp Flow)) (ss : List PStmt) → ms ≡ map done ss → one_by_one ms ≡ done (put s (form.Block ss))
  blocked s ms ss h = ap one_by_one h ∙ by_state (one_by_one (map done ss)) (done (put s (form.Block ss))) (λ st. sym (exec_block again bounds call' s ss st))

  block_at : (s : Span) (ss : List PStmt) → Each At ss → Here (S.Block ss) s
  block_at s ss h =
      let hs = every_at ss h in
      let c = row_counts ss hs in
      record { counted = record { sites = c.sites; standing = c.standing }; sized = row_sized ss hs; does = λ i g. blocked s (in_turn (map opened ss) i) (in_turn (map filled ss) i) (row_same ss i hs g) }

  -- a site and as many copies as its value says
  copies_at : (s : Span) (z : Site) (ss : List PStmt) → Every At ss → (T : Part Standing) → (T.count ≡ suc (counts (map stand ss))) → ((i : ℕ) → Every Stands (T.at i).called → Every Stands ((in_row (first_of (value values i) (map stand ss))).at (i + 1)).called)
      → Alike done (z ∷ joined (map sites ss)) T (record { count = suc (counts (map filled ss)); at = λ i. put s (form.Block (take (value values i) (in_turn (map filled ss) (i + 1)))) }) (record { count = suc (counts (map opened ss)); at = λ i. one_by_one (take (value values i) (in_turn (map opened ss) (suc i))) })
  copies_at s z ss hs T e k =
      let c = row_counts ss hs in
      record {
        counted = record { sites = ap suc c.sites; standing = e ∙ ap suc (counts_made values Stands sites stand filled ss (each_counted bounds values stands number prog again call call' m done sites stand filled opened ss hs)) };
        sized = ap suc (row_sized ss hs);
        does = λ i g.
            let d : suc i ≡ i + 1 = omega arith in
            ap (λ n. one_by_one (take (value values i) (in_turn (map opened ss) n))) d
            ∙ blocked s (take (value values i) (in_turn (map opened ss) (i + 1))) (take (value values i) (in_turn (map filled ss) (i + 1))) (first_same ss (value values i) (i + 1) hs (g.0.1, k i g.1));
      }

  minrepeat_at : (s : Span) (ss : List PStmt) → Each At ss → Here (S.MinRepeat ss) s
  minrepeat_at s ss h = copies_at s _ ss (every_at ss h) _ refl (λ i g. g)

  repeat_at : (s : Span) (c : PExpr) (ss : List PStmt) → Each At ss → (b : Bool) → is_hole c.form ≡ b → Here (S.Repeat c ss) s
  repeat_at s c ss h true e = rw e (copies_at s _ ss (every_at ss h) _ refl (λ i g. g))
  repeat_at s c ss h false e =
      let hs = every_at ss h in
      let k = row_counts ss hs in
      rw e (record { counted = record { sites = k.sites; standing = k.standing }; sized = row_sized ss hs; does = λ i g. blocked s (in_turn (map opened ss) i) (in_turn (map filled ss) i) (row_same ss i hs g) })

  reorder_by : (s : Span) (ss : List PStmt) → Every At ss → (n : ℕ) → Alike done (places 2 n s ++ joined (map sites ss)) (beside (own n) (in_row (map stand ss)))
      (record { count = n + counts (map filled ss); at = λ i. put s (form.Block (arrange values i [] (in_turn (map filled ss) (i + n)))) })
      (record { count = n + counts (map opened ss); at = λ i. one_by_one (arrange values i [] (in_turn (map opened ss) (i + n))) })
  reorder_by s ss hs n =
      let c : Counted (places 2 n s) (own n) n = record { sites = length-places 2 n s; standing = refl } in
      record {
        counted = both_counted (places 2 n s) (joined (map sites ss)) (own n) (in_row (map stand ss)) n (counts (map filled ss)) c (row_counts ss hs);
        sized = ap (λ k. n + k) (row_sized ss hs);
        does = λ i g.
            let r = both_ready values Stands (places 2 n s) (joined (map sites ss)) (own n) (in_row (map stand ss)) n i c g in
            blocked s (arrange values i [] (in_turn (map opened ss) (i + n))) (arrange values i [] (in_turn (map filled ss) (i + n)))
            (ap (arrange values i []) (row_same ss (i + n) hs r.1) ∙ arranged done values i [] (in_turn (map filled ss) (i + n)));
      }

  reorder_at : (s : Span) (ss : List PStmt) → Each At ss → Here (S.Reorder ss) s
  reorder_at s ss h =
      subst (λ (z : ℕ × ℕ × ℕ × ℕ). Alike done (places 2 z.0 s ++ joined (map sites ss)) (beside (own z.1) (in_row (map stand ss)))
      (record { count = z.2 + counts (map filled ss); at = λ i. put s (form.Block (arrange values i [] (in_turn (map filled ss) (i + z.2)))) })
      (record { count = z.3 + counts (map opened ss); at = λ i. one_by_one (arrange values i [] (in_turn (map opened ss) (i + z.3))) }))
      (λ j. (sym (length-map ss sites) j - 1, sym (length-map ss stand) j - 1, sym (length-map ss filled) j - 1, sym (length-map ss opened) j - 1))
      (reorder_by s ss (every_at ss h) (length ss - 1))

  declare_at : (s : Span) (slot : ℕ) (x : Name) (t : Ty) (e : Option PExpr) → Here (S.Declare slot x t e) s
  declare_at s slot x t e =
      let h = any_expr e in
      record {
        counted = record { sites = (h.counted).sites; standing = (h.counted).standing };
        sized = h.sized;
        does = λ i g. ap (λ d. declare s slot t d) (h.does i g) ∙ by_state _ _ (λ st. sym (exec_declare again bounds call' s slot x t ((F.value_part values number e).at i) st));
      }

  return_at : (s : Span) (e : Option PExpr) → Here (S.Return e) s
  return_at s e =
      let h = any_expr e in
      record {
        counted = record { sites = (h.counted).sites; standing = (h.counted).standing };
        sized = h.sized;
        does = λ i g. ap (λ d. return s d) (h.does i g) ∙ by_state _ _ (λ st. sym (exec_return again bounds call' s ((F.value_part values number e).at i) st));
      }

  -- a statement of one expression
  with_expr : (s : Span) (e : PExpr) (f : PExpr → PForm) (act : Span → Does → Comp Flow) → ((p : PExpr) (st : State) → done (put s (f p)) st ≡ act s (meant p) st)
      → Alike done (expr_sites bounds e) (expr_standing values e) (record { count = (expr_part values number e).count; at = λ i. put s (f (fill_expr values number e i)) }) (record { count = (open_expr prog bounds values call e).count; at = λ i. act s ((open_expr prog bounds values call e).at i) })
  with_expr s e f act k =
      let h = expr e in
      record {
        counted = record { sites = (h.counted).sites; standing = (h.counted).standing };
        sized = h.sized;
        does = λ i g. ap (λ d. act s d) (h.does i g) ∙ by_state _ _ (λ st. sym (k (fill_expr values number e i) st));
      }

  assign_at : (s : Span) (p e : PExpr) → Here (S.Assign p e) s
  assign_at s p e =
      let h = expr p in
      let k = expr e in
      record {
        counted = both_counted (expr_sites bounds p) (expr_sites bounds e) (expr_standing values p) (expr_standing values e) (expr_part values number p).count (expr_part values number e).count h.counted k.counted;
        sized = λ j. h.sized j + k.sized j;
        does = λ i g.
            let r = both_ready values Stands (expr_sites bounds p) (expr_sites bounds e) (expr_standing values p) (expr_standing values e) (expr_part values number p).count i h.counted g in
            let first = h.does i r.0 in
            let second = ap (λ n. (open_expr prog bounds values call e).at (i + n)) h.sized ∙ k.does (i + (expr_part values number p).count) r.1 in
            (λ j. assign s (first j) (second j)) ∙ by_state _ _ (λ st. sym (exec_assign again bounds call' s (fill_expr values number p i) (fill_expr values number e (i + (expr_part values number p).count)) st));
      }

  while_at : (s : Span) (c : PExpr) (a : PStmt) → At a → Here (S.While c a) s
  while_at s c a k =
      let h = expr c in
      record {
        counted = both_counted (expr_sites bounds c) (sites a) (expr_standing values c) (stand a) (expr_part values number c).count (filled a).count h.counted k.counted;
        sized = λ j. h.sized j + k.sized j;
        does = λ i g.
            let r = both_ready values Stands (expr_sites bounds c) (sites a) (expr_standing values c) (stand a) (expr_part values number c).count i h.counted g in
            let first = h.does i r.0 in
            let second = ap (λ n. (opened a).at (i + n)) h.sized ∙ k.does (i + (expr_part values number c).count) r.1 in
            (λ j. turns bounds.unroll s (first j) (second j)) ∙ by_state _ _ (λ st. sym (exec_while again bounds call' s (fill_expr values number c i) ((filled a).at (i + (expr_part values number c).count)) st));
      }

  if_at : (s : Span) (c : PExpr) (a : PStmt) → At a → Here (S.If c a None) s
  if_at s c a k =
      let h = expr c in
      let n = (expr_part values number c).count in
      let ka = both_counted (sites a) [] (stand a) (own 0) (filled a).count 0 k.counted none_counted in
      record {
        counted = both_counted (expr_sites bounds c) (sites a ++ []) (expr_standing values c) (beside (stand a) (own 0)) n ((filled a).count + 0) h.counted ka;
        sized = λ j. h.sized j + (k.sized j + 0);
        does = λ i g.
            let r = both_ready values Stands (expr_sites bounds c) (sites a ++ []) (expr_standing values c) (beside (stand a) (own 0)) n i h.counted g in
            let q = both_ready values Stands (sites a) [] (stand a) (own 0) (filled a).count (i + n) k.counted r.1 in
            let first = h.does i r.0 in
            let second = ap (λ n. (opened a).at (i + n)) h.sized ∙ k.does (i + n) q.0 in
            (λ j. branch s (first j) (second j) None) ∙ by_state _ _ (λ st. sym (exec_if again bounds call' s (fill_expr values number c i) ((filled a).at (i + n)) st));
      }

  if_else_at : (s : Span) (c : PExpr) (a b : PStmt) → At a → At b → Here (S.If c a (Some b)) s
  if_else_at s c a b k l =
      let h = expr c in
      let n = (expr_part values number c).count in
      let ka = both_counted (sites a) (sites b) (stand a) (stand b) (filled a).count (filled b).count k.counted l.counted in
      record {
        counted = both_counted (expr_sites bounds c) (sites a ++ sites b) (expr_standing values c) (beside (stand a) (stand b)) n ((filled a).count + (filled b).count) h.counted ka;
        sized = λ j. h.sized j + (k.sized j + l.sized j);
        does = λ i g.
            let r = both_ready values Stands (expr_sites bounds c) (sites a ++ sites b) (expr_standing values c) (beside (stand a) (stand b)) n i h.counted g in
            let q = both_ready values Stands (sites a) (sites b) (stand a) (stand b) (filled a).count (i + n) k.counted r.1 in
            let first = h.does i r.0 in
            let second = ap (λ n. (opened a).at (i + n)) h.sized ∙ k.does (i + n) q.0 in
            let e : i + (n + (filled a).count) ≡ i + n + (filled a).count = omega arith in
            let third : (opened b).at (i + ((open_expr prog bounds values call c).count + (opened a).count)) ≡ done ((filled b).at (i + n + (filled a).count)) =
            (λ j. (opened b).at (i + (h.sized j + k.sized j))) ∙ ap (λ n. (opened b).at n) e ∙ l.does (i + n + (filled a).count) q.1 in
            (λ j. branch s (first j) (second j) (Some (third j))) ∙ by_state _ _ (λ st. sym (exec_if_else again bounds call' s (fill_expr values number c i) ((filled a).at (i + n)) ((filled b).at (i + n + (filled a).count)) st));
      }

  cases : StmtCases At
  cases = record {
    block = λ s ss h. rolled (S.Block ss) (form.Block ss) (W.rolls-Block ss) s (block_at s ss h);
    declare = λ s slot x t e. rolled (S.Declare slot x t e) (form.Declare slot x t e) (W.rolls-Declare slot x t e) s (declare_at s slot x t e);
    assign = λ s p e. rolled (S.Assign p e) (form.Assign p e) (W.rolls-Assign p e) s (assign_at s p e);
    calls = λ s e. rolled (S.Call e) (form.Call e) (W.rolls-Call e) s (with_expr s e form.Call drop_value (λ p st. exec_call again bounds call' s p st));
    if_only = λ s c a k. rolled (S.If c a None) (form.If c a None) (W.rolls-If c a None) s (if_at s c a k);
    if_else = λ s c a b k l. rolled (S.If c a (Some b)) (form.If c a (Some b)) (W.rolls-If c a (Some b)) s (if_else_at s c a b k l);
    loop = λ s c a k. rolled (S.While c a) (form.While c a) (W.rolls-While c a) s (while_at s c a k);
    returns = λ s e. rolled (S.Return e) (form.Return e) (W.rolls-Return e) s (return_at s e);
    asserts = λ s e. rolled (S.Assert e) (form.Assert e) (W.rolls-Assert e) s (with_expr s e form.Assert assert (λ p st. exec_assert again bounds call' s p st));
    assumes = λ s e. rolled (S.Assume e) (form.Assume e) (W.rolls-Assume e) s (with_expr s e form.Assume assume (λ p st. exec_assume again bounds call' s p st));
    minimizes = λ s e. rolled (S.Minimize e) (form.Minimize e) (W.rolls-Minimize e) s (with_expr s e form.Minimize minimize (λ p st. exec_minimize again bounds call' s p st));
    repeats = λ s c ss h. rolled (S.Repeat c ss) (form.Repeat c ss) (W.rolls-Repeat c ss) s (repeat_at s c ss h (is_hole c.form) refl);
    minrepeat = λ s ss h. rolled (S.MinRepeat ss) (form.MinRepeat ss) (W.rolls-MinRepeat ss) s (minrepeat_at s ss h);
    reorder = λ s ss h. rolled (S.Reorder ss) (form.Reorder ss) (W.rolls-Reorder ss) s (reorder_at s ss h);
  }

  pub stmt_same : (s : PStmt) → At s
  stmt_same = stmt_ind At cases

  all_same : (ss : List PStmt) → Every At ss
  all_same [] = tt
  all_same (s ∷ ss) = (stmt_same s, all_same ss)

  -- Statements in a row.
  pub rows_same : (ss : List PStmt) (i : ℕ) → Go (joined (map sites ss)) (in_row (map stand ss)) i → in_turn (map opened ss) i ≡ map done (in_turn (map filled ss) i)
  rows_same ss i g = row_same ss i (all_same ss) g

  pub rows_counts : (ss : List PStmt) → Counted (joined (map sites ss)) (in_row (map stand ss)) (counts (map filled ss))
  rows_counts ss = row_counts ss (all_same ss)

  pub rows_sized : (ss : List PStmt) → counts (map opened ss) ≡ counts (map filled ss)
  rows_sized ss = row_sized ss (all_same ss)
