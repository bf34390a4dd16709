-- A walked statement touches no more than the one that it was, and breaks no rule where that one breaks none. The count of a repeat is not walked: it is a
-- number or a hole.
use Rattle.std.proofs.Common.{◌≡◌, ℕ, zero, suc, ◌+◌, Bool, true, ◌&&◌, List, [], ◌∷◌, ◌++◌, map, length, Option, Some, None, sym, subst}
use Rattle.std.specs.Prelude.{nat_lt}
use Rattle.std.specs.List.{list_all}
use Rattle.std.proofs.lemmas.Bool.{and_parts}
use Rattle.sk_base.specs.declared.span.Span.{Span}
use Rattle.sk_base.specs.declared.bounds.Bounds.{Bounds}
use Rattle.sk_prog.specs.declared.ty.Ty.{Ty}
use Rattle.sk_prog.specs.declared.expr.PExpr.{PExpr}
use Rattle.sk_prog.specs.declared.expr.PEForm.{PEForm}
use Rattle.sk_prog.specs.declared.expr.PEForm.TheVariants as eform
use Rattle.sk_prog.specs.declared.expr.PEForm.TheOpen as P
use Rattle.sk_prog.specs.declared.expr.PEForm.TheViews as V
use Rattle.sk_prog.specs.declared.stmt.PStmt.{PStmt}
use Rattle.sk_prog.specs.declared.stmt.PForm.{PForm}
use Rattle.sk_prog.specs.declared.stmt.PForm.TheOpen as S
use Rattle.sk_prog.specs.declared.stmt.PForm.TheViews as W
use Rattle.sk_prog.specs.declared.stmt.PForm.TheFolds.{map-PForm, fold-PForm}
use Rattle.sk_prog.specs.declared.prog.Fun.{Fun}
use Rattle.sk_prog.specs.declared.prog.Prog.{Prog}
use Rattle.sk_prog.specs.Fits.{is_name, ty_fits, expr_fits, any_expr_fits, form_fits, stmt_fits}
use Rattle.sk_prog.specs.Names.{is_yes}
use Rattle.sk_model.specs.Expand.{Walk, as_walk, in_order, times, most_copies, copies_held, CallWalk, walk_value, form_walk, stmt_step, walk_stmt}
use Rattle.sk_model.proofs.Layers.{stmt_layer}
use Rattle.sk_model.proofs.Induction.{Each, StmtCases, stmt_ind}
use Rattle.sk_expand_laws.specs.Copies.{Standing}
use Rattle.sk_expand_laws.proofs.Counts.{is_count, form_counts, stmt_counts}
use Rattle.sk_expand_laws.proofs.Walks.{standing_parts}
use Rattle.sk_adt.specs.declared.algebraic.Algebraic.{Algebraic}
use Rattle.sk_adt_tags.specs.Tags.{Part, Work, of_none, of_expr, all_of, form_work, work, any_part, part}
use Rattle.sk_adt_tag_laws.proofs.Follow.{Follows, Tracks, none_follows, quiet_follows, idle_tracks, quiet_tracks, expr_tracks, both_track, touching_tracks, all_first, all_track, tested_tracks}
use Rattle.sk_adt_tag_laws.proofs.Rows.{Row, later_row, append_row}
use Rattle.sk_adt_tag_laws.proofs.WalkedExprs.{next, CallsStay, walks, seen, expr_walks}

module _ (types : List Algebraic) (prog : Prog) (funs all : List Fun) (bounds : Bounds) (call : CallWalk) (stay : CallsStay types prog funs all bounds call) (slots : ℕ) where
  abbrev now : Prog
  now = next types prog funs all bounds call

  abbrev pub before : PStmt → Work
  before p = work types prog p

  abbrev pub after : PStmt → Work
  after p = work types now p

  abbrev pub steps : PStmt → Walk PStmt
  steps p = walk_stmt bounds call p

  abbrev good : PStmt → Bool
  good p = stmt_fits prog slots p

  abbrev pub StmtWalks : PStmt → Type 0
  StmtWalks p = (k : ℕ) → good p ≡ true → stmt_counts p ≡ true → Standing all k (steps p k).copies → Tracks (before p) (after (steps p k).made)

  -- One layer

  abbrev Layer : Type 0
  Layer = S.PForm-F PForm PStmt

  abbrev work_layer : Prog → Layer → S.PForm-F Work Work
  work_layer p l = map-PForm PForm PStmt Work Work (fold-PForm Work Work (form_work types p) (λ s. s.form)) (work types p) l

  abbrev good_layer : Layer → S.PForm-F Bool Bool
  good_layer l = map-PForm PForm PStmt Bool Bool (fold-PForm Bool Bool (form_fits prog slots) (λ s. s.form)) good l

  abbrev count_layer : Layer → S.PForm-F Bool Bool
  count_layer l = map-PForm PForm PStmt Bool Bool (fold-PForm Bool Bool form_counts (λ s. s.form)) stmt_counts l

  abbrev walk_layer : Layer → Walk PForm
  walk_layer l = form_walk bounds call (map-PForm PForm PStmt (Walk PForm) (Walk PStmt) (fold-PForm (Walk PForm) (Walk PStmt) (form_walk bounds call) (stmt_step bounds call)) steps l)

  abbrev Said : Work → Bool → Bool → Walk PStmt → Type 0
  Said a b c w = (k : ℕ) → b ≡ true → c ≡ true → Standing all k (w k).copies → Tracks a (after (w k).made)

  abbrev LayerWalks : Layer → Span → Type 0
  LayerWalks l s = (k : ℕ) → form_fits prog slots (good_layer l) ≡ true → form_counts (count_layer l) ≡ true → Standing all k (walk_layer l k).copies → Tracks (form_work types prog (work_layer prog l)) (after (record { span = s; form = (walk_layer l k).made }))

  by_form : (l : Layer) {g : PForm} → W.roll-PForm l ≡ g → (s : Span) → LayerWalks l s → StmtWalks (record { span = s; form = g })
  by_form l {g} is s h =
      let p : PStmt = record { span = s; form = g } in
      let w : Walk PStmt = as_walk (λ form. record { span = s; form = form }) (walk_layer l) in
      subst (λ a. Said a (good p) (stmt_counts p) (steps p)) (sym (stmt_layer Work Work (form_work types prog) (λ s. s.form) l g is s))
      (subst (λ b. Said (form_work types prog (work_layer prog l)) b (stmt_counts p) (steps p)) (sym (stmt_layer Bool Bool (form_fits prog slots) (λ s. s.form) l g is s))
      (subst (λ b. Said (form_work types prog (work_layer prog l)) (form_fits prog slots (good_layer l)) b (steps p)) (sym (stmt_layer Bool Bool form_counts (λ s. s.form) l g is s))
      (subst (λ w. Said (form_work types prog (work_layer prog l)) (form_fits prog slots (good_layer l)) (form_counts (count_layer l)) w) (sym (stmt_layer (Walk PForm) (Walk PStmt) (form_walk bounds call) (stmt_step bounds call) l g is s)) h)))

  -- what is seen of a form that is made
  pub shown : (l : Layer) {g : PForm} → W.roll-PForm l ≡ g → (s : Span) {a : Work} → Tracks a (form_work types now (work_layer now l)) → Tracks a (after (record { span = s; form = g }))
  shown l {g} is s {a} h = subst (λ b. Tracks a b) (sym (stmt_layer Work Work (form_work types now) (λ s. s.form) l g is s)) h

  -- Expressions

  abbrev ewalks : PExpr → Walk PExpr
  ewalks e = walks types prog funs all bounds call e

  abbrev egood : PExpr → Bool
  egood e = expr_fits prog slots e

  abbrev ebefore : PExpr → Part
  ebefore e = part types prog e

  abbrev eafter : PExpr → Part
  eafter e = part types now e

  efollows : (e : PExpr) (k : ℕ) → egood e ≡ true → Standing all k (ewalks e k).copies → Follows (ebefore e) (eafter (ewalks e k).made)
  efollows e k b c = expr_walks types prog funs all bounds call stay slots e k b c

  etracks : (e : PExpr) (k : ℕ) → egood e ≡ true → Standing all k (ewalks e k).copies → Tracks (of_expr (ebefore e)) (of_expr (eafter (ewalks e k).made))
  etracks e k b c = expr_tracks (efollows e k b c)

  vtracks : (v : Option PExpr) (k : ℕ) → any_expr_fits prog slots v ≡ true → Standing all k (walk_value bounds call v k).copies → Tracks (any_part types prog v) (any_part types now (walk_value bounds call v k).made)
  vtracks None k b c = idle_tracks
  vtracks (Some e) k b c = etracks e k b c

  count_quiet : (s : Span) (t : Option Ty) (f : PEForm) → is_count f ≡ true → Follows of_none (eafter (record { span = s; ty = t; form = f }))
  count_quiet s t (eform.Number n) h = seen types prog funs all bounds call stay slots (P.Number n) (V.rolls-Number n) s t (quiet_follows (Some n))
  count_quiet s t (eform.Hole n) h = seen types prog funs all bounds call stay slots (P.Hole n) (V.rolls-Hole n) s t none_follows
  count_quiet s t _ h = cc

  -- Rows

  row_walks : (ps : List PStmt) → Each StmtWalks ps → (k : ℕ) → list_all is_yes (map good ps) ≡ true → list_all is_yes (map stmt_counts ps) ≡ true → Standing all k (in_order (map steps ps) k).copies → Row after (all_of (map before ps)) (in_order (map steps ps) k).made
  row_walks [] h k b m c = tt
  row_walks (p ∷ ps) h k b m c =
      let w = steps p k in
      let n = k + length w.copies in
      let fits = and_parts (good p) (list_all is_yes (map good ps)) b in
      let counts = and_parts (stmt_counts p) (list_all is_yes (map stmt_counts ps)) m in
      let there = standing_parts all k w.copies (in_order (map steps ps) n).copies c in
      (all_first (map before ps) (h.0 k fits.0 counts.0 there.0), later_row after (before p) (map before ps) (in_order (map steps ps) n).made (row_walks ps h.1 n fits.1 counts.1 there.1))

  times_walk : (many : ℕ) (ps : List PStmt) → Each StmtWalks ps → (k : ℕ) → list_all is_yes (map good ps) ≡ true → list_all is_yes (map stmt_counts ps) ≡ true → Standing all k (times many (in_order (map steps ps)) k).copies → Row after (all_of (map before ps)) (times many (in_order (map steps ps)) k).made
  times_walk zero ps h k b m c = tt
  times_walk (suc many) ps h k b m c =
      let w = in_order (map steps ps) k in
      let n = k + length w.copies in
      let there = standing_parts all k w.copies (times many (in_order (map steps ps)) n).copies c in
      append_row after (all_of (map before ps)) w.made (times many (in_order (map steps ps)) n).made (row_walks ps h k b m there.0) (times_walk many ps h n b m there.1)

  cases : StmtCases StmtWalks
  cases = record {
    block = λ s ps h. by_form (S.Block ps) (W.rolls-Block ps) s (λ k b m c.
        let qs = (in_order (map steps ps) k).made in
        shown (S.Block qs) (W.rolls-Block qs) s (all_track (all_of (map before ps)) (map after qs) (row_walks ps h k b m c)));
    declare = λ s slot x t v. by_form (S.Declare slot x t v) (W.rolls-Declare slot x t v) s (λ k b m c.
        let w = (walk_value bounds call v k).made in
        let fits = and_parts (ty_fits prog t) (any_expr_fits prog slots v) (and_parts (is_name x) (ty_fits prog t && any_expr_fits prog slots v) (and_parts (nat_lt slot slots) (is_name x && (ty_fits prog t && any_expr_fits prog slots v)) b).1).1 in
        shown (S.Declare slot x t w) (W.rolls-Declare slot x t w) s (touching_tracks _ _ (λ y e. e) (vtracks v k fits.1 c)));
    assign = λ s p e. by_form (S.Assign p e) (W.rolls-Assign p e) s (λ k b m c.
        let w = ewalks p k in
        let n = k + length w.copies in
        let x = w.made in
        let y = (ewalks e n).made in
        let fits = and_parts (egood p) (egood e) b in
        let there = standing_parts all k w.copies (ewalks e n).copies c in
        let target = efollows p k fits.0 there.0 in
        shown (S.Assign x y) (W.rolls-Assign x y) s (touching_tracks (ebefore p).may_be (eafter x).may_be target.may_be
        (both_track (etracks p k fits.0 there.0) (etracks e n fits.1 there.1))));
    calls = λ s e. by_form (S.Call e) (W.rolls-Call e) s (λ k b m c. let x = (ewalks e k).made in shown (S.Call x) (W.rolls-Call x) s (etracks e k b c));
    if_only = λ s e p h. by_form (S.If e p None) (W.rolls-If e p None) s (λ k b m c.
        let v = ewalks e k in
        let i = k + length v.copies in
        let w = steps p i in
        let x = v.made in
        let y = w.made in
        let fits = and_parts (egood e) (good p && true) b in
        let within = and_parts (good p) true fits.1 in
        let counts = and_parts (stmt_counts p) true m in
        let there = standing_parts all k v.copies (w.copies ++ []) c in
        let last = standing_parts all i w.copies [] there.1 in
        shown (S.If x y None) (W.rolls-If x y None) s (both_track (tested_tracks (efollows e k fits.0 there.0) (h i within.0 counts.0 last.0)) idle_tracks));
    if_else = λ s e p q h g. by_form (S.If e p (Some q)) (W.rolls-If e p (Some q)) s (λ k b m c.
        let v = ewalks e k in
        let i = k + length v.copies in
        let w = steps p i in
        let j = i + length w.copies in
        let x = v.made in
        let y = w.made in
        let z = (steps q j).made in
        let fits = and_parts (egood e) (good p && good q) b in
        let within = and_parts (good p) (good q) fits.1 in
        let counts = and_parts (stmt_counts p) (stmt_counts q) m in
        let there = standing_parts all k v.copies (w.copies ++ (steps q j).copies) c in
        let last = standing_parts all i w.copies (steps q j).copies there.1 in
        shown (S.If x y (Some z)) (W.rolls-If x y (Some z)) s
        (both_track (tested_tracks (efollows e k fits.0 there.0) (h i within.0 counts.0 last.0)) (g j within.1 counts.1 last.1)));
    loop = λ s e p h. by_form (S.While e p) (W.rolls-While e p) s (λ k b m c.
        let v = ewalks e k in
        let i = k + length v.copies in
        let x = v.made in
        let y = (steps p i).made in
        let fits = and_parts (egood e) (good p) b in
        let there = standing_parts all k v.copies (steps p i).copies c in
        shown (S.While x y) (W.rolls-While x y) s (both_track (etracks e k fits.0 there.0) (h i fits.1 m there.1)));
    returns = λ s v. by_form (S.Return v) (W.rolls-Return v) s (λ k b m c. let w = (walk_value bounds call v k).made in shown (S.Return w) (W.rolls-Return w) s (vtracks v k b c));
    asserts = λ s e. by_form (S.Assert e) (W.rolls-Assert e) s (λ k b m c. let x = (ewalks e k).made in shown (S.Assert x) (W.rolls-Assert x) s (etracks e k b c));
    assumes = λ s e. by_form (S.Assume e) (W.rolls-Assume e) s (λ k b m c. let x = (ewalks e k).made in shown (S.Assume x) (W.rolls-Assume x) s (etracks e k b c));
    minimizes = λ s e. by_form (S.Minimize e) (W.rolls-Minimize e) s (λ k b m c. let x = (ewalks e k).made in shown (S.Minimize x) (W.rolls-Minimize x) s (etracks e k b c));
    repeats = λ s e ps h. by_form (S.Repeat e ps) (W.rolls-Repeat e ps) s (λ k b m c.
        let qs = (times (copies_held bounds e.form) (in_order (map steps ps)) k).made in
        let fits = and_parts (egood e) (list_all is_yes (map good ps)) b in
        let counts = and_parts (is_count e.form) (list_all is_yes (map stmt_counts ps)) m in
        shown (S.Repeat e qs) (W.rolls-Repeat e qs) s (both_track (quiet_tracks (of_expr (ebefore e)) (count_quiet e.span e.ty e.form counts.0))
        (all_track (all_of (map before ps)) (map after qs) (times_walk (copies_held bounds e.form) ps h k fits.1 counts.1 c))));
    minrepeat = λ s ps h. by_form (S.MinRepeat ps) (W.rolls-MinRepeat ps) s (λ k b m c.
        let qs = (times (most_copies bounds bounds.cbits) (in_order (map steps ps)) k).made in
        shown (S.MinRepeat qs) (W.rolls-MinRepeat qs) s (all_track (all_of (map before ps)) (map after qs) (times_walk (most_copies bounds bounds.cbits) ps h k b m c)));
    reorder = λ s ps h. by_form (S.Reorder ps) (W.rolls-Reorder ps) s (λ k b m c.
        let qs = (in_order (map steps ps) k).made in
        shown (S.Reorder qs) (W.rolls-Reorder qs) s (all_track (all_of (map before ps)) (map after qs) (row_walks ps h k b m c)));
  }

  stmt_walks : (p : PStmt) → StmtWalks p
  stmt_walks = stmt_ind StmtWalks cases

  each_walks : (ps : List PStmt) → Each StmtWalks ps
  each_walks [] = tt
  each_walks (p ∷ ps) = (stmt_walks p, each_walks ps)

  -- a body that is walked
  pub body_walks : (ps : List PStmt) (k : ℕ) → list_all is_yes (map good ps) ≡ true → list_all is_yes (map stmt_counts ps) ≡ true → Standing all k (in_order (map steps ps) k).copies → Tracks (all_of (map before ps)) (all_of (map after (in_order (map steps ps) k).made))
  body_walks ps k b m c = all_track (all_of (map before ps)) (map after (in_order (map steps ps) k).made) (row_walks ps (each_walks ps) k b m c)
