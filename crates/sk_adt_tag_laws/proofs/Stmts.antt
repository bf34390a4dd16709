-- A filled statement touches no more than the one that it was, and breaks no rule where that one breaks none.
use Rattle.std.proofs.Common.{◌≡◌, ℕ, zero, suc, ◌+◌, ◌-◌, Bool, true, false, List, [], ◌∷◌, map, length, take, Option, Some, None, refl, sym, ap, subst, ◌∙◌}
use Rattle.std.specs.Prelude.{if◌then◌else◌}
use Rattle.std.proofs.lemmas.List.{length-map}
use Rattle.sk_base.specs.declared.span.Span.{Span}
use Rattle.sk_prog.specs.declared.ty.Ty.TheVariants as ty
use Rattle.sk_prog.specs.declared.ty.Elem.TheVariants as elem
use Rattle.sk_prog.specs.declared.expr.PExpr.{PExpr}
use Rattle.sk_prog.specs.declared.expr.PEForm.TheVariants as eform
use Rattle.sk_prog.specs.declared.stmt.PStmt.{PStmt}
use Rattle.sk_prog.specs.declared.stmt.PForm.{PForm}
use Rattle.sk_prog.specs.declared.stmt.PForm.TheVariants as pform
use Rattle.sk_prog.specs.declared.stmt.PForm.TheOpen as S
use Rattle.sk_prog.specs.declared.stmt.PForm.TheViews as W
use Rattle.sk_prog.specs.declared.stmt.PForm.TheFolds.{map-PForm, fold-PForm}
use Rattle.sk_prog.specs.declared.prog.Fun.{Fun}
use Rattle.sk_prog.specs.declared.prog.Prog.{Prog}
use Rattle.sk_model.specs.Parts.{Part as Placed, counts, in_turn, value}
use Rattle.sk_model.specs.Sites.{is_hole}
use Rattle.sk_model.specs.Stands.{Payment, Standing, own, beside, in_row, first_of, by_value, value_standing, form_standing, stmt_standing, expr_standing}
use Rattle.sk_model.specs.Fill.{arrange, expr_part, value_part, some_copies, all_copies, form_part, stmt_step, stmt_part, fill_stmts, stmts_count, minimize_of}
use Rattle.sk_model.proofs.Layers.{stmt_layer}
use Rattle.sk_model.proofs.Induction.{Each, StmtCases, stmt_ind}
use Rattle.sk_holes_laws.specs.Filling.{Every}
use Rattle.sk_holes_laws.proofs.Rows.{every_append}
use Rattle.sk_adt.specs.declared.algebraic.Algebraic.{Algebraic}
use Rattle.sk_adt_tags.specs.Tags.{Part, Work, of_expr, both, all_of, form_work, work, any_part, part}
use Rattle.sk_adt_tag_laws.proofs.Follow.{Follows, Tracks, EachTracks, idle_tracks, expr_tracks, both_track, touching_tracks, all_first, all_track, later_of, quiet_tracks, tested_tracks}
use Rattle.sk_adt_tag_laws.proofs.Rows.{Row, later_row, arrange_row}
use Rattle.sk_adt_tag_laws.proofs.Exprs.{again, Stays, Ready, number_quiet, expr_fits, expr_follows}

module _ (types : List Algebraic) (prog : Prog) (funs : List Fun) (values : List ℕ) (number : ℕ → ℕ) where
  abbrev next : Prog
  next = again types prog funs values number

  abbrev Stay : ℕ → Type 0
  Stay m = Stays types prog funs values number m

  abbrev pub Here : Placed Standing → ℕ → Type 0
  Here T i = Ready types prog funs values number T i

  abbrev Fits : Work → Placed Standing → Placed PStmt → Type 0
  Fits a T F = (T.count ≡ F.count) × ((i : ℕ) → Here T i → Tracks a (work types next (F.at i)))

  abbrev StmtFits : PStmt → Type 0
  StmtFits p = Fits (work types prog p) (stmt_standing values p) (stmt_part values number p)

  abbrev FormFits : Work → Placed Standing → Placed PForm → Span → Type 0
  FormFits a T F s = (T.count ≡ F.count) × ((i : ℕ) → Here T i → Tracks a (work types next (record { span = s; form = F.at i })))

  -- One layer

  abbrev Layer : Type 0
  Layer = S.PForm-F PForm PStmt

  abbrev work_layer : Prog → Layer → S.PForm-F Work Work
  work_layer p l = map-PForm PForm PStmt Work Work (fold-PForm Work Work (form_work types p) (λ s. s.form)) (work types p) l

  abbrev standing_layer : Layer → S.PForm-F (Span → Placed Standing) (Placed Standing)
  standing_layer l = map-PForm PForm PStmt (Span → Placed Standing) (Placed Standing) (fold-PForm (Span → Placed Standing) (Placed Standing) (form_standing values) (λ s. s.form s.span)) (stmt_standing values) l

  abbrev filled_layer : Layer → S.PForm-F (Placed PForm) (Placed PStmt)
  filled_layer l = map-PForm PForm PStmt (Placed PForm) (Placed PStmt) (fold-PForm (Placed PForm) (Placed PStmt) (form_part values number) (stmt_step values number)) (stmt_part values number) l

  abbrev LayerFits : Layer → Span → Type 0
  LayerFits l s = FormFits (form_work types prog (work_layer prog l)) (form_standing values (standing_layer l) s) (form_part values number (filled_layer l)) s

  by_form : (l : Layer) {g : PForm} → W.roll-PForm l ≡ g → (s : Span) → LayerFits l s → StmtFits (record { span = s; form = g })
  by_form l {g} is s h =
      let p : PStmt = record { span = s; form = g } in
      subst (λ a. Fits a (stmt_standing values p) (stmt_part values number p)) (sym (stmt_layer Work Work (form_work types prog) (λ s. s.form) l g is s))
      (subst (λ T. Fits (form_work types prog (work_layer prog l)) T (stmt_part values number p)) (sym (stmt_layer (Span → Placed Standing) (Placed Standing) (form_standing values) (λ s. s.form s.span) l g is s))
      (subst (λ F. Fits (form_work types prog (work_layer prog l)) (form_standing values (standing_layer l) s) F) (sym (stmt_layer (Placed PForm) (Placed PStmt) (form_part values number) (stmt_step values number) l g is s)) h))

  -- what is seen of a form is made
  seen : (l : Layer) {g : PForm} → W.roll-PForm l ≡ g → (s : Span) {a : Work} → Tracks a (form_work types next (work_layer next l)) → Tracks a (work types next (record { span = s; form = g }))
  seen l {g} is s {a} h = subst (λ b. Tracks a b) (sym (stmt_layer Work Work (form_work types next) (λ s. s.form) l g is s)) h

  abbrev before : PStmt → Work
  before p = work types prog p

  abbrev stands : PStmt → Placed Standing
  stands p = stmt_standing values p

  abbrev made : PStmt → Placed PStmt
  made p = stmt_part values number p

  abbrev after : PStmt → Work
  after p = work types next p

  -- Expressions

  abbrev estands : PExpr → Placed Standing
  estands e = expr_standing values e

  abbrev emade : PExpr → Placed PExpr
  emade e = expr_part values number e

  abbrev ebefore : PExpr → Part
  ebefore e = part types prog e

  abbrev eafter : PExpr → Part
  eafter e = part types next e

  ecount : (e : PExpr) → (estands e).count ≡ (emade e).count
  ecount e = (expr_fits types prog funs values number e).0

  efollows : (e : PExpr) (i : ℕ) → Here (estands e) i → Follows (ebefore e) (eafter ((emade e).at i))
  efollows e i k = expr_follows types prog funs values number e i k

  etracks : (e : PExpr) (i : ℕ) → Here (estands e) i → Tracks (of_expr (ebefore e)) (of_expr (eafter ((emade e).at i)))
  etracks e i k = expr_tracks (efollows e i k)

  vcount : (v : Option PExpr) → (value_standing values v).count ≡ (value_part values number v).count
  vcount None = refl
  vcount (Some e) = ecount e

  vtracks : (v : Option PExpr) (i : ℕ) → Here (value_standing values v) i → Tracks (any_part types prog v) (any_part types next ((value_part values number v).at i))
  vtracks None i k = idle_tracks
  vtracks (Some e) i k = etracks e i k

  -- the second of two parts, at the place where it is made
  second : (T U : Placed Standing) (n i : ℕ) → T.count ≡ n → Every Stay (U.at (i + T.count)).called → Here U (i + n)
  second T U n i e k = subst (λ m. Here U (i + m)) e k

  parts : (T U : Placed Standing) (n i : ℕ) → T.count ≡ n → Here (beside T U) i → Here T i × Here U (i + n)
  parts T U n i e k =
      let b = every_append Stay (T.at i).called (U.at (i + T.count)).called k in
      (b.0, second T U n i e b.1)

  -- Rows: each of what is made is tracked by all that it was made of.

  row_count : (ps : List PStmt) → Each StmtFits ps → (in_row (map stands ps)).count ≡ counts (map made ps)
  row_count [] h = refl
  row_count (p ∷ ps) h = let one = h.0.0 in let rest = row_count ps h.1 in λ j. one j + rest j

  counts_same : (ps : List PStmt) → Each StmtFits ps → counts (map stands ps) ≡ counts (map made ps)
  counts_same [] h = refl
  counts_same (p ∷ ps) h = let one = h.0.0 in let rest = counts_same ps h.1 in λ j. one j + rest j

  row_tracks : (ps : List PStmt) → Each StmtFits ps → (i : ℕ) → Here (in_row (map stands ps)) i → Row after (all_of (map before ps)) (in_turn (map made ps) i)
  row_tracks [] h i k = tt
  row_tracks (p ∷ ps) h i k =
      let b = parts (stands p) (in_row (map stands ps)) (made p).count i h.0.0 k in
      (all_first (map before ps) (h.0.1 i b.0), later_row after (before p) (map before ps) (in_turn (map made ps) (i + (made p).count)) (row_tracks ps h.1 (i + (made p).count) b.1))

  first_tracks : (ps : List PStmt) → Each StmtFits ps → (v i : ℕ) → Here (in_row (first_of v (map stands ps))) i → Row after (all_of (map before ps)) (take v (in_turn (map made ps) i))
  first_tracks [] h zero i k = tt
  first_tracks [] h (suc v) i k = tt
  first_tracks (p ∷ ps) h zero i k = tt
  first_tracks (p ∷ ps) h (suc v) i k =
      let b = parts (stands p) (in_row (first_of v (map stands ps))) (made p).count i h.0.0 k in
      (all_first (map before ps) (h.0.1 i b.0), later_row after (before p) (map before ps) (take v (in_turn (map made ps) (i + (made p).count))) (first_tracks ps h.1 v (i + (made p).count) b.1))

  block_tracks : (a : Work) (s : Span) (ps : List PStmt) → Row after a ps → Tracks a (work types next (record { span = s; form = pform.Block ps }))
  block_tracks a s ps h = seen (S.Block ps) (W.rolls-Block ps) s (all_track a (map after ps) h)

  -- Repeats

  some_fit : (s : Span) (ps : List PStmt) → Each StmtFits ps → FormFits (all_of (map before ps)) (by_value values first_of (map stands ps)) (some_copies values number (map made ps)) s
  some_fit s ps h = (
    (let e = counts_same ps h in λ j. suc (e j)),
    λ i k. block_tracks (all_of (map before ps)) s (take (value values i) (in_turn (map made ps) (i + 1))) (first_tracks ps h (value values i) (i + 1) k),
  )

  all_fit : (s : Span) (ps : List PStmt) → Each StmtFits ps → FormFits (all_of (map before ps)) (in_row (map stands ps)) (all_copies values number (map made ps)) s
  all_fit s ps h = (row_count ps h, λ i k. block_tracks (all_of (map before ps)) s (in_turn (map made ps) i) (row_tracks ps h i k))

  -- what a repeat was made of: its count too
  more_fit : (a b : Work) (T : Placed Standing) (F : Placed PForm) (s : Span) → FormFits b T F s → FormFits (both a b) T F s
  more_fit a b T F s h = (h.0, λ i k. later_of a (h.1 i k))

  repeat_fits : (a : Work) (s : Span) (c : Bool) (ps : List PStmt) → Each StmtFits ps → FormFits (both a (all_of (map before ps))) (if c then by_value values first_of (map stands ps) else in_row (map stands ps)) (if c then some_copies values number (map made ps) else all_copies values number (map made ps)) s
  repeat_fits a s true ps h = more_fit a (all_of (map before ps)) (by_value values first_of (map stands ps)) (some_copies values number (map made ps)) s (some_fit s ps h)
  repeat_fits a s false ps h = more_fit a (all_of (map before ps)) (in_row (map stands ps)) (all_copies values number (map made ps)) s (all_fit s ps h)

  same_length : (ps : List PStmt) → length (map stands ps) - 1 ≡ length (map made ps) - 1
  same_length ps = ap (λ n. n - 1) (length-map ps stands ∙ sym (length-map ps made))

  cases : StmtCases StmtFits
  cases = record {
    block = λ s ps h. by_form (S.Block ps) (W.rolls-Block ps) s (all_fit s ps h);
    declare = λ s slot x t v. by_form (S.Declare slot x t v) (W.rolls-Declare slot x t v) s (
      vcount v,
      λ i k.
          let w = (value_part values number v).at i in
          seen (S.Declare slot x t w) (W.rolls-Declare slot x t w) s (touching_tracks _ _ (λ y e. e) (vtracks v i k)),
    );
    assign = λ s p e. by_form (S.Assign p e) (W.rolls-Assign p e) s (
      (let a = ecount p in let b = ecount e in λ j. a j + b j),
      λ i k.
          let x = (emade p).at i in
          let y = (emade e).at (i + (emade p).count) in
          let b = parts (estands p) (estands e) (emade p).count i (ecount p) k in
          let target = efollows p i b.0 in
          seen (S.Assign x y) (W.rolls-Assign x y) s (touching_tracks (ebefore p).may_be (eafter x).may_be target.may_be
          (both_track (etracks p i b.0) (etracks e (i + (emade p).count) b.1))),
    );
    calls = λ s e. by_form (S.Call e) (W.rolls-Call e) s (ecount e, λ i k. let x = (emade e).at i in seen (S.Call x) (W.rolls-Call x) s (etracks e i k));
    if_only = λ s c a h. by_form (S.If c a None) (W.rolls-If c a None) s (
      (let x = ecount c in let y = h.0 in λ j. x j + (y j + 0)),
      λ i k.
          let z = (emade c).at i in
          let n = i + (emade c).count in
          let y = (made a).at n in
          let p = parts (estands c) (beside (stands a) (own 0)) (emade c).count i (ecount c) k in
          let q = parts (stands a) (own 0) (made a).count n h.0 p.1 in
          seen (S.If z y None) (W.rolls-If z y None) s (both_track (tested_tracks (efollows c i p.0) (h.1 n q.0)) idle_tracks),
    );
    if_else = λ s c a e h g. by_form (S.If c a (Some e)) (W.rolls-If c a (Some e)) s (
      (let x = ecount c in let y = h.0 in let w = g.0 in λ j. x j + (y j + w j)),
      λ i k.
          let z = (emade c).at i in
          let n = i + (emade c).count in
          let y = (made a).at n in
          let w = (made e).at (n + (made a).count) in
          let p = parts (estands c) (beside (stands a) (stands e)) (emade c).count i (ecount c) k in
          let q = parts (stands a) (stands e) (made a).count n h.0 p.1 in
          seen (S.If z y (Some w)) (W.rolls-If z y (Some w)) s (both_track (tested_tracks (efollows c i p.0) (h.1 n q.0)) (g.1 (n + (made a).count) q.1)),
    );
    loop = λ s c a h. by_form (S.While c a) (W.rolls-While c a) s (
      (let x = ecount c in let y = h.0 in λ j. x j + y j),
      λ i k.
          let z = (emade c).at i in
          let n = i + (emade c).count in
          let y = (made a).at n in
          let p = parts (estands c) (stands a) (emade c).count i (ecount c) k in
          seen (S.While z y) (W.rolls-While z y) s (both_track (etracks c i p.0) (h.1 n p.1)),
    );
    returns = λ s v. by_form (S.Return v) (W.rolls-Return v) s (vcount v, λ i k. let w = (value_part values number v).at i in seen (S.Return w) (W.rolls-Return w) s (vtracks v i k));
    asserts = λ s e. by_form (S.Assert e) (W.rolls-Assert e) s (ecount e, λ i k. let x = (emade e).at i in seen (S.Assert x) (W.rolls-Assert x) s (etracks e i k));
    assumes = λ s e. by_form (S.Assume e) (W.rolls-Assume e) s (ecount e, λ i k. let x = (emade e).at i in seen (S.Assume x) (W.rolls-Assume x) s (etracks e i k));
    minimizes = λ s e. by_form (S.Minimize e) (W.rolls-Minimize e) s (ecount e, λ i k. let x = (emade e).at i in seen (S.Minimize x) (W.rolls-Minimize x) s (etracks e i k));
    repeats = λ s c ps h. by_form (S.Repeat c ps) (W.rolls-Repeat c ps) s (repeat_fits (of_expr (ebefore c)) s (is_hole c.form) ps h);
    minrepeat = λ s ps h. by_form (S.MinRepeat ps) (W.rolls-MinRepeat ps) s (some_fit s ps h);
    reorder = λ s ps h. by_form (S.Reorder ps) (W.rolls-Reorder ps) s (
      (let a = same_length ps in let b = row_count ps h in λ j. a j + b j),
      λ i k.
          let n = i + (length (map made ps) - 1) in
          let b = parts (own (length (map stands ps) - 1)) (in_row (map stands ps)) (length (map made ps) - 1) i (same_length ps) k in
          block_tracks (all_of (map before ps)) s (arrange values i [] (in_turn (map made ps) n)) (arrange_row after values (all_of (map before ps)) i [] (in_turn (map made ps) n) tt (row_tracks ps h n b.1)),
    );
  }

  pub stmt_fits : (p : PStmt) → StmtFits p
  stmt_fits = stmt_ind StmtFits cases

  each_fits : (ps : List PStmt) → Each StmtFits ps
  each_fits [] = tt
  each_fits (p ∷ ps) = (stmt_fits p, each_fits ps)

  -- a body, which has as many sites as stand or do not
  pub body_count : (ps : List PStmt) → (in_row (map stands ps)).count ≡ stmts_count values number ps
  body_count ps = row_count ps (each_fits ps)

  pub body_tracks : (ps : List PStmt) (i : ℕ) → Here (in_row (map stands ps)) i → EachTracks (all_of (map before ps)) (map after (fill_stmts values number ps i))
  body_tracks ps i k = row_tracks ps (each_fits ps) i k

  -- `minimize(v);` for what is paid

  pub paid_tracks : (a : Work) (p : Payment) → Tracks a (after (minimize_of p))
  paid_tracks a p =
      let e : PExpr = record { span = p.span; ty = Some (ty.One elem.Int); form = eform.Number p.amount } in
      seen (S.Minimize e) (W.rolls-Minimize e) p.span (quiet_tracks a (number_quiet types prog funs values number (Some (ty.One elem.Int)) p.amount p.span))
