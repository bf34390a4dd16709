-- A filling depends on the sites that stand under its choice alone.
use Rattle.std.proofs.Common.{◌≡◌, ℕ, zero, suc, ◌+◌, ◌-◌, ◌<◌, ◌≤◌, Bool, true, false, List, [], ◌∷◌, ◌++◌, map, length, length-append, length-take, length-drop, take, drop, replicate, Option, Some, None, refl, sym, ap, subst, ◌∙◌, arith}
use Rattle.std.specs.Prelude.{IsTrue, if◌then◌else◌, ◌||◌, insert, slice_index_or, nat_lt}
use Rattle.std.proofs.lemmas.Bool.{false≢true}
use Rattle.std.proofs.lemmas.List.{length-map}
use Rattle.sk_base.specs.declared.span.Span.{Span}
use Rattle.sk_prog.specs.declared.ty.Ty.{Ty}
use Rattle.sk_prog.specs.declared.ty.Ty.TheVariants as ty
use Rattle.sk_prog.specs.declared.ty.Elem.TheVariants as elem
use Rattle.sk_prog.specs.declared.expr.PExpr.{PExpr}
use Rattle.sk_prog.specs.declared.expr.PField.{PField}
use Rattle.sk_prog.specs.declared.expr.PEForm.{PEForm}
use Rattle.sk_prog.specs.declared.expr.PEForm.TheVariants as eform
use Rattle.sk_prog.specs.declared.expr.PEForm.TheOpen as P
use Rattle.sk_prog.specs.declared.expr.PEForm.TheViews as V
use Rattle.sk_prog.specs.declared.expr.PEForm.TheFolds.{map-PEForm, fold-PEForm, fold-PField}
use Rattle.sk_prog.specs.declared.stmt.PStmt.{PStmt}
use Rattle.sk_prog.specs.declared.stmt.PForm.{PForm}
use Rattle.sk_prog.specs.declared.stmt.PForm.TheVariants as form
use Rattle.sk_prog.specs.declared.stmt.PForm.TheOpen as S
use Rattle.sk_prog.specs.declared.stmt.PForm.TheViews as W
use Rattle.sk_prog.specs.declared.stmt.PForm.TheFolds.{map-PForm, fold-PForm}
use Rattle.sk_prog.specs.declared.prog.Fun.{Fun}
use Rattle.sk_model.specs.Parts.{Part, counts, in_turn, pick, value, joined, rank}
use Rattle.sk_model.specs.Slots.{with_body}
use Rattle.sk_model.specs.Sites.{is_hole}
use Rattle.sk_model.specs.Stands.{Standing, nothing, together, own, absent, beside, in_row, first_of, only, hole_count, by_value, with_calls, eform_standing, expr_standing, value_standing, with_paid, form_standing, stmt_standing, body_standing, FunStanding, part_if, is_called, fun_standing, standing_from, standing, funs_stand, sites_stand, all_paid}
use Rattle.sk_model.specs.Fill.{chosen, no_string, arrange, digit, Opened, kept, bits_at, hole_part, renamed, eform_part, expr_step, field_step, expr_part, value_part, some_copies, all_copies, form_part, stmt_step, stmt_part, fill_stmts, stmts_count, minimize_of, before_body, fill_fun, fill_funs, fill_prog, fill}
use Rattle.sk_model.specs.FillingLaws.{FilledByWhatStands}
use Rattle.sk_model.proofs.Layers.{layer_field, expr_layer, stmt_layer}
use Rattle.sk_model.proofs.Induction.{Each, ExprCases, expr_ind, StmtCases, stmt_ind}

module _ (a b : List ℕ) where
  -- The choices agree on each site of these marks that stands, where the first has place i.
  abbrev Agrees : List Bool → ℕ → Type 0
  Agrees [] i = Unit {0}
  Agrees (m ∷ ms) i = (IsTrue m → value a i ≡ value b i) × Agrees ms (i + 1)

  agrees_append : (ms ns : List Bool) (i : ℕ) → Agrees (ms ++ ns) i → Agrees ms i × Agrees ns (i + length ms)
  agrees_append [] ns i h = let e : i ≡ i + 0 = omega arith in (tt, subst (Agrees ns) e h)
  agrees_append (m ∷ ms) ns i h =
      let more = agrees_append ms ns (i + 1) h.1 in
      let e : i + 1 + length ms ≡ i + suc (length ms) = omega arith in
      ((h.0, more.0), subst (Agrees ns) e more.1)

  agrees_from : (ms : List Bool) (i : ℕ) → ((k : ℕ) → IsTrue (slice_index_or ms k false) → value a (i + k) ≡ value b (i + k)) → Agrees ms i
  agrees_from [] i h = tt
  agrees_from (m ∷ ms) i h =
      let e : i + 0 ≡ i = omega arith in
      ((λ is. subst (λ n. value a n ≡ value b n) e (h 0 is)), agrees_from ms (i + 1) (λ k is. let f : i + suc k ≡ i + 1 + k = omega arith in subst (λ n. value a n ≡ value b n) f (h (suc k) is)))

  agrees_all : (n i k : ℕ) → Agrees (replicate n true) i → k < n → value a (i + k) ≡ value b (i + k)
  agrees_all zero i k h l = absurd (omega (arith, l))
  agrees_all (suc n) i zero h l = let e : i ≡ i + 0 = omega arith in subst (λ m. value a m ≡ value b m) e (h.0 refl)
  agrees_all (suc n) i (suc k) h l = let e : i + 1 + k ≡ i + suc k = omega arith in subst (λ m. value a m ≡ value b m) e (agrees_all n (i + 1) k h.1 (omega (arith, l)))

  -- What stands, and what is made, are alike under both choices where they agree on what stands.
  record Alike {X : Type 0} (sa sb : Part Standing) (fa fb : Part X) : Type 0 where
    marks : (i : ℕ) → length (sa.at i).marks ≡ sa.count
    stand_count : sb.count ≡ sa.count
    fill_count : fa.count ≡ sa.count
    other_count : fb.count ≡ sa.count
    alike : (i : ℕ) → Agrees (sa.at i).marks i → (sb.at i ≡ sa.at i) × (fb.at i ≡ fa.at i)

  by_layers : {X : Type 0} {sa sb sa' sb' : Part Standing} {fa fb fa' fb' : Part X} → sa ≡ sa' → sb ≡ sb' → fa ≡ fa' → fb ≡ fb' → Alike sa' sb' fa' fb' → Alike sa sb fa fb
  by_layers {X = X} {sa = sa} {sb = sb} {sa' = sa'} {sb' = sb'} {fa = fa} {fb = fb} {fa' = fa'} {fb' = fb'} p q r s h =
      subst (λ (z : Part Standing). Alike {X = X} z sb fa fb) (sym p)
      (subst (λ (z : Part Standing). Alike {X = X} sa' z fa fb) (sym q)
      (subst (λ (z : Part X). Alike {X = X} sa' sb' z fb) (sym r)
      (subst (λ (z : Part X). Alike {X = X} sa' sb' fa' z) (sym s) h)))

  none_alike : {X : Type 0} (x : X) → Alike (own 0) (own 0) (record { count = 0; at = λ i. x }) (record { count = 0; at = λ i. x })
  none_alike x = record { marks = λ i. refl; stand_count = refl; fill_count = refl; other_count = refl; alike = λ i h. (refl, refl) }

  abbrev made : {X Y : Type 0} → (X → Y) → Part X → Part Y
  made g p = record { count = p.count; at = λ i. g (p.at i) }

  made_alike : {X Y : Type 0} (g : X → Y) (sa sb : Part Standing) (fa fb : Part X) → Alike sa sb fa fb → Alike sa sb (made g fa) (made g fb)
  made_alike g sa sb fa fb h = record { marks = h.marks; stand_count = h.stand_count; fill_count = h.fill_count; other_count = h.other_count; alike = λ i k. ((h.alike i k).0, ap g (h.alike i k).1) }

  abbrev both_made : {X Y Z : Type 0} → (X → Y → Z) → Part X → Part Y → Part Z
  both_made g p q = record { count = p.count + q.count; at = λ i. g (p.at i) (q.at (i + p.count)) }

  both_alike : {X Y Z : Type 0} (g : X → Y → Z) (sa sb : Part Standing) (fa fb : Part X) (ta tb : Part Standing) (ga gb : Part Y) → Alike sa sb fa fb → Alike ta tb ga gb → Alike (beside sa ta) (beside sb tb) (both_made g fa ga) (both_made g fb gb)
  both_alike g sa sb fa fb ta tb ga gb h k = record {
    marks = λ i. length-append (sa.at i).marks (ta.at (i + sa.count)).marks ∙ (λ j. h.marks i j + k.marks (i + sa.count) j);
    stand_count = λ j. h.stand_count j + k.stand_count j;
    fill_count = λ j. h.fill_count j + k.fill_count j;
    other_count = λ j. h.other_count j + k.other_count j;
    alike = λ i agree.
        let two = agrees_append (sa.at i).marks (ta.at (i + sa.count)).marks i agree in
        let first = h.alike i two.0 in
        let second = k.alike (i + sa.count) (subst (λ n. Agrees (ta.at (i + sa.count)).marks (i + n)) (h.marks i) two.1) in (
          (λ j. together (first.0 j) (tb.at (i + h.stand_count j))) ∙ ap (together (sa.at i)) second.0,
          (λ j. g (first.1 j) (gb.at (i + h.other_count j))) ∙ ap (g (fa.at i)) second.1 ∙ (λ j. g (fa.at i) (ga.at (i + sym h.fill_count j))),
        );
  }

  -- a list of parts
  module _ {E X : Type 0} (sa sb : E → Part Standing) (fa fb : E → Part X) where
    abbrev One : E → Type 0
    One e = Alike (sa e) (sb e) (fa e) (fb e)

    abbrev turned : (E → Part X) → List E → Part (List X)
    turned f es = record { count = counts (map f es); at = λ i. in_turn (map f es) i }

    row_alike : (es : List E) → Each One es → Alike (in_row (map sa es)) (in_row (map sb es)) (turned fa es) (turned fb es)
    row_alike [] h = none_alike []
    row_alike (e ∷ es) h = both_alike (λ x xs. x ∷ xs) (sa e) (sb e) (fa e) (fb e) (in_row (map sa es)) (in_row (map sb es)) (turned fa es) (turned fb es) h.0 (row_alike es h.1)

    absent_alike : (e : E) → One e → (i : ℕ) → (absent (sb e)).at i ≡ (absent (sa e)).at i
    absent_alike e h i = ap (λ n. record { marks = replicate n false; called = []; paid = [] }) h.stand_count

    length-replicate : (n : ℕ) (v : Bool) → length (replicate n v) ≡ n
    length-replicate zero v = refl
    length-replicate (suc n) v = ap suc (length-replicate n v)

    -- none of the rest stands
    gone_alike : (es : List E) → Each One es → (i : ℕ) → (in_row (first_of 0 (map sb es))).at i ≡ (in_row (first_of 0 (map sa es))).at i
    gone_alike [] h i = refl
    gone_alike (e ∷ es) h i = (λ j. together (absent_alike e h.0 i j) ((in_row (first_of 0 (map sb es))).at (i + h.0.stand_count j))) ∙ ap (together ((absent (sa e)).at i)) (gone_alike es h.1 (i + (sa e).count))

    first_count : (v : ℕ) (s : E → Part Standing) (es : List E) → (in_row (first_of v (map s es))).count ≡ counts (map s es)
    first_count v s [] = refl
    first_count zero s (e ∷ es) = ap (λ n. (s e).count + n) (first_count zero s es)
    first_count (suc v) s (e ∷ es) = ap (λ n. (s e).count + n) (first_count v s es)

    first_alike : (v : ℕ) (es : List E) → Each One es → (i : ℕ) → Agrees ((in_row (first_of v (map sa es))).at i).marks i → ((in_row (first_of v (map sb es))).at i ≡ (in_row (first_of v (map sa es))).at i) × (take v (in_turn (map fb es) i) ≡ take v (in_turn (map fa es) i))
    first_alike zero es h i agree = (gone_alike es h i, refl)
    first_alike (suc v) [] h i agree = (refl, refl)
    first_alike (suc v) (e ∷ es) h i agree =
        let rest : Part Standing = in_row (first_of v (map sa es)) in
        let two = agrees_append ((sa e).at i).marks (rest.at (i + (sa e).count)).marks i agree in
        let one = h.0.alike i two.0 in
        let more = first_alike v es h.1 (i + (sa e).count) (subst (λ n. Agrees (rest.at (i + (sa e).count)).marks (i + n)) (h.0.marks i) two.1) in (
          (λ j. together (one.0 j) ((in_row (first_of v (map sb es))).at (i + h.0.stand_count j))) ∙ ap (together ((sa e).at i)) more.0,
          (λ j. one.1 j ∷ take v (in_turn (map fb es) (i + h.0.other_count j))) ∙ ap (λ xs. (fa e).at i ∷ xs) more.1 ∙ (λ j. (fa e).at i ∷ take v (in_turn (map fa es) (i + sym h.0.fill_count j))),
        )

    only_count : (v : ℕ) (s : E → Part Standing) (es : List E) → (in_row (only v (map s es))).count ≡ counts (map s es)
    only_count v s [] = refl
    only_count zero s (e ∷ es) = ap (λ n. (s e).count + n) (first_count zero s es)
    only_count (suc v) s (e ∷ es) = ap (λ n. (s e).count + n) (only_count v s es)

    only_alike : (other : X) (v : ℕ) (es : List E) → Each One es → (i : ℕ) → Agrees ((in_row (only v (map sa es))).at i).marks i → ((in_row (only v (map sb es))).at i ≡ (in_row (only v (map sa es))).at i) × (pick other (map fb es) v i ≡ pick other (map fa es) v i)
    only_alike other v [] h i agree = (refl, refl)
    only_alike other zero (e ∷ es) h i agree =
        let rest : Part Standing = in_row (first_of 0 (map sa es)) in
        let two = agrees_append ((sa e).at i).marks (rest.at (i + (sa e).count)).marks i agree in
        let one = h.0.alike i two.0 in
        ((λ j. together (one.0 j) ((in_row (first_of 0 (map sb es))).at (i + h.0.stand_count j))) ∙ ap (together ((sa e).at i)) (gone_alike es h.1 (i + (sa e).count)), one.1)
    only_alike other (suc v) (e ∷ es) h i agree =
        let rest : Part Standing = in_row (only v (map sa es)) in
        let two = agrees_append (replicate (sa e).count false) (rest.at (i + (sa e).count)).marks i agree in
        let more = only_alike other v es h.1 (i + (sa e).count) (subst (λ n. Agrees (rest.at (i + (sa e).count)).marks (i + n)) (length-replicate (sa e).count false) two.1) in (
          (λ j. together (absent_alike e h.0 i j) ((in_row (only v (map sb es))).at (i + h.0.stand_count j))) ∙ ap (together ((absent (sa e)).at i)) more.0,
          (λ j. pick other (map fb es) v (i + h.0.other_count j)) ∙ more.1 ∙ (λ j. pick other (map fa es) v (i + sym h.0.fill_count j)),
        )

    counts_same : (es : List E) → Each One es → (counts (map sb es) ≡ counts (map sa es)) × (counts (map fa es) ≡ counts (map sa es)) × (counts (map fb es) ≡ counts (map sa es))
    counts_same [] h = (refl, refl, refl)
    counts_same (e ∷ es) h =
        let more = counts_same es h.1 in
        ((λ j. h.0.stand_count j + more.0 j), (λ j. h.0.fill_count j + more.1 j), (λ j. h.0.other_count j + more.2 j))

    row_marks : (es : List E) → Each One es → (i : ℕ) → length ((in_row (map sa es)).at i).marks ≡ (in_row (map sa es)).count
    row_marks es h i = (row_alike es h).marks i

    first_marks : (v : ℕ) (es : List E) → Each One es → (i : ℕ) → length ((in_row (first_of v (map sa es))).at i).marks ≡ counts (map sa es)
    first_marks v [] h i = refl
    first_marks zero (e ∷ es) h i = length-append (replicate (sa e).count false) ((in_row (first_of 0 (map sa es))).at (i + (sa e).count)).marks ∙ (λ j. length-replicate (sa e).count false j + first_marks zero es h.1 (i + (sa e).count) j)
    first_marks (suc v) (e ∷ es) h i = length-append ((sa e).at i).marks ((in_row (first_of v (map sa es))).at (i + (sa e).count)).marks ∙ (λ j. h.0.marks i j + first_marks v es h.1 (i + (sa e).count) j)

    only_marks : (v : ℕ) (es : List E) → Each One es → (i : ℕ) → length ((in_row (only v (map sa es))).at i).marks ≡ counts (map sa es)
    only_marks v [] h i = refl
    only_marks zero (e ∷ es) h i = length-append ((sa e).at i).marks ((in_row (first_of 0 (map sa es))).at (i + (sa e).count)).marks ∙ (λ j. h.0.marks i j + first_marks zero es h.1 (i + (sa e).count) j)
    only_marks (suc v) (e ∷ es) h i = length-append (replicate (sa e).count false) ((in_row (only v (map sa es))).at (i + (sa e).count)).marks ∙ (λ j. length-replicate (sa e).count false j + only_marks v es h.1 (i + (sa e).count) j)

    -- the first copies of a repeat
    abbrev cut : List ℕ → (E → Part X) → List E → Part (List X)
    cut values f es = record { count = suc (counts (map f es)); at = λ i. take (value values i) (in_turn (map f es) (i + 1)) }

    cut_alike : (es : List E) → Each One es → Alike (by_value a first_of (map sa es)) (by_value b first_of (map sb es)) (cut a fa es) (cut b fb es)
    cut_alike es h =
        let same = counts_same es h in
        record {
          marks = λ i. ap suc (first_marks (value a i) es h (i + 1));
          stand_count = ap suc same.0;
          fill_count = ap suc same.1;
          other_count = ap suc same.2;
          alike = λ i agree.
              let is : value a i ≡ value b i = agree.0 refl in
              let more = first_alike (value a i) es h (i + 1) agree.1 in (
                (λ j. together ((own 1).at i) ((in_row (first_of (sym is j) (map sb es))).at (i + 1))) ∙ ap (together ((own 1).at i)) more.0,
                (λ j. take (sym is j) (in_turn (map fb es) (i + 1))) ∙ more.1,
              );
        }

    -- the chosen string of a pattern
    abbrev picked : X → List ℕ → (E → Part X) → List E → Part X
    picked other values f es = record { count = suc (counts (map f es)); at = λ i. pick other (map f es) (value values i) (i + 1) }

    picked_alike : (other : X) (es : List E) → Each One es → Alike (by_value a only (map sa es)) (by_value b only (map sb es)) (picked other a fa es) (picked other b fb es)
    picked_alike other es h =
        let same = counts_same es h in
        record {
          marks = λ i. ap suc (only_marks (value a i) es h (i + 1));
          stand_count = ap suc same.0;
          fill_count = ap suc same.1;
          other_count = ap suc same.2;
          alike = λ i agree.
              let is : value a i ≡ value b i = agree.0 refl in
              let more = only_alike other (value a i) es h (i + 1) agree.1 in (
                (λ j. together ((own 1).at i) ((in_row (only (sym is j) (map sb es))).at (i + 1))) ∙ ap (together ((own 1).at i)) more.0,
                (λ j. pick other (map fb es) (sym is j) (i + 1)) ∙ more.1,
              );
        }

  -- Expressions

  with_calls_alike : {X : Type 0} (f : ℕ) (sa sb : Part Standing) (fa fb : Part X) → Alike sa sb fa fb → Alike (with_calls a f sa) (with_calls b f sb) fa fb
  with_calls_alike f sa sb fa fb h = record { marks = h.marks; stand_count = h.stand_count; fill_count = h.fill_count; other_count = h.other_count; alike = λ i k. (ap (together (record nothing { called = f ∷ [] })) (h.alike i k).0, (h.alike i k).1) }

  length-trues : (n : ℕ) → length (replicate n true) ≡ n
  length-trues zero = refl
  length-trues (suc n) = ap suc (length-trues n)

  length-insert : {X : Type 0} (xs : List X) (i : ℕ) (x : X) → length (insert xs i x) ≡ suc (length xs)
  length-insert xs i x = length-append (take i xs) (x ∷ drop i xs) ∙ omega (arith, length-take i xs, length-drop i xs)

  digit_same : (n i : ℕ) → ((k : ℕ) → k < n - 1 → value a (i + k) ≡ value b (i + k)) → (m : ℕ) → m < n → digit b i m ≡ digit a i m
  digit_same n i h zero l = refl
  digit_same n i h (suc k) l = sym (h k (omega (arith, l)))

  arrange_alike : {X : Type 0} (n i : ℕ) (ys xs : List X) → ((k : ℕ) → k < n - 1 → value a (i + k) ≡ value b (i + k)) → length ys + length xs ≤ n → arrange b i ys xs ≡ arrange a i ys xs
  arrange_alike n i ys [] h l = refl
  arrange_alike n i ys (x ∷ xs) h l =
      let zs : List _ = insert ys (length ys - digit a i (length ys)) x in
      let longer : length zs ≡ suc (length ys) = length-insert ys (length ys - digit a i (length ys)) x in
      ap (λ d. arrange b i (insert ys (length ys - d) x) xs) (digit_same n i h (length ys) (omega (arith, l)))
      ∙ arrange_alike n i zs xs h (omega (arith, l, longer))

  turn_length : {X : Type 0} (ps : List (Part X)) (i : ℕ) → length (in_turn ps i) ≡ length ps
  turn_length [] i = refl
  turn_length (p ∷ ps) i = ap suc (turn_length ps (i + p.count))

  module _ (number : ℕ → ℕ) where
    abbrev field_standing : List ℕ → PField → Part Standing
    field_standing values = fold-PField (Option Ty → Part Standing) (Part Standing) (Part Standing) (eform_standing values) (λ e. e.form e.ty) (λ x. x.value)

    abbrev field_part : List ℕ → PField → Part PField
    field_part values = fold-PField (Opened values number) (Part PExpr) (Part PField) (eform_part values number) (expr_step values number) (field_step values number)

    abbrev form_standing_of : List ℕ → PEForm → Option Ty → Part Standing
    form_standing_of values = fold-PEForm (Option Ty → Part Standing) (Part Standing) (Part Standing) (eform_standing values) (λ e. e.form e.ty) (λ x. x.value)

    abbrev form_part_of : (values : List ℕ) → PEForm → Opened values number
    form_part_of values = fold-PEForm (Opened values number) (Part PExpr) (Part PField) (eform_part values number) (expr_step values number) (field_step values number)

    abbrev AlikeExpr : PExpr → Type 0
    AlikeExpr e = Alike (expr_standing a e) (expr_standing b e) (expr_part a number e) (expr_part b number e)

    abbrev AlikeField : PField → Type 0
    AlikeField x = Alike (field_standing a x) (field_standing b x) (field_part a x) (field_part b x)

    one_alike : (s : Span) (t : Option Ty) → Alike (own 1) (own 1) (kept a number 1 (λ i. eform.Number (value a i)) t s) (kept b number 1 (λ i. eform.Number (value b i)) t s)
    one_alike s t = record { marks = λ i. refl; stand_count = refl; fill_count = refl; other_count = refl; alike = λ i agree. (refl, ap (λ v. record { span = s; ty = t; form = eform.Number v }) (sym (agree.0 refl))) }

    bits_alike : (s : Span) (n i : ℕ) → Agrees (replicate n true) i → bits_at b number s n i ≡ bits_at a number s n i
    bits_alike s zero i h = refl
    bits_alike s (suc n) i h = λ j. record { span = s; ty = Some (ty.One elem.Bit); form = eform.Number (sym (h.0 refl) j) } ∷ bits_alike s n (i + 1) h.1 j

    hole_alike : (s : Span) (t : Option Ty) → Alike (own (hole_count t)) (own (hole_count t)) (hole_part a number t s) (hole_part b number t s)
    hole_alike s None = one_alike s None
    hole_alike s (Some (ty.One e)) = one_alike s (Some (ty.One e))
    hole_alike s (Some (ty.Array elem.Bit n)) = record { marks = λ i. length-trues n; stand_count = refl; fill_count = refl; other_count = refl; alike = λ i agree. (refl, ap (λ es. record { span = s; ty = Some (ty.Array elem.Bit n); form = eform.Braces es }) (bits_alike s n i agree)) }
    hole_alike s (Some (ty.Array elem.Int n)) = one_alike s (Some (ty.Array elem.Int n))
    hole_alike s (Some (ty.Array (elem.Reference d) n)) = one_alike s (Some (ty.Array (elem.Reference d) n))
    hole_alike s (Some (ty.Grid e n m)) = one_alike s (Some (ty.Grid e n m))

    abbrev typed : Span → Option Ty → PEForm → PExpr
    typed s t f = record { span = s; ty = t; form = f }

    -- an expression, by what each of the four says of its form
    by_form : (x : P.PEForm-F PEForm PExpr PField) (f : PEForm) → V.roll-PEForm x ≡ f → (s : Span) (t : Option Ty) → Alike (eform_standing a (map-PEForm PEForm PExpr PField (Option Ty → Part Standing) (Part Standing) (Part Standing) (form_standing_of a) (expr_standing a) (field_standing a) x) t) (eform_standing b (map-PEForm PEForm PExpr PField (Option Ty → Part Standing) (Part Standing) (Part Standing) (form_standing_of b) (expr_standing b) (field_standing b) x) t) (eform_part a number (map-PEForm PEForm PExpr PField (Opened a number) (Part PExpr) (Part PField) (form_part_of a) (expr_part a number) (field_part a) x) t s) (eform_part b number (map-PEForm PEForm PExpr PField (Opened b number) (Part PExpr) (Part PField) (form_part_of b) (expr_part b number) (field_part b) x) t s) → AlikeExpr (typed s t f)
    by_form x f is s t h = by_layers (expr_layer (Option Ty → Part Standing) (Part Standing) (Part Standing) (eform_standing a) (λ e. e.form e.ty) (λ x. x.value) x f is s t) (expr_layer (Option Ty → Part Standing) (Part Standing) (Part Standing) (eform_standing b) (λ e. e.form e.ty) (λ x. x.value) x f is s t) (expr_layer (Opened a number) (Part PExpr) (Part PField) (eform_part a number) (expr_step a number) (field_step a number) x f is s t) (expr_layer (Opened b number) (Part PExpr) (Part PField) (eform_part b number) (expr_step b number) (field_step b number) x f is s t) h

    expr_cases : ExprCases AlikeExpr AlikeField
    expr_cases = record {
      field = λ k e h. by_layers (layer_field (Option Ty → Part Standing) (Part Standing) (Part Standing) (eform_standing a) (λ e. e.form e.ty) (λ x. x.value) k e) (layer_field (Option Ty → Part Standing) (Part Standing) (Part Standing) (eform_standing b) (λ e. e.form e.ty) (λ x. x.value) k e) (layer_field (Opened a number) (Part PExpr) (Part PField) (eform_part a number) (expr_step a number) (field_step a number) k e) (layer_field (Opened b number) (Part PExpr) (Part PField) (eform_part b number) (expr_step b number) (field_step b number) k e) (made_alike (λ x. record { field = k; value = x }) (expr_standing a e) (expr_standing b e) (expr_part a number e) (expr_part b number e) h);
      number = λ s t n. by_form (P.Number n) (eform.Number n) (V.rolls-Number n) s t (none_alike (typed s t (eform.Number n)));
      truth = λ s t. by_form P.True eform.True V.rolls-True s t (none_alike (typed s t eform.True));
      falsity = λ s t. by_form P.False eform.False V.rolls-False s t (none_alike (typed s t eform.False));
      null = λ s t. by_form P.Null eform.Null V.rolls-Null s t (none_alike (typed s t eform.Null));
      var = λ s t slot x. by_form (P.Var slot x) (eform.Var slot x) (V.rolls-Var slot x) s t (none_alike (typed s t (eform.Var slot x)));
      const = λ s t k. by_form (P.Const k) (eform.Const k) (V.rolls-Const k) s t (none_alike (typed s t (eform.Const k)));
      hole = λ s t bits. by_form (P.Hole bits) (eform.Hole bits) (V.rolls-Hole bits) s t (hole_alike s t);
      pattern = λ s t es h_es. by_form (P.Pattern es) (eform.Pattern es) (V.rolls-Pattern es) s t (made_alike (chosen t s) (by_value a only (map (expr_standing a) es)) (by_value b only (map (expr_standing b) es)) (picked (expr_standing a) (expr_standing b) (expr_part a number) (expr_part b number) no_string a (expr_part a number) es) (picked (expr_standing a) (expr_standing b) (expr_part a number) (expr_part b number) no_string b (expr_part b number) es) (picked_alike (expr_standing a) (expr_standing b) (expr_part a number) (expr_part b number) no_string es h_es));
      paren = λ s t e h_e. by_form (P.Paren e) (eform.Paren e) (V.rolls-Paren e) s t (made_alike (λ z. typed s t (eform.Paren z)) (expr_standing a e) (expr_standing b e) (expr_part a number e) (expr_part b number e) h_e);
      call = λ s t f es h_es. by_form (P.Call f es) (eform.Call f es) (V.rolls-Call f es) s t (with_calls_alike f.index (in_row (map (expr_standing a) es)) (in_row (map (expr_standing b) es)) (made (λ xs. typed s t (eform.Call (renamed a number f) xs)) (turned (expr_standing a) (expr_standing b) (expr_part a number) (expr_part b number) (expr_part a number) es)) (made (λ xs. typed s t (eform.Call (renamed b number f) xs)) (turned (expr_standing a) (expr_standing b) (expr_part a number) (expr_part b number) (expr_part b number) es)) (made_alike (λ xs. typed s t (eform.Call (renamed a number f) xs)) (in_row (map (expr_standing a) es)) (in_row (map (expr_standing b) es)) (turned (expr_standing a) (expr_standing b) (expr_part a number) (expr_part b number) (expr_part a number) es) (turned (expr_standing a) (expr_standing b) (expr_part a number) (expr_part b number) (expr_part b number) es) (row_alike (expr_standing a) (expr_standing b) (expr_part a number) (expr_part b number) es h_es)));
      new = λ s t d fs h_fs. by_form (P.New d fs) (eform.New d fs) (V.rolls-New d fs) s t (made_alike (λ xs. typed s t (eform.New d xs)) (in_row (map (field_standing a) fs)) (in_row (map (field_standing b) fs)) (turned (field_standing a) (field_standing b) (field_part a) (field_part b) (field_part a) fs) (turned (field_standing a) (field_standing b) (field_part a) (field_part b) (field_part b) fs) (row_alike (field_standing a) (field_standing b) (field_part a) (field_part b) fs h_fs));
      braces = λ s t es h_es. by_form (P.Braces es) (eform.Braces es) (V.rolls-Braces es) s t (made_alike (λ xs. typed s t (eform.Braces xs)) (in_row (map (expr_standing a) es)) (in_row (map (expr_standing b) es)) (turned (expr_standing a) (expr_standing b) (expr_part a number) (expr_part b number) (expr_part a number) es) (turned (expr_standing a) (expr_standing b) (expr_part a number) (expr_part b number) (expr_part b number) es) (row_alike (expr_standing a) (expr_standing b) (expr_part a number) (expr_part b number) es h_es));
      member = λ s t e d k h_e. by_form (P.Member e d k) (eform.Member e d k) (V.rolls-Member e d k) s t (made_alike (λ z. typed s t (eform.Member z d k)) (expr_standing a e) (expr_standing b e) (expr_part a number e) (expr_part b number e) h_e);
      index = λ s t e i h_e h_i. by_form (P.Index e i) (eform.Index e i) (V.rolls-Index e i) s t (both_alike (λ y z. typed s t (eform.Index y z)) (expr_standing a e) (expr_standing b e) (expr_part a number e) (expr_part b number e) (expr_standing a i) (expr_standing b i) (expr_part a number i) (expr_part b number i) h_e h_i);
      slice = λ s t e i n h_e h_i. by_form (P.Slice e i n) (eform.Slice e i n) (V.rolls-Slice e i n) s t (both_alike (λ y z. typed s t (eform.Slice y z n)) (expr_standing a e) (expr_standing b e) (expr_part a number e) (expr_part b number e) (expr_standing a i) (expr_standing b i) (expr_part a number i) (expr_part b number i) h_e h_i);
      unary = λ s t o e h_e. by_form (P.Unary o e) (eform.Unary o e) (V.rolls-Unary o e) s t (made_alike (λ z. typed s t (eform.Unary o z)) (expr_standing a e) (expr_standing b e) (expr_part a number e) (expr_part b number e) h_e);
      binary = λ s t o x y h_x h_y. by_form (P.Binary o x y) (eform.Binary o x y) (V.rolls-Binary o x y) s t (both_alike (λ y z. typed s t (eform.Binary o y z)) (expr_standing a x) (expr_standing b x) (expr_part a number x) (expr_part b number x) (expr_standing a y) (expr_standing b y) (expr_part a number y) (expr_part b number y) h_x h_y);
      cond = λ s t c x y h_c h_x h_y. by_form (P.Cond c x y) (eform.Cond c x y) (V.rolls-Cond c x y) s t (both_alike (λ (u : PExpr) (p : PExpr × PExpr). typed s t (eform.Cond u p.0 p.1)) (expr_standing a c) (expr_standing b c) (expr_part a number c) (expr_part b number c) (beside (expr_standing a x) (expr_standing a y)) (beside (expr_standing b x) (expr_standing b y)) (both_made (λ (v : PExpr) (w : PExpr). (v, w)) (expr_part a number x) (expr_part a number y)) (both_made (λ (v : PExpr) (w : PExpr). (v, w)) (expr_part b number x) (expr_part b number y)) h_c (both_alike (λ (v : PExpr) (w : PExpr). (v, w)) (expr_standing a x) (expr_standing b x) (expr_part a number x) (expr_part b number x) (expr_standing a y) (expr_standing b y) (expr_part a number y) (expr_part b number y) h_x h_y));
      to_int = λ s t e h_e. by_form (P.ToInt e) (eform.ToInt e) (V.rolls-ToInt e) s t (made_alike (λ z. typed s t (eform.ToInt z)) (expr_standing a e) (expr_standing b e) (expr_part a number e) (expr_part b number e) h_e);
      pad = λ s t e h_e. by_form (P.Pad e) (eform.Pad e) (V.rolls-Pad e) s t (made_alike (λ z. typed s t (eform.Pad z)) (expr_standing a e) (expr_standing b e) (expr_part a number e) (expr_part b number e) h_e);
    }

    expr_alike : (e : PExpr) → AlikeExpr e
    expr_alike = expr_ind AlikeExpr AlikeField expr_cases

    value_alike : (e : Option PExpr) → Alike (value_standing a e) (value_standing b e) (value_part a number e) (value_part b number e)
    value_alike None = none_alike None
    value_alike (Some e) = made_alike (λ x. Some x) (expr_standing a e) (expr_standing b e) (expr_part a number e) (expr_part b number e) (expr_alike e)

    -- Statements

    abbrev AlikeStmt : PStmt → Type 0
    AlikeStmt s = Alike (stmt_standing a s) (stmt_standing b s) (stmt_part a number s) (stmt_part b number s)

    abbrev stated : Span → PForm → PStmt
    stated s f = record { span = s; form = f }

    abbrev stmts_turned : List ℕ → List PStmt → Part (List PStmt)
    stmts_turned values ss = record { count = counts (map (stmt_part values number) ss); at = λ i. in_turn (map (stmt_part values number) ss) i }

    stmts_alike : (ss : List PStmt) → Each AlikeStmt ss → Alike (in_row (map (stmt_standing a) ss)) (in_row (map (stmt_standing b) ss)) (stmts_turned a ss) (stmts_turned b ss)
    stmts_alike ss h = row_alike (stmt_standing a) (stmt_standing b) (stmt_part a number) (stmt_part b number) ss h

    abbrev stmts_cut : List ℕ → List PStmt → Part (List PStmt)
    stmts_cut values ss = record { count = suc (counts (map (stmt_part values number) ss)); at = λ i. take (value values i) (in_turn (map (stmt_part values number) ss) (i + 1)) }

    copies_alike : (ss : List PStmt) → Each AlikeStmt ss → Alike (by_value a first_of (map (stmt_standing a) ss)) (by_value b first_of (map (stmt_standing b) ss)) (stmts_cut a ss) (stmts_cut b ss)
    copies_alike ss h = cut_alike (stmt_standing a) (stmt_standing b) (stmt_part a number) (stmt_part b number) ss h

    paid_alike : (s : Span) (ss : List PStmt) → Each AlikeStmt ss → Alike (with_paid a s (by_value a first_of (map (stmt_standing a) ss))) (with_paid b s (by_value b first_of (map (stmt_standing b) ss))) (stmts_cut a ss) (stmts_cut b ss)
    paid_alike s ss h =
        let c = copies_alike ss h in
        record {
          marks = c.marks;
          stand_count = c.stand_count;
          fill_count = c.fill_count;
          other_count = c.other_count;
          alike = λ i agree.
              let is : value a i ≡ value b i = agree.0 refl in (
                (λ j. together (record nothing { paid = record { span = s; amount = sym is j } ∷ [] }) ((by_value b first_of (map (stmt_standing b) ss)).at i)) ∙ ap (together (record nothing { paid = record { span = s; amount = value a i } ∷ [] })) (c.alike i agree).0,
                (c.alike i agree).1,
              );
        }

    repeat_alike : (s : Span) (hole : Bool) (ss : List PStmt) → Each AlikeStmt ss → Alike (if hole then by_value a first_of (map (stmt_standing a) ss) else in_row (map (stmt_standing a) ss)) (if hole then by_value b first_of (map (stmt_standing b) ss) else in_row (map (stmt_standing b) ss)) (made (stated s) (if hole then some_copies a number (map (stmt_part a number) ss) else all_copies a number (map (stmt_part a number) ss))) (made (stated s) (if hole then some_copies b number (map (stmt_part b number) ss) else all_copies b number (map (stmt_part b number) ss)))
    repeat_alike s true ss h = made_alike (λ xs. stated s (form.Block xs)) (by_value a first_of (map (stmt_standing a) ss)) (by_value b first_of (map (stmt_standing b) ss)) (stmts_cut a ss) (stmts_cut b ss) (copies_alike ss h)
    repeat_alike s false ss h = made_alike (λ xs. stated s (form.Block xs)) (in_row (map (stmt_standing a) ss)) (in_row (map (stmt_standing b) ss)) (stmts_turned a ss) (stmts_turned b ss) (stmts_alike ss h)

    abbrev ordered_standing : List ℕ → List PStmt → ℕ → Part Standing
    ordered_standing values ss n = beside (own (n - 1)) (in_row (map (stmt_standing values) ss))

    abbrev ordered : List ℕ → Span → List PStmt → ℕ → Part PStmt
    ordered values s ss n = record { count = (n - 1) + counts (map (stmt_part values number) ss); at = λ i. stated s (form.Block (arrange values i [] (in_turn (map (stmt_part values number) ss) (i + (n - 1))))) }

    ordered_alike : (s : Span) (ss : List PStmt) → Each AlikeStmt ss → Alike (ordered_standing a ss (length ss)) (ordered_standing b ss (length ss)) (ordered a s ss (length ss)) (ordered b s ss (length ss))
    ordered_alike s ss h =
        let n : ℕ = length ss in
        let row = stmts_alike ss h in
        let rest : Part Standing = in_row (map (stmt_standing a) ss) in
        record {
          marks = λ i. length-append (replicate (n - 1) true) (rest.at (i + (n - 1))).marks ∙ (λ j. length-trues (n - 1) j + row.marks (i + (n - 1)) j);
          stand_count = ap (λ m. (n - 1) + m) row.stand_count;
          fill_count = ap (λ m. (n - 1) + m) row.fill_count;
          other_count = ap (λ m. (n - 1) + m) row.other_count;
          alike = λ i agree.
              let two = agrees_append (replicate (n - 1) true) (rest.at (i + (n - 1))).marks i agree in
              let more = row.alike (i + (n - 1)) (subst (λ m. Agrees (rest.at (i + (n - 1))).marks (i + m)) (length-trues (n - 1)) two.1) in
              let xs : List PStmt = in_turn (map (stmt_part a number) ss) (i + (n - 1)) in
              let long : length xs ≡ n = turn_length (map (stmt_part a number) ss) (i + (n - 1)) ∙ length-map ss (stmt_part a number) in (
                ap (together ((own (n - 1)).at i)) more.0,
                ap (λ ys. stated s (form.Block (arrange b i [] ys))) more.1 ∙ ap (λ ys. stated s (form.Block ys)) (arrange_alike n i [] xs (λ k l. agrees_all (n - 1) i k two.0 l) (omega (arith, long))),
              );
        }

    reorder_alike : (s : Span) (ss : List PStmt) → Each AlikeStmt ss → Alike (ordered_standing a ss (length (map (stmt_standing a) ss))) (ordered_standing b ss (length (map (stmt_standing b) ss))) (ordered a s ss (length (map (stmt_part a number) ss))) (ordered b s ss (length (map (stmt_part b number) ss)))
    reorder_alike s ss h = by_layers (ap (ordered_standing a ss) (length-map ss (stmt_standing a))) (ap (ordered_standing b ss) (length-map ss (stmt_standing b))) (ap (ordered a s ss) (length-map ss (stmt_part a number))) (ap (ordered b s ss) (length-map ss (stmt_part b number))) (ordered_alike s ss h)

    abbrev no_other : Part (Option PStmt)
    no_other = record { count = 0; at = λ i. None }

    abbrev pform_standing_of : List ℕ → PForm → Span → Part Standing
    pform_standing_of values = fold-PForm (Span → Part Standing) (Part Standing) (form_standing values) (λ s. s.form s.span)

    abbrev pform_part_of : List ℕ → PForm → Part PForm
    pform_part_of values = fold-PForm (Part PForm) (Part PStmt) (form_part values number) (stmt_step values number)

    -- a statement, by what each of the four says of its form
    by_stmt : (x : S.PForm-F PForm PStmt) (f : PForm) → W.roll-PForm x ≡ f → (s : Span) → Alike (form_standing a (map-PForm PForm PStmt (Span → Part Standing) (Part Standing) (pform_standing_of a) (stmt_standing a) x) s) (form_standing b (map-PForm PForm PStmt (Span → Part Standing) (Part Standing) (pform_standing_of b) (stmt_standing b) x) s) (made (stated s) (form_part a number (map-PForm PForm PStmt (Part PForm) (Part PStmt) (pform_part_of a) (stmt_part a number) x))) (made (stated s) (form_part b number (map-PForm PForm PStmt (Part PForm) (Part PStmt) (pform_part_of b) (stmt_part b number) x))) → AlikeStmt (stated s f)
    by_stmt x f is s h = by_layers (stmt_layer (Span → Part Standing) (Part Standing) (form_standing a) (λ s. s.form s.span) x f is s) (stmt_layer (Span → Part Standing) (Part Standing) (form_standing b) (λ s. s.form s.span) x f is s) (stmt_layer (Part PForm) (Part PStmt) (form_part a number) (stmt_step a number) x f is s) (stmt_layer (Part PForm) (Part PStmt) (form_part b number) (stmt_step b number) x f is s) h

    stmt_cases : StmtCases AlikeStmt
    stmt_cases = record {
      block = λ s ss h_ss. by_stmt (S.Block ss) (form.Block ss) (W.rolls-Block ss) s (made_alike (λ xs. stated s (form.Block xs)) (in_row (map (stmt_standing a) ss)) (in_row (map (stmt_standing b) ss)) (stmts_turned a ss) (stmts_turned b ss) (stmts_alike ss h_ss));
      declare = λ s slot name t e. by_stmt (S.Declare slot name t e) (form.Declare slot name t e) (W.rolls-Declare slot name t e) s (made_alike (λ v. stated s (form.Declare slot name t v)) (value_standing a e) (value_standing b e) (value_part a number e) (value_part b number e) (value_alike e));
      assign = λ s p e. by_stmt (S.Assign p e) (form.Assign p e) (W.rolls-Assign p e) s (both_alike (λ v w. stated s (form.Assign v w)) (expr_standing a p) (expr_standing b p) (expr_part a number p) (expr_part b number p) (expr_standing a e) (expr_standing b e) (expr_part a number e) (expr_part b number e) (expr_alike p) (expr_alike e));
      calls = λ s e. by_stmt (S.Call e) (form.Call e) (W.rolls-Call e) s (made_alike (λ v. stated s (form.Call v)) (expr_standing a e) (expr_standing b e) (expr_part a number e) (expr_part b number e) (expr_alike e));
      if_only = λ s c x h_x. by_stmt (S.If c x None) (form.If c x None) (W.rolls-If c x None) s (both_alike (λ (u : PExpr) (p : PStmt × Option PStmt). stated s (form.If u p.0 p.1)) (expr_standing a c) (expr_standing b c) (expr_part a number c) (expr_part b number c) (beside (stmt_standing a x) (own 0)) (beside (stmt_standing b x) (own 0)) (both_made (λ (v : PStmt) (w : Option PStmt). (v, w)) (stmt_part a number x) no_other) (both_made (λ (v : PStmt) (w : Option PStmt). (v, w)) (stmt_part b number x) no_other) (expr_alike c) (both_alike (λ (v : PStmt) (w : Option PStmt). (v, w)) (stmt_standing a x) (stmt_standing b x) (stmt_part a number x) (stmt_part b number x) (own 0) (own 0) no_other no_other h_x (none_alike None)));
      if_else = λ s c x y h_x h_y. by_stmt (S.If c x (Some y)) (form.If c x (Some y)) (W.rolls-If c x (Some y)) s (both_alike (λ (u : PExpr) (p : PStmt × Option PStmt). stated s (form.If u p.0 p.1)) (expr_standing a c) (expr_standing b c) (expr_part a number c) (expr_part b number c) (beside (stmt_standing a x) (stmt_standing a y)) (beside (stmt_standing b x) (stmt_standing b y)) (both_made (λ (v : PStmt) (w : Option PStmt). (v, w)) (stmt_part a number x) (made (λ z. Some z) (stmt_part a number y))) (both_made (λ (v : PStmt) (w : Option PStmt). (v, w)) (stmt_part b number x) (made (λ z. Some z) (stmt_part b number y))) (expr_alike c) (both_alike (λ (v : PStmt) (w : Option PStmt). (v, w)) (stmt_standing a x) (stmt_standing b x) (stmt_part a number x) (stmt_part b number x) (stmt_standing a y) (stmt_standing b y) (made (λ z. Some z) (stmt_part a number y)) (made (λ z. Some z) (stmt_part b number y)) h_x (made_alike (λ z. Some z) (stmt_standing a y) (stmt_standing b y) (stmt_part a number y) (stmt_part b number y) h_y)));
      loop = λ s c x h_x. by_stmt (S.While c x) (form.While c x) (W.rolls-While c x) s (both_alike (λ v w. stated s (form.While v w)) (expr_standing a c) (expr_standing b c) (expr_part a number c) (expr_part b number c) (stmt_standing a x) (stmt_standing b x) (stmt_part a number x) (stmt_part b number x) (expr_alike c) h_x);
      returns = λ s e. by_stmt (S.Return e) (form.Return e) (W.rolls-Return e) s (made_alike (λ v. stated s (form.Return v)) (value_standing a e) (value_standing b e) (value_part a number e) (value_part b number e) (value_alike e));
      asserts = λ s e. by_stmt (S.Assert e) (form.Assert e) (W.rolls-Assert e) s (made_alike (λ v. stated s (form.Assert v)) (expr_standing a e) (expr_standing b e) (expr_part a number e) (expr_part b number e) (expr_alike e));
      assumes = λ s e. by_stmt (S.Assume e) (form.Assume e) (W.rolls-Assume e) s (made_alike (λ v. stated s (form.Assume v)) (expr_standing a e) (expr_standing b e) (expr_part a number e) (expr_part b number e) (expr_alike e));
      minimizes = λ s e. by_stmt (S.Minimize e) (form.Minimize e) (W.rolls-Minimize e) s (made_alike (λ v. stated s (form.Minimize v)) (expr_standing a e) (expr_standing b e) (expr_part a number e) (expr_part b number e) (expr_alike e));
      repeats = λ s c ss h_ss. by_stmt (S.Repeat c ss) (form.Repeat c ss) (W.rolls-Repeat c ss) s (repeat_alike s (is_hole c.form) ss h_ss);
      minrepeat = λ s ss h_ss. by_stmt (S.MinRepeat ss) (form.MinRepeat ss) (W.rolls-MinRepeat ss) s (made_alike (λ xs. stated s (form.Block xs)) (with_paid a s (by_value a first_of (map (stmt_standing a) ss))) (with_paid b s (by_value b first_of (map (stmt_standing b) ss))) (stmts_cut a ss) (stmts_cut b ss) (paid_alike s ss h_ss));
      reorder = λ s ss h_ss. by_stmt (S.Reorder ss) (form.Reorder ss) (W.rolls-Reorder ss) s (reorder_alike s ss h_ss);
    }

    stmt_alike : (s : PStmt) → AlikeStmt s
    stmt_alike = stmt_ind AlikeStmt stmt_cases

    each_alike : (ss : List PStmt) → Each AlikeStmt ss
    each_alike [] = tt
    each_alike (s ∷ ss) = (stmt_alike s, each_alike ss)

    body_alike : (ss : List PStmt) → Alike (body_standing a ss) (body_standing b ss) (stmts_turned a ss) (stmts_turned b ss)
    body_alike ss = stmts_alike ss (each_alike ss)

  -- Functions

  abbrev all_marks : List FunStanding → List Bool
  all_marks ss = joined (map (λ s. s.within.marks) ss)

  abbrev plain_number : ℕ → ℕ
  plain_number n = n

  part_same : (st : Bool) (ss : List PStmt) (i : ℕ) → Agrees ((part_if st (body_standing a ss)).at i).marks i → (part_if st (body_standing b ss)).at i ≡ (part_if st (body_standing a ss)).at i
  part_same true ss i h = ((body_alike plain_number ss).alike i h).0
  part_same false ss i h = ap (λ n. record { marks = replicate n false; called = []; paid = [] }) (body_alike plain_number ss).stand_count

  length-falses : (n : ℕ) → length (replicate n false) ≡ n
  length-falses zero = refl
  length-falses (suc n) = ap suc (length-falses n)

  part_marks : (st : Bool) (ss : List PStmt) (i : ℕ) → length ((part_if st (body_standing a ss)).at i).marks ≡ (body_standing a ss).count
  part_marks true ss i = (body_alike plain_number ss).marks i
  part_marks false ss i = length-falses (body_standing a ss).count

  module _ (ordinary : ℕ) where
    abbrev from : List ℕ → List ℕ → ℕ → ℕ → List Fun → List FunStanding
    from values called n i fs = standing_from values ordinary called n i fs

    standing_same : (called : List ℕ) (n i : ℕ) (fs : List Fun) → Agrees (all_marks (from a called n i fs)) i → from b called n i fs ≡ from a called n i fs
    standing_same called n i [] h = refl
    standing_same called n i (f ∷ fs) h =
        let st : Bool = nat_lt n ordinary || is_called called n in
        let s : FunStanding = fun_standing a ordinary st i f in
        let m : ℕ = (body_standing a f.body).count in
        let rest : List FunStanding = from a (called ++ s.within.called) (n + 1) (i + m) fs in
        let two = agrees_append s.within.marks (all_marks rest) i h in
        let one : fun_standing b ordinary st i f ≡ s = ap (λ (w : Standing). record { stands = st; within = w }) (part_same st f.body i two.0) in
        (λ j. one j ∷ from b (called ++ (one j).within.called) (n + 1) (i + (body_alike plain_number f.body).stand_count j) fs)
        ∙ ap (λ ss. s ∷ ss) (standing_same (called ++ s.within.called) (n + 1) (i + m) fs (subst (λ k. Agrees (all_marks rest) (i + k)) (part_marks st f.body i) two.1))

    module _ (number : ℕ → ℕ) (paid : List PStmt) where
      fill_step : (st : Bool) (bs : List Bool) (f : Fun) (fs : List Fun) (i : ℕ) → (IsTrue st → fill_stmts b number f.body i ≡ fill_stmts a number f.body i) → stmts_count b number f.body ≡ stmts_count a number f.body → fill_funs b number paid bs fs (i + stmts_count a number f.body) ≡ fill_funs a number paid bs fs (i + stmts_count a number f.body) → fill_funs b number paid (st ∷ bs) (f ∷ fs) i ≡ fill_funs a number paid (st ∷ bs) (f ∷ fs) i
      fill_step true bs f fs i same count rest = (λ j. with_body f (before_body f.kind paid ++ same refl j) ∷ fill_funs b number paid bs fs (i + count j)) ∙ ap (λ gs. fill_fun a number paid f i ∷ gs) rest
      fill_step false bs f fs i same count rest = (λ j. fill_funs b number paid bs fs (i + count j)) ∙ rest

      stands_marks : (st : Bool) (ss : List PStmt) (i : ℕ) → IsTrue st → Agrees ((part_if st (body_standing a ss)).at i).marks i → Agrees ((body_standing a ss).at i).marks i
      stands_marks true ss i is h = h
      stands_marks false ss i is h = absurd (false≢true is)

      fills_same : (called : List ℕ) (n i : ℕ) (fs : List Fun) → Agrees (all_marks (from a called n i fs)) i → fill_funs b number paid (funs_stand (from a called n i fs)) fs i ≡ fill_funs a number paid (funs_stand (from a called n i fs)) fs i
      fills_same called n i [] h = refl
      fills_same called n i (f ∷ fs) h =
          let st : Bool = nat_lt n ordinary || is_called called n in
          let s : FunStanding = fun_standing a ordinary st i f in
          let m : ℕ = (body_standing a f.body).count in
          let rest : List FunStanding = from a (called ++ s.within.called) (n + 1) (i + m) fs in
          let two = agrees_append s.within.marks (all_marks rest) i h in
          let alike = body_alike number f.body in
          let count : stmts_count a number f.body ≡ m = alike.fill_count in
          let more = fills_same (called ++ s.within.called) (n + 1) (i + m) fs (subst (λ k. Agrees (all_marks rest) (i + k)) (part_marks st f.body i) two.1) in
          fill_step st (funs_stand rest) f fs i
          (λ is. (alike.alike i (stands_marks st f.body i is two.0)).1)
          (alike.other_count ∙ sym alike.fill_count)
          (subst (λ k. fill_funs b number paid (funs_stand rest) fs (i + k) ≡ fill_funs a number paid (funs_stand rest) fs (i + k)) (sym count) more)

pub filled_by_what_stands : FilledByWhatStands
unfolding fill
filled_by_what_stands e a b h =
    let ss : List FunStanding = standing e a.values in
    let agrees : Agrees a.values b.values (sites_stand ss) 0 = agrees_from a.values b.values (sites_stand ss) 0 (λ k is. let z : k ≡ 0 + k = omega arith in subst (λ n. value a.values n ≡ value b.values n) z (h.agree k (record { stands = is }))) in
    let same : standing e b.values ≡ ss = standing_same a.values b.values e.ordinary [] 0 0 e.prog.funs agrees in
    sym (ap (fill_prog e.prog b.values) same ∙ ap (λ (fs : List Fun). record e.prog { funs = fs }) (fills_same a.values b.values e.ordinary (rank (funs_stand ss)) (map minimize_of (all_paid ss)) [] 0 0 e.prog.funs agrees))
