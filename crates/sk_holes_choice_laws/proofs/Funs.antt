-- A run under a choice is a run of the filling in which each function keeps its slots.
use Rattle.std.proofs.Common.{◌≡◌, ℕ, zero, suc, ◌+◌, fold, Bool, true, false, ◌||◌, List, [], ◌∷◌, ◌++◌, map, length, Some, None, refl, sym, ap, subst, ◌∙◌, arith}
use Rattle.std.specs.Prelude.{◌≤◌, nat_le, IsTrue, slice_get, slice_index_or, count_by, cond, ◌==◌, nat_lt, if◌then◌else◌}
use Rattle.std.proofs.lemmas.Bool.{false≢true, eqb-true, eqb-false, leb-true}
use Rattle.std.proofs.lemmas.List.{map-append}
use Rattle.sk_base.specs.declared.span.Span.{Span}
use Rattle.sk_base.specs.declared.bounds.Bounds.{Bounds}
use Rattle.sk_prog.specs.declared.ty.Ty.TheVariants as ty
use Rattle.sk_prog.specs.declared.ty.Elem.TheVariants as elem
use Rattle.sk_prog.specs.declared.value.Value.{Value}
use Rattle.sk_prog.specs.declared.stmt.PStmt.{PStmt}
use Rattle.sk_prog.specs.declared.prog.Fun.{Fun}
use Rattle.sk_prog.specs.declared.prog.FunKind.{FunKind}
use Rattle.sk_prog.specs.declared.prog.FunKind.TheVariants as kind
use Rattle.sk_prog.specs.declared.prog.Prog.{Prog}
use Rattle.sk_model.specs.declared.expanded.Choice.{Choice}
use Rattle.sk_model.specs.declared.expanded.Expanded.{Expanded}
use Rattle.sk_model.specs.Parts.{in_turn, rank}
use Rattle.sk_model.specs.Stands.{Payment, standing_from, funs_stand, standing, all_paid, body_standing, is_called, fun_standing}
use Rattle.sk_model.specs.Fill.{minimize_of, before_body, stmt_part, stmts_count}
use Rattle.sk_model.specs.Step.{State, Comp, fail}
use Rattle.sk_model.specs.Eval.{Calls, Called, params_of}
use Rattle.sk_model.specs.Exec.{one_by_one, minimize, exec_stmt, exec_all}
use Rattle.sk_model.specs.Run.{Bodies, in_frame, body_of, calls, most_calls, nowhere, start, outcome_of, filled_bodies, run}
use Rattle.sk_model.specs.Open.{sites_before, open_body, open_bodies, run_open}
use Rattle.sk_model.proofs.Forms.{does_number, exec_minimize}
use Rattle.sk_holes_laws.specs.Filling.{Every}
use Rattle.sk_holes_choice_laws.proofs.Matching.{Matches}
use Rattle.sk_holes_choice_laws.proofs.Keeping.{marks_of, is_standing, may_call, new_number, keep_fun, keep_funs, kept_filling, place_in, AreReady, RunsAreKept}
use Rattle.sk_holes_choice_laws.proofs.Does.{same_does}
use Rattle.sk_holes_choice_laws.proofs.Stmts.{rows_same, rows_sized}

-- Numbers of functions

-- what stands keeps its number apart
apart : (bs : List Bool) (n k : ℕ) → slice_index_or bs n false ≡ true → slice_index_or bs k false ≡ true → rank bs n ≡ rank bs k → n ≡ k
apart [] n k h g e = absurd (false≢true h)
apart (b ∷ bs) zero zero h g e = refl
apart (true ∷ bs) zero (suc k) h g e = absurd (omega (arith, e))
apart (false ∷ bs) zero (suc k) h g e = absurd (false≢true h)
apart (true ∷ bs) (suc n) zero h g e = absurd (omega (arith, e))
apart (false ∷ bs) (suc n) zero h g e = absurd (false≢true g)
apart (true ∷ bs) (suc n) (suc k) h g e = ap suc (apart bs n k h g (omega (arith, e)))
apart (false ∷ bs) (suc n) (suc k) h g e = ap suc (apart bs n k h g (omega (arith, e)))

same_test : (bs : List Bool) (n k : ℕ) → slice_index_or bs n false ≡ true → slice_index_or bs k false ≡ true → (n == k) ≡ (rank bs n == rank bs k)
same_test bs n k h g = go (n == k) (rank bs n == rank bs k) refl refl
  where
    go : (x y : Bool) → (n == k) ≡ x → (rank bs n == rank bs k) ≡ y → x ≡ y
    go true true p q = refl
    go false false p q = refl
    go true false p q = absurd (eqb-false (rank bs n) (rank bs k) q (ap (rank bs) (eqb-true n k p)))
    go false true p q = absurd (eqb-false n k p (apart bs n k h g (eqb-true (rank bs n) (rank bs k) q)))

same_fold : (bs : List Bool) (f n : ℕ) (gs : List ℕ) → slice_index_or bs f false ≡ true → Every (λ g. IsTrue (slice_index_or bs g false)) gs → fold (λ a g. a + cond (g == f) 1 0) n gs ≡ fold (λ a g. a + cond (g == rank bs f) 1 0) n (map (rank bs) gs)
same_fold bs f n [] h hs = refl
same_fold bs f n (g ∷ gs) h hs = ap (λ b. fold (λ a g. a + cond (g == f) 1 0) (n + cond b 1 0) gs) (same_test bs g f hs.0 h) ∙ same_fold bs f (n + cond (rank bs g == rank bs f) 1 0) gs h hs.1

same_count : (bs : List Bool) (f : ℕ) (gs : List ℕ) → slice_index_or bs f false ≡ true → Every (λ g. IsTrue (slice_index_or bs g false)) gs → count_by (λ g. g == f) gs ≡ count_by (λ g. g == rank bs f) (map (rank bs) gs)
same_count bs f gs h hs = same_fold bs f 0 gs h hs

every_more : {A : Type 0} (Q : A → Type 0) (xs : List A) (y : A) → Every Q xs → Q y → Every Q (xs ++ y ∷ [])
every_more Q [] y h k = (k, tt)
every_more Q (x ∷ xs) y h k = (h.0, every_more Q xs y h.1 k)

-- Functions that stand

-- as many marks as functions
as_many : (values : List ℕ) (ordinary : ℕ) (called : List ℕ) (n i : ℕ) (fs : List Fun) → length (funs_stand (standing_from values ordinary called n i fs)) ≡ length fs
as_many values ordinary called n i [] = refl
as_many values ordinary called n i (f ∷ fs) = ap suc (as_many values ordinary (called ++ ((fun_standing values ordinary (nat_lt n ordinary || is_called called n) i f).within).called) (n + 1) (i + (body_standing values f.body).count) fs)

there : (bs : List Bool) (fs : List Fun) (n : ℕ) → length bs ≡ length fs → slice_index_or bs n false ≡ true → (f : Fun) × (slice_get fs n ≡ Some f)
there [] fs n e h = absurd (false≢true h)
there (b ∷ bs) [] n e h = absurd (omega (arith, e))
there (b ∷ bs) (f ∷ fs) zero e h = (f, refl)
there (b ∷ bs) (f ∷ fs) (suc n) e h = there bs fs n (omega (arith, e)) h

kept_there : (values : List ℕ) (number : ℕ → ℕ) (paid : List PStmt) (bs : List Bool) (fs : List Fun) (i n : ℕ) (f : Fun) → slice_get fs n ≡ Some f → slice_index_or bs n false ≡ true → slice_get (keep_funs values number paid bs fs i) (rank bs n) ≡ Some (keep_fun values number paid f (i + place_in values number fs n))
kept_there values number paid bs [] i n f h k = cc
kept_there values number paid [] (g ∷ fs) i n f h k = cc
kept_there values number paid (true ∷ bs) (g ∷ fs) i zero f h k =
    let e : i ≡ i + 0 = omega arith in
    let d : g ≡ f = cc in
    λ j. Some (keep_fun values number paid (d j) (e j))
kept_there values number paid (false ∷ bs) (g ∷ fs) i zero f h k = cc
kept_there values number paid (true ∷ bs) (g ∷ fs) i (suc n) f h k =
    let c = stmts_count values number g.body in
    let e : suc (rank bs n) ≡ 1 + rank bs n = omega arith in
    let d : i + c + place_in values number fs n ≡ i + (c + place_in values number fs n) = omega arith in
    subst (λ m. slice_get (keep_fun values number paid g i ∷ keep_funs values number paid bs fs (i + c)) m ≡ Some (keep_fun values number paid f (i + (c + place_in values number fs n)))) e
    (kept_there values number paid bs fs (i + c) n f h k ∙ ap (λ m. Some (keep_fun values number paid f m)) d)
kept_there values number paid (false ∷ bs) (g ∷ fs) i (suc n) f h k =
    let c = stmts_count values number g.body in
    let e : rank bs n ≡ 0 + rank bs n = omega arith in
    let d : i + c + place_in values number fs n ≡ i + (c + place_in values number fs n) = omega arith in
    subst (λ m. slice_get (keep_funs values number paid bs fs (i + c)) m ≡ Some (keep_fun values number paid f (i + (c + place_in values number fs n)))) e
    (kept_there values number paid bs fs (i + c) n f h k ∙ ap (λ m. Some (keep_fun values number paid f m)) d)

get_past : (fs : List Fun) (n : ℕ) → length fs ≤ n → slice_get fs n ≡ None
get_past [] n h = refl
get_past (f ∷ fs) zero h = absurd (omega (arith, h))
get_past (f ∷ fs) (suc n) h = get_past fs n (omega (arith, h))

kept_past : (values : List ℕ) (number : ℕ → ℕ) (paid : List PStmt) (bs : List Bool) (fs : List Fun) (i n : ℕ) → length bs ≡ length fs → length fs ≤ n → slice_get (keep_funs values number paid bs fs i) (rank bs n) ≡ None
kept_past values number paid [] [] i n e h = refl
kept_past values number paid [] (f ∷ fs) i n e h = absurd (omega (arith, e))
kept_past values number paid (true ∷ bs) [] i n e h = absurd (omega (arith, e))
kept_past values number paid (false ∷ bs) [] i n e h = absurd (omega (arith, e))
kept_past values number paid (b ∷ bs) (f ∷ fs) i zero e h = absurd (omega (arith, h))
kept_past values number paid (true ∷ bs) (f ∷ fs) i (suc n) e h =
    let d : suc (rank bs n) ≡ 1 + rank bs n = omega arith in
    let c = stmts_count values number f.body in
    subst (λ m. slice_get (keep_fun values number paid f i ∷ keep_funs values number paid bs fs (i + c)) m ≡ None) d (kept_past values number paid bs fs (i + c) n (omega (arith, e)) (omega (arith, h)))
kept_past values number paid (false ∷ bs) (f ∷ fs) i (suc n) e h =
    let d : rank bs n ≡ 0 + rank bs n = omega arith in
    let c = stmts_count values number f.body in
    subst (λ m. slice_get (keep_funs values number paid bs fs (i + c)) m ≡ None) d (kept_past values number paid bs fs (i + c) n (omega (arith, e)) (omega (arith, h)))

either_of : {X : Type 0} (b c : Bool) → (b || c) ≡ true → (b ≡ true → X) → (c ≡ true → X) → X
either_of true c h f g = f refl
either_of false c h f g = g h

always_fails : (b : Bool) (span : Span) (st : State) (c d : Comp Called) → c ≡ fail span → d ≡ fail span → (b' : Bool) → (if b then c else fail span) st ≡ (if b' then d else fail span) st
always_fails true span st c d h k true = λ i. (h ∙ sym k) i st
always_fails true span st c d h k false = λ i. h i st
always_fails false span st c d h k true = λ i. sym k i st
always_fails false span st c d h k false = refl

module _ (bounds : Bounds) (e : Expanded) (a : Choice) (ready : AreReady bounds e a.values) where
  abbrev values : List ℕ
  values = a.values

  abbrev number : ℕ → ℕ
  number = new_number e a.values

  abbrev stands : ℕ → Bool
  stands = may_call e a.values

  abbrev Stands : ℕ → Type 0
  Stands f = IsTrue (stands f)

  abbrev There : ℕ → Type 0
  There f = IsTrue (is_standing e a.values f)

  abbrev Past : ℕ → Type 0
  Past f = IsTrue (nat_le (length e.prog.funs) f)

  abbrev paid : List PStmt
  paid = map minimize_of (all_paid (standing e a.values))

  abbrev again : Prog
  again = kept_filling e a

  many : length (marks_of e a.values) ≡ length e.prog.funs
  many = as_many a.values e.ordinary [] 0 0 e.prog.funs

  fun_there : (f : ℕ) → There f → (g : Fun) × (slice_get e.prog.funs f ≡ Some g)
  fun_there f h = there (marks_of e a.values) e.prog.funs f many h

  past_old : (f : ℕ) → Past f → slice_get e.prog.funs f ≡ None
  past_old f h = get_past e.prog.funs f (leb-true (length e.prog.funs) f h)

  past_new : (f : ℕ) → Past f → slice_get again.funs (number f) ≡ None
  past_new f h = kept_past values number paid (marks_of e a.values) e.prog.funs 0 f many (leb-true (length e.prog.funs) f h)

  kept_at : (f : ℕ) (g : Fun) → slice_get e.prog.funs f ≡ Some g → There f → slice_get again.funs (number f) ≡ Some (keep_fun values number paid g (place_in values number e.prog.funs f))
  kept_at f g is h = kept_there values number paid (marks_of e a.values) e.prog.funs 0 f g is h ∙ ap (λ m. Some (keep_fun values number paid g m)) (let d : 0 + place_in values number e.prog.funs f ≡ place_in values number e.prog.funs f = omega arith in d)

  same_params : (f : ℕ) → Stands f → params_of (slice_get e.prog.funs f) ≡ params_of (slice_get again.funs (number f))
  same_params f h =
      either_of (is_standing e a.values f) (nat_le (length e.prog.funs) f) h
      (λ k. let g = fun_there f k in ap params_of g.1 ∙ ap params_of (sym (kept_at f g.0 g.1 k)))
      (λ k. ap params_of (past_old f k) ∙ ap params_of (sym (past_new f k)))

  matches : (call call' : Calls) → ((span : Span) (f : ℕ) (args : List Value) (s : State) → Stands f → call span f args s ≡ call' span (number f) args s) → Matches e.prog again call call' stands number
  matches call call' h = record { structs = refl; consts = refl; params = same_params; calls = h }

  module _ (call call' : Calls) (m : Matches e.prog again call call' stands number) where
    -- what is paid
    pays : (p : Payment) → exec_stmt e.prog bounds call (minimize_of p) ≡ exec_stmt again bounds call' (minimize_of p)
    pays p = λ j st.
        (exec_minimize e.prog bounds call p.span _ st
        ∙ ap (λ d. minimize p.span d st) (does_number e.prog bounds.int_bits call p.span (Some (ty.One elem.Int)) p.amount ∙ same_does _ _ (λ span. refl) (λ span. refl) ∙ sym (does_number again bounds.int_bits call' p.span (Some (ty.One elem.Int)) p.amount))
        ∙ sym (exec_minimize again bounds call' p.span _ st)) j

    all_pay : (ps : List Payment) → map (exec_stmt e.prog bounds call) (map minimize_of ps) ≡ map (exec_stmt again bounds call') (map minimize_of ps)
    all_pay [] = refl
    all_pay (p ∷ ps) = λ j. pays p j ∷ all_pay ps j

    before : (k : FunKind) → map (exec_stmt e.prog bounds call) (before_body k paid) ≡ map (exec_stmt again bounds call') (before_body k paid)
    before kind.Harness = all_pay (all_paid (standing e a.values))
    before kind.Plain = refl
    before kind.Generator = refl

    same_places : (fs : List Fun) (n : ℕ) → sites_before e.prog bounds values call fs n ≡ place_in values number fs n
    same_places fs zero = refl
    same_places [] (suc n) = refl
    same_places (f ∷ fs) (suc n) = λ j. rows_sized bounds values stands number e.prog again call call' m f.body j + same_places fs n j

    same_body : (f : ℕ) (g : Fun) → slice_get e.prog.funs f ≡ Some g → There f → open_body e.prog bounds values call paid g (sites_before e.prog bounds values call e.prog.funs f) ≡ exec_all again bounds call' (keep_fun values number paid g (place_in values number e.prog.funs f)).body
    same_body f g is h =
        let i = place_in values number e.prog.funs f in
        let moved = ap (λ n. open_body e.prog bounds values call paid g n) (same_places e.prog.funs f) in
        let rows = rows_same bounds values stands number e.prog again call call' m g.body i (ready f g is h) in
        let b = before g.kind in
        moved ∙ (λ j. one_by_one (b j ++ rows j)) ∙ ap one_by_one (sym (map-append (exec_stmt again bounds call') (before_body g.kind paid) (in_turn (map (stmt_part values number) g.body) i)))

  abbrev ob : Bodies
  ob = open_bodies e a bounds

  abbrev fb : Bodies
  fb = filled_bodies again bounds

  one_call : (call call' : Calls) (m : Matches e.prog again call call' stands number) (f : ℕ) (span : Span) (args : List Value) → There f → body_of (ob call f) span (slice_get e.prog.funs f) args ≡ body_of (fb call' (number f)) span (slice_get again.funs (number f)) args
  one_call call call' m f span args h =
      let g = fun_there f h in
      ap (λ o. body_of (ob call f) span o args) g.1
      ∙ ap (λ body. in_frame g.0 args body) (same_body call call' m f g.0 g.1 h)
      ∙ ap (λ o. body_of (fb call' (number f)) span o args) (sym (kept_at f g.0 g.1 h))

  abbrev Agrees : ℕ → List ℕ → Type 0
  Agrees left active = (span : Span) (f : ℕ) (args : List Value) (st : State) → Stands f → calls e.prog bounds ob left active span f args st ≡ calls again bounds fb left (map number active) span (number f) args st

  call_there : (left : ℕ) (active : List ℕ) → Every There active → (span : Span) (f : ℕ) (args : List Value) (st : State) → There f → Agrees left (active ++ f ∷ []) → calls e.prog bounds ob (suc left) active span f args st ≡ calls again bounds fb (suc left) (map number active) span (number f) args st
  unfolding calls
  call_there left active hs span f args st h rest =
      let count = same_count (marks_of e a.values) f active h hs in
      let call : Calls = calls e.prog bounds ob left (active ++ f ∷ []) in
      let call' : Calls = calls again bounds fb left (map number active ++ number f ∷ []) in
      let inner : (span : Span) (f' : ℕ) (args : List Value) (s : State) → Stands f' → call span f' args s ≡ call' span (number f') args s =
      λ span f' args s h'. rest span f' args s h' ∙ ap (λ gs. calls again bounds fb left gs span (number f') args s) (map-append number active (f ∷ [])) in
      let body = one_call call call' (matches call call' inner) f span args h in
      ap (λ n. (if nat_lt n bounds.inline_amnt then body_of (ob call f) span (slice_get e.prog.funs f) args else fail span) st) count
      ∙ ap (λ (c : Comp Called). (if nat_lt (count_by (λ g. g == number f) (map number active)) bounds.inline_amnt then c else fail span) st) body

  call_past : (left : ℕ) (active : List ℕ) (span : Span) (f : ℕ) (args : List Value) (st : State) → Past f → calls e.prog bounds ob (suc left) active span f args st ≡ calls again bounds fb (suc left) (map number active) span (number f) args st
  unfolding calls
  call_past left active span f args st h =
      always_fails (nat_lt (count_by (λ g. g == f) active) bounds.inline_amnt) span st _ _
      (ap (λ o. body_of (ob (calls e.prog bounds ob left (active ++ f ∷ [])) f) span o args) (past_old f h))
      (ap (λ o. body_of (fb (calls again bounds fb left (map number active ++ number f ∷ [])) (number f)) span o args) (past_new f h))
      (nat_lt (count_by (λ g. g == number f) (map number active)) bounds.inline_amnt)

  same_calls : (left : ℕ) (active : List ℕ) → Every There active → Agrees left active
  unfolding calls
  same_calls zero active hs span f args st h = refl
  same_calls (suc left) active hs span f args st h =
      either_of (is_standing e a.values f) (nat_le (length e.prog.funs) f) h
      (λ k. call_there left active hs span f args st k (same_calls left (active ++ f ∷ []) (every_more There active f hs k)))
      (λ k. call_past left active span f args st k)

or_first : (b c : Bool) → b ≡ true → (b || c) ≡ true
or_first true c h = refl
or_first false c h = absurd (false≢true h)

pub runs_are_kept : RunsAreKept
unfolding run run_open
runs_are_kept bounds e a ready f args h = ap outcome_of (same_calls bounds e a ready most_calls [] tt nowhere f.index args start (or_first (is_standing e a.values f.index) (nat_le (length e.prog.funs) f.index) h))
