-- A run of a pruned program is a run of the program.
use Rattle.std.proofs.Common.{◌≡◌, ◌≤◌, inl, inr, ℕ, zero, suc, ◌+◌, fold, Bool, true, false, ◌||◌, List, [], ◌∷◌, ◌++◌, map, length, Some, None, refl, sym, ap, subst, ◌∙◌, arith}
use Rattle.std.specs.Prelude.{◌⊎◌, nat_le, IsTrue, Contains, slice_get, slice_index_or, option_map, count_by, cond, ◌==◌, nat_lt, if◌then◌else◌}
use Rattle.std.proofs.lemmas.Bool.{false≢true, eqb-true, eqb-false, leb-true, le-leb}
use Rattle.std.proofs.lemmas.List.{map-append, length-map}
use Rattle.std.proofs.lemmas.Option.{slice_get-map}
use Rattle.sk_base.specs.declared.span.Span.{Span}
use Rattle.sk_base.specs.declared.bounds.Bounds.{Bounds}
use Rattle.sk_prog.specs.declared.ids.FunId.{FunId}
use Rattle.sk_prog.specs.declared.value.Value.{Value}
use Rattle.sk_prog.specs.declared.prog.Fun.{Fun}
use Rattle.sk_prog.specs.declared.prog.Prog.{Prog}
use Rattle.sk_model.specs.Parts.{rank}
use Rattle.sk_model.specs.Step.{State, Comp, fail}
use Rattle.sk_model.specs.Eval.{Calls, Called, params_of}
use Rattle.sk_model.specs.Exec.{one_by_one, exec_all}
use Rattle.sk_model.specs.Run.{Bodies, in_frame, body_of, calls, most_calls, nowhere, start, outcome_of, filled_bodies, run}
use Rattle.sk_holes_laws.specs.Filling.{Every}
use Rattle.sk_holes_choice_laws.proofs.Matching.{Matches}
use Rattle.sk_holes_choice_laws.proofs.Twins.{TwinAt, Twins, twins_run}
use Rattle.sk_prune.specs.Called.{called}
use Rattle.sk_prune.specs.Renamed.{any_id, renamed}
use Rattle.sk_prune.specs.Stays.{Stays, AreMarks}
use Rattle.sk_prune.specs.Stays as stays
use Rattle.sk_prune.specs.Trimmed.{trimmed}
use Rattle.sk_prune.specs.Pruned.{trimmed_fun, trimmed_funs, renamed_fun, kept_funs}
use Rattle.sk_prune_laws.specs.Laws.{PrunedRuns, FunctionsStay}
use Rattle.sk_prune_laws.proofs.Trims.{trimmed_does}
use Rattle.sk_prune_laws.proofs.Renames.{renamed_do}

-- Numbers of functions

-- what is marked keeps its number apart
apart : (bs : List Bool) (n k : ℕ) → slice_index_or bs n false ≡ true → slice_index_or bs k false ≡ true → rank bs n ≡ rank bs k → n ≡ k
apart [] n k h g e = absurd (false≢true h)
apart (b ∷ bs) zero zero h g e = refl
apart (true ∷ bs) zero (suc k) h g e = absurd (omega (arith, e))
apart (false ∷ bs) zero (suc k) h g e = absurd (false≢true h)
apart (true ∷ bs) (suc n) zero h g e = absurd (omega (arith, e))
apart (false ∷ bs) (suc n) zero h g e = absurd (false≢true g)
apart (true ∷ bs) (suc n) (suc k) h g e = ap suc (apart bs n k h g (omega (arith, e)))
apart (false ∷ bs) (suc n) (suc k) h g e = ap suc (apart bs n k h g (omega (arith, e)))

same_test : (bs : List Bool) (n k : ℕ) → slice_index_or bs n false ≡ true → slice_index_or bs k false ≡ true → (n == k) ≡ (rank bs n == rank bs k)
same_test bs n k h g = go (n == k) (rank bs n == rank bs k) refl refl
  where
    go : (x y : Bool) → (n == k) ≡ x → (rank bs n == rank bs k) ≡ y → x ≡ y
    go true true p q = refl
    go false false p q = refl
    go true false p q = absurd (eqb-false (rank bs n) (rank bs k) q (ap (rank bs) (eqb-true n k p)))
    go false true p q = absurd (eqb-false n k p (apart bs n k h g (eqb-true (rank bs n) (rank bs k) q)))

same_fold : (bs : List Bool) (f n : ℕ) (gs : List ℕ) → slice_index_or bs f false ≡ true → Every (λ g. IsTrue (slice_index_or bs g false)) gs → fold (λ a g. a + cond (g == f) 1 0) n gs ≡ fold (λ a g. a + cond (g == rank bs f) 1 0) n (map (rank bs) gs)
same_fold bs f n [] h hs = refl
same_fold bs f n (g ∷ gs) h hs = ap (λ b. fold (λ a g. a + cond (g == f) 1 0) (n + cond b 1 0) gs) (same_test bs g f hs.0 h) ∙ same_fold bs f (n + cond (rank bs g == rank bs f) 1 0) gs h hs.1

same_count : (bs : List Bool) (f : ℕ) (gs : List ℕ) → slice_index_or bs f false ≡ true → Every (λ g. IsTrue (slice_index_or bs g false)) gs → count_by (λ g. g == f) gs ≡ count_by (λ g. g == rank bs f) (map (rank bs) gs)
same_count bs f gs h hs = same_fold bs f 0 gs h hs

every_more : {A : Type 0} (Q : A → Type 0) (xs : List A) (y : A) → Every Q xs → Q y → Every Q (xs ++ y ∷ [])
every_more Q [] y h k = (k, tt)
every_more Q (x ∷ xs) y h k = (h.0, every_more Q xs y h.1 k)

pub every_contained : {A : Type 0} (Q : A → Type 0) (xs : List A) → ((x : A) → Contains xs x → Q x) → Every Q xs
every_contained Q [] h = tt
every_contained Q (x ∷ xs) h = (h x (0, omega arith, refl), every_contained Q xs (λ y c. h y (suc c.0, (let less = c.1 in omega (arith, less)), c.2)))

-- Functions that are kept

abbrev kept_with : (Fun → Fun) → List Bool → List Fun → List Fun
kept_with F (true ∷ bs) (f ∷ fs) = F f ∷ kept_with F bs fs
kept_with F (false ∷ bs) (f ∷ fs) = kept_with F bs fs
kept_with F [] fs = []
kept_with F (b ∷ bs) [] = []

there : (bs : List Bool) (fs : List Fun) (n : ℕ) → length bs ≡ length fs → slice_index_or bs n false ≡ true → (f : Fun) × (slice_get fs n ≡ Some f)
there [] fs n e h = absurd (false≢true h)
there (b ∷ bs) [] n e h = absurd (omega (arith, e))
there (b ∷ bs) (f ∷ fs) zero e h = (f, refl)
there (b ∷ bs) (f ∷ fs) (suc n) e h = there bs fs n (omega (arith, e)) h

kept_there : (F : Fun → Fun) (bs : List Bool) (fs : List Fun) (n : ℕ) (f : Fun) → slice_get fs n ≡ Some f → slice_index_or bs n false ≡ true → slice_get (kept_with F bs fs) (rank bs n) ≡ Some (F f)
kept_there F bs [] n f h k = cc
kept_there F [] (g ∷ fs) n f h k = cc
kept_there F (true ∷ bs) (g ∷ fs) zero f h k = let d : g ≡ f = cc in ap (λ x. Some (F x)) d
kept_there F (false ∷ bs) (g ∷ fs) zero f h k = cc
kept_there F (true ∷ bs) (g ∷ fs) (suc n) f h k =
    let e : suc (rank bs n) ≡ 1 + rank bs n = omega arith in
    subst (λ m. slice_get (F g ∷ kept_with F bs fs) m ≡ Some (F f)) e (kept_there F bs fs n f h k)
kept_there F (false ∷ bs) (g ∷ fs) (suc n) f h k =
    let e : rank bs n ≡ 0 + rank bs n = omega arith in
    subst (λ m. slice_get (kept_with F bs fs) m ≡ Some (F f)) e (kept_there F bs fs n f h k)

get_past : (fs : List Fun) (n : ℕ) → length fs ≤ n → slice_get fs n ≡ None
get_past [] n h = refl
get_past (f ∷ fs) zero h = absurd (omega (arith, h))
get_past (f ∷ fs) (suc n) h = get_past fs n (omega (arith, h))

kept_past : (F : Fun → Fun) (bs : List Bool) (fs : List Fun) (n : ℕ) → length bs ≡ length fs → length fs ≤ n → slice_get (kept_with F bs fs) (rank bs n) ≡ None
kept_past F [] [] n e h = refl
kept_past F [] (f ∷ fs) n e h = absurd (omega (arith, e))
kept_past F (b ∷ bs) [] n e h = absurd (omega (arith, e))
kept_past F (b ∷ bs) (f ∷ fs) zero e h = absurd (omega (arith, h))
kept_past F (true ∷ bs) (f ∷ fs) (suc n) e h =
    let d : suc (rank bs n) ≡ 1 + rank bs n = omega arith in
    subst (λ m. slice_get (F f ∷ kept_with F bs fs) m ≡ None) d (kept_past F bs fs n (omega (arith, e)) (omega (arith, h)))
kept_past F (false ∷ bs) (f ∷ fs) (suc n) e h =
    let d : rank bs n ≡ 0 + rank bs n = omega arith in
    subst (λ m. slice_get (kept_with F bs fs) m ≡ None) d (kept_past F bs fs n (omega (arith, e)) (omega (arith, h)))

past_or_there : (fs : List Fun) (n : ℕ) → (nat_le (length fs) n ≡ true) ⊎ ((f : Fun) × (slice_get fs n ≡ Some f))
past_or_there [] n = inl (le-leb 0 n (omega arith))
past_or_there (f ∷ fs) zero = inr (f, refl)
past_or_there (f ∷ fs) (suc n) = go (past_or_there fs n)
  where
    go : (nat_le (length fs) n ≡ true) ⊎ ((g : Fun) × (slice_get fs n ≡ Some g)) → (nat_le (length (f ∷ fs)) (suc n) ≡ true) ⊎ ((g : Fun) × (slice_get (f ∷ fs) (suc n) ≡ Some g))
    go (inl h) = let k = leb-true (length fs) n h in inl (le-leb (suc (length fs)) (suc n) (omega (arith, k)))
    go (inr g) = inr g

either_of : {X : Type 0} (b c : Bool) → (b || c) ≡ true → (b ≡ true → X) → (c ≡ true → X) → X
either_of true c h f g = f refl
either_of false c h f g = g h

or_right : (a b : Bool) → b ≡ true → (a || b) ≡ true
or_right true b h = refl
or_right false b h = h

or_left : (a b : Bool) → a ≡ true → (a || b) ≡ true
or_left true b h = refl
or_left false b h = absurd (false≢true h)

always_fails : (b : Bool) (span : Span) (st : State) (c d : Comp Called) → c ≡ fail span → d ≡ fail span → (b' : Bool) → (if b then c else fail span) st ≡ (if b' then d else fail span) st
always_fails true span st c d h k true = λ i. (h ∙ sym k) i st
always_fails true span st c d h k false = λ i. h i st
always_fails false span st c d h k true = λ i. sym k i st
always_fails false span st c d h k false = refl

module _ (bounds : Bounds) (p : Prog) (marks : List Bool) (are : AreMarks (trimmed_funs p bounds.int_bits) marks) where
  abbrev width : ℕ
  width = bounds.int_bits

  abbrev number : ℕ → ℕ
  number = rank marks

  abbrev There : ℕ → Type 0
  There f = slice_index_or marks f false ≡ true

  abbrev Past : ℕ → Type 0
  Past f = nat_le (length p.funs) f ≡ true

  abbrev stands : ℕ → Bool
  stands f = slice_index_or marks f false || nat_le (length p.funs) f

  abbrev Stands : ℕ → Type 0
  Stands f = IsTrue (stands f)

  -- a function that is kept, with the slots that it had
  abbrev keep : Fun → Fun
  keep f = record f { implements = any_id number f.implements; body = renamed number (trimmed p.consts width f.body) }

  abbrev again : Prog
  again = record p { funs = kept_with keep marks p.funs }

  many : length marks ≡ length p.funs
  many = are.each ∙ length-map p.funs (trimmed_fun p.consts width)

  fun_there : (f : ℕ) → There f → (g : Fun) × (slice_get p.funs f ≡ Some g)
  fun_there f h = there marks p.funs f many h

  past_old : (f : ℕ) → Past f → slice_get p.funs f ≡ None
  past_old f h = get_past p.funs f (leb-true (length p.funs) f h)

  past_new : (f : ℕ) → Past f → slice_get again.funs (number f) ≡ None
  past_new f h = kept_past keep marks p.funs f many (leb-true (length p.funs) f h)

  kept_at : (f : ℕ) (g : Fun) → slice_get p.funs f ≡ Some g → There f → slice_get again.funs (number f) ≡ Some (keep g)
  kept_at f g e h = kept_there keep marks p.funs f g e h

  trimmed_at : (f : ℕ) (g : Fun) → slice_get p.funs f ≡ Some g → slice_get (trimmed_funs p width) f ≡ Some (trimmed_fun p.consts width g)
  trimmed_at f g e = slice_get-map (trimmed_fun p.consts width) p.funs f ∙ ap (option_map (trimmed_fun p.consts width)) e

  -- what a kept function calls is kept, or is not there
  calls_stand : (f : ℕ) (g : Fun) → slice_get p.funs f ≡ Some g → There f → Every Stands (called (trimmed p.consts width g.body))
  calls_stand f g e h = every_contained Stands (called (trimmed p.consts width g.body)) (λ n c. by_place n c (past_or_there p.funs n))
    where
      by_place : (n : ℕ) → Contains (called (trimmed p.consts width g.body)) n → (nat_le (length p.funs) n ≡ true) ⊎ ((x : Fun) × (slice_get p.funs n ≡ Some x)) → Stands n
      by_place n c (inl k) = or_right (slice_index_or marks n false) (nat_le (length p.funs) n) k
      by_place n c (inr x) =
          let stay = stays.Called f (trimmed_fun p.consts width g) (are.stay f h) (trimmed_at f g e) c in
          or_left (slice_index_or marks n false) (nat_le (length p.funs) n) (are.marked n (trimmed_fun p.consts width x.0) (trimmed_at n x.0 x.1) stay)

  same_params : (f : ℕ) → Stands f → params_of (slice_get p.funs f) ≡ params_of (slice_get again.funs (number f))
  same_params f h =
      either_of (slice_index_or marks f false) (nat_le (length p.funs) f) h
      (λ k. let g = fun_there f k in ap params_of g.1 ∙ ap params_of (sym (kept_at f g.0 g.1 k)))
      (λ k. ap params_of (past_old f k) ∙ ap params_of (sym (past_new f k)))

  matches : (call call' : Calls) → ((span : Span) (f : ℕ) (args : List Value) (s : State) → Stands f → call span f args s ≡ call' span (number f) args s) → Matches p again call call' stands number
  matches call call' h = record { structs = refl; consts = refl; params = same_params; calls = h }

  abbrev ob : Bodies
  ob = filled_bodies p bounds

  abbrev fb : Bodies
  fb = filled_bodies again bounds

  same_body : (call call' : Calls) (m : Matches p again call call' stands number) (f : ℕ) (g : Fun) → slice_get p.funs f ≡ Some g → There f → exec_all p bounds call g.body ≡ exec_all again bounds call' (keep g).body
  same_body call call' m f g e h =
      sym (trimmed_does p bounds call g.body)
      ∙ ap one_by_one (sym (renamed_do bounds stands number p again call call' m (trimmed p.consts width g.body) (calls_stand f g e h)))

  one_call : (call call' : Calls) (m : Matches p again call call' stands number) (f : ℕ) (span : Span) (args : List Value) → There f → body_of (ob call f) span (slice_get p.funs f) args ≡ body_of (fb call' (number f)) span (slice_get again.funs (number f)) args
  one_call call call' m f span args h =
      let g = fun_there f h in
      ap (λ o. body_of (ob call f) span o args) g.1
      ∙ ap (λ body. in_frame g.0 args body) (same_body call call' m f g.0 g.1 h)
      ∙ ap (λ o. body_of (fb call' (number f)) span o args) (sym (kept_at f g.0 g.1 h))

  abbrev Agrees : ℕ → List ℕ → Type 0
  Agrees left active = (span : Span) (f : ℕ) (args : List Value) (st : State) → Stands f → calls p bounds ob left active span f args st ≡ calls again bounds fb left (map number active) span (number f) args st

  call_there : (left : ℕ) (active : List ℕ) → Every There active → (span : Span) (f : ℕ) (args : List Value) (st : State) → There f → Agrees left (active ++ f ∷ []) → calls p bounds ob (suc left) active span f args st ≡ calls again bounds fb (suc left) (map number active) span (number f) args st
  unfolding calls
  call_there left active hs span f args st h rest =
      let count = same_count marks f active h hs in
      let call : Calls = calls p bounds ob left (active ++ f ∷ []) in
      let call' : Calls = calls again bounds fb left (map number active ++ number f ∷ []) in
      let inner : (span : Span) (f' : ℕ) (args : List Value) (s : State) → Stands f' → call span f' args s ≡ call' span (number f') args s =
      λ span f' args s h'. rest span f' args s h' ∙ ap (λ gs. calls again bounds fb left gs span (number f') args s) (map-append number active (f ∷ [])) in
      let body = one_call call call' (matches call call' inner) f span args h in
      ap (λ n. (if nat_lt n bounds.inline_amnt then body_of (ob call f) span (slice_get p.funs f) args else fail span) st) count
      ∙ ap (λ (c : Comp Called). (if nat_lt (count_by (λ g. g == number f) (map number active)) bounds.inline_amnt then c else fail span) st) body

  call_past : (left : ℕ) (active : List ℕ) (span : Span) (f : ℕ) (args : List Value) (st : State) → Past f → calls p bounds ob (suc left) active span f args st ≡ calls again bounds fb (suc left) (map number active) span (number f) args st
  unfolding calls
  call_past left active span f args st h =
      always_fails (nat_lt (count_by (λ g. g == f) active) bounds.inline_amnt) span st _ _
      (ap (λ o. body_of (ob (calls p bounds ob left (active ++ f ∷ [])) f) span o args) (past_old f h))
      (ap (λ o. body_of (fb (calls again bounds fb left (map number active ++ number f ∷ [])) (number f)) span o args) (past_new f h))
      (nat_lt (count_by (λ g. g == number f) (map number active)) bounds.inline_amnt)

  same_calls : (left : ℕ) (active : List ℕ) → Every There active → Agrees left active
  unfolding calls
  same_calls zero active hs span f args st h = refl
  same_calls (suc left) active hs span f args st h =
      either_of (slice_index_or marks f false) (nat_le (length p.funs) f) h
      (λ k. call_there left active hs span f args st k (same_calls left (active ++ f ∷ []) (every_more There active f hs k)))
      (λ k. call_past left active span f args st k)

  kept_runs : (f : FunId) (args : List Value) → There f.index → run p f args bounds ≡ run again (record { index = number f.index }) args bounds
  unfolding run
  kept_runs f args h = ap outcome_of (same_calls most_calls [] tt nowhere f.index args start (or_left (slice_index_or marks f.index false) (nat_le (length p.funs) f.index) h))

  abbrev made : Fun → Fun
  made f = renamed_fun number (trimmed_fun p.consts width f)

  -- the functions that are kept, with the slots that they need
  kept_as : (bs : List Bool) (fs : List Fun) → kept_funs number bs (map (trimmed_fun p.consts width) fs) ≡ kept_with made bs fs
  kept_as [] fs = refl
  kept_as (true ∷ bs) [] = refl
  kept_as (false ∷ bs) [] = refl
  kept_as (true ∷ bs) (f ∷ fs) = ap (λ gs. made f ∷ gs) (kept_as bs fs)
  kept_as (false ∷ bs) (f ∷ fs) = kept_as bs fs

  twin_at : (bs : List Bool) (fs : List Fun) (n : ℕ) → TwinAt (slice_get (kept_with keep bs fs) n) (slice_get (kept_with made bs fs) n)
  twin_at [] fs n = tt
  twin_at (true ∷ bs) [] n = tt
  twin_at (false ∷ bs) [] n = tt
  twin_at (true ∷ bs) (f ∷ fs) zero = record { params = refl; result = refl; body = refl }
  twin_at (true ∷ bs) (f ∷ fs) (suc n) = twin_at bs fs n
  twin_at (false ∷ bs) (f ∷ fs) n = twin_at bs fs n

  module _ (q : Prog) (structs : q.structs ≡ p.structs) (consts : q.consts ≡ p.consts) (funs : q.funs ≡ kept_funs number marks (trimmed_funs p width)) where
    funs_are : q.funs ≡ kept_with made marks p.funs
    funs_are = funs ∙ kept_as marks p.funs

    twins : Twins again q
    twins = record { structs = sym structs; consts = sym consts; funs = λ n. subst (λ gs. TwinAt (slice_get (kept_with keep marks p.funs) n) (slice_get gs n)) (sym funs_are) (twin_at marks p.funs n) }

    runs_are : (f : FunId) (args : List Value) → There f.index → run q (record { index = number f.index }) args bounds ≡ run p f args bounds
    runs_are f args h = sym (kept_runs f args h ∙ twins_run again q twins (record { index = number f.index }) args bounds)

    fun_is : (n : ℕ) (f : Fun) → slice_get p.funs n ≡ Some f → There n → slice_get q.funs (number n) ≡ Some (made f)
    fun_is n f e h = ap (λ gs. slice_get gs (number n)) funs_are ∙ kept_there made marks p.funs n f e h

  is_there : (n : ℕ) (f : Fun) → slice_get p.funs n ≡ Some f → Stays (trimmed_funs p width) n → There n
  is_there n f e s = are.marked n (trimmed_fun p.consts width f) (trimmed_at n f e) s

pub pruned_runs : PrunedRuns
pruned_runs bounds p q h f args s = let k = h.funs in runs_are bounds p k.marks k.are q h.structs h.consts k.is f args (is_there bounds p k.marks k.are f.index s.fun s.there s.stays)

pub functions_stay : FunctionsStay
functions_stay bounds p q h f s = let k = h.funs in fun_is bounds p k.marks k.are q h.structs h.consts k.is f.index s.fun s.there (is_there bounds p k.marks k.are f.index s.fun s.there s.stays)
