-- What calls become, by the copies that are being walked.
use Rattle.std.proofs.Common.{◌≡◌, ℕ, zero, suc, ◌+◌, ◌-◌, ◌<◌, ◌≤◌, List, [], ◌∷◌, ◌++◌, length, append-nil, length-append, refl, sym, ap, ◌∙◌, subst, arith, Some, None, Bool, true, false}
use Rattle.std.specs.Prelude.{slice_get, slice_set, slice_index_or, replicate, count_by, ◌==◌}
use Rattle.std.proofs.Math.Bool.{cond}
use Rattle.std.proofs.lemmas.Bool.Decides.{nat_tests}
use Rattle.std.proofs.lemmas.List.Sums.{sum_by-cons}
use Rattle.sk_base.specs.declared.span.Span.{Span}
use Rattle.sk_base.specs.declared.bounds.Bounds.{Bounds}
use Rattle.sk_prog.specs.declared.stmt.PStmt.{PStmt}
use Rattle.sk_prog.specs.declared.prog.Fun.{Fun}
use Rattle.sk_model.specs.Parts.{total, rank}
use Rattle.sk_model.specs.Nodes.{stmts_nodes, funs_nodes}
use Rattle.sk_model.specs.Expand.{Made, Walk, pure, copy_made, copy_of, stub, one_less, all_left, is_zero, is_generator, are_ordinary, ordinary_count, calls_walk, walk_stmts, first_calls}
use Rattle.sk_expand.specs.Made.{State, Goes, Stops, Adds, GivesCopies, Taken}
use Rattle.sk_expand.proofs.NodeLaws.{stub_nodes}
use Rattle.sk_expand.specs.declared.stop.Stop.{Stop}
use Rattle.sk_expand.specs.declared.stop.Stop.TheVariants.{TooLarge, NoMemory}
use Rattle.std.specs.Prelude.{Err}
use Rattle.sk_expand.specs.Nodes.{none}
use Rattle.sk_expand.specs.Walking.{spent, left_under, calls_under, nothing}

-- How many copies are left

total_less : (left : List ℕ) (f : ℕ) → 0 < slice_index_or left f 0 → total left ≡ suc (total (one_less left f))
total_less [] f h = absurd (omega arith)
total_less (n ∷ ns) zero h = omega arith
total_less (n ∷ ns) (suc f) h = omega (arith, total_less ns f h)

spent_more : (left fs : List ℕ) (f : ℕ) → spent left (fs ++ f ∷ []) ≡ one_less (spent left fs) f
spent_more left [] f = refl
spent_more left (g ∷ fs) f = spent_more (one_less left g) fs f

some_more : (m : ℕ) → is_zero m ≡ false → 0 < m
some_more zero h = cc
some_more (suc m) h = omega arith

-- What a call becomes

module _ (bounds : Bounds) (funs : List Fun) (active : List ℕ) (span : Span) (f k : ℕ) where
  abbrev left : List ℕ
  left = left_under bounds funs active

  none_by : (n : ℕ) → slice_get funs f ≡ None → calls_walk bounds funs n left span f k ≡ pure f k
  unfolding calls_walk
  none_by zero at = rw at refl
  none_by (suc n) at = rw at refl

  ordinary_by : (n : ℕ) (fun : Fun) → slice_get funs f ≡ Some fun → is_generator fun.kind ≡ false → calls_walk bounds funs n left span f k ≡ pure (rank (are_ordinary funs) f) k
  unfolding calls_walk
  ordinary_by zero fun at is = rw (at, is) refl
  ordinary_by (suc n) fun at is = rw (at, is) refl

  stub_by : (n : ℕ) (fun : Fun) → slice_get funs f ≡ Some fun → is_generator fun.kind ≡ true → is_zero (slice_index_or left f 0) ≡ true → calls_walk bounds funs n left span f k ≡ copy_made bounds funs fun k (pure (stub span) (k + 1))
  unfolding calls_walk
  stub_by zero fun at is full = rw (at, is, full) refl
  stub_by (suc n) fun at is full = rw (at, is, full) refl

  copy_by : (n : ℕ) (fun : Fun) → slice_get funs f ≡ Some fun → is_generator fun.kind ≡ true → is_zero (slice_index_or left f 0) ≡ false → calls_walk bounds funs (suc n) left span f k ≡ copy_made bounds funs fun k (walk_stmts bounds (calls_walk bounds funs n (one_less left f)) fun.body (k + 1))
  unfolding calls_walk
  copy_by n fun at is some = rw (at, is, some) refl

  pub call_none : slice_get funs f ≡ None → calls_under bounds funs active span f k ≡ pure f k
  unfolding calls_under
  call_none at = none_by (total left) at

  pub call_ordinary : (fun : Fun) → slice_get funs f ≡ Some fun → is_generator fun.kind ≡ false → calls_under bounds funs active span f k ≡ pure (rank (are_ordinary funs) f) k
  unfolding calls_under
  call_ordinary fun at is = ordinary_by (total left) fun at is

  pub call_stub : (fun : Fun) → slice_get funs f ≡ Some fun → is_generator fun.kind ≡ true → is_zero (slice_index_or left f 0) ≡ true → calls_under bounds funs active span f k ≡ copy_made bounds funs fun k (pure (stub span) (k + 1))
  unfolding calls_under
  call_stub fun at is full = stub_by (total left) fun at is full

  pub call_copy : (fun : Fun) → slice_get funs f ≡ Some fun → is_generator fun.kind ≡ true → is_zero (slice_index_or left f 0) ≡ false → calls_under bounds funs active span f k ≡ copy_made bounds funs fun k (walk_stmts bounds (calls_under bounds funs (active ++ f ∷ [])) fun.body (k + 1))
  unfolding calls_under
  call_copy fun at is some =
      let less = spent_more (all_left bounds funs) active f in
      let count : total left ≡ suc (total (one_less left f)) = total_less left f (some_more (slice_index_or left f 0) some) in
      rw (less, count) (copy_by (total (one_less left f)) fun at is some)

-- before any copy is walked
pub first_under : (bounds : Bounds) (funs : List Fun) → calls_under bounds funs [] ≡ first_calls bounds funs
unfolding calls_under
first_under bounds funs = refl

-- How many copies are being walked

less_same : (left : List ℕ) (f : ℕ) → slice_index_or (one_less left f) f 0 ≡ slice_index_or left f 0 - 1
less_same [] f = omega arith
less_same (n ∷ ns) zero = refl
less_same (n ∷ ns) (suc f) = less_same ns f

less_other : (left : List ℕ) (g f : ℕ) → (g ≡ f → ⊥) → slice_index_or (one_less left g) f 0 ≡ slice_index_or left f 0
less_other [] g f h = refl
less_other (n ∷ ns) zero zero h = absurd (h refl)
less_other (n ∷ ns) zero (suc f) h = refl
less_other (n ∷ ns) (suc g) zero h = refl
less_other (n ∷ ns) (suc g) (suc f) h = less_other ns g f (λ e. h (ap suc e))

less_by : (left : List ℕ) (g f : ℕ) (b : Bool) → (g == f) ≡ b → slice_index_or (one_less left g) f 0 ≡ slice_index_or left f 0 - cond b 1 0
less_by left g f true e =
    let same : g ≡ f = grind (arith, nat_tests, e) in
    rw same (less_same left f)
less_by left g f false e =
    let other : g ≡ f → ⊥ = grind (arith, nat_tests, e) in
    less_other left g f other ∙ omega arith

spent_count : (left fs : List ℕ) (f : ℕ) → slice_index_or (spent left fs) f 0 ≡ slice_index_or left f 0 - count_by (λ g. g == f) fs
spent_count left [] f = omega arith
spent_count left (g ∷ fs) f = omega (arith, spent_count (one_less left g) fs f, sum_by-cons (λ x. cond (x == f) 1 0) g fs, less_by left g f (g == f) refl)

all_allow : (n m f : ℕ) → f < n → slice_index_or (replicate n m) f 0 ≡ m
all_allow zero m f h = absurd (omega arith)
all_allow (suc n) m zero h = refl
all_allow (suc n) m (suc f) h = all_allow n m f (omega arith)

zero_yes : (n : ℕ) → n ≡ 0 → is_zero n ≡ true
zero_yes n e = rw e refl

zero_no : (n : ℕ) → 0 < n → is_zero n ≡ false
zero_no zero h = absurd (omega arith)
zero_no (suc n) h = refl

left_count : (bounds : Bounds) (funs : List Fun) (active : List ℕ) (f : ℕ) → f < length funs → slice_index_or (left_under bounds funs active) f 0 ≡ bounds.inline_amnt - count_by (λ g. g == f) active
left_count bounds funs active f h = spent_count (all_left bounds funs) active f ∙ ap (λ n. n - count_by (λ g. g == f) active) (all_allow (length funs) bounds.inline_amnt f h)

pub full_yes : (bounds : Bounds) (funs : List Fun) (active : List ℕ) (f : ℕ) → f < length funs → bounds.inline_amnt ≤ count_by (λ g. g == f) active → is_zero (slice_index_or (left_under bounds funs active) f 0) ≡ true
full_yes bounds funs active f h le = zero_yes _ (left_count bounds funs active f h ∙ omega arith)

pub full_no : (bounds : Bounds) (funs : List Fun) (active : List ℕ) (f : ℕ) → f < length funs → count_by (λ g. g == f) active < bounds.inline_amnt → is_zero (slice_index_or (left_under bounds funs active) f 0) ≡ false
full_no bounds funs active f h lt = zero_no _ (omega (arith, left_count bounds funs active f h))

pub ruleset full = (full_yes, full_no)

-- What the code makes of a call

-- a copy gets its body once the copies in it are made
pub set_back : {X : Type 0} (xs ys : List X) (old new : X) → slice_set ((xs ++ old ∷ []) ++ ys) (length xs) new ≡ xs ++ new ∷ ys
set_back [] ys old new = refl
set_back (x ∷ xs) ys old new = ap (λ zs. x ∷ zs) (set_back xs ys old new)

pub there : {X : Type 0} (xs : List X) (f : ℕ) (x : X) → slice_get xs f ≡ Some x → f < length xs
there [] f x at = cc
there (y ∷ ys) zero x at = omega arith
there (y ∷ ys) (suc f) x at = omega (arith, there ys f x at)

-- nothing is made
pub goes_none : (bounds : Bounds) (funs : List Fun) (active : List ℕ) (span : Span) (f : ℕ) (s : State) → slice_get funs f ≡ None → Goes none f s s (calls_under bounds funs active span f (length s.copies))
goes_none bounds funs active span f s at = rw (call_none bounds funs active span f (length s.copies) at) (record { made = refl; copies = sym (append-nil s.copies); room = omega arith })

pub goes_ordinary : (bounds : Bounds) (funs : List Fun) (active : List ℕ) (span : Span) (f n : ℕ) (fun : Fun) (s : State) → slice_get funs f ≡ Some fun → is_generator fun.kind ≡ false → n ≡ rank (are_ordinary funs) f → Goes none n s s (calls_under bounds funs active span f (length s.copies))
goes_ordinary bounds funs active span f n fun s at is e = rw (call_ordinary bounds funs active span f (length s.copies) fun at is) (record { made = e; copies = sym (append-nil s.copies); room = omega arith })

-- copies are made
goes_made : (m : Made ℕ) (number n : ℕ) (copies : List Fun) (s t : State) → m ≡ record { made = number; copies = copies } → n ≡ number → Adds s t copies → Goes none n s t m
goes_made m number n copies s t e en adds = rw e (record { made = en; copies = adds.copies; room = omega (arith, adds.room) })

stops_made : (m : Made ℕ) (number : ℕ) (copies : List Fun) (s t : State) (stop : Stop) → m ≡ record { made = number; copies = copies } → GivesCopies (Err stop) s t copies → Stops none stop s m
stops_made m number copies s t TooLarge e less =
    let c : m.copies ≡ copies = ap (λ m. m.copies) e in
    let l : s.room < funs_nodes m.copies = rw c less in
    omega (arith, l)
stops_made m number copies s t NoMemory e less = tt

module _ (bounds : Bounds) (funs : List Fun) (active : List ℕ) (span : Span) (f : ℕ) (fun : Fun) (s t : State) (at : slice_get funs f ≡ Some fun) (is : is_generator fun.kind ≡ true) (before : ℕ) (eb : before ≡ length s.copies) where
  abbrev copies_of : ℕ → List Fun
  copies_of k =
      let m = walk_stmts bounds (calls_under bounds funs (active ++ f ∷ [])) fun.body (k + 1) in
      copy_of fun (k + 1) m.made ∷ m.copies

  abbrev stubs_of : ℕ → List Fun
  stubs_of k = copy_of fun (k + 1) (stub span) ∷ []

  -- it has the number after those of the ordinary functions and of the copies before it
  module _ (o n : ℕ) (eo : o ≡ ordinary_count funs) (en : n ≡ o + before) where
    numbered : n ≡ ordinary_count funs + length s.copies
    numbered = omega (arith, en, eo, eb)

    pub goes_stub : is_zero (slice_index_or (left_under bounds funs active) f 0) ≡ true → Adds s t (stubs_of before) → Goes none n s t (calls_under bounds funs active span f (length s.copies))
    goes_stub full adds = goes_made _ _ n (stubs_of (length s.copies)) s t (call_stub bounds funs active span f (length s.copies) fun at is full) numbered (subst (λ k. Adds s t (stubs_of k)) eb adds)

    pub goes_copy : is_zero (slice_index_or (left_under bounds funs active) f 0) ≡ false → Adds s t (copies_of before) → Goes none n s t (calls_under bounds funs active span f (length s.copies))
    goes_copy some adds = goes_made _ _ n (copies_of (length s.copies)) s t (call_copy bounds funs active span f (length s.copies) fun at is some) numbered (subst (λ k. Adds s t (copies_of k)) eb adds)

  pub stops_copy : (stop : Stop) → is_zero (slice_index_or (left_under bounds funs active) f 0) ≡ false → GivesCopies (Err stop) s t (copies_of before) → Stops none stop s (calls_under bounds funs active span f (length s.copies))
  stops_copy stop some less = stops_made _ _ (copies_of (length s.copies)) s t stop (call_copy bounds funs active span f (length s.copies) fun at is some) (subst (λ k. GivesCopies (Err stop) s t (copies_of k)) eb less)

  pub stops_stub : (stop : Stop) → is_zero (slice_index_or (left_under bounds funs active) f 0) ≡ true → GivesCopies (Err stop) s t (stubs_of before) → Stops none stop s (calls_under bounds funs active span f (length s.copies))
  stops_stub stop full less = stops_made _ _ (stubs_of (length s.copies)) s t stop (call_stub bounds funs active span f (length s.copies) fun at is full) (subst (λ k. GivesCopies (Err stop) s t (stubs_of k)) eb less)

-- a copy past the bound has two nodes
pub stub_stops : (fun : Fun) (before : ℕ) (span : Span) (s t : State) (stop : Stop) → Taken (Err stop) 2 s t → GivesCopies (Err stop) s t (copy_of fun (before + 1) (stub span) ∷ [])
stub_stops fun before span s t TooLarge less = omega (arith, less, stub_nodes span)
stub_stops fun before span s t NoMemory less = tt

-- A copy stands before those that its body makes, though it is made after them.
pub copied_adds : (s p q t : State) (fun : Fun) (before : ℕ) (body : List PStmt) (w : Walk (List PStmt)) → before ≡ length s.copies → p ≡ record s { copies = s.copies ++ nothing ∷ [] } → Goes stmts_nodes body p q (w (length p.copies)) → t ≡ record q { copies = slice_set q.copies before (copy_of fun (before + 1) body) } → Adds s t (copy_of fun (before + 1) (w (before + 1)).made ∷ (w (before + 1)).copies)
copied_adds s p q t fun before body w eb ep goes et =
    let pc : p.copies ≡ s.copies ++ nothing ∷ [] = ap (λ r. r.copies) ep in
    let pr : p.room ≡ s.room = ap (λ r. r.room) ep in
    let tr : t.room ≡ q.room = ap (λ r. r.room) et in
    let tc : t.copies ≡ slice_set q.copies before (copy_of fun (before + 1) body) = ap (λ r. r.copies) et in
    let place : length p.copies ≡ before + 1 = ap length pc ∙ length-append s.copies (nothing ∷ []) ∙ ap (λ n. n + 1) (sym eb) in
    let g = rw place at goes in
    let m = w (before + 1) in
    let back : slice_set ((s.copies ++ nothing ∷ []) ++ m.copies) (length s.copies) (copy_of fun (before + 1) m.made) ≡ s.copies ++ copy_of fun (before + 1) m.made ∷ m.copies = set_back s.copies m.copies nothing (copy_of fun (before + 1) m.made) in
    let same : slice_set q.copies before (copy_of fun (before + 1) body) ≡ slice_set ((s.copies ++ nothing ∷ []) ++ m.copies) (length s.copies) (copy_of fun (before + 1) m.made) =
    ap (λ cs. slice_set cs before (copy_of fun (before + 1) body)) (g.copies ∙ ap (λ cs. cs ++ m.copies) pc) ∙ ap (λ n. slice_set ((s.copies ++ nothing ∷ []) ++ m.copies) n (copy_of fun (before + 1) body)) eb ∙ ap (λ b. slice_set ((s.copies ++ nothing ∷ []) ++ m.copies) (length s.copies) (copy_of fun (before + 1) b)) g.made in
    record {
      copies = tc ∙ same ∙ back;
      room = omega (arith, g.room, pr, tr);
    }

-- the copy has too many nodes if its body has
pub copied_stops : (s p : State) (fun : Fun) (before : ℕ) (w : Walk (List PStmt)) → before ≡ length s.copies → p ≡ record s { copies = s.copies ++ nothing ∷ [] } → Stops stmts_nodes TooLarge p (w (length p.copies)) → s.room < funs_nodes (copy_of fun (before + 1) (w (before + 1)).made ∷ (w (before + 1)).copies)
copied_stops s p fun before w eb ep less =
    let pc : p.copies ≡ s.copies ++ nothing ∷ [] = ap (λ r. r.copies) ep in
    let pr : p.room ≡ s.room = ap (λ r. r.room) ep in
    let place : length p.copies ≡ before + 1 = ap length pc ∙ length-append s.copies (nothing ∷ []) ∙ ap (λ n. n + 1) (sym eb) in
    let l = rw place at less in
    omega (arith, l, pr)

pub ruleset calling = (goes_none, goes_ordinary, there)
