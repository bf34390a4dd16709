-- Each copy that a walk makes is one of a generator, with the number of its place.
use Rattle.std.proofs.Common.{◌≡◌, ℕ, zero, suc, ◌+◌, ◌≤◌, Bool, true, false, List, [], ◌∷◌, ◌++◌, length, Option, Some, None, refl, sym, ap, ◌∙◌, subst, arith, inl, inr}
use Rattle.std.specs.Prelude.{slice_get, slice_index_or, if◌then◌else◌}
use Rattle.sk_base.specs.declared.span.Span.{Span}
use Rattle.sk_base.specs.declared.bounds.Bounds.{Bounds}
use Rattle.sk_prog.specs.declared.prog.Fun.{Fun}
use Rattle.sk_model.specs.Parts.{total, rank}
use Rattle.sk_model.specs.Expand.{pure, CallWalk, is_generator, is_zero, are_ordinary, stub, one_less, copied, call_of, calls_walk, all_left, first_calls, walk_stmts, walk_fun, walk_funs}
use Rattle.sk_expand_laws.specs.Copies.{Standing, AreCopies, CopiesAreNumbered}
use Rattle.sk_expand_laws.proofs.Walks.{Closed, standing_parts, next_is, stmts_hold}

-- How many copies may be walked

none_left : (left : List ℕ) (f : ℕ) → total left ≤ 0 → is_zero (slice_index_or left f 0) ≡ true
none_left [] f h = refl
none_left (zero ∷ ns) zero h = refl
none_left (suc n ∷ ns) zero h = absurd (omega (arith, h))
none_left (n ∷ ns) (suc f) h = none_left ns f (omega (arith, h))

total_less : (left : List ℕ) (f : ℕ) → is_zero (slice_index_or left f 0) ≡ false → total left ≡ suc (total (one_less left f))
total_less [] f h = cc
total_less (zero ∷ ns) zero h = cc
total_less (suc n ∷ ns) zero h = omega arith
total_less (n ∷ ns) (suc f) h = omega (arith, total_less ns f h)

pub one_fewer : (left : List ℕ) (f n : ℕ) → total left ≤ suc n → is_zero (slice_index_or left f 0) ≡ false → total (one_less left f) ≤ n
one_fewer left f n h is = omega (arith, h, total_less left f is)

module _ (bounds : Bounds) (funs all : List Fun) where
  abbrev Numbered : ℕ → List Fun → Type 0
  Numbered k cs = Standing all k cs → AreCopies bounds funs all k cs

  join : (k : ℕ) (xs ys : List Fun) → AreCopies bounds funs all k xs → AreCopies bounds funs all (k + length xs) ys → AreCopies bounds funs all k (xs ++ ys)
  join k [] ys a b = let e : k + 0 ≡ k = omega arith in subst (λ n. AreCopies bounds funs all n ys) e b
  join k (x ∷ xs) ys a b = (a.0, join (k + 1) xs ys a.1 (subst (λ n. AreCopies bounds funs all n ys) (sym (next_is k (length xs))) b))

  pub closed : Closed Numbered
  closed = record {
    none = λ k s. tt;
    more = λ k xs ys a b s. let p = standing_parts all k xs ys s in join k xs ys (a p.0) (b p.1);
  }

  abbrev Calls : CallWalk → Type 0
  Calls call = (s : Span) (f k : ℕ) → Numbered k (call s f k).copies

  stubbed : (f k : ℕ) (fun : Fun) (s : Span) → slice_get funs f ≡ Some fun → is_generator fun.kind ≡ true → Numbered k (copied bounds funs fun (pure (stub s)) k).copies
  stubbed f k fun s at is st = (record { place = f; generator = fun; there = at; kind = is; body = stub s; is = refl; made = inl (s, refl) }, tt)

  walked_copy : (n : ℕ) (left : List ℕ) (f k : ℕ) (fun : Fun) → total left ≤ n → Calls (calls_walk bounds funs n left) → slice_get funs f ≡ Some fun → is_generator fun.kind ≡ true → Numbered k (copied bounds funs fun (walk_stmts bounds (calls_walk bounds funs n left) fun.body) k).copies
  walked_copy n left f k fun h calls at is st = (
    record { place = f; generator = fun; there = at; kind = is; body = (walk_stmts bounds (calls_walk bounds funs n left) fun.body (k + 1)).made; is = refl; made = inr (record { fuel = n; left = left; enough = h; made = refl; copies = st.1 }) },
    stmts_hold Numbered closed bounds (calls_walk bounds funs n left) calls fun.body (k + 1) st.1,
  )

  called : (inner : CallWalk) (left : List ℕ) (s : Span) (f k : ℕ) (o : Option Fun) → slice_get funs f ≡ o
      → ((fun : Fun) → slice_get funs f ≡ Some fun → is_generator fun.kind ≡ true → is_zero (slice_index_or left f 0) ≡ false → Numbered k (copied bounds funs fun (walk_stmts bounds inner fun.body) k).copies)
      → Numbered k (call_of bounds funs inner left s f o k).copies
  called inner left s f k None at more = λ st. tt
  called inner left s f k (Some fun) at more = by_kind (is_generator fun.kind) refl
    where
      by_zero : (b : Bool) → is_zero (slice_index_or left f 0) ≡ b → is_generator fun.kind ≡ true → Numbered k ((if b then copied bounds funs fun (pure (stub s)) else copied bounds funs fun (walk_stmts bounds inner fun.body)) k).copies
      by_zero true z is = stubbed f k fun s at is
      by_zero false z is = more fun at is z

      by_kind : (b : Bool) → is_generator fun.kind ≡ b → Numbered k ((if b then (if is_zero (slice_index_or left f 0) then copied bounds funs fun (pure (stub s)) else copied bounds funs fun (walk_stmts bounds inner fun.body)) else pure (rank (are_ordinary funs) f)) k).copies
      by_kind true is = by_zero (is_zero (slice_index_or left f 0)) refl is
      by_kind false is = λ st. tt

  pub calls_numbered : (n : ℕ) (left : List ℕ) → total left ≤ n → Calls (calls_walk bounds funs n left)
  unfolding calls_walk
  calls_numbered zero left h s f k = called (λ inner_span g. pure g) left s f k (slice_get funs f) refl (λ fun at is z. let e = sym (none_left left f h) ∙ z in cc)
  calls_numbered (suc n) left h s f k = called (calls_walk bounds funs n (one_less left f)) left s f k (slice_get funs f) refl
      (λ fun at is z. let less = one_fewer left f n h z in walked_copy n (one_less left f) f k fun less (calls_numbered n (one_less left f) less) at is)

  pub first_numbered : Calls (first_calls bounds funs)
  first_numbered = calls_numbered (total (all_left bounds funs)) (all_left bounds funs) (omega arith)

  pub funs_numbered : (fs : List Fun) (k : ℕ) → Numbered k (walk_funs bounds funs fs k).copies
  funs_numbered [] k = λ st. tt
  funs_numbered (f ∷ fs) k = by_kind (is_generator f.kind) (λ j. funs_numbered fs j)
    where
      by_kind : (b : Bool) → ((j : ℕ) → Numbered j (walk_funs bounds funs fs j).copies) → Numbered k ((if b then walk_funs bounds funs fs else walk_fun bounds funs f (walk_funs bounds funs fs)) k).copies
      by_kind true rest = rest k
      by_kind false rest =
          let m = walk_stmts bounds (first_calls bounds funs) f.body k in
          closed.more k m.copies (walk_funs bounds funs fs (k + length m.copies)).copies (stmts_hold Numbered closed bounds (first_calls bounds funs) first_numbered f.body k) (rest (k + length m.copies))

get_append : {X : Type 0} (xs ys : List X) (x : X) → slice_get (xs ++ (x ∷ ys)) (length xs) ≡ Some x
get_append [] ys x = refl
get_append (z ∷ xs) ys x = get_append xs ys x

one_over : {X : Type 0} (xs ys : List X) (y : X) → xs ++ (y ∷ ys) ≡ (xs ++ (y ∷ [])) ++ ys
one_over [] ys y = refl
one_over (x ∷ xs) ys y = ap (λ rest. x ∷ rest) (one_over xs ys y)

one_longer : {X : Type 0} (xs : List X) (y : X) → length xs + 1 ≡ length (xs ++ (y ∷ []))
one_longer [] y = refl
one_longer (x ∷ xs) y = omega (arith, one_longer xs y)

suffix_stands : (xs ys : List Fun) → Standing (xs ++ ys) (length xs) ys
suffix_stands xs [] = tt
suffix_stands xs (y ∷ ys) =
    let r = suffix_stands (xs ++ (y ∷ [])) ys in
    (get_append xs ys y, subst (λ n. Standing (xs ++ (y ∷ ys)) n ys) (sym (one_longer xs y)) (subst (λ zs. Standing zs (length (xs ++ (y ∷ []))) ys) (sym (one_over xs ys y)) r))

pub all_stand : (all : List Fun) → Standing all 0 all
all_stand all = suffix_stands [] all

pub copies_are_numbered : CopiesAreNumbered
copies_are_numbered prog bounds =
    let m = walk_funs bounds prog.funs prog.funs 0 in
    funs_numbered bounds prog.funs m.copies prog.funs 0 (all_stand m.copies)
