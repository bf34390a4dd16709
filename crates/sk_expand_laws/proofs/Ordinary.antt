-- The ordinary functions of an expansion are those of the program, in order, each with its body walked.
use Rattle.std.proofs.Common.{◌≡◌, ℕ, zero, suc, ◌+◌, Bool, true, false, List, [], ◌∷◌, length, Some, refl, sym, ap, ◌∙◌, subst, arith}
use Rattle.std.specs.Prelude.{not, slice_get, if◌then◌else◌}
use Rattle.sk_base.specs.declared.bounds.Bounds.{Bounds}
use Rattle.sk_prog.specs.declared.stmt.PStmt.{PStmt}
use Rattle.sk_prog.specs.declared.prog.Fun.{Fun}
use Rattle.sk_model.specs.Parts.{one_if, rank}
use Rattle.sk_model.specs.Expand.{Walk, is_generator, are_ordinary, ordinary_count, first_calls, walk_stmts, walked, walk_fun, walk_funs}
use Rattle.sk_expand_laws.specs.Copies.{Standing}
use Rattle.sk_expand_laws.proofs.Walks.{standing_parts}

module _ (bounds : Bounds) (funs all : List Fun) where
  abbrev pub body_walk : Fun → Walk (List PStmt)
  body_walk f = walk_stmts bounds (first_calls bounds funs) f.body

  -- g is the function f with its body walked, where the copies that this makes stand among all
  pub record IsWalked (f g : Fun) : Type 0 where
    pub at : ℕ
    pub is : g ≡ walked bounds funs f (body_walk f at).made
    pub copies : Standing all at (body_walk f at).copies

  -- the ordinary function that has this number
  pub record IsFrom (fs : List Fun) (n : ℕ) (g : Fun) : Type 0 where
    pub place : ℕ
    pub from : Fun
    pub there : slice_get fs place ≡ Some from
    pub kind : is_generator from.kind ≡ false
    pub number : rank (are_ordinary fs) place ≡ n
    pub walked : IsWalked from g

  pub record IsFound (made : List Fun) (n : ℕ) (f : Fun) : Type 0 where
    pub now : Fun
    pub there : slice_get made n ≡ Some now
    pub walked : IsWalked f now

  abbrev all_walked : List Fun → Walk (List Fun)
  all_walked = walk_funs bounds funs

  later : (f : Fun) (fs : List Fun) (n m : ℕ) (g : Fun) (b : Bool) → is_generator f.kind ≡ b → one_if (not b) + n ≡ m → IsFrom fs n g → IsFrom (f ∷ fs) m g
  later f fs n m g b is e r = record {
    place = suc r.place;
    from = r.from;
    there = r.there;
    kind = r.kind;
    number = ap (λ c. one_if (not c) + rank (are_ordinary fs) r.place) is ∙ ap (λ j. one_if (not b) + j) r.number ∙ e;
    walked = r.walked;
  }

  pub function_from : (fs : List Fun) (k n : ℕ) (g : Fun) → Standing all k (all_walked fs k).copies → slice_get (all_walked fs k).made n ≡ Some g → IsFrom fs n g
  function_from [] k n g st h = cc
  function_from (f ∷ fs) k n g st h = by_kind (is_generator f.kind) refl st h (λ j i s e. function_from fs j i g s e)
    where
      first : (n : ℕ) → is_generator f.kind ≡ false → Standing all k (walk_fun bounds funs f (all_walked fs) k).copies → slice_get (walk_fun bounds funs f (all_walked fs) k).made n ≡ Some g → ((j i : ℕ) → Standing all j (all_walked fs j).copies → slice_get (all_walked fs j).made i ≡ Some g → IsFrom fs i g) → IsFrom (f ∷ fs) n g
      first zero is st h rest =
          let m = body_walk f k in
          let s = standing_parts all k m.copies (all_walked fs (k + length m.copies)).copies st in
          let e : walked bounds funs f m.made ≡ g = cc in
          record { place = 0; from = f; there = refl; kind = is; number = refl; walked = record { at = k; is = sym e; copies = s.0 } }
      first (suc n) is st h rest =
          let m = body_walk f k in
          let j = k + length m.copies in
          let s = standing_parts all k m.copies (all_walked fs j).copies st in
          later f fs n (suc n) g false is (omega arith) (rest j n s.1 h)

      by_kind : (b : Bool) → is_generator f.kind ≡ b → Standing all k ((if b then all_walked fs else walk_fun bounds funs f (all_walked fs)) k).copies → slice_get ((if b then all_walked fs else walk_fun bounds funs f (all_walked fs)) k).made n ≡ Some g → ((j i : ℕ) → Standing all j (all_walked fs j).copies → slice_get (all_walked fs j).made i ≡ Some g → IsFrom fs i g) → IsFrom (f ∷ fs) n g
      by_kind true is st h rest = later f fs n n g true is (omega arith) (rest k n st h)
      by_kind false is st h rest = first n is st h rest

  pub function_found : (fs : List Fun) (k i : ℕ) (f : Fun) → Standing all k (all_walked fs k).copies → slice_get fs i ≡ Some f → is_generator f.kind ≡ false → IsFound (all_walked fs k).made (rank (are_ordinary fs) i) f
  function_found [] k i f st h is = cc
  function_found (e ∷ fs) k i f st h is = by_kind (is_generator e.kind) refl st i h (λ j n s at. function_found fs j n f s at is)
    where
      Rest : Type 0
      Rest = (j n : ℕ) → Standing all j (all_walked fs j).copies → slice_get fs n ≡ Some f → IsFound (all_walked fs j).made (rank (are_ordinary fs) n) f

      ordinary : (i : ℕ) → Standing all k (walk_fun bounds funs e (all_walked fs) k).copies → slice_get (e ∷ fs) i ≡ Some f → Rest → IsFound (walk_fun bounds funs e (all_walked fs) k).made (rank (true ∷ are_ordinary fs) i) f
      ordinary zero st h rest =
          let m = body_walk e k in
          let s = standing_parts all k m.copies (all_walked fs (k + length m.copies)).copies st in
          let same : e ≡ f = cc in
          record { now = walked bounds funs e m.made; there = refl; walked = subst (λ f. IsWalked f (walked bounds funs e m.made)) same (record { at = k; is = refl; copies = s.0 }) }
      ordinary (suc n) st h rest =
          let m = body_walk e k in
          let j = k + length m.copies in
          let s = standing_parts all k m.copies (all_walked fs j).copies st in
          let r = rest j n s.1 h in
          let e' : suc (rank (are_ordinary fs) n) ≡ 1 + rank (are_ordinary fs) n = omega arith in
          record { now = r.now; there = subst (λ n. slice_get (walked bounds funs e m.made ∷ (all_walked fs j).made) n ≡ Some r.now) e' r.there; walked = r.walked }

      by_kind : (b : Bool) → is_generator e.kind ≡ b → Standing all k ((if b then all_walked fs else walk_fun bounds funs e (all_walked fs)) k).copies → (i : ℕ) → slice_get (e ∷ fs) i ≡ Some f → Rest → IsFound ((if b then all_walked fs else walk_fun bounds funs e (all_walked fs)) k).made (rank (not b ∷ are_ordinary fs) i) f
      by_kind true gen st zero h rest = let same : e ≡ f = cc in let z = sym gen ∙ ap (λ (f : Fun). is_generator f.kind) same ∙ is in cc
      by_kind true gen st (suc n) h rest =
          let r = rest k n st h in
          let e' : rank (are_ordinary fs) n ≡ 0 + rank (are_ordinary fs) n = omega arith in
          record { now = r.now; there = subst (λ n. slice_get (all_walked fs k).made n ≡ Some r.now) e' r.there; walked = r.walked }
      by_kind false gen st i h rest = ordinary i st h rest

  -- as many as are ordinary
  pub count_is : (fs : List Fun) (k : ℕ) → length (all_walked fs k).made ≡ ordinary_count fs
  count_is [] k = refl
  count_is (f ∷ fs) k = by_kind (is_generator f.kind) (λ j. count_is fs j)
    where
      by_kind : (b : Bool) → ((j : ℕ) → length (all_walked fs j).made ≡ ordinary_count fs) → length ((if b then all_walked fs else walk_fun bounds funs f (all_walked fs)) k).made ≡ one_if (not b) + ordinary_count fs
      by_kind true rest = omega (arith, rest k)
      by_kind false rest = let e = rest (k + length (body_walk f k).copies) in omega (arith, e)
