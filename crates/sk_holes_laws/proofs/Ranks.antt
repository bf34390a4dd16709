-- Functions that stand: their names and signatures under their new numbers, and which functions stand.
use Rattle.std.proofs.Common.{◌≡◌, ◌<◌, ℕ, zero, suc, ◌+◌, Bool, true, false, ◌||◌, List, [], ◌∷◌, ◌++◌, map, Option, Some, None, refl, sym, ap, subst, ◌∙◌, arith}
use Rattle.std.specs.Prelude.{nat_lt, slice_get, slice_index_or, if◌then◌else◌, ◌==◌}
use Rattle.std.specs.Str.{bytes_eq}
use Rattle.std.proofs.lemmas.Bool.{lt-ltb}
use Rattle.sk_prog.specs.declared.stmt.PStmt.{PStmt}
use Rattle.sk_prog.specs.declared.prog.Fun.{Fun}
use Rattle.sk_types_rules.specs.Scope.{Signature, signature_of, next_place, place_of}
use Rattle.sk_model.specs.Parts.{rank, one_if}
use Rattle.sk_model.specs.Stands.{is_called, body_standing, fun_standing, standing_from, funs_stand}
use Rattle.sk_model.specs.Fill.{fill_funs, stmts_count}
use Rattle.sk_holes_laws.specs.Filling.{signature_names}

-- Parts of a list

-- those that are marked
abbrev pub marked : {A : Type 0} → List Bool → List A → List A
marked (true ∷ bs) (x ∷ xs) = x ∷ marked bs xs
marked (false ∷ bs) (x ∷ xs) = marked bs xs
marked _ _ = []

next_some : (o : Option ℕ) (n : ℕ) → next_place o ≡ Some n → (m : ℕ) × (o ≡ Some m) × (suc m ≡ n)
next_some None n h = cc
next_some (Some m) n h = let e : suc m ≡ n = cc in (m, refl, e)

pub marked_named : (bs : List Bool) (ss : List Signature) (x : List ℕ) (n : ℕ) → place_of (signature_names ss) x ≡ Some n → slice_index_or bs n false ≡ true → place_of (signature_names (marked bs ss)) x ≡ Some (rank bs n)
marked_named bs [] x n h k = cc
marked_named [] (s ∷ ss) x n h k = cc
marked_named (b ∷ bs) (s ∷ ss) x n h k = go (marked_named bs ss x) b (bytes_eq s.name x) refl n h k
  where
    Rest : Type 0
    Rest = (n : ℕ) → place_of (signature_names ss) x ≡ Some n → slice_index_or bs n false ≡ true → place_of (signature_names (marked bs ss)) x ≡ Some (rank bs n)

    later : Rest → (b : Bool) → bytes_eq s.name x ≡ false → (m n : ℕ) → place_of (signature_names ss) x ≡ Some m → suc m ≡ n → slice_index_or (b ∷ bs) n false ≡ true → place_of (signature_names (marked (b ∷ bs) (s ∷ ss))) x ≡ Some (rank (b ∷ bs) n)
    later rest true other m n is e k =
        let at : slice_index_or bs m false ≡ true = subst (λ n. slice_index_or (true ∷ bs) n false ≡ true) (sym e) k in
        ap (λ c. if c then Some 0 else next_place (place_of (signature_names (marked bs ss)) x)) other ∙ ap next_place (rest m is at) ∙ ap Some (let same : suc (rank bs m) ≡ 1 + rank bs m = omega arith in same) ∙ ap (λ n. Some (rank (true ∷ bs) n)) e
    later rest false other m n is e k =
        let at : slice_index_or bs m false ≡ true = subst (λ n. slice_index_or (false ∷ bs) n false ≡ true) (sym e) k in
        rest m is at ∙ ap Some (let same : rank bs m ≡ 0 + rank bs m = omega arith in same) ∙ ap (λ n. Some (rank (false ∷ bs) n)) e

    here : (b : Bool) → bytes_eq s.name x ≡ true → (n : ℕ) → 0 ≡ n → slice_index_or (b ∷ bs) n false ≡ true → place_of (signature_names (marked (b ∷ bs) (s ∷ ss))) x ≡ Some (rank (b ∷ bs) n)
    here true same n e k = ap (λ c. if c then Some 0 else next_place (place_of (signature_names (marked bs ss)) x)) same ∙ ap (λ n. Some (rank (true ∷ bs) n)) e
    here false same n e k = let at : slice_index_or (false ∷ bs) 0 false ≡ true = subst (λ n. slice_index_or (false ∷ bs) n false ≡ true) (sym e) k in cc

    go : Rest → (b c : Bool) → bytes_eq s.name x ≡ c → (n : ℕ) → (if c then Some 0 else next_place (place_of (signature_names ss) x)) ≡ Some n → slice_index_or (b ∷ bs) n false ≡ true → place_of (signature_names (marked (b ∷ bs) (s ∷ ss))) x ≡ Some (rank (b ∷ bs) n)
    go rest b true same n h k = let e : 0 ≡ n = cc in here b same n e k
    go rest b false other n h k = let m = next_some (place_of (signature_names ss) x) n h in later rest b other m.0 n m.1 m.2 k

pub marked_there : {A : Type 0} (bs : List Bool) (xs : List A) (n : ℕ) (x : A) → slice_get xs n ≡ Some x → slice_index_or bs n false ≡ true → slice_get (marked bs xs) (rank bs n) ≡ Some x
marked_there bs [] n x h k = cc
marked_there [] (y ∷ xs) n x h k = cc
marked_there (true ∷ bs) (y ∷ xs) zero x h k = h
marked_there (false ∷ bs) (y ∷ xs) zero x h k = cc
marked_there (true ∷ bs) (y ∷ xs) (suc n) x h k =
    let e : suc (rank bs n) ≡ 1 + rank bs n = omega arith in
    subst (λ m. slice_get (y ∷ marked bs xs) m ≡ Some x) e (marked_there bs xs n x h k)
marked_there (false ∷ bs) (y ∷ xs) (suc n) x h k =
    let e : rank bs n ≡ 0 + rank bs n = omega arith in
    subst (λ m. slice_get (marked bs xs) m ≡ Some x) e (marked_there bs xs n x h k)

-- a name that has a place is there
pub place_there : (ss : List Signature) (x : List ℕ) (n : ℕ) → place_of (signature_names ss) x ≡ Some n → (s : Signature) × (slice_get ss n ≡ Some s)
place_there [] x n h = cc
place_there (s ∷ ss) x n h = go (place_there ss x) (bytes_eq s.name x) n h
  where
    go : ((n : ℕ) → place_of (signature_names ss) x ≡ Some n → (s : Signature) × (slice_get ss n ≡ Some s)) → (c : Bool) (n : ℕ) → (if c then Some 0 else next_place (place_of (signature_names ss) x)) ≡ Some n → (r : Signature) × (slice_get (s ∷ ss) n ≡ Some r)
    go rest true n h = let e : 0 ≡ n = cc in (s, ap (slice_get (s ∷ ss)) (sym e))
    go rest false n h =
        let m = next_some (place_of (signature_names ss) x) n h in
        let r = rest m.0 m.1 in
        (r.0, ap (slice_get (s ∷ ss)) (sym m.2) ∙ r.1)

pub filled_signatures : (values : List ℕ) (number : ℕ → ℕ) (paid : List PStmt) (bs : List Bool) (fs : List Fun) (i : ℕ) → map signature_of (fill_funs values number paid bs fs i) ≡ marked bs (map signature_of fs)
filled_signatures values number paid [] fs i = refl
filled_signatures values number paid (b ∷ bs) [] i = go b
  where
    go : (b : Bool) → map signature_of (fill_funs values number paid (b ∷ bs) [] i) ≡ marked (b ∷ bs) []
    go true = refl
    go false = refl
filled_signatures values number paid (true ∷ bs) (f ∷ fs) i = ap (λ ss. signature_of f ∷ ss) (filled_signatures values number paid bs fs (i + stmts_count values number f.body))
filled_signatures values number paid (false ∷ bs) (f ∷ fs) i = filled_signatures values number paid bs fs (i + stmts_count values number f.body)

-- Which functions stand

any_append : (xs ys : List ℕ) (n : ℕ) → is_called xs n ≡ true → is_called (xs ++ ys) n ≡ true
any_append [] ys n h = cc
any_append (x ∷ xs) ys n h = go (any_append xs ys n) (x == n) h
  where
    go : (is_called xs n ≡ true → is_called (xs ++ ys) n ≡ true) → (b : Bool) → (b || is_called xs n) ≡ true → (b || is_called (xs ++ ys) n) ≡ true
    go rest true h = refl
    go rest false h = rest h

or_left : (a b : Bool) → a ≡ true → (a || b) ≡ true
or_left true b h = refl
or_left false b h = cc

or_right : (a b : Bool) → b ≡ true → (a || b) ≡ true
or_right true b h = refl
or_right false b h = h

module _ (values : List ℕ) (ordinary : ℕ) where
  abbrev pub marks : List ℕ → ℕ → ℕ → List Fun → List Bool
  marks called n i fs = funs_stand (standing_from values ordinary called n i fs)

  -- a function that is called by what stands before it stands
  pub called_stand : (fs : List Fun) (called : List ℕ) (n i j : ℕ) (f : Fun) → slice_get fs j ≡ Some f → is_called called (n + j) ≡ true → slice_index_or (marks called n i fs) j false ≡ true
  called_stand [] called n i j f h k = cc
  called_stand (g ∷ fs) called n i zero f h k =
      let e : n + 0 ≡ n = omega arith in
      or_right (nat_lt n ordinary) (is_called called n) (ap (is_called called) (sym e) ∙ k)
  called_stand (g ∷ fs) called n i (suc j) f h k =
      let e : n + suc j ≡ n + 1 + j = omega arith in
      let s = fun_standing values ordinary (nat_lt n ordinary || is_called called n) i g in
      called_stand fs (called ++ s.within.called) (n + 1) (i + (body_standing values g.body).count) j f h (any_append called s.within.called (n + 1 + j) (ap (is_called called) (sym e) ∙ k))

  -- ordinary functions stand, and keep their numbers
  pub ordinary_stand : (fs : List Fun) (called : List ℕ) (n i j : ℕ) (f : Fun) → slice_get fs j ≡ Some f → n + j < ordinary → (slice_index_or (marks called n i fs) j false ≡ true) × (rank (marks called n i fs) j ≡ j)
  ordinary_stand [] called n i j f h k = cc
  ordinary_stand (g ∷ fs) called n i zero f h k = (or_left (nat_lt n ordinary) (is_called called n) (lt-ltb n ordinary (omega (arith, k))), refl)
  ordinary_stand (g ∷ fs) called n i (suc j) f h k =
      let s = fun_standing values ordinary (nat_lt n ordinary || is_called called n) i g in
      let rest = ordinary_stand fs (called ++ s.within.called) (n + 1) (i + (body_standing values g.body).count) j f h (omega (arith, k)) in
      let here : (nat_lt n ordinary || is_called called n) ≡ true = or_left (nat_lt n ordinary) (is_called called n) (lt-ltb n ordinary (omega (arith, k))) in
      let same = rest.1 in
      let one : one_if (nat_lt n ordinary || is_called called n) ≡ 1 = ap one_if here in
      (rest.0, (let r = rank (marks (called ++ s.within.called) (n + 1) (i + (body_standing values g.body).count) fs) j in let e : one_if (nat_lt n ordinary || is_called called n) + r ≡ suc j = omega (arith, one, same) in e))
