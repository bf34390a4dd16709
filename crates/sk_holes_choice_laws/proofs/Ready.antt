-- What a choice in range gives each function that stands.
use Rattle.std.proofs.Common.{◌≡◌, ◌<◌, ℕ, zero, suc, ◌+◌, Bool, true, false, ◌||◌, List, [], ◌∷◌, ◌++◌, length, Some, inl, inr, refl, sym, ap, subst, ◌∙◌, arith}
use Rattle.std.specs.Prelude.{slice_get, slice_index_or, nat_lt, nat_le, ◌==◌, ◌⊎◌}
use Rattle.std.proofs.lemmas.Bool.{false≢true, ltb-true, leb-true, le-leb, eqb-false}
use Rattle.sk_base.specs.declared.bounds.Bounds.{Bounds}
use Rattle.sk_prog.specs.declared.stmt.PStmt.{PStmt}
use Rattle.sk_prog.specs.declared.prog.Fun.{Fun}
use Rattle.sk_model.specs.declared.expanded.Choice.{Choice}
use Rattle.sk_model.specs.declared.expanded.Expanded.{Expanded}
use Rattle.sk_model.specs.Sites.{stmts_sites, funs_sites, sites}
use Rattle.sk_model.specs.Stands.{is_called, body_standing, part_if}
use Rattle.sk_model.specs.Fill.{Fits, InRange, stmts_count}
use Rattle.sk_model.specs.Step.{fail}
use Rattle.sk_model.specs.Eval.{Calls}
use Rattle.sk_holes_laws.specs.Holes.{Below}
use Rattle.sk_holes_laws.specs.Filling.{Every}
use Rattle.sk_holes_laws.specs.Callees.{is_ahead}
use Rattle.sk_holes_laws.specs.Expanded.{IsExpanded}
use Rattle.sk_holes_laws.proofs.Rows.{Counted, below_append}
use Rattle.sk_holes_laws.proofs.Called.{body_called}
use Rattle.sk_holes_laws.proofs.Ranks.{marks, called_stand, ordinary_stand}
use Rattle.sk_holes_laws.proofs.Program.{below_fits}
use Rattle.sk_holes_choice_laws.proofs.Matching.{Matches}
use Rattle.sk_holes_choice_laws.proofs.Keeping.{is_standing, may_call, new_number, place_in, AreReady}
use Rattle.sk_holes_choice_laws.proofs.Stmts.{rows_counts}

-- Lists of calls

equal_self : (n : ℕ) → (n == n) ≡ true
equal_self n = go (n == n) refl
  where
    go : (b : Bool) → (n == n) ≡ b → b ≡ true
    go true e = refl
    go false e = absurd (eqb-false n n e refl)

or_right : (a b : Bool) → b ≡ true → (a || b) ≡ true
or_right true b h = refl
or_right false b h = h

or_left : (a b : Bool) → a ≡ true → (a || b) ≡ true
or_left true b h = refl
or_left false b h = absurd (false≢true h)

either : (a b : Bool) → (a || b) ≡ true → (a ≡ true) ⊎ (b ≡ true)
either true b h = inl refl
either false b h = inr h

every_called : (P Q : ℕ → Type 0) (xs zs : List ℕ) → Every P xs → ((m : ℕ) → is_called xs m ≡ true → is_called zs m ≡ true) → ((m : ℕ) → is_called zs m ≡ true → P m → Q m) → Every Q xs
every_called P Q [] zs h sub k = tt
every_called P Q (x ∷ xs) zs h sub k =
    (k x (sub x (ap (λ b. b || is_called xs x) (equal_self x))) h.0, every_called P Q xs zs h.1 (λ m c. sub m (or_right (x == m) (is_called xs m) c)) k)

called_right : (xs ys : List ℕ) (m : ℕ) → is_called ys m ≡ true → is_called (xs ++ ys) m ≡ true
called_right [] ys m h = h
called_right (x ∷ xs) ys m h = or_right (x == m) (is_called (xs ++ ys) m) (called_right xs ys m h)

past_or_there : (fs : List Fun) (n : ℕ) → (nat_le (length fs) n ≡ true) ⊎ ((f : Fun) × (slice_get fs n ≡ Some f))
past_or_there [] n = inl (le-leb 0 n (omega arith))
past_or_there (f ∷ fs) zero = inr (f, refl)
past_or_there (f ∷ fs) (suc n) = go (past_or_there fs n)
  where
    go : (nat_le (length fs) n ≡ true) ⊎ ((g : Fun) × (slice_get fs n ≡ Some g)) → (nat_le (length (f ∷ fs)) (suc n) ≡ true) ⊎ ((g : Fun) × (slice_get (f ∷ fs) (suc n) ≡ Some g))
    go (inl h) = let k = leb-true (length fs) n h in inl (le-leb (suc (length fs)) (suc n) (omega (arith, k)))
    go (inr g) = inr g

no_calls : Calls
no_calls span f args = fail span

module _ (bounds : Bounds) (x : Expanded) (values : List ℕ) where
  abbrev number : ℕ → ℕ
  number = new_number x values

  nothing_stands : Matches x.prog x.prog no_calls no_calls (λ f. false) number
  nothing_stands = record { structs = refl; consts = refl; params = λ f h. absurd (false≢true h); calls = λ span f args s h. absurd (false≢true h) }

  counted : (body : List PStmt) → Counted (stmts_sites bounds body) (body_standing values body) (stmts_count values number body)
  counted body = rows_counts bounds values (λ f. false) number x.prog x.prog no_calls no_calls nothing_stands body

  below_at : (fs : List Fun) (i n : ℕ) (f : Fun) → slice_get fs n ≡ Some f → Below values i (funs_sites bounds fs) → Below values (i + place_in values number fs n) (stmts_sites bounds f.body)
  below_at [] i n f h b = cc
  below_at (g ∷ fs) i zero f h b =
      let e : i ≡ i + 0 = omega arith in
      let d : g ≡ f = cc in
      subst (λ (z : ℕ × Fun). Below values z.0 (stmts_sites bounds z.1.body)) (λ j. (e j, d j)) (below_append values (stmts_sites bounds g.body) (funs_sites bounds fs) i b).0
  below_at (g ∷ fs) i (suc n) f h b =
      let c = stmts_count values number g.body in
      let rest = subst (λ k. Below values (i + k) (funs_sites bounds fs)) (counted g.body).sites (below_append values (stmts_sites bounds g.body) (funs_sites bounds fs) i b).1 in
      let e : i + c + place_in values number fs n ≡ i + (c + place_in values number fs n) = omega arith in
      subst (λ k. Below values k (stmts_sites bounds f.body)) e (below_at fs (i + c) n f h rest)

  -- what stands in a function that stands calls later functions that stand
  called_later : (fs : List Fun) (called : List ℕ) (n i j t : ℕ) (f g : Fun) → j < t → slice_get fs j ≡ Some f → slice_get fs t ≡ Some g → slice_index_or (marks values x.ordinary called n i fs) j false ≡ true
      → is_called ((body_standing values f.body).at (i + place_in values number fs j)).called (n + t) ≡ true → slice_index_or (marks values x.ordinary called n i fs) t false ≡ true
  called_later fs called n i zero zero f g less is is' stands h = absurd (omega (arith, less))
  called_later fs called n i (suc j) zero f g less is is' stands h = absurd (omega (arith, less))
  called_later [] called n i j t f g less is is' stands h = cc
  called_later (r ∷ fs) called n i zero (suc t) f g less is is' stands h =
      let d : r ≡ f = cc in
      let e : i + 0 ≡ i = omega arith in
      let b : Bool = nat_lt n x.ordinary || is_called called n in
      let xs : List ℕ = ((part_if b (body_standing values r.body)).at i).called in
      let k : is_called ((body_standing values r.body).at i).called (n + suc t) ≡ true = ap (λ (z : Fun × ℕ). is_called ((body_standing values z.0.body).at z.1).called (n + suc t)) (λ l. (d l, sym e l)) ∙ h in
      let now : is_called xs (n + suc t) ≡ true = subst (λ c. is_called ((part_if c (body_standing values r.body)).at i).called (n + suc t) ≡ true) (sym stands) k in
      let u : n + 1 + t ≡ n + suc t = omega arith in
      called_stand values x.ordinary fs (called ++ xs) (n + 1) (i + (body_standing values r.body).count) t g is' (ap (is_called (called ++ xs)) u ∙ called_right called xs (n + suc t) now)
  called_later (r ∷ fs) called n i (suc j) (suc t) f g less is is' stands h =
      let b : Bool = nat_lt n x.ordinary || is_called called n in
      let xs : List ℕ = ((part_if b (body_standing values r.body)).at i).called in
      let c = (body_standing values r.body).count in
      let same : c ≡ stmts_count values number r.body = (counted r.body).standing in
      let u : n + 1 + t ≡ n + suc t = omega arith in
      let v : i + c + place_in values number fs j ≡ i + (stmts_count values number r.body + place_in values number fs j) = omega (arith, same) in
      called_later fs (called ++ xs) (n + 1) (i + c) j t f g (omega (arith, less)) is is' stands
      (ap (λ (z : ℕ × ℕ). is_called ((body_standing values f.body).at z.0).called z.1) (λ l. (v l, u l)) ∙ h)

  module _ (h : IsExpanded bounds x) where
    calls_stand : (n : ℕ) (f : Fun) → slice_get x.prog.funs n ≡ Some f → is_standing x values n ≡ true → Every (λ m. may_call x values m ≡ true) ((body_standing values f.body).at (place_in values number x.prog.funs n)).called
    calls_stand n f is stands =
        let keeps = (h.funs n f is).keeps in
        let i = place_in values number x.prog.funs n in
        let xs = ((body_standing values f.body).at i).called in
        every_called (λ m. is_ahead x.ordinary n m ≡ true) (λ m. may_call x values m ≡ true) xs xs (body_called (is_ahead x.ordinary n) values f.body keeps.calls i) (λ m c. c)
        (λ m c ahead. by_place m c (either (nat_lt m x.ordinary) (nat_lt n m) ahead) (past_or_there x.prog.funs m))
      where
        by_place : (m : ℕ) → is_called ((body_standing values f.body).at (place_in values number x.prog.funs n)).called m ≡ true → (nat_lt m x.ordinary ≡ true) ⊎ (nat_lt n m ≡ true) → (nat_le (length x.prog.funs) m ≡ true) ⊎ ((g : Fun) × (slice_get x.prog.funs m ≡ Some g)) → may_call x values m ≡ true
        by_place m c a (inl p) = or_right (is_standing x values m) (nat_le (length x.prog.funs) m) p
        by_place m c (inl a) (inr g) =
            let less = ltb-true m x.ordinary a in
            or_left (is_standing x values m) (nat_le (length x.prog.funs) m) (ordinary_stand values x.ordinary x.prog.funs [] 0 0 m g.0 g.1 (omega (arith, less))).0
        by_place m c (inr a) (inr g) =
            let e : 0 + m ≡ m = omega arith in
            let d : 0 + place_in values number x.prog.funs n ≡ place_in values number x.prog.funs n = omega arith in
            or_left (is_standing x values m) (nat_le (length x.prog.funs) m)
            (called_later x.prog.funs [] 0 0 n m f g.0 (ltb-true n m a) is g.1 stands (ap (λ (z : ℕ × ℕ). is_called ((body_standing values f.body).at z.0).called z.1) (λ l. (d l, e l)) ∙ c))

pub are_ready : (bounds : Bounds) (x : Expanded) (a : Choice) → IsExpanded bounds x → InRange x a → AreReady bounds x a.values
are_ready bounds x a h range n f is stands =
    let fits = subst (λ ss. Fits ss a.values) h.sites range.fits in
    let below = below_fits a.values a.values (sites bounds x.prog) 0 (λ j. let e : 0 + j ≡ j = omega arith in ap (λ n. slice_index_or a.values n 0) e) fits in
    let d : 0 + place_in a.values (new_number x a.values) x.prog.funs n ≡ place_in a.values (new_number x a.values) x.prog.funs n = omega arith in
    (subst (λ k. Below a.values k (stmts_sites bounds f.body)) d (below_at bounds x a.values x.prog.funs 0 n f is below), calls_stand bounds x a.values h n f is stands)
