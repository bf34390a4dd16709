-- The greatest cost of inputs under a choice.
use Rattle.std.proofs.Common.{◌≡◌, ◌⊎◌, inl, inr, ℕ, ◌<◌, ◌≤◌, List, [], ◌∷◌, ◌++◌, refl, arith}
use Rattle.std.specs.Prelude.{All, max}
use Rattle.std.proofs.lemmas.Bool.{cases_order}
use Rattle.std.proofs.lemmas.List.Elements.{All-nil, All-cons, All-head, All-tail}
use Rattle.sk_base.specs.declared.bounds.Bounds.{Bounds}
use Rattle.sk_model.specs.declared.expanded.Choice.{Choice}
use Rattle.sk_model.specs.declared.expanded.Expanded.{Expanded}
use Rattle.sk_model.specs.declared.expanded.Input.{Input}
use Rattle.sk_model.specs.Fill.{fill}
use Rattle.sk_model.specs.Meets.{cost_on}
use Rattle.sk_min_laws.specs.Best.{greatest_on}

module _ (e : Expanded) (bounds : Bounds) (choice : Choice) where
  -- the input costs the choice at most so much
  abbrev pub CostsAtMost : ℕ → Input → Type 0
  CostsAtMost most i = cost_on (fill e choice) bounds i ≤ most

  -- the input costs it less than so much
  abbrev pub CostsBelow : ℕ → Input → Type 0
  CostsBelow more i = cost_on (fill e choice) bounds i < more

  pub each_within : (is : List Input) (most : ℕ) → greatest_on e bounds choice is ≤ most → All (CostsAtMost most) is
  each_within [] most h = All-nil (CostsAtMost most)
  each_within (i ∷ is) most h = All-cons (CostsAtMost most) i is (omega arith) (each_within is most (omega arith))

  pub each_below : (is : List Input) (more : ℕ) → greatest_on e bounds choice is < more → All (CostsBelow more) is
  each_below [] more h = All-nil (CostsBelow more)
  each_below (i ∷ is) more h = All-cons (CostsBelow more) i is (omega arith) (each_below is more (omega arith))

  pub greatest_within : (is : List Input) (most : ℕ) → All (CostsAtMost most) is → greatest_on e bounds choice is ≤ most
  greatest_within [] most h = omega arith
  greatest_within (i ∷ is) most h =
      let here : cost_on (fill e choice) bounds i ≤ most = All-head (CostsAtMost most) i is h in
      let there = greatest_within is most (All-tail (CostsAtMost most) i is h) in
      omega arith

  pub greatest_append : (is js : List Input) → greatest_on e bounds choice (is ++ js) ≡ max (greatest_on e bounds choice is) (greatest_on e bounds choice js)
  greatest_append [] js = omega arith
  greatest_append (i ∷ is) js = let h = greatest_append is js in omega arith

  pub greatest_push : (is : List Input) (i : Input) → greatest_on e bounds choice (is ++ i ∷ []) ≡ max (greatest_on e bounds choice is) (cost_on (fill e choice) bounds i)
  greatest_push is i = let h = greatest_append is (i ∷ []) in omega arith

  -- it is the cost of one of them, unless it is 0
  pub greatest_reached : (P : Input → Type 0) (is : List Input) → All P is → (greatest_on e bounds choice is ≡ 0) ⊎ ((i : Input) × P i × (cost_on (fill e choice) bounds i ≡ greatest_on e bounds choice is))
  greatest_reached P [] h = inl refl
  greatest_reached P (i ∷ is) h =
      let one : greatest_on e bounds choice is ≤ cost_on (fill e choice) bounds i → (greatest_on e bounds choice (i ∷ is) ≡ 0) ⊎ ((j : Input) × P j × (cost_on (fill e choice) bounds j ≡ greatest_on e bounds choice (i ∷ is))) = λ le. inr (i, All-head P i is h, omega arith) in
      let other : cost_on (fill e choice) bounds i < greatest_on e bounds choice is → (greatest_on e bounds choice (i ∷ is) ≡ 0) ⊎ ((j : Input) × P j × (cost_on (fill e choice) bounds j ≡ greatest_on e bounds choice (i ∷ is))) =
      λ lt. elim (greatest_reached P is (All-tail P i is h)) [
        | inl z ↦ absurd (omega arith)
        | inr r ↦ inr (r.0, r.1, omega (arith, r.2))
      ] in
      elim (cases_order (cost_on (fill e choice) bounds i) (greatest_on e bounds choice is)) [
        | inl same ↦ one (omega arith)
        | inr differ ↦ elim differ [ inl lt ↦ other lt | inr gt ↦ one (omega arith) ]
      ]
