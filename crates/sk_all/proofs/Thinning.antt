-- Inputs of which one after another is left out.
use Rattle.std.proofs.Common.{◌≡◌, ℕ, zero, suc, ◌+◌, ◌-◌, ◌<◌, ◌≤◌, ◌⊎◌, inl, inr, ◌++◌, List, [], ◌∷◌, Some, None, length, length-append, get_or, take, drop, slice_get, refl, sym, ap, subst, ◌∙◌, append_assoc, arith}
use Rattle.std.specs.Prelude.{All, Contains, IfSome}
use Rattle.std.proofs.lemmas.List.{drop_more, drop_all, append-nil, take_all, length-drop}
use Rattle.std.proofs.lemmas.List.Elements.{All-cons, All-head, All-tail, All-append, Contains-append_left, Contains-append_right, Contains-append_cases}
use Rattle.std.proofs.lemmas.Option.{slice_get-get_or}
use Rattle.sk_base.specs.declared.bounds.Bounds.{Bounds}
use Rattle.sk_model.specs.declared.expanded.Choice.{Choice}
use Rattle.sk_model.specs.declared.expanded.Expanded.{Expanded}
use Rattle.sk_model.specs.declared.expanded.Input.{Input}
use Rattle.sk_model.specs.Fill.{fill}
use Rattle.sk_model.specs.Inputs.{IsInput}
use Rattle.sk_model.specs.Meets.{Breaks}
use Rattle.sk_oblig_queries.specs.Queries.{IsWanted}
use Rattle.sk_all.specs.Reasons.{AreDistinct, Explains, NonePasses, SomePasses, Thinned, without}

-- what is said of each item is said of each without one
all_skip : (P : Input → Type 0) (xs ys : List Input) (x : Input) → All P (xs ++ x ∷ ys) → All P (xs ++ ys)
all_skip P [] ys x h = All-tail P x ys h
all_skip P (z ∷ zs) ys x h = All-cons P z (zs ++ ys) (All-head P z (zs ++ x ∷ ys) h) (all_skip P zs ys x (All-tail P z (zs ++ x ∷ ys) h))

contains_more : (xs ys : List Input) (x y : Input) → Contains (xs ++ ys) y → Contains (xs ++ x ∷ ys) y
contains_more xs ys x y h =
    elim (Contains-append_cases xs ys y h) [
      | inl l ↦ Contains-append_left xs (x ∷ ys) y l
      | inr r ↦ Contains-append_right xs (x ∷ ys) y (Contains-append_right (x ∷ []) ys y r)
    ]

distinct_skip : (xs ys : List Input) (x : Input) → AreDistinct (xs ++ x ∷ ys) → AreDistinct (xs ++ ys)
distinct_skip [] ys x h = h.1
distinct_skip (z ∷ zs) ys x h = ((λ there. h.0 (contains_more zs ys x z there)), distinct_skip zs ys x h.1)

-- what passes inputs passes them without one
passes_skip : (e : Expanded) (bounds : Bounds) (xs ys : List Input) (x : Input) → SomePasses e bounds (xs ++ x ∷ ys) → SomePasses e bounds (xs ++ ys)
passes_skip e bounds xs ys x h = record {
  choice = h.choice;
  passes = record {
    range = h.passes.range;
    passes = record {
      unbroken = all_skip (λ input. Breaks (fill e h.choice) bounds input → ⊥) xs ys x h.passes.passes.unbroken;
      within = tt;
    };
  };
}

without_front : (k : ℕ) (xs : List Input) (x : Input) → k < length xs → without k (xs ++ x ∷ []) ≡ without k xs ++ x ∷ []
without_front k [] x h = absurd (omega (arith, h))
without_front zero (y ∷ ys) x h = refl
without_front (suc k) (y ∷ ys) x h = ap (λ zs. y ∷ zs) (without_front k ys x (omega (arith, h)))

without_last : (k : ℕ) (xs : List Input) (x : Input) → k ≡ length xs → without k (xs ++ x ∷ []) ≡ xs
without_last zero [] x h = refl
without_last (suc k) [] x h = absurd (omega (arith, h))
without_last zero (y ∷ ys) x h = absurd (omega (arith, h))
without_last (suc k) (y ∷ ys) x h = ap (λ zs. y ∷ zs) (without_last k ys x (omega (arith, h)))

below_or_last : (k n : ℕ) → k < n + 1 → (k < n) ⊎ (k ≡ n)
below_or_last zero zero h = inr refl
below_or_last zero (suc n) h = inl (omega arith)
below_or_last (suc k) zero h = absurd (omega (arith, h))
below_or_last (suc k) (suc n) h =
    elim (below_or_last k n (omega (arith, h))) [
      | inl l ↦ inl (omega (arith, l))
      | inr r ↦ inr (ap suc r)
    ]

-- what a slice to the end has
pub to_the_end : (xs : List Input) (n : ℕ) → take (length xs - n) (drop n xs) ≡ drop n xs
to_the_end xs n = take_all (length xs - n) (drop n xs) (omega (arith, length-drop n xs))

item_at : (xs : List Input) (i : ℕ) → i < length xs → (x : Input) × (x ≡ get_or xs i x)
item_at [] i h = absurd (omega (arith, h))
item_at (x ∷ xs) zero h = (x, refl)
item_at (x ∷ xs) (suc i) h = item_at xs i (omega (arith, h))

module _ (e : Expanded) (bounds : Bounds) (all : List Input) where
  next_item : (i : ℕ) (x : Input) → i < length all → x ≡ get_or all i x → drop i all ≡ x ∷ drop (i + 1) all
  next_item i x below item = drop_more all i x below ∙ ap (λ y. y ∷ drop (i + 1) all) (sym item)

  -- nothing is kept yet
  pub nothing_kept : All (IsInput e.prog bounds) all → AreDistinct all → NonePasses e bounds all → Thinned e bounds all [] 0
  nothing_kept inputs distinct none = record {
    are_inputs = inputs;
    distinct = distinct;
    none = none;
    needed = λ k h. absurd (omega (arith, h));
  }

  -- the next input is left out
  left_out : (kept : List Input) (i : ℕ) (x : Input) → i < length all → x ≡ get_or all i x → NonePasses e bounds (kept ++ drop (i + 1) all) → Thinned e bounds all kept i → Thinned e bounds all kept (i + 1)
  left_out kept i x below item none h =
      let rest : List Input = drop (i + 1) all in
      let split : drop i all ≡ x ∷ rest = next_item i x below item in
      record {
        are_inputs = all_skip (IsInput e.prog bounds) kept rest x (subst (λ ys. All (IsInput e.prog bounds) (kept ++ ys)) split h.are_inputs);
        distinct = distinct_skip kept rest x (subst (λ ys. AreDistinct (kept ++ ys)) split h.distinct);
        none = none;
        needed = λ k l. passes_skip e bounds (without k kept) rest x (subst (λ ys. SomePasses e bounds (without k kept ++ ys)) split (h.needed k l));
      }

  pub leaves_out : (kept : List Input) (i : ℕ) → i < length all → NonePasses e bounds (kept ++ drop (i + 1) all) → Thinned e bounds all kept i → Thinned e bounds all kept (i + 1)
  leaves_out kept i below none h = let x = item_at all i below in left_out kept i x.0 below x.1 none h

  -- the next input is kept
  pub is_kept : (kept longer : List Input) (i : ℕ) (x : Input) → i < length all → x ≡ get_or all i x → longer ≡ kept ++ x ∷ [] → SomePasses e bounds (kept ++ drop (i + 1) all) → Thinned e bounds all kept i → Thinned e bounds all longer (i + 1)
  is_kept kept longer i x below item is some h =
      let rest : List Input = drop (i + 1) all in
      let split : drop i all ≡ x ∷ rest = next_item i x below item in
      let same : kept ++ drop i all ≡ longer ++ rest = ap (λ ys. kept ++ ys) split ∙ sym (append_assoc kept (x ∷ []) rest) ∙ ap (λ xs. xs ++ rest) (sym is) in
      let long : length longer ≡ length kept + 1 = ap length is ∙ length-append kept (x ∷ []) in
      record {
        are_inputs = subst (All (IsInput e.prog bounds)) same h.are_inputs;
        distinct = subst AreDistinct same h.distinct;
        none = subst (NonePasses e bounds) same h.none;
        needed = λ k l. elim (below_or_last k (length kept) (omega (arith, l, long))) [
          | inl less ↦
              let there : without k kept ++ drop i all ≡ without k longer ++ rest = ap (λ ys. without k kept ++ ys) split ∙ sym (append_assoc (without k kept) (x ∷ []) rest) ∙ ap (λ xs. xs ++ rest) (sym (ap (without k) is ∙ without_front k kept x less)) in
              subst (SomePasses e bounds) there (h.needed k less)
          | inr last ↦
              let there : kept ++ rest ≡ without k longer ++ rest = ap (λ xs. xs ++ rest) (sym (ap (without k) is ∙ without_last k kept x last)) in
              subst (SomePasses e bounds) there some
        ];
      }

  -- each input was tried
  pub each_tried : (kept : List Input) (i : ℕ) → length all ≤ i → Thinned e bounds all kept i → Explains e bounds kept
  each_tried kept i end h =
      let none_left : drop i all ≡ [] = drop_all i all end in
      let same : kept ++ drop i all ≡ kept = ap (λ ys. kept ++ ys) none_left ∙ append-nil kept in
      record {
        are_inputs = subst (All (IsInput e.prog bounds)) same h.are_inputs;
        distinct = subst AreDistinct same h.distinct;
        none = subst (NonePasses e bounds) same h.none;
        needed = λ k l. subst (SomePasses e bounds) (ap (λ ys. without k kept ++ ys) none_left ∙ append-nil (without k kept)) (h.needed k l);
      }

-- distinct by their places
pub each_apart : (xs : List Input) → ((i j : ℕ) (x : Input) → slice_get xs i ≡ Some x → slice_get xs j ≡ Some x → i ≡ j) → AreDistinct xs
each_apart [] h = tt
each_apart (x ∷ xs) h = ((λ there. not_behind there), each_apart xs (λ i j y a b. omega (arith, h (suc i) (suc j) y a b)))
  where
    not_behind : Contains xs x → ⊥
    not_behind there =
        let found : slice_get xs there.0 ≡ Some x = slice_get-get_or xs there.0 x there.1 ∙ ap Some there.2 in
        let e : 0 ≡ suc there.0 = h 0 (suc there.0) x refl found in
        absurd (omega (arith, e))

pub ruleset thinned = (nothing_kept, each_tried)
