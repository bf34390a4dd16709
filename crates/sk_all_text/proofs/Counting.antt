-- Of choices of which no two agree, no fewer choices agree with each.
use Rattle.std.proofs.Common.{◌≡◌, ℕ, zero, suc, ◌<◌, ◌≤◌, ◌⊎◌, inl, inr, List, [], ◌∷◌, length, refl, sym, ap, subst, ◌∙◌, arith}
use Rattle.std.specs.Prelude.{All, Contains, IsTrue, false, slice_index_or}
use Rattle.std.proofs.lemmas.List.Elements.{All-nil, All-cons, All-head, All-tail, All-weaker, All-contains_itself}
use Rattle.sk_model.specs.declared.expanded.Choice.{Choice}
use Rattle.sk_model.specs.declared.expanded.Expanded.{Expanded}
use Rattle.sk_model.specs.Stands.{AgreeWhereStands, SiteStands, sites_stand}
use Rattle.sk_holes_marks.proofs.SameMarks.{same_stands}
use Rattle.sk_all_listing.specs.Completions.{AreApart, IsApart, IsAmong}

module _ (e : Expanded) where
  abbrev pub Agree : Choice → Choice → Type 0
  Agree c d = AgreeWhereStands e c.values d.values

  -- a site that stands under a choice stands under one that agrees with it
  pub stands_too : (c d : Choice) (i : ℕ) → Agree c d → SiteStands e d.values i → SiteStands e c.values i
  stands_too c d i h s = record { stands = subst (λ ss. IsTrue (slice_index_or (sites_stand ss) i false)) (same_stands e c.values d.values h) s.stands }

  -- two choices with which one agrees agree
  agree_both : (c x y : Choice) → Agree c x → Agree c y → Agree x y
  agree_both c x y hx hy = record { agree = λ i s. let t = stands_too c x i hx s in sym (hx.agree i t) ∙ hy.agree i t }

  agree_back : (c x : Choice) → Agree c x → Agree x c
  agree_back c x h = record { agree = λ i s. sym (h.agree i (stands_too c x i h s)) }

  -- some choice of the list agrees with x
  abbrev Covers : List Choice → Choice → Type 0
  Covers [] x = ⊥
  Covers (c ∷ cs) x = Agree c x ⊎ Covers cs x

  covers_at : (cs : List Choice) (x c : Choice) (k : ℕ) → k < length cs → slice_index_or cs k c ≡ c → Agree c x → Covers cs x
  covers_at [] x c k within is h = absurd (omega (arith, within))
  covers_at (d ∷ cs) x c zero within is h = inl (subst (λ z. Agree z x) (sym is) h)
  covers_at (d ∷ cs) x c (suc k) within is h = inr (covers_at cs x c k (omega (arith, within)) is h)

  covers_among : (cs : List Choice) (x : Choice) → IsAmong e cs x → Covers cs x
  covers_among cs x h = let there = h.1 in covers_at cs x h.0 there.0 there.1 there.2 h.2

  -- the others of the list
  abbrev others : (cs : List Choice) (x : Choice) → Covers cs x → List Choice
  others [] x h = []
  others (c ∷ cs) x (inl h) = cs
  others (c ∷ cs) x (inr h) = c ∷ others cs x h

  others_length : (cs : List Choice) (x : Choice) (h : Covers cs x) → suc (length (others cs x h)) ≡ length cs
  others_length [] x h = absurd h
  others_length (c ∷ cs) x (inl h) = refl
  others_length (c ∷ cs) x (inr h) = ap suc (others_length cs x h)

  -- what does not agree with x agrees with one of the others
  others_cover : (cs : List Choice) (x y : Choice) → (Agree x y → ⊥) → (h : Covers cs x) → Covers cs y → Covers (others cs x h) y
  others_cover [] x y apart h k = absurd h
  others_cover (c ∷ cs) x y apart (inl h) (inl k) = absurd (apart (agree_both c x y h k))
  others_cover (c ∷ cs) x y apart (inl h) (inr k) = k
  others_cover (c ∷ cs) x y apart (inr h) (inl k) = inl k
  others_cover (c ∷ cs) x y apart (inr h) (inr k) = inr (others_cover cs x y apart h k)

  all_covered : (cs : List Choice) (x : Choice) (h : Covers cs x) (ys : List Choice) → All (IsApart e x) ys → All (Covers cs) ys → All (Covers (others cs x h)) ys
  all_covered cs x h [] apart covered = All-nil (Covers (others cs x h))
  all_covered cs x h (y ∷ ys) apart covered =
      let here = All-head (IsApart e x) y ys apart in
      All-cons (Covers (others cs x h)) y ys
      (others_cover cs x y here.first h (All-head (Covers cs) y ys covered))
      (all_covered cs x h ys (All-tail (IsApart e x) y ys apart) (All-tail (Covers cs) y ys covered))

  no_fewer : (xs cs : List Choice) → AreApart e xs → All (Covers cs) xs → length xs ≤ length cs
  no_fewer [] cs apart covered = omega arith
  no_fewer (x ∷ xs) cs apart covered =
      let h = All-head (Covers cs) x xs covered in
      let less = no_fewer xs (others cs x h) apart.1 (all_covered cs x h xs apart.0 (All-tail (Covers cs) x xs covered)) in
      let same = others_length cs x h in
      omega (arith, less, same)

  -- so many choices of which no two agree, and one that agrees with none of them, are more
  pub more_than : (cs : List Choice) (d : Choice) (ds : List Choice) → AreApart e cs → (IsAmong e cs d → ⊥) → ((b : Choice) → Contains (d ∷ cs) b → IsAmong e ds b) → length ds ≤ length cs → ⊥
  more_than cs d ds apart unlisted among few =
      let away : All (IsApart e d) cs = All-weaker (Contains cs) (IsApart e d) (λ c there. record { first = λ h. unlisted (c, there, agree_back d c h); second = λ h. unlisted (c, there, h) }) cs (All-contains_itself cs) in
      let covered : All (Covers ds) (d ∷ cs) = All-weaker (Contains (d ∷ cs)) (Covers ds) (λ b there. covers_among ds b (among b there)) (d ∷ cs) (All-contains_itself (d ∷ cs)) in
      let long = no_fewer (d ∷ cs) ds (away, apart) covered in
      omega (arith, few, long)
