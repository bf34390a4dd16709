-- Where all completions are listed, there is one such list.
use Rattle.std.proofs.Common.{◌≡◌, ℕ, zero, suc, ◌<◌, Bool, true, false, ◌&&◌, ◌||◌, ◌⊎◌, inl, inr, List, [], ◌∷◌, length, refl, sym, ap, subst, ◌∙◌, arith}
use Rattle.std.specs.Prelude.{All, IsTrue, nat_eq, nat_lt, slice_index_or}
use Rattle.std.proofs.lemmas.Bool.{false≢true, cases_order}
use Rattle.std.proofs.lemmas.Bool.Decides.{nat_tests}
use Rattle.std.proofs.lemmas.List.Elements.{All-head, All-tail}
use Rattle.sk_base.specs.declared.bounds.Bounds.{Bounds}
use Rattle.sk_model.specs.declared.expanded.Choice.{Choice}
use Rattle.sk_model.specs.declared.expanded.Expanded.{Expanded}
use Rattle.sk_model.specs.declared.expanded.Site.{Site}
use Rattle.sk_model.specs.Fill.{Fits}
use Rattle.sk_model.specs.Parts.{value}
use Rattle.sk_model.specs.Stands.{standing, sites_stand}
use Rattle.sk_all_listing.specs.Order.{AreAscending, is_before}
use Rattle.sk_all_listing.specs.Completions.{AreListedChoices, IsListedChoice, IsAmong}
use Rattle.sk_all_text.specs.AllLines.{all_text}
use Rattle.sk_all_text.specs.AllTexts.{TellsAll}
use Rattle.sk_all_text.proofs.Counting.{Agree, stands_too}

-- ---- the order

first_more : (v w : ℕ) (b : Bool) → w < v → (nat_lt v w || (nat_eq v w && b)) ≡ false
first_more v w b h =
    let t : nat_lt v w ≡ false = grind (arith, nat_tests, h) in
    let u : nat_eq v w ≡ false = grind (arith, nat_tests, h) in
    rw (t, u) refl

first_same : (v w : ℕ) (b : Bool) → v ≡ w → (nat_lt v w || (nat_eq v w && b)) ≡ b
first_same v w b h =
    let t : nat_lt v w ≡ false = grind (arith, nat_tests, h) in
    let u : nat_eq v w ≡ true = grind (arith, nat_tests, h) in
    rw (t, u) refl

-- of two lists one at most is before the other
one_way : (vs ws : List ℕ) → is_before vs ws ≡ true → is_before ws vs ≡ true → ⊥
one_way [] ws h k = false≢true h
one_way (v ∷ vs) [] h k = false≢true h
one_way (v ∷ vs) (w ∷ ws) h k = by (cases_order v w) (λ b c. one_way vs ws b c)
  where
    by : (v ≡ w) ⊎ ((v < w) ⊎ (w < v)) → (is_before vs ws ≡ true → is_before ws vs ≡ true → ⊥) → ⊥
    by (inl same) rest = rest (sym (first_same v w (is_before vs ws) same) ∙ h) (sym (first_same w v (is_before ws vs) (sym same)) ∙ k)
    by (inr (inl less)) rest = false≢true (sym (first_more w v (is_before ws vs) less) ∙ k)
    by (inr (inr more)) rest = false≢true (sym (first_more v w (is_before vs ws) more) ∙ h)

-- ---- members

abbrev In : List Choice → Choice → Type 0
In [] x = ⊥
In (c ∷ cs) x = (c ≡ x) ⊎ In cs x

in_at : (cs : List Choice) (x : Choice) (k : ℕ) → k < length cs → slice_index_or cs k x ≡ x → In cs x
in_at [] x k within is = absurd (omega (arith, within))
in_at (c ∷ cs) x zero within is = inl is
in_at (c ∷ cs) x (suc k) within is = inr (in_at cs x k (omega (arith, within)) is)

in_all : (P : Choice → Type 0) (cs : List Choice) (x : Choice) → All P cs → In cs x → P x
in_all P [] x all h = absurd h
in_all P (c ∷ cs) x all (inl is) = subst P is (All-head P c cs all)
in_all P (c ∷ cs) x all (inr h) = in_all P cs x (All-tail P c cs all) h

abbrev IsBefore : Choice → Choice → Type 0
IsBefore c x = IsTrue (is_before c.values x.values)

heads : (c : Choice) (cs : List Choice) (d : Choice) (ds : List Choice) → All (IsBefore c) cs → All (IsBefore d) ds → In (d ∷ ds) c → In (c ∷ cs) d → c ≡ d
heads c cs d ds ac ad (inl is) k = sym is
heads c cs d ds ac ad (inr h) (inl is) = is
heads c cs d ds ac ad (inr h) (inr k) = absurd (one_way c.values d.values (in_all (IsBefore c) cs d ac k) (in_all (IsBefore d) ds c ad h))

tail_of : (c d x : Choice) (ds : List Choice) → c ≡ d → IsBefore c x → In (d ∷ ds) x → In ds x
tail_of c d x ds same before (inl is) = let self : IsBefore x x = subst (λ z. IsBefore z x) (same ∙ is) before in absurd (one_way x.values x.values self self)
tail_of c d x ds same before (inr h) = h

-- lists in ascending order with the same members are one
ascend_once : (cs ds : List Choice) → AreAscending cs → AreAscending ds → ((x : Choice) → In cs x → In ds x) → ((x : Choice) → In ds x → In cs x) → cs ≡ ds
ascend_once [] [] ac ad there back = refl
ascend_once [] (d ∷ ds) ac ad there back = absurd (back d (inl refl))
ascend_once (c ∷ cs) [] ac ad there back = absurd (there c (inl refl))
ascend_once (c ∷ cs) (d ∷ ds) ac ad there back =
    let same : c ≡ d = heads c cs d ds ac.0 ad.0 (there c (inl refl)) (back d (inl refl)) in
    let rest : cs ≡ ds = ascend_once cs ds ac.1 ad.1
    (λ x h. tail_of c d x ds same (in_all (IsBefore c) cs x ac.0 h) (there x (inr h)))
    (λ x h. tail_of d c x cs (sym same) (in_all (IsBefore d) ds x ad.0 h) (back x (inr h))) in
    λ j. same j ∷ rest j

-- ---- choices that are 0 where no site stands

values_once : (ss : List Site) (vs ws : List ℕ) → Fits ss vs → Fits ss ws → ((i : ℕ) → value vs i ≡ value ws i) → vs ≡ ws
values_once [] [] [] f g same = refl
values_once [] [] (w ∷ ws) f g same = absurd g
values_once [] (v ∷ vs) ws f g same = absurd f
values_once (s ∷ ss) [] ws f g same = absurd f
values_once (s ∷ ss) (v ∷ vs) [] f g same = absurd g
values_once (s ∷ ss) (v ∷ vs) (w ∷ ws) f g same = λ j. same 0 j ∷ values_once ss vs ws f.1 g.1 (λ i. same (suc i)) j

module _ (bounds : Bounds) (e : Expanded) where
  same_value : (c d : Choice) (i : ℕ) (b : Bool) → slice_index_or (sites_stand (standing e c.values)) i false ≡ b → IsListedChoice e bounds c → IsListedChoice e bounds d → Agree e c d → value c.values i ≡ value d.values i
  same_value c d i true is lc ld h = h.agree i (record { stands = is })
  same_value c d i false is lc ld h =
      lc.canonical.is_zero i (λ s. false≢true (sym is ∙ s.stands))
      ∙ sym (ld.canonical.is_zero i (λ s. let t = stands_too e c d i h s in false≢true (sym is ∙ t.stands)))

  one_choice : (c d : Choice) → IsListedChoice e bounds c → IsListedChoice e bounds d → Agree e c d → c ≡ d
  one_choice c d lc ld h =
      let same : c.values ≡ d.values = values_once e.sites c.values d.values lc.meeting.range.fits ld.meeting.range.fits (λ i. same_value c d i (slice_index_or (sites_stand (standing e c.values)) i false) refl lc ld h) in
      λ j. record { values = same j }

  -- a choice that is listed agrees with one of the others, and is that one
  in_other : (cs ds : List Choice) → AreListedChoices e bounds cs → AreListedChoices e bounds ds → ((b : Choice) → IsListedChoice e bounds b → IsAmong e ds b) → (x : Choice) → In cs x → In ds x
  in_other cs ds lc ld whole x h =
      let listed = in_all (IsListedChoice e bounds) cs x lc.each h in
      let among = whole x listed in
      let at = among.1 in
      let there : In ds among.0 = in_at ds among.0 at.0 at.1 at.2 in
      subst (λ z. In ds z) (one_choice among.0 x (in_all (IsListedChoice e bounds) ds among.0 ld.each there) listed among.2) there

  pub one_text : (most : ℕ) (a b : List ℕ) → TellsAll most a bounds e → TellsAll most b bounds e → a ≡ b
  one_text most a b x y =
      let same : x.choices ≡ y.choices = ascend_once x.choices y.choices x.listed.ascend y.listed.ascend
      (in_other x.choices y.choices x.listed y.listed (λ c l. y.whole c l.meeting))
      (in_other y.choices x.choices y.listed x.listed (λ c l. x.whole c l.meeting)) in
      x.is ∙ ap all_text same ∙ sym y.is
