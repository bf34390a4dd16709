-- What a place is, by its variants: folds of it, and facts of each of its parts.
use Rattle.std.proofs.Common.{◌≡◌, Bool, true, false, true≢false, refl, sym, ap, subst, ◌∙◌}
use Rattle.sk_dag.specs.declared.node.BoolId.{BoolId}
use Rattle.sk_sym_stores.specs.declared.location.Location.{Location}
use Rattle.sk_sym_places.specs.declared.place.Place.{Place}
use Rattle.sk_sym_places.specs.declared.place.Place.TheVariants as place
use Rattle.sk_sym_places.specs.declared.place.Place.TheOpen as F
use Rattle.sk_sym_places.specs.declared.place.Place.TheViews.{roll-Place, outs-One, outs-Either}
use Rattle.sk_sym_places.specs.declared.place.Place.TheFolds.{fold-Place, fold-roll-Place, ind-Place, map-Place, every-Place, every_here-Place, every_held-Place, every_made-Place}

module _ (A : Type 0) (step : F.Place-F A → A) where
  pub fold_one : (l : Location) → fold-Place A step (place.One l) ≡ step (F.One l)
  fold_one l = ap (fold-Place A step) (sym (place.rolls-One l)) ∙ fold-roll-Place A step (F.One l)

  pub fold_either : (cond : BoolId) (a b : Place) → fold-Place A step (place.Either cond a b) ≡ step (F.Either cond (fold-Place A step a) (fold-Place A step b))
  fold_either cond a b = ap (fold-Place A step) (sym (place.rolls-Either cond a b)) ∙ fold-roll-Place A step (F.Either cond a b)

module _ (Q : F.Place-F Place → Type 0) where
  pub every_one : (l : Location) → Q (F.One l) → every-Place Q (place.One l)
  every_one l h = subst (every-Place Q) (place.rolls-One l) (every_made-Place Q (F.One l) (F.One l) refl h)

  pub every_either : (cond : BoolId) (a b : Place) → Q (F.Either cond a b) → every-Place Q a → every-Place Q b → every-Place Q (place.Either cond a b)
  every_either cond a b h x y = subst (every-Place Q) (place.rolls-Either cond a b) (every_made-Place Q (F.Either cond a b) (F.Either cond (a, x) (b, y)) refl h)

  pub one_every : (l : Location) → every-Place Q (place.One l) → Q (F.One l)
  one_every l h = subst Q (outs-One l) (every_here-Place Q (place.One l) h)

  pub either_every : (cond : BoolId) (a b : Place) → every-Place Q (place.Either cond a b) → Q (F.Either cond a b)
  either_every cond a b h = subst Q (outs-Either cond a b) (every_here-Place Q (place.Either cond a b) h)

  pub either_parts : (cond : BoolId) (a b : Place) → every-Place Q (place.Either cond a b) → every-Place Q a × every-Place Q b
  either_parts cond a b h = let held = every_held-Place Q (place.Either cond a b) h in by held.0 (held.1 ∙ outs-Either cond a b)
    where
      is_either : F.Place-F Place → Bool
      is_either (F.One l) = false
      is_either (F.Either c x y) = true

      first_of : F.Place-F Place → Place
      first_of (F.One l) = a
      first_of (F.Either c x y) = x

      second_of : F.Place-F Place → Place
      second_of (F.One l) = a
      second_of (F.Either c x y) = y

      by : (z : F.Place-F ((z : Place) × every-Place Q z)) → map-Place _ _ (λ z. z.0) z ≡ F.Either cond a b → every-Place Q a × every-Place Q b
      by (F.One l) e = absurd (true≢false (sym (ap is_either e)))
      by (F.Either c x y) e = (subst (every-Place Q) (ap first_of e) x.1, subst (every-Place Q) (ap second_of e) y.1)

-- what holds of each place, by its variants
module _ (P : Place → Type 0) (one : (l : Location) → P (place.One l)) (either : (cond : BoolId) (a b : Place) → P a → P b → P (place.Either cond a b)) where
  layer : (y : F.Place-F ((z : Place) × P z)) → P (roll-Place (map-Place _ _ (λ z. z.0) y))
  layer (F.One l) = subst P (sym (place.rolls-One l)) (one l)
  layer (F.Either cond x y) = subst P (sym (place.rolls-Either cond x.0 y.0)) (either cond x.0 y.0 x.1 y.1)

  pub place_law : (p : Place) → P p
  place_law = ind-Place P (λ x y is. subst (λ z. P (roll-Place z)) is (layer y))

-- what follows of each part follows of the place
pub every_more : (Q R : F.Place-F Place → Type 0) → ((x : F.Place-F Place) → Q x → R x) → (p : Place) → every-Place Q p → every-Place R p
every_more Q R more = place_law (λ p. every-Place Q p → every-Place R p)
    (λ l h. every_one R l (more (F.One l) (one_every Q l h)))
    (λ cond a b x y h. let both = either_parts Q cond a b h in every_either R cond a b (more (F.Either cond a b) (either_every Q cond a b h)) (x both.0) (y both.1))
