-- A fact of each part of a shape, and what a shape is, by its variants.
use Rattle.std.proofs.Common.{◌≡◌, Bool, true, false, true≢false, List, [], ◌∷◌, map, All, refl, sym, ap, subst, ◌∙◌}
use Rattle.std.proofs.lemmas.List.Elements.{All-nil, All-cons, All-head, All-tail}
use Rattle.sk_dag.specs.declared.node.BoolId.{BoolId}
use Rattle.sk_dag.specs.declared.node.WordId.{WordId}
use Rattle.sk_dag.specs.declared.shape.Targets.{Targets}
use Rattle.sk_dag.specs.declared.shape.Shape.{Shape}
use Rattle.sk_dag.specs.declared.shape.Shape.TheVariants as shape
use Rattle.sk_dag.specs.declared.shape.Shape.TheOpen as F
use Rattle.sk_dag.specs.declared.shape.Shape.TheViews.{roll-Shape, outs-Bit, outs-Int, outs-Reference, outs-Array}
use Rattle.sk_dag.specs.declared.shape.Shape.TheFolds.{fold-Shape, fold-roll-Shape, ind-Shape, map-Shape, every-Shape, every_here-Shape, every_held-Shape, every_made-Shape}

module _ (Q : F.Shape-F Shape → Type 0) where
  pub every_bit : (a : BoolId) → Q (F.Bit a) → every-Shape Q (shape.Bit a)
  every_bit a h = subst (every-Shape Q) (shape.rolls-Bit a) (every_made-Shape Q (F.Bit a) (F.Bit a) refl h)

  pub every_int : (a : WordId) → Q (F.Int a) → every-Shape Q (shape.Int a)
  every_int a h = subst (every-Shape Q) (shape.rolls-Int a) (every_made-Shape Q (F.Int a) (F.Int a) refl h)

  pub every_reference : (a : Targets) → Q (F.Reference a) → every-Shape Q (shape.Reference a)
  every_reference a h = subst (every-Shape Q) (shape.rolls-Reference a) (every_made-Shape Q (F.Reference a) (F.Reference a) refl h)

  pub bit_every : (a : BoolId) → every-Shape Q (shape.Bit a) → Q (F.Bit a)
  bit_every a h = subst Q (outs-Bit a) (every_here-Shape Q (shape.Bit a) h)

  pub int_every : (a : WordId) → every-Shape Q (shape.Int a) → Q (F.Int a)
  int_every a h = subst Q (outs-Int a) (every_here-Shape Q (shape.Int a) h)

  pub array_here : (ss : List Shape) → every-Shape Q (shape.Array ss) → Q (F.Array ss)
  array_here ss h = subst Q (outs-Array ss) (every_here-Shape Q (shape.Array ss) h)

  pub reference_every : (a : Targets) → every-Shape Q (shape.Reference a) → Q (F.Reference a)
  reference_every a h = subst Q (outs-Reference a) (every_here-Shape Q (shape.Reference a) h)

  abbrev Each : Type 0
  Each = (z : Shape) × every-Shape Q z

  paired : (ss : List Shape) → All (every-Shape Q) ss → (zs : List Each) × (map (λ z. z.0) zs ≡ ss)
  paired [] h = ([], refl)
  paired (s ∷ ss) h = let rest = paired ss (All-tail (every-Shape Q) s ss h) in ((s, All-head (every-Shape Q) s ss h) ∷ rest.0, ap (λ l. s ∷ l) rest.1)

  each_held : (zs : List Each) → All (every-Shape Q) (map (λ z. z.0) zs)
  each_held [] = All-nil (every-Shape Q)
  each_held (z ∷ zs) = All-cons (every-Shape Q) z.0 (map (λ y. y.0) zs) z.1 (each_held zs)

  pub every_array : (ss : List Shape) → Q (F.Array ss) → All (every-Shape Q) ss → every-Shape Q (shape.Array ss)
  every_array ss h all = let p = paired ss all in subst (every-Shape Q) (shape.rolls-Array ss) (every_made-Shape Q (F.Array ss) (F.Array p.0) (ap (λ l. F.Array l) p.1) h)

  pub array_every : (ss : List Shape) → every-Shape Q (shape.Array ss) → All (every-Shape Q) ss
  array_every ss h = let held = every_held-Shape Q (shape.Array ss) h in by held.0 (held.1 ∙ outs-Array ss)
    where
      parts_of : F.Shape-F Shape → List Shape
      parts_of (F.Array zs) = zs
      parts_of _ = []

      is_array : F.Shape-F Shape → Bool
      is_array (F.Array zs) = true
      is_array _ = false

      by : (y : F.Shape-F ((z : Shape) × every-Shape Q z)) → map-Shape _ _ (λ z. z.0) y ≡ F.Array ss → All (every-Shape Q) ss
      by (F.Bit a) e = absurd (true≢false (sym (ap is_array e)))
      by (F.Int a) e = absurd (true≢false (sym (ap is_array e)))
      by (F.Reference a) e = absurd (true≢false (sym (ap is_array e)))
      by (F.Array zs) e = subst (All (every-Shape Q)) (ap parts_of e) (each_held zs)

module _ (A : Type 0) (step : F.Shape-F A → A) where
  pub fold_bit : (a : BoolId) → fold-Shape A step (shape.Bit a) ≡ step (F.Bit a)
  fold_bit a = ap (fold-Shape A step) (sym (shape.rolls-Bit a)) ∙ fold-roll-Shape A step (F.Bit a)

  pub fold_int : (a : WordId) → fold-Shape A step (shape.Int a) ≡ step (F.Int a)
  fold_int a = ap (fold-Shape A step) (sym (shape.rolls-Int a)) ∙ fold-roll-Shape A step (F.Int a)

  pub fold_reference : (a : Targets) → fold-Shape A step (shape.Reference a) ≡ step (F.Reference a)
  fold_reference a = ap (fold-Shape A step) (sym (shape.rolls-Reference a)) ∙ fold-roll-Shape A step (F.Reference a)

  pub fold_array : (ss : List Shape) → fold-Shape A step (shape.Array ss) ≡ step (F.Array (map (fold-Shape A step) ss))
  fold_array ss = ap (fold-Shape A step) (sym (shape.rolls-Array ss)) ∙ fold-roll-Shape A step (F.Array ss)

-- what holds of each shape, by its variants
module _ (P : Shape → Type 0) (bit : (a : BoolId) → P (shape.Bit a)) (int : (a : WordId) → P (shape.Int a)) (reference : (a : Targets) → P (shape.Reference a)) (array : (ss : List Shape) → All P ss → P (shape.Array ss)) where
  each_is : (zs : List ((z : Shape) × P z)) → All P (map (λ z. z.0) zs)
  each_is [] = All-nil P
  each_is (z ∷ zs) = All-cons P z.0 (map (λ y. y.0) zs) z.1 (each_is zs)

  layer : (y : F.Shape-F ((z : Shape) × P z)) → P (roll-Shape (map-Shape _ _ (λ z. z.0) y))
  layer (F.Bit a) = subst P (sym (shape.rolls-Bit a)) (bit a)
  layer (F.Int a) = subst P (sym (shape.rolls-Int a)) (int a)
  layer (F.Reference a) = subst P (sym (shape.rolls-Reference a)) (reference a)
  layer (F.Array zs) = subst P (sym (shape.rolls-Array (map (λ z. z.0) zs))) (array (map (λ z. z.0) zs) (each_is zs))

  pub shape_law : (s : Shape) → P s
  shape_law = ind-Shape P (λ x y is. subst (λ z. P (roll-Shape z)) is (layer y))

-- what follows of each part follows of the shape
pub every_more : (Q R : F.Shape-F Shape → Type 0) → ((x : F.Shape-F Shape) → Q x → R x) → (s : Shape) → every-Shape Q s → every-Shape R s
every_more Q R more = shape_law (λ s. every-Shape Q s → every-Shape R s)
    (λ a h. every_bit R a (more (F.Bit a) (bit_every Q a h)))
    (λ a h. every_int R a (more (F.Int a) (int_every Q a h)))
    (λ a h. every_reference R a (more (F.Reference a) (reference_every Q a h)))
    (λ ss below h. every_array R ss (more (F.Array ss) (array_here Q ss h)) (λ k d lt. below k d lt (array_every Q ss h k d lt)))
