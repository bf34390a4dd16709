-- Which slots shapes name.
use Rattle.std.proofs.Common.{◌≡◌, ℕ, ◌+◌, ◌<◌, ◌≤◌, Bool, List, [], ◌∷◌, ◌++◌, length, take, get_or, IsTrue, sym, ap, subst, ◌∙◌}
use Rattle.std.proofs.lemmas.List.{take_more, take_all}
use Rattle.std.proofs.lemmas.List.Elements.{All-nil}
use Rattle.sk_dag.specs.declared.node.BoolId.{BoolId}
use Rattle.sk_dag.specs.declared.node.WordId.{WordId}
use Rattle.sk_dag.specs.declared.shape.Shape.{Shape}
use Rattle.sk_dag.specs.declared.shape.Shape.TheVariants as shape
use Rattle.sk_dag.specs.declared.shape.Targets.{Targets}
use Rattle.sk_arr.specs.Held.{AllPass}
use Rattle.sk_arr.specs.Shapes.{SlotsPass, AllSlotsPass}
use Rattle.sk_arr.proofs.Values.{bit_passes, int_passes, reference_passes, array_passes, passes_push}

module _ (test : ℕ → Bool) where
  pub bit_names : {r : Shape} {a : BoolId} → r ≡ shape.Bit a → SlotsPass test r
  bit_names {r} {a} is = subst (SlotsPass test) (sym is) (bit_passes test a)

  pub int_names : {r : Shape} {a : WordId} → r ≡ shape.Int a → SlotsPass test r
  int_names {r} {a} is = subst (SlotsPass test) (sym is) (int_passes test a)

  pub reference_names : {r : Shape} {a : Targets} → r ≡ shape.Reference a → AllPass test a.slots.items → SlotsPass test r
  reference_names {r} {a} is h = subst (SlotsPass test) (sym is) (reference_passes test a h)

  pub array_names : {r : Shape} {list : List Shape} → r ≡ shape.Array list → AllSlotsPass test list → SlotsPass test r
  array_names {r} {list} is h = subst (SlotsPass test) (sym is) (array_passes test list h)

  -- no target, none of a list, one more, and all of it
  pub no_target : {targets : List (ℕ × BoolId)} → targets ≡ [] → AllPass test targets
  no_target {targets} is = subst (AllPass test) (sym is) (record { each = All-nil (λ target. IsTrue (test target.0)) })

  pub names_none : (list : List Shape) → AllSlotsPass test (take 0 list)
  names_none list = record { each = All-nil (SlotsPass test) }

  pub names_more : (list : List Shape) (i : ℕ) (r : Shape) → i < length list → r ≡ get_or list i r → AllSlotsPass test (take i list) → SlotsPass test r → AllSlotsPass test (take (i + 1) list)
  names_more list i r l is h one = subst (AllSlotsPass test) (sym (take_more list i r l ∙ ap (λ y. take i list ++ y ∷ []) (sym is))) (passes_push (take i list) r h one)

  pub names_all : (list : List Shape) (i : ℕ) → length list ≤ i → AllSlotsPass test (take i list) → AllSlotsPass test list
  names_all list i l h = subst (AllSlotsPass test) (take_all i list l) h
