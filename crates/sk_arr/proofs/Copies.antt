-- Copies of shapes.
use Rattle.std.proofs.lemmas.List.{take_more}
use Rattle.std.proofs.Common.{◌≡◌, ℕ, ◌+◌, ◌<◌, ◌≤◌, List, [], ◌∷◌, ◌++◌, length, take, get_or, refl, sym, ap, subst, ◌∙◌}
use Rattle.sk_dag.specs.declared.shape.Targets.{Targets}
use Rattle.sk_dag.specs.declared.shape.Seen.TheVariants.{Slot as SeenSlot, Array as SeenArray}
use Rattle.sk_dag.specs.declared.shape.Shape.{Shape}
use Rattle.sk_dag.specs.declared.shape.Shape.TheVariants as shape
use Rattle.sk_dag.specs.Graph.{Graph}
use Rattle.sk_dag.specs.EvalShape.{shape_value, held_slot}
use Rattle.sk_arr.specs.Held.{held_in, AllIn, AllPass}
use Rattle.sk_arr.specs.Shapes.{blank, Stands, AllStand}
use Rattle.sk_arr.specs.Answers.{IsCopy, AreCopies}
use Rattle.sk_arr.proofs.Standing.{reference_stands, targets_there, targets_few, array_stands, parts_stand}
use Rattle.sk_arr.proofs.Values.{value_reference, value_array, blank_reference, blank_array, reference_passes, targets_pass, array_passes, parts_pass, map_push, stand_none, stand_push, passes_push, passes_front, passes_last, stand_front, stand_last}

pub IsCopy-refl : (g : Graph) (a : Shape) → Stands g a → IsCopy g a a
IsCopy-refl g a h = record { stands = h; alike = refl; named = λ test p. p; value = λ k e. refl }

pub copy_reference : (g : Graph) (a t : Targets) → t.slots.items ≡ a.slots.items → Stands g (shape.Reference a) → IsCopy g (shape.Reference a) (shape.Reference t)
copy_reference g a t is h = record {
  stands = reference_stands g t (subst (AllIn g) (sym is) (targets_there h refl)) (λ e. subst (λ ts. length (held_in g e ts) ≤ 1) (sym is) (targets_few g a h e));
  alike = blank_reference t ∙ sym (blank_reference a);
  named = λ test p. reference_passes test t (subst (AllPass test) (sym is) (targets_pass test a p));
  value = λ k e. value_reference k e t ∙ ap (λ ts. SeenSlot (held_slot k e ts)) is ∙ sym (value_reference k e a);
}

pub copy_array : (g : Graph) (ss rs : List Shape) → (AllStand g ss → AreCopies g ss rs) → Stands g (shape.Array ss) → IsCopy g (shape.Array ss) (shape.Array rs)
copy_array g ss rs copies h = record {
  stands = array_stands g rs are.stands;
  alike = blank_array rs ∙ ap (λ l. SeenArray l) are.alike ∙ sym (blank_array ss);
  named = λ test p. array_passes test rs (are.named test (parts_pass test ss p));
  value = λ k e. value_array k e rs ∙ ap (λ l. SeenArray l) (are.value k e) ∙ sym (value_array k e ss);
}
  where
    are : AreCopies g ss rs
    are = copies (parts_stand h refl)

pub copies_none : (g : Graph) → AreCopies g [] []
copies_none g = record { stands = stand_none g; alike = refl; named = λ test p. p; value = λ k e. refl }

pub copies_push : (g : Graph) (ss rs : List Shape) (a r : Shape) → AreCopies g ss rs → IsCopy g a r → AreCopies g (ss ++ a ∷ []) (rs ++ r ∷ [])
copies_push g ss rs a r are is = record {
  stands = stand_push rs r are.stands is.stands;
  alike = map_push blank rs r ∙ (λ i. are.alike i ++ is.alike i ∷ []) ∙ sym (map_push blank ss a);
  named = λ test p. passes_push rs r (are.named test (passes_front ss a p)) (is.named test (passes_last ss a p));
  value = λ k e. map_push (shape_value k e) rs r ∙ (λ i. are.value k e i ++ is.value k e i ∷ []) ∙ sym (map_push (shape_value k e) ss a);
}

-- in the words of a match on the shape
pub copy_targets_at : {g : Graph} {s : Shape} {a t : Targets} → s ≡ shape.Reference a → t.slots.items ≡ a.slots.items → Stands g s → IsCopy g s (shape.Reference t)
copy_targets_at {g} {s} {a} {t} is items h = subst (λ x. IsCopy g x (shape.Reference t)) (sym is) (copy_reference g a t items (subst (Stands g) is h))

pub copy_parts_at : {g : Graph} {s : Shape} {ss rs : List Shape} → s ≡ shape.Array ss → (AllStand g ss → AreCopies g ss rs) → Stands g s → IsCopy g s (shape.Array rs)
copy_parts_at {g} {s} {ss} {rs} is are h = subst (λ x. IsCopy g x (shape.Array rs)) (sym is) (copy_array g ss rs are (subst (Stands g) is h))

pub copies_more : {g : Graph} (list made : List Shape) (i : ℕ) (a r : Shape) → i < length list → a ≡ get_or list i a → (AllStand g (take i list) → AreCopies g (take i list) made) → (Stands g a → IsCopy g a r) → AllStand g (take (i + 1) list) → AreCopies g (take (i + 1) list) (made ++ r ∷ [])
copies_more {g} list made i a r l at are is h =
    let more : take (i + 1) list ≡ take i list ++ a ∷ [] = take_more list i a l ∙ ap (λ x. take i list ++ x ∷ []) (sym at) in
    let h' : AllStand g (take i list ++ a ∷ []) = subst (AllStand g) more h in
    subst (λ xs. AreCopies g xs (made ++ r ∷ [])) (sym more) (copies_push g (take i list) made a r (are (stand_front (take i list) a h')) (is (stand_last (take i list) a h')))

pub ruleset copies = (IsCopy-refl, copy_targets_at, copy_parts_at)
