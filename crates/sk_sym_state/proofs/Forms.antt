-- Lists of shapes of the same forms.
use Rattle.std.proofs.Common.{◌≡◌, ℕ, ◌+◌, ◌<◌, ◌++◌, List, [], ◌∷◌, length, map, take, get_or, sym, ap, ◌∙◌}
use Rattle.std.proofs.lemmas.List.{take_more}
use Rattle.sk_dag.specs.declared.shape.Shape.{Shape}
use Rattle.sk_dag.specs.declared.shape.Shape.TheVariants as shape
use Rattle.sk_dag.specs.declared.shape.Seen.TheVariants.{Array as SeenArray}
use Rattle.sk_arr.specs.Shapes.{blank, Alike}
use Rattle.sk_arr.proofs.Forms.{form_bit, form_int, form_reference, form_array, only_bit, only_int, only_reference, only_array}
use Rattle.sk_arr.proofs.Values.{blank_array, map_push}

pub alike_arrays : {s u : Shape} (ss us : List Shape) → s ≡ shape.Array ss → u ≡ shape.Array us → map blank ss ≡ map blank us → Alike s u
alike_arrays ss us p q h = ap blank p ∙ blank_array ss ∙ ap (λ l. SeenArray l) h ∙ sym (blank_array us) ∙ sym (ap blank q)

pub alike_more : (list others : List Shape) (i : ℕ) (a b : Shape) → i < length list → i < length others → a ≡ get_or list i a → b ≡ get_or others i b → map blank (take i list) ≡ map blank (take i others) → Alike a b → map blank (take (i + 1) list) ≡ map blank (take (i + 1) others)
alike_more list others i a b l m p q h k =
    let x = take_more list i a l ∙ ap (λ z. take i list ++ z ∷ []) (sym p) in
    let y = take_more others i b m ∙ ap (λ z. take i others ++ z ∷ []) (sym q) in
    ap (map blank) x ∙ map_push blank (take i list) a ∙ (λ j. h j ++ k j ∷ []) ∙ sym (map_push blank (take i others) b) ∙ sym (ap (map blank) y)

-- what is of the form of a bit is one, and so for each form
pub ruleset of_one_form = (form_bit, form_int, form_reference, form_array, only_bit, only_int, only_reference, only_array)
