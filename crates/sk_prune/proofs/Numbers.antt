-- The table of new numbers holds the ranks.
use Rattle.std.proofs.Common.{◌≡◌, ◌<◌, ℕ, zero, suc, ◌+◌, Bool, false, length, List, [], ◌∷◌, Option, Some, None, refl, ap, ◌∙◌, arith}
use Rattle.std.specs.Prelude.{◌==◌, slice_get, slice_index_or}
use Rattle.sk_model.specs.Parts.{one_if, rank}
use Rattle.sk_expand_copies.specs.Ranks.{ranks_from, count_true}
use Rattle.sk_prog.specs.declared.ty.Ty.TheVariants as ty
use Rattle.sk_prog.specs.declared.ty.Elem.TheVariants as elem
use Rattle.sk_prog.specs.declared.expr.PEForm.TheVariants as eform
use Rattle.sk_prune.specs.Renamed.{hole_renamed}
use Rattle.sk_prune.specs.Numbered.{numbered}

pub look_some : {A : Type 0} (xs : List A) (v : ℕ) (d x : A) → slice_get xs v ≡ Some x → slice_index_or xs v d ≡ x
look_some [] v d x h = cc
look_some (y ∷ ys) zero d x h = cc
look_some (y ∷ ys) (suc v) d x h = look_some ys v d x h

pub look_none : {A : Type 0} (xs : List A) (v : ℕ) (d : A) → slice_get xs v ≡ None → slice_index_or xs v d ≡ d
look_none [] v d h = refl
look_none (y ∷ ys) zero d h = cc
look_none (y ∷ ys) (suc v) d h = look_none ys v d h

pub within : {A : Type 0} (xs : List A) (v : ℕ) (x : A) → slice_get xs v ≡ Some x → v < length xs
within [] v x h = cc
within (y ∷ ys) zero x h = omega arith
within (y ∷ ys) (suc v) x h = let less = within ys v x h in omega (arith, less)

pub ruleset looked_up = (look_some, look_none, within)

ranks_are : (k : ℕ) (bs : List Bool) (n : ℕ) → numbered (ranks_from k bs) (k + count_true bs) n ≡ k + rank bs n
ranks_are k [] zero = refl
ranks_are k [] (suc n) = refl
ranks_are k (b ∷ bs) zero = omega arith
ranks_are k (b ∷ bs) (suc n) =
    let e : k + (one_if b + count_true bs) ≡ k + one_if b + count_true bs = omega arith in
    ap (λ m. numbered (ranks_from (k + one_if b) bs) m n) e ∙ ranks_are (k + one_if b) bs n ∙ omega arith

pub ranks : (bs : List Bool) → numbered (ranks_from 0 bs) (count_true bs) ≡ rank bs
ranks bs =
    let law : (n : ℕ) → numbered (ranks_from 0 bs) (count_true bs) n ≡ rank bs n = λ n.
    let e : count_true bs ≡ 0 + count_true bs = omega arith in
    ap (λ m. numbered (ranks_from 0 bs) m n) e ∙ ranks_are 0 bs n ∙ omega arith in
    λ j n. law n j

pub some_bits : (bits : Option ℕ) (n : ℕ) → (n == 0) ≡ false → hole_renamed bits (Some (ty.Array elem.Bit n)) ≡ eform.Hole bits
some_bits bits zero h = cc
some_bits bits (suc n) h = refl
