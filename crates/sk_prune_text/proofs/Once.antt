-- A program has one form without what no run can reach.
use Rattle.std.proofs.Common.{◌≡◌, ℕ, zero, suc, Bool, true, false, List, [], ◌∷◌, length, Some, refl, sym, ap, ◌∙◌, arith}
use Rattle.std.proofs.lemmas.Bool.{false≢true}
use Rattle.std.specs.Prelude.{IsTrue, slice_get, slice_index_or}
use Rattle.sk_base.specs.declared.bounds.Bounds.{Bounds}
use Rattle.sk_prog.specs.declared.prog.Fun.{Fun}
use Rattle.sk_prog.specs.declared.prog.Prog.{Prog}
use Rattle.sk_model.specs.Parts.{rank}
use Rattle.sk_prune.specs.Stays.{AreMarks}
use Rattle.sk_prune.specs.Pruned.{trimmed_funs, kept_funs, IsPruned}

-- where one is marked, the others too
abbrev Within : List Bool → List Bool → Type 0
Within a b = (n : ℕ) → IsTrue (slice_index_or a n false) → IsTrue (slice_index_or b n false)

same_mark : (x y : Bool) → (IsTrue x → IsTrue y) → (IsTrue y → IsTrue x) → x ≡ y
same_mark true true f g = refl
same_mark false false f g = refl
same_mark true false f g = sym (f refl)
same_mark false true f g = g refl

same_marks : (a b : List Bool) → length a ≡ length b → Within a b → Within b a → a ≡ b
same_marks [] [] all f g = refl
same_marks [] (y ∷ ys) all f g = absurd (omega (arith, all))
same_marks (x ∷ xs) [] all f g = absurd (omega (arith, all))
same_marks (x ∷ xs) (y ∷ ys) all f g =
    let here = same_mark x y (f zero) (g zero) in
    let more = same_marks xs ys (omega (arith, all)) (λ n. f (suc n)) (λ n. g (suc n)) in
    λ i. here i ∷ more i

-- what is marked is there
there : (funs : List Fun) (marks : List Bool) (n : ℕ) → length marks ≡ length funs → IsTrue (slice_index_or marks n false) → (f : Fun) × (slice_get funs n ≡ Some f)
there funs [] n all h = absurd (false≢true h)
there [] (b ∷ bs) n all h = absurd (omega (arith, all))
there (f ∷ fs) (b ∷ bs) zero all h = (f, refl)
there (f ∷ fs) (b ∷ bs) (suc n) all h = there fs bs n (omega (arith, all)) h

within : (funs : List Fun) (a b : List Bool) → AreMarks funs a → AreMarks funs b → Within a b
within funs a b x y n h = let f = there funs a n x.each h in y.marked n f.0 f.1 (x.stay n h)

one_marks : (funs : List Fun) (a b : List Bool) → AreMarks funs a → AreMarks funs b → a ≡ b
one_marks funs a b x y = same_marks a b (x.each ∙ sym y.each) (within funs a b x y) (within funs b a y x)

pub one_pruned : (bounds : Bounds) (p q r : Prog) → IsPruned bounds p q → IsPruned bounds p r → q ≡ r
one_pruned bounds p q r x y =
    let k = x.funs in
    let l = y.funs in
    let funs : q.funs ≡ r.funs = k.is ∙ ap (λ bs. kept_funs (rank bs) bs (trimmed_funs p bounds.int_bits)) (one_marks (trimmed_funs p bounds.int_bits) k.marks l.marks k.are l.are) ∙ sym l.is in
    let structs : q.structs ≡ r.structs = x.structs ∙ sym y.structs in
    let consts : q.consts ≡ r.consts = x.consts ∙ sym y.consts in
    λ i. record { structs = structs i; consts = consts i; funs = funs i }
