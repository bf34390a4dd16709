-- Where something stands in a list.
use Rattle.std.proofs.Common.{◌≡◌, ℕ, suc, ◌+◌, ◌<◌, List, [], ◌∷◌, length, drop, get_or, refl, sym, ap, ◌∙◌, add-one, arith}
use Rattle.std.specs.Prelude.{Option, Some, None}
use Rattle.std.proofs.Math.Seq.{drop-cons}
use Rattle.sk_types_rules.specs.Scope.{next_place}

-- a place so far behind
abbrev pub past : ℕ → Option ℕ → Option ℕ
past i None = None
past i (Some j) = Some (i + j)

pub past_next : (i : ℕ) (o : Option ℕ) → past i (next_place o) ≡ past (i + 1) o
past_next i None = refl
past_next i (Some j) = let e : i + suc j ≡ (i + 1) + j = omega arith in ap Some e

-- the item that a loop is at
pub split_at : {X : Type 0} (xs : List X) (i : ℕ) (x : X) → i < length xs → x ≡ get_or xs i x → drop i xs ≡ x ∷ drop (i + 1) xs
split_at xs i x h e = drop-cons xs i x h ∙ ap (λ y. y ∷ drop (suc i) xs) (sym e) ∙ ap (λ n. x ∷ drop n xs) (sym (add-one i))
