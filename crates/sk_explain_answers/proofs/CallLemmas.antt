-- Words that spell numbers of obligations.
use Rattle.std.proofs.Common.{◌≡◌, ℕ, zero, suc, ◌+◌, ◌<◌, false, List, [], ◌∷◌, length, drop, get_or, decimal, refl, sym, ap, ◌∙◌, arith}
use Rattle.std.specs.Str.{bytes_eq}
use Rattle.std.proofs.lemmas.List.{drop_more}
use Rattle.sk_model.specs.declared.expanded.Obligation.{Obligation}
use Rattle.sk_explain_answers.specs.Calls.{obligation_from}

item_at : (xs : List Obligation) (i : ℕ) → i < length xs → (x : Obligation) × (x ≡ get_or xs i x)
item_at [] i h = absurd (omega (arith, h))
item_at (x ∷ xs) zero h = (x, refl)
item_at (x ∷ xs) (suc i) h = item_at xs i (omega (arith, h))

passed : (o : Obligation) (os : List Obligation) (word : List ℕ) (n : ℕ) → bytes_eq word (decimal n) ≡ false → obligation_from n (o ∷ os) word ≡ obligation_from (n + 1) os word
passed o os word n other = rw other refl

-- the word spells no number up to this one
pub not_spelt : (os : List Obligation) (word : List ℕ) (n : ℕ) → n < length os → bytes_eq word (decimal n) ≡ false → obligation_from 0 os word ≡ obligation_from n (drop n os) word → obligation_from 0 os word ≡ obligation_from (n + 1) (drop (n + 1) os) word
not_spelt os word n below other so =
    let x = item_at os n below in
    let split : drop n os ≡ x.0 ∷ drop (n + 1) os = drop_more os n x.0 below ∙ ap (λ (y : Obligation). y ∷ drop (n + 1) os) (sym x.1) in
    so ∙ ap (λ (ys : List Obligation). obligation_from n ys word) split ∙ passed x.0 (drop (n + 1) os) word n other
