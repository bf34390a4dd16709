-- No word of algebraic types is left in a plain form, and it has at most 15 times as many tokens.
use Rattle.std.proofs.Common.{◌≡◌, Bool, true, false, List, [], ◌∷◌, refl}
use Rattle.std.specs.Prelude.{not, ◌||◌}
use Rattle.sk_tree.specs.declared.token.Token.{Token}
use Rattle.sk_types_laws.proofs.Ats.{both}
use Rattle.sk_adt_laws.specs.Plain.{is_plain}
use Rattle.sk_adt_laws.specs.Laws.{NoWordIsLeft, PlainFormsAreSmall}
use Rattle.sk_adt_laws.proofs.Read.{Makes, Old}
use Rattle.sk_adt_laws.proofs.Built.{form_few}

made : Makes is_plain
made = record { sign = λ m. refl; number = λ n. refl; keyword = λ k h. h; tag = refl; field = λ i j. refl }

old : (ts : List Token) → Old is_plain ts
old [] = refl
old (t ∷ ts) = both _ _ (go (is_plain t.kind)) (old ts)
  where
    go : (b : Bool) → (not b || b) ≡ true
    go true = refl
    go false = refl

pub no_word : NoWordIsLeft
no_word ts form e = (form_few is_plain made ts form (old ts) e).0

pub small : PlainFormsAreSmall
small ts form e = (form_few is_plain made ts form (old ts) e).1
