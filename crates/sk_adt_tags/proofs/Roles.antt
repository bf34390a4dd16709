-- What the fields of an algebraic struct are, by their places.
use Rattle.std.proofs.Common.{◌≡◌, ℕ, zero, suc, ◌-◌, ◌<◌, Some, refl, ap, arith}
use Rattle.sk_adt.specs.declared.algebraic.Algebraic.{Algebraic}
use Rattle.sk_adt_tags.specs.declared.role.Role.TheVariants as role
use Rattle.sk_adt_tags.specs.Tags.{variant_at, of_variant, role_in}

pub role_first : (a : Algebraic) (k : ℕ) → k ≡ 0 → role_in (Some a) k ≡ role.Tag
role_first a zero h = refl
role_first a (suc k) h = absurd (omega arith)

pub role_more : (a : Algebraic) (k : ℕ) → 0 < k → role_in (Some a) k ≡ of_variant (variant_at 0 a.variants (k - 1))
role_more a zero h = absurd (omega arith)
role_more a (suc k) h = let e : k ≡ suc k - 1 = omega arith in ap (λ n. of_variant (variant_at 0 a.variants n)) e
