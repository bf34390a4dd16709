-- A clause more in a list of clauses.
use Rattle.std.proofs.Common.{◌≡◌, ℕ, ◌++◌, List, [], ◌∷◌, length, ap, arith, length-append}
use Rattle.sk_clause.specs.declared.lit.Lit.{Lit}
use Rattle.sk_clause.specs.Split.{parts, EndsAt}
use Rattle.sk_clause.proofs.SplitLemmas.{parts-push, EndsAt-push}

module _ (ends : List ℕ) (flat clause : List Lit) (ends' : List ℕ) (flat' : List Lit) (n : ℕ) (h : EndsAt 0 ends (length flat)) (f : flat' ≡ flat ++ clause) (l : n ≡ length flat') (e : ends' ≡ ends ++ n ∷ []) where
  pub ends_more : EndsAt 0 ends' (length flat')
  ends_more = rw (e, l) (EndsAt-push 0 ends (length flat) (length flat') h (omega (arith, ap length f, length-append flat clause)))

  pub parts_more : parts 0 ends' flat' ≡ parts 0 ends flat ++ clause ∷ []
  parts_more = rw (e, l, f) (parts-push 0 ends flat clause (length (flat ++ clause)) h (length-append flat clause))
