-- What holds of each entry of a table holds of what is looked up, and stays when an entry is put in.
use Rattle.std.proofs.Common.{◌≡◌, Bool, true, false, List, [], ◌∷◌, Some, All, refl, subst, if◌then◌else◌, cond}
use Rattle.std.specs.Map.{lookup}
use Rattle.std.proofs.lemmas.List.Elements.{All-nil, All-cons, All-head, All-tail}
use Rattle.std.proofs.lemmas.Option.{none-some, same_Some}
use Rattle.indexmap.specs.IndexMap.{insert_entry}

module _ {K X : Type 0} (P : K × X → Type 0) where
  found : (test : K → Bool) (e : K × X) (es : List (K × X)) (x : X) → All P (e ∷ es) → (b : Bool) → test e.0 ≡ b → cond b (Some e.1) (lookup test es) ≡ Some x → (lookup test es ≡ Some x → (k : K) × (test k ≡ true) × P (k, x)) → (k : K) × (test k ≡ true) × P (k, x)
  found test e es x all true t s more = (e.0, t, subst (λ y. P (e.0, y)) (same_Some e.1 x s) (All-head P e es all))
  found test e es x all false t s more = more s

  pub looked_up : (test : K → Bool) (es : List (K × X)) (x : X) → All P es → lookup test es ≡ Some x → (k : K) × (test k ≡ true) × P (k, x)
  looked_up test [] x all h = absurd (none-some x h)
  looked_up test (e ∷ es) x all h = found test e es x all (test e.0) refl h (looked_up test es x (All-tail P e es all))

  put : (eq : K → K → Bool) (k : K) (x : X) (e : K × X) (es rest : List (K × X)) → ((j : K) → eq k j ≡ true → P (j, x)) → All P (e ∷ es) → All P rest → (b : Bool) → eq k e.0 ≡ b → All P (if b then (e.0, x) ∷ es else e ∷ rest)
  put eq k x e es rest there all more true t = All-cons P (e.0, x) es (there e.0 t) (All-tail P e es all)
  put eq k x e es rest there all more false t = All-cons P e rest (All-head P e es all) more

  pub All-insert_entry : (eq : K → K → Bool) (k : K) (x : X) → P (k, x) → ((j : K) → eq k j ≡ true → P (j, x)) → (es : List (K × X)) → All P es → All P (insert_entry eq es k x)
  All-insert_entry eq k x here there [] all = All-cons P (k, x) [] here (All-nil P)
  All-insert_entry eq k x here there (e ∷ es) all =
      put eq k x e es (insert_entry eq es k x) there all (All-insert_entry eq k x here there es (All-tail P e es all)) (eq k e.0) refl
