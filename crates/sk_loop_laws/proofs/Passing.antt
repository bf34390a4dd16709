-- Lists of inputs that a program passes.
use Rattle.std.proofs.Common.{ℕ, ◌≤◌, List, [], ◌∷◌, ◌++◌, Option, Some, None, IfSome, All, arith}
use Rattle.std.proofs.lemmas.List.Elements.{All-weaker, All-append, All-push, All-nil}
use Rattle.sk_base.specs.declared.bounds.Bounds.{Bounds}
use Rattle.sk_prog.specs.declared.prog.Prog.{Prog}
use Rattle.sk_model.specs.declared.expanded.Input.{Input}
use Rattle.sk_model.specs.Meets.{Breaks, Passes, cost_on}
use Rattle.sk_loop_laws.proofs.Lists.{all_front}

module _ (prog : Prog) (bounds : Bounds) where
  abbrev Unbroken : Input → Type 0
  Unbroken input = Breaks prog bounds input → ⊥

  abbrev Within : ℕ → Input → Type 0
  Within most input = cost_on prog bounds input ≤ most

  -- no input
  pub passes_none : (limit : Option ℕ) → Passes prog bounds [] limit
  passes_none limit = record { unbroken = All-nil Unbroken; within = none limit }
    where
      none : (limit : Option ℕ) → IfSome limit (λ most. All (Within most) [])
      none None = tt
      none (Some most) = All-nil (Within most)

  -- one input more
  pub passes_push : (inputs : List Input) (input : Input) (limit : Option ℕ) → Passes prog bounds inputs limit → (Breaks prog bounds input → ⊥) → IfSome limit (λ most. cost_on prog bounds input ≤ most) → Passes prog bounds (inputs ++ input ∷ []) limit
  passes_push inputs input limit p unbroken within = record { unbroken = All-push Unbroken inputs input p.unbroken unbroken; within = more limit p.within within }
    where
      more : (limit : Option ℕ) → IfSome limit (λ most. All (Within most) inputs) → IfSome limit (λ most. Within most input) → IfSome limit (λ most. All (Within most) (inputs ++ input ∷ []))
      more None all one = tt
      more (Some most) all one = All-push (Within most) inputs input all one

  -- one list behind another
  pub passes_append : (first behind : List Input) (limit : Option ℕ) → Passes prog bounds first limit → Passes prog bounds behind limit → Passes prog bounds (first ++ behind) limit
  passes_append first behind limit p q = record { unbroken = All-append Unbroken first behind p.unbroken q.unbroken; within = both limit p.within q.within }
    where
      both : (limit : Option ℕ) → IfSome limit (λ most. All (Within most) first) → IfSome limit (λ most. All (Within most) behind) → IfSome limit (λ most. All (Within most) (first ++ behind))
      both None a b = tt
      both (Some most) a b = All-append (Within most) first behind a b

  -- the first inputs of a list
  pub passes_front : (first behind : List Input) (limit : Option ℕ) → Passes prog bounds (first ++ behind) limit → Passes prog bounds first limit
  passes_front first behind limit p = record { unbroken = all_front Unbroken first behind p.unbroken; within = front limit p.within }
    where
      front : (limit : Option ℕ) → IfSome limit (λ most. All (Within most) (first ++ behind)) → IfSome limit (λ most. All (Within most) first)
      front None all = tt
      front (Some most) all = all_front (Within most) first behind all

  -- a greater limit
  pub passes_within : (inputs : List Input) (less most : ℕ) → less ≤ most → Passes prog bounds inputs (Some less) → Passes prog bounds inputs (Some most)
  passes_within inputs less most h p = record { unbroken = p.unbroken; within = All-weaker (Within less) (Within most) (λ input low. omega (arith, h, low)) inputs p.within }

  -- and no limit
  pub passes_unlimited : (inputs : List Input) (limit : Option ℕ) → Passes prog bounds inputs limit → Passes prog bounds inputs None
  passes_unlimited inputs limit p = record { unbroken = p.unbroken; within = tt }
