-- The slots of the targets that hold.
use Rattle.std.specs.Prelude.{◌≡◌, ℕ, ◌+◌, ◌<◌, ◌==◌, Bool, true, false, ◌||◌, List, [], ◌∷◌, ◌++◌, length, Option, Some, None, All, IsTrue, ⊤, if◌then◌else◌}
use Rattle.sk_dag.specs.declared.env.Env.{Env}
use Rattle.sk_dag.specs.declared.node.BoolId.{BoolId}
use Rattle.sk_dag.specs.Graph.{Graph, Grows, HasBool}
use Rattle.sk_dag.specs.Eval.{bool_value}

-- the slots of the targets whose truth value holds, in the order of the targets
abbrev pub held : (BoolId → Bool) → List (ℕ × BoolId) → List ℕ
held holds [] = []
held holds (target ∷ targets) = if holds target.1 then target.0 ∷ held holds targets else held holds targets

abbrev pub held_in : Graph → Env → List (ℕ × BoolId) → List ℕ
held_in g e = held (bool_value g e)

-- the truth values of the targets are in the graph
pub record AllIn (g : Graph) (targets : List (ℕ × BoolId)) : Type 0 where
  pub each : All (λ target. HasBool g.nodes target.1) targets

-- the slots of the targets pass the test
pub record AllPass (test : ℕ → Bool) (targets : List (ℕ × BoolId)) : Type 0 where
  pub each : All (λ target. IsTrue (test target.0)) targets

-- whether a truth value that may be missing is there and holds
abbrev pub held_by : (BoolId → Bool) → Option BoolId → Bool
held_by holds None = false
held_by holds (Some guard) = holds guard

-- these targets behind one at this slot, where it has a truth value
abbrev pub with_target : ℕ → Option BoolId → List (ℕ × BoolId) → List (ℕ × BoolId)
with_target slot None targets = targets
with_target slot (Some guard) targets = (slot, guard) ∷ targets

abbrev pub guard_in : Graph → Option BoolId → Type 0
guard_in g None = ⊤
guard_in g (Some guard) = HasBool g.nodes guard

-- behind these targets there is one more, at this slot, which holds where `a` is held if c holds, and where `b` is if not
pub record IsAdded (g : Graph) (c : BoolId) (slot : ℕ) (a b : Option BoolId) (before after : List (ℕ × BoolId)) : Type 0 where
  pub guard : BoolId
  pub there : HasBool g.nodes guard
  pub pushed : after ≡ before ++ (slot, guard) ∷ []
  pub value : (h : Graph) → Grows g h → (e : Env) → bool_value h e guard ≡ (if bool_value h e c then held_by (bool_value h e) a else held_by (bool_value h e) b)

-- behind these targets there are more, of which those of `a` hold where c does, and those of `b` where it does not
pub record AreMerged (g : Graph) (c : BoolId) (a b before after : List (ℕ × BoolId)) : Type 0 where
  pub there : AllIn g after
  pub named : (test : ℕ → Bool) → AllPass test a → AllPass test b → AllPass test before → AllPass test after
  pub held : (h : Graph) → Grows g h → (e : Env) → held_in h e after ≡ held_in h e before ++ (if bool_value h e c then held_in h e a else held_in h e b)

-- this is the next slot of two lists of targets, with the truth value that it has in each, where it stands first there
pub record IsNext (a b : List (ℕ × BoolId)) (slot : ℕ) (first second : Option BoolId) (more others : List (ℕ × BoolId)) : Type 0 where
  pub front : a ≡ with_target slot first more
  pub other : b ≡ with_target slot second others
  pub fewer : length more + length others < length a + length b

-- whether there is one
abbrev pub is_some_held : List ℕ → Bool
is_some_held [] = false
is_some_held (slot ∷ slots) = true

-- whether this is one of them
abbrev pub is_among : ℕ → List ℕ → Bool
is_among slot [] = false
is_among slot (s ∷ slots) = (s == slot) || is_among slot slots

-- whether the two have one in common
abbrev pub have_common : List ℕ → List ℕ → Bool
have_common [] others = false
have_common (slot ∷ slots) others = is_among slot others || have_common slots others
