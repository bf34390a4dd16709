-- Which copies a walk makes: those of generators, numbered in order, each with the body that a walk makes of its
-- generator's body, or with `assert false;`.
use Rattle.std.specs.Prelude.{◌≡◌, ◌≤◌, ◌⊎◌, ℕ, ◌+◌, true, List, [], ◌∷◌, Some, slice_get}
use Rattle.sk_base.specs.declared.span.Span.{Span}
use Rattle.sk_base.specs.declared.bounds.Bounds.{Bounds}
use Rattle.sk_prog.specs.declared.prog.Fun.{Fun}
use Rattle.sk_prog.specs.declared.prog.Prog.{Prog}
use Rattle.sk_prog.specs.declared.stmt.PStmt.{PStmt}
use Rattle.sk_model.specs.Parts.{total}
use Rattle.sk_model.specs.Expand.{is_generator, walk_stmts, calls_walk, copy_of, stub, walk_funs}

-- these functions stand one after another among all copies, from this place on
abbrev pub Standing : List Fun → ℕ → List Fun → Type 0
Standing all k [] = Unit {0}
Standing all k (c ∷ cs) = (slice_get all k ≡ Some c) × Standing all (k + 1) cs

-- what a walk of the body of a function makes where so many copies are made before it, and the copies that it
-- makes stand among all
pub record IsBody (bounds : Bounds) (funs all : List Fun) (f : Fun) (k : ℕ) (body : List PStmt) : Type 0 where
  pub fuel : ℕ
  pub left : List ℕ
  pub enough : total left ≤ fuel
  pub made : body ≡ (walk_stmts bounds (calls_walk bounds funs fuel left) f.body k).made
  pub copies : Standing all k (walk_stmts bounds (calls_walk bounds funs fuel left) f.body k).copies

-- the copy that comes after k others
pub record IsCopy (bounds : Bounds) (funs all : List Fun) (k : ℕ) (c : Fun) : Type 0 where
  pub place : ℕ
  pub generator : Fun
  pub there : slice_get funs place ≡ Some generator
  pub kind : is_generator generator.kind ≡ true
  pub body : List PStmt
  pub is : c ≡ copy_of generator (k + 1) body
  pub made : ((span : Span) × (body ≡ stub span)) ⊎ IsBody bounds funs all generator (k + 1) body

abbrev pub AreCopies : Bounds → List Fun → List Fun → ℕ → List Fun → Type 0
AreCopies bounds funs all k [] = Unit {0}
AreCopies bounds funs all k (c ∷ cs) = IsCopy bounds funs all k c × AreCopies bounds funs all (k + 1) cs

-- The copies of an expansion are such, numbered from 1.
abbrev pub CopiesAreNumbered : Type 0
CopiesAreNumbered = (prog : Prog) (bounds : Bounds) → let m = walk_funs bounds prog.funs prog.funs 0 in AreCopies bounds prog.funs m.copies 0 m.copies
