-- How the parts of an expansion become those of its filling: the names that they see, and what is asked of the
-- choice.
use Rattle.std.specs.Prelude.{◌≡◌, ℕ, ℤ, List, [], ◌∷◌, map, Some, slice_get}
use Rattle.sk_base.specs.declared.bounds.Bounds.{Bounds}
use Rattle.sk_prog.specs.declared.prog.StructDef.{StructDef}
use Rattle.sk_types_rules.specs.Constants.{number_known}
use Rattle.sk_types_rules.specs.Scope.{Signature, Top, Known, Context, place_of}
use Rattle.sk_types_laws.specs.Envs.{AreDistinct}
use Rattle.sk_model.specs.declared.expanded.Site.{Site}
use Rattle.sk_model.specs.Parts.{Part}
use Rattle.sk_model.specs.Stands.{Standing}
use Rattle.sk_holes_laws.specs.Holes.{Below, AreWide}
use Rattle.sk_holes_laws.specs.Sizes.{SizedStructs, SizedFuns}

abbrev pub top_with : List StructDef → List (List ℕ) → List Signature → Top
top_with structs consts funs = record { structs = structs; consts = consts; funs = funs }

abbrev pub context_with : Bounds → List StructDef → List (List ℕ) → List Signature → List Known → Context
context_with bounds structs consts funs known = record { bounds = bounds; top = top_with structs consts funs; known = known }

abbrev pub signature_names : List Signature → List (List ℕ)
signature_names funs = map (λ (s : Signature). s.name) funs

-- Each function that stands has its name and its signature, under its new number.
pub record Carries (funs again : List Signature) (stands : ℕ → Type 0) (number : ℕ → ℕ) : Type 0 where
  pub named : (x : List ℕ) (f : ℕ) → place_of (signature_names funs) x ≡ Some f → stands f → place_of (signature_names again) x ≡ Some (number f)
  pub there : (f : ℕ) (s : Signature) → slice_get funs f ≡ Some s → stands f → slice_get again (number f) ≡ Some s

-- What is known stays known.
abbrev pub Knows : List Known → List Known → Type 0
Knows known all = (x : List ℕ) (z : ℤ) → number_known known x ≡ Some z → number_known all x ≡ Some z

-- the names of an expansion, of which some functions stand, and those of its filling
pub record Setting (bounds : Bounds) (structs : List StructDef) (consts : List (List ℕ)) (funs again : List Signature) (known all : List Known) (stands : ℕ → Type 0) (number : ℕ → ℕ) : Type 0 where
  pub wide : AreWide bounds
  pub distinct : AreDistinct (top_with structs consts funs)
  pub fields : SizedStructs structs
  pub signatures : SizedFuns funs
  pub carries : Carries funs again stands number
  pub knows : Knows known all

-- these hold of each
abbrev pub Every : {A : Type 0} → (A → Type 0) → List A → Type 0
Every Q [] = Unit {0}
Every Q (x ∷ xs) = Q x × Every Q xs

-- The values of the sites of a part are in range, and the functions that what stands in it calls stand.
abbrev pub Ready : List ℕ → (ℕ → Type 0) → List Site → Part Standing → ℕ → Type 0
Ready values stands sites standing i = Below values i sites × Every stands (standing.at i).called
